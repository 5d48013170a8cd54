-- All the bytes that are counted are ASCII.
use Rattle.std.proofs.Common.{sym, ◌∙◌, arith, rules}
use Rattle.texts.specs.Ascii.{ascii_all}
use Rattle.texts.proofs.short_text.Goals as goal

pub returns : goal.returns
returns c = record {
  counted = search rules;
  short = omega arith;
  inside = omega arith;
  ascii = ascii_all _ _ _ (omega arith) (sym c.short_ascii.ensures ∙ c.if-not-short_ascii.false);
}
