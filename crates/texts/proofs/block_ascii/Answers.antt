-- All the words are ASCII.
use Rattle.std.proofs.Common.{◌∙◌, rules, tests, true}
use Rattle.std.specs.Prelude.{◌&&◌}
use Rattle.std.proofs.lemmas.Iterator.{YieldsList-from_slice}
use Rattle.std.proofs.lemmas.Iterator.Consumers.{fold_from_yields_List}
use Rattle.texts.specs.Ascii.{all_ascii, chunks_all, fold_all}
use Rattle.texts.proofs.block_ascii.Goals as goal

pub returns : goal.returns
returns c =
    fold_from_yields_List _ (λ t w. t && all_ascii w) true _ c.fold.ensures.ran
    (YieldsList-from_slice c.as_chunks.result.0.now (cc)) (λ t x b q k. search (rules, tests))
    ∙ fold_all c.as_chunks.result.0.now true
    ∙ chunks_all 8 _ c.as_chunks.ensures.front (search rules)
