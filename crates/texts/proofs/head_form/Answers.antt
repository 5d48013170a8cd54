-- Each arm's bytes are those of one head; the others are of none.
use Rattle.std.proofs.Common.{refl, arith, rules}
use Rattle.scalar.specs.declared.Encoding.TheVariants.{Utf8, Binary}
use Rattle.texts.proofs.Strings.{head_at_law, head_none, held}
use Rattle.texts.proofs.head_form.Goals as goal

pub returns-in-Utf8-eq83 : goal.returns-in-Utf8-eq83
returns-in-Utf8-eq83 c = head_at_law Utf8 c.in-Utf8-eq83.is-0 3 tt (omega arith) (omega arith) (held (omega arith))

pub returns-in-Utf8-eq82 : goal.returns-in-Utf8-eq82
returns-in-Utf8-eq82 c = head_at_law Utf8 c.in-Utf8-eq82.is-0 0 tt (omega arith) (omega arith) refl

pub returns-in-Utf8-0-to-31 : goal.returns-in-Utf8-0-to-31
returns-in-Utf8-0-to-31 c = head_at_law Utf8 c.in-Utf8-0-to-31.is-0 1 tt (omega arith) (omega arith) (held (omega arith))

pub returns-in-Utf8-48-to-51 : goal.returns-in-Utf8-48-to-51
returns-in-Utf8-48-to-51 c = head_at_law Utf8 c.in-Utf8-48-to-51.is-0 2 tt (omega arith) (omega arith) (held (omega arith))

pub returns-in-Binary-eq66 : goal.returns-in-Binary-eq66
returns-in-Binary-eq66 c = head_at_law Binary c.in-Binary-eq66.is-0 3 tt (omega arith) (omega arith) (held (omega arith))

pub returns-in-Binary-eq65 : goal.returns-in-Binary-eq65
returns-in-Binary-eq65 c = head_at_law Binary c.in-Binary-eq65.is-0 0 tt (omega arith) (omega arith) refl

pub returns-in-Binary-32-to-47 : goal.returns-in-Binary-32-to-47
returns-in-Binary-32-to-47 c = head_at_law Binary c.in-Binary-32-to-47.is-0 1 tt (omega arith) (omega arith) (held (omega arith))

pub returns-in-Binary-52-to-55 : goal.returns-in-Binary-52-to-55
returns-in-Binary-52-to-55 c = head_at_law Binary c.in-Binary-52-to-55.is-0 2 tt (omega arith) (omega arith) (held (omega arith))

pub returns-in_default : goal.returns-in_default
returns-in_default c = head_none Utf8 c.in_default.is-0 _ (search rules)

pub returns-in_default-2 : goal.returns-in_default-2
returns-in_default-2 c = head_none Utf8 c.in_default.is-0 _ (search rules)

pub returns-in_default-3 : goal.returns-in_default-3
returns-in_default-3 c = head_none Binary c.in_default.is-0 _ (search rules)

pub returns-in_default-4 : goal.returns-in_default-4
returns-in_default-4 c = head_none Binary c.in_default.is-0 _ (search rules)

pub returns-in_default-5 : goal.returns-in_default-5
returns-in_default-5 c = head_none Binary c.in_default.is-0 _ (search rules)
