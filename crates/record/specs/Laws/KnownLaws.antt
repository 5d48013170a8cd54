-- What is known: the struct of the code. The laws are in proofs/Laws/KnownLaws.antt.
use Rattle.std.specs.Prelude.{◌≡◌, ℕ, ◌+◌, ◌≤◌, ltb, length, take, set}
use Rattle.flow.specs.Flow.{pick}
use Rattle.record.specs.Model.Items.{Known}
use Rattle.record.specs.Model.Answers.{base}
use Rattle.record.specs.declared.known.Known as code

-- what it says is known
abbrev pub known_in : code.Known → Known
known_in k = record { references = k.references; types = k.types; classes = take k.classes k.fields }

-- it is within the ceilings
pub record Kept (k : code.Known) : Type 0 where
  pub sized : length k.fields ≡ base.classes
  pub classes_few : k.classes ≤ base.classes
  pub types_few : k.types ≤ base.types

-- a class of n fields gets the next number, where there is room
abbrev pub defined_in : code.Known → ℕ → code.Known
defined_in k n =
    pick (ltb k.classes base.classes) (record k { fields = set k.fields k.classes n; classes = k.classes + 1 }) k
