-- The theorems, proved: for every sound table of versions, for a table of one version, for the product's.
use Rattle.std.specs.Prelude.{refl}
use Rattle.flow.specs.Flow.{items}
use Rattle.holdings.specs.Files.{versions}
use Rattle.holdings.proofs.FileLaws.{versions_sound}
use Rattle.holdings.proofs.AdditionLaws.{shortest_accepts, shortest_least}
use Rattle.holdings.proofs.FaultLaws.{faulty_at}
use Rattle.holdings.specs.Theorems.{OfCalls, Theorem, NeverBeyond}
pub mod ListCalls
pub mod AddCalls
pub mod AddAllCalls
pub mod OneByOne
pub mod AnyOrder
pub mod OneVersion
pub mod Layout

pub theorem : Theorem
theorem vs sound = record {
  shortest = λ v R e S m w x. (
    shortest_accepts R (items x.entries) w (sound.each v R e) x.short,
    (λ m₂ b y. shortest_least R (sound.each v R e) (items x.entries) w x.short m₂ b y),
  );
  files = λ f b R ms. Layout.files vs R ms sound f b;
  faults = λ file used x p e. faulty_at vs file used x p e;
  listed = λ L s file used work bytes list r list' g. ListCalls.of_list vs L file used work bytes list s r list' g;
  added = λ file used m work bytes r file' g. AddCalls.of_add vs sound file used m r file' work bytes g;
  added_all = λ file used records work bytes list r file' list' g.
      AddAllCalls.of_add_all vs sound file used records list r file' list' work bytes g;
  one_by_one = λ file used m rest work bytes small one file₁ g list all file' list' h.
      OneByOne.one_by_one vs sound file used m rest work bytes small one file₁ g list all file' list' h;
  any_order = AnyOrder.any_order vs sound;
}

pub of_versions : OfCalls versions
of_versions = theorem versions versions_sound

pub never_beyond : NeverBeyond versions
never_beyond = OneVersion.one_version versions versions_sound refl
