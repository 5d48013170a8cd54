-- Terms of entries. The laws are in proofs/EntryLaws.antt.
use Rattle.std.specs.Prelude.{List, map, ℕ}
use Rattle.std.proofs.Math.Option.{Option, some}
use Rattle.holdings.specs.Terms.{Messages}

-- the entries that bytes consist of: a message, or none where an entry is cut
abbrev pub Entries : Type 0
Entries = List (Option (List ℕ))

-- whole entries, one for each message
abbrev pub wholes : Messages → Entries
wholes ms = map {B = Option (List ℕ)} some ms
