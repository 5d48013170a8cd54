-- What is read of a value by its first byte: a term. The laws are in proofs/ForReader/ReadValues.antt.
use Rattle.std.proofs.Math.Option.{Option, none, some}
use Prim.Native.Nat.{ℕ}
use Rattle.record.specs.declared.Group.{Group}
use Rattle.record.specs.declared.Group.TheVariants.{Counted, Fields, Open, Pairs}
use Rattle.record.specs.Model.Items.{UntypedList, TypedList, UntypedMap, TypedMap, Object, Item}
use Rattle.record.specs.Model.Items.{Val}

-- the item of what holds values: the group, the type if any, and how many
abbrev pub heading : Group → Option ℕ → ℕ → Item
heading (Counted n) none k = Val (UntypedList k)
heading (Counted n) (some t) k = Val (TypedList k t)
heading (Fields j n) t k = Val (Object j k)
heading Open none k = Val (UntypedList k)
heading Open (some t) k = Val (TypedList k t)
heading Pairs none k = Val (UntypedMap k)
heading Pairs (some t) k = Val (TypedMap k t)
