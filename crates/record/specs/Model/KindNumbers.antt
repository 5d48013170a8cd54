-- The kinds that the code names: their numbers, and what a row of one names.
use mathlib.Core.{Option.Option, Option.none}
use Rattle.std.specs.Prelude.{◌≡◌, List, ℕ, ◌<◌, Some, None, Result, MatchResult}
use Rattle.std.specs.declared.option.Option as option
use Rattle.scalar.specs.declared.Encoding.{Encoding}
use Rattle.scalar.specs.declared.Encoding.TheVariants.{Utf8, Binary}
use Rattle.scalar.specs.Scalars.{string_at}
use Rattle.scalar.specs.Answers.{content_read}
use Rattle.record.specs.Model.Kinds.{null_kind, false_kind, true_kind, int_kind, long_kind, double_kind, date_kind}
use Rattle.record.specs.Model.Kinds.{text_kind, bytes_kind, list_kind, typed_list_kind, map_kind, typed_map_kind}
use Rattle.record.specs.Model.Kinds.{object_kind, reference_kind, class_kind, class_name_kind, field_name_kind}
use Rattle.record.specs.Model.Kinds.{type_name_kind, type_number_kind}
use Rattle.record.specs.declared.kinds.Kind.{Kind}
use Rattle.record.specs.declared.kinds.Kind.TheVariants as kind
use Rattle.record.specs.declared.kinds.NoKind.{NoKind}

abbrev pub kind_number : Kind → ℕ
kind_number kind.Null = null_kind
kind_number kind.False = false_kind
kind_number kind.True = true_kind
kind_number kind.Int = int_kind
kind_number kind.Long = long_kind
kind_number kind.Double = double_kind
kind_number kind.Date = date_kind
kind_number kind.Text = text_kind
kind_number kind.Bytes = bytes_kind
kind_number kind.List = list_kind
kind_number kind.TypedList = typed_list_kind
kind_number kind.Map = map_kind
kind_number kind.TypedMap = typed_map_kind
kind_number kind.Object = object_kind
kind_number kind.Reference = reference_kind
kind_number kind.Class = class_kind
kind_number kind.ClassName = class_name_kind
kind_number kind.FieldName = field_name_kind
kind_number kind.TypeName = type_name_kind
kind_number kind.TypeNumber = type_number_kind

-- the kind of a number, or none: those that none has are past the last one's
abbrev pub Decodes : ℕ → Result Kind NoKind → Type 0
Decodes n r = MatchResult r (λ k. kind_number k ≡ n) (λ e. type_number_kind < n)

-- how the string is held that a row of this kind names, if it names one
abbrev pub encoding_of : Kind → option.Option Encoding
encoding_of kind.Text = Some Utf8
encoding_of kind.Bytes = Some Binary
encoding_of kind.ClassName = Some Utf8
encoding_of kind.FieldName = Some Utf8
encoding_of kind.TypeName = Some Utf8
encoding_of k = None

-- the string so held at a place of a source of messages; none where none is named
abbrev pub named_by : option.Option Encoding → List ℕ → ℕ → Option (List ℕ)
named_by (Some e) source p = content_read (string_at e source p)
named_by None source p = none
