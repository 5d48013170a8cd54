-- The kinds of rows, each once: the numbers of `enum hessian_kind` in include/hessian.h, and of the code's constants in
-- src/kinds.rt. A single value's kind is given by its sort (scalar's `sort_kind`), which proofs/Laws/RowLaws.antt holds to these.
use Rattle.std.specs.Prelude.{ℕ}

abbrev pub null_kind : ℕ
null_kind = 0

abbrev pub false_kind : ℕ
false_kind = 1

abbrev pub true_kind : ℕ
true_kind = 2

abbrev pub int_kind : ℕ
int_kind = 3

abbrev pub long_kind : ℕ
long_kind = 4

abbrev pub double_kind : ℕ
double_kind = 5

abbrev pub date_kind : ℕ
date_kind = 6

abbrev pub text_kind : ℕ
text_kind = 7

abbrev pub bytes_kind : ℕ
bytes_kind = 8

abbrev pub list_kind : ℕ
list_kind = 9

abbrev pub typed_list_kind : ℕ
typed_list_kind = 10

abbrev pub map_kind : ℕ
map_kind = 11

abbrev pub typed_map_kind : ℕ
typed_map_kind = 12

abbrev pub object_kind : ℕ
object_kind = 13

abbrev pub reference_kind : ℕ
reference_kind = 14

abbrev pub class_kind : ℕ  -- a class definition
class_kind = 15

abbrev pub class_name_kind : ℕ
class_name_kind = 16

abbrev pub field_name_kind : ℕ
field_name_kind = 17

abbrev pub type_name_kind : ℕ  -- a type written out
type_name_kind = 18

abbrev pub type_number_kind : ℕ  -- a type by number
type_number_kind = 19
