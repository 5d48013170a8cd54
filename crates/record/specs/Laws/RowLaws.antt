-- Rows: the struct of the code. The laws are in proofs/Laws/RowLaws.antt.
use Rattle.record.specs.Model.Rows.{Row, row}
use Rattle.record.specs.declared.Row as code

-- the row that is held in the code's struct
abbrev pub row_of : code.Row → Row
row_of r = row r.kind r.place r.first r.second r.after
