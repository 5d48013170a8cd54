-- Each way out has its law in proofs/ThousandthLaws.antt.
use Rattle.reader.proofs.ThousandthLaws.{first_byte, first_cut, first_five, first_other}
use Rattle.record.specs.Laws.RowLaws.{row_of}
use Rattle.std.proofs.Common.{arith}
use Rattle.reader.proofs.thousandths.first_of.Goals as goal

pub returns-then-row : goal.returns-then-row
returns-then-row c = first_other c.args.message.now (row_of c.args.row) c.if-row.true

pub returns-then-len-lt5 : goal.returns-then-len-lt5
returns-then-len-lt5 c = first_cut c.args.message.now (row_of c.args.row) (omega arith)

pub returns-then-len-place : goal.returns-then-len-place
returns-then-len-place c = first_cut c.args.message.now (row_of c.args.row) (omega arith)

pub returns-then-message-at-ne95 : goal.returns-then-message-at-ne95
returns-then-message-at-ne95 c = first_byte c.args.message.now (row_of c.args.row) c.if-message-at-ne95.true

pub returns : goal.returns
returns c = first_five c.args.message.now (row_of c.args.row) c.if-row.false (omega arith) c.if-message-at-ne95.false _ _
    c.four_at.ensures.0 c.thousandths.ensures
