-- Each way out has its law in proofs/Loads.antt.
use Rattle.std.proofs.Common.{◌<◌, ◌^◌, arith}
use Rattle.numbers.proofs.Loads.{passed_cut, few_joined, next_joined, compact_is}
use Rattle.numbers.proofs.direct.compact.Goals as goal

pub returns-in_err-followed : goal.returns-in_err-followed
returns-in_err-followed g c = passed_cut _ _ _ _ _ _ _ c.from_residual.ensures.1 c.in_err-followed.ensures

pub overflow_mul-u : goal.overflow_mul-u
overflow_mul-u g c =
    let few : c.loop-b.u < 2 ^ 24 =
    few_joined c.args.message.now c.args.at g.row.MORE c.loop-b.b-index c.args.held c.type_inv.message c.loop-b.invariant
    (omega arith) (omega arith) in
    record { fits = omega arith }

pub overflow_add-u : goal.overflow_add-u
overflow_add-u g c =
    let few : c.loop-b.u < 2 ^ 24 =
    few_joined c.args.message.now c.args.at g.row.MORE c.loop-b.b-index c.args.held c.type_inv.message c.loop-b.invariant
    (omega arith) (omega arith) in
    record { fits = omega arith }

pub loop-b-preserved : goal.loop-b-preserved
loop-b-preserved g c = next_joined _ _ _ c.loop-b.invariant c.loop-b-test.true c.from.ensures

pub value_of-requires : goal.value_of-requires
value_of-requires g c =
    let few : c.loop-b.u < 2 ^ 24 =
    few_joined c.args.message.now c.args.at g.row.MORE c.loop-b.b-index c.args.held c.type_inv.message c.loop-b.invariant
    (omega arith) (omega arith) in
    (omega arith, omega arith)

pub returns : goal.returns
returns g c = compact_is _ _ _ _ _ _ c.in_ok-followed.ensures c.loop-b.invariant c.loop-b-test.false c.value_of.ensures
