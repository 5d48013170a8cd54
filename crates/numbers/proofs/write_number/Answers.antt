-- There is no form, or it has no room, or it is stored.
use Rattle.numbers.proofs.Writing.{told_none, told_over, told_stored}
use Rattle.numbers.proofs.write_number.Goals as goal

pub returns-in_err-size : goal.returns-in_err-size
returns-in_err-size c =
    let e = c.in_err-size.ensures in
    let put = c.put_number.ensures in
    (told_none _ _ _ _ _ put _ _ c.from_residual.ensures.1 e.value e.ok_part, put.1)

pub returns-in_err-room : goal.returns-in_err-room
returns-in_err-room c =
    let put = c.put_number.ensures in (
      told_over _ _ _ _ _ put _ c.in_ok-size.ensures.ok_part _ _ c.from_residual-in_err-room.ensures.1
          c.in_err-room.ensures,
      put.1,
    )

pub returns : goal.returns
returns c =
    let put = c.put_number.ensures in
    (told_stored _ _ _ _ _ put _ c.in_ok-size.ensures.ok_part c.in_ok-room.ensures, put.1)
