use Rattle.iova_planned.proofs.Reserving.{reserved_none, reserved_rest}
use Rattle.iova_planned.proofs.domain.+reserve_all.Goals as goal

pub returns-in_default-clause-reserved : goal.returns-in_default-clause-reserved
returns-in_default-clause-reserved g t c = reserved_none c.args.windows.now c.args.book.now c.in_default.ensures.cases

pub returns-clause-reserved : goal.returns-clause-reserved
returns-clause-reserved g t c =
    rw c.in-Some.ensures.cases.0
    (reserved_rest c.reserve_all.result c.in-Some.window.now c.in-Some.more.now c.args.book.now c.reserve.new.book c.reserve_all.new.book c.in_ok-reserve.ensures.reserved c.reserve_all.ensures.reserved)
