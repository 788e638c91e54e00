use Rattle.std.proofs.Common.{arith}
use Rattle.iova_control.proofs.Behind.{row_behind}
use Rattle.iova_control.proofs.sessions.put_clients.Goals.{then-told-sessions+then-not-waits+in_ok-put_row, else-told-sessions}
use Rattle.iova_control.proofs.sessions.put_clients.Goals as goal

-- a row more, or none
pub loop-preserved : goal.loop-preserved
loop-preserved g c =
    elim c.if-told-sessions.branch [
      | then-told-sessions+then-not-waits+in_ok-put_row w ↦ record {
        within = rw w.told-is (omega (arith, w.if-told-sessions.true));
        rows =
            rw w.told-is
            (rw w.text-is (row_behind _ _ _ _ _ (record { client = c.in-Some.client; ranges = w.deref.result.now }) c.loop.invariant.rows w.in_ok-put_row.ensures));
      }
      | else-told-sessions w ↦ record { within = rw w.told-is c.loop.invariant.within; rows = rw w.told-is (rw w.text-is c.loop.invariant.rows) }
    ]
