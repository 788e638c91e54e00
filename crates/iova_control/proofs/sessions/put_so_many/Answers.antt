use Rattle.std.proofs.Common.{arith}
use Rattle.iova_control.specs.Rows.{no_client}
use Rattle.iova_control.proofs.Behind.{row_behind}
use Rattle.iova_control.proofs.sessions.put_so_many.Goals as goal

pub loop-told-preserved : goal.loop-told-preserved
loop-told-preserved g c =
    record {
      within = omega (arith, c.loop-told-test.true);
      rows = row_behind _ _ _ _ _ no_client c.loop-told.invariant.rows c.in_ok-put_row.ensures;
    }
