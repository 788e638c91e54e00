use Rattle.std.proofs.Common.{◌-◌, ◌≤◌, length, length-take, length-drop, take, drop, arith}
use Rattle.iova_text.proofs.Writes.{Appends-more}
use Rattle.iova_text.proofs.write.write_bytes.Goals as goal

pub loop-done-preserved : goal.loop-done-preserved
loop-done-preserved g c =
    let is = c.in_ok-done.ensures.ok.0 in
    let bytes = c.args.bytes.now in
    let done = c.loop-done.done in
    let fit : c.in_ok-done.field-0 ≤ length (take (length bytes - done) (drop done bytes)) = rw is at c.write.ensures.bound in
    let more = rw is at c.write.ensures.bytes in
    record {
      within = omega (arith, length-take (length bytes - done) (drop done bytes), length-drop done bytes, fit, c.loop-done.invariant.within);
      written = Appends-more (g.W.Write.contents c.args.writer.now) (g.W.Write.contents c.loop-done.writer) (g.W.Write.contents c.write.new.self)
          bytes done c.in_ok-done.field-0 c.loop-done.invariant.written more;
    }
