use Rattle.std.proofs.Common.{◌∙◌, ℕ, ◌-◌, ◌≤◌, length, take, drop, arith, length-take, length-drop}
use Rattle.iova_text.proofs.Writes.{Appends-more}
use Rattle.iova_session.proofs.link.put_all.Goals as goal

pub loop-done-preserved : goal.loop-done-preserved
loop-done-preserved g c =
    let inv = c.loop-done.invariant in
    let n = c.in_ok-done.field-0 in
    let fit : n ≤ length (take (length c.args.bytes.now - c.loop-done.done) (drop c.loop-done.done c.args.bytes.now)) =
    c.in_ok-done.ensures.bound in record {
      fits = omega (arith, length-take {A = ℕ}, length-drop {A = ℕ}, fit, inv.fits);
      sent = Appends-more (g.L.Link.sent c.args.link.now) (g.L.Link.sent c.loop-done.link) (g.L.Link.sent c.write.new.self)
          c.args.bytes.now c.loop-done.done n inv.sent c.in_ok-done.ensures.bytes;
      left = c.write.ensures.left ∙ inv.left;
      reads = c.write.ensures.reads ∙ inv.reads;
      ends = c.write.ensures.ends ∙ inv.ends;
      failures = c.in_ok-done.ensures.failures ∙ inv.failures;
    }
