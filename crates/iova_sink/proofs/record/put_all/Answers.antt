use Rattle.std.proofs.Common.{◌-◌, ◌∙◌, ◌≤◌, length, length-take, length-drop, take, drop, arith}
use Rattle.iova_sink.proofs.Records.{Appends-more}
use Rattle.iova_sink.proofs.record.put_all.Goals as goal

pub loop-done-preserved : goal.loop-done-preserved
loop-done-preserved g c =
    let is = c.in_ok-done.was in
    let bytes = c.args.bytes.now in
    let done = c.loop-done.done in
    let e = c.in_ok-done.ensures in
    let fit : c.in_ok-done.field-0 ≤ length (take (length bytes - done) (drop done bytes)) = e.bound in
    record {
      within = omega (arith, length-take (length bytes - done) (drop done bytes), length-drop done bytes, fit, c.loop-done.invariant.within);
      taken = Appends-more (g.D.Device.taken c.args.device.now) (g.D.Device.taken c.loop-done.device) (g.D.Device.taken c.put.new.self)
          bytes done c.in_ok-done.field-0 c.loop-done.invariant.taken e.bytes;
      sound = e.failures ∙ c.loop-done.invariant.sound;
    }
