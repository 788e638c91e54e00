use Rattle.std.proofs.Common.{◌-◌, ◌≤◌, length, length-take, length-drop, take, drop, arith}
use Rattle.iova_sink.proofs.Talks.{sends_more, sends_cut}
use Rattle.iova_sink.proofs.asking.send_all.Goals as goal

pub loop-done-preserved : goal.loop-done-preserved
loop-done-preserved g c =
    let bytes = c.args.bytes.now in
    let done = c.loop-done.done in
    let fit : c.in-Ok.n ≤ length (take (length bytes - done) (drop done bytes)) = c.in-Ok.ensures.bound in
    record {
      within = omega (arith, length-take (length bytes - done) (drop done bytes), length-drop done bytes, fit, c.loop-done.invariant.within);
      sent = sends_more (g.C.Channel.talk c.args.channel.now) (g.C.Channel.talk c.loop-done.channel) (g.C.Channel.talk c.send.new.self)
          bytes done c.in-Ok.n c.loop-done.invariant.sent c.in-Ok.ensures.sends;
    }

pub returns-in-Err : goal.returns-in-Err
returns-in-Err g c =
    sends_cut (g.C.Channel.talk c.args.channel.now) (g.C.Channel.talk c.loop-done.channel) (g.C.Channel.talk c.send.new.self)
    c.args.bytes.now c.loop-done.done c.loop-done.invariant.sent c.in-Err.ensures.sends
