use Rattle.std.proofs.Common.{◌≡◌, List, ℕ, length, get_or, sym, subst, arith}
use Rattle.iova_sink.proofs.Talks.{received_end, received_next, HasNone, none_more}
use Rattle.iova_sink.proofs.asking.receive_line.Goals as goal

pub returns-in-Ok-eq0-clause-takes : goal.returns-in-Ok-eq0-clause-takes
returns-in-Ok-eq0-clause-takes g c =
    received_end (g.C.Channel.talk c.args.channel.now) (g.C.Channel.talk c.loop-byte.channel) (g.C.Channel.talk c.receive.new.self) c.loop-byte.got.items c.receive.new.buffer
    c.in-Ok-eq0.field-0 c.loop-byte.invariant.received c.in-Ok-eq0.ensures.receives (omega (arith, c.in-Ok-eq0.field-0-test))

pub returns-then-byte-eq10-clause-takes : goal.returns-then-byte-eq10-clause-takes
returns-then-byte-eq10-clause-takes g c =
    let long : length c.receive.new.buffer ≡ 1 = search in
    received_next (g.C.Channel.talk c.args.channel.now) (g.C.Channel.talk c.loop-byte.channel) (g.C.Channel.talk c.receive.new.self) c.loop-byte.got.items c.push.new.self.items c.receive.new.buffer
    c.in-Ok.field-0 c.loop-byte.invariant.received c.in-Ok.ensures.receives c.push.ensures.items long (omega (arith, long, c.in-Ok.ensures.bound)) (omega (arith, c.in-Ok.field-0-test.1))

pub loop-byte-preserved : goal.loop-byte-preserved
loop-byte-preserved g c =
    let long : length c.receive.new.buffer ≡ 1 = search in
    record {
      received = received_next (g.C.Channel.talk c.args.channel.now) (g.C.Channel.talk c.loop-byte.channel) (g.C.Channel.talk c.receive.new.self) c.loop-byte.got.items c.push.new.self.items
          c.receive.new.buffer c.in-Ok.field-0 c.loop-byte.invariant.received c.in-Ok.ensures.receives c.push.ensures.items long (omega (arith, long, c.in-Ok.ensures.bound))
          (omega (arith, c.in-Ok.field-0-test.1));
      none = subst (λ (x : List ℕ). HasNone x) (sym c.push.ensures.items)
          (none_more c.loop-byte.got.items (get_or c.receive.new.buffer 0 0) c.loop-byte.invariant.none c.if-byte-eq10.false);
      short = omega (arith, c.push.ensures.len, c.loop-byte-test.true, c.len.ensures.value);
    }
