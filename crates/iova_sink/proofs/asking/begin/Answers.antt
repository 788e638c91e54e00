use Rattle.iova_sink.proofs.Talks.{requests_from}
use Rattle.iova_sink.proofs.asking.begin.Goals as goal

pub returns-in-Ok : goal.returns-in-Ok
returns-in-Ok g c =
    requests_from (g.C.Channel.talk c.args.channel.now) (g.C.Channel.talk c.ready.new.channel) (g.C.Channel.talk c.send_all.new.channel) c.args.request.now c.send_all.result
    c.in-Ok.ensures c.send_all.ensures
