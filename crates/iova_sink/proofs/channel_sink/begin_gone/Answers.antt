use Rattle.iova_sink.specs.Records.{gone_text}
use Rattle.iova_sink.proofs.Talks.{requests_from}
use Rattle.iova_sink.proofs.channel_sink.begin_gone.Goals as goal

pub returns-in-Ok : goal.returns-in-Ok
returns-in-Ok g c =
    requests_from (g.C.Channel.talk c.args.channel.now) (g.C.Channel.talk c.ready.new.channel) (g.C.Channel.talk c.send_gone.new.channel)
    (gone_text c.args.domain c.args.client c.args.ranges.now) c.send_gone.result c.in-Ok.ensures c.send_gone.ensures
