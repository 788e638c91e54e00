use Rattle.iova_sink.specs.Records.{done_line, fail_line}
use Rattle.iova_sink.proofs.Talks.{answers_from}
use Rattle.iova_sink.proofs.asking.tell.Goals as goal

pub returns : goal.returns
returns g c =
    answers_from (g.C.Channel.talk c.args.channel.now) (g.C.Channel.talk c.begin-sent.new.channel) (g.C.Channel.talk c.conclude.new.channel) c.args.request.now
    (done_line c.args.word.now c.args.number) (fail_line c.args.word.now c.args.number) c.begin-sent.result c.conclude.result c.begin-sent.ensures c.conclude.ensures
