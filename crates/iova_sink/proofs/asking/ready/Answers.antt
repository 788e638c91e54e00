use Rattle.iova_sink.proofs.Talks.{readies_from_connects, readies_by_failure, readies_by_stray, readies_behind_end, readies_still}
use Rattle.std.proofs.Common.{sym}
use Rattle.iova_sink.proofs.asking.ready.Goals as goal

pub returns-then-not-is_open : goal.returns-then-not-is_open
returns-then-not-is_open g c = readies_from_connects (g.C.Channel.talk c.args.channel.now) (g.C.Channel.talk c.connect.new.self) c.connect.result c.connect.ensures

pub returns-in-Ok-Nothing : goal.returns-in-Ok-Nothing
returns-in-Ok-Nothing g c = readies_still (g.C.Channel.talk c.args.channel.now) (g.C.Channel.talk c.look.new.self) c.in-Ok-Nothing.field-0 c.in-Ok-Nothing.field-0-is c.in-Ok-Nothing.ensures (sym c.if-not-is_open.ensures)

pub returns-in-Ok-Bytes : goal.returns-in-Ok-Bytes
returns-in-Ok-Bytes g c = readies_by_stray (g.C.Channel.talk c.args.channel.now) (g.C.Channel.talk c.look.new.self) c.in-Ok-Bytes.field-0 c.in-Ok-Bytes.field-0-is c.in-Ok-Bytes.ensures

pub returns-in-Ok-End : goal.returns-in-Ok-End
returns-in-Ok-End g c =
    readies_behind_end (g.C.Channel.talk c.args.channel.now) (g.C.Channel.talk c.look.new.self) (g.C.Channel.talk c.connect-in-Ok-End.new.self) c.in-Ok-End.field-0
    c.connect-in-Ok-End.result c.in-Ok-End.field-0-is c.in-Ok-End.ensures c.connect-in-Ok-End.ensures

pub returns-in-Err : goal.returns-in-Err
returns-in-Err g c = readies_by_failure (g.C.Channel.talk c.args.channel.now) (g.C.Channel.talk c.look.new.self) c.in-Err.ensures
