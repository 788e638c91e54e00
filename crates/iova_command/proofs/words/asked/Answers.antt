use Rattle.std.proofs.Common.{map}
use Rattle.clap.specs.Words.{app_of}
use Rattle.iova_command.proofs.Apps.{asks_of_program, refused_by_program}
use Rattle.iova_command.proofs.words.asked.Goals as goal

pub returns-clause-asks : goal.returns-clause-asks
returns-clause-asks g c =
    asks_of_program (app_of c.in_ok-iovad_command.field-0) (map g.S.AsStr.text c.args.words.now) c.asked_of.result c.in_ok-iovad_command.ensures.app c.asked_of.ensures.asks

pub returns-clause-refused : goal.returns-clause-refused
returns-clause-refused g c =
    refused_by_program (app_of c.in_ok-iovad_command.field-0) (map g.S.AsStr.text c.args.words.now) c.asked_of.result c.in_ok-iovad_command.ensures.app c.asked_of.ensures.refused
