use Rattle.std.proofs.Common.{rules}
use Rattle.clap.specs.Words.{found_of}
use Rattle.iova_command.proofs.Getters.{plain_text, no_text}
use Rattle.iova_command.proofs.plan.has_plus.Goals as goal

pub returns-in-Some : goal.returns-in-Some
returns-in-Some c = λ not.
    plain_text (found_of c.args.found.now) c.args.name.now c.get_str.result c.in-Some.text c.get_str.ensures c.in-Some.is
    (search rules)

pub returns-in-None : goal.returns-in-None
returns-in-None c = λ _. no_text (found_of c.args.found.now) c.args.name.now c.get_str.result c.get_str.ensures c.in-None.is
