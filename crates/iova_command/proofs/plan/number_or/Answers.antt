use Rattle.clap.specs.Words.{found_of}
use Rattle.iova_command.specs.Numbers.{default_of}
use Rattle.iova_command.proofs.Getters.{left_out}
use Rattle.iova_command.proofs.plan.number_or.Goals as goal

pub returns-in-None-clause-read : goal.returns-in-None-clause-read
returns-in-None-clause-read c =
    rw c.default_of.ensures
    (left_out (found_of c.args.found.now) c.args.option.now.name.now (default_of c.args.option.now.takes) c.get_str.result c.get_str.ensures c.in-None.is)
