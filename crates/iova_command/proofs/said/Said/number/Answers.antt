use Rattle.std.proofs.Common.{List, subst}
use Rattle.clap.specs.Words.{Row, found_of}
use Rattle.iova_command.specs.Numbers.{ParsesOptional}
use Rattle.iova_command.proofs.Getters.{parses_optional}
use Rattle.iova_command.proofs.said.Said.number.Goals as goal

pub returns : goal.returns
returns c =
    subst (λ (rows : List Row). ParsesOptional rows c.args.name.now c.get_one.result) c.self.view_is
    (parses_optional (found_of c.self.inside.found) c.args.name.now c.get_one.result c.get_one.ensures.none c.get_one.ensures.value)
