use Rattle.std.proofs.Common.{◌≡◌, false, rules}
use Rattle.iova_command.proofs.Getters.{number_read}
use Rattle.clap.specs.Words.{found_of}
use Rattle.iova_command.proofs.plan.number.Goals as goal

pub returns-clause-read : goal.returns-clause-read
returns-clause-read c =
    let plain : c.has_plus.result ≡ false = search rules in (
      number_read (found_of c.args.found.now) c.args.option.now.name.now c.get_one.result c.in_ok-n.n c.in_ok-n.was c.get_one.ensures.none c.get_one.ensures.value,
      c.has_plus.ensures plain,
    )
