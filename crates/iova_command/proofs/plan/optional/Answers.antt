use Rattle.std.proofs.Common.{◌≡◌, false, rules}
use Rattle.clap.specs.Words.{found_of}
use Rattle.iova_command.proofs.Getters.{number_read, optional_read}
use Rattle.iova_command.proofs.plan.optional.Goals as goal

pub returns-in_default-clause-read : goal.returns-in_default-clause-read
returns-in_default-clause-read c =
    let plain : c.has_plus.result ≡ false = search rules in (
      number_read (found_of c.args.found.now) c.args.option.now.name.now c.get_one.result c.in-Some.n c.in-Some.is c.get_one.ensures.none c.get_one.ensures.value,
      c.has_plus.ensures plain,
    )

pub returns-in_default-2-clause-read : goal.returns-in_default-2-clause-read
returns-in_default-2-clause-read c =
    let plain : c.has_plus.result ≡ false = search rules in
    optional_read (found_of c.args.found.now) c.args.option.now.name.now c.get_one.result c.get_one.ensures.none c.get_one.ensures.value (c.has_plus.ensures plain)
