use Rattle.clap.specs.Words.{new_app}
use Rattle.iova_command.proofs.Builders.{helped, new_command}
use Rattle.iova_command.proofs.command.command_of.Goals as goal

pub returns : goal.returns
returns c =
    let new_is = new_command c.args.name.now c.new.result c.about.result c.args.about c.new.ensures.app c.new.ensures.local c.about.ensures in
    c.with_rows.ensures (new_app c.args.name.now)
    (helped (new_app c.args.name.now) c.about.result c.after_help-command.result c.args.after new_is c.after_help-command.ensures)
