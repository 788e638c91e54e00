use Rattle.std.proofs.Common.{codes}
use Rattle.iova_command.specs.Commands.{ask_app, check_app, control_app, replay_app, serve_app}
use Rattle.iova_command.proofs.Builders.{new_command, told_more}
use Rattle.iova_command.proofs.command.iovad_command.Goals as goal

pub returns : goal.returns
returns c =
    let new_is = new_command (codes "iovad") c.new.result c.about.result _ c.new.ensures.app c.new.ensures.local c.about.ensures in
    let told_is = told_more _ c.about.result c.version.result c.override_usage.result c.after_help-command.result _ _ _ new_is c.version.ensures c.override_usage.ensures c.after_help-command.ensures in
    let replay = c.with_subcommand-command.ensures _ replay_app told_is c.replay_command.ensures in
    let serve = c.with_subcommand-command-2.ensures _ serve_app replay c.serve_command.ensures in
    let ask = c.with_subcommand-command-3.ensures _ ask_app serve c.ask_command.ensures in
    let check = c.with_subcommand-command-4.ensures _ check_app ask c.check_command.ensures in
    c.with_subcommand.ensures _ control_app check c.control_command.ensures
