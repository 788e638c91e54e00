use Rattle.std.proofs.Common.{List, IfOk, codes, subst}
use Rattle.clap.specs.Words.{new_app}
use Rattle.iova_command.specs.Commands.{IsCommand, Taken, with_options}
use Rattle.iova_command.proofs.Builders.{used, new_command}
use Rattle.iova_command.proofs.command.serve_command.Goals as goal

pub returns : goal.returns
returns c =
    let new_is = new_command (codes "serve") c.new.result c.about.result _ c.new.ensures.app c.new.ensures.local c.about.ensures in
    let used_is = used _ c.about.result c.override_usage-command.result _ new_is c.override_usage-command.ensures in
    subst (λ (options : List Taken). IfOk c.with_rows.result (IsCommand (with_options (new_app (codes "serve")) options))) c.serve_rows.ensures
    (c.with_rows.ensures _ used_is)
