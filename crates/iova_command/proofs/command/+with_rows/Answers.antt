use Rattle.std.proofs.Common.{rules}
use Rattle.iova_command.proofs.Builders.{parsable_behind}
use Rattle.iova_command.proofs.command.+with_rows.Goals as goal

pub with_rows-requires : goal.with_rows-requires
with_rows-requires t c = (search rules, parsable_behind c.args.rows.now c.in-Some.more.now c.in-Some.row.now c.in-Some.ensures.cases.0 c.requires)
