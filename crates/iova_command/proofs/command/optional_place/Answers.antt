use Rattle.std.proofs.Common.{rules, ◌∙◌, ap, Some, w64}
use Rattle.std.proofs.Math.Facts.{to_z_pos}
use Rattle.iova_command.proofs.Builders.{narrowed}
use Rattle.iova_command.proofs.command.optional_place.Goals as goal

pub returns-clause-rule : goal.returns-clause-rule
returns-clause-rule c =
    let is = narrowed c.args.low c.args.high c.value_parser.result c.range.result _ _ c.value_parser.ensures
    (c.new-2.ensures.start ∙ to_z_pos w64 c.requires.low) (c.new-2.ensures.end ∙ to_z_pos w64 c.requires.high)
    c.requires.low c.requires.high c.range.ensures in
    let given = c.value_parser-2.ensures.given in
    let parser_is = given.1 ∙ ap (λ q. Some q) (given.2 ∙ is) in
    search rules
