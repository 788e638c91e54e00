use Rattle.std.proofs.Common.{◌∙◌, Option, Some, None, refl, sym, ap, subst}
use Rattle.std.specs.Prelude.{IfSome, option_map}
use Rattle.std.specs.Borrow.{Bor}
use Rattle.clap.specs.Words.{found_of, Text}
use Rattle.log.specs.declared.level.LevelFilter.{LevelFilter}
use Rattle.log.specs.declared.level.LevelFilter.TheVariants.{Warn}
use Rattle.iova_command.specs.Levels.{IsChoiceOf, IsLevelOf}
use Rattle.iova_command.proofs.Getters.{optional_text_read}
use Rattle.iova_command.proofs.plan.level.Goals as goal

choice_of : (text : Text) (o : Option LevelFilter) → IsChoiceOf text o → IfSome o (λ l. IsLevelOf (Some text) l)
choice_of text None is = tt
choice_of text (Some level) is = is

pub returns-in-None : goal.returns-in-None
returns-in-None c =
    subst (λ (o : Option Text). IsLevelOf o Warn)
    (sym (optional_text_read (found_of c.args.found.now) c.args.name.now c.get_str.result c.get_str.ensures ∙ ap (option_map (λ (b : Bor Text). b.now)) c.in-None.is)) refl

pub returns-in-Some : goal.returns-in-Some
returns-in-Some c =
    subst (λ (o : Option Text). IfSome c.level_of.result (λ l. IsLevelOf o l))
    (sym (optional_text_read (found_of c.args.found.now) c.args.name.now c.get_str.result c.get_str.ensures ∙ ap (option_map (λ (b : Bor Text). b.now)) c.in-Some.is)) (choice_of c.in-Some.text.now c.level_of.result c.level_of.ensures)
