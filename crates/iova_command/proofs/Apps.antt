-- What is known of a command that is read as the program's.
use Rattle.std.proofs.Common.{◌≡◌, ◌∙◌, true, List, Result, IfOk, refl, ap, subst}
use Rattle.clap.specs.Words.{App, Text, fault_of, is_simple, is_simple_and_free, subcommand_of}
use Rattle.iova_command.specs.Asks.{AsksFor}
use Rattle.iova_command.specs.Commands.{iovad_app}
use Rattle.iova_command.specs.Refuses.{RefusesBy}
use Rattle.iova_command.specs.declared.asked.Asked.{Asked}
use Rattle.iova_command.specs.declared.usage.WordsFault.{WordsFault}

pub asks_of_program : (app : App) (words : List Text) (r : Result Asked WordsFault) → app ≡ iovad_app
    → (is_simple app ≡ true → IfOk r (λ a. AsksFor (subcommand_of app words) a)) → IfOk r (λ a. AsksFor (subcommand_of iovad_app words) a)
asks_of_program app words r is asks =
    let simple : is_simple iovad_app ≡ true = refl in
    subst (λ (a : App). IfOk r (λ x. AsksFor (subcommand_of a words) x)) is (asks (ap is_simple is ∙ simple))

pub refused_by_program : (app : App) (words : List Text) (r : Result Asked WordsFault) → app ≡ iovad_app
    → (is_simple_and_free app ≡ true → RefusesBy (fault_of app words) r) → RefusesBy (fault_of iovad_app words) r
refused_by_program app words r is refused =
    let free : is_simple_and_free iovad_app ≡ true = refl in
    subst (λ (a : App). RefusesBy (fault_of a words) r) is (refused (ap is_simple_and_free is ∙ free))
