use Rattle.std.proofs.Common.{◌≡◌, ◌∙◌, true, refl, sym}
use Rattle.clap.specs.Words.{Text, found_of}
use Rattle.iova_command.specs.Labels.{is_label}
use Rattle.iova_command.proofs.Getters.{no_text_has, text_has, text_read}
use Rattle.iova_command.proofs.label.has_label.Goals as goal

pub returns-in-Some : goal.returns-in-Some
returns-in-Some c = (
  λ is_true.
      text_has (λ (x : Text). is_label x ≡ true) (found_of c.args.found.now) c.args.name.now c.get_str.result c.in-Some.text c.get_str.ensures c.in-Some.is
      (sym c.is_label.ensures ∙ is_true),
  λ has. c.is_label.ensures ∙ has c.in-Some.text.now (text_read (found_of c.args.found.now) c.args.name.now c.get_str.result c.in-Some.text c.get_str.ensures c.in-Some.is),
)

pub returns-in-None : goal.returns-in-None
returns-in-None c = (
  λ _. no_text_has (λ (x : Text). is_label x ≡ true) (found_of c.args.found.now) c.args.name.now c.get_str.result c.get_str.ensures c.in-None.is,
  λ _. refl,
)
