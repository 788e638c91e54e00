use Rattle.std.proofs.Common.{◌≡◌, ◌∙◌, Option, Some, None, ap}
use Rattle.std.specs.Prelude.{IfSome}
use Rattle.clap.specs.Words.{Text, found_of}
use Rattle.iova_command.specs.declared.control_word.ControlWord.{ControlWord}
use Rattle.iova_command.specs.Controls.{IsControlOf, control_name}
use Rattle.iova_command.proofs.Getters.{text_read}
use Rattle.iova_command.proofs.words.control_word.Goals as goal

if_some : {A : Type 0} {P Q : A → Type 0} (o : Option A) → ((a : A) → P a → Q a) → IfSome o P → IfSome o Q
if_some None more has = tt
if_some (Some a) more has = more a has

word_of : (text : Text) (o : Option ControlWord) → IsControlOf text o → IfSome o (λ w. text ≡ control_name w)
word_of text None is = tt
word_of text (Some word) is = is

pub returns : goal.returns
returns c =
    if_some c.of.result (λ w is.
    text_read (found_of c.args.found.now) c.args.name.now c.get_str.result c.in_ok-get_str.field-0 c.get_str.ensures c.in_ok-get_str.was ∙ ap Some is)
    (word_of c.in_ok-get_str.field-0.now c.of.result c.of.ensures)
