use Rattle.std.proofs.Common.{ℕ, ◌∙◌, Option, Some, codes, ap, subst, rules}
use Rattle.clap.specs.Words.{found_of, rows_of}
use Rattle.iova_command.specs.Numbers.{HasOptional}
use Rattle.iova_command.proofs.Getters.{flag_read, text_read}
use Rattle.iova_command.proofs.words.asked_of_control.Goals as goal

pub returns-in-watch-default-default : goal.returns-in-watch-default-default
returns-in-watch-default-default c =
    let found = found_of c.args.found.now in (
      search rules,
      text_read found _ c.get_str.result c.in_ok-path.path c.get_str.ensures c.in_ok-path.was,
      text_read found _ c.get_str-2.result c.in_ok-word.word c.get_str-2.ensures c.in_ok-word.was ∙ ap Some c.in-watch-default-default.is-watch-0,
      c.in_ok-timeout.ensures.read,
      c.in_ok-seconds.ensures.read,
      flag_read found _ c.get_flag-is_top.result c.get_flag-is_top.ensures.value c.get_flag-is_top.ensures.other,
    )

pub returns-in_ok-control_word-in_default-None-false : goal.returns-in_ok-control_word-in_default-None-false
returns-in_ok-control_word-in_default-None-false c =
    let found = found_of c.args.found.now in
    let P : Option ℕ → Type 0 = λ o. HasOptional (rows_of found) (codes "seconds") o in (
      search rules,
      text_read found _ c.get_str.result c.in_ok-path.path c.get_str.ensures c.in_ok-path.was,
      c.in_ok-control_word-in_default-None-false.ensures,
      c.in_ok-timeout.ensures.read,
      subst P c.in_default-None-false.is-1 c.in_ok-seconds.ensures.read,
      flag_read found _ _ c.in_default-None-false.ensures.value c.in_default-None-false.ensures.other,
    )
