use Rattle.std.proofs.Common.{rules}
use Rattle.clap.specs.Words.{found_of}
use Rattle.iova_command.proofs.Getters.{text_read, optional_text_read, flag_read}
use Rattle.iova_command.proofs.words.asked_of_command.Goals as goal

pub returns-in_ok-optional-in-ask : goal.returns-in_ok-optional-in-ask
returns-in_ok-optional-in-ask c = (
  search rules,
  text_read (found_of c.args.found.now) _ c.get_str.result c.in_ok-get_str-in-ask.field-0 c.get_str.ensures c.in_ok-get_str-in-ask.was,
  c.in_ok-optional-in-ask.ensures.read,
)

pub returns-in_ok-get_str-in_default : goal.returns-in_ok-get_str-in_default
returns-in_ok-get_str-in_default c = (
  search rules,
  search rules,
  search rules,
  search rules,
  text_read (found_of c.args.found.now) _ c.get_str-in_default.result c.in_ok-get_str-in_default.field-0 c.get_str-in_default.ensures c.in_ok-get_str-in_default.was,
  flag_read (found_of c.args.found.now) _ c.get_flag.result c.get_flag.ensures.value c.get_flag.ensures.other,
  optional_text_read (found_of c.args.found.now) _ c.get_str-in_default-2.result c.get_str-in_default-2.ensures,
)
