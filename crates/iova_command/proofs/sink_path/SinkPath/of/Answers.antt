use Rattle.std.proofs.Common.{◌∙◌, ap}
use Rattle.std.specs.Option.{option_map}
use Rattle.clap.specs.Words.{found_of}
use Rattle.iova_command.proofs.Getters.{optional_text_read, text_read}
use Rattle.iova_command.proofs.sink_path.SinkPath.of.Goals as goal

pub returns-in-Some-None : goal.returns-in-Some-None
returns-in-Some-None c = (
  text_read (found_of c.args.found.now) _ c.get_str.result c.in-Some-None.path c.get_str.ensures c.in-Some-None.is-0,
  optional_text_read (found_of c.args.found.now) _ c.get_str-2.result c.get_str-2.ensures ∙ ap (option_map (λ b. b.now)) c.in-Some-None.is-1,
)

pub returns-in-None-Some : goal.returns-in-None-Some
returns-in-None-Some c = (
  optional_text_read (found_of c.args.found.now) _ c.get_str.result c.get_str.ensures ∙ ap (option_map (λ b. b.now)) c.in-None-Some.is-0,
  text_read (found_of c.args.found.now) _ c.get_str-2.result c.in-None-Some.path c.get_str-2.ensures c.in-None-Some.is-1,
)
