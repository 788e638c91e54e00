use Rattle.clap.specs.Words.{found_of}
use Rattle.iova_command.proofs.Getters.{flag_read, optional_text_read, text_read}
use Rattle.iova_command.proofs.check_plan.CheckPlan.of.Goals as goal

pub returns : goal.returns
returns c = record {
  path = text_read (found_of c.args.found.now) _ c.get_str.result c.in_ok-path.path c.get_str.ensures c.in_ok-path.was;
  quiet = flag_read (found_of c.args.found.now) _ c.get_flag-quiet.result c.get_flag-quiet.ensures.value c.get_flag-quiet.ensures.other;
  first = c.in_ok-first.ensures.read;
  last = c.in_ok-last.ensures.read;
  regions = optional_text_read (found_of c.args.found.now) _ c.get_str-regions.result c.get_str-regions.ensures;
  ftrace = flag_read (found_of c.args.found.now) _ c.get_flag-ftrace.result c.get_flag-ftrace.ensures.value c.get_flag-ftrace.ensures.other;
  did = c.in_ok-did.ensures.read;
}
