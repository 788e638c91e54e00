use Rattle.clap.specs.Words.{found_of}
use Rattle.iova_command.proofs.Getters.{flag_read, optional_text_read, text_read}
use Rattle.iova_command.proofs.plan.Plan.of.Goals as goal

pub returns : goal.returns
returns c = record {
  socket = text_read (found_of c.args.found.now) _ c.get_str.result c.in_ok-socket.socket c.get_str.ensures c.in_ok-socket.was;
  workers = c.in_ok-workers.ensures.read;
  clients = c.in_ok-clients.ensures.read;
  domain = c.in_ok-domain.ensures.read;
  start = c.in_ok-start.ensures.read;
  last = c.in_ok-last.ensures.read;
  sink = c.in_ok-sink.ensures;
  peer_wait = c.in_ok-peer_wait.ensures.read;
  sessions = c.in_ok-sessions.ensures.read;
  session_requests = c.in_ok-session_requests.ensures.read;
  idle = c.in_ok-idle.ensures.read;
  depot = c.in_ok-depot.ensures.read;
  strict = flag_read (found_of c.args.found.now) _ c.get_flag-strict.result c.get_flag-strict.ensures.value c.get_flag-strict.ensures.other;
  record_path = optional_text_read (found_of c.args.found.now) _ c.get_str-record.result c.get_str-record.ensures;
  record_steps = c.in_ok-record_steps.ensures.read;
  windows = c.in_ok-windows.ensures;
  regions = optional_text_read (found_of c.args.found.now) _ c.get_str-regions.result c.get_str-regions.ensures;
  sink_timeout = c.in_ok-sink_timeout.ensures.read;
  log_level = c.in_ok-log_level.ensures;
  control = optional_text_read (found_of c.args.found.now) _ c.get_str-control.result c.get_str-control.ensures;
  granule = c.in_ok-granule.ensures.read;
}
