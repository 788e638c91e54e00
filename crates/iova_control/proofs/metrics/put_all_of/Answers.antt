use Rattle.iova_control.proofs.MetricTexts.{metrics_behind}
use Rattle.iova_control.proofs.metrics.put_all_of.Goals as goal

pub returns : goal.returns
returns c =
    let daemon = c.in_ok-put_daemon.ensures in
    let refusals = c.in_ok-put_refusals.ensures in
    metrics_behind _ c.args.facts.now c.args.numbers c.args.metrics daemon.0 refusals.0 _ _ _ _ _ _ c.in_ok-put_domain.ensures daemon.1 c.in_ok-put_oldest_wait.ensures refusals.1 refusals.2
    c.put_program.ensures
