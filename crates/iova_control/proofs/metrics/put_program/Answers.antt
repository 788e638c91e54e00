use Rattle.std.proofs.Common.{◌++◌, ap}
use Rattle.iova_control.specs.Metrics.{build_text, name_text, sink_text}
use Rattle.iova_control.proofs.Behind.{then_ok, is_put, is_put_ok}
use Rattle.iova_control.proofs.metrics.put_program.Goals as goal

pub returns : goal.returns
returns c =
    let f = c.args.facts.now in
    let sink = sink_text f.has_peer in
    let build = build_text f.version.bytes in
    let name = name_text f.name.bytes in
    then_ok c.put_name.result c.args.text.now.bytes.items c.put_sink.new.text.bytes.items c.put_name.new.text.bytes.items sink (build ++ name) c.in_ok-put_sink.ensures
    (then_ok c.put_name.result c.put_sink.new.text.bytes.items c.put_build.new.text.bytes.items c.put_name.new.text.bytes.items build name (is_put _ _ _ build c.in_ok-put_build.ensures (ap build_text c.as_str.ensures.value))
    (is_put_ok _ _ _ _ name c.put_name.ensures (ap name_text c.as_str-2.ensures.value)))
