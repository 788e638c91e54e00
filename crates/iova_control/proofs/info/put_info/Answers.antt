use Rattle.std.proofs.Common.{◌++◌, ◌∙◌, ap, codes}
use Rattle.iova_control.specs.Infos.{first_line, name_line, second_line, sink_kind, yes_or_no}
use Rattle.iova_control.specs.Texts.{word_line, number_line}
use Rattle.iova_control.proofs.Behind.{then_ok, is_put, is_put_ok}
use Rattle.iova_control.proofs.info.put_info.Goals as goal

pub returns : goal.returns
returns c =
    let f = c.args.facts.now in
    let version = word_line (codes "version") (first_line f.version.bytes) in
    let kit = word_line (codes "kit") (second_line f.version.bytes) in
    let granule = number_line (codes "granule") f.granule in
    let workers = number_line (codes "workers") f.workers in
    let clients = number_line (codes "clients") f.clients in
    let sink = word_line (codes "sink") (sink_kind f.has_peer) in
    let recorded = word_line (codes "recorded") (yes_or_no f.is_recorded) in
    let name = name_line f.name.bytes in
    let first = c.lines_of.ensures.first ∙ ap first_line c.as_str.ensures.value in
    let second = c.lines_of.ensures.second ∙ ap second_line c.as_str.ensures.value in
    (then_ok c.put_name.result c.args.text.now.bytes.items c.put_word.new.text.bytes.items c.put_name.new.text.bytes.items version (kit ++ (granule ++ (workers ++ (clients ++ (sink ++ (recorded ++ name)))))) (is_put _ _ _ version c.in_ok-put_word.ensures (ap (word_line (codes "version")) first))
    (then_ok c.put_name.result c.put_word.new.text.bytes.items c.put_word-2.new.text.bytes.items c.put_name.new.text.bytes.items kit (granule ++ (workers ++ (clients ++ (sink ++ (recorded ++ name))))) (is_put _ _ _ kit c.in_ok-put_word-2.ensures (ap (word_line (codes "kit")) second))
    (then_ok c.put_name.result c.put_word-2.new.text.bytes.items c.put_number.new.text.bytes.items c.put_name.new.text.bytes.items granule (workers ++ (clients ++ (sink ++ (recorded ++ name)))) c.in_ok-put_number.ensures
    (then_ok c.put_name.result c.put_number.new.text.bytes.items c.put_number-2.new.text.bytes.items c.put_name.new.text.bytes.items workers (clients ++ (sink ++ (recorded ++ name))) c.in_ok-put_number-2.ensures
    (then_ok c.put_name.result c.put_number-2.new.text.bytes.items c.put_number-3.new.text.bytes.items c.put_name.new.text.bytes.items clients (sink ++ (recorded ++ name)) c.in_ok-put_number-3.ensures
    (then_ok c.put_name.result c.put_number-3.new.text.bytes.items c.put_word-3.new.text.bytes.items c.put_name.new.text.bytes.items sink (recorded ++ name) (is_put _ _ _ sink c.in_ok-put_word-3.ensures (ap (word_line (codes "sink")) c.sink_kind.ensures))
    (then_ok c.put_name.result c.put_word-3.new.text.bytes.items c.put_word-4.new.text.bytes.items c.put_name.new.text.bytes.items recorded name (is_put _ _ _ recorded c.in_ok-put_word-4.ensures (ap (word_line (codes "recorded")) c.yes_or_no.ensures))
    (is_put_ok _ _ _ _ name c.put_name.ensures (ap name_line c.as_str-2.ensures.value)))))))))
