use Rattle.std.proofs.Common.{◌++◌, codes}
use Rattle.iova_control.specs.Metrics.{kind_text, place_line}
use Rattle.iova_control.proofs.Behind.{then_ok}
use Rattle.iova_control.proofs.metrics.put_places.Goals as goal

pub returns : goal.returns
returns c =
    let n = c.args.numbers in
    let kind = kind_text (codes "iovad_frames") (codes "gauge") (codes "Page frames of the domain, by place.") in
    let free = place_line (codes "free") n.free in
    let reserved = place_line (codes "reserved") n.reserved in
    let client = place_line (codes "client") n.client in
    let magazine = place_line (codes "magazine") n.magazine in
    let depot = place_line (codes "depot") n.depot in
    let ring = place_line (codes "ring") n.ring in
    (then_ok c.put_place-6.result c.args.text.now.bytes.items c.put_kind.new.text.bytes.items c.put_place-6.new.text.bytes.items kind (free ++ (reserved ++ (client ++ (magazine ++ (depot ++ ring))))) c.in_ok-put_kind.ensures
    (then_ok c.put_place-6.result c.put_kind.new.text.bytes.items c.put_place.new.text.bytes.items c.put_place-6.new.text.bytes.items free (reserved ++ (client ++ (magazine ++ (depot ++ ring)))) c.in_ok-put_place.ensures
    (then_ok c.put_place-6.result c.put_place.new.text.bytes.items c.put_place-2.new.text.bytes.items c.put_place-6.new.text.bytes.items reserved (client ++ (magazine ++ (depot ++ ring))) c.in_ok-put_place-2.ensures
    (then_ok c.put_place-6.result c.put_place-2.new.text.bytes.items c.put_place-3.new.text.bytes.items c.put_place-6.new.text.bytes.items client (magazine ++ (depot ++ ring)) c.in_ok-put_place-3.ensures
    (then_ok c.put_place-6.result c.put_place-3.new.text.bytes.items c.put_place-4.new.text.bytes.items c.put_place-6.new.text.bytes.items magazine (depot ++ ring) c.in_ok-put_place-4.ensures
    (then_ok c.put_place-6.result c.put_place-4.new.text.bytes.items c.put_place-5.new.text.bytes.items c.put_place-6.new.text.bytes.items depot ring c.in_ok-put_place-5.ensures
    c.put_place-6.ensures))))))
