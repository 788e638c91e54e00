use Rattle.std.proofs.Common.{◌<◌, length, [], ap, arith}
use Rattle.std.proofs.lemmas.List.{get_or-take, length-take-le, length-drop}
use Rattle.iova_cache.proofs.Tables.{roomy_around, the_rest}
use Rattle.iova_cache.proofs.table.roomy_from.Goals as goal

pub returns-clause-found : goal.returns-clause-found
returns-clause-found c =
    let bs = c.args.buckets.now in
    let h = c.args.home in
    let long = length-drop h bs in
    let short = length-take-le h bs (omega (arith, c.requires.within)) in
    let lt : c.roomy.result < h = roomy_around bs h c.roomy.result c.roomy-onward.result c.requires.within c.requires.room
    (omega (arith, long, c.if-onward-buckets.false)) (omega (arith, long, c.if-onward-buckets.false, c.roomy-onward.ensures.within, ap length (the_rest h bs))) (rw (the_rest h bs) at c.roomy-onward.ensures.full)
    (omega (arith, short, c.roomy.ensures.within)) c.roomy.ensures.full in
    let here = c.roomy.ensures.found (omega (arith, short, lt)) in
    rw (get_or-take h bs c.roomy.result [] lt) at here
