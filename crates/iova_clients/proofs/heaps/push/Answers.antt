use Rattle.std.proofs.Common.{◌≤◌, ◌+◌, length, set, length-take-le, arith, ◌∙◌}
use Rattle.std.proofs.lemmas.List.{length-set}
use Rattle.iova_clients.proofs.Ordering.{pushed_ordered, pushed_apart}
use Rattle.iova_clients.proofs.Heaping.{reordered}
use Rattle.iova_clients.proofs.heaps.push.Goals as goal

pub returns-clause-apart : goal.returns-clause-apart
returns-clause-apart c =
    let cells = c.args.cells.now in
    let n = c.args.count in
    let set_long = length-set cells n c.args.range in
    let within : n + 1 ≤ length (set cells n c.args.range) = omega (arith, set_long, c.requires.within) in
    let apart = pushed_apart cells n c.args.range c.requires.within c.requires.apart c.requires.new in
    (reordered (set cells n c.args.range) c.sift_up.new.cells (n + 1) within apart c.sift_up.ensures.permutation (c.sift_up.ensures.len ∙ length-take-le (n + 1) (set cells n c.args.range) within)).apart

pub returns-clause-more : goal.returns-clause-more
returns-clause-more c =
    let cells = c.args.cells.now in
    let n = c.args.count in
    let set_long = length-set cells n c.args.range in
    let within : n + 1 ≤ length (set cells n c.args.range) = omega (arith, set_long, c.requires.within) in
    let apart = pushed_apart cells n c.args.range c.requires.within c.requires.apart c.requires.new in
    (reordered (set cells n c.args.range) c.sift_up.new.cells (n + 1) within apart c.sift_up.ensures.permutation (c.sift_up.ensures.len ∙ length-take-le (n + 1) (set cells n c.args.range) within)).same
    ∙ pushed_ordered cells n c.args.range c.requires.within
