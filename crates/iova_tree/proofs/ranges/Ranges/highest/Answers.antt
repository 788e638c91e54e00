use Rattle.std.proofs.Common.{◌≡◌, ◌∙◌, None, sym}
use Rattle.iova_tree.specs.Spans.{end_after}
use Rattle.iova_tree.specs.Fit.{place}
use Rattle.iova_tree.proofs.Fits.{wanted_power}
use Rattle.iova_tree.proofs.ranges.Ranges.highest.Goals as goal

pub place_in-requires : goal.place_in-requires
place_in-requires c = wanted_power _ c.requires.wanted

pub returns : goal.returns
returns c =
    let above : place (end_after c.args.start c.args.self.now) c.args.wanted.now.cap c.args.wanted.now ≡ None = rw c.end_or.ensures at (sym c.place_in.ensures ∙ c.in_default.is) in
    let found = rw c.self.view_is at c.highest.ensures in
    rw above found
