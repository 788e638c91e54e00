use Rattle.iova_check.specs.Marks.{stage_at}
use Rattle.iova_check.proofs.AllowedFrames.{window_allowed}
use Rattle.iova_check.proofs.allowed.Allowed.without.Goals as goal

pub returns : goal.returns
returns c = λ bounds allows f top.
    window_allowed bounds c.args.window f (stage_at c.args.self.now.stages f) (stage_at c.change_range.new.self f) (c.in_ok-change_range.ensures.below f top) (allows f top)
