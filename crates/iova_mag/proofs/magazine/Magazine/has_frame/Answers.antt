use Rattle.std.proofs.Common.{◌≡◌, ◌*◌, ◌%◌, ◌^◌, ◌∙◌, arith}
use Rattle.std.proofs.lemmas.Grind.{common_steps}
use Rattle.iova_mag.proofs.Found.{any-of_order}
use Rattle.iova_mag.proofs.magazine.Magazine.has_frame.Goals as goal

pub returns : goal.returns
returns c =
    let size : 1 * 2 ^ c.args.order % 2 ^ 64 ≡ 2 ^ c.args.order = grind (arith, common_steps) in
    rw (← c.self.view_is) (c.begins_around.ensures ∙ rw c.as_slice.ensures.value (any-of_order c.args.frame c.args.order _ c.self.inside.entries.items size))
