use Rattle.std.proofs.Common.{◌≤◌, arith}
use Rattle.std.proofs.lemmas.Bool.Decides.{nat_tests}
use Rattle.iova_model.specs.Clients.{share_of}
use Rattle.iova_keep.specs.Views.{Covers}
use Rattle.iova_record.proofs.Covering.{queued_within, more_covers}
use Rattle.iova_record.proofs.recorded_domain.RecordedDomain.share_is_within.Goals as goal

pub returns-then-share-held-2 : goal.returns-then-share-held-2
returns-then-share-held-2 c = λ e st r named queued.
    let share = c.share_of-share.result in
    let sums : share.sum_lo ≤ c.args.held.sum_lo = grind (arith, nat_tests) in
    let here : Covers (share_of c.args.worker c.self.inside.domain.clients) r = queued_within c.self.inside.domain st c.args.worker r named (rw (← c.self.view_is) at queued) in
    more_covers c.args.held share r c.if-share-held-2.true.0 c.if-share-held-2.true.1 sums (rw c.share_of-share.ensures here)
