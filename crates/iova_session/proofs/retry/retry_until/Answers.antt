use Rattle.std.proofs.Common.{◌≡◌, ◌≤◌, ◌<◌, refl, ◌∙◌, arith, take, get_or, append-nil}
use Rattle.std.specs.Prelude.{[], ◌∷◌, length}
use Rattle.std.proofs.lemmas.Grind.{common_steps}
use Rattle.iova_session.proofs.Retrying.{one_kept, one_gone, kept_there, kept_more, tried_first, tried_all}
use Rattle.iova_session.proofs.retry.retry_until.Goals as goal
use Rattle.iova_session.proofs.retry.retry_until.Goals.{then-tried, else-tried}

pub trying-preserved : goal.trying-preserved
trying-preserved g c =
    let i = c.trying.invariant in
    let n = c.try_to_end-tried.ensures in
    let id = c.index-id.result.now in
    let old = c.args.post.now.waiting.items in
    let lt : c.trying.at < length old = let t = c.trying-test.true in let e = c.len-at-end.ensures in grind (arith, common_steps) in
    let there : id ≡ get_or old c.trying.at id = kept_there old c.trying.post.waiting.items c.trying.at c.trying.left id lt c.index-id.ensures i.tried in
    let does = rw i.same at n.domain in
    elim c.if-tried.branch [
      | then-tried w ↦
          let yes = w.if-tried.true in
          let next = one_kept old c.trying.post.waiting.items c.trying.at c.trying.left id lt c.index-id.ensures i.tried in
          let seat : c.if-tried.post.seat ≡ c.try_to_end-tried.new.seat = rw w.post-is refl in
          record {
            tried = rw (w.post-is, w.left-is) next;
            same = n.same ∙ i.same;
            place = rw seat (record { worker = n.place.worker ∙ i.place.worker; parts = n.place.parts ∙ i.place.parts; tally = omega (arith, n.place.tally, i.place.tally) });
            room = λ goes. rw w.post-is (n.room goes);
            goes_on = λ more left now o k.
                let first = tried_first _ _ old c.trying.at id c.try_to_end-tried.result more c.trying.post.seat c.try_to_end-tried.new.seat left _ _ now _ _ o lt there n.place.worker does (rw seat at k) in
                let kept = rw yes at first in
                let before = i.goes_on (id ∷ more) left now o kept in
                let here : c.trying.left < length c.trying.post.waiting.items = omega (arith, lt, i.tried.few, i.tried.long) in
                let same = kept_more c.trying.post.waiting.items more c.trying.left id here in
                let moved = rw same at before in
                rw (w.post-is, w.left-is) moved;
          }
      | else-tried w ↦
          let no = w.if-tried.false in
          let next = one_gone old c.trying.post.waiting.items c.trying.at c.trying.left id lt i.tried in
          let seat : c.if-tried.post.seat ≡ c.try_to_end-tried.new.seat = rw w.post-is refl in
          record {
            tried = rw (w.post-is, w.left-is) next;
            same = n.same ∙ i.same;
            place = rw seat (record { worker = n.place.worker ∙ i.place.worker; parts = n.place.parts ∙ i.place.parts; tally = omega (arith, n.place.tally, i.place.tally) });
            room = λ goes. rw w.post-is (n.room goes);
            goes_on = λ more left now o k.
                let first = tried_first _ _ old c.trying.at id c.try_to_end-tried.result more c.trying.post.seat c.try_to_end-tried.new.seat left _ _ now _ _ o lt there n.place.worker does (rw seat at k) in
                let kept = rw no at first in
                let before = i.goes_on more left now o kept in
                rw (w.post-is, w.left-is) before;
          }
    ]

pub returns-clause-domain : goal.returns-clause-domain
returns-clause-domain g c =
    let i = c.trying.invariant in
    let old = c.args.post.now.waiting.items in
    let past : length old ≤ c.trying.at = let t = c.trying-test.false in let e = c.len-at-end.ensures in grind (arith, common_steps) in
    let h = i.goes_on [] c.trying.post.seat _ _ (tried_all _ _ old c.trying.at c.trying.post.seat _ _ past) in
    rw (c.truncate.ensures.items, ← append-nil (take c.trying.left c.trying.post.waiting.items)) h
