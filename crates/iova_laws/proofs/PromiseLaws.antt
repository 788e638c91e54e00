-- The promises of a transcript, by the laws.
use Rattle.std.proofs.Common.{ℕ, zero, suc, ◌≡◌, ◌+◌, List, [], ◌∷◌, ◌++◌, ◌⊎◌, take, Some, None, refl, sym, ap, subst, ◌∙◌, arith}
use Rattle.std.specs.Prelude.{slice_get, nat_le, ◌&&◌, Bool, true}
use Rattle.std.specs.List.{list_all}
use Rattle.std.proofs.lemmas.Bool.{and_parts, leb-true, eqb-true}
use Rattle.iova_model.specs.Clients.{client_with}
use Rattle.iova_model.specs.State.{State, Holder, holders, owners}
use Rattle.iova_model.specs.Valid.{IsValid, is_inside, is_aligned}
use Rattle.iova_model.specs.Next.{next}
use Rattle.iova_model.specs.Transcript.{Pair, IsTranscript, after}
use Rattle.iova_model.specs.Effects.{IsClosing, IsGone}
use Rattle.iova_model.specs.Promises.{ClosingLaw, GoneLaw, HoldersAreWithin, OwnersAreAligned, PromisesAreKept}
use Rattle.iova_laws.proofs.Valid.{transcripts_keep_validity}
use Rattle.iova_laws.proofs.PlaceKinds.{each_frame_is_in_one_place}
use Rattle.iova_laws.proofs.CountPlaces.{places_add_up}
use Rattle.iova_laws.proofs.Conserve.{steps_conserve}
use Rattle.iova_laws.proofs.LedgerTotals.{totals_are_shares}
use Rattle.iova_laws.proofs.FlushTranscripts.{transcripts_are_flushed}
use Rattle.iova_laws.proofs.FlushReuse.{reuse_is_flushed}
use Rattle.iova_laws.proofs.ClosingTranscripts.{clients_close_in_order, gone_clients_stay_gone}

-- a transcript from its middle on
later_transcript : (s : State) (before later : List Pair) → IsTranscript s (before ++ later) → IsTranscript (after s before) later
later_transcript s [] later h = h
later_transcript s (p ∷ before) later h = later_transcript (next s p.step p.point).state before later h.1

after_append : (s : State) (before later : List Pair) → after s (before ++ later) ≡ after (after s before) later
after_append s [] later = refl
after_append s (p ∷ before) later = after_append (next s p.step p.point).state before later

closes_in_order : (s : State) (ps : List Pair) → IsValid s → IsTranscript s ps → ClosingLaw s ps
closes_in_order s ps valid transcript before p later id c is found marks =
    let rest = p ∷ later in
    let here = clients_close_in_order (after s before) p later id c (transcripts_keep_validity s before valid) (later_transcript s before rest (subst (IsTranscript s) is transcript)) found marks in
    subst (λ t. IsClosing id c.holdings rest t ⊎ IsGone id c.holdings rest t) (sym (ap (after s) is ∙ after_append s before rest)) here

stays_gone : (s : State) (ps : List Pair) → IsValid s → IsTranscript s ps → GoneLaw s ps
stays_gone s ps valid transcript before later id is known none =
    let here = gone_clients_stay_gone (after s before) later id (transcripts_keep_validity s before valid) (later_transcript s before later (subst (IsTranscript s) is transcript)) known none in
    (subst (λ t. client_with id t.clients ≡ None) (sym (ap (after s) is ∙ after_append s before later)) here.0, here.1)

-- what all pass each passes
passes_at : (p : Holder → Bool) (hs : List Holder) → list_all p hs ≡ true → (i : ℕ) (h : Holder) → slice_get hs i ≡ Some h → p h ≡ true
passes_at p [] all i h is = absurd cc
passes_at p (x ∷ hs) all zero h is =
    let same : x ≡ h = cc in
    subst (λ y. p y ≡ true) same (and_parts (p x) (list_all p hs) all).0
passes_at p (x ∷ hs) all (suc i) h is = passes_at p hs (and_parts (p x) (list_all p hs) all).1 i h is

within : (s : State) → IsValid s → HoldersAreWithin s
within s valid i h is =
    let passes = passes_at (λ x. is_inside s.bounds x.range) (holders s) valid.one_place.inside i h is in
    let parts = and_parts (nat_le 1 h.range.len && nat_le s.bounds.start h.range.lo) (nat_le (h.range.lo + h.range.len) (s.bounds.last + 1)) passes in
    let low = and_parts (nat_le 1 h.range.len) (nat_le s.bounds.start h.range.lo) parts.0 in
    let start = leb-true _ _ low.1 in
    record {
      some = leb-true _ _ low.0;
      above_zero = let first = valid.bounds.bounds.above_zero in omega arith;
      start = start;
      last = leb-true _ _ parts.1;
    }

aligned : (s : State) → IsValid s → OwnersAreAligned s
aligned s valid i h is = eqb-true _ _ (passes_at (λ x. is_aligned x.range) (owners s) valid.one_place.aligned i h is)

pub promises_are_kept : PromisesAreKept
promises_are_kept = λ s ps valid transcript.
    let left = transcripts_keep_validity s ps valid in
    record {
      flushed = transcripts_are_flushed s ps valid transcript;
      reuse = λ i n frame. reuse_is_flushed s ps i n frame valid transcript;
      closing = closes_in_order s ps valid transcript;
      gone = stays_gone s ps valid transcript;
      conserved = λ n p is. steps_conserve (after s (take n ps)) p.step p.point (transcripts_keep_validity s (take n ps) valid);
      valid = left;
      one_place = λ frame. each_frame_is_in_one_place (after s ps) frame left;
      within = within (after s ps) left;
      aligned = aligned (after s ps) left;
      counted = places_add_up (after s ps) left;
      totals = totals_are_shares (after s ps) left;
    }
