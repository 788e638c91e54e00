-- What a request is given, and when nothing is found for it.
use Rattle.std.proofs.Common.{ℕ, ◌≡◌, ◌+◌, ◌≤◌, ◌&&◌, inl, inr, true, false, List, [], ◌∷◌, map, None, refl, subst, arith}
use Rattle.std.specs.Prelude.{nat_le}
use Rattle.std.specs.List.{list_all}
use Rattle.std.proofs.lemmas.Bool.{and_parts}
use Rattle.std.proofs.lemmas.Bool.Decides.{nat_tests}
use Rattle.iova_range.specs.declared.refusal.Refusal.{Refusal}
use Rattle.iova_range.specs.declared.refusal.Refusal.TheVariants as refusal
use Rattle.iova_range.specs.Frames.{Frames}
use Rattle.iova_range.specs.Sizes.{need}
use Rattle.iova_range.specs.Bounds.{Extent}
use Rattle.iova_model.specs.declared.step.Step.{Step}
use Rattle.iova_model.specs.declared.step.Step.TheVariants as step
use Rattle.iova_model.specs.Fit.{IsBest}
use Rattle.iova_model.specs.Caches.{Caches, without_entries}
use Rattle.iova_model.specs.Clients.{Client}
use Rattle.iova_model.specs.State.{State, Holder, holders, held_ranges}
use Rattle.iova_model.specs.Valid.{is_inside, is_aligned, IsValid}
use Rattle.iova_model.specs.Next.{Next, refuse_step, Found, At, Nowhere, OutOfMemory, with_caches, best_place, give, give_from}
use Rattle.iova_model.specs.Effects.{IsAnswerTo, AnswersRequest}
use Rattle.iova_model.specs.Laws.{RequestsAreAnswered}
use Rattle.iova_model.proofs.Placing.{AreSome, fits-Fits, best-is_best}
use Rattle.iova_laws.proofs.Walks.{walk_walked}
use Rattle.iova_laws.proofs.ValidCases.{is_no_space, AreThere, MayAlloc, Cases, next_cases}
use Rattle.iova_laws.proofs.ValidSizes.{need_ge, need_le}
use Rattle.iova_laws.proofs.Valid.{answered_valid}
use Rattle.iova_laws.proofs.ConserveWalk.{AreOwn, WasCached, IsFree, WalkOutcome, walk_cases}
use Rattle.iova_laws.proofs.PlaceOnce.{lacks, none_lacks, in_order}

-- a range that is inside and aligned, and not above the limit
suits : (s : State) (frames limit lo : ℕ) → is_inside s.bounds (record { lo = lo; len = need frames }) ≡ true → is_aligned (record { lo = lo; len = need frames }) ≡ true → lo + need frames ≤ limit + 1
    → IsAnswerTo s frames limit (record { lo = lo; len = need frames })
suits s frames limit lo inside aligned within = record {
  given = (refl, grind (arith, nat_tests), within);
  start = grind (arith, nat_tests);
  last = grind (arith, nat_tests);
}

-- a cached range is inside and aligned
cached_suits : (s : State) (c : Caches) (frames limit lo : ℕ) → IsValid s → WasCached s c (need frames) limit lo → IsAnswerTo s frames limit (record { lo = lo; len = need frames })
cached_suits s c frames limit lo valid was =
    let r : Frames = record { lo = lo; len = need frames } in
    let order = in_order s valid.one_place in
    let inside = none_lacks (is_inside s.bounds) r (omega (arith, order.inside, was.left (lacks (is_inside s.bounds)))) in
    suits s frames limit lo inside (none_lacks is_aligned r (omega (arith, order.aligned, was.left (lacks is_aligned)))) was.within

-- and so is a place that fits
free_suits : (s : State) (c : Caches) (frames limit lo : ℕ) → IsFree s c (need frames) limit lo → IsAnswerTo s frames limit (record { lo = lo; len = need frames })
free_suits s c frames limit lo free =
    let fit = fits-Fits s.bounds (held_ranges (with_caches s c)) (need frames) free.used lo free.fits in
    record { given = (refl, fit.aligned, omega (arith, fit.last, free.within)); start = fit.start; last = omega (arith, fit.last) }

-- what is inside has a frame
inside_some : (b : Extent) (hs : List Holder) → list_all (λ h. is_inside b h.range) hs ≡ true → AreSome (map (λ h. h.range) hs)
inside_some b [] h = tt
inside_some b (x ∷ xs) h =
    let parts = and_parts (is_inside b x.range) _ h in
    let inside = and_parts (nat_le 1 x.range.len && nat_le b.start x.range.lo) _ parts.0 in
    let some : nat_le 1 x.range.len ≡ true = (and_parts (nat_le 1 x.range.len) _ inside.0).0 in
    (grind (arith, nat_tests), inside_some b xs parts.1)

-- where the tree has no place, none fits
none_fits : (s : State) (size limit : ℕ) → IsValid s → 1 ≤ size → best_place s size limit ≡ None → IsBest s.bounds (held_ranges s) size limit None
none_fits s size limit valid some none =
    subst (λ o. IsBest s.bounds (held_ranges s) size limit o) none (best-is_best s.bounds (held_ranges s) size limit some (inside_some s.bounds (holders s) valid.one_place.inside))

-- the step's reply, where it is a request, is what the law says
abbrev IsAnswered : State → Step → Next → Type 0
IsAnswered s (step.Alloc w id frames limit) n = AnswersRequest s frames limit n.reply
IsAnswered s st n = Unit {0}

-- no test refuses for want of space
refused_answered : (s : State) (st : Step) (r : Refusal) → is_no_space r ≡ false → IsAnswered s st (refuse_step r s)
refused_answered s (step.Alloc w id frames limit) refusal.NoSpace other = absurd cc
refused_answered s st r other = tt

module _ (s : State) (valid : IsValid s) (w id frames limit : ℕ) (c : Client) (own : AreThere s w id c) (may : MayAlloc frames c) where
  -- the result of a walk is answered, where it leaves emptied caches if it finds nothing
  found_answered : (found : Found) (left : Caches) → AreOwn s left → WalkOutcome s true (need frames) limit found left → (found ≡ Nowhere → left ≡ without_entries s.caches)
      → AnswersRequest s frames limit (give found (with_caches s left) id (need frames)).reply
  found_answered (At lo) left whole (inl was) nowhere = cached_suits s left frames limit lo valid was
  found_answered (At lo) left whole (inr free) nowhere = free_suits s left frames limit lo free.1
  found_answered OutOfMemory left whole outcome nowhere = tt
  found_answered Nowhere left whole missed nowhere =
      let size = need frames in
      let some = need_ge frames may.some in
      let left_valid = answered_valid s id size limit c valid some (need_le frames may.some may.few) may.room own.found Nowhere left whole missed in
      subst (λ x. IsBest s.bounds (held_ranges (with_caches s x)) size limit None) (nowhere refl) (none_fits (with_caches s left) size limit left_valid some missed.1)

-- each step
cases : (s : State) → IsValid s → Cases s (IsAnswered s)
cases s valid = record {
  on_refused = refused_answered s;
  on_reserve = λ lo hi may. tt;
  on_open = λ w sac may. tt;
  on_alloc = λ w id frames limit m c own may.
      let size = need frames in
      walk_cases s w size own.worker c.sac limit m (λ t. (t.found ≡ Nowhere → t.state.caches ≡ without_entries s.caches) → AnswersRequest s frames limit (give_from t id size).reply) valid.caches
      (found_answered s valid w id frames limit c own may) (walk_walked s w c.sac size limit m).nowhere;
  on_unmap = λ w id lo c r own held room. tt;
  on_begin = λ may. tt;
  on_end = λ n ok flies. tt;
  on_drain = λ q w below-q below-w. tt;
  on_close = λ w id c own. tt;
  on_close_last = λ w id c own none. tt;
  on_close_full = λ w id c r own. tt;
  on_close_one = λ w id c r rs own is room. tt;
}

-- so each request is answered as the law says
pub requests_are_answered : RequestsAreAnswered
requests_are_answered = λ s w id frames limit m valid. next_cases s (IsAnswered s) (cases s valid) (step.Alloc w id frames limit) m
