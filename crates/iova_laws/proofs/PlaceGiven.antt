-- A range that a request is given is in no ring.
use Rattle.std.proofs.Common.{ℕ, ◌≡◌, ◌<◌, ◌≤◌, true, false, cond, List, [], ◌∷◌, length, Some, refl, sym, ap, ◌∙◌, arith}
use Rattle.std.specs.List.{list_any}
use Rattle.std.proofs.lemmas.Bool.{or_from}
use Rattle.iova_range.specs.Frames.{Frames, covers}
use Rattle.iova_range.specs.Sizes.{need}
use Rattle.iova_model.specs.declared.entry.Entry.{Entry}
use Rattle.iova_model.specs.declared.step.Step.{Step}
use Rattle.iova_model.specs.declared.step.Reply.TheVariants as reply
use Rattle.iova_model.specs.declared.step.Point.{Point}
use Rattle.iova_model.specs.Caches.{Caches}
use Rattle.iova_model.specs.Clients.{Client, client_with, with_holding}
use Rattle.iova_model.specs.Flushes.{entry_range}
use Rattle.iova_model.specs.State.{State}
use Rattle.iova_model.specs.Valid.{IsValid}
use Rattle.iova_model.specs.Next.{Next, Found, At, Nowhere, OutOfMemory, with_caches, give, give_from, next}
use Rattle.iova_model.specs.Transcript.{is_ringed}
use Rattle.iova_laws.proofs.Weight as weight
use Rattle.iova_laws.proofs.ValidCases.{Cases, next_cases}
use Rattle.iova_laws.proofs.ValidSizes.{need_ge, need_le}
use Rattle.iova_laws.proofs.Valid.{answered_valid}
use Rattle.iova_laws.proofs.ValidFound.{changed_found}
use Rattle.iova_laws.proofs.ConserveWalk.{AreOwn, WalkOutcome, walk_cases}
use Rattle.iova_laws.proofs.PlaceOnce.{has, none_has, in_order}

-- where a frame weighs nothing, no ring has it
not_in_ring : (frame : ℕ) (es : List Entry) → weight.entries (has frame) es ≡ 0 → list_any (λ e. covers frame (entry_range e)) es ≡ false
not_in_ring frame [] none = refl
not_in_ring frame (e ∷ es) none =
    or_from (covers frame (entry_range e)) _ (none_has frame (entry_range e) (omega arith)) (not_in_ring frame es (omega arith))

-- where it weighs nothing in all rings, it is in none
not_ringed : (frame : ℕ) (rings : List (List Entry)) → weight.rings (has frame) rings ≡ 0 → is_ringed frame rings ≡ false
not_ringed frame [] none = refl
not_ringed frame (r ∷ rs) none =
    or_from (list_any (λ e. covers frame (entry_range e)) r) _ (not_in_ring frame r (omega arith)) (not_ringed frame rs (omega arith))

-- the step gives no frame that a ring has
abbrev GivesNoRinged : State → ℕ → Next → Type 0
GivesNoRinged s frame n = (r : Frames) → n.reply ≡ reply.Given r → covers frame r ≡ true → is_ringed frame s.rings ≡ false

module _ (s : State) (frame : ℕ) (valid : IsValid s) where
  -- what a walk finds is held by a client then, and so by no ring
  found_not_ringed : (id size limit : ℕ) (c : Client) → 1 ≤ size → size ≤ 1048576 → length c.holdings < 4096 → client_with id s.clients ≡ Some c → (found : Found) (left : Caches) → AreOwn s left → WalkOutcome s true size limit found left → GivesNoRinged s frame (give found (with_caches s left) id size)
  found_not_ringed id size limit c some few room is Nowhere left own outcome r e = absurd cc
  found_not_ringed id size limit c some few room is OutOfMemory left own outcome r e = absurd cc
  found_not_ringed id size limit c some few room is (At lo) left own outcome r e =
      let x : Frames = record { lo = lo; len = size } in
      let same : r ≡ x = cc in
      let u = give (At lo) (with_caches s left) id size in
      let valid' = answered_valid s id size limit c valid some few room is (At lo) left own outcome in
      λ here.
      let one : has frame x ≡ 1 = ap (λ b. cond b 1 0) (ap (covers frame) (sym same) ∙ here) in
      let found = changed_found id (with_holding x) c s.clients is refl in
      not_ringed frame s.rings (omega (arith, one, (in_order u.state valid'.one_place).once frame, weight.holdings_le (has frame) id (with_holding x c) u.state.clients found, weight.ranges-insert (has frame) x c.holdings))

  -- no other step gives a range
  cases : Cases s (λ st n. GivesNoRinged s frame n)
  cases = record {
    on_refused = λ st x other r e. absurd cc;
    on_reserve = λ lo hi may r e. absurd cc;
    on_open = λ w sac may r e. absurd cc;
    on_alloc = λ w id frames limit m c own may.
        let size = need frames in
        walk_cases s w size own.worker c.sac limit m (λ t. GivesNoRinged s frame (give_from t id size)) valid.caches (found_not_ringed id size limit c (need_ge frames may.some) (need_le frames may.some may.few) may.room own.found);
    on_unmap = λ w id lo c x own held room r e. absurd cc;
    on_begin = λ may r e. absurd cc;
    on_end = λ n ok flies r e. absurd cc;
    on_drain = λ q w below-q below-w r e. absurd cc;
    on_close = λ w id c own r e. absurd cc;
    on_close_last = λ w id c own none r e. absurd cc;
    on_close_full = λ w id c x own r e. absurd cc;
    on_close_one = λ w id c x xs own is room r e. absurd cc;
  }

-- a frame that a step from a valid state gives is in no ring
pub given_not_ringed : (s : State) (st : Step) (m : Point) (r : Frames) (frame : ℕ) → IsValid s → (next s st m).reply ≡ reply.Given r → covers frame r ≡ true → is_ringed frame s.rings ≡ false
given_not_ringed s st m r frame valid = next_cases s (λ x n. GivesNoRinged s frame n) (cases s frame valid) st m r
