-- A list whose front is written, and a slot that has no domain.
use Rattle.std.proofs.Common.{ℕ, ◌≡◌, ◌<◌, ◌+◌, ◌++◌, List, [], ◌∷◌, Option, None, length, slice_set, refl, sym, ap, subst, ◌∙◌, arith}
use Rattle.std.specs.Prelude.{map, take, drop, min, slice_index_or}
use Rattle.std.proofs.lemmas.List.{take-append-drop, take_min, drop_min, take_more, take_more_set, drop-set-lt, drop-drop, map-append}
use Rattle.iova_range.specs.declared.refusal.Refusal.TheVariants as refusal
use Rattle.iova_range.specs.Frames.{Frames}
use Rattle.iova_model.specs.declared.step.Step.{Step}
use Rattle.iova_model.specs.declared.step.Reply.TheVariants as reply
use Rattle.iova_c.specs.declared.slot.Paged.{Paged}
use Rattle.iova_c.specs.declared.answer.Listed.{Listed}
use Rattle.iova_c.specs.Lists.{listed_range, with_ranges}
use Rattle.iova_c.specs.Slots.{HasStepped}

-- one range more is written
pub one_more : (list old : List Listed) (ranges : List Frames) (i lo len : ℕ) (r : Frames) → lo ≡ r.lo → len ≡ r.len → i < length list → i < length ranges
    → r ≡ slice_index_or ranges i r → take i list ≡ map listed_range (take i ranges) → drop i list ≡ drop i old
    → (take (i + 1) (slice_set list i (record { lo = lo; len = len })) ≡ map listed_range (take (i + 1) ranges))
    × (drop (i + 1) (slice_set list i (record { lo = lo; len = len })) ≡ drop (i + 1) old)
one_more list old ranges i lo len r first long room there at front rest =
    let x : Listed = record { lo = lo; len = len } in
    let is : x ≡ listed_range r = ap (λ (k : ℕ). record { lo = k; len = len }) first ∙ ap (λ (k : ℕ). record { lo = r.lo; len = k }) long in
    let taken : take (i + 1) ranges ≡ take i ranges ++ r ∷ [] = take_more ranges i r there ∙ ap (λ z. take i ranges ++ z ∷ []) (sym at) in
    let mapped : map listed_range (take (i + 1) ranges) ≡ map listed_range (take i ranges) ++ listed_range r ∷ [] = ap (map listed_range) taken ∙ map-append listed_range (take i ranges) (r ∷ []) in (
      take_more_set list i x room ∙ ap (λ z. z ++ x ∷ []) front ∙ ap (λ z. map listed_range (take i ranges) ++ z ∷ []) is ∙ sym mapped,
      drop-set-lt (i + 1) list i x (omega arith) ∙ sym (drop-drop 1 i list) ∙ ap (drop 1) rest ∙ drop-drop 1 i old,
    )

-- with as many ranges as there are and as have room
pub filled : (list old : List Listed) (ranges : List Frames) (i : ℕ) → i ≡ min (length ranges) (length old)
    → take i list ≡ map listed_range (take i ranges) → drop i list ≡ drop i old → list ≡ with_ranges old ranges
filled list old ranges i e front rest =
    let on : i ≡ min (length old) (length ranges) = omega arith in
    sym (take-append-drop i list)
    ∙ ap (λ z. z ++ drop i list) (front ∙ ap (λ k. map listed_range (take k ranges)) on ∙ ap (map listed_range) (take_min (length old) ranges))
    ∙ ap (λ z. map listed_range (take (length old) ranges) ++ z) (rest ∙ ap (λ k. drop k old) e ∙ drop_min (length ranges) old)

pub refuses : (slot : Option Paged) (st : Step) → slot ≡ None → HasStepped slot st (reply.Refused refusal.NoDomain) slot
refuses slot st e = subst (λ x. HasStepped x st (reply.Refused refusal.NoDomain) x) (sym e) (refl, refl)
