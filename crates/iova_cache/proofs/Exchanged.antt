-- What comes from the domain and goes back to it, one range after another.
use Rattle.std.proofs.Common.{◌≡◌, ◌+◌, ◌<◌, ◌≤◌, Bool, true, false, ℕ, List, [], ◌∷◌, ◌++◌, length, refl, sym, ap, ◌∙◌, arith, append_assoc, append-nil, length-append, subst, Option, None, Some, IfSome, IfNone}
use Rattle.std.specs.Bool.{OnTrue, OnFalse}
use Rattle.std.proofs.lemmas.List.{set-get_or, get_or-set_same, set-set}
use Rattle.iova_range.specs.Frames.{Frames}
use Rattle.iova_model.specs.State.{State}
use Rattle.iova_model.specs.declared.step.Step.{Step}
use Rattle.iova_model.specs.declared.step.Reply.TheVariants as reply
use Rattle.iova_core.specs.Domain.{IsStepOf}
use Rattle.iova_cache.specs.Magazines.{magazine_of, with_magazine, IsNewest, IsTaken, IsPut, AreMagazines}
use Rattle.iova_cache.specs.Caches.{CacheState}
use Rattle.iova_cache.specs.Exchanges.{giving_up, Gives, Returns}
use Rattle.iova_cache.proofs.Stacks.{same_newest, some_newest}

-- one magazine for another, and what is there then
same_magazine : (ms : List (List Frames)) (order : ℕ) → with_magazine ms order (magazine_of ms order) ≡ ms
same_magazine ms order = set-get_or ms order []

pub there_now : (ms : List (List Frames)) (order : ℕ) (m : List Frames) → AreMagazines ms → order < 6 → magazine_of (with_magazine ms order m) order ≡ m
there_now ms order m a lt = get_or-set_same ms order m [] (omega (arith, a.orders))

-- So many ranges have come.
pub record Refilling (before now : List (List Frames)) (asked : Step) (s t : State) (order count : ℕ) : Type 0 where
  pub got : List Frames
  pub counted : count ≡ length got
  pub steps : Gives asked s got t
  pub magazines : now ≡ with_magazine before order (magazine_of before order ++ got)

pub refilling_none : (ms : List (List Frames)) (asked : Step) (s : State) (order : ℕ) → Refilling ms ms asked s s order 0
refilling_none ms asked s order = record {
  got = [];
  counted = refl;
  steps = refl;
  magazines = sym (ap (λ m. with_magazine ms order m) (append-nil (magazine_of ms order)) ∙ same_magazine ms order);
}

gives_more : (asked : Step) (s : State) (rs : List Frames) (m t : State) (r : Frames) → Gives asked s rs m → IsStepOf m asked (reply.Given r) t → Gives asked s (rs ++ r ∷ []) t
gives_more asked s [] m t r g step = (t, subst (λ (x : State). IsStepOf x asked (reply.Given r) t) g step, refl)
gives_more asked s (x ∷ rs) m t r g step = (g.0, g.1, gives_more asked g.0 rs m t r g.2 step)

pub refilling_more : (before now next : List (List Frames)) (asked : Step) (s m t : State) (order count all : ℕ) (r : Frames) (put : Bool) → AreMagazines before → order < 6 → Refilling before now asked s m order count
    → count < all → all + length (magazine_of before order) ≤ 256 → IsStepOf m asked (reply.Given r) t → OnTrue put (IsPut now next order r) → OnFalse put (length (magazine_of now order) ≡ 256)
    → Refilling before next asked s t order (count + 1)
refilling_more before now next asked s m t order count all r false a lt g below few step done full =
    let here = rw (g.magazines, there_now before order (magazine_of before order ++ g.got) a lt) at full in
    let long = length-append (magazine_of before order) g.got in
    absurd (omega (arith, here, long, g.counted))
refilling_more before now next asked s m t order count all r true a lt g below few step done full = record {
  got = g.got ++ r ∷ [];
  counted = let long = length-append g.got (r ∷ []) in omega (arith, long, g.counted);
  steps = gives_more asked s g.got m t r g.steps step;
  magazines =
      let old = magazine_of before order in
      let at : magazine_of now order ≡ old ++ g.got = ap (λ ms. magazine_of ms order) g.magazines ∙ there_now before order (old ++ g.got) a lt in
      done
      ∙ (ap (λ m. with_magazine now order (m ++ r ∷ [])) at
      ∙ (ap (λ ms. with_magazine ms order ((old ++ g.got) ++ r ∷ [])) g.magazines
      ∙ (set-set before order (old ++ g.got) ((old ++ g.got) ++ r ∷ []) ∙ ap (λ m. with_magazine before order m) (append_assoc old g.got (r ∷ [])))));
}

pub refilling_zero : (before now : List (List Frames)) (asked : Step) (s t : State) (order : ℕ) → Refilling before now asked s t order 0 → (now ≡ before) × (t ≡ s)
refilling_zero before now asked s t order g = step g.got g.counted g.steps g.magazines
  where
    step : (got : List Frames) → 0 ≡ length got → Gives asked s got t → now ≡ with_magazine before order (magazine_of before order ++ got) → (now ≡ before) × (t ≡ s)
    step [] none steps is = (is ∙ (ap (λ m. with_magazine before order m) (append-nil (magazine_of before order)) ∙ same_magazine before order), steps)
    step (x ∷ rest) none steps is = absurd (omega arith)

-- So many have gone.
pub record Spilling (before now : List (List Frames)) (c : CacheState) (s t : State) (order count : ℕ) : Type 0 where
  pub out : List Frames
  pub left : List Frames
  pub counted : count ≡ length out
  pub magazine : magazine_of before order ≡ left ++ out
  pub steps : Returns c s out t
  pub magazines : now ≡ with_magazine before order left

pub spilling_none : (ms : List (List Frames)) (c : CacheState) (s : State) (order : ℕ) → Spilling ms ms c s s order 0
spilling_none ms c s order = record {
  out = [];
  left = magazine_of ms order;
  counted = refl;
  magazine = sym (append-nil (magazine_of ms order));
  steps = refl;
  magazines = sym (same_magazine ms order);
}

pub left_now : (before now : List (List Frames)) (c : CacheState) (s t : State) (order count : ℕ) (g : Spilling before now c s t order count) → AreMagazines before → order < 6 → magazine_of now order ≡ g.left
left_now before now c s t order count g a lt = ap (λ ms. magazine_of ms order) g.magazines ∙ there_now before order g.left a lt

pub spilling_more : (before now next : List (List Frames)) (c : CacheState) (s m t : State) (order count : ℕ) (r taken queued : Frames) → AreMagazines before → order < 6 → Spilling before now c s m order count
    → IsNewest r (magazine_of now order) → IsTaken now next order taken → IsStepOf m (giving_up c r.lo) (reply.Queued queued) t → Spilling before next c s t order (count + 1)
spilling_more before now next c s m t order count r taken queued a lt g newest took step =
    let at = left_now before now c s m order count g a lt in
    let same : r ≡ taken = same_newest (magazine_of now order) r taken newest (record { rest = took.rest; is = took.newest }) in
    let parts : g.left ≡ took.rest ++ r ∷ [] = sym at ∙ (took.newest ∙ ap (λ x. took.rest ++ x ∷ []) (sym same)) in
    record {
      out = r ∷ g.out;
      left = took.rest;
      counted = omega (arith, g.counted);
      magazine = g.magazine ∙ (ap (λ l. l ++ g.out) parts ∙ append_assoc took.rest (r ∷ []) g.out);
      steps = (m, g.steps, (queued, step));
      magazines = took.left ∙ (ap (λ ms. with_magazine ms order took.rest) g.magazines ∙ set-set before order g.left took.rest);
    }

pub spilling_step : (before now next : List (List Frames)) (c : CacheState) (s m t : State) (order count lo : ℕ) (r queued : Frames) (o : Option Frames) → AreMagazines before → order < 6 → Spilling before now c s m order count
    → IsNewest r (magazine_of now order) → lo ≡ r.lo → IfSome o (IsTaken now next order) → IfNone o (magazine_of now order ≡ []) → IsStepOf m (giving_up c lo) (reply.Queued queued) t → Spilling before next c s t order (count + 1)
spilling_step before now next c s m t order count lo r queued None a lt g newest at taken none step = absurd (some_newest (magazine_of now order) r newest none)
spilling_step before now next c s m t order count lo r queued (Some x) a lt g newest at taken none step =
    spilling_more before now next c s m t order count r x queued a lt g newest taken (subst (λ (n : ℕ). IsStepOf m (giving_up c n) (reply.Queued queued) t) at step)

pub spilling_zero : (before now : List (List Frames)) (c : CacheState) (s t : State) (order : ℕ) → Spilling before now c s t order 0 → (now ≡ before) × (t ≡ s)
spilling_zero before now c s t order g = step g.out g.counted g.magazine g.steps
  where
    step : (out : List Frames) → 0 ≡ length out → magazine_of before order ≡ g.left ++ out → Returns c s out t → (now ≡ before) × (t ≡ s)
    step [] none is steps = (g.magazines ∙ (ap (λ m. with_magazine before order m) (sym (append-nil g.left) ∙ sym is) ∙ same_magazine before order), steps)
    step (x ∷ rest) none is steps = absurd (omega arith)

-- some are left, where fewer than there were have gone
pub some_left : (before now : List (List Frames)) (c : CacheState) (s t : State) (order count : ℕ) → AreMagazines before → order < 6 → Spilling before now c s t order count → count < length (magazine_of before order)
    → magazine_of now order ≡ [] → ⊥
some_left before now c s t order count a lt g below none =
    let at = left_now before now c s t order count g a lt in
    let empty : g.left ≡ [] = sym at ∙ none in
    let long = ap length g.magazine in
    let parts = length-append g.left g.out in
    let zero_left = ap length empty in
    omega (arith, long, parts, zero_left, g.counted)
