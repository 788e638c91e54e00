-- A window that is reserved: what it is refused for, what it leaves, and how many frames windows have.
use Rattle.std.proofs.Common.{ℕ, ◌≡◌, ◌+◌, ◌<◌, ◌≤◌, ◌^◌, ◌||◌, ◌⊎◌, inl, inr, Bool, true, false, cond, List, [], ◌∷◌, ◌++◌, Some, None, refl, sym, ap, ◌∙◌, subst, arith}
use Rattle.std.specs.Prelude.{nat_lt, sum_by, Result, Ok, Err}
use Rattle.std.specs.List.{list_any}
use Rattle.std.proofs.lemmas.List.Sums.{sum_by-cons}
use Rattle.std.proofs.lemmas.Bool.Decides.{nat_tests}
use Rattle.iova_range.specs.declared.refusal.Refusal.{Refusal}
use Rattle.iova_range.specs.declared.refusal.Refusal.TheVariants as refusal
use Rattle.iova_range.specs.Frames.{Frames, meets}
use Rattle.iova_range.specs.Bounds.{Extent, Capacities, IsProfile}
use Rattle.iova_model.specs.declared.step.Step.TheVariants as step
use Rattle.iova_model.specs.declared.step.Point.{Point}
use Rattle.iova_model.specs.declared.step.Point.TheVariants as point
use Rattle.iova_model.specs.declared.step.Reply.{Reply}
use Rattle.iova_model.specs.declared.step.Reply.TheVariants as reply
use Rattle.iova_model.specs.State.{State, Holder, owners}
use Rattle.iova_model.specs.Laws.{StepsKeepValidity}
use Rattle.iova_model.specs.Next.{Next, refuse_step, unless, is_at, is_taken, from_to, union, windows_with, window_tests, reserve_tests, reserve_window, reserve}
use Rattle.iova_model.proofs.Unless.{unless_refused, unless_taken, unless-append}
use Rattle.iova_tree.specs.Space.{Space, IsSpace, RiseApart, ranges_of, reserve_refusal}
use Rattle.iova_depot.specs.Cached.{Cached}
use Rattle.iova_core.specs.Tied.{IsTied}
use Rattle.iova_core.specs.Domain.{Parts, state_of, IsDomain}
use Rattle.iova_core.proofs.Domains.{domain_step}
use Rattle.iova_core.proofs.Outcomes.{Refuses, refuses_ok, refuses_err}
use Rattle.iova_core.proofs.Ties.{tied_load, load_tied}
use Rattle.iova_laws.proofs.Weights as weight
use Rattle.iova_laws.proofs.Weights.{holder_ranges, owners_hold}

-- What is taken.

-- one where the two have a frame in common
abbrev pub touches : Frames → Frames → ℕ
touches r x = cond (meets r x) 1 0

touched_step : (b : Bool) (n : ℕ) (rest : Bool) → rest ≡ nat_lt 0 n → (b || rest) ≡ nat_lt 0 (cond b 1 0 + n)
touched_step true n rest e = sym (let h : nat_lt 0 (1 + n) ≡ true = grind (arith, nat_tests) in h)
touched_step false n rest e = e ∙ ap (λ k. nat_lt 0 k) (let h : n ≡ 0 + n = omega arith in h)

ranges_touched : (r : Frames) (rs : List Frames) → list_any (meets r) rs ≡ nat_lt 0 (weight.ranges (touches r) rs)
ranges_touched r [] = refl
ranges_touched r (x ∷ xs) = touched_step (meets r x) (weight.ranges (touches r) xs) (list_any (meets r) xs) (ranges_touched r xs)

holders_touched : (r : Frames) (hs : List Holder) → list_any (λ h. meets r h.range) hs ≡ nat_lt 0 (holder_ranges (touches r) hs)
holders_touched r [] = refl
holders_touched r (h ∷ hs) = touched_step (meets r h.range) (holder_ranges (touches r) hs) (list_any (λ x. meets r x.range) hs) (holders_touched r hs)

-- somebody beside the windows has a frame of the range where the tree has one inserted
taken_alike : (s : State) (inserted : List Frames) (r : Frames) → IsTied (s.windows ++ inserted) s → is_taken s r ≡ list_any (meets r) inserted
taken_alike s inserted r tied =
    holders_touched r (owners s)
    ∙ ap (λ n. nat_lt 0 n) (owners_hold (touches r) s ∙ sym (tied_load inserted s tied (touches r)))
    ∙ sym (ranges_touched r inserted)

-- The refusals of the step are those of the tree, and memory.

abbrev tree_tests : Space → ℕ → ℕ → List (Bool × Refusal)
tree_tests t lo hi = window_tests t.bounds t.windows (list_any (meets (from_to lo hi)) t.inserted) lo hi

module _ (p : Parts) (h : IsDomain p) (lo hi : ℕ) where
  reserve_asks : (m : Point) → reserve_tests (state_of p) lo hi m ≡ tree_tests p.tree lo hi ++ (is_at point.Once m, refusal.NoMemory) ∷ []
  reserve_asks m =
      ap (λ taken. window_tests p.tree.bounds p.tree.windows taken lo hi ++ (is_at point.Once m, refusal.NoMemory) ∷ [])
      (taken_alike (state_of p) p.tree.inserted (from_to lo hi) h.tied)

  reserve_is : (m : Point) → reserve (state_of p) lo hi m ≡ unless (tree_tests p.tree lo hi) (state_of p) (unless ((is_at point.Once m, refusal.NoMemory) ∷ []) (state_of p) (reserve_window (state_of p) (from_to lo hi)))
  reserve_is m =
      let n = reserve_window (state_of p) (from_to lo hi) in
      ap (λ tests. unless tests (state_of p) n) (reserve_asks m)
      ∙ unless-append (tree_tests p.tree lo hi) ((is_at point.Once m, refusal.NoMemory) ∷ []) (state_of p) n

  reserve_refused : (m : Point) (r : Refusal) → reserve_refusal p.tree lo hi ≡ Some r → reserve (state_of p) lo hi m ≡ refuse_step r (state_of p)
  reserve_refused m r is = reserve_is m ∙ unless_refused (tree_tests p.tree lo hi) r (state_of p) _ is

  reserve_no_memory : reserve_refusal p.tree lo hi ≡ None → reserve (state_of p) lo hi point.Once ≡ refuse_step refusal.NoMemory (state_of p)
  reserve_no_memory is = reserve_is point.Once ∙ unless_taken (tree_tests p.tree lo hi) (state_of p) _ is

  reserve_taken : reserve_refusal p.tree lo hi ≡ None → reserve (state_of p) lo hi point.Never ≡ reserve_window (state_of p) (from_to lo hi)
  reserve_taken is = reserve_is point.Never ∙ unless_taken (tree_tests p.tree lo hi) (state_of p) _ is

  -- either refusal
  reserve_refuses : (m : Point) (r : Refusal) → (r ≡ refusal.NoMemory → m ≡ point.Once) → ((r ≡ refusal.NoMemory) × (reserve_refusal p.tree lo hi ≡ None)) ⊎ (reserve_refusal p.tree lo hi ≡ Some r) → reserve (state_of p) lo hi m ≡ refuse_step r (state_of p)
  reserve_refuses m r once (inl both) =
      ap (reserve (state_of p) lo hi) (once both.0) ∙ (reserve_no_memory both.1 ∙ ap (λ x. refuse_step x (state_of p)) (sym both.0))
  reserve_refuses m r once (inr test) = reserve_refused m r test

-- What the step answers and leaves, as the definitions say.

pub record IsReserve (old new : State) (lo hi : ℕ) (m : Point) (r : Reply) : Type 0 where
  pub reply : r ≡ (reserve old lo hi m).reply
  pub state : new ≡ (reserve old lo hi m).state

-- the parts but the tree stay
pub record KeepsOthers (p q : Parts) : Type 0 where
  pub clients : q.clients ≡ p.clients
  pub cached : q.cached ≡ p.cached
  pub rings : q.rings ≡ p.rings
  pub flushes : q.flushes ≡ p.flushes

same_state : (p q : Parts) → q.tree ≡ p.tree → KeepsOthers p q → state_of q ≡ state_of p
same_state p q tree keeps = rw (tree, keeps.clients, keeps.cached, keeps.rings, keeps.flushes) refl

module _ (p q : Parts) (t : State) (lo hi : ℕ) (same : state_of p ≡ t) (h : IsDomain p) (keeps : KeepsOthers p q) where
  -- a refusal
  pub is_refused : (result : Result Frames Refusal) (r : Refusal) (m : Point) → Refuses (reserve_refusal p.tree lo hi) result → result ≡ Err r → (r ≡ refusal.NoMemory → m ≡ point.Once) → q.tree ≡ p.tree → IsReserve t (state_of q) lo hi m (reply.Refused r)
  is_refused result r m refuses err once tree =
      let is = reserve_refuses p h lo hi m r once (refuses_err (reserve_refusal p.tree lo hi) result r refuses err) in
      let here : IsReserve (state_of p) (state_of q) lo hi m (reply.Refused r) = record {
        reply = sym (ap (λ (n : Next). n.reply) is);
        state = same_state p q tree keeps ∙ sym (ap (λ (n : Next). n.state) is);
      } in
      subst (λ x. IsReserve x (state_of q) lo hi m (reply.Refused r)) same here

  -- a window
  new_windows : q.tree ≡ record p.tree { windows = windows_with (from_to lo hi) p.tree.windows } → state_of q ≡ (reserve_window (state_of p) (from_to lo hi)).state
  new_windows tree = rw (tree, keeps.clients, keeps.cached, keeps.rings, keeps.flushes) refl

  pub is_reserved : (result : Result Frames Refusal) (w : Frames) → Refuses (reserve_refusal p.tree lo hi) result → result ≡ Ok w → w ≡ union (from_to lo hi) p.tree.windows → q.tree ≡ record p.tree { windows = windows_with (from_to lo hi) p.tree.windows } → IsReserve t (state_of q) lo hi point.Never (reply.Reserved w)
  is_reserved result w refuses ok window tree =
      let is = reserve_taken p h lo hi (refuses_ok (reserve_refusal p.tree lo hi) result w refuses ok) in
      let here : IsReserve (state_of p) (state_of q) lo hi point.Never (reply.Reserved w) = record {
        reply = ap (λ x. reply.Reserved x) window ∙ sym (ap (λ (n : Next). n.reply) is);
        state = new_windows tree ∙ sym (ap (λ (n : Next). n.state) is);
      } in
      subst (λ x. IsReserve x (state_of q) lo hi point.Never (reply.Reserved w)) same here

  -- what is kept
  pub domain_reserved : StepsKeepValidity → (result : Result Frames Refusal) (w : Frames) → Refuses (reserve_refusal p.tree lo hi) result → result ≡ Ok w → q.tree ≡ record p.tree { windows = windows_with (from_to lo hi) p.tree.windows } → IsSpace q.tree → q.reserved ≡ sum_by (λ r. r.len) q.tree.windows → IsDomain q
  domain_reserved law result w refuses ok tree space counted =
      let is = reserve_taken p h lo hi (refuses_ok (reserve_refusal p.tree lo hi) result w refuses ok) in
      let s : State = (reserve_window (state_of p) (from_to lo hi)).state in
      let tied : IsTied (s.windows ++ p.tree.inserted) s = load_tied p.tree.inserted s (λ weigh. tied_load p.tree.inserted (state_of p) h.tied weigh) in
      let bounds : q.tree.bounds ≡ p.tree.bounds = ap (λ (x : Space). x.bounds) tree in
      domain_step law p q (step.Reserve lo hi) point.Never h (ap (λ (n : Next). n.state) is ∙ sym (new_windows tree))
      (subst (λ x. IsTied (ranges_of x) (state_of q)) (sym tree) (subst (IsTied (s.windows ++ p.tree.inserted)) (sym (new_windows tree)) tied))
      space
      (ap (λ (x : Cached). x.profile) keeps.cached ∙ (h.profile ∙ sym (ap (λ (b : Extent). b.profile) bounds)))
      counted

-- How many frames windows have.

rise_frames : (from until : ℕ) (rs : List Frames) → RiseApart from rs until → from + sum_by (λ (r : Frames). r.len) rs ≤ until
rise_frames from until [] rises = omega (arith, rises)
rise_frames from until (r ∷ rs) rises =
    omega (arith, rise_frames (r.lo + r.len) until rs rises.2, rises.0, sum_by-cons (λ (x : Frames). x.len) r rs)

small_top : (p : Capacities) → IsProfile p → p.top < 2 ^ 40
small_top p (inl e) = let top = ap (λ (x : Capacities). x.top) e in omega (arith, top)
small_top p (inr both) = let top = ap (λ (x : Capacities). x.top) both.1 in omega (arith, top)

pub windows_few : (tree : Space) (windows : List Frames) → IsSpace tree → windows ≡ tree.windows → sum_by (λ (r : Frames). r.len) windows ≤ 2 ^ 40
windows_few tree windows space is =
    let rise = rise_frames tree.bounds.start (tree.bounds.last + 1) tree.windows space.windows in
    let few : sum_by (λ (r : Frames). r.len) tree.windows ≤ 2 ^ 40 = omega (arith, rise, space.bounds.bounds.below_top, small_top tree.bounds.profile space.bounds.profile) in
    rw is few
