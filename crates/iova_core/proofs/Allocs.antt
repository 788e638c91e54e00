-- A request, from what its calls say to what the definitions say.
use Rattle.std.proofs.Common.{ℕ, ◌≡◌, ◌≢◌, ◌⊎◌, inl, inr, ◌+◌, ◌^◌, ◌==◌, ◌<◌, ◌≤◌, Bool, true, false, cond, List, [], ◌∷◌, Some, None, refl, sym, ap, ◌∙◌, subst, arith, length, find, sum_by}
use Rattle.std.specs.Prelude.{nat_le, nat_lt, option_map, IsSomeAnd}
use Rattle.std.proofs.lemmas.Bool.Decides.{nat_tests}
use Rattle.iova_range.specs.Frames.{Frames}
use Rattle.iova_range.specs.Bounds.{Extent}
use Rattle.iova_range.specs.Sizes.{need}
use Rattle.iova_range.specs.declared.refusal.Refusal.{Refusal}
use Rattle.iova_range.specs.declared.refusal.Refusal.TheVariants as refusal
use Rattle.iova_model.specs.declared.step.Step.TheVariants as step
use Rattle.iova_model.specs.declared.step.Point.{Point}
use Rattle.iova_model.specs.declared.step.Point.TheVariants as point
use Rattle.iova_model.specs.Clients.{Client, client_with, client_of, change_client, with_holding, begins_at}
use Rattle.iova_model.specs.Laws.{StepsKeepValidity}
use Rattle.iova_model.specs.State.{State}
use Rattle.iova_model.specs.Valid.{IsValid}
use Rattle.iova_model.specs.Next.{Next}
use Rattle.iova_model.specs.Next as next
use Rattle.iova_tree.specs.Space.{Space, RiseApart}
use Rattle.iova_clients.specs.Registry.{Registry, room_refusal, CanBeGiven}
use Rattle.iova_depot.specs.Cached.{Cached}
use Rattle.iova_core.specs.declared.walk.Walked.{Walked}
use Rattle.iova_core.specs.Reclaim.{Exchanges}
use Rattle.iova_core.specs.Domain.{Parts, state_of, IsDomain}
use Rattle.iova_core.specs.Walk.{ArePartsOf, Comes, point_of, placed_ranges, found_as}
use Rattle.iova_core.proofs.Outcomes.{owner_is}
use Rattle.iova_core.proofs.Queues.{inserted_load}
use Rattle.iova_core.proofs.Reductions.{room_refusal_of, alloc_walks}
use Rattle.iova_core.proofs.Reclaims.{cached_sum, has_low}
use Rattle.iova_core.proofs.Ties.{load_tied}
use Rattle.iova_laws.proofs.Weights as weight
use Rattle.iova_laws.proofs.Weights.{load}
use Rattle.iova_laws.proofs.Moves.{given_moved}
use Rattle.iova_laws.proofs.Finds.{walk_walked}

-- A request that has passed the tests before the walk.
pub record IsAsked (s : State) (w id frames : ℕ) (c : Client) : Type 0 where
  pub known : w < s.workers
  pub tests : next.first_refusal (next.alloc_tests s w frames) ≡ None
  pub found : client_with id s.clients ≡ Some c
  pub client : client_of w id s.clients ≡ Some c
  pub room : room_refusal_of s w id frames 0 c ≡ None

pub asked_from : (s : State) (w id frames : ℕ) → w < s.workers → 1 ≤ frames → frames ≤ 1048576 → option_map (λ c. c.worker) (client_with id s.clients) ≡ Some w → room_refusal (client_with id s.clients) ≡ None → (c : Client) × IsAsked s w id frames c
asked_from s w id frames known some few owner room =
    let own = owner_is w (client_with id s.clients) owner in
    let worker : nat_le s.workers w ≡ false = grind (arith, nat_tests) in
    let one : (frames == 0) ≡ false = grind (arith, nat_tests) in
    let many : nat_lt 1048576 frames ≡ false = grind (arith, nat_tests) in
    (own.0, record { known = known; tests = rw (worker, one, many) refl; found = own.1.found; client = own.1.owned; room = rw own.1.found at room })

starved_step : (s : State) (m : Point) (r : Refusal) (n : Next) (closing full : Bool)
    → ((r ≡ refusal.NoMemory) × (next.first_refusal ((closing, refusal.Closing) ∷ (full, refusal.HoldingsFull) ∷ []) ≡ None)) ⊎ (next.first_refusal ((closing, refusal.Closing) ∷ (full, refusal.HoldingsFull) ∷ []) ≡ Some r)
    → (r ≡ refusal.NoMemory → m ≡ point.Ledger)
    → (next.unless ((closing, refusal.Closing) ∷ (full, refusal.HoldingsFull) ∷ (next.is_at point.Ledger m, refusal.NoMemory) ∷ []) s n).state ≡ s
starved_step s m r n true full h memory = refl
starved_step s m r n false true h memory = refl
starved_step s m r n false false (inl h) memory = rw (memory h.0) refl
starved_step s m r n false false (inr h) memory = absurd cc

-- a request that finds no room in the ledger changes nothing
pub starved_state : (s : State) (w id frames limit : ℕ) (m : Point) (r : Refusal) → w < s.workers → 1 ≤ frames → frames ≤ 1048576 → option_map (λ c. c.worker) (client_with id s.clients) ≡ Some w
    → ((r ≡ refusal.NoMemory) × (room_refusal (client_with id s.clients) ≡ None)) ⊎ (room_refusal (client_with id s.clients) ≡ Some r) → (r ≡ refusal.NoMemory → m ≡ point.Ledger)
    → (next.alloc s w id frames limit m).state ≡ s
starved_state s w id frames limit m r known some few owner why memory =
    let own = owner_is w (client_with id s.clients) owner in
    let c = own.0 in
    let worker : nat_le s.workers w ≡ false = grind (arith, nat_tests) in
    let one : (frames == 0) ≡ false = grind (arith, nat_tests) in
    let many : nat_lt 1048576 frames ≡ false = grind (arith, nat_tests) in
    let n = next.give_from (next.walk s w c.sac (need frames) limit m) id (need frames) in
    let refuses = rw own.1.found at why in
    let state : (next.alloc_to (client_of w id s.clients) s w id (need frames) limit m).state ≡ s = rw own.1.owned (starved_step s m r n c.closing (nat_le 4096 (length c.holdings)) refuses memory) in
    rw (worker, one, many) state

not_full : (closing : Bool) (held : ℕ) → next.first_refusal ((closing, refusal.Closing) ∷ (nat_le 4096 held, refusal.HoldingsFull) ∷ []) ≡ None → held < 4096
not_full true held h = absurd cc
not_full false held h = step (nat_le 4096 held) refl
  where
    step : (b : Bool) → nat_le 4096 held ≡ b → held < 4096
    step true is = absurd (let e = rw is at h in cc)
    step false is = grind (arith, nat_tests)

-- Where ranges begin.

abbrev pub begins : ℕ → Frames → ℕ
begins lo r = cond (r.lo == lo) 1 0

begins_later : (from until lo : ℕ) (rs : List Frames) → RiseApart from rs until → lo < from → weight.ranges (begins lo) rs ≡ 0
begins_later from until lo [] rise lt = refl
begins_later from until lo (r ∷ rs) rise lt =
    let other : (r.lo == lo) ≡ false = let le = rise.0 in grind (arith, nat_tests) in
    let none = begins_later (r.lo + r.len) until lo rs rise.2 (omega (arith, rise.0, rise.1)) in
    rw other (omega (arith, none))

-- no two that rise apart begin at the same frame
begins_once : (from until lo : ℕ) (rs : List Frames) → RiseApart from rs until → weight.ranges (begins lo) rs ≤ 1
begins_once from until lo [] rise = omega arith
begins_once from until lo (r ∷ rs) rise = step (begins_once (r.lo + r.len) until lo rs rise.2) (r.lo == lo) refl
  where
    step : weight.ranges (begins lo) rs ≤ 1 → (b : Bool) → (r.lo == lo) ≡ b → weight.ranges (begins lo) (r ∷ rs) ≤ 1
    step more true is =
        let at : r.lo ≡ lo = grind (arith, nat_tests) in
        let none = begins_later (r.lo + r.len) until lo rs rise.2 (omega (arith, at, rise.1)) in
        rw is (omega (arith, none))
    step more false is = rw is (omega (arith, more))

none_begins : (lo : ℕ) (rs : List Frames) → weight.ranges (begins lo) rs ≡ 0 → find (begins_at lo) rs ≡ None
none_begins lo [] none = refl
none_begins lo (r ∷ rs) none = step (λ h. none_begins lo rs h) (r.lo == lo) refl
  where
    step : (weight.ranges (begins lo) rs ≡ 0 → find (begins_at lo) rs ≡ None) → (b : Bool) → (r.lo == lo) ≡ b → find (begins_at lo) (r ∷ rs) ≡ None
    step more true is = absurd (let e = rw is at none in omega (arith, e))
    step more false is = let e = rw is at none in rw is (more (omega (arith, e)))

begins_itself : (r : Frames) → begins r.lo r ≡ 1
begins_itself r = let e : (r.lo == r.lo) ≡ true = grind (arith, nat_tests) in rw e refl

-- The walk of a request that may be asked.
module _ (p : Parts) (h : IsDomain p) (w id frames limit : ℕ) (c : Client) (asked : IsAsked (state_of p) w id frames c) (tree : Space) (cached : Cached) (f : Walked)
    (comes : (s : State) → ArePartsOf p.tree p.cached.caches s → Comes (next.walk s w c.sac (need frames) limit (point_of f)) f cached.caches) (not_at_ledger : point_of f ≢ point.Ledger) (ex : Exchanges p.tree tree p.cached cached (placed_ranges f) []) where
  stands : ArePartsOf p.tree p.cached.caches (state_of p)
  stands = record { bounds = refl; windows = refl; cached = refl; tied = h.tied }

  not_ledger : (m : Point) → m ≢ point.Ledger → next.is_at point.Ledger m ≡ false
  not_ledger point.Never other = refl
  not_ledger point.Once other = refl
  not_ledger point.Ledger other = absurd (other refl)
  not_ledger point.First other = refl
  not_ledger point.Second other = refl
  not_ledger point.Last other = refl

  -- what the definitions answer
  pub alloc_is : next.alloc (state_of p) w id frames limit (point_of f) ≡ next.give (found_as f) (next.with_caches (state_of p) cached.caches) id (need frames)
  alloc_is =
      let s = state_of p in
      let t = next.walk s w c.sac (need frames) limit (point_of f) in
      let e = comes s stands in
      let state : t.state ≡ next.with_caches s cached.caches = (walk_walked s w c.sac (need frames) limit (point_of f)).is ∙ ap (λ x. next.with_caches s x) e.left in
      alloc_walks s w id frames limit (point_of f) c asked.tests asked.client asked.room (not_ledger (point_of f) not_at_ledger)
      ∙ (ap (λ x. next.give x t.state id (need frames)) e.found ∙ ap (λ x. next.give (found_as f) x id (need frames)) state)

  -- Caches that were moved or emptied, and no more.
  abbrev pub walked_parts : Registry → Parts
  walked_parts r = record p { tree = tree; cached = cached; clients = r }

  pub walked_state : (r : Registry) → r.clients ≡ p.clients.clients → r.serial ≡ p.clients.serial → next.with_caches (state_of p) cached.caches ≡ state_of (walked_parts r)
  walked_state r clients serial =
      let made : Extent → ℕ → List Frames → List Client → ℕ → State = λ b n windows cs k. record { bounds = b; workers = n; windows = windows; clients = cs; serial = k; caches = cached.caches; rings = p.rings; flushes = p.flushes } in
      ap (λ b. made b p.cached.workers p.tree.windows p.clients.clients p.clients.serial) (sym ex.bounds)
      ∙ (ap (λ n. made tree.bounds n p.tree.windows p.clients.clients p.clients.serial) (sym ex.workers)
      ∙ (ap (λ x. made tree.bounds cached.workers x p.clients.clients p.clients.serial) (sym ex.windows)
      ∙ (ap (λ x. made tree.bounds cached.workers tree.windows x p.clients.serial) (sym clients)
      ∙ ap (λ x. made tree.bounds cached.workers tree.windows r.clients x) (sym serial))))

  -- what others have has grown by what was found
  grown : (weigh : Frames → ℕ) → sum_by weigh tree.inserted + weight.cached weigh p.cached.caches ≡ load weigh (state_of p) + weight.cached weigh cached.caches + weight.ranges weigh (placed_ranges f)
  grown weigh =
      omega (arith, ex.balance weigh, inserted_load p weigh h, cached_sum weigh p.cached.caches, cached_sum weigh cached.caches, weight.ranges_are weigh (placed_ranges f), weight.ranges_are weigh [])

  profile_kept : cached.profile ≡ tree.bounds.profile
  profile_kept = ex.profile ∙ (h.profile ∙ sym (ap (λ (b : Extent). b.profile) ex.bounds))

  pub domain_walked : StepsKeepValidity → (r : Registry) → r.clients ≡ p.clients.clients → r.serial ≡ p.clients.serial → placed_ranges f ≡ [] → (next.alloc (state_of p) w id frames limit (point_of f)).state ≡ state_of (walked_parts r) → IsDomain (walked_parts r)
  domain_walked law r clients serial nothing leaves =
      let q = walked_parts r in
      record {
        valid = subst IsValid leaves (law (state_of p) (step.Alloc w id frames limit) (point_of f) h.valid);
        tied = load_tied tree.inserted (state_of q) (λ weigh.
            omega (arith, grown weigh, ap (weight.ranges weigh) nothing, weight.ranges_are weigh tree.inserted, ap (weight.clients weigh) clients));
        space = ex.space;
        profile = profile_kept;
        counted = h.counted ∙ sym (ap (sum_by (λ r. r.len)) ex.windows);
      }

  -- A range was found.
  module _ (r : Frames) (is : placed_ranges f ≡ r ∷ []) where
    weighs : (weigh : Frames → ℕ) → weight.ranges weigh (placed_ranges f) ≡ weigh r
    weighs weigh = omega (arith, ap (weight.ranges weigh) is)

    pub found_low : r.lo + r.len ≤ 2 ^ 40
    found_low = has_low tree r ex.space (λ weigh. omega (arith, grown weigh, weighs weigh, weight.ranges_are weigh (r ∷ [])))

    pub found_new : (r' : Registry) → r'.clients ≡ p.clients.clients → IsSomeAnd (client_with id r'.clients) (CanBeGiven r)
    found_new r' clients =
        let once = begins_once tree.bounds.start (tree.bounds.last + 1) r.lo tree.inserted ex.space.inserted in
        let b = begins r.lo in
        let none : weight.ranges b c.holdings ≡ 0 =
        omega (arith, once, grown b, weighs b, begins_itself r, weight.ranges_are b tree.inserted, weight.holdings_le b id c p.clients.clients asked.found) in
        let there : client_with id r'.clients ≡ Some c = ap (client_with id) clients ∙ asked.found in
        rw there (record { room = not_full c.closing (length c.holdings) asked.room; new = none_begins r.lo c.holdings none })

    -- and given
    pub given_state : (r' : Registry) → r'.clients ≡ change_client id (with_holding r) p.clients.clients → r'.serial ≡ p.clients.serial → r.len ≡ need frames → found_as f ≡ next.At r.lo → (next.alloc (state_of p) w id frames limit (point_of f)).state ≡ state_of (walked_parts r')
    given_state r' clients serial size at =
        let t = next.with_caches (state_of p) cached.caches in
        let one : ℕ → Frames = λ n. record { lo = r.lo; len = n } in
        let range : one (need frames) ≡ r = ap one (sym size) in
        let made : List Client → State = λ cs. next.with_clients t cs in
        let kept : Registry = record { clients = p.clients.clients; serial = r'.serial; spares = r'.spares } in
        ap (λ (n : next.Next). n.state) alloc_is
        ∙ (ap (λ x. (next.give x t id (need frames)).state) at
        ∙ (ap (λ x. made (change_client id (with_holding x) p.clients.clients)) range
        ∙ (ap made (sym clients) ∙ ap (λ x. next.with_clients x r'.clients) (walked_state kept refl serial))))

    pub domain_given : StepsKeepValidity → (r' : Registry) → r'.clients ≡ change_client id (with_holding r) p.clients.clients → (next.alloc (state_of p) w id frames limit (point_of f)).state ≡ state_of (walked_parts r') → IsDomain (walked_parts r')
    domain_given law r' clients leaves =
        let q = walked_parts r' in
        record {
          valid = subst IsValid leaves (law (state_of p) (step.Alloc w id frames limit) (point_of f) h.valid);
          tied = load_tied tree.inserted (state_of q) (λ weigh.
              omega (arith, grown weigh, weighs weigh, weight.ranges_are weigh tree.inserted, ap (weight.clients weigh) clients, (given_moved (state_of p) id c r asked.found).balance weigh));
          space = ex.space;
          profile = profile_kept;
          counted = h.counted ∙ sym (ap (sum_by (λ r. r.len)) ex.windows);
        }
