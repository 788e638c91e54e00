-- What a step would queue is within its worker's share.
use Rattle.std.proofs.Common.{ℕ, ◌≡◌, ◌≤◌, ◌==◌, Bool, true, false, List, [], ◌∷◌, ◌++◌, Option, Some, None, refl, subst, arith, length-append}
use Rattle.std.specs.Prelude.{if◌then◌else◌, find, filter, option_and_then, slice_get}
use Rattle.std.proofs.lemmas.List.Sums.{sum_by-append, sum_by-cons}
use Rattle.iova_range.specs.Frames.{Frames}
use Rattle.iova_model.specs.declared.step.Step.{Step}
use Rattle.iova_model.specs.declared.step.Step.TheVariants as step
use Rattle.iova_model.specs.declared.totals.Totals.{Totals}
use Rattle.iova_model.specs.Clients.{Client, has_id, client_with, client_of, if_owned, begins_at, totals_of, all_holdings, share_of}
use Rattle.iova_model.specs.State.{State}
use Rattle.iova_model.specs.Next.{no_worker}
use Rattle.iova_model.specs.Effects.{to_queue, unmapped_of, worker_of}
use Rattle.iova_keep.specs.Views.{Covers}

-- a range is within the totals of a list that has it in front, or after
in_front : (r : Frames) (rs : List Frames) → Covers (totals_of (r ∷ rs)) r
in_front r rs = (omega arith, omega (arith, sum_by-cons (λ (q : Frames). q.len) r rs), omega (arith, sum_by-cons (λ (q : Frames). q.lo) r rs))

behind : (q r : Frames) (rs : List Frames) → Covers (totals_of rs) r → Covers (totals_of (q ∷ rs)) r
behind q r rs h =
    (omega arith, omega (arith, h.1, sum_by-cons (λ (x : Frames). x.len) q rs), omega (arith, h.2, sum_by-cons (λ (x : Frames). x.lo) q rs))

-- and of two lists, of which one has it
in_first : (r : Frames) (rs qs : List Frames) → Covers (totals_of rs) r → Covers (totals_of (rs ++ qs)) r
in_first r rs qs h = (
  omega (arith, h.0, length-append rs qs),
  omega (arith, h.1, sum_by-append (λ (x : Frames). x.len) rs qs),
  omega (arith, h.2, sum_by-append (λ (x : Frames). x.lo) rs qs),
)

in_second : (r : Frames) (rs qs : List Frames) → Covers (totals_of qs) r → Covers (totals_of (rs ++ qs)) r
in_second r rs qs h = (
  omega (arith, h.0, length-append rs qs),
  omega (arith, h.1, sum_by-append (λ (x : Frames). x.len) rs qs),
  omega (arith, h.2, sum_by-append (λ (x : Frames). x.lo) rs qs),
)

found_within : (lo : ℕ) (r : Frames) (rs : List Frames) → find (begins_at lo) rs ≡ Some r → Covers (totals_of rs) r
found_within lo r [] e = absurd cc
found_within lo r (q ∷ rs) e = by_test (begins_at lo q) (λ h. found_within lo r rs h) e
  where
    by_test : (b : Bool) → (find (begins_at lo) rs ≡ Some r → Covers (totals_of rs) r) → (if b then Some q else find (begins_at lo) rs) ≡ Some r → Covers (totals_of (q ∷ rs)) r
    by_test true rest h = let same : q ≡ r = cc in subst (λ x. Covers (totals_of (q ∷ rs)) x) same (in_front q rs)
    by_test false rest h = behind q r rs (rest h)

first_within : (r : Frames) (rs : List Frames) → slice_get rs 0 ≡ Some r → Covers (totals_of rs) r
first_within r [] e = absurd cc
first_within r (q ∷ rs) e = let same : q ≡ r = cc in subst (λ x. Covers (totals_of (q ∷ rs)) x) same (in_front q rs)

-- A worker's share covers what covers a client of it.

mine : (w : ℕ) (c : Client) (cs : List Client) (r : Frames) → (c.worker == w) ≡ true → Covers (totals_of c.holdings) r → Covers (share_of w (c ∷ cs)) r
mine w c cs r is h = rw is (in_first r c.holdings (all_holdings (filter (λ (d : Client). d.worker == w) cs)) h)

others : (w : ℕ) (c : Client) (cs : List Client) (r : Frames) → Covers (share_of w cs) r → Covers (share_of w (c ∷ cs)) r
others w c cs r h = by_test (c.worker == w)
  where
    rest : List Frames
    rest = all_holdings (filter (λ (d : Client). d.worker == w) cs)

    by_test : (b : Bool) → Covers (totals_of (all_holdings (if b then c ∷ filter (λ (d : Client). d.worker == w) cs else filter (λ (d : Client). d.worker == w) cs))) r
    by_test true = in_second r c.holdings (all_holdings (filter (λ (d : Client). d.worker == w) cs)) h
    by_test false = h

client_within : (w id : ℕ) (c : Client) (cs : List Client) (r : Frames) → client_with id cs ≡ Some c → (c.worker == w) ≡ true → Covers (totals_of c.holdings) r → Covers (share_of w cs) r
client_within w id c [] r e is h = absurd cc
client_within w id c (d ∷ cs) r e is h = by_test (has_id id d) (λ f. client_within w id c cs r f is h) e
  where
    by_test : (b : Bool) → (client_with id cs ≡ Some c → Covers (share_of w cs) r) → (if b then Some d else client_with id cs) ≡ Some c → Covers (share_of w (d ∷ cs)) r
    by_test true rest f = let same : c ≡ d = cc in subst (λ x. Covers (share_of w (x ∷ cs)) r) same (mine w c cs r is h)
    by_test false rest f = others w d cs r (rest f)

-- what comes of a worker's client
owned_within : (f : Client → Option Frames) → ((c : Client) (r : Frames) → f c ≡ Some r → Covers (totals_of c.holdings) r)
    → (w id : ℕ) (cs : List Client) (r : Frames) → option_and_then f (client_of w id cs) ≡ Some r → Covers (share_of w cs) r
owned_within f covers w id cs r e = from_client (client_with id cs) refl e
  where
    from_client : (o : Option Client) → client_with id cs ≡ o → option_and_then f (option_and_then (if_owned w) o) ≡ Some r → Covers (share_of w cs) r
    from_client None is h = absurd cc
    from_client (Some c) is h = by_test (c.worker == w) refl h
      where
        by_test : (b : Bool) → (c.worker == w) ≡ b → option_and_then f (if b then Some c else None) ≡ Some r → Covers (share_of w cs) r
        by_test true here k = client_within w id c cs r is here (covers c r k)
        by_test false other k = absurd cc

unmapped_within : (lo : ℕ) (c : Client) (r : Frames) → unmapped_of lo c ≡ Some r → Covers (totals_of c.holdings) r
unmapped_within lo c r e = by_test c.closing e
  where
    by_test : (b : Bool) → (if b then None else find (begins_at lo) c.holdings) ≡ Some r → Covers (totals_of c.holdings) r
    by_test true h = absurd cc
    by_test false h = found_within lo r c.holdings h

-- past the test for the worker
known_worker : (b : Bool) (o : Option Frames) (r : Frames) → (if b then None else o) ≡ Some r → o ≡ Some r
known_worker true o r e = absurd cc
known_worker false o r e = e

pub queued_within : (s : State) (st : Step) (w : ℕ) (r : Frames) → worker_of st ≡ Some w → to_queue s st ≡ Some r → Covers (share_of w s.clients) r
queued_within s (step.Unmap v id lo) w r named e =
    let same : v ≡ w = cc in
    subst (λ x. Covers (share_of x s.clients) r) same
    (owned_within (unmapped_of lo) (unmapped_within lo) v id s.clients r (known_worker (no_worker s v) (option_and_then (unmapped_of lo) (client_of v id s.clients)) r e))
queued_within s (step.CloseOne v id) w r named e =
    let same : v ≡ w = cc in
    subst (λ x. Covers (share_of x s.clients) r) same
    (owned_within (λ (c : Client). slice_get c.holdings 0) (λ c q h. first_within q c.holdings h) v id s.clients r
    (known_worker (no_worker s v) (option_and_then (λ (c : Client). slice_get c.holdings 0) (client_of v id s.clients)) r e))
queued_within s (step.Reserve lo hi) w r named e = absurd cc
queued_within s (step.Open v sac) w r named e = absurd cc
queued_within s (step.Alloc v id frames limit) w r named e = absurd cc
queued_within s step.Begin w r named e = absurd cc
queued_within s (step.End n ok) w r named e = absurd cc
queued_within s (step.Drain q by) w r named e = absurd cc
queued_within s (step.Close v id) w r named e = absurd cc

-- what is at least a share covers what the share covers
pub more_covers : (held share : Totals) (r : Frames) → share.count ≤ held.count → share.frames ≤ held.frames → share.sum_lo ≤ held.sum_lo → Covers share r → Covers held r
more_covers held share r a b c h = (omega (arith, h.0, a), omega (arith, h.1, b), omega (arith, h.2, c))
