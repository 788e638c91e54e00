-- A client that is closed where no flush is in flight but its own: the states between the steps of its end.
use Rattle.std.proofs.Common.{inl, inr, ℕ, zero, suc, ◌≡◌, ◌+◌, ◌<◌, ◌≤◌, ◌==◌, true, false, List, [], ◌∷◌, Some, refl, sym, ap, ◌∙◌, subst, arith}
use Rattle.std.specs.Prelude.{length, not, slice_get, option_and_then, nat_le, slice_index_or, slice_set, sum_by}
use Rattle.std.specs.List.{AllByRecursion}
use Rattle.std.proofs.lemmas.Bool.{cond_both, lt-leb}
use Rattle.std.proofs.lemmas.Bool.Decides.{nat_tests}
use Rattle.std.proofs.lemmas.List.Sums.{sum_by-append}
use Rattle.iova_range.specs.declared.limits.TheConstants.{MAX_ENTRIES, MAX_FLIGHTS, MAX_SERIAL}
use Rattle.iova_range.specs.declared.refusal.Refusal.TheVariants as refusal
use Rattle.iova_range.specs.Frames.{Frames}
use Rattle.iova_model.specs.declared.entry.Entry.{Entry}
use Rattle.iova_model.specs.declared.step.Step.TheVariants as step
use Rattle.iova_model.specs.declared.step.Reply.{Reply}
use Rattle.iova_model.specs.declared.step.Reply.TheVariants as reply
use Rattle.iova_model.specs.declared.totals.Totals.{Totals}
use Rattle.iova_model.specs.Clients.{Client, client_with, client_of, if_owned, change_client, without_client, remove_at, without_holding, with_mark, totals_of, totals, all_holdings}
use Rattle.iova_model.specs.Flushes.{Flushes, AreSound, CountsRise, with_flight, after_end, is_in_flight, unflushed_rest}
use Rattle.iova_model.specs.State.{State}
use Rattle.iova_model.specs.Valid.{IsValid, IsRing}
use Rattle.iova_model.specs.Next
use Rattle.iova_model.specs.Effects.{add_totals, to_queue}
use Rattle.iova_model.proofs.Unless.{unless_taken}
use Rattle.iova_laws.proofs.Finds.{changed_found}
use Rattle.iova_keep.specs.Steps.{Takes}
use Rattle.iova_keep.specs.Views.{Lacks}
use Rattle.iova_keep.specs.Events.{IsShort}
use Rattle.iova_session.specs.Gone.{HasAtLeast}

-- Rings that a flush empties.

below_top : (low : ℕ) (es : List Entry) (top : ℕ) → CountsRise low es top → low ≤ top
below_top low [] top rise = rise
below_top low (e ∷ es) top rise = omega (arith, rise.0, below_top e.count es top rise.1)

-- counts that are all below the finish count
all_flushed : (low finish : ℕ) (es : List Entry) (top : ℕ) → CountsRise low es top → top < finish → unflushed_rest finish es ≡ []
all_flushed low finish [] top rise lt = refl
all_flushed low finish (e ∷ es) top rise lt =
    let here : e.count ≤ top = below_top e.count es top rise.1 in
    grind (arith, nat_tests, all_flushed e.count finish es top rise.1 lt)

ring_rises : (start : ℕ) (rings : List (List Entry)) (q : ℕ) → AllByRecursion (IsRing start) rings → CountsRise 0 (slice_index_or rings q []) start
ring_rises start [] q each = omega arith
ring_rises start (r ∷ rs) zero each = each.0.rising
ring_rises start (r ∷ rs) (suc q) each = ring_rises start rs q each.1

-- a ring that is emptied
emptied_ring : (rings : List (List Entry)) (q : ℕ) → slice_index_or (slice_set rings q []) q [] ≡ []
emptied_ring [] q = refl
emptied_ring (r ∷ rs) zero = refl
emptied_ring (r ∷ rs) (suc q) = emptied_ring rs q

-- The only flush.

-- what the end of a flush leaves that began where none was in flight
record OnlyFlush (f : Flushes) (n : ℕ) : Type 0 where
  there : is_in_flight n (with_flight f).in_flight ≡ true
  quiet : (after_end (with_flight f) n true).in_flight ≡ []
  finish : (after_end (with_flight f) n true).finish ≡ f.start + 1

only_flush : (f : Flushes) (n : ℕ) → f.in_flight ≡ [] → n ≡ f.start + 1 → AreSound f → OnlyFlush f n
only_flush f n none is sound =
    let same : (f.start + 1 == n) ≡ true = grind (arith, nat_tests) in
    let balance : f.start ≡ f.finish + f.owed = (let b = rw none at sound.balance in omega (arith, b)) in
    record {
      there = rw (none, same) refl;
      quiet = rw (none, same) refl;
      finish = rw (none, same) (omega (arith, balance));
    }

-- Clients.

pub forgotten_changed : (id : ℕ) (change : Client → Client) (cs : List Client) → ((c : Client) → (change c).id ≡ c.id) → without_client id (change_client id change cs) ≡ without_client id cs
forgotten_changed id change [] keeps = refl
forgotten_changed id change (x ∷ cs) keeps = let k = keeps x in grind (arith, nat_tests, forgotten_changed id change cs keeps)

remove_first : (r : Frames) (rs : List Frames) → remove_at r.lo (r ∷ rs) ≡ rs
remove_first r rs = let e : (r.lo == r.lo) ≡ true = grind (arith, nat_tests) in rw e refl

-- How things stand while the worker's client is closed: it is there; the others, who hold what is left of the domain; the seat
-- has the shares of all; no flush is in flight; and so many numbers are left.
pub record Lone (w id : ℕ) (rest : List Client) (held : Totals) (top : ℕ) (s : State) : Type 0 where
  pub client : Client
  pub is : client_with id s.clients ≡ Some client
  pub mine : client.worker ≡ w
  pub worker : Next.no_worker s w ≡ false
  pub others : without_client id s.clients ≡ rest
  pub shares : HasAtLeast held (add_totals (totals_of client.holdings) (totals rest))
  pub quiet : s.flushes.in_flight ≡ []
  pub numbers : s.flushes.start + (length client.holdings + length (all_holdings rest)) ≤ top

-- a full ring has stopped it
pub record Full (w id : ℕ) (rest : List Client) (held : Totals) (top : ℕ) (s : State) : Type 0 where
  pub lone : Lone w id rest held top s
  pub some : 1 ≤ length lone.client.holdings

-- the client is gone
pub record Left (rest : List Client) (held : Totals) (top : ℕ) (s : State) : Type 0 where
  pub clients : s.clients ≡ rest
  pub shares : HasAtLeast held (totals rest)
  pub quiet : s.flushes.in_flight ≡ []
  pub numbers : s.flushes.start + length (all_holdings rest) ≤ top

-- What the reply to a closing says of the client, which was this one: it held nothing and is gone; or a range was queued, and it
-- is there with that range less; or the ring was full, which was not empty then.
abbrev pub Says : ℕ → ℕ → List Client → Totals → ℕ → State → Client → Reply → State → Type 0
Says w id rest held top s c reply.Empty t = (c.holdings ≡ []) × Left rest held top t
Says w id rest held top s c (reply.Queued q) t = (mid : Totals) (low : ℕ) → held ≡ add_totals mid (totals_of (q ∷ [])) → top ≤ low + 1 → Lone w id rest mid low t
Says w id rest held top s c (reply.Refused e) t = (e ≡ refusal.RingFull) × Full w id rest held top t × (unflushed_rest s.flushes.finish (Next.ring_at s w) ≡ [] → ⊥)
Says w id rest held top s c r t = ⊥

first_less : (held mid some : Totals) (r : Frames) (rs : List Frames) → held ≡ add_totals mid (totals_of (r ∷ [])) → HasAtLeast held (add_totals (totals_of (r ∷ rs)) some) → HasAtLeast mid (add_totals (totals_of rs) some)
first_less held mid some r rs sum h =
    let count = ap (λ (x : Totals). x.count) sum in
    let frames = ap (λ (x : Totals). x.frames) sum in
    let sum_lo = ap (λ (x : Totals). x.sum_lo) sum in
    let more_frames : sum_by (λ (x : Frames). x.len) (r ∷ rs) ≡ sum_by (λ (x : Frames). x.len) (r ∷ []) + sum_by (λ (x : Frames). x.len) rs = sum_by-append (λ (x : Frames). x.len) (r ∷ []) rs in
    let more_lo : sum_by (λ (x : Frames). x.lo) (r ∷ rs) ≡ sum_by (λ (x : Frames). x.lo) (r ∷ []) + sum_by (λ (x : Frames). x.lo) rs = sum_by-append (λ (x : Frames). x.lo) (r ∷ []) rs in
    record {
      count = omega (arith, count, h.count);
      frames = omega (arith, frames, more_frames, h.frames);
      sum_lo = omega (arith, sum_lo, more_lo, h.sum_lo);
    }

at_least_rest : (held a b : Totals) → HasAtLeast held (add_totals a b) → HasAtLeast held b
at_least_rest held a b h = record { count = omega (arith, h.count); frames = omega (arith, h.frames); sum_lo = omega (arith, h.sum_lo) }

module _ (w id : ℕ) (rest : List Client) (held : Totals) (top : ℕ) (s : State) (lone : Lone w id rest held top s) where
  empty_says : lone.client.holdings ≡ [] → Says w id rest held top s lone.client reply.Empty (Next.with_clients s (without_client id s.clients))
  empty_says none = (
    none,
    record {
      clients = lone.others;
      shares = at_least_rest held (totals_of lone.client.holdings) (totals rest) lone.shares;
      quiet = lone.quiet;
      numbers = omega (arith, lone.numbers);
    },
  )

  lone_marked : (r : Frames) (rs : List Frames) → lone.client.holdings ≡ r ∷ rs → Full w id rest held top (Next.with_clients s (change_client id with_mark s.clients))
  lone_marked r rs is = record {
    lone = record {
      client = with_mark lone.client;
      is = changed_found id with_mark lone.client s.clients lone.is refl;
      mine = lone.mine;
      worker = lone.worker;
      others = forgotten_changed id with_mark s.clients (λ c. refl) ∙ lone.others;
      shares = lone.shares;
      quiet = lone.quiet;
      numbers = lone.numbers;
    };
    some = rw is (omega arith);
  }

  full_says : (r : Frames) (rs : List Frames) → lone.client.holdings ≡ r ∷ rs
      → nat_le MAX_ENTRIES (length (Next.ring_at (Next.after_drain (Next.with_clients s (change_client id with_mark s.clients)) w w) w)) ≡ true
      → Says w id rest held top s lone.client (reply.Refused refusal.RingFull) (Next.with_clients s (change_client id with_mark s.clients))
  full_says r rs is b = (
    refl,
    lone_marked r rs is,
    λ out.
        let c : nat_le MAX_ENTRIES (length (slice_index_or (slice_set s.rings w []) w [])) ≡ true = subst (λ (es : List Entry). nat_le MAX_ENTRIES (length (slice_index_or (slice_set s.rings w es) w [])) ≡ true) out b in
        let d : nat_le MAX_ENTRIES 0 ≡ true = subst (λ (es : List Entry). nat_le MAX_ENTRIES (length es) ≡ true) (emptied_ring s.rings w) c in
        cc,
  )

  queued_says : (r : Frames) (rs : List Frames) → lone.client.holdings ≡ r ∷ rs
      → Says w id rest held top s lone.client (reply.Queued r) (Next.with_entry (Next.after_drain (Next.with_clients s (change_client id with_mark s.clients)) w w) w id r)
  queued_says r rs is = λ mid low sum le.
      let now : client_with id (change_client id with_mark s.clients) ≡ Some (with_mark lone.client) = changed_found id with_mark lone.client s.clients lone.is refl in
      let left : remove_at r.lo lone.client.holdings ≡ rs = ap (remove_at r.lo) is ∙ remove_first r rs in
      let shares = first_less held mid (totals rest) r rs sum (subst (λ (xs : List Frames). HasAtLeast held (add_totals (totals_of xs) (totals rest))) is lone.shares) in
      let numbers : s.flushes.start + (length (r ∷ rs) + length (all_holdings rest)) ≤ top = subst (λ (xs : List Frames). s.flushes.start + (length xs + length (all_holdings rest)) ≤ top) is lone.numbers in
      record {
        client = without_holding r.lo (with_mark lone.client);
        is = changed_found id (without_holding r.lo) (with_mark lone.client) (change_client id with_mark s.clients) now refl;
        mine = lone.mine;
        worker = lone.worker;
        others = forgotten_changed id (without_holding r.lo) (change_client id with_mark s.clients) (λ c. refl) ∙ (forgotten_changed id with_mark s.clients (λ c. refl) ∙ lone.others);
        shares = subst (λ (xs : List Frames). HasAtLeast mid (add_totals (totals_of xs) (totals rest))) (sym left) shares;
        quiet = lone.quiet;
        numbers = subst (λ (xs : List Frames). s.flushes.start + (length xs + length (all_holdings rest)) ≤ low) (sym left) (omega (arith, numbers, le));
      }

  lowest_says : (rs : List Frames) → lone.client.holdings ≡ rs
      → Says w id rest held top s lone.client (Next.close_lowest rs s w id).reply (Next.close_lowest rs s w id).state
  lowest_says [] is = empty_says is
  lowest_says (r ∷ rs) is =
      let m = Next.with_clients s (change_client id with_mark s.clients) in
      let d = Next.after_drain m w w in
      cond_both (nat_le MAX_ENTRIES (length (Next.ring_at d w))) (Next.refuse_step refusal.RingFull m) (record { reply = reply.Queued r; state = Next.with_entry d w id r }) (λ n. Says w id rest held top s lone.client n.reply n.state)
      (λ b. full_says r rs is b)
      (λ b. queued_says r rs is)

  found_lone : client_of w id s.clients ≡ Some lone.client
  found_lone = let one : if_owned w lone.client ≡ Some lone.client = (let m = lone.mine in grind (arith, nat_tests)) in ap (λ o. option_and_then (if_owned w) o) lone.is ∙ one

  pub close_says : Says w id rest held top s lone.client (Next.close_one s w id).reply (Next.close_one s w id).state
  close_says =
      let goes : Next.close_one s w id ≡ Next.close_lowest lone.client.holdings s w id = rw (lone.worker, found_lone) refl in
      subst (λ (n : Next.Next). Says w id rest held top s lone.client n.reply n.state) (sym goes) (lowest_says lone.client.holdings refl)

  -- the seat's shares cover the lowest range
  covered : (q : Frames) (rs : List Frames) → lone.client.holdings ≡ q ∷ rs → Lacks held q → ⊥
  covered q rs is lacks =
      let h = subst (λ (xs : List Frames). HasAtLeast held (add_totals (totals_of xs) (totals rest))) is lone.shares in
      let count = h.count in
      let frames = h.frames in
      let sum_lo = h.sum_lo in
      let more_frames : sum_by (λ (x : Frames). x.len) (q ∷ rs) ≡ sum_by (λ (x : Frames). x.len) (q ∷ []) + sum_by (λ (x : Frames). x.len) rs = sum_by-append (λ (x : Frames). x.len) (q ∷ []) rs in
      let more_lo : sum_by (λ (x : Frames). x.lo) (q ∷ rs) ≡ sum_by (λ (x : Frames). x.lo) (q ∷ []) + sum_by (λ (x : Frames). x.lo) rs = sum_by-append (λ (x : Frames). x.lo) (q ∷ []) rs in
      elim lacks [
        | inl few ↦ omega (arith, count, few)
        | inr more ↦ elim more [
          | inl few ↦ omega (arith, frames, more_frames, few)
          | inr few ↦ omega (arith, sum_lo, more_lo, few)
        ]
      ]

  lowest_covered : (hs : List Frames) (q : Frames) → lone.client.holdings ≡ hs → slice_get hs 0 ≡ Some q → Lacks held q → ⊥
  lowest_covered [] q is lowest lacks = absurd cc
  lowest_covered (r ∷ rs) q is lowest lacks = let same : r ≡ q = cc in covered q rs (is ∙ ap (λ x. x ∷ rs) same) lacks

  pub never_short : IsShort held (to_queue s (step.CloseOne w id)) → ⊥
  never_short short =
      let goes : to_queue s (step.CloseOne w id) ≡ slice_get lone.client.holdings 0 = rw (lone.worker, found_lone) refl in
      lowest_covered lone.client.holdings short.0 refl (sym goes ∙ short.1) short.2

pub takes_lone : (w id : ℕ) (rest : List Client) (held : Totals) (top : ℕ) (s : State) (r : Reply) (t : State) (lone : Lone w id rest held top s) → Takes s (step.CloseOne w id) r t → Says w id rest held top s lone.client r t
unfolding Takes
takes_lone w id rest held top s r t lone h = rw (h.1, h.2) (close_says w id rest held top s lone)

-- Flushes.

-- a flush is in flight that began in this state
pub record Flying (w id : ℕ) (rest : List Client) (held : Totals) (n : ℕ) (s : State) : Type 0 where
  pub before : State
  pub full : Full w id rest held MAX_SERIAL before
  pub sound : IsValid before
  pub number : n ≡ before.flushes.start + 1
  pub is : s ≡ Next.with_flushes before (with_flight before.flushes)

pub begin_lone : (w id : ℕ) (rest : List Client) (held : Totals) (s : State) (r : Reply) (t : State) → IsValid s → Full w id rest held MAX_SERIAL s → Takes s step.Begin r t
    → (n : ℕ) × (r ≡ reply.Begun n) × Flying w id rest held n t
unfolding Takes
begin_lone w id rest held s r t valid full h =
    let few : nat_le MAX_FLIGHTS (length s.flushes.in_flight) ≡ false = rw full.lone.quiet refl in
    let numbers = full.lone.numbers in
    let some = full.some in
    let lt : s.flushes.start < MAX_SERIAL = omega (arith, numbers, some) in
    let left : nat_le MAX_SERIAL s.flushes.start ≡ false = lt-leb MAX_SERIAL s.flushes.start lt in
    let goes = unless_taken (Next.begin_tests s.flushes) s (record { reply = reply.Begun (s.flushes.start + 1); state = Next.with_flushes s (with_flight s.flushes) }) (rw (few, left) refl) in (
      s.flushes.start + 1,
      h.1 ∙ ap (λ (n : Next.Next). n.reply) goes,
      record { before = s; full = full; sound = valid; number = refl; is = h.2 ∙ ap (λ (n : Next.Next). n.state) goes },
    )

-- a flush has ended well, so that the ring is emptied next
pub record Fresh (w id : ℕ) (rest : List Client) (held : Totals) (s : State) : Type 0 where
  pub full : Full w id rest held (MAX_SERIAL + 1) s
  pub room : unflushed_rest s.flushes.finish (Next.ring_at s w) ≡ []

after_flush : (w id : ℕ) (rest : List Client) (held : Totals) (n : ℕ) (b : State) → IsValid b → Full w id rest held MAX_SERIAL b → n ≡ b.flushes.start + 1
    → Fresh w id rest held (Next.with_flushes b (after_end (with_flight b.flushes) n true))
after_flush w id rest held n b valid full is =
    let lone = full.lone in
    let over = only_flush b.flushes n lone.quiet is valid.flushes in
    let numbers = lone.numbers in
    let finish = over.finish in
    record {
      full = record {
        lone = record {
          client = lone.client;
          is = lone.is;
          mine = lone.mine;
          worker = lone.worker;
          others = lone.others;
          shares = lone.shares;
          quiet = over.quiet;
          numbers = omega (arith, numbers);
        };
        some = full.some;
      };
      room = all_flushed 0 (after_end (with_flight b.flushes) n true).finish (Next.ring_at b w) b.flushes.start (ring_rises b.flushes.start b.rings w valid.rings) (omega (arith, finish));
    }

-- the end of the flush, as a step
end_over : (w id : ℕ) (rest : List Client) (held : Totals) (n : ℕ) (b : State) → IsValid b → Full w id rest held MAX_SERIAL b → n ≡ b.flushes.start + 1
    → Fresh w id rest held (Next.end (Next.with_flushes b (with_flight b.flushes)) n true).state
end_over w id rest held n b valid full is =
    let s = Next.with_flushes b (with_flight b.flushes) in
    let over = only_flush b.flushes n full.lone.quiet is valid.flushes in
    let there : not (is_in_flight n (with_flight b.flushes).in_flight) ≡ false = ap not over.there in
    let goes = unless_taken (Next.end_tests s.flushes n) s (record { reply = reply.Ended; state = Next.with_flushes s (after_end s.flushes n true) }) (rw there refl) in
    subst (λ (x : Next.Next). Fresh w id rest held x.state) (sym goes) (after_flush w id rest held n b valid full is)

pub end_lone : (w id : ℕ) (rest : List Client) (held : Totals) (n : ℕ) (s : State) (r : Reply) (t : State) → Flying w id rest held n s → Takes s (step.End n true) r t → Fresh w id rest held t
unfolding Takes
end_lone w id rest held n s r t f h =
    let goes : t ≡ (Next.end (Next.with_flushes f.before (with_flight f.before.flushes)) n true).state = h.2 ∙ ap (λ (x : State). (Next.end x n true).state) f.is in
    subst (λ (x : State). Fresh w id rest held x) (sym goes) (end_over w id rest held n f.before f.sound f.full f.number)
