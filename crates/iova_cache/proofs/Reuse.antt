-- What is given up is given again only where a flush that began afterwards has ended well.
use Rattle.std.proofs.Common.{◌≡◌, ◌≢◌, ◌+◌, ◌<◌, ◌≤◌, ◌==◌, ◌⊎◌, inl, inr, ℕ, zero, suc, Bool, true, false, nat_lt, List, [], ◌∷◌, ◌++◌, take, Some, refl, sym, ap, ◌∙◌, subst, arith, sum_by}
use Rattle.std.specs.Prelude.{slice_get}
use Rattle.std.proofs.lemmas.Bool.Decides.{nat_tests}
use Rattle.std.proofs.lemmas.List.Sums.{sum_by-cons}
use Rattle.iova_range.specs.Frames.{Frames, covers}
use Rattle.iova_model.specs.declared.step.Step.{Step}
use Rattle.iova_model.specs.declared.step.Step.TheVariants as step
use Rattle.iova_model.specs.declared.step.Reply.TheVariants as reply
use Rattle.iova_model.specs.declared.flight.Flight.{Flight}
use Rattle.iova_model.specs.Flushes.{Flushes, NumbersRise, with_flight, after_end, is_in_flight, without_flight, passed_on}
use Rattle.iova_model.specs.State.{State}
use Rattle.iova_model.specs.Effects.{client_named, held_by, IsReplyTo}
use Rattle.iova_core.specs.Domain.{IsStepOf}
use Rattle.iova_cache.specs.Held.{Gains}
use Rattle.iova_cache.specs.Caches.{CacheState, entry_at, ranges_of}
use Rattle.iova_cache.specs.Exchanges.{giving_up}
use Rattle.iova_cache.specs.Laws.{Act}
use Rattle.iova_cache.specs.Laws.Act.{Gives, TakesBack, Settles, Refills, Spills, Asks, Returns, Puts, Takes, Keeps, Releases, Grows, Refuses}
use Rattle.iova_cache.specs.Worlds.{World, IsWorld, WorldEvent, AreOthers, NamesNone, Happens, Goes, has_frame, held_over}
use Rattle.iova_cache.specs.Worlds.WorldEvent.{Acts, Steps, Denies, Opens, Leaves}
use Rattle.iova_cache.specs.Reuse.{IsTold, GoesTold, GivesUp, GivesTo, IsGivenUpAt, IsGivenAt, IsWholeFlush, IsFlushedBetween}
use Rattle.iova_cache.proofs.Domains.{given_held, same_range}
use Rattle.iova_cache.proofs.Worlds.{only_went, acts_cover, one_event}
use Rattle.iova_cache.proofs.Steps.{WaitsIn, WaitsSome, waits_last, queued_waits}
use Rattle.iova_cache.proofs.Users.{others_once, two_once}
use Rattle.iova_cache.proofs.Pending.{StepLaws, EventMoves, event_moves, event_starts, event_newest, Pending, Cached, has_one, cached_placed, cached_beside, rings_weigh, held_placed, unused, pending_event, ring_pending}
use Rattle.iova_cache.proofs.Pending.Pending.{cached, ringed, left}

-- Flushes by their numbers, and the events that begin and end them.

rises_low : (low : ℕ) (fs : List Flight) (top : ℕ) → NumbersRise low fs top → low ≤ top
rises_low low [] top h = h
rises_low low (f ∷ fs) top h = omega (arith, h.0, rises_low f.number fs top h.1)

flies_below : (n low : ℕ) (fs : List Flight) (top : ℕ) → NumbersRise low fs top → is_in_flight n fs ≡ true → n ≤ top
flies_below n low [] top h flies = absurd cc
flies_below n low (f ∷ fs) top h flies = let at = rises_low f.number fs top h.1 in grind (arith, nat_tests, flies_below n f.number fs top h.1)

flies_pushed : (n : ℕ) (fs : List Flight) (m credit : ℕ) → is_in_flight n (fs ++ record { number = m; credit = credit } ∷ []) ≡ true → (is_in_flight n fs ≡ true) ⊎ (n ≡ m)
flies_pushed n [] m credit flies = inr (grind (arith, nat_tests))
flies_pushed n (f ∷ fs) m credit flies = grind (arith, nat_tests, flies_pushed n fs m credit)

flies_without : (n m : ℕ) (fs : List Flight) → is_in_flight n (without_flight m fs) ≡ true → is_in_flight n fs ≡ true
flies_without n m [] flies = flies
flies_without n m (f ∷ fs) flies = grind (arith, nat_tests, flies_without n m fs)

flies_passed : (n m : ℕ) (fs : List Flight) → is_in_flight n (passed_on m fs) ≡ true → is_in_flight n fs ≡ true
flies_passed n m [] flies = flies
flies_passed n m (f ∷ []) flies = grind (arith, nat_tests)
flies_passed n m (f ∷ e ∷ fs) flies = grind (arith, nat_tests, flies_passed n m (e ∷ fs))

abbrev Whole : List WorldEvent → Type 0
Whole es = (b : ℕ) × ((d : ℕ) × IsWholeFlush es b d)

-- one with a greater number ends well, which is in flight at the start
abbrev EndsOne : ℕ → List WorldEvent → World → Type 0
EndsOne k es w = (d : ℕ) × ((n : ℕ) × ((slice_get es d ≡ Some (Steps (step.End n true) reply.Ended)) × ((k < n) × (is_in_flight n w.domain.flushes.in_flight ≡ true))))

whole_later : (e : WorldEvent) (es : List WorldEvent) → Whole es → Whole (e ∷ es)
whole_later e es h =
    let f = h.1.1 in
    (suc h.0, (suc h.1.0, record { number = f.number; begins = f.begins; ends = f.ends; order = omega (arith, f.order) }))

ends_later : (k : ℕ) (e : WorldEvent) (es : List WorldEvent) (w u : World) → ((n : ℕ) → is_in_flight n u.domain.flushes.in_flight ≡ true → is_in_flight n w.domain.flushes.in_flight ≡ true) → EndsOne k es u → EndsOne k (e ∷ es) w
ends_later k e es w u back h = (suc h.0, (h.1.0, (h.1.1.0, (h.1.1.1.0, back h.1.0 h.1.1.1.1))))

either_later : (k : ℕ) (e : WorldEvent) (es : List WorldEvent) (w u : World) → ((n : ℕ) → is_in_flight n u.domain.flushes.in_flight ≡ true → is_in_flight n w.domain.flushes.in_flight ≡ true) → Whole es ⊎ EndsOne k es u → Whole (e ∷ es) ⊎ EndsOne k (e ∷ es) w
either_later k e es w u back (inl h) = inl (whole_later e es h)
either_later k e es w u back (inr h) = inr (ends_later k e es w u back h)

either_begin : (k : ℕ) (e : WorldEvent) (es : List WorldEvent) (w u : World) → e ≡ Steps step.Begin (reply.Begun (w.domain.flushes.start + 1)) → u.domain.flushes ≡ with_flight w.domain.flushes → Whole es ⊎ EndsOne k es u → Whole (e ∷ es) ⊎ EndsOne k (e ∷ es) w
either_begin k e es w u is same (inl h) = inl (whole_later e es h)
either_begin k e es w u is same (inr h) =
    let n = h.1.0 in
    let there : is_in_flight n (with_flight w.domain.flushes).in_flight ≡ true = subst (λ (f : Flushes). is_in_flight n f.in_flight ≡ true) same h.1.1.1.1 in
    which (flies_pushed n w.domain.flushes.in_flight (w.domain.flushes.start + 1) (1 + w.domain.flushes.owed) there)
  where
    which : (is_in_flight h.1.0 w.domain.flushes.in_flight ≡ true) ⊎ (h.1.0 ≡ w.domain.flushes.start + 1) → Whole (e ∷ es) ⊎ EndsOne k (e ∷ es) w
    which (inl old) = inr (suc h.0, (h.1.0, (h.1.1.0, (h.1.1.1.0, old))))
    which (inr new) =
        let begun = ap (λ e. Some e) is ∙ ap (λ (n : ℕ). Some (Steps step.Begin (reply.Begun n))) (sym new) in
        inl (0, (suc h.0, record { number = h.1.0; begins = begun; ends = h.1.1.0; order = omega arith }))

either_end : (k : ℕ) (e : WorldEvent) (es : List WorldEvent) (w u : World) (n : ℕ) (ok : Bool) → e ≡ Steps (step.End n ok) reply.Ended → is_in_flight n w.domain.flushes.in_flight ≡ true → u.domain.flushes ≡ after_end w.domain.flushes n ok
    → w.domain.flushes.newest ≤ k → (u.domain.flushes.newest ≤ k → Whole es ⊎ EndsOne k es u) → Whole (e ∷ es) ⊎ EndsOne k (e ∷ es) w
either_end k e es w u n false is flies same low rest =
    let now = ap (λ (f : Flushes). f.newest) same in
    either_later k e es w u (λ m at. flies_passed m n w.domain.flushes.in_flight (subst (λ (f : Flushes). is_in_flight m f.in_flight ≡ true) same at)) (rest (omega (arith, now, low)))
either_end k e es w u n true is flies same low rest = which (nat_lt k n) refl
  where
    which : (b : Bool) → nat_lt k n ≡ b → Whole (e ∷ es) ⊎ EndsOne k (e ∷ es) w
    which true lt = inr (0, (n, (ap (λ e. Some e) is, (grind (arith, nat_tests), flies))))
    which false ge =
        let now = ap (λ (f : Flushes). f.newest) same in
        either_later k e es w u (λ m at. flies_without m n w.domain.flushes.in_flight (subst (λ (f : Flushes). is_in_flight m f.in_flight ≡ true) same at)) (rest (grind (arith, nat_tests)))

flush_found : (k : ℕ) (es : List WorldEvent) (w v : World) → Goes es w v → w.domain.flushes.newest ≤ k → k < v.domain.flushes.newest → Whole es ⊎ EndsOne k es w
flush_found k [] w v h low lt = absurd (let same = ap (λ (w : World). w.domain.flushes.newest) h in omega (arith, same, low, lt))
flush_found k (e ∷ es) w v h low lt = moved (event_moves e w h.0 h.1.0) (λ low. flush_found k es h.0 v h.1.1 low lt)
  where
    moved : EventMoves e w h.0 → (h.0.domain.flushes.newest ≤ k → Whole es ⊎ EndsOne k es h.0) → Whole (e ∷ es) ⊎ EndsOne k (e ∷ es) w
    moved (inl same) rest =
        let now = ap (λ (f : Flushes). f.newest) same in
        either_later k e es w h.0 (λ n at. subst (λ (f : Flushes). is_in_flight n f.in_flight ≡ true) same at) (rest (omega (arith, now, low)))
    moved (inr (inl b)) rest =
        let now = ap (λ (f : Flushes). f.newest) b.1 in
        either_begin k e es w h.0 b.0 b.1 (rest (omega (arith, now, low)))
    moved (inr (inr d)) rest = either_end k e es w h.0 d.0 d.1.0 d.1.1.0 d.1.1.1.0 d.1.1.1.1 low rest

-- where one with a greater number than that of the last that had begun has ended well, it began meanwhile
whole_flush : (k : ℕ) (es : List WorldEvent) (w v : World) → IsWorld w → Goes es w v → w.domain.flushes.start ≤ k → k < v.domain.flushes.newest → Whole es
whole_flush k es w v is h late lt = only (flush_found k es w v h (let low = is.valid.flushes.newest in omega (arith, low, late)) lt)
  where
    only : Whole es ⊎ EndsOne k es w → Whole es
    only (inl f) = f
    only (inr e) = absurd (let top = flies_below e.1.0 0 w.domain.flushes.in_flight w.domain.flushes.start is.valid.flushes.rising e.1.1.1.1 in omega (arith, top, e.1.1.1.0, late))

-- What is given is no longer pending.

gained_held : (frame : ℕ) (r : Frames) (old new : List Frames) → Gains r old new → covers frame r ≡ true → 1 ≤ sum_by (has_frame frame) new
gained_held frame r old new gains is = omega (arith, gains (has_frame frame), has_one frame r is)

act_given : StepLaws → (frame least : ℕ) (before later : List CacheState) (a : Act) (old new : CacheState) (came went : List Frames) (w v : World) → IsWorld w → IsWorld v → Happens (Acts before later a old new came went) w v
    → IsTold (Acts before later a old new came went) w.domain → least ≤ w.domain.flushes.start → 1 ≤ sum_by (has_frame frame) new.held → Pending frame least w → least < w.domain.flushes.newest
act_given laws frame least before later a old new came went w v is now h told late held p = only (pending_event laws frame least (Acts before later a old new came went) w v is h told late p)
  where
    used : 1 ≤ sum_by (has_frame frame) (held_over v.caches)
    used = rw h.1.0 (held_placed frame before later new held)

    only : Pending frame least v ⊎ (least < w.domain.flushes.newest) → least < w.domain.flushes.newest
    only (inl q) = absurd (unused frame least v now used q)
    only (inr lt) = lt

others_named : (st : Step) (id : ℕ) (cs : List CacheState) → client_named st ≡ Some id → NamesNone st cs → AreOthers id cs
others_named st id [] is none = tt
others_named st id (c ∷ cs) is none = ((λ same. none.0 (is ∙ ap (λ (n : ℕ). Some n) (sym same))), others_named st id cs is none.1)

alloc_given : StepLaws → (frame least worker id frames limit : ℕ) (r : Frames) (w v : World) → IsWorld w → IsWorld v → IsStepOf w.domain (step.Alloc worker id frames limit) (reply.Given r) v.domain → v.caches ≡ w.caches → AreOthers id w.caches
    → covers frame r ≡ true → Pending frame least w → least < w.domain.flushes.newest
alloc_given laws frame least worker id frames limit r w v is now h caches others has p = given p
  where
    there : AreOthers id v.caches
    there = subst (AreOthers id) (sym caches) others

    held : 1 + sum_by (has_frame frame) (held_by id w.domain.clients) ≤ sum_by (has_frame frame) (held_by id v.domain.clients)
    held = omega (arith, given_held (has_frame frame) w.domain v.domain worker id frames limit r h, has_one frame r has)

    ring : WaitsSome frame least v.domain.rings ⊎ (least < w.domain.flushes.newest) → least < w.domain.flushes.newest
    ring (inl x) = absurd (omega (arith, held, rings_weigh frame least v.domain.rings x, others_once v frame id now there))
    ring (inr lt) = lt

    other : (old : ℕ) → 1 ≤ sum_by (has_frame frame) (held_by old w.domain.clients) → (b : Bool) → (old == id) ≡ b → ⊥
    other old some true same =
        let one : old ≡ id = grind (arith, nat_tests) in
        let twice = subst (λ (n : ℕ). 1 ≤ sum_by (has_frame frame) (held_by n w.domain.clients)) one some in
        absurd (omega (arith, held, twice, others_once v frame id now there))
    other old some false differ =
        let ne : old ≢ id = λ same. absurd (grind (arith, nat_tests)) in
        let kept = ap (λ (s : State). held_by old s.clients) h.2 ∙ laws.others w.domain (step.Alloc worker id frames limit) h.0 old (λ same. let one : id ≡ old = cc in ne (sym one)) in
        let weight = ap (λ l. sum_by (has_frame frame) l) kept in
        absurd (omega (arith, held, weight, some, two_once v frame old id now ne))

    given : Pending frame least w → least < w.domain.flushes.newest
    given (cached x) = absurd (omega (arith, held, cached_beside frame least v.caches (subst (Cached frame least) (sym caches) x), others_once v frame id now there))
    given (ringed x) = ring (ring_pending frame least w.domain v.domain (step.Alloc worker id frames limit) (reply.Given r) is.valid h x)
    given (left old apart some) = absurd (other old some (old == id) refl)

step_given : StepLaws → (frame least : ℕ) (st : Step) (r : Frames) (w v : World) → IsWorld w → IsWorld v → Happens (Steps st (reply.Given r)) w v → covers frame r ≡ true → Pending frame least w → least < w.domain.flushes.newest
step_given laws frame least (step.Alloc worker id frames limit) r w v is now h has p = alloc_given laws frame least worker id frames limit r w v is now h.0 h.1.0 (others_named (step.Alloc worker id frames limit) id w.caches refl h.1.1) has p
step_given laws frame least (step.Reserve lo hi) r w v is now h has p = absurd (subst (λ r. IsReplyTo (step.Reserve lo hi) r) (sym h.0.1) (laws.kinds w.domain (step.Reserve lo hi) h.0.0))
step_given laws frame least (step.Open worker sac) r w v is now h has p = absurd (subst (λ r. IsReplyTo (step.Open worker sac) r) (sym h.0.1) (laws.kinds w.domain (step.Open worker sac) h.0.0))
step_given laws frame least (step.Unmap worker id lo) r w v is now h has p = absurd (subst (λ r. IsReplyTo (step.Unmap worker id lo) r) (sym h.0.1) (laws.kinds w.domain (step.Unmap worker id lo) h.0.0))
step_given laws frame least step.Begin r w v is now h has p = absurd (subst (λ r. IsReplyTo step.Begin r) (sym h.0.1) (laws.kinds w.domain step.Begin h.0.0))
step_given laws frame least (step.End n ok) r w v is now h has p = absurd (subst (λ r. IsReplyTo (step.End n ok) r) (sym h.0.1) (laws.kinds w.domain (step.End n ok) h.0.0))
step_given laws frame least (step.Drain ring by) r w v is now h has p = absurd (subst (λ r. IsReplyTo (step.Drain ring by) r) (sym h.0.1) (laws.kinds w.domain (step.Drain ring by) h.0.0))
step_given laws frame least (step.Close worker id) r w v is now h has p = absurd (subst (λ r. IsReplyTo (step.Close worker id) r) (sym h.0.1) (laws.kinds w.domain (step.Close worker id) h.0.0))
step_given laws frame least (step.CloseOne worker id) r w v is now h has p = absurd (subst (λ r. IsReplyTo (step.CloseOne worker id) r) (sym h.0.1) (laws.kinds w.domain (step.CloseOne worker id) h.0.0))

event_given : StepLaws → (frame least : ℕ) (e : WorldEvent) (w v : World) → IsWorld w → IsWorld v → Happens e w v → IsTold e w.domain → least ≤ w.domain.flushes.start → GivesTo frame e → Pending frame least w → least < w.domain.flushes.newest
event_given laws frame least (Acts before later (Gives order limit r) old new came went) w v is now h told late gives p =
    act_given laws frame least before later (Gives order limit r) old new came went w v is now h told late (gained_held frame r old.held new.held h.1.1.0.0.held gives) p
event_given laws frame least (Acts before later (Asks s t frames limit r) old new came went) w v is now h told late gives p =
    act_given laws frame least before later (Asks s t frames limit r) old new came went w v is now h told late (gained_held frame r old.held new.held h.1.1.0.0.held gives) p
event_given laws frame least (Acts before later (TakesBack r count) old new came went) w v is now h told late gives p = absurd gives
event_given laws frame least (Acts before later (Settles newest count) old new came went) w v is now h told late gives p = absurd gives
event_given laws frame least (Acts before later (Refills s t frames limit most count) old new came went) w v is now h told late gives p = absurd gives
event_given laws frame least (Acts before later (Spills s t order most count) old new came went) w v is now h told late gives p = absurd gives
event_given laws frame least (Acts before later (Returns s t lo r) old new came went) w v is now h told late gives p = absurd gives
event_given laws frame least (Acts before later (Puts order r) old new came went) w v is now h told late gives p = absurd gives
event_given laws frame least (Acts before later (Takes order r) old new came went) w v is now h told late gives p = absurd gives
event_given laws frame least (Acts before later (Keeps r) old new came went) w v is now h told late gives p = absurd gives
event_given laws frame least (Acts before later (Releases lo r) old new came went) w v is now h told late gives p = absurd gives
event_given laws frame least (Acts before later Grows old new came went) w v is now h told late gives p = absurd gives
event_given laws frame least (Acts before later Refuses old new came went) w v is now h told late gives p = absurd gives
event_given laws frame least (Steps st (reply.Given r)) w v is now h told late gives p = step_given laws frame least st r w v is now h gives p
event_given laws frame least (Steps st (reply.Reserved r)) w v is now h told late gives p = absurd gives
event_given laws frame least (Steps st (reply.Opened id)) w v is now h told late gives p = absurd gives
event_given laws frame least (Steps st (reply.Queued r)) w v is now h told late gives p = absurd gives
event_given laws frame least (Steps st (reply.Begun n)) w v is now h told late gives p = absurd gives
event_given laws frame least (Steps st reply.Ended) w v is now h told late gives p = absurd gives
event_given laws frame least (Steps st (reply.Drained n)) w v is now h told late gives p = absurd gives
event_given laws frame least (Steps st (reply.Marked n)) w v is now h told late gives p = absurd gives
event_given laws frame least (Steps st reply.Empty) w v is now h told late gives p = absurd gives
event_given laws frame least (Steps st (reply.Refused x)) w v is now h told late gives p = absurd gives
event_given laws frame least (Denies st x) w v is now h told late gives p = absurd gives
event_given laws frame least (Opens worker sac id) w v is now h told late gives p = absurd gives
event_given laws frame least (Leaves before later c) w v is now h told late gives p = absurd gives

-- What is given up is pending.

event_up : StepLaws → (frame : ℕ) (e : WorldEvent) (w v : World) → IsWorld w → Happens e w v → IsTold e w.domain → GivesUp frame e → Pending frame w.domain.flushes.start v
event_up laws frame (Acts before later (TakesBack r count) old new came went) w v is h told up =
    let least = w.domain.flushes.start in
    let waits = subst (WaitsIn frame least) (sym h.1.1.0.0.ring) (waits_last frame least old.ring (entry_at r count) up told) in
    cached (subst (Cached frame least) (sym h.1.0) (cached_placed frame least before later new waits))
event_up laws frame (Acts before later (Returns a b lo r) old new came went) w v is h told up =
    let least = w.domain.flushes.start in
    let d = h.1.1.0 in
    let at = h.1.1.1 in
    let q = d.1.0.step.0 in
    let taken : IsStepOf w.domain (giving_up old lo) (reply.Queued q) v.domain = rw (at.0, at.1) d.1.0.step.1 in
    let covers_all = acts_cover before later (Returns a b lo r) old new came went w v is h in
    let went_one = only_went old w.domain came went (ranges_of new) (r ∷ []) covers_all.1 d.1.1.0 d.1.1.1 in
    let has : (weigh : Frames → ℕ) → sum_by weigh (held_by old.client w.domain.clients) ≡ weigh r + sum_by weigh (ranges_of new) = λ weigh. omega (arith, went_one weigh, sum_by-cons weigh r []) in
    let one : q ≡ r = same_range w.domain v.domain old.worker old.client lo q r (ranges_of new) is.valid taken has d.0 in
    let covered : covers frame q ≡ true = ap (λ r. covers frame r) one ∙ up in
    ringed (queued_waits laws.kinds frame least w.domain v.domain (giving_up old lo) q is.valid (omega arith) taken covered)
event_up laws frame (Acts before later (Gives order limit r) old new came went) w v is h told up = absurd up
event_up laws frame (Acts before later (Settles newest count) old new came went) w v is h told up = absurd up
event_up laws frame (Acts before later (Refills s t frames limit most count) old new came went) w v is h told up = absurd up
event_up laws frame (Acts before later (Spills s t order most count) old new came went) w v is h told up = absurd up
event_up laws frame (Acts before later (Asks s t frames limit r) old new came went) w v is h told up = absurd up
event_up laws frame (Acts before later (Puts order r) old new came went) w v is h told up = absurd up
event_up laws frame (Acts before later (Takes order r) old new came went) w v is h told up = absurd up
event_up laws frame (Acts before later (Keeps r) old new came went) w v is h told up = absurd up
event_up laws frame (Acts before later (Releases lo r) old new came went) w v is h told up = absurd up
event_up laws frame (Acts before later Grows old new came went) w v is h told up = absurd up
event_up laws frame (Acts before later Refuses old new came went) w v is h told up = absurd up
event_up laws frame (Steps st (reply.Queued r)) w v is h told up = ringed (queued_waits laws.kinds frame w.domain.flushes.start w.domain v.domain st r is.valid (omega arith) h.0 up)
event_up laws frame (Steps st (reply.Given r)) w v is h told up = absurd up
event_up laws frame (Steps st (reply.Reserved r)) w v is h told up = absurd up
event_up laws frame (Steps st (reply.Opened id)) w v is h told up = absurd up
event_up laws frame (Steps st (reply.Begun n)) w v is h told up = absurd up
event_up laws frame (Steps st reply.Ended) w v is h told up = absurd up
event_up laws frame (Steps st (reply.Drained n)) w v is h told up = absurd up
event_up laws frame (Steps st (reply.Marked n)) w v is h told up = absurd up
event_up laws frame (Steps st reply.Empty) w v is h told up = absurd up
event_up laws frame (Steps st (reply.Refused x)) w v is h told up = absurd up
event_up laws frame (Denies st x) w v is h told up = absurd up
event_up laws frame (Opens worker sac id) w v is h told up = absurd up
event_up laws frame (Leaves before later c) w v is h told up = absurd up

-- Several events.

next_world : StepLaws → (e : WorldEvent) (w v : World) → IsWorld w → Happens e w v → IsWorld v
next_world laws e w v is h = one_event laws.others laws.refusals laws.valid e w v is h

-- so many of them lead to a world in which a flush with a greater number has ended well
abbrev FlushedBefore : ℕ → List WorldEvent → World → ℕ → Type 0
FlushedBefore least es w n = (u : World) × (Goes (take n es) w u × (least < u.domain.flushes.newest))

before_later : (least : ℕ) (e : WorldEvent) (es : List WorldEvent) (w u : World) (n : ℕ) → Happens e w u → FlushedBefore least es u n → FlushedBefore least (e ∷ es) w (suc n)
before_later least e es w u n h f = (f.0, ((u, (h, f.1.0)), f.1.1))

stays_flushed : (least : ℕ) (es : List WorldEvent) (w v : World) (n : ℕ) → GoesTold es w v → least < w.domain.flushes.newest → FlushedBefore least es w n
stays_flushed least es w v zero h lt = (w, (refl, lt))
stays_flushed least [] w v (suc n) h lt = (w, (refl, lt))
stays_flushed least (e ∷ es) w v (suc n) h lt =
    let more = event_newest e w h.0 (event_moves e w h.0 h.1.0) in
    before_later least e es w h.0 n h.1.0 (stays_flushed least es h.0 v n h.1.1.1 (omega (arith, more, lt)))

pending_flushed : StepLaws → (frame least : ℕ) (es : List WorldEvent) (w v : World) (n : ℕ) (g : WorldEvent) → IsWorld w → GoesTold es w v → least ≤ w.domain.flushes.start → Pending frame least w → slice_get es n ≡ Some g → GivesTo frame g
    → FlushedBefore least es w n
pending_flushed laws frame least [] w v n g is h late p at gives = absurd cc
pending_flushed laws frame least (e ∷ es) w v zero g is h late p at gives =
    let same : e ≡ g = cc in
    let now = next_world laws e w h.0 is h.1.0 in
    let lt = event_given laws frame least e w h.0 is now h.1.0 h.1.1.0 late (subst (GivesTo frame) (sym same) gives) p in
    (w, (refl, lt))
pending_flushed laws frame least (e ∷ es) w v (suc n) g is h late p at gives =
    before_later least e es w h.0 n h.1.0 (went (pending_event laws frame least e w h.0 is h.1.0 h.1.1.0 late p) (λ q. pending_flushed laws frame least es h.0 v n g (next_world laws e w h.0 is h.1.0) h.1.1.1 later q at gives))
  where
    later : least ≤ h.0.domain.flushes.start
    later = let more = event_starts e w h.0 (event_moves e w h.0 h.1.0) in omega (arith, more, late)

    went : Pending frame least h.0 ⊎ (least < w.domain.flushes.newest) → (Pending frame least h.0 → FlushedBefore least es h.0 n) → FlushedBefore least es h.0 n
    went (inl q) rest = rest q
    went (inr lt) rest = let more = event_newest e w h.0 (event_moves e w h.0 h.1.0) in stays_flushed least es h.0 v n h.1.1.1 (omega (arith, more, lt))

get_taken : {A : Type 0} (n : ℕ) (xs : List A) (i : ℕ) (x : A) → slice_get (take n xs) i ≡ Some x → (i < n) × (slice_get xs i ≡ Some x)
get_taken zero xs i x is = absurd cc
get_taken (suc n) [] i x is = absurd cc
get_taken (suc n) (y ∷ ys) zero x is = (omega arith, is)
get_taken (suc n) (y ∷ ys) (suc i) x is = let h = get_taken n ys i x is in (omega (arith, h.0), h.1)

goes_untold : (es : List WorldEvent) (w v : World) → GoesTold es w v → Goes es w v
goes_untold [] w v h = h
goes_untold (e ∷ es) w v h = (h.0, (h.1.0, goes_untold es h.0 v h.1.1.1))

not_begun : (frame n : ℕ) (e : WorldEvent) → GivesUp frame e → e ≡ Steps step.Begin (reply.Begun n) → ⊥
not_begun frame n e up is = absurd (subst (GivesUp frame) is up)

pub reused : StepLaws → (frame : ℕ) (es : List WorldEvent) (w v : World) (i n : ℕ) → IsWorld w → GoesTold es w v → i < n → IsGivenUpAt es i frame → IsGivenAt es n frame → IsFlushedBetween es i n
reused laws frame es w v i zero is h lt up gives = absurd (omega arith)
reused laws frame [] w v i (suc n) is h lt up gives = absurd (let at = up.is in cc)
reused laws frame (e ∷ es) w v zero (suc n) is h lt up gives =
    let least = w.domain.flushes.start in
    let same : e ≡ up.event = let at = up.is in cc in
    let first = subst (GivesUp frame) (sym same) up.up in
    let p = event_up laws frame e w h.0 is h.1.0 h.1.1.0 first in
    let now = next_world laws e w h.0 is h.1.0 in
    let more = event_starts e w h.0 (event_moves e w h.0 h.1.0) in
    let f = pending_flushed laws frame least es h.0 v n gives.event now h.1.1.1 more p gives.is gives.gives in
    let all : FlushedBefore least (e ∷ es) w (suc n) = before_later least e es w h.0 n h.1.0 f in
    let whole = whole_flush least (take (suc n) (e ∷ es)) w all.0 is all.1.0 (omega arith) all.1.1 in
    between whole first
  where
    between : Whole (take (suc n) (e ∷ es)) → GivesUp frame e → IsFlushedBetween (e ∷ es) zero (suc n)
    between f first =
        let begun = get_taken (suc n) (e ∷ es) f.0 _ f.1.1.begins in
        let ended = get_taken (suc n) (e ∷ es) f.1.0 _ f.1.1.ends in
        record {
          began = f.0;
          done = f.1.0;
          whole = record { number = f.1.1.number; begins = begun.1; ends = ended.1; order = f.1.1.order };
          later = after f.0 begun.1 first;
          earlier = ended.0;
        }
      where
        after : (b : ℕ) → slice_get (e ∷ es) b ≡ Some (Steps step.Begin (reply.Begun f.1.1.number)) → GivesUp frame e → zero < b
        after zero at first = absurd (not_begun frame f.1.1.number e first (cc (at)))
        after (suc b) at first = omega arith
reused laws frame (e ∷ es) w v (suc i) (suc n) is h lt up gives =
    let now = next_world laws e w h.0 is h.1.0 in
    let f = reused laws frame es h.0 v i n now h.1.1.1 (omega (arith, lt)) (record { event = up.event; is = up.is; up = up.up }) (record { event = gives.event; is = gives.is; gives = gives.gives }) in
    record {
      began = suc f.began;
      done = suc f.done;
      whole = record { number = f.whole.number; begins = f.whole.begins; ends = f.whole.ends; order = omega (arith, f.whole.order) };
      later = omega (arith, f.later);
      earlier = omega (arith, f.earlier);
    }
