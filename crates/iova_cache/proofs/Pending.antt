-- A frame that was given up is pending until a flush that began afterwards has ended well: it waits in the ring of a cache or of
-- the domain, or a client holds it whose cache was left.
use Rattle.std.proofs.Common.{◌≡◌, ◌≢◌, ◌+◌, ◌<◌, ◌≤◌, ◌⊎◌, inl, inr, ℕ, zero, suc, Bool, true, false, List, [], ◌∷◌, ◌++◌, map, take, drop, refl, sym, ap, ◌∙◌, subst, arith, sum_by}
use Rattle.std.specs.List.{AllByRecursion}
use Rattle.std.proofs.lemmas.Bool.Decides.{nat_tests}
use Rattle.std.proofs.lemmas.List.Sums.{sum_by-append, sum_by-cons}
use Rattle.iova_range.specs.Frames.{Frames, covers}
use Rattle.iova_model.specs.declared.entry.Entry.{Entry}
use Rattle.iova_model.specs.declared.step.Step.{Step}
use Rattle.iova_model.specs.declared.step.Step.TheVariants as step
use Rattle.iova_model.specs.declared.step.Reply.{Reply}
use Rattle.iova_model.specs.declared.step.Reply.TheVariants as reply
use Rattle.iova_model.specs.Flushes.{Flushes, entry_range, with_flight, after_end, is_in_flight}
use Rattle.iova_model.specs.State.{State}
use Rattle.iova_model.specs.Valid.{IsValid}
use Rattle.iova_model.specs.Effects.{held_by}
use Rattle.iova_model.specs.Laws.{OthersKeepTheirHoldings, RefusalsKeepTheState, StepsKeepValidity, StepsAreAnsweredInKind}
use Rattle.iova_laws.proofs.Weights as weights
use Rattle.iova_core.specs.Domain.{IsStepOf}
use Rattle.iova_cache.specs.Caches.{CacheState, entry_at, ranges_of}
use Rattle.iova_cache.specs.Laws.{Act, Does}
use Rattle.iova_cache.specs.Laws.Act.{Gives, TakesBack, Settles, Refills, Spills, Asks, Returns, Puts, Takes, Keeps, Releases, Grows, Refuses}
use Rattle.iova_cache.specs.Worlds.{World, IsWorld, WorldEvent, AreOthers, AreApart, Moves, IsRequest, Happens, has_frame, held_over}
use Rattle.iova_cache.specs.Worlds.WorldEvent.{Acts, Steps, Denies, Opens, Leaves}
use Rattle.iova_cache.specs.Reuse.{IsActTold, IsTold}
use Rattle.iova_cache.proofs.Worlds.{acts_move, act_keeps, act_client, booked_at, other_at, put_others, drop_others, valid_step}
use Rattle.iova_cache.proofs.Steps.{WaitsIn, WaitsSome, FlushMoves, waits_append, step_keeps, queued_waits, held_or_queued}
use Rattle.iova_cache.proofs.Users.{all_cached, places_weigh, held_within, placed_once, others_once}

-- the laws of the domain's steps that this is proved by
pub record StepLaws : Type 0 where
  pub others : OthersKeepTheirHoldings
  pub refusals : RefusalsKeepTheState
  pub valid : StepsKeepValidity
  pub kinds : StepsAreAnsweredInKind

either_by : {A B X Y : Type 0} → (A → B) → (X → Y) → A ⊎ X → B ⊎ Y
either_by f g (inl a) = inl (f a)
either_by f g (inr x) = inr (g x)

-- What an event does to the flushes.

abbrev pub EventMoves : WorldEvent → World → World → Type 0
EventMoves e w v =
    (v.domain.flushes ≡ w.domain.flushes)
    ⊎ (((e ≡ Steps step.Begin (reply.Begun (w.domain.flushes.start + 1))) × (v.domain.flushes ≡ with_flight w.domain.flushes))
    ⊎ ((n : ℕ) × ((ok : Bool) × ((e ≡ Steps (step.End n ok) reply.Ended) × ((is_in_flight n w.domain.flushes.in_flight ≡ true) × (v.domain.flushes ≡ after_end w.domain.flushes n ok))))))

flush_moves : (s t : State) (st : Step) (r : Reply) → IsStepOf s st r t → FlushMoves s st r t
flush_moves s t st r h = (step_keeps 0 0 s t st r h).1

request_flushes : (s t : State) (st : Step) (r : Reply) → IsRequest st → IsStepOf s st r t → t.flushes ≡ s.flushes
request_flushes s t st r request h = moved (flush_moves s t st r h)
  where
    moved : FlushMoves s st r t → t.flushes ≡ s.flushes
    moved (inl same) = same
    moved (inr (inl begun)) = absurd (subst IsRequest begun.0 request)
    moved (inr (inr ended)) = absurd (subst IsRequest ended.1.1.0 request)

act_flushes : (a : Act) (old new : CacheState) (came went : List Frames) (s t : State) → Does a old came went new → Moves a s t → t.flushes ≡ s.flushes
act_flushes a old new came went s t does moves =
    act_keeps (λ (u : State). u.flushes ≡ s.flushes) (λ x y st r request h p. request_flushes x y st r request h ∙ p) a old new came went s t does moves refl

pub event_moves : (e : WorldEvent) (w v : World) → Happens e w v → EventMoves e w v
event_moves (Acts before later a old new came went) w v h = inl (act_flushes a old new came went w.domain v.domain h.1.1.0 h.1.1.1)
event_moves (Steps st r) w v h = moved (flush_moves w.domain v.domain st r h.0)
  where
    moved : FlushMoves w.domain st r v.domain → EventMoves (Steps st r) w v
    moved (inl same) = inl same
    moved (inr (inl begun)) = inr (inl (ap (λ st. Steps st r) begun.0 ∙ ap (λ r. Steps step.Begin r) begun.1.0, begun.1.1))
    moved (inr (inr ended)) =
        let n = ended.0 in let ok = ended.1.0 in
        inr (inr (n, (ok, (ap (λ st. Steps st r) ended.1.1.0 ∙ ap (λ r. Steps (step.End n ok) r) ended.1.1.1.0, (ended.1.1.1.1.0, ended.1.1.1.1.1)))))
event_moves (Denies st x) w v h = inl (request_flushes w.domain v.domain st (reply.Refused x) h.1.1 h.0)
event_moves (Opens worker sac id) w v h = moved (flush_moves w.domain v.domain (step.Open worker sac) (reply.Opened id) h.0)
  where
    moved : FlushMoves w.domain (step.Open worker sac) (reply.Opened id) v.domain → EventMoves (Opens worker sac id) w v
    moved (inl same) = inl same
    moved (inr (inl begun)) = absurd (let bad : step.Open worker sac ≡ step.Begin = begun.0 in cc)
    moved (inr (inr ended)) = absurd (let bad : step.Open worker sac ≡ step.End ended.0 ended.1.0 = ended.1.1.0 in cc)
event_moves (Leaves before later c) w v h = inl (ap (λ (s : State). s.flushes) h.1.1)

pub event_starts : (e : WorldEvent) (w v : World) → EventMoves e w v → w.domain.flushes.start ≤ v.domain.flushes.start
event_starts e w v (inl h) = let a = ap (λ (f : Flushes). f.start) h in omega (arith, a)
event_starts e w v (inr (inl h)) = let a = ap (λ (f : Flushes). f.start) h.1 in omega (arith, a)
event_starts e w v (inr (inr h)) = ended h.1.0 h.1.1.1.1
  where
    ended : (ok : Bool) → v.domain.flushes ≡ after_end w.domain.flushes h.0 ok → w.domain.flushes.start ≤ v.domain.flushes.start
    ended true is = let a = ap (λ (f : Flushes). f.start) is in omega (arith, a)
    ended false is = let a = ap (λ (f : Flushes). f.start) is in omega (arith, a)

pub event_newest : (e : WorldEvent) (w v : World) → EventMoves e w v → w.domain.flushes.newest ≤ v.domain.flushes.newest
event_newest e w v (inl h) = let a = ap (λ (f : Flushes). f.newest) h in omega (arith, a)
event_newest e w v (inr (inl h)) = let a = ap (λ (f : Flushes). f.newest) h.1 in omega (arith, a)
event_newest e w v (inr (inr h)) = ended h.1.0 h.1.1.1.1
  where
    ended : (ok : Bool) → v.domain.flushes ≡ after_end w.domain.flushes h.0 ok → w.domain.flushes.newest ≤ v.domain.flushes.newest
    ended true is = let a = ap (λ (f : Flushes). f.newest) is in grind (arith, nat_tests)
    ended false is = let a = ap (λ (f : Flushes). f.newest) is in omega (arith, a)

-- The rings of the caches.

abbrev pub Cached : ℕ → ℕ → List CacheState → Type 0
Cached frame least [] = ⊥
Cached frame least (c ∷ cs) = WaitsIn frame least c.ring ⊎ Cached frame least cs

pub data Pending (frame least : ℕ) (w : World) : Type 0 where
  cached : Cached frame least w.caches → Pending frame least w
  ringed : WaitsSome frame least w.domain.rings → Pending frame least w
  left : (id : ℕ) → AreOthers id w.caches → 1 ≤ sum_by (has_frame frame) (held_by id w.domain.clients) → Pending frame least w

cached_swapped : (frame least : ℕ) (X : Type 0) (before later : List CacheState) (old new : CacheState) → (WaitsIn frame least old.ring → WaitsIn frame least new.ring ⊎ X)
    → Cached frame least (before ++ old ∷ later) → Cached frame least (before ++ new ∷ later) ⊎ X
cached_swapped frame least X [] later old new one (inl h) = either_by (λ w. inl w) (λ x. x) (one h)
cached_swapped frame least X [] later old new one (inr h) = inl (inr h)
cached_swapped frame least X (b ∷ bs) later old new one (inl h) = inl (inl h)
cached_swapped frame least X (b ∷ bs) later old new one (inr h) = either_by (λ w. inr w) (λ x. x) (cached_swapped frame least X bs later old new one h)

cached_dropped : (frame least : ℕ) (before later : List CacheState) (c : CacheState) → Cached frame least (before ++ c ∷ later) → Cached frame least (before ++ later) ⊎ WaitsIn frame least c.ring
cached_dropped frame least [] later c (inl h) = inr h
cached_dropped frame least [] later c (inr h) = inl h
cached_dropped frame least (b ∷ bs) later c (inl h) = inl (inl h)
cached_dropped frame least (b ∷ bs) later c (inr h) = either_by (λ w. inr w) (λ x. x) (cached_dropped frame least bs later c h)

pub cached_placed : (frame least : ℕ) (before later : List CacheState) (new : CacheState) → WaitsIn frame least new.ring → Cached frame least (before ++ new ∷ later)
cached_placed frame least [] later new h = inl h
cached_placed frame least (b ∷ bs) later new h = inr (cached_placed frame least bs later new h)

left_others : (before later : List CacheState) (c : CacheState) → AreApart (before ++ c ∷ later) → AreOthers c.client (before ++ later)
left_others [] later c h = h.0
left_others (b ∷ bs) later c h = ((λ is. other_at b.client bs later c h.0 (sym is)), left_others bs later c h.1)

-- what is settled is flushed
waits_dropped : (frame least newest count : ℕ) (es : List Entry) → AllByRecursion (λ e. e.count < newest) (take count es) → WaitsIn frame least es → WaitsIn frame least (drop count es) ⊎ (least < newest)
waits_dropped frame least newest zero es all h = inl h
waits_dropped frame least newest (suc n) [] all h = absurd h
waits_dropped frame least newest (suc n) (e ∷ es) all (inl h) = inr (omega (arith, h.1, all.0))
waits_dropped frame least newest (suc n) (e ∷ es) all (inr h) = waits_dropped frame least newest n es all.1 h

act_waits : (frame least : ℕ) (a : Act) (old new : CacheState) (came went : List Frames) (s : State) → Does a old came went new → IsActTold a s → WaitsIn frame least old.ring
    → WaitsIn frame least new.ring ⊎ (least < s.flushes.newest)
act_waits frame least (Gives order limit r) old new came went s d told h = inl (subst (WaitsIn frame least) (sym d.0.ring) h)
act_waits frame least (TakesBack r count) old new came went s d told h = inl (subst (WaitsIn frame least) (sym d.0.ring) (waits_append frame least old.ring (entry_at r count) h))
act_waits frame least (Settles newest count) old new came went s d told h =
    either_by (λ w. subst (WaitsIn frame least) (sym d.0.ring) w) (λ lt. omega (arith, lt, told)) (waits_dropped frame least newest count old.ring d.0.magazines.flushed h)
act_waits frame least (Refills a b frames limit most count) old new came went s d told h = inl (subst (WaitsIn frame least) (sym d.0.ring) h)
act_waits frame least (Spills a b order most count) old new came went s d told h = inl (subst (WaitsIn frame least) (sym d.1.0.ring) h)
act_waits frame least (Asks a b frames limit r) old new came went s d told h = inl (subst (WaitsIn frame least) (sym d.0.ring) h)
act_waits frame least (Returns a b lo r) old new came went s d told h = inl (subst (WaitsIn frame least) (sym d.1.0.ring) h)
act_waits frame least (Puts order r) old new came went s d told h = inl (subst (WaitsIn frame least) (sym d.1.0.ring) h)
act_waits frame least (Takes order r) old new came went s d told h = inl (subst (WaitsIn frame least) (sym d.0.ring) h)
act_waits frame least (Keeps r) old new came went s d told h = inl (subst (WaitsIn frame least) (sym d.0.ring) h)
act_waits frame least (Releases lo r) old new came went s d told h = inl (subst (WaitsIn frame least) (sym d.0.ring) h)
act_waits frame least Grows old new came went s d told h = inl (subst (WaitsIn frame least) (sym d.0.ring) h)
act_waits frame least Refuses old new came went s d told h = inl (subst (WaitsIn frame least) (sym (ap (λ (c : CacheState). c.ring) d.0)) h)

-- What waits weighs.

pub has_one : (frame : ℕ) (r : Frames) → covers frame r ≡ true → has_frame frame r ≡ 1
has_one frame r is = rw is refl

waits_weigh : (frame least : ℕ) (es : List Entry) → WaitsIn frame least es → 1 ≤ sum_by (has_frame frame) (map entry_range es)
waits_weigh frame least [] h = absurd h
waits_weigh frame least (e ∷ es) (inl h) = omega (arith, has_one frame (entry_range e) h.0, sum_by-cons (has_frame frame) (entry_range e) (map entry_range es))
waits_weigh frame least (e ∷ es) (inr h) = omega (arith, waits_weigh frame least es h, sum_by-cons (has_frame frame) (entry_range e) (map entry_range es))

entries_weigh : (frame least : ℕ) (es : List Entry) → WaitsIn frame least es → 1 ≤ weights.entries (has_frame frame) es
entries_weigh frame least [] h = absurd h
entries_weigh frame least (e ∷ es) (inl h) = omega (arith, has_one frame (entry_range e) h.0)
entries_weigh frame least (e ∷ es) (inr h) = omega (arith, entries_weigh frame least es h)

pub rings_weigh : (frame least : ℕ) (rs : List (List Entry)) → WaitsSome frame least rs → 1 ≤ weights.rings (has_frame frame) rs
rings_weigh frame least [] h = absurd h
rings_weigh frame least (r ∷ rs) (inl h) = omega (arith, entries_weigh frame least r h)
rings_weigh frame least (r ∷ rs) (inr h) = omega (arith, rings_weigh frame least rs h)

-- what waits beside what is held
pub cached_beside : (frame least : ℕ) (cs : List CacheState) → Cached frame least cs → 1 + sum_by (has_frame frame) (held_over cs) ≤ sum_by (has_frame frame) (all_cached cs)
cached_beside frame least [] h = absurd h
cached_beside frame least (c ∷ cs) (inl h) =
    let weigh = has_frame frame in
    omega (arith, waits_weigh frame least c.ring h, places_weigh weigh c, sum_by-append weigh (ranges_of c) (all_cached cs), sum_by-append weigh c.held (held_over cs), held_within weigh cs)
cached_beside frame least (c ∷ cs) (inr h) =
    let weigh = has_frame frame in
    omega (arith, cached_beside frame least cs h, places_weigh weigh c, sum_by-append weigh (ranges_of c) (all_cached cs), sum_by-append weigh c.held (held_over cs))

pub held_placed : (frame : ℕ) (before later : List CacheState) (new : CacheState) → 1 ≤ sum_by (has_frame frame) new.held → 1 ≤ sum_by (has_frame frame) (held_over (before ++ new ∷ later))
held_placed frame [] later new h = omega (arith, h, sum_by-append (has_frame frame) new.held (held_over later))
held_placed frame (b ∷ bs) later new h = omega (arith, held_placed frame bs later new h, sum_by-append (has_frame frame) b.held (held_over (bs ++ new ∷ later)))

-- What is pending is no cache's user's.
pub unused : (frame least : ℕ) (v : World) → IsWorld v → 1 ≤ sum_by (has_frame frame) (held_over v.caches) → Pending frame least v → ⊥
unused frame least v is held (cached x) = absurd (omega (arith, held, cached_beside frame least v.caches x, placed_once v frame is))
unused frame least v is held (ringed x) = absurd (omega (arith, held, rings_weigh frame least v.domain.rings x, held_within (has_frame frame) v.caches, placed_once v frame is))
unused frame least v is held (left id others some) = absurd (omega (arith, held, some, held_within (has_frame frame) v.caches, others_once v frame id is others))

-- What an event leaves pending.

-- a client without a cache holds the frame on, or it waits in a ring
held_pending : StepLaws → (frame least : ℕ) (s t : State) (st : Step) (r : Reply) (id : ℕ) → IsValid s → least ≤ s.flushes.start → IsStepOf s st r t → 1 ≤ sum_by (has_frame frame) (held_by id s.clients)
    → (1 ≤ sum_by (has_frame frame) (held_by id t.clients)) ⊎ WaitsSome frame least t.rings
held_pending laws frame least s t st r id valid late h some =
    either_by (λ x. x) (λ q. queued_waits laws.kinds frame least s t st q.0 valid late (subst (λ r. IsStepOf s st r t) q.1.0 h) q.1.1) (held_or_queued laws.others frame s t st r id h some)

pub ring_pending : (frame least : ℕ) (s t : State) (st : Step) (r : Reply) → IsValid s → IsStepOf s st r t → WaitsSome frame least s.rings → WaitsSome frame least t.rings ⊎ (least < s.flushes.newest)
ring_pending frame least s t st r valid h x = let low = valid.flushes.finish in either_by (λ w. w) (λ lt. omega (arith, lt, low)) ((step_keeps frame least s t st r h).0 x)

-- the state that requests leave of one with these flushes
record StillRinged (frame least : ℕ) (f : Flushes) (t : State) : Type 0 where
  pub valid : IsValid t
  pub same : t.flushes ≡ f
  pub waits : WaitsSome frame least t.rings ⊎ (least < f.newest)

still_ringed : StepLaws → (frame least : ℕ) (f : Flushes) (s t : State) (st : Step) (r : Reply) → IsRequest st → IsStepOf s st r t → StillRinged frame least f s → StillRinged frame least f t
still_ringed laws frame least f s t st r request h p = record {
  valid = valid_step laws.valid s t st r h p.valid;
  same = request_flushes s t st r request h ∙ p.same;
  waits = more p.waits;
}
  where
    more : WaitsSome frame least s.rings ⊎ (least < f.newest) → WaitsSome frame least t.rings ⊎ (least < f.newest)
    more (inl x) = let now = ap (λ (f : Flushes). f.newest) p.same in either_by (λ w. w) (λ lt. omega (arith, lt, now)) (ring_pending frame least s t st r p.valid h x)
    more (inr lt) = inr lt

pub pending_event : StepLaws → (frame least : ℕ) (e : WorldEvent) (w v : World) → IsWorld w → Happens e w v → IsTold e w.domain → least ≤ w.domain.flushes.start → Pending frame least w
    → Pending frame least v ⊎ (least < w.domain.flushes.newest)
pending_event laws frame least (Acts before later a old new came went) w v is h told late (cached x) =
    either_by (λ y. cached (subst (Cached frame least) (sym h.1.0) y)) (λ lt. lt)
    (cached_swapped frame least (least < w.domain.flushes.newest) before later old new (act_waits frame least a old new came went w.domain h.1.1.0 told) (subst (Cached frame least) h.0 x))
pending_event laws frame least (Acts before later a old new came went) w v is h told late (ringed x) =
    let start : StillRinged frame least w.domain.flushes w.domain = record { valid = is.valid; same = refl; waits = inl x } in
    let end = act_keeps (StillRinged frame least w.domain.flushes) (λ s t st r request step p. still_ringed laws frame least w.domain.flushes s t st r request step p) a old new came went w.domain v.domain h.1.1.0 h.1.1.1 start in
    either_by (λ y. ringed y) (λ lt. lt) end.waits
pending_event laws frame least (Acts before later a old new came went) w v is h told late (left id others some) =
    let there = subst (AreOthers id) h.0 others in
    let moved = acts_move laws.others laws.refusals laws.valid before later a old new came went w v is h in
    let same = ap (λ l. sum_by (has_frame frame) l) (moved.others id (λ one. other_at id before later old there (sym one))) in
    let now = put_others id before later old new (act_client a old new came went h.1.1.0) there in
    inl (left id (subst (AreOthers id) (sym h.1.0) now) (omega (arith, some, same)))
pending_event laws frame least (Steps st r) w v is h told late (cached x) = inl (cached (subst (Cached frame least) (sym h.1.0) x))
pending_event laws frame least (Steps st r) w v is h told late (ringed x) = either_by (λ y. ringed y) (λ lt. lt) (ring_pending frame least w.domain v.domain st r is.valid h.0 x)
pending_event laws frame least (Steps st r) w v is h told late (left id others some) = inl (now (held_pending laws frame least w.domain v.domain st r id is.valid late h.0 some))
  where
    now : (1 ≤ sum_by (has_frame frame) (held_by id v.domain.clients)) ⊎ WaitsSome frame least v.domain.rings → Pending frame least v
    now (inl held) = left id (subst (AreOthers id) (sym h.1.0) others) held
    now (inr waits) = ringed waits
pending_event laws frame least (Denies st y) w v is h told late (cached x) = inl (cached (subst (Cached frame least) (sym h.1.0) x))
pending_event laws frame least (Denies st y) w v is h told late (ringed x) = either_by (λ y. ringed y) (λ lt. lt) (ring_pending frame least w.domain v.domain st (reply.Refused y) is.valid h.0 x)
pending_event laws frame least (Denies st y) w v is h told late (left id others some) = inl (now (held_pending laws frame least w.domain v.domain st (reply.Refused y) id is.valid late h.0 some))
  where
    now : (1 ≤ sum_by (has_frame frame) (held_by id v.domain.clients)) ⊎ WaitsSome frame least v.domain.rings → Pending frame least v
    now (inl held) = left id (subst (AreOthers id) (sym h.1.0) others) held
    now (inr waits) = ringed waits
pending_event laws frame least (Opens worker sac id) w v is h told late (cached x) = inl (cached (subst (Cached frame least) (sym h.1.0) (inr x)))
pending_event laws frame least (Opens worker sac id) w v is h told late (ringed x) = either_by (λ y. ringed y) (λ lt. lt) (ring_pending frame least w.domain v.domain (step.Open worker sac) (reply.Opened id) is.valid h.0 x)
pending_event laws frame least (Opens worker sac id) w v is h told late (left old others some) = inl (now (held_pending laws frame least w.domain v.domain (step.Open worker sac) (reply.Opened id) old is.valid late h.0 some))
  where
    now : (1 ≤ sum_by (has_frame frame) (held_by old v.domain.clients)) ⊎ WaitsSome frame least v.domain.rings → Pending frame least v
    now (inl held) =
        let other : id ≢ old = λ one.
        let none = ap (λ l. sum_by (has_frame frame) l) (ap (λ (n : ℕ). held_by n v.domain.clients) (sym one) ∙ h.1.1.1) in
        absurd (omega (arith, held, none)) in
        left old (subst (AreOthers old) (sym h.1.0) (other, others)) held
    now (inr waits) = ringed waits
pending_event laws frame least (Leaves before later c) w v is h told late (cached x) = inl (now (cached_dropped frame least before later c (subst (Cached frame least) h.0 x)))
  where
    now : Cached frame least (before ++ later) ⊎ WaitsIn frame least c.ring → Pending frame least v
    now (inl y) = cached (subst (Cached frame least) (sym h.1.0) y)
    now (inr y) =
        let booked = booked_at w.domain before later c (rw h.0 at is.booked) in
        let same = ap (λ (s : State). sum_by (has_frame frame) (held_by c.client s.clients)) h.1.1 in
        let held : 1 ≤ sum_by (has_frame frame) (held_by c.client v.domain.clients) = omega (arith, same, booked.1 (has_frame frame), places_weigh (has_frame frame) c, waits_weigh frame least c.ring y) in
        left c.client (subst (AreOthers c.client) (sym h.1.0) (left_others before later c (rw h.0 at is.apart))) held
pending_event laws frame least (Leaves before later c) w v is h told late (ringed x) = inl (ringed (subst (λ (s : State). WaitsSome frame least s.rings) (sym h.1.1) x))
pending_event laws frame least (Leaves before later c) w v is h told late (left id others some) =
    let same = ap (λ (s : State). sum_by (has_frame frame) (held_by id s.clients)) h.1.1 in
    inl (left id (subst (AreOthers id) (sym h.1.0) (drop_others id before later c (subst (AreOthers id) h.0 others))) (omega (arith, same, some)))
