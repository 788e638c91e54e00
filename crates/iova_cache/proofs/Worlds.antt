-- A domain and its caches, over several events.
use Rattle.std.proofs.Common.{◌≡◌, ◌≢◌, ◌+◌, inl, inr, ℕ, List, [], ◌∷◌, ◌++◌, Option, Some, None, refl, sym, ap, ◌∙◌, arith, sum_by, subst}
use Rattle.std.proofs.lemmas.List.Sums.{sum_by-cons}
use Rattle.iova_range.specs.declared.refusal.Refusal.{Refusal}
use Rattle.iova_range.specs.declared.refusal.Refusal.TheVariants as refusal
use Rattle.iova_range.specs.Frames.{Frames}
use Rattle.iova_model.specs.declared.step.Step.{Step}
use Rattle.iova_model.specs.declared.step.Step.TheVariants as step
use Rattle.iova_model.specs.declared.step.Reply.{Reply}
use Rattle.iova_model.specs.declared.step.Reply.TheVariants as reply
use Rattle.iova_model.specs.State.{State}
use Rattle.iova_model.specs.Next.{next}
use Rattle.iova_model.specs.Effects.{client_named, held_by, RefusalLeaves}
use Rattle.iova_model.specs.Valid.{IsValid}
use Rattle.iova_model.specs.Laws.{OthersKeepTheirHoldings, RefusalsKeepTheState, StepsKeepValidity}
use Rattle.iova_core.specs.Domain.{IsStepOf}
use Rattle.iova_cache.specs.Caches.{CacheState, ranges_of, new_cache}
use Rattle.iova_cache.specs.Exchanges.{giving_up, Gives as GivesAll, Returns as ReturnsAll, Ends, StopsAt}
use Rattle.iova_cache.specs.Laws.{Act, Does, IsWhole}
use Rattle.iova_cache.specs.Laws.Act.{Gives, TakesBack, Settles, Refills, Spills, Asks, Returns, Puts, Takes, Keeps, Releases, Grows, Refuses}
use Rattle.iova_cache.specs.Worlds.{World, IsWorld, WorldEvent, IsBooked, AreBooked, AreOthers, AreApart, Moves, NamesNone, IsRequest, Happens, Goes}
use Rattle.iova_cache.specs.Worlds.WorldEvent.{Acts, Steps, Denies, Opens, Leaves}
use Rattle.iova_cache.proofs.Runs.{act_weighs}
use Rattle.iova_cache.proofs.Domains.{given_held, queued_held, same_range}

-- What moves between a client and its cache.
pub record MovesOf (id : ℕ) (s t : State) (came went : List Frames) : Type 0 where
  pub own : (weigh : Frames → ℕ) → sum_by weigh (held_by id t.clients) + sum_by weigh went ≡ sum_by weigh (held_by id s.clients) + sum_by weigh came
  pub others : (other : ℕ) → other ≢ id → held_by other t.clients ≡ held_by other s.clients

-- a refused request leaves all clients
leaves_clients : (s t : State) (w id frames limit : ℕ) (x : Refusal) → RefusalLeaves s (step.Alloc w id frames limit) x t → t.clients ≡ s.clients
leaves_clients s t w id frames limit refusal.Zero h = ap (λ (s : State). s.clients) h
leaves_clients s t w id frames limit refusal.TooBig h = ap (λ (s : State). s.clients) h
leaves_clients s t w id frames limit refusal.NoClient h = ap (λ (s : State). s.clients) h
leaves_clients s t w id frames limit refusal.Closing h = ap (λ (s : State). s.clients) h
leaves_clients s t w id frames limit refusal.HoldingsFull h = ap (λ (s : State). s.clients) h
leaves_clients s t w id frames limit refusal.NoSpace h = ap (λ (s : State). s.clients) h
leaves_clients s t w id frames limit refusal.RingFull h = ap (λ (s : State). s.clients) h
leaves_clients s t w id frames limit refusal.NotHeld h = ap (λ (s : State). s.clients) h
leaves_clients s t w id frames limit refusal.Taken h = ap (λ (s : State). s.clients) h
leaves_clients s t w id frames limit refusal.BadWindow h = ap (λ (s : State). s.clients) h
leaves_clients s t w id frames limit refusal.WindowsFull h = ap (λ (s : State). s.clients) h
leaves_clients s t w id frames limit refusal.NoWorker h = ap (λ (s : State). s.clients) h
leaves_clients s t w id frames limit refusal.FlightsFull h = ap (λ (s : State). s.clients) h
leaves_clients s t w id frames limit refusal.NoFlight h = ap (λ (s : State). s.clients) h
leaves_clients s t w id frames limit refusal.Worn h = ap (λ (s : State). s.clients) h
leaves_clients s t w id frames limit refusal.ClientsFull h = ap (λ (s : State). s.clients) h
leaves_clients s t w id frames limit refusal.NoMemory h = ap (λ (s : State). s.clients) h
leaves_clients s t w id frames limit refusal.SinkFault h = ap (λ (s : State). s.clients) h
leaves_clients s t w id frames limit refusal.LinkFault h = ap (λ (s : State). s.clients) h
leaves_clients s t w id frames limit refusal.BadLine h = ap (λ (s : State). s.clients) h
leaves_clients s t w id frames limit refusal.TooMany h = ap (λ (s : State). s.clients) h
leaves_clients s t w id frames limit refusal.BadTrace h = ap (λ (s : State). s.clients) h
leaves_clients s t w id frames limit refusal.NoDomain h = ap (λ (s : State). s.clients) h
leaves_clients s t w id frames limit refusal.Twice h = ap (λ (s : State). s.clients) h
leaves_clients s t w id frames limit refusal.BadProfile h = ap (λ (s : State). s.clients) h

denied_clients : RefusalsKeepTheState → (s t : State) (st : Step) (x : Refusal) → IsRequest st → IsStepOf s st (reply.Refused x) t → t.clients ≡ s.clients
denied_clients law s t (step.Alloc w id frames limit) x is h =
    ap (λ (s : State). s.clients) h.2 ∙ leaves_clients s (next s (step.Alloc w id frames limit) h.0).state w id frames limit x (law s (step.Alloc w id frames limit) h.0 x (sym h.1))
denied_clients law s t (step.Unmap w id lo) x is h =
    ap (λ (s : State). s.clients) h.2 ∙ ap (λ (s : State). s.clients) (law s (step.Unmap w id lo) h.0 x (sym h.1))
denied_clients law s t (step.Reserve lo hi) x is h = absurd is
denied_clients law s t (step.Open w sac) x is h = absurd is
denied_clients law s t step.Begin x is h = absurd is
denied_clients law s t (step.End n ok) x is h = absurd is
denied_clients law s t (step.Drain ring by) x is h = absurd is
denied_clients law s t (step.Close w id) x is h = absurd is
denied_clients law s t (step.CloseOne w id) x is h = absurd is

-- a step leaves those whom it doesn't name
others_held : OthersKeepTheirHoldings → (s t : State) (st : Step) (r : Reply) (id other : ℕ) → client_named st ≡ Some id → IsStepOf s st r t → other ≢ id → held_by other t.clients ≡ held_by other s.clients
others_held law s t st r id other named h ne =
    ap (λ (s : State). held_by other s.clients) h.2 ∙ law s st h.0 other (λ is. ne (let both : Some id ≡ Some other = sym named ∙ is in cc))

none_moves : (id : ℕ) (s t : State) (came went : List Frames) → t ≡ s → came ≡ [] → went ≡ [] → MovesOf id s t came went
none_moves id s t came went same none nothing = record {
  own = λ weigh.
      let a = ap (λ (s : State). sum_by weigh (held_by id s.clients)) same in
      let b = ap (λ l. sum_by weigh l) none in
      let c = ap (λ l. sum_by weigh l) nothing in
      omega (arith, a, b, c);
  others = λ other ne. ap (λ (s : State). held_by other s.clients) same;
}

then_same : (id : ℕ) (s m t : State) (came went : List Frames) → MovesOf id s m came went → t.clients ≡ m.clients → MovesOf id s t came went
then_same id s m t came went h same = record {
  own = λ weigh. let a = ap (λ cs. sum_by weigh (held_by id cs)) same in omega (arith, h.own weigh, a);
  others = λ other ne. ap (λ cs. held_by other cs) same ∙ h.others other ne;
}

same_lists : (id : ℕ) (s t : State) (c1 c2 w1 w2 : List Frames) → MovesOf id s t c1 w1 → c2 ≡ c1 → w2 ≡ w1 → MovesOf id s t c2 w2
same_lists id s t c1 c2 w1 w2 h a b = rw (a, b) h

gives_move : OthersKeepTheirHoldings → (w id frames limit : ℕ) (s : State) (got : List Frames) (t : State) → GivesAll (step.Alloc w id frames limit) s got t → MovesOf id s t got []
gives_move law w id frames limit s [] t h = none_moves id s t [] [] h refl refl
gives_move law w id frames limit s (r ∷ rs) t h =
    let m = h.0 in
    let rest = gives_move law w id frames limit m rs t h.2 in
    record {
      own = λ weigh. omega (arith, given_held weigh s m w id frames limit r h.1, rest.own weigh, sum_by-cons weigh r rs);
      others = λ other ne. rest.others other ne ∙ others_held law s m (step.Alloc w id frames limit) (reply.Given r) id other refl h.1 ne;
    }

-- What goes back is what the client holds: the range that the domain finds is the cache's own.

pub valid_step : StepsKeepValidity → (s t : State) (st : Step) (r : Reply) → IsStepOf s st r t → IsValid s → IsValid t
valid_step law s t st r h valid = subst IsValid (sym h.2) (law s st h.0 valid)

returns_valid : StepsKeepValidity → (c : CacheState) (s : State) (out : List Frames) (t : State) → ReturnsAll c s out t → IsValid s → IsValid t
returns_valid law c s [] t h valid = subst IsValid (sym h) valid
returns_valid law c s (r ∷ rs) t h valid = valid_step law h.0 t (giving_up c r.lo) (reply.Queued h.2.0) h.2.1 (returns_valid law c s rs h.0 h.1 valid)

returns_move : OthersKeepTheirHoldings → StepsKeepValidity → (c : CacheState) (s : State) (out : List Frames) (t : State) (rest : List Frames)
    → ((weigh : Frames → ℕ) → sum_by weigh (held_by c.client s.clients) ≡ sum_by weigh rest + sum_by weigh out) → IsValid s → ReturnsAll c s out t → MovesOf c.client s t [] out
returns_move law keeps c s [] t rest has valid h = none_moves c.client s t [] [] h refl refl
returns_move law keeps c s (r ∷ rs) t rest has valid h =
    let m = h.0 in let q = h.2.0 in
    let before = returns_move law keeps c s rs m (r ∷ rest) (λ weigh. omega (arith, has weigh, sum_by-cons weigh r rs, sum_by-cons weigh r rest)) valid h.1 in
    let there : (weigh : Frames → ℕ) → sum_by weigh (held_by c.client m.clients) ≡ weigh r + sum_by weigh rest =
    λ weigh. omega (arith, has weigh, before.own weigh, sum_by-cons weigh r rs) in
    let one : q ≡ r = same_range m t c.worker c.client r.lo q r rest (returns_valid keeps c s rs m h.1 valid) h.2.1 there refl in
    record {
      own = λ weigh.
          let back = queued_held weigh m t c.worker c.client r.lo q h.2.1 in
          let same = ap weigh one in
          omega (arith, back.0, same, before.own weigh, sum_by-cons weigh r rs);
      others = λ other ne. others_held law m t (giving_up c r.lo) (reply.Queued q) c.client other refl h.2.1 ne ∙ before.others other ne;
    }

ends_same : RefusalsKeepTheState → (count all : ℕ) (m t : State) (w id frames limit : ℕ) → Ends count all m (step.Alloc w id frames limit) t → t.clients ≡ m.clients
ends_same law count all m t w id frames limit (inl h) = ap (λ (s : State). s.clients) h.1
ends_same law count all m t w id frames limit (inr h) = denied_clients law m t (step.Alloc w id frames limit) h.1.0 tt h.1.1

stops_same : RefusalsKeepTheState → (c : CacheState) (count all : ℕ) (left : List Frames) (m t : State) → StopsAt c count all left m t → t.clients ≡ m.clients
stops_same law c count all left m t (inl h) = ap (λ (s : State). s.clients) h.1
stops_same law c count all left m t (inr h) = denied_clients law m t (giving_up c h.1.1.0.lo) h.1.1.2.0 tt h.1.1.2.1

-- what the client holds, with what comes, is what goes and the rest
abbrev pub Covers : CacheState → State → List Frames → List Frames → List Frames → Type 0
Covers c s came went rest = (weigh : Frames → ℕ) → sum_by weigh (held_by c.client s.clients) + sum_by weigh came ≡ sum_by weigh rest + sum_by weigh went

pub only_went : (c : CacheState) (s : State) (came went rest out : List Frames) → Covers c s came went rest → came ≡ [] → went ≡ out
    → (weigh : Frames → ℕ) → sum_by weigh (held_by c.client s.clients) ≡ sum_by weigh rest + sum_by weigh out
only_went c s came went rest out h none is weigh =
    let a = ap (λ l. sum_by weigh l) none in
    let b = ap (λ l. sum_by weigh l) is in
    omega (arith, h weigh, a, b)

act_moves : OthersKeepTheirHoldings → RefusalsKeepTheState → StepsKeepValidity → (a : Act) (old new : CacheState) (came went rest : List Frames) (s t : State) → IsValid s → Covers old s came went rest
    → Does a old came went new → Moves a s t → MovesOf old.client s t came went
act_moves law keeps valid (Gives order limit r) old new came went rest s t v has d at = none_moves old.client s t came went at d.1.0 d.1.1
act_moves law keeps valid (TakesBack r count) old new came went rest s t v has d at = none_moves old.client s t came went at d.1.0 d.1.1
act_moves law keeps valid (Settles newest count) old new came went rest s t v has d at = none_moves old.client s t came went at d.1.0 d.1.1
act_moves law keeps valid (Refills a b frames limit most count) old new came went rest s t v has d at =
    let h = d.0 in
    let moved = gives_move law old.worker old.client frames limit a h.got h.middle h.steps in
    let ended = then_same old.client a h.middle b h.got [] moved (ends_same keeps _ _ h.middle b old.worker old.client frames limit h.ends) in
    rw (at.0, at.1) (same_lists old.client a b h.got came [] went ended d.1.0 d.1.1)
act_moves law keeps valid (Spills a b order most count) old new came went rest s t v has d at =
    let h = d.1.0 in
    let has_a = subst (λ (s : State). Covers old s came went rest) at.0 has in
    let moved = returns_move law valid old a h.out h.middle rest (only_went old a came went rest h.out has_a d.1.1.0 d.1.1.1) (subst IsValid at.0 v) h.steps in
    let ended = then_same old.client a h.middle b [] h.out moved (stops_same keeps old _ _ h.left h.middle b h.ends) in
    rw (at.0, at.1) (same_lists old.client a b [] came h.out went ended d.1.1.0 d.1.1.1)
act_moves law keeps valid (Asks a b frames limit r) old new came went rest s t v has d at =
    let h = d.0 in
    let moved = gives_move law old.worker old.client frames limit a (r ∷ []) b (b, h.step, refl) in
    rw (at.0, at.1) (same_lists old.client a b (r ∷ []) came [] went moved d.1.0 d.1.1)
act_moves law keeps valid (Returns a b lo r) old new came went rest s t v has d at =
    let h = d.1.0 in
    let step = subst (λ (n : ℕ). IsStepOf a (giving_up old n) (reply.Queued h.step.0) b) (sym d.0) h.step.1 in
    let has_a = subst (λ (s : State). Covers old s came went rest) at.0 has in
    let moved = returns_move law valid old a (r ∷ []) b rest (only_went old a came went rest (r ∷ []) has_a d.1.1.0 d.1.1.1) (subst IsValid at.0 v) (a, refl, (h.step.0, step)) in
    rw (at.0, at.1) (same_lists old.client a b [] came (r ∷ []) went moved d.1.1.0 d.1.1.1)
act_moves law keeps valid (Puts order r) old new came went rest s t v has d at = absurd at
act_moves law keeps valid (Takes order r) old new came went rest s t v has d at = absurd at
act_moves law keeps valid (Keeps r) old new came went rest s t v has d at = absurd at
act_moves law keeps valid (Releases lo r) old new came went rest s t v has d at = absurd at
act_moves law keeps valid Grows old new came went rest s t v has d at = none_moves old.client s t came went at d.1.0 d.1.1
act_moves law keeps valid Refuses old new came went rest s t v has d at = none_moves old.client s t came went at d.1.0 d.1.1

-- What each request of a cache keeps, its act keeps.

abbrev KeptByRequests : (State → Type 0) → Type 0
KeptByRequests P = (s t : State) (st : Step) (r : Reply) → IsRequest st → IsStepOf s st r t → P s → P t

gives_keep : (P : State → Type 0) → KeptByRequests P → (w id frames limit : ℕ) (s : State) (got : List Frames) (t : State) → GivesAll (step.Alloc w id frames limit) s got t → P s → P t
gives_keep P law w id frames limit s [] t h p = subst P (sym h) p
gives_keep P law w id frames limit s (r ∷ rs) t h p = gives_keep P law w id frames limit h.0 rs t h.2 (law s h.0 (step.Alloc w id frames limit) (reply.Given r) tt h.1 p)

returns_keep : (P : State → Type 0) → KeptByRequests P → (c : CacheState) (s : State) (out : List Frames) (t : State) → ReturnsAll c s out t → P s → P t
returns_keep P law c s [] t h p = subst P (sym h) p
returns_keep P law c s (r ∷ rs) t h p = law h.0 t (giving_up c r.lo) (reply.Queued h.2.0) tt h.2.1 (returns_keep P law c s rs h.0 h.1 p)

ends_keep : (P : State → Type 0) → KeptByRequests P → (count all : ℕ) (m t : State) (w id frames limit : ℕ) → Ends count all m (step.Alloc w id frames limit) t → P m → P t
ends_keep P law count all m t w id frames limit (inl h) p = subst P (sym h.1) p
ends_keep P law count all m t w id frames limit (inr h) p = law m t (step.Alloc w id frames limit) (reply.Refused h.1.0) tt h.1.1 p

stops_keep : (P : State → Type 0) → KeptByRequests P → (c : CacheState) (count all : ℕ) (left : List Frames) (m t : State) → StopsAt c count all left m t → P m → P t
stops_keep P law c count all left m t (inl h) p = subst P (sym h.1) p
stops_keep P law c count all left m t (inr h) p = law m t (giving_up c h.1.1.0.lo) (reply.Refused h.1.1.2.0) tt h.1.1.2.1 p

pub act_keeps : (P : State → Type 0) → KeptByRequests P → (a : Act) (old new : CacheState) (came went : List Frames) (s t : State) → Does a old came went new → Moves a s t → P s → P t
act_keeps P law (Gives order limit r) old new came went s t d at p = subst P (sym at) p
act_keeps P law (TakesBack r count) old new came went s t d at p = subst P (sym at) p
act_keeps P law (Settles newest count) old new came went s t d at p = subst P (sym at) p
act_keeps P law (Refills a b frames limit most count) old new came went s t d at p =
    let h = d.0 in
    let begun = gives_keep P law old.worker old.client frames limit a h.got h.middle h.steps (subst P at.0 p) in
    subst P (sym at.1) (ends_keep P law _ _ h.middle b old.worker old.client frames limit h.ends begun)
act_keeps P law (Spills a b order most count) old new came went s t d at p =
    let h = d.1.0 in
    let begun = returns_keep P law old a h.out h.middle h.steps (subst P at.0 p) in
    subst P (sym at.1) (stops_keep P law old _ _ h.left h.middle b h.ends begun)
act_keeps P law (Asks a b frames limit r) old new came went s t d at p =
    subst P (sym at.1) (law a b (step.Alloc old.worker old.client frames limit) (reply.Given r) tt d.0.step (subst P at.0 p))
act_keeps P law (Returns a b lo r) old new came went s t d at p =
    let h = d.1.0 in
    subst P (sym at.1) (law a b (giving_up old lo) (reply.Queued h.step.0) tt h.step.1 (subst P at.0 p))
act_keeps P law (Puts order r) old new came went s t d at p = absurd at
act_keeps P law (Takes order r) old new came went s t d at p = absurd at
act_keeps P law (Keeps r) old new came went s t d at p = absurd at
act_keeps P law (Releases lo r) old new came went s t d at p = absurd at
act_keeps P law Grows old new came went s t d at p = subst P (sym at) p
act_keeps P law Refuses old new came went s t d at p = subst P (sym at) p

pub act_client : (a : Act) (old new : CacheState) (came went : List Frames) → Does a old came went new → new.client ≡ old.client
act_client (Gives order limit r) old new came went d = d.0.client.client
act_client (TakesBack r count) old new came went d = d.0.client.client
act_client (Settles newest count) old new came went d = d.0.client.client
act_client (Refills a b frames limit most count) old new came went d = d.0.client.client
act_client (Spills a b order most count) old new came went d = d.1.0.client.client
act_client (Asks a b frames limit r) old new came went d = d.0.client.client
act_client (Returns a b lo r) old new came went d = d.1.0.client.client
act_client (Puts order r) old new came went d = d.1.0.client.client
act_client (Takes order r) old new came went d = d.0.client.client
act_client (Keeps r) old new came went d = d.0.client.client
act_client (Releases lo r) old new came went d = d.0.client.client
act_client Grows old new came went d = d.0.client.client
act_client Refuses old new came went d = ap (λ (c : CacheState). c.client) d.0

-- The caches among others.

pub booked_at : (s : State) (before later : List CacheState) (c : CacheState) → AreBooked s (before ++ c ∷ later) → IsWhole c × IsBooked s c
booked_at s [] later c h = h.0
booked_at s (b ∷ bs) later c h = booked_at s bs later c h.1

same_booked : (s t : State) (c : CacheState) → held_by c.client t.clients ≡ held_by c.client s.clients → IsBooked s c → IsBooked t c
same_booked s t c same h weigh = ap (λ l. sum_by weigh l) same ∙ h weigh

rest_booked : (s t : State) (id : ℕ) (cs : List CacheState) → AreOthers id cs → ((other : ℕ) → other ≢ id → held_by other t.clients ≡ held_by other s.clients) → AreBooked s cs → AreBooked t cs
rest_booked s t id [] others same h = tt
rest_booked s t id (c ∷ cs) others same h = ((h.0.0, same_booked s t c (same c.client others.0) h.0.1), rest_booked s t id cs others.1 same h.1)

pub other_at : (id : ℕ) (bs later : List CacheState) (c : CacheState) → AreOthers id (bs ++ c ∷ later) → c.client ≢ id
other_at id [] later c h = h.0
other_at id (b ∷ bs) later c h = other_at id bs later c h.1

put_booked : (s t : State) (before later : List CacheState) (old new : CacheState) → AreApart (before ++ old ∷ later) → AreBooked s (before ++ old ∷ later)
    → ((other : ℕ) → other ≢ old.client → held_by other t.clients ≡ held_by other s.clients) → IsWhole new × IsBooked t new → AreBooked t (before ++ new ∷ later)
put_booked s t [] later old new apart h same one = (one, rest_booked s t old.client later apart.0 same h.1)
put_booked s t (b ∷ bs) later old new apart h same one =
    let ne : b.client ≢ old.client = λ is. other_at b.client bs later old apart.0 (sym is) in
    ((h.0.0, same_booked s t b (same b.client ne) h.0.1), put_booked s t bs later old new apart.1 h.1 same one)

pub put_others : (id : ℕ) (bs later : List CacheState) (old new : CacheState) → new.client ≡ old.client → AreOthers id (bs ++ old ∷ later) → AreOthers id (bs ++ new ∷ later)
put_others id [] later old new same h = ((λ is. h.0 (sym same ∙ is)), h.1)
put_others id (b ∷ bs) later old new same h = (h.0, put_others id bs later old new same h.1)

put_apart : (before later : List CacheState) (old new : CacheState) → new.client ≡ old.client → AreApart (before ++ old ∷ later) → AreApart (before ++ new ∷ later)
put_apart [] later old new same h = (subst (λ (n : ℕ). AreOthers n later) (sym same) h.0, h.1)
put_apart (b ∷ bs) later old new same h = (put_others b.client bs later old new same h.0, put_apart bs later old new same h.1)

pub drop_others : (id : ℕ) (bs later : List CacheState) (c : CacheState) → AreOthers id (bs ++ c ∷ later) → AreOthers id (bs ++ later)
drop_others id [] later c h = h.1
drop_others id (b ∷ bs) later c h = (h.0, drop_others id bs later c h.1)

drop_apart : (before later : List CacheState) (c : CacheState) → AreApart (before ++ c ∷ later) → AreApart (before ++ later)
drop_apart [] later c h = h.1
drop_apart (b ∷ bs) later c h = (drop_others b.client bs later c h.0, drop_apart bs later c h.1)

drop_booked : (s : State) (before later : List CacheState) (c : CacheState) → AreBooked s (before ++ c ∷ later) → AreBooked s (before ++ later)
drop_booked s [] later c h = h.1
drop_booked s (b ∷ bs) later c h = (h.0, drop_booked s bs later c h.1)

all_booked : (s t : State) (cs : List CacheState) → ((id : ℕ) → held_by id t.clients ≡ held_by id s.clients) → AreBooked s cs → AreBooked t cs
all_booked s t [] same h = tt
all_booked s t (c ∷ cs) same h = ((h.0.0, same_booked s t c (same c.client) h.0.1), all_booked s t cs same h.1)

unnamed_booked : OthersKeepTheirHoldings → (s t : State) (st : Step) (r : Reply) (cs : List CacheState) → NamesNone st cs → IsStepOf s st r t → AreBooked s cs → AreBooked t cs
unnamed_booked law s t st r [] none step h = tt
unnamed_booked law s t st r (c ∷ cs) none step h =
    let same = ap (λ (s : State). held_by c.client s.clients) step.2 ∙ law s st step.0 c.client none.0 in
    ((h.0.0, same_booked s t c same h.0.1), unnamed_booked law s t st r cs none.1 step h.1)

new_booked : (s t : State) (old new : CacheState) (came went : List Frames) → MovesOf old.client s t came went → new.client ≡ old.client → Covers old s came went (ranges_of new) → IsBooked t new
new_booked s t old new came went moved same covers weigh =
    let client = ap (λ (n : ℕ). sum_by weigh (held_by n t.clients)) same in
    omega (arith, client, moved.own weigh, covers weigh)

pub acts_cover : (before later : List CacheState) (a : Act) (old new : CacheState) (came went : List Frames) (w v : World) → IsWorld w → Happens (Acts before later a old new came went) w v
    → IsWhole new × Covers old w.domain came went (ranges_of new)
acts_cover before later a old new came went w v is h =
    let here = booked_at w.domain before later old (rw h.0 at is.booked) in
    let weighs = act_weighs a old new came went here.0 h.1.1.0 in
    (weighs.0, λ weigh. omega (arith, weighs.1 weigh, here.1 weigh))

pub acts_move : OthersKeepTheirHoldings → RefusalsKeepTheState → StepsKeepValidity → (before later : List CacheState) (a : Act) (old new : CacheState) (came went : List Frames) (w v : World) → IsWorld w
    → Happens (Acts before later a old new came went) w v → MovesOf old.client w.domain v.domain came went
acts_move law keeps valid before later a old new came went w v is h =
    let covers = acts_cover before later a old new came went w v is h in
    act_moves law keeps valid a old new came went (ranges_of new) w.domain v.domain is.valid covers.1 h.1.1.0 h.1.1.1

pub one_event : OthersKeepTheirHoldings → RefusalsKeepTheState → StepsKeepValidity → (e : WorldEvent) (w v : World) → IsWorld w → Happens e w v → IsWorld v
one_event law keeps valid (Acts before later a old new came went) w v is h =
    let b = rw h.0 at is.booked in
    let p = rw h.0 at is.apart in
    let does = h.1.1.0 in
    let moved = acts_move law keeps valid before later a old new came went w v is h in
    let client = act_client a old new came went does in
    let covers = acts_cover before later a old new came went w v is h in
    let one : IsWhole new × IsBooked v.domain new = (covers.0, new_booked w.domain v.domain old new came went moved client covers.1) in
    record {
      valid = act_keeps IsValid (λ s t st r request step. valid_step valid s t st r step) a old new came went w.domain v.domain does h.1.1.1 is.valid;
      booked = rw h.1.0 (put_booked w.domain v.domain before later old new p b moved.others one);
      apart = rw h.1.0 (put_apart before later old new client p);
    }
one_event law keeps valid (Steps st r) w v is h = record {
  valid = valid_step valid w.domain v.domain st r h.0 is.valid;
  booked = rw h.1.0 (unnamed_booked law w.domain v.domain st r w.caches h.1.1 h.0 is.booked);
  apart = rw h.1.0 is.apart;
}
one_event law keeps valid (Denies st x) w v is h =
    let same = denied_clients keeps w.domain v.domain st x h.1.1 h.0 in
    record {
      valid = valid_step valid w.domain v.domain st (reply.Refused x) h.0 is.valid;
      booked = rw h.1.0 (all_booked w.domain v.domain w.caches (λ id. ap (λ cs. held_by id cs) same) is.booked);
      apart = rw h.1.0 is.apart;
    }
one_event law keeps valid (Opens worker sac id) w v is h =
    let opened = h.0 in
    let same : (other : ℕ) → held_by other v.domain.clients ≡ held_by other w.domain.clients =
    λ other. ap (λ (s : State). held_by other s.clients) opened.2 ∙ law w.domain (step.Open worker sac) opened.0 other (λ is. let bad : ◌≡◌ {A = Option ℕ} None (Some other) = is in absurd cc) in
    let fresh : IsBooked v.domain (new_cache worker id sac) = λ weigh. ap (λ l. sum_by weigh l) h.1.1.1 in
    record {
      valid = valid_step valid w.domain v.domain (step.Open worker sac) (reply.Opened id) opened is.valid;
      booked = rw h.1.0 ((refl, fresh), all_booked w.domain v.domain w.caches same is.booked);
      apart = rw h.1.0 (h.1.1.0, is.apart);
    }
one_event law keeps valid (Leaves before later c) w v is h =
    let b = rw h.0 at is.booked in
    let p = rw h.0 at is.apart in
    record {
      valid = subst IsValid (sym h.1.1) is.valid;
      booked = rw (h.1.0, h.1.1) (drop_booked w.domain before later c b);
      apart = rw h.1.0 (drop_apart before later c p);
    }

pub places_kept : OthersKeepTheirHoldings → RefusalsKeepTheState → StepsKeepValidity → (es : List WorldEvent) (w v : World) → IsWorld w → Goes es w v → IsWorld v
places_kept law keeps valid [] w v is h = subst IsWorld (sym h) is
places_kept law keeps valid (e ∷ es) w v is h = places_kept law keeps valid es h.0 v (one_event law keeps valid e w h.0 is h.1.0) h.1.1
