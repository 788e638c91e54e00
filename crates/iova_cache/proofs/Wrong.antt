-- What wrong caches do is to all others what any client may do.
use Rattle.std.proofs.Common.{◌≡◌, ℕ, List, [], ◌∷◌, Some, sym, ap, ◌∙◌, subst}
use Rattle.iova_model.specs.declared.step.Step.{Step}
use Rattle.iova_model.specs.Effects.{client_named}
use Rattle.iova_cache.specs.Caches.{CacheState}
use Rattle.iova_cache.specs.Worlds.{World, WorldEvent, AreOthers, NamesNone, Goes}
use Rattle.iova_cache.specs.Reuse.{GoesTold}
use Rattle.iova_cache.specs.Wrong.{Mixed, Deed, AreDone, events_of}
use Rattle.iova_cache.specs.Wrong.Deed.{Rightly, Turns, Errs, Asks}

names_none : (st : Step) (id : ℕ) (cs : List CacheState) → client_named st ≡ Some id → AreOthers id cs → NamesNone st cs
names_none st id [] named others = tt
names_none st id (c ∷ cs) named others =
    ((λ is. let both : Some id ≡ Some c.client = sym named ∙ is in let same : id ≡ c.client = cc in others.0 (sym same)), names_none st id cs named others.1)

-- what the others see is what happens to them
pub seen_by_others : (ds : List Deed) (m n : Mixed) → AreDone ds m n → GoesTold (events_of ds) m.world n.world
seen_by_others [] m n h = ap (λ (m : Mixed). m.world) h
seen_by_others (Rightly e ∷ ds) m n h = (h.0.world, (h.1.0.0, (h.1.0.1.0, seen_by_others ds h.0 n h.1.1)))
seen_by_others (Turns before later c ∷ ds) m n h = (h.0.world, (h.1.0.0, (tt, seen_by_others ds h.0 n h.1.1)))
seen_by_others (Errs before later old new ∷ ds) m n h =
    let same : h.0.world ≡ m.world = h.1.0.1.1.1 in
    subst (λ (w : World). GoesTold (events_of ds) w n.world) same (seen_by_others ds h.0 n h.1.1)
seen_by_others (Asks before later c st r ∷ ds) m n h =
    let asked = h.1.0.1.1 in
    (h.0.world, ((asked.1.1.0, (asked.1.1.1, names_none st c.client m.world.caches asked.0 asked.1.0)), (tt, seen_by_others ds h.0 n h.1.1)))

-- without what caches learn of flushes
pub goes : (es : List WorldEvent) (w v : World) → GoesTold es w v → Goes es w v
goes [] w v h = h
goes (e ∷ es) w v h = (h.0, (h.1.0, goes es h.0 v h.1.1.1))
