-- A step is refused memory only where a growth in it was refused.
use Rattle.std.proofs.Common.{ℕ, ◌≡◌, ◌+◌, Bool, true, false, ◌&&◌, length, List, [], ◌∷◌, Option, Some, None, refl}
use Rattle.iova_range.specs.declared.limits.TheConstants.{SAC_LIMIT}
use Rattle.std.specs.Prelude.{nat_lt, find}
use Rattle.std.proofs.lemmas.Bool.{cond_both}
use Rattle.iova_range.specs.declared.refusal.Refusal.{Refusal}
use Rattle.iova_range.specs.declared.refusal.Refusal.TheVariants as refusal
use Rattle.iova_range.specs.Frames.{Frames}
use Rattle.iova_range.specs.Sizes.{need, order_of}
use Rattle.iova_model.specs.declared.step.Step.{Step}
use Rattle.iova_model.specs.declared.step.Step.TheVariants as step
use Rattle.iova_model.specs.declared.step.Reply.TheVariants as reply
use Rattle.iova_model.specs.declared.step.Point.{Point}
use Rattle.iova_model.specs.declared.step.Point.TheVariants as point
use Rattle.iova_model.specs.Caches.{without_entries}
use Rattle.iova_model.specs.Flushes.{with_flight, after_end, flushed_front}
use Rattle.iova_model.specs.Clients.{Client, client_of, change_client, begins_at, with_mark}
use Rattle.iova_model.specs.State.{State}
use Rattle.iova_model.specs.Next
use Rattle.iova_model.specs.Laws.{NoMemoryIsRefused, OtherStepsTakeNoMemory}
use Rattle.iova_laws.proofs.Tests.{EachRefusal, unless_each}

-- memory wasn't wanting
abbrev HasMemory : Next.Next → Type 0
HasMemory n = n.reply ≡ reply.Refused refusal.NoMemory → ⊥

-- no test refuses for want of it
abbrev NoneStarves : List (Bool × Refusal) → Type 0
NoneStarves [] = Unit {0}
NoneStarves ((b, r) ∷ tests) = (b ≡ true → reply.Refused r ≡ reply.Refused refusal.NoMemory → ⊥) × NoneStarves tests

-- so each refusal has memory
none_starves : (s : State) (tests : List (Bool × Refusal)) → NoneStarves tests → EachRefusal HasMemory s tests
none_starves s [] h = tt
none_starves s ((b, r) ∷ tests) h = (h.0, λ e. none_starves s tests h.1)

-- a step that such tests may refuse has it, where it does when taken
unless_has : (s : State) (tests : List (Bool × Refusal)) (n : Next.Next) → NoneStarves tests → HasMemory n → HasMemory (Next.unless tests s n)
unless_has s tests n h has = unless_each HasMemory s tests n (none_starves s tests h) (λ all. has)

-- and a try found none wanting
abbrev FindsMemory : Next.Tried → Type 0
FindsMemory t = t.found ≡ Next.OutOfMemory → ⊥

-- The walk of a request in which no growth is refused.

-- the tree's growth isn't refused
tree_found : (s : State) (place : Option ℕ) → FindsMemory (Next.from_tree s place false)
tree_found s None = λ e. absurd cc
tree_found s (Some lo) = λ e. absurd cc

-- nor is it with emptied caches
emptied_found : (found : Next.Found) (s : State) (size limit : ℕ) (emptying : Bool) → (found ≡ Next.OutOfMemory → ⊥) → FindsMemory (Next.or_emptied found s size limit emptying false)
emptied_found Next.Nowhere s size limit true fine = let s' = Next.with_caches s (without_entries s.caches) in tree_found s' (Next.best_place s' size limit)
emptied_found Next.Nowhere s size limit false fine = λ e. absurd cc
emptied_found (Next.At lo) s size limit emptying fine = λ e. absurd cc
emptied_found Next.OutOfMemory s size limit emptying fine = fine

-- at a point that isn't the refused growth
or_tree_found : (cached : Option ℕ) (s : State) (size limit : ℕ) (emptying : Bool) (here : Point) → Next.is_at here point.Never ≡ false → FindsMemory (Next.or_tree cached s size limit emptying here point.Never)
or_tree_found (Some lo) s size limit emptying here other = λ e. absurd cc
or_tree_found None s size limit emptying here other =
    let place = Next.best_place s size limit in
    let t = Next.from_tree s place false in
    rw other (emptied_found t.found t.state size limit emptying (tree_found s place))

-- one try
try_found : (s : State) (w size limit : ℕ) (emptying : Bool) (here : Point) → Next.is_at here point.Never ≡ false → FindsMemory (Next.try s w size limit emptying here point.Never)
try_found s w size limit emptying here other =
    let cached = Next.from_cache s w size limit (order_of size) in or_tree_found cached.0 cached.1 size limit emptying here other

-- a second, where the first found nothing
second_found : (found : Next.Found) (s : State) (w size limit : ℕ) → (found ≡ Next.OutOfMemory → ⊥) → FindsMemory (Next.or_second found s w size limit point.Never)
second_found Next.Nowhere s w size limit fine = try_found s w size limit true point.Second refl
second_found (Next.At lo) s w size limit fine = λ e. absurd cc
second_found Next.OutOfMemory s w size limit fine = fine

-- all of it
walk_found : (s : State) (w : ℕ) (sac : Bool) (size limit : ℕ) → FindsMemory (Next.walk s w sac size limit point.Never)
walk_found s w sac size limit =
    let t = Next.try s w size SAC_LIMIT false point.First point.Never in
    cond_both (sac && nat_lt SAC_LIMIT limit) (Next.or_second t.found t.state w size limit point.Never) (Next.try s w size limit true point.Second point.Never) FindsMemory
    (λ e. second_found t.found t.state w size limit (try_found s w size SAC_LIMIT false point.First refl))
    (λ e. try_found s w size limit true point.Second refl)

-- what the walk found is given, or nothing is
given_has : (found : Next.Found) (s : State) (id size : ℕ) → (found ≡ Next.OutOfMemory → ⊥) → HasMemory (Next.give found s id size)
given_has Next.Nowhere s id size fine = λ e. absurd cc
given_has (Next.At lo) s id size fine = λ e. absurd cc
given_has Next.OutOfMemory s id size fine = absurd (fine refl)

-- The steps in which none is.

-- a request, by its client
alloc_to_has : (o : Option Client) (s : State) (w id size limit : ℕ) → HasMemory (Next.alloc_to o s w id size limit point.Never)
alloc_to_has None s w id size limit = λ e. absurd cc
alloc_to_has (Some c) s w id size limit =
    let t = Next.walk s w c.sac size limit point.Never in
    unless_has s (Next.ledger_tests c point.Never) (Next.give_from t id size) ((λ b e. absurd cc), ((λ b e. absurd cc), ((λ b e. absurd cc), tt)))
    (given_has t.found t.state id size (walk_found s w c.sac size limit))

-- a holding that is queued
queue_has : (s : State) (w id : ℕ) (r : Frames) → HasMemory (Next.queue s w id r)
queue_has s w id r =
    let d = Next.after_drain s w w in
    unless_has s (Next.full_tests d w) (record { reply = reply.Queued r; state = Next.with_entry d w id r }) ((λ b e. absurd cc), tt) (λ e. absurd cc)

-- an unmap, by its holding
unmap_held_has : (held : Option Frames) (s : State) (w id : ℕ) → HasMemory (Next.unmap_held held s w id)
unmap_held_has None s w id = λ e. absurd cc
unmap_held_has (Some r) s w id = queue_has s w id r

-- and by its client
unmap_of_has : (o : Option Client) (s : State) (w id lo : ℕ) → HasMemory (Next.unmap_of o s w id lo)
unmap_of_has None s w id lo = λ e. absurd cc
unmap_of_has (Some c) s w id lo =
    let held = find (begins_at lo) c.holdings in
    unless_has s (Next.closing_tests c) (Next.unmap_held held s w id) ((λ b e. absurd cc), tt) (unmap_held_has held s w id)

-- a client that is marked closing
close_of_has : (o : Option Client) (s : State) (id : ℕ) → HasMemory (Next.close_of o s id)
close_of_has None s id = λ e. absurd cc
close_of_has (Some c) s id = λ e. absurd cc

-- one step of a closing, by its lowest holding
close_lowest_has : (rs : List Frames) (s : State) (w id : ℕ) → HasMemory (Next.close_lowest rs s w id)
close_lowest_has [] s w id = λ e. absurd cc
close_lowest_has (r ∷ rs) s w id = queue_has (Next.with_clients s (change_client id with_mark s.clients)) w id r

-- and by its client
close_one_of_has : (o : Option Client) (s : State) (w id : ℕ) → HasMemory (Next.close_one_of o s w id)
close_one_of_has None s w id = λ e. absurd cc
close_one_of_has (Some c) s w id = close_lowest_has c.holdings s w id

-- a step whose worker is asked for first
worker_has : (s : State) (w : ℕ) (n : Next.Next) → HasMemory n → HasMemory (Next.unless (Next.worker_tests s w) s n)
worker_has s w n has = unless_has s (Next.worker_tests s w) n ((λ b e. absurd cc), tt) has

-- where no growth is refused, each step has memory
next_has : (s : State) (st : Step) → HasMemory (Next.next s st point.Never)
next_has s (step.Reserve lo hi) =
    unless_has s (Next.reserve_tests s lo hi point.Never) (Next.reserve_window s (Next.from_to lo hi))
    ((λ b e. absurd cc), ((λ b e. absurd cc), ((λ b e. absurd cc), ((λ b e. absurd cc), tt)))) (λ e. absurd cc)
next_has s (step.Open w sac) =
    unless_has s (Next.open_tests s w point.Never) (record { reply = reply.Opened (s.serial + 1); state = Next.with_new_client s w sac })
    ((λ b e. absurd cc), ((λ b e. absurd cc), ((λ b e. absurd cc), ((λ b e. absurd cc), tt)))) (λ e. absurd cc)
next_has s (step.Alloc w id frames limit) =
    unless_has s (Next.alloc_tests s w frames) (Next.alloc_to (client_of w id s.clients) s w id (need frames) limit point.Never)
    ((λ b e. absurd cc), ((λ b e. absurd cc), ((λ b e. absurd cc), tt))) (alloc_to_has (client_of w id s.clients) s w id (need frames) limit)
next_has s (step.Unmap w id lo) = worker_has s w _ (unmap_of_has (client_of w id s.clients) s w id lo)
next_has s step.Begin =
    unless_has s (Next.begin_tests s.flushes) (record { reply = reply.Begun (s.flushes.start + 1); state = Next.with_flushes s (with_flight s.flushes) })
    ((λ b e. absurd cc), ((λ b e. absurd cc), tt)) (λ e. absurd cc)
next_has s (step.End n ok) =
    unless_has s (Next.end_tests s.flushes n) (record { reply = reply.Ended; state = Next.with_flushes s (after_end s.flushes n ok) }) ((λ b e. absurd cc), tt) (λ e. absurd cc)
next_has s (step.Drain q w) =
    let count = length (flushed_front s.flushes.finish (Next.ring_at s q)) in
    unless_has s (Next.drain_tests s q w) (record { reply = reply.Drained count; state = Next.after_drain s q w }) ((λ b e. absurd cc), tt) (λ e. absurd cc)
next_has s (step.Close w id) = worker_has s w _ (close_of_has (client_of w id s.clients) s id)
next_has s (step.CloseOne w id) = worker_has s w _ (close_one_of_has (client_of w id s.clients) s w id)

-- so memory is wanting only where a growth was refused
pub no_memory_is_refused : NoMemoryIsRefused
no_memory_is_refused = next_has

-- the point of a refused growth is nothing to the other steps
pub other_steps_take_no_memory : OtherStepsTakeNoMemory
other_steps_take_no_memory s (step.Reserve lo hi) m e = absurd cc
other_steps_take_no_memory s (step.Open w sac) m e = absurd cc
other_steps_take_no_memory s (step.Alloc w id frames limit) m e = absurd cc
other_steps_take_no_memory s st m e = next_has s st
