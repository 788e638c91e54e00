-- A frame leaves the rings only after a flush that began after its unmap.
use Rattle.std.proofs.Common.{ℕ, zero, suc, ◌≡◌, ◌+◌, ◌<◌, ◌≤◌, ◌⊎◌, inl, inr, Bool, true, false, List, [], ◌∷◌, ◌++◌, length, take, Option, Some, refl, sym, ap, ◌∙◌, subst, arith}
use Rattle.std.specs.Prelude.{slice_get}
use Rattle.std.proofs.lemmas.Bool.{cases_lt}
use Rattle.std.proofs.lemmas.Bool.Decides.{nat_tests}
use Rattle.iova_model.specs.declared.step.Step.{Step}
use Rattle.iova_model.specs.declared.step.Step.TheVariants as step
use Rattle.iova_model.specs.declared.step.Reply.{Reply}
use Rattle.iova_model.specs.declared.step.Reply.TheVariants as reply
use Rattle.iova_model.specs.declared.step.Point.{Point}
use Rattle.iova_model.specs.declared.flight.Flight.{Flight}
use Rattle.iova_model.specs.Flushes.{Flushes, is_in_flight, without_flight, passed_on, after_end}
use Rattle.iova_model.specs.State.{State}
use Rattle.iova_model.specs.Next.{next}
use Rattle.iova_model.specs.Transcript.{Pair, IsTranscript, after, Unmaps, IsUnmappedAt, IsFlushedBetween, is_ringed}
use Rattle.iova_model.specs.Valid.{IsValid}
use Rattle.iova_model.specs.Laws.{TranscriptsAreFlushed}
use Rattle.iova_laws.proofs.NumberCredits.{in_flight_begun}
use Rattle.iova_laws.proofs.FlushRings.{waits, is_ringed-waits}
use Rattle.iova_laws.proofs.FlushSteps.{FlushStep, leaves, begins_one, ends_one, flush_step, still_waits, queues_waits, unmapped_flushes}
use Rattle.iova_laws.proofs.Outcomes.{outcome}
use Rattle.iova_laws.proofs.Valid.{transcripts_keep_validity}

-- Flights before and after a step.

-- one that was there, or the new one
in_flight_push : (g : ℕ) (fs : List Flight) (n credit : ℕ) → is_in_flight g (fs ++ record { number = n; credit = credit } ∷ []) ≡ true → (is_in_flight g fs ≡ true) ⊎ (g ≡ n)
in_flight_push g [] n credit flies = inr (grind (arith, nat_tests))
in_flight_push g (f ∷ fs) n credit flies = grind (arith, nat_tests, in_flight_push g fs n credit)

-- what is left where one ended well was there
in_flight_without : (g n : ℕ) (fs : List Flight) → is_in_flight g (without_flight n fs) ≡ true → is_in_flight g fs ≡ true
in_flight_without g n [] flies = flies
in_flight_without g n (f ∷ fs) flies = grind (arith, nat_tests, in_flight_without g n fs)

-- and where one failed
in_flight_passed : (g n : ℕ) (fs : List Flight) → is_in_flight g (passed_on n fs) ≡ true → is_in_flight g fs ≡ true
in_flight_passed g n [] flies = flies
in_flight_passed g n (f ∷ []) flies = grind (arith, nat_tests)
in_flight_passed g n (f ∷ e ∷ fs) flies = grind (arith, nat_tests, in_flight_passed g n (e ∷ fs))

-- the flight began at a pair after i and before k
record Began (ps : List Pair) (i k number : ℕ) : Type 0 where
  place : ℕ
  point : Point
  later : i < place
  earlier : place < k
  is : slice_get ps place ≡ Some (record { step = step.Begin; point = point; reply = reply.Begun number })

-- each flight above this count began after pair i
abbrev AllBegan : List Pair → ℕ → ℕ → ℕ → Flushes → Type 0
AllBegan ps i count k f = (g : ℕ) → is_in_flight g f.in_flight ≡ true → count < g → Began ps i k g

-- either no flush above this count valid ended well and the frame waits in a ring, or a flush that began after pair i valid
abbrev WaitsOrFlushed : List Pair → ℕ → ℕ → ℕ → ℕ → State → Type 0
WaitsOrFlushed ps i frame count k s = ((s.flushes.newest ≤ count) × (waits frame count s.rings ≡ true)) ⊎ IsFlushedBetween ps i k

-- what holds after the first k pairs, where pair i unmapped the frame at this start count
record Pending (ps : List Pair) (i frame count k : ℕ) (s : State) : Type 0 where
  began : AllBegan ps i count k s.flushes
  waits_or_flushed : WaitsOrFlushed ps i frame count k s

-- Pair k, which is after pair i.
module _ (ps : List Pair) (i count k : ℕ) (p : Pair) (is : slice_get ps k ≡ Some p) (after_i : i < k) where
  -- what was flushed before the pair was flushed before the next one
  flushed_later : IsFlushedBetween ps i k → IsFlushedBetween ps i (suc k)
  flushed_later b = record { began = b.began; done = b.done; whole = b.whole; later = b.later; earlier = omega (arith, b.earlier) }

  -- and what began before it began before the next one
  began_later : (g : ℕ) → Began ps i k g → Began ps i (suc k) g
  began_later g b = record { place = b.place; point = b.point; later = b.later; earlier = omega (arith, b.earlier); is = b.is }

  -- the pair, by its parts
  pair_is : (st : Step) (r : Reply) → p.step ≡ st → p.reply ≡ r → slice_get ps k ≡ Some (record { step = st; point = p.point; reply = r })
  pair_is st r a b =
      let with_step : Step → Option Pair = λ x. Some (record { step = x; point = p.point; reply = p.reply }) in
      let with_reply : Reply → Option Pair = λ x. Some (record { step = st; point = p.point; reply = x }) in
      is ∙ (ap with_step a ∙ ap with_reply b)

  -- it ends well a flight that began after pair i
  whole_flush : (n : ℕ) → Began ps i k n → p.step ≡ step.End n true → p.reply ≡ reply.Ended → IsFlushedBetween ps i (suc k)
  whole_flush n b a r = record {
    began = b.place;
    done = k;
    whole = record {
      number = n;
      begin_point = b.point;
      end_point = p.point;
      begins = b.is;
      ends = pair_is (step.End n true) reply.Ended a r;
      order = b.earlier;
    };
    later = b.later;
    earlier = omega arith;
  }

  -- what the pair leaves of the flushes
  record Left (old new : Flushes) : Type 0 where
    began : AllBegan ps i count (suc k) new
    newest : (old.newest ≤ count → new.newest ≤ count) ⊎ IsFlushedBetween ps i (suc k)

  -- a flush ends at the pair: one that is newer than the unmap and ends well is whole, and else no newer one has ended well
  ended_left : (old : Flushes) (n : ℕ) (ok : Bool) → p.step ≡ step.End n ok → p.reply ≡ reply.Ended → is_in_flight n old.in_flight ≡ true → AllBegan ps i count k old → (count < n) ⊎ (n ≤ count)
      → Left old (after_end old n ok)
  ended_left old n true a r flies h (inr le) = record {
    began = λ g still above. began_later g (h g (in_flight_without g n old.in_flight still) above);
    newest = inl (λ before. omega arith);
  }
  ended_left old n true a r flies h (inl above_n) = record {
    began = λ g still above. began_later g (h g (in_flight_without g n old.in_flight still) above);
    newest = inr (whole_flush n (h n flies above_n) a r);
  }
  ended_left old n false a r flies h which = record {
    began = λ g still above. began_later g (h g (in_flight_passed g n old.in_flight still) above);
    newest = inl (λ before. before);
  }

  -- a flush begins at the pair: those in flight are older ones and the new one
  begun_left : (old : Flushes) → p.step ≡ step.Begin → p.reply ≡ reply.Begun (old.start + 1) → AllBegan ps i count k old
      → (g : ℕ) → (is_in_flight g old.in_flight ≡ true) ⊎ (g ≡ old.start + 1) → count < g → Began ps i (suc k) g
  begun_left old a r h g (inl still) above = began_later g (h g still above)
  begun_left old a r h g (inr e) above = record {
    place = k;
    point = p.point;
    later = after_i;
    earlier = omega arith;
    is = pair_is step.Begin (reply.Begun g) a (r ∙ ap (λ x. reply.Begun x) (sym e));
  }

  -- whatever the pair does to the flushes
  flushes_left : (old new : Flushes) → FlushStep p.step p.reply old new → AllBegan ps i count k old → Left old new
  flushes_left old new (leaves e) h =
      subst (λ x. Left old x) (sym e) (record { began = λ g still above. began_later g (h g still above); newest = inl (λ before. before) })
  flushes_left old new (begins_one a r e) h =
      subst (λ x. Left old x) (sym e) (record {
        began = λ g flies above. begun_left old a r h g (in_flight_push g old.in_flight (old.start + 1) (1 + old.owed) flies) above;
        newest = inl (λ before. before);
      })
  flushes_left old new (ends_one n ok a r flies e) h = subst (λ x. Left old x) (sym e) (ended_left old n ok a r flies h (cases_lt count n))

  -- the frame still waits, or valid been flushed
  rings_left : (frame : ℕ) (s t : State) → (s.flushes.newest ≤ count → waits frame count s.rings ≡ true → waits frame count t.rings ≡ true) → WaitsOrFlushed ps i frame count k s
      → (s.flushes.newest ≤ count → t.flushes.newest ≤ count) ⊎ IsFlushedBetween ps i (suc k) → WaitsOrFlushed ps i frame count (suc k) t
  rings_left frame s t still (inr b) newest = inr (flushed_later b)
  rings_left frame s t still (inl both) (inr b) = inr b
  rings_left frame s t still (inl both) (inl newest) = inl (newest both.0, still both.0 both.1)

  -- what held before the pair holds after it
  pending_next : (frame : ℕ) (s : State) → IsValid s → p.reply ≡ (next s p.step p.point).reply → Pending ps i frame count k s → Pending ps i frame count (suc k) (next s p.step p.point).state
  pending_next frame s valid reply_is h =
      let t = (next s p.step p.point).state in
      let o = outcome s p.step p.point in
      let left = flushes_left s.flushes t.flushes (subst (λ r. FlushStep p.step r s.flushes t.flushes) (sym reply_is) (flush_step s o)) h.began in
      record {
        began = left.began;
        waits_or_flushed = rings_left frame s t (λ newest there. still_waits s o frame count (omega (arith, valid.flushes.finish)) there) h.waits_or_flushed left.newest;
      }

-- Pairs of a transcript.

-- the pair at k is a step's in the state that the pairs before it leave
pub record StepAt (s : State) (ps : List Pair) (k : ℕ) (p : Pair) : Type 0 where
  pub reply : p.reply ≡ (next (after s (take k ps)) p.step p.point).reply
  pub state : after s (take (suc k) ps) ≡ (next (after s (take k ps)) p.step p.point).state

-- each pair is such a step
pub step_at : (s : State) (ps : List Pair) (k : ℕ) (p : Pair) → IsTranscript s ps → slice_get ps k ≡ Some p → StepAt s ps k p
step_at s [] k p t is = absurd cc
step_at s (x ∷ ps) zero p t is =
    let e : x ≡ p = cc in
    subst (λ y. StepAt s (x ∷ ps) 0 y) e (record { reply = t.0; state = refl })
step_at s (x ∷ ps) (suc k) p t is =
    let r = step_at (next s x.step x.point).state ps k p t.1 is in record { reply = r.reply; state = r.state }

-- there is a pair at each place
pair_at : (ps : List Pair) (k : ℕ) → k < length ps → (p : Pair) × (slice_get ps k ≡ Some p)
pair_at [] k below = absurd (omega arith)
pair_at (p ∷ ps) zero below = (p, refl)
pair_at (p ∷ ps) (suc k) below = pair_at ps k (omega arith)

-- just after the unmap
pending_first : (ps : List Pair) (i frame : ℕ) (s : State) (st : Step) (m : Point) → IsValid s → Unmaps frame (next s st m).reply → Pending ps i frame s.flushes.start (suc i) (next s st m).state
pending_first ps i frame s st m valid u =
    let o = outcome s st m in
    let e = unmapped_flushes s o frame u in
    record {
      began = λ g flies above. absurd (let le = in_flight_begun g 0 s.flushes.in_flight s.flushes.start (subst (λ f. is_in_flight g f.in_flight ≡ true) e flies) valid.flushes.rising in omega arith);
      waits_or_flushed = inl (subst (λ f. f.newest ≤ s.flushes.start) (sym e) valid.flushes.newest, queues_waits s o frame valid.each_ring u);
    }

-- before k or at it
before_or_at : (i k : ℕ) → i < suc k → (i < k) ⊎ (i ≡ k)
before_or_at i k below = split (cases_lt i k)
  where
    split : (i < k) ⊎ (k ≤ i) → (i < k) ⊎ (i ≡ k)
    split (inl a) = inl a
    split (inr b) = inr (omega arith)

-- A transcript, in which pair i unmapped the frame.
module _ (s : State) (ps : List Pair) (valid : IsValid s) (t : IsTranscript s ps) (i frame : ℕ) (u : IsUnmappedAt ps i frame) where
  -- the start count at the unmap
  abbrev count : ℕ
  count = (after s (take i ps)).flushes.start

  -- just after the unmap
  pending_once : Pending ps i frame count (suc i) (after s (take (suc i) ps))
  pending_once =
      let at = step_at s ps i u.pair t u.is in
      let now = after s (take i ps) in
      let unmaps_now = subst (λ r. Unmaps frame r) at.reply u.unmaps in
      subst (λ x. Pending ps i frame count (suc i) x) (sym at.state) (pending_first ps i frame now u.pair.step u.pair.point (transcripts_keep_validity s (take i ps) valid) unmaps_now)

  -- from one pair after the unmap to the next
  pending_on : (k : ℕ) (p : Pair) → slice_get ps k ≡ Some p → i < k → Pending ps i frame count k (after s (take k ps)) → Pending ps i frame count (suc k) (after s (take (suc k) ps))
  pending_on k p is after_i h =
      let at = step_at s ps k p t is in
      let now = after s (take k ps) in
      subst (λ x. Pending ps i frame count (suc k) x) (sym at.state) (pending_next ps i count k p is after_i frame now (transcripts_keep_validity s (take k ps) valid) at.reply h)

  -- the pair is the unmap, or a later one
  pending_step : (k : ℕ) → suc k ≤ length ps → (i < k → Pending ps i frame count k (after s (take k ps))) → (i < k) ⊎ (i ≡ k) → Pending ps i frame count (suc k) (after s (take (suc k) ps))
  pending_step k le h (inl after_i) = let p = pair_at ps k le in pending_on k p.0 p.1 after_i (h after_i)
  pending_step k le h (inr e) = subst (λ j. Pending ps i frame count (suc j) (after s (take (suc j) ps))) e pending_once

  -- after each number of pairs that valid the unmap among them
  pending_at : (k : ℕ) → i < k → k ≤ length ps → Pending ps i frame count k (after s (take k ps))
  pending_at zero after_i le = absurd (omega arith)
  pending_at (suc k) after_i le = pending_step k le (λ below. pending_at k below (omega arith)) (before_or_at i k after_i)

  -- where no ring has the frame, it doesn't wait, and so it was flushed
  flushed_where_gone : (n : ℕ) → is_ringed frame (after s (take n ps)).rings ≡ false → WaitsOrFlushed ps i frame count n (after s (take n ps)) → IsFlushedBetween ps i n
  flushed_where_gone n gone (inl both) = absurd (let there = is_ringed-waits frame count (after s (take n ps)).rings both.1 in cc)
  flushed_where_gone n gone (inr b) = b

-- so a frame leaves the rings only after a flush
pub transcripts_are_flushed : TranscriptsAreFlushed
transcripts_are_flushed = λ s ps valid t n i frame le before u gone.
    flushed_where_gone s ps valid t i frame u n gone (pending_at s ps valid t i frame u n before le).waits_or_flushed
