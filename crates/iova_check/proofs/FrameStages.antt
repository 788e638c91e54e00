-- The stage of a frame, in lines: by cases on the newest line.
use Rattle.std.proofs.Common.{ℕ, ◌≡◌, ◌∙◌, ◌<◌, inl, inr, true, false, List, [], ◌∷◌, Option, Some, None, refl, sym, ap, subst, arith}
use Rattle.std.specs.Prelude.{◌==◌, nat_lt}
use Rattle.std.proofs.lemmas.Bool.{cond-true, cond-false, cases_Bool, cases_lt, cases_order, both_ways, and_parts, ltb-true, lt-ltb}
use Rattle.iova_range.specs.Frames.{Frames, covers}
use Rattle.iova_check.specs.declared.event.Event.{Event}
use Rattle.iova_check.specs.declared.event.Event.TheVariants as event
use Rattle.iova_check.specs.declared.stage.Stage.{Stage}
use Rattle.iova_check.specs.declared.stage.Stage.TheVariants as stage
use Rattle.iova_check.specs.declared.stage.OpenFlush.{OpenFlush}
use Rattle.iova_check.specs.declared.stage.Change.TheVariants as change
use Rattle.iova_check.specs.History.{next_line, has, flight_of, stage_of, with_change, flushed_by}
use Rattle.iova_check.specs.Promise.{is_line, IsLine, NoneAfter, maps, unmaps, begins, ends_well, is_of, flushes, IsLongFlush, IsShortFlush, IsFlush, TakesBack, MayBeGiven, IsMappedSince, IsStaleSince, IsStage, StagesAreTold}
use Rattle.iova_check.proofs.Lines.{line_new, line_old, line_bound, line_cases, line_more, line_apart, after_more, after_less, after_newest, flush_bound, flush_more, flush_less, takes_more, takes_less}
use Rattle.iova_check.proofs.Flights.{IsFlight, IsNoFlight, IsFlightOf, flight_is}

-- no line maps and unmaps
maps_apart : (f : ℕ) (e : Event) → maps f e ≡ true → unmaps f e ≡ false
maps_apart f (event.Map r) h = refl
maps_apart f (event.Unmap r) h = absurd cc
maps_apart f (event.Use r) h = absurd cc
maps_apart f (event.Begin number range) h = absurd cc
maps_apart f (event.End number ok) h = absurd cc
maps_apart f (event.Flush range) h = absurd cc
maps_apart f (event.Other what) h = absurd cc

-- the line that unmaps is another than one that maps
other_line : (past : List Event) (f n m : ℕ) → IsLine (maps f) past n → IsLine (unmaps f) past m → n ≡ m → ⊥
other_line past f n m mapped unmapped same =
    let P : ℕ → Type 0 = λ x. IsLine (unmaps f) past x in
    both_ways (is_line (unmaps f) past n) (line_apart (maps f) (unmaps f) (maps_apart f) past n mapped) (subst P (sym same) unmapped)

-- A line that takes back is the one since which no line maps, as any other such line.
last_taken : (past : List Event) (f n m : ℕ) → TakesBack past f m → NoneAfter (maps f) past n → IsLine (unmaps f) past n → n < m → ⊥
last_taken past f n m taken last unmapped lt =
    elim (cases_order taken.mapped_at n) [
      | inl same ↦ other_line past f taken.mapped_at n taken.mapped unmapped same
      | inr (inl before) ↦ both_ways (is_line (unmaps f) past n) (taken.kept n before lt) unmapped
      | inr (inr after) ↦ both_ways (is_line (maps f) past taken.mapped_at) (last taken.mapped_at after) taken.mapped
    ]

-- One stage

same_mapped : (past : List Event) (f n m : ℕ) → IsMappedSince past f n → IsMappedSince past f m → n ≡ m
same_mapped past f n m a b = elim (cases_order n m) [
  | inl same ↦ same
  | inr (inl before) ↦ absurd (both_ways (is_line (maps f) past m) (a.last m before) b.mapped)
  | inr (inr after) ↦ absurd (both_ways (is_line (maps f) past n) (b.last n after) a.mapped)
]

same_stale : (past : List Event) (f n m : ℕ) → IsStaleSince past f n → IsStaleSince past f m → n ≡ m
same_stale past f n m a b = elim (cases_order n m) [
  | inl same ↦ same
  | inr (inl before) ↦ absurd (last_taken past f n m b.takes_back a.last a.takes_back.unmapped before)
  | inr (inr after) ↦ absurd (last_taken past f m n a.takes_back b.last b.takes_back.unmapped after)
]

not_mapped : (past : List Event) (f n : ℕ) → MayBeGiven past f → IsMappedSince past f n → ⊥
not_mapped past f n free is =
    let later = free.unmapped n is.mapped in
    both_ways (is_line (unmaps f) past later.0) (is.kept later.0 later.1) later.2

not_stale : (past : List Event) (f n : ℕ) → MayBeGiven past f → IsStaleSince past f n → ⊥
not_stale past f n free is =
    let flush = free.flushed n is.takes_back is.last in
    is.unflushed flush.0 flush.1 flush.2 flush.3

not_both : (past : List Event) (f n m : ℕ) → IsMappedSince past f n → IsStaleSince past f m → ⊥
not_both past f n m mapped stale = elim (cases_order n m) [
  | inl same ↦ other_line past f n m mapped.mapped stale.takes_back.unmapped same
  | inr (inl before) ↦ both_ways (is_line (unmaps f) past m) (mapped.kept m before) stale.takes_back.unmapped
  | inr (inr after) ↦ both_ways (is_line (maps f) past n) (stale.last n after) mapped.mapped
]

one_stage : (past : List Event) (f : ℕ) (s t : Stage) → IsStage past f s → IsStage past f t → s ≡ t
one_stage past f stage.Free stage.Free a b = refl
one_stage past f stage.Free (stage.Mapped m) a b = absurd (not_mapped past f m a b)
one_stage past f stage.Free (stage.Stale m) a b = absurd (not_stale past f m a b)
one_stage past f (stage.Mapped n) stage.Free a b = absurd (not_mapped past f n b a)
one_stage past f (stage.Mapped n) (stage.Mapped m) a b = ap (λ x. stage.Mapped x) (same_mapped past f n m a b)
one_stage past f (stage.Mapped n) (stage.Stale m) a b = absurd (not_both past f n m a b)
one_stage past f (stage.Stale n) stage.Free a b = absurd (not_stale past f n b a)
one_stage past f (stage.Stale n) (stage.Mapped m) a b = absurd (not_both past f m n b a)
one_stage past f (stage.Stale n) (stage.Stale m) a b = ap (λ x. stage.Stale x) (same_stale past f n m a b)

-- One line more

free_kept : (e : Event) (past : List Event) (f : ℕ) → maps f e ≡ false → MayBeGiven past f → MayBeGiven (e ∷ past) f
free_kept e past f none h = record {
  unmapped = λ n is. elim (line_cases (maps f) e past n is) [
    | inl new ↦ absurd (both_ways (maps f e) none new.1)
    | inr old ↦ let later = h.unmapped n old.1 in (later.0, later.1, line_more (unmaps f) e past later.0 later.2)
  ];
  flushed = λ n taken last. elim (line_cases (unmaps f) e past n taken.unmapped) [
    | inl new ↦
        let at = new.0 in
        let earlier = taken.before in
        let mapped : IsLine (maps f) past taken.mapped_at = sym (line_old (maps f) e past taken.mapped_at (omega arith)) ∙ taken.mapped in
        let later = h.unmapped taken.mapped_at mapped in
        let below : later.0 < next_line past = line_bound (unmaps f) past later.0 later.2 in
        absurd (both_ways (is_line (unmaps f) (e ∷ past) later.0) (taken.kept later.0 later.1 (omega arith)) (line_more (unmaps f) e past later.0 later.2))
    | inr old ↦
        let flush = h.flushed n (takes_less e past f n old.0 taken) (after_less (maps f) e past n last) in
        (flush.0, flush.1, flush.2, flush_more e past f flush.0 flush.1 flush.3)
  ];
}

mapped_kept : (e : Event) (past : List Event) (f n : ℕ) → maps f e ≡ false → unmaps f e ≡ false → IsMappedSince past f n → IsMappedSince (e ∷ past) f n
mapped_kept e past f n none kept h = record {
  mapped = line_more (maps f) e past n h.mapped;
  last = after_more (maps f) e past n none h.last;
  kept = after_more (unmaps f) e past n kept h.kept;
}

-- no flush that has the frame and began after line n ends well at the newest line
abbrev NoneEnds : Event → List Event → ℕ → ℕ → Type 0
NoneEnds e past f n = (begun : ℕ) → n < begun → IsFlush (e ∷ past) f begun (next_line past) → ⊥

stale_kept : (e : Event) (past : List Event) (f n : ℕ) → maps f e ≡ false → NoneEnds e past f n → IsStaleSince past f n → IsStaleSince (e ∷ past) f n
stale_kept e past f n none none_ends h = record {
  takes_back = takes_more e past f n h.takes_back;
  last = after_more (maps f) e past n none h.last;
  unflushed = λ begun ended lt flush.
      let bound : ended < next_line (e ∷ past) = flush_bound (e ∷ past) f begun ended flush in
      elim (cases_lt ended (next_line past)) [
        | inl below ↦ h.unflushed begun ended lt (flush_less e past f begun ended below flush)
        | inr above ↦
            let P : ℕ → Type 0 = λ x. IsFlush (e ∷ past) f begun x in
            let newest : ended ≡ next_line past = omega arith in
            none_ends begun lt (subst P newest flush)
      ];
}

-- a line that ends no flush well, and is none
none_ends : (e : Event) (past : List Event) (f n : ℕ) → ((number : ℕ) → ends_well number e ≡ false) → flushes f e ≡ false → NoneEnds e past f n
none_ends e past f n not short begun lt (inr flush) = both_ways (flushes f e) short (sym (line_new (flushes f) e past) ∙ flush.line)
none_ends e past f n not short begun lt (inl flush) = both_ways (ends_well flush.number e) (not flush.number) (sym (line_new (ends_well flush.number) e past) ∙ flush.ends)

-- a line that neither maps nor unmaps the frame, ends no flush well, and is none that has it
stage_kept : (e : Event) (past : List Event) (f : ℕ) (s : Stage) → maps f e ≡ false → unmaps f e ≡ false → ((number : ℕ) → ends_well number e ≡ false)
    → flushes f e ≡ false → IsStage past f s → IsStage (e ∷ past) f s
stage_kept e past f stage.Free none kept not short h = free_kept e past f none h
stage_kept e past f (stage.Mapped n) none kept not short h = mapped_kept e past f n none kept h
stage_kept e past f (stage.Stale n) none kept not short h = stale_kept e past f n none (none_ends e past f n not short) h

mapped_now : (e : Event) (past : List Event) (f : ℕ) → maps f e ≡ true → IsMappedSince (e ∷ past) f (next_line past)
mapped_now e past f is = record {
  mapped = line_new (maps f) e past ∙ is;
  last = after_newest (maps f) e past;
  kept = after_newest (unmaps f) e past;
}

-- no flush began after the newest line
none_after : (e : Event) (past : List Event) (f begun ended : ℕ) → next_line past < begun → IsFlush (e ∷ past) f begun ended → ⊥
none_after e past f begun ended lt (inl flush) =
    both_ways (is_line (begins flush.number f) (e ∷ past) begun) (after_newest (begins flush.number f) e past begun lt) flush.starts
none_after e past f begun ended lt (inr flush) =
    both_ways (is_line (flushes f) (e ∷ past) ended) (after_newest (flushes f) e past ended (omega (arith, flush.in_one_line))) flush.line

taken_now : (e : Event) (past : List Event) (f n : ℕ) → unmaps f e ≡ true → IsMappedSince past f n → IsStaleSince (e ∷ past) f (next_line past)
taken_now e past f n is h = record {
  takes_back = record {
    mapped_at = n;
    mapped = line_more (maps f) e past n h.mapped;
    before = line_bound (maps f) past n h.mapped;
    kept = λ m lt below. line_old (unmaps f) e past m below ∙ h.kept m lt;
    unmapped = line_new (unmaps f) e past ∙ is;
  };
  last = after_newest (maps f) e past;
  unflushed = none_after e past f;
}

unmapped_now : (e : Event) (past : List Event) (f : ℕ) (s : Stage) → maps f e ≡ false → unmaps f e ≡ true → ((number : ℕ) → ends_well number e ≡ false)
    → flushes f e ≡ false → IsStage past f s → IsStage (e ∷ past) f (with_change (change.Unmapped (next_line past)) s)
unmapped_now e past f stage.Free none is not short h = free_kept e past f none h
unmapped_now e past f (stage.Mapped n) none is not short h = taken_now e past f n is h
unmapped_now e past f (stage.Stale n) none is not short h = stale_kept e past f n none (none_ends e past f n not short) h

-- A flush that ends well

-- the flush began after line n
freed_by : (e : Event) (past : List Event) (f n begun : ℕ) → maps f e ≡ false → unmaps f e ≡ false → n < begun
    → IsFlush (e ∷ past) f begun (next_line past) → IsStaleSince past f n → MayBeGiven (e ∷ past) f
freed_by e past f n begun none kept after flush h =
    let taken = h.takes_back in
    record {
      unmapped = λ m is_map. elim (line_cases (maps f) e past m is_map) [
        | inl new ↦ absurd (both_ways (maps f e) none new.1)
        | inr old ↦ elim (cases_order m n) [
          | inl same ↦ absurd (other_line past f m n old.1 taken.unmapped same)
          | inr (inl before) ↦ (n, before, line_more (unmaps f) e past n taken.unmapped)
          | inr (inr later) ↦ absurd (both_ways (is_line (maps f) past m) (h.last m later) old.1)
        ]
      ];
      flushed = λ m other last. elim (line_cases (unmaps f) e past m other.unmapped) [
        | inl new ↦ absurd (both_ways (unmaps f e) kept new.1)
        | inr old ↦
            let less = takes_less e past f m old.0 other in
            let last_less = after_less (maps f) e past m last in
            elim (cases_order m n) [
              | inl same ↦ (begun, next_line past, omega arith, flush)
              | inr (inl before) ↦ absurd (last_taken past f m n taken last_less old.1 before)
              | inr (inr later) ↦ absurd (last_taken past f n m less h.last taken.unmapped later)
            ]
      ];
    }

freed : (past : List Event) (f number n : ℕ) (flight : OpenFlush) → IsFlight past number flight → has f flight.range ≡ true → n < flight.line
    → IsStaleSince past f n → MayBeGiven (event.End number true ∷ past) f
freed past f number n flight is having after h =
    let e = event.End number true in
    let below : flight.line < next_line past = line_bound (is_of number) past flight.line is.is in
    let ends : IsLine (ends_well number) (e ∷ past) (next_line past) = line_new (ends_well number) e past ∙ eq_self number in
    let flush : IsLongFlush (e ∷ past) f flight.line (next_line past) = record {
      number = number;
      starts = line_more (begins number f) e past flight.line (is.starts f ∙ having);
      ends = ends;
      in_order = below;
      alone = λ m lt under. line_old (is_of number) e past m under ∙ is.last m lt;
    } in
    freed_by e past f n flight.line refl refl after (inl flush) h
  where
    eq_self : (x : ℕ) → (x == x) ≡ true
    eq_self x = Rattle.std.proofs.lemmas.Bool.eq-eqb x x refl

-- Where no flush of the number is in flight, or it hasn't the frame, or it began before line n, none ends that does.

ended_no : (past : List Event) (f number begun : ℕ) → IsFlush (event.End number true ∷ past) f begun (next_line past)
    → IsLine (begins number f) past begun × NoneAfter (is_of number) past begun
ended_no past f number begun (inr flush) =
    let e = event.End number true in
    let short : flushes f e ≡ true = sym (line_new (flushes f) e past) ∙ flush.line in
    absurd cc
ended_no past f number begun (inl flush) =
    let e = event.End number true in
    let ends : ends_well flush.number e ≡ true = sym (line_new (ends_well flush.number) e past) ∙ flush.ends in
    let same : number ≡ flush.number = Rattle.std.proofs.lemmas.Bool.eqb-true number flush.number ends in
    let in_order : begun < next_line past = flush.in_order in
    let P : ℕ → Type 0 = λ x. IsLine (begins x f) past begun × NoneAfter (is_of x) past begun in
    subst P (sym same) (
      sym (line_old (begins flush.number f) e past begun in_order) ∙ flush.starts,
      λ m lt. elim (cases_lt m (next_line past)) [
        | inl under ↦ sym (line_old (is_of flush.number) e past m under) ∙ flush.alone m lt under
        | inr above ↦ Rattle.iova_check.proofs.Lines.line_above (is_of flush.number) past m above
      ],
    )

-- what begins a flush of the number is of the number
begins_of : (number f : ℕ) (e : Event) → begins number f e ≡ true → is_of number e ≡ true
begins_of number f (event.Map r) h = absurd cc
begins_of number f (event.Unmap r) h = absurd cc
begins_of number f (event.Use r) h = absurd cc
begins_of number f (event.Begin begun range) h = (and_parts (begun == number) (has f range) h).0
begins_of number f (event.End ended ok) h = absurd cc
begins_of number f (event.Flush range) h = absurd cc
begins_of number f (event.Other what) h = absurd cc

line_of : (number f : ℕ) (past : List Event) (n : ℕ) → IsLine (begins number f) past n → IsLine (is_of number) past n
line_of number f [] n h = absurd cc
line_of number f (e ∷ past) n h = elim (line_cases (begins number f) e past n h) [
  | inl new ↦
      let P : ℕ → Type 0 = λ x. IsLine (is_of number) (e ∷ past) x in
      subst P (sym new.0) (line_new (is_of number) e past ∙ begins_of number f e new.1)
  | inr old ↦ line_more (is_of number) e past n (line_of number f past n old.1)
]

none_in_flight : (past : List Event) (f number n : ℕ) → IsNoFlight past number → NoneEnds (event.End number true) past f n
none_in_flight past f number n none begun lt flush =
    let was = ended_no past f number begun flush in
    let later = none f begun was.0 in
    both_ways (is_line (is_of number) past later.0) (was.1 later.0 later.1) later.2

not_it : (past : List Event) (f number n : ℕ) (flight : OpenFlush) → IsFlight past number flight → (has f flight.range ≡ true → n < flight.line → ⊥)
    → NoneEnds (event.End number true) past f n
not_it past f number n flight is not begun lt flush =
    let was = ended_no past f number begun flush in
    elim (cases_order begun flight.line) [
      | inl same ↦
          let P : ℕ → Type 0 = λ x. IsLine (begins number f) past x in
          let after : n < flight.line = omega arith in
          not (sym (is.starts f) ∙ subst P same was.0) after
      | inr (inl before) ↦ both_ways (is_line (is_of number) past flight.line) (was.1 flight.line before) is.is
      | inr (inr later) ↦ both_ways (is_line (is_of number) past begun) (is.last begun later) (line_of number f past begun was.0)
    ]

-- a flush that doesn't free it
end_kept : (past : List Event) (f number : ℕ) (s : Stage) → ((n : ℕ) → NoneEnds (event.End number true) past f n) → IsStage past f s → IsStage (event.End number true ∷ past) f s
end_kept past f number stage.Free none h = free_kept (event.End number true) past f refl h
end_kept past f number (stage.Mapped n) none h = mapped_kept (event.End number true) past f n refl refl h
end_kept past f number (stage.Stale n) none h = stale_kept (event.End number true) past f n refl (none n) h

-- a flush that has it
flushed : (past : List Event) (f number : ℕ) (flight : OpenFlush) (s : Stage) → IsFlight past number flight → has f flight.range ≡ true
    → IsStage past f s → IsStage (event.End number true ∷ past) f (with_change (change.Flushed flight.line) s)
flushed past f number flight stage.Free is having h = free_kept (event.End number true) past f refl h
flushed past f number flight (stage.Mapped n) is having h = mapped_kept (event.End number true) past f n refl refl h
flushed past f number flight (stage.Stale n) is having h =
    let P : Stage → Type 0 = IsStage (event.End number true ∷ past) f in
    elim (cases_Bool (nat_lt n flight.line)) [
      | inl so ↦ subst P (sym (cond-true (nat_lt n flight.line) stage.Free (stage.Stale n) so)) (freed past f number n flight is having (ltb-true n flight.line so) h)
      | inr not ↦ subst P (sym (cond-false (nat_lt n flight.line) stage.Free (stage.Stale n) not))
          (stale_kept (event.End number true) past f n refl (not_it past f number n flight is (λ _ lt. both_ways (nat_lt n flight.line) not (lt-ltb n flight.line lt))) h)
    ]

ended_well : (past : List Event) (f number : ℕ) (flight : Option OpenFlush) (s : Stage) → IsFlightOf past number flight
    → IsStage past f s → IsStage (event.End number true ∷ past) f (flushed_by flight f s)
ended_well past f number None s is h = end_kept past f number s (λ n. none_in_flight past f number n is) h
ended_well past f number (Some flight) s is h =
    let P : Stage → Type 0 = IsStage (event.End number true ∷ past) f in
    let freed_stage = with_change (change.Flushed flight.line) s in
    elim (cases_Bool (has f flight.range)) [
      | inl so ↦ subst P (sym (cond-true (has f flight.range) freed_stage s so)) (flushed past f number flight s is so h)
      | inr not ↦ subst P (sym (cond-false (has f flight.range) freed_stage s not))
          (end_kept past f number s (λ n. not_it past f number n flight is (λ so _. both_ways (has f flight.range) not so)) h)
    ]

-- A whole flush at one line

freed_by_short_flush : (past : List Event) (f : ℕ) (range : Option Frames) (s : Stage) → has f range ≡ true
    → IsStage past f s → IsStage (event.Flush range ∷ past) f (with_change (change.Flushed (next_line past)) s)
freed_by_short_flush past f range stage.Free having h = free_kept (event.Flush range) past f refl h
freed_by_short_flush past f range (stage.Mapped n) having h = mapped_kept (event.Flush range) past f n refl refl h
freed_by_short_flush past f range (stage.Stale n) having h =
    let e = event.Flush range in
    let P : Stage → Type 0 = IsStage (e ∷ past) f in
    let before : n < next_line past = line_bound (unmaps f) past n h.takes_back.unmapped in
    let flush : IsShortFlush (e ∷ past) f (next_line past) (next_line past) = record { line = line_new (flushes f) e past ∙ having; in_one_line = refl } in
    subst P (sym (cond-true (nat_lt n (next_line past)) stage.Free (stage.Stale n) (lt-ltb n (next_line past) before)))
    (freed_by e past f n (next_line past) refl refl before (inr flush) h)

flushed_by_short_flush : (past : List Event) (f : ℕ) (range : Option Frames) (s : Stage) → IsStage past f s
    → IsStage (event.Flush range ∷ past) f (flushed_by (Some (record { line = next_line past; range = range })) f s)
flushed_by_short_flush past f range s h =
    let e = event.Flush range in
    let P : Stage → Type 0 = IsStage (e ∷ past) f in
    let freed_stage = with_change (change.Flushed (next_line past)) s in
    elim (cases_Bool (has f range)) [
      | inl so ↦ subst P (sym (cond-true (has f range) freed_stage s so)) (freed_by_short_flush past f range s so h)
      | inr not ↦ subst P (sym (cond-false (has f range) freed_stage s not)) (stage_kept e past f s refl refl (λ number. refl) not h)
    ]

-- Any lines

pub stage_is : (past : List Event) (f : ℕ) → IsStage past f (stage_of past f)
stage_is [] f = record { unmapped = λ n is. absurd cc; flushed = λ n taken last. let h = taken.mapped in absurd cc }
stage_is (event.Map r ∷ past) f =
    let e = event.Map r in
    let P : Stage → Type 0 = IsStage (e ∷ past) f in
    elim (cases_Bool (covers f r)) [
      | inl so ↦ subst P (sym (cond-true (covers f r) (stage.Mapped (next_line past)) (stage_of past f) so)) (mapped_now e past f so)
      | inr not ↦ subst P (sym (cond-false (covers f r) (stage.Mapped (next_line past)) (stage_of past f) not))
          (stage_kept e past f (stage_of past f) not refl (λ number. refl) refl (stage_is past f))
    ]
stage_is (event.Unmap r ∷ past) f =
    let e = event.Unmap r in
    let P : Stage → Type 0 = IsStage (e ∷ past) f in
    let taken = with_change (change.Unmapped (next_line past)) (stage_of past f) in
    elim (cases_Bool (covers f r)) [
      | inl so ↦ subst P (sym (cond-true (covers f r) taken (stage_of past f) so))
          (unmapped_now e past f (stage_of past f) refl so (λ number. refl) refl (stage_is past f))
      | inr not ↦ subst P (sym (cond-false (covers f r) taken (stage_of past f) not))
          (stage_kept e past f (stage_of past f) refl not (λ number. refl) refl (stage_is past f))
    ]
stage_is (event.Use r ∷ past) f = stage_kept (event.Use r) past f (stage_of past f) refl refl (λ number. refl) refl (stage_is past f)
stage_is (event.Begin number range ∷ past) f = stage_kept (event.Begin number range) past f (stage_of past f) refl refl (λ number. refl) refl (stage_is past f)
stage_is (event.End number true ∷ past) f = ended_well past f number (flight_of past number) (stage_of past f) (flight_is past number) (stage_is past f)
stage_is (event.End number false ∷ past) f = stage_kept (event.End number false) past f (stage_of past f) refl refl (λ number. refl) refl (stage_is past f)
stage_is (event.Flush range ∷ past) f = flushed_by_short_flush past f range (stage_of past f) (stage_is past f)
stage_is (event.Other what ∷ past) f = stage_kept (event.Other what) past f (stage_of past f) refl refl (λ number. refl) refl (stage_is past f)

pub stages_are_told : StagesAreTold
stages_are_told past f = record {
  is = stage_is past f;
  only = λ s is. one_stage past f s (stage_of past f) is (stage_is past f);
}
