-- Worked examples of the stages of frames: what the definitions compute, against stages worked out by hand. Logs stand with the
-- newest line first.
use Rattle.std.proofs.Common.{◌≡◌, true, false, List, [], ◌∷◌, Some, None, ℕ, refl}
use Rattle.iova_range.specs.Frames.{Frames}
use Rattle.iova_check.specs.declared.event.Event.{Event}
use Rattle.iova_check.specs.declared.event.Event.TheVariants.{Map, Unmap, Use, Begin, End, Flush, Other}
use Rattle.iova_check.specs.declared.event.OtherLine.TheVariants.{Plain}
use Rattle.iova_check.specs.declared.stage.Stage.TheVariants.{Free, Mapped, Stale}
use Rattle.iova_check.specs.History.{stage_of, flight_of}
use Rattle.iova_check.specs.Trace.{says_lost}
use Rattle.std.specs.Prelude.{codes}

abbrev at : ℕ → ℕ → Frames
at lo len = record { lo = lo; len = len }

-- line 1 says nothing, line 2 maps the frames 8 to 11, and line 3 unmaps 8 and 9
abbrev unmapped : List Event
unmapped = Unmap (at 8 2) ∷ Map (at 8 4) ∷ Other Plain ∷ []

nothing_is_mapped : stage_of [] 8 ≡ Free
nothing_is_mapped = refl

the_frame_before : stage_of unmapped 7 ≡ Free
the_frame_before = refl

the_first_frame : stage_of unmapped 8 ≡ Stale 3
the_first_frame = refl

the_last_unmapped : stage_of unmapped 9 ≡ Stale 3
the_last_unmapped = refl

the_last_frame : stage_of unmapped 11 ≡ Mapped 2
the_last_frame = refl

the_frame_behind : stage_of unmapped 12 ≡ Free
the_frame_behind = refl

flushed_after_the_unmap : stage_of (End 1 true ∷ Begin 1 None ∷ unmapped) 8 ≡ Free
flushed_after_the_unmap = refl

what_is_mapped_stays : stage_of (End 1 true ∷ Begin 1 None ∷ unmapped) 10 ≡ Mapped 2
what_is_mapped_stays = refl

not_ended : stage_of (Begin 1 None ∷ unmapped) 8 ≡ Stale 3
not_ended = refl

began_too_early : stage_of (End 1 true ∷ Unmap (at 8 2) ∷ Begin 1 None ∷ Map (at 8 4) ∷ []) 8 ≡ Stale 3
began_too_early = refl

failed : stage_of (End 1 false ∷ Begin 1 None ∷ unmapped) 8 ≡ Stale 3
failed = refl

of_its_frames_alone : stage_of (End 1 true ∷ Begin 1 (Some (at 9 100)) ∷ unmapped) 8 ≡ Stale 3
of_its_frames_alone = refl

of_its_frames : stage_of (End 1 true ∷ Begin 1 (Some (at 9 100)) ∷ unmapped) 9 ≡ Free
of_its_frames = refl

ends_once : stage_of (End 1 true ∷ Unmap (at 10 1) ∷ End 1 true ∷ Begin 1 None ∷ unmapped) 10 ≡ Stale 6
ends_once = refl

begun_again : flight_of (Begin 1 (Some (at 8 1)) ∷ Unmap (at 10 1) ∷ Begin 1 None ∷ unmapped) 1 ≡ Some (record { line = 6; range = Some (at 8 1) })
begun_again = refl

unmapped_twice : stage_of (Unmap (at 8 4) ∷ unmapped) 8 ≡ Stale 3
unmapped_twice = refl

unmapped_and_free : stage_of (Unmap (at 0 100) ∷ []) 8 ≡ Free
unmapped_and_free = refl

mapped_twice : stage_of (Map (at 8 1) ∷ unmapped) 8 ≡ Mapped 4
mapped_twice = refl

a_use_changes_nothing : stage_of (Use (at 8 4) ∷ unmapped) 8 ≡ Stale 3
a_use_changes_nothing = refl

a_short_flush : stage_of (Flush None ∷ unmapped) 8 ≡ Free
a_short_flush = refl

a_short_flush_of_its_frames_alone : stage_of (Flush (Some (at 9 100)) ∷ unmapped) 8 ≡ Stale 3
a_short_flush_of_its_frames_alone = refl

a_short_flush_before_the_unmap : stage_of (Unmap (at 8 2) ∷ Flush None ∷ Map (at 8 4) ∷ []) 8 ≡ Stale 3
a_short_flush_before_the_unmap = refl

other_lines_change_nothing : stage_of (Other Plain ∷ unmapped) 8 ≡ Stale 3
other_lines_change_nothing = refl

-- lines of a kernel's trace that say that events were lost, or don't

events_were_lost : says_lost (codes "CPU:3 [LOST 12 EVENTS]") ≡ true
events_were_lost = refl

no_count_of_them : says_lost (codes "CPU:3 [LOST EVENTS]") ≡ false
no_count_of_them = refl

no_processor : says_lost (codes "CPU: [LOST 12 EVENTS]") ≡ false
no_processor = refl

more_behind_it : says_lost (codes "CPU:3 [LOST 12 EVENTS] ") ≡ false
more_behind_it = refl
