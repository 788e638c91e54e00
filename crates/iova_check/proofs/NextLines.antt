-- One line more of a checker.
use Rattle.std.proofs.Common.{ℕ, ◌≡◌, ◌+◌, List, ◌∷◌, ◌++◌, Option, refl, sym, ap, subst, arith}
use Rattle.iova_check.specs.declared.event.Event.{Event}
use Rattle.iova_check.specs.declared.event.Event.TheVariants as event
use Rattle.iova_check.specs.declared.finding.Finding.{Finding}
use Rattle.iova_check.specs.declared.allowed.Allowed.{Allowed}
use Rattle.iova_check.specs.AllowedBounds.{AllowedBounds}
use Rattle.iova_check.specs.Allowing.{Allows}
use Rattle.iova_check.specs.declared.counts.LogCounts.{LogCounts}
use Rattle.iova_check.specs.declared.checker.Checker.{Checker}
use Rattle.iova_check.specs.History.{flight_of, stage_of}
use Rattle.iova_check.specs.Following.{Follows}
use Rattle.iova_check.specs.Findings.{AreFindings, TellsBreaks}
use Rattle.iova_check.specs.Counting.{IsCounted, counts_after, how_many}
use Rattle.iova_check.specs.Output.{findings_text}
use Rattle.iova_check.specs.Checking.{ChecksNext}

counted_more : (past : List Event) (e : Event) (found n : ℕ) (c : LogCounts) → IsCounted past found c → IsCounted (e ∷ past) (found + n) (counts_after c e n)
counted_more past (event.Map r) found n c h =
    record { maps = omega (arith, h.maps); unmaps = omega (arith, h.unmaps); flushes = omega (arith, h.flushes); uses = omega (arith, h.uses); others = omega (arith, h.others); lost = omega (arith, h.lost); too_long = omega (arith, h.too_long); findings = omega (arith, h.findings) }
counted_more past (event.Unmap r) found n c h =
    record { maps = omega (arith, h.maps); unmaps = omega (arith, h.unmaps); flushes = omega (arith, h.flushes); uses = omega (arith, h.uses); others = omega (arith, h.others); lost = omega (arith, h.lost); too_long = omega (arith, h.too_long); findings = omega (arith, h.findings) }
counted_more past (event.Use r) found n c h =
    record { maps = omega (arith, h.maps); unmaps = omega (arith, h.unmaps); flushes = omega (arith, h.flushes); uses = omega (arith, h.uses); others = omega (arith, h.others); lost = omega (arith, h.lost); too_long = omega (arith, h.too_long); findings = omega (arith, h.findings) }
counted_more past (event.Begin number range) found n c h =
    record { maps = omega (arith, h.maps); unmaps = omega (arith, h.unmaps); flushes = omega (arith, h.flushes); uses = omega (arith, h.uses); others = omega (arith, h.others); lost = omega (arith, h.lost); too_long = omega (arith, h.too_long); findings = omega (arith, h.findings) }
counted_more past (event.End number ok) found n c h =
    record { maps = omega (arith, h.maps); unmaps = omega (arith, h.unmaps); flushes = omega (arith, h.flushes); uses = omega (arith, h.uses); others = omega (arith, h.others); lost = omega (arith, h.lost); too_long = omega (arith, h.too_long); findings = omega (arith, h.findings) }
counted_more past (event.Flush range) found n c h =
    record { maps = omega (arith, h.maps); unmaps = omega (arith, h.unmaps); flushes = omega (arith, h.flushes); uses = omega (arith, h.uses); others = omega (arith, h.others); lost = omega (arith, h.lost); too_long = omega (arith, h.too_long); findings = omega (arith, h.findings) }
counted_more past (event.Other what) found n c h =
    record { maps = omega (arith, h.maps); unmaps = omega (arith, h.unmaps); flushes = omega (arith, h.flushes); uses = omega (arith, h.uses); others = omega (arith, h.others); lost = omega (arith, h.lost); too_long = omega (arith, h.too_long); findings = omega (arith, h.findings) }

pub checks_next : (old new : Checker) (e : Event) (before after : List ℕ) (told : List (Option Finding)) → new.allowed ≡ old.allowed
    → after ≡ before ++ findings_text old.tracker.line told
    → ((bounds : AllowedBounds) (past : List Event) → Allows old.allowed bounds → Follows past old.tracker → AreFindings bounds (stage_of past) (flight_of past) e told)
    → ((bounds : AllowedBounds) (past : List Event) → Allows old.allowed bounds → Follows past old.tracker → TellsBreaks past e told)
    → ((past : List Event) → Follows past old.tracker → Follows (e ∷ past) new.tracker)
    → new.counts ≡ counts_after old.counts e (how_many told) → ChecksNext old e before new after
checks_next old new e before after told same appended are breaks follows counts = record {
  more = findings_text old.tracker.line told;
  appended = appended;
  checks = λ bounds past text h.
      let P : Allowed → Type 0 = λ a. Allows a bounds in
      let Q : LogCounts → Type 0 = IsCounted (e ∷ past) (h.found + how_many told) in
      record {
        under = subst P (sym same) h.under;
        follows = follows past h.follows;
        found = h.found + how_many told;
        told = (
          text,
          h.found,
          h.told,
          record {
            findings = told;
            are = are bounds past h.under h.follows;
            breaks = breaks bounds past h.under h.follows;
            whole = ap (λ n. text ++ findings_text n told) h.follows.line;
            count = refl;
          },
        );
        counted = subst Q (sym counts) (counted_more past e h.found (how_many told) old.counts h.counted);
      };
}
