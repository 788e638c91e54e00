-- The text of the counts: eight lines of a name and a number.
use Rattle.std.specs.Prelude.{ℕ, ◌-◌, List, [], ◌∷◌, ◌++◌, length, replicate, codes, decimal}
use Rattle.iova_check.specs.declared.checker.Checker.{Checker}
use Rattle.iova_check.specs.declared.finding.Kind.TheVariants as kind
use Rattle.iova_check.specs.Marks.{stage_at}
use Rattle.iova_check.specs.Counting.{frames_told}

-- left in 10 places
abbrev pub name_text : List ℕ → List ℕ
name_text name = name ++ replicate (10 - length name) 32

-- right in 20 places
unfoldable pub number_text : ℕ → List ℕ
number_text n = replicate (20 - length (decimal n)) 32 ++ decimal n

abbrev pub field_text : List ℕ → ℕ → List ℕ
field_text name n = name_text name ++ (number_text n ++ 10 ∷ [])

-- the lines of each kind, the frames that are mapped and stale at the end, the findings, and the
-- lines of the log
abbrev pub summary_text : Checker → List ℕ
summary_text c =
    field_text (codes "maps") c.counts.maps
    ++ field_text (codes "unmaps") c.counts.unmaps
    ++ field_text (codes "flushes") c.counts.flushes
    ++ field_text (codes "uses") c.counts.uses
    ++ field_text (codes "mapped") (frames_told kind.Overlap (stage_at c.tracker.stages))
    ++ field_text (codes "stale") (frames_told kind.Stale (stage_at c.tracker.stages))
    ++ field_text (codes "findings") c.counts.findings
    ++ field_text (codes "lines") (c.tracker.line - 1)
