-- What `info` is answered: what is so of a daemon from its start to its end, a line each.
use Rattle.std.specs.Prelude.{ℕ, ◌≡◌, ◌++◌, ◌<◌, ◌==◌, Bool, true, false, List, [], ◌∷◌, codes, length}
use Rattle.std.specs.List.{before_first, after_first, position_or_len}
use Rattle.iova_control.specs.declared.control.Facts.{Facts}
use Rattle.iova_control.specs.Texts.{word_line, number_line}

-- the lines of a version's text
abbrev pub first_line : List ℕ → List ℕ
first_line text = before_first (λ b. b == 10) text

abbrev pub behind_line : List ℕ → List ℕ
behind_line text = after_first (λ b. b == 10) text

-- no line ends in a text, or it was cut behind its first one
abbrev pub HasNoLf : List ℕ → Type 0
HasNoLf text = position_or_len (λ b. b == 10) text ≡ length text

abbrev pub IsCut : List ℕ → List ℕ → List ℕ → Type 0
IsCut text line more =
    (line ≡ first_line text) × (more ≡ behind_line text)
    × (position_or_len (λ b. b == 10) text < length text)

abbrev pub second_line : List ℕ → List ℕ
second_line text = first_line (behind_line text)

abbrev pub sink_kind : Bool → List ℕ
sink_kind true = codes "peer"
sink_kind false = codes "file"

abbrev pub yes_or_no : Bool → List ℕ
yes_or_no true = codes "yes"
yes_or_no false = codes "no"

-- the line of a name, and none without one
abbrev pub name_line : List ℕ → List ℕ
name_line [] = []
name_line (b ∷ name) = word_line (codes "name") (b ∷ name)

abbrev pub info_text : Facts → List ℕ
info_text f =
    word_line (codes "version") (first_line f.version.bytes)
    ++ (word_line (codes "kit") (second_line f.version.bytes)
    ++ (number_line (codes "granule") f.granule
    ++ (number_line (codes "workers") f.workers
    ++ (number_line (codes "clients") f.clients
    ++ (word_line (codes "sink") (sink_kind f.has_peer)
    ++ (word_line (codes "recorded") (yes_or_no f.is_recorded)
    ++ name_line f.name.bytes))))))
