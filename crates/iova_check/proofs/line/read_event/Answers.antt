use Rattle.std.proofs.Common.{ℕ, ◌≡◌, true, List, [], ◌∷◌, ◌++◌, codes, decimal, refl}
use Rattle.std.specs.List.{list_all}
use Rattle.iova_text.specs.Reading.{is_not_space, stops}
use Rattle.iova_text.specs.Words.{spaced_words}
use Rattle.iova_text.proofs.Cuts.{stops-spaced_words}
use Rattle.iova_check.specs.declared.event.Event.{Event}
use Rattle.iova_check.specs.declared.event.Event.TheVariants as event
use Rattle.iova_check.specs.declared.line.LogVerb.{LogVerb}
use Rattle.iova_check.specs.declared.line.LogVerb.TheVariants as verb
use Rattle.iova_check.specs.Text.{verb_text, outcome_text, range_words, scope_words, event_text, IsEvent}
use Rattle.iova_check.proofs.line.read_event.Goals as goal

-- a line of whose first word none of the verbs is the text says no event
unread : (line word rest : List ℕ) → ((w r : List ℕ) → list_all is_not_space w ≡ true → stops is_not_space r ≡ true → line ≡ w ++ r → (word ≡ w) × (rest ≡ r))
    → ((v : LogVerb) → word ≡ verb_text v → ⊥) → (e : Event) → IsEvent e → line ≡ event_text e → ⊥
unread line word rest read none (event.Map r) is e = none verb.Map (read (codes "map") (spaced_words (range_words r)) refl (stops-spaced_words (range_words r)) e).0
unread line word rest read none (event.Unmap r) is e = none verb.Unmap (read (codes "unmap") (spaced_words (range_words r)) refl (stops-spaced_words (range_words r)) e).0
unread line word rest read none (event.Use r) is e = none verb.Use (read (codes "use") (spaced_words (range_words r)) refl (stops-spaced_words (range_words r)) e).0
unread line word rest read none (event.Begin number range) is e =
    let arguments = decimal number ∷ scope_words range in
    none verb.Begin (read (codes "begin") (spaced_words arguments) refl (stops-spaced_words arguments) e).0
unread line word rest read none (event.End number ok) is e =
    let arguments = decimal number ∷ outcome_text ok ∷ [] in
    none verb.End (read (codes "end") (spaced_words arguments) refl (stops-spaced_words arguments) e).0
unread line word rest read none (event.Flush range) is e = absurd is
unread line word rest read none (event.Other what) is e = absurd is

pub returns-in-None-clause-read : goal.returns-in-None-clause-read
returns-in-None-clause-read c = λ e good spelled.
    absurd (unread c.args.line.now c.first_word.result.0.now c.first_word.result.1.now c.first_word.ensures.read (c.in-None.ensures.all refl) e good spelled)

pub returns-in-None-clause-all : goal.returns-in-None-clause-all
returns-in-None-clause-all c = λ none e good spelled.
    unread c.args.line.now c.first_word.result.0.now c.first_word.result.1.now c.first_word.ensures.read (c.in-None.ensures.all refl) e good spelled
