-- A run of requests is asked front by front.
use Rattle.std.proofs.Common.{◌≡◌, ℕ, ◌+◌, ◌-◌, ◌≤◌, List, [], ◌++◌, length, take, drop, sym, ap, ◌∙◌, subst, take-append-drop, append_assoc, Some, Result, Ok, Err}
use Rattle.std.proofs.Math.Seq.{take-append-add, take-length}
use Rattle.std.proofs.KnownBytes.{Appends-trans}
use Rattle.std.specs.Io.KnownBytes.{Appends}
use Rattle.std.specs.Prelude.{Option, IsErrAnd}
use Rattle.iova_proto.specs.declared.answer.Answer.{Answer}
use Rattle.iova_proto.specs.declared.request.Request.{Request}
use Rattle.iova_session.specs.Pairs.{Pair, requests_of, answers_of, answers_text}
use Rattle.iova_session.specs.Rounds.{AsksRun, IsCut}
use Rattle.iova_session.specs.declared.end.End.{End}
use Rattle.iova_session.proofs.Texts.{take_plus, all_after, requests_of-append, told_both}

-- one more front of the run was asked
pub asked_more : (run : List Request) (ps qs : List Pair) (i n : ℕ) → i ≤ length run → requests_of ps ≡ take i run
    → requests_of qs ≡ take n (take (length run - i) (drop i run)) → requests_of (ps ++ qs) ≡ take (i + n) run
asked_more run ps qs i n h e f =
    requests_of-append ps qs ∙ ap (λ x. x ++ requests_of qs) e ∙ ap (λ x. take i run ++ x) (f ∙ ap (take n) (all_after run i)) ∙ sym (take_plus run i n h)

pub asked_rest : (run : List Request) (ps : List Pair) (i : ℕ) → requests_of ps ≡ take i run → run ≡ requests_of ps ++ drop i run
asked_rest run ps i e = sym (take-append-drop i run) ∙ ap (λ x. x ++ drop i run) (sym e)

-- the answers to one more front are written
pub told_more : (a b d : Option (List ℕ)) (ps qs : List Pair) (text : List Answer) → Appends a b (answers_text (answers_of ps)) → text ≡ [] ++ answers_of qs
    → Appends b d (answers_text text) → Appends a d (answers_text (answers_of (ps ++ qs)))
told_more a b d ps qs text p e q =
    subst (Appends a d) (sym (told_both ps qs)) (Appends-trans a b d (answers_text (answers_of ps)) (answers_text (answers_of qs)) p (subst (λ (x : List Answer). Appends b d (answers_text x)) e q))

-- or a front of them
pub told_part : (a b d : Option (List ℕ)) (ps qs : List Pair) (text : List Answer) (n : ℕ) → Appends a b (answers_text (answers_of ps)) → text ≡ [] ++ answers_of qs
    → Appends b d (take n (answers_text text)) → Appends a d (take (length (answers_text (answers_of ps)) + n) (answers_text (answers_of (ps ++ qs))))
told_part a b d ps qs text n p e q =
    let cut : answers_text (answers_of ps) ++ take n (answers_text (answers_of qs)) ≡ take (length (answers_text (answers_of ps)) + n) (answers_text (answers_of (ps ++ qs))) =
    sym (take-append-add (answers_text (answers_of ps)) (answers_text (answers_of qs)) n)
    ∙ ap (take (length (answers_text (answers_of ps)) + n)) (sym (told_both ps qs)) in
    subst (Appends a d) cut (Appends-trans a b d (answers_text (answers_of ps)) (take n (answers_text (answers_of qs))) p (subst (λ (x : List Answer). Appends b d (take n (answers_text x))) e q))

pub all_taken : (text : List ℕ) → text ≡ take (length text) text
all_taken text = sym (take-length text)

-- what a `?` hands on
pub handed_on : (r : Result Unit End) (e : End) → IsErrAnd r (λ v. v ≡ e) → r ≡ Err e
handed_on (Ok u) e h = absurd (h)
handed_on (Err v) e h = ap (λ x. Err x) h

-- asking stopped at a front of the run
pub AsksRun-cut : (r : Result Unit End) (e : End) (rs more : List Request) (ps : List Pair) (written : List ℕ) (n : ℕ) → r ≡ Err e
    → IsCut e → rs ≡ requests_of ps ++ more → written ≡ take n (answers_text (answers_of ps)) → AsksRun rs ps written r
AsksRun-cut r e rs more ps written n i h f w =
    subst (AsksRun rs ps written) (sym i) (h, (more, f), (n, w))

-- of a piece these pairs were asked and this was sent, and then more
pub taken_on : (lines : Option (List ℕ)) (start mid now : List Pair) (sent put out : Option (List ℕ)) (kept : List ℕ) (ps qs : List Pair) (w v : List ℕ) {T : List ℕ → List Pair → List ℕ → Type 0}
    → lines ≡ Some kept → mid ≡ start ++ ps → now ≡ mid ++ qs → Appends sent put w → Appends put out v → T kept (ps ++ qs) (w ++ v)
    → (bytes : List ℕ) × (asked : List Pair) × (written : List ℕ) × (lines ≡ Some bytes) × (now ≡ start ++ asked) × Appends sent out written × T bytes asked written
taken_on lines start mid now sent put out kept ps qs w v began e f a b t =
    (kept, ps ++ qs, w ++ v, began, f ∙ ap (λ x. x ++ qs) e ∙ append_assoc start ps qs, Appends-trans sent put out w v a b, t)
