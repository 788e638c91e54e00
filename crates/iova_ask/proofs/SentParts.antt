-- What was sent where asking ends early.
use Rattle.std.proofs.Common.{ℕ, ◌≡◌, ◌≢◌, ◌+◌, ◌∙◌, List, [], ◌∷◌, ◌++◌, true, Option, Result, Ok, Err, IfErr, length, take, refl, sym, ap, subst, arith, inl, inr, length-append}
use Rattle.std.specs.Prelude.{⊤}
use Rattle.std.proofs.Math.Seq.{take-length}
use Rattle.std.proofs.lemmas.List.{append-nil, append_assoc}
use Rattle.std.specs.Io.KnownBytes.{Appends, IsAtEnd}
use Rattle.std.proofs.KnownBytes.{Appends-nil, Appends-trans}
use Rattle.iova_text.specs.Lines.{IsUnended, whole_line}
use Rattle.iova_ask.specs.Asking.{AreLines, AreLinesAnd, BeginWith, IsLine, Sends, lines_text}
use Rattle.iova_ask.specs.LineRuns.{SendsRun, Rests}
use Rattle.iova_ask.specs.declared.fault.AskFault.{AskFault}
use Rattle.iova_ask.specs.declared.fault.AskFault.TheVariants as fault
use Rattle.iova_ask.proofs.Lined.{all_append, lines_text-append, lines_text-none, lines_text-one, lines_text-push, more_bye, more_sent, some_sent, open_append}

pub err_after : (p q r : Option (List ℕ)) (bytes : List ℕ) (x : Result ⊤ AskFault) → Appends p q bytes → r ≡ q → IfErr x (λ e. e ≢ fault.Read)
    → IfErr x (λ e. (e ≢ fault.Read) × ((n : ℕ) × Appends p r (take n bytes)))
err_after p q r bytes (Ok u) sent same not = tt
err_after p q r bytes (Err e) sent same not =
    (not, (length bytes, subst (λ (o : Option (List ℕ)). Appends p o (take (length bytes) bytes)) (sym same) (subst (Appends p q) (sym (take-length bytes)) sent)))

pub none_asked : (bytes : List ℕ) (p : Option (List ℕ)) (n : ℕ)
    → (ls : List (List ℕ)) × AreLinesAnd bytes bytes ls × Appends p p (lines_text ls) × (n ≡ n + length ls)
none_asked bytes p n = (
  [],
  record { good = record { lines = tt; byes = tt }; whole = ap (λ (t : List ℕ). t ++ bytes) (sym lines_text-none) },
  subst (Appends p p) (sym lines_text-none) (Appends-nil p),
  omega arith,
)

-- a fault that is none of reading
pub asks_broken : (old new : List ℕ) (before now : ℕ) (p q : Option (List ℕ)) (e : AskFault) → e ≢ fault.Read
    → (ls : List (List ℕ)) → AreLines ls → BeginWith old ls → (n : ℕ) → Appends p q (take n (lines_text ls)) → SendsRun old new before now p q (Err e)
asks_broken old new before now p q fault.Read not ls good begin n sent = absurd (not refl)
asks_broken old new before now p q fault.Write not ls good begin n sent = (ls, good, begin, (n, sent))
asks_broken old new before now p q fault.Link not ls good begin n sent = (ls, good, begin, (n, sent))
asks_broken old new before now p q fault.NoMemory not ls good begin n sent = (ls, good, begin, (n, sent))

-- after lines that were sent

pub more_lines : (taken mid new : List ℕ) (ls ms : List (List ℕ)) → AreLinesAnd taken mid ls → AreLinesAnd mid new ms → AreLinesAnd taken new (ls ++ ms)
more_lines taken mid new ls ms a b = record {
  good = open_append ls ms a.good b.good;
  whole = a.whole ∙ (ap (λ (t : List ℕ). lines_text ls ++ t) b.whole ∙ (sym (append_assoc (lines_text ls) (lines_text ms) new)
      ∙ ap (λ (t : List ℕ). t ++ new) (sym (lines_text-append ls ms))));
}

pub more_begin : (taken mid : List ℕ) (ls ms : List (List ℕ)) → taken ≡ lines_text ls ++ mid → BeginWith mid ms → BeginWith taken (ls ++ ms)
more_begin taken mid ls ms whole b = record {
  rest = b.rest;
  whole = whole ∙ (ap (λ (t : List ℕ). lines_text ls ++ t) b.whole ∙ (sym (append_assoc (lines_text ls) (lines_text ms) b.rest)
      ∙ ap (λ (t : List ℕ). t ++ b.rest) (sym (lines_text-append ls ms))));
}

pub add_piece : (taken input piece new : List ℕ) (ls : List (List ℕ)) → AreLinesAnd taken input ls → new ≡ input ++ piece → AreLinesAnd (taken ++ piece) new ls
add_piece taken input piece new ls a is = record {
  good = a.good;
  whole = ap (λ (t : List ℕ). t ++ piece) a.whole ∙ (append_assoc (lines_text ls) input piece ∙ ap (λ (t : List ℕ). lines_text ls ++ t) (sym is));
}

pub length_more : (ls ms : List (List ℕ)) (before now : ℕ) → before ≡ length ls → now ≡ before + length ms → now ≡ length (ls ++ ms)
length_more ls ms before now a b = omega (arith, length-append ls ms, a, b)

pub sends_broken : (taken mid new : List ℕ) (before now : ℕ) (left p q r : Option (List ℕ)) (ls : List (List ℕ)) (e : AskFault) → AreLinesAnd taken mid ls
    → Appends p q (lines_text ls) → SendsRun mid new before now q r (Err e) → Sends taken left p r (Err e)
sends_broken taken mid new before now left p q r ls fault.Read a sent h =
    (ls ++ h.0, h.1, more_lines taken mid h.1 ls h.0 a h.2, inr h.3, more_sent p q r ls h.0 sent h.4)
sends_broken taken mid new before now left p q r ls fault.Write a sent h =
    (ls ++ h.0, all_append IsLine ls h.0 a.good.lines h.1, inl (more_begin taken mid ls h.0 a.whole h.2), (_, some_sent p q r ls h.0 h.3.0 sent h.3.1))
sends_broken taken mid new before now left p q r ls fault.Link a sent h =
    (ls ++ h.0, all_append IsLine ls h.0 a.good.lines h.1, inl (more_begin taken mid ls h.0 a.whole h.2), (_, some_sent p q r ls h.0 h.3.0 sent h.3.1))
sends_broken taken mid new before now left p q r ls fault.NoMemory a sent h =
    (ls ++ h.0, all_append IsLine ls h.0 a.good.lines h.1, inl (more_begin taken mid ls h.0 a.whole h.2), (_, some_sent p q r ls h.0 h.3.0 sent h.3.1))

pub sends_bye : (taken mid new : List ℕ) (before now : ℕ) (left p q r : Option (List ℕ)) (ls : List (List ℕ)) → AreLinesAnd taken mid ls
    → Appends p q (lines_text ls) → before ≡ length ls → SendsRun mid new before now q r (Ok true) → Sends taken left p r (Ok now)
sends_bye taken mid new before now left p q r ls a sent count h = (
  ls ++ h.0,
  inl (more_bye ls h.0 a.good h.1, more_begin taken mid ls h.0 a.whole h.2),
  more_sent p q r ls h.0 sent h.3,
  length_more ls h.0 before now count h.4,
)

-- the rest of an input
begins_rest : (taken rest : List ℕ) (ls : List (List ℕ)) → AreLinesAnd taken rest ls → BeginWith (taken ++ 10 ∷ []) (ls ++ rest ∷ [])
begins_rest taken rest ls a = record {
  rest = [];
  whole = ap (λ (t : List ℕ). t ++ 10 ∷ []) a.whole ∙ (append_assoc (lines_text ls) rest (10 ∷ []) ∙ (sym (lines_text-push ls rest) ∙ sym (append-nil (lines_text (ls ++ rest ∷ [])))));
}

sent_rest : (p q r : Option (List ℕ)) (ls : List (List ℕ)) (rest : List ℕ) (n : ℕ) → Appends p q (lines_text ls) → Appends q r (take n (whole_line rest))
    → Appends p r (take (length (lines_text ls) + n) (lines_text (ls ++ rest ∷ [])))
sent_rest p q r ls rest n a b = some_sent p q r ls (rest ∷ []) n a (subst (λ (t : List ℕ). Appends q r (take n t)) (sym (lines_text-one rest)) b)

pub sends_rest : (taken rest : List ℕ) (before : ℕ) (left p q r : Option (List ℕ)) (ls : List (List ℕ)) (x : Result ℕ AskFault) → AreLinesAnd taken rest ls
    → Appends p q (lines_text ls) → before ≡ length ls → IsAtEnd left → Rests rest before q r x → Sends taken left p r x
sends_rest taken rest before left p q r ls (Ok n) a sent count end (inl h) =
    let done : AreLinesAnd taken [] ls = subst (λ (t : List ℕ). AreLinesAnd taken t ls) h.0 a in
    let text : Appends p r (lines_text ls) = subst (Appends p r) (append-nil (lines_text ls)) (Appends-trans p q r (lines_text ls) [] sent h.2) in
    (ls, inr (end, inl done), text, h.1 ∙ count)
sends_rest taken rest before left p q r ls (Ok n) a sent count end (inr h) =
    let text : Appends p r (lines_text (ls ++ rest ∷ [])) =
    subst (Appends p r) (sym (lines_text-push ls rest)) (Appends-trans p q r (lines_text ls) (whole_line rest) sent h.2) in
    (ls ++ rest ∷ [], inr (end, inr (rest, ls, a, h.0, refl)), text, length_more ls (rest ∷ []) before n count h.1)
sends_rest taken rest before left p q r ls (Err fault.Read) a sent count end h = absurd h
sends_rest taken rest before left p q r ls (Err fault.Write) a sent count end h =
    (ls ++ rest ∷ [], all_append IsLine ls (rest ∷ []) a.good.lines (h.0, tt), inr (begins_rest taken rest ls a), (_, sent_rest p q r ls rest h.1.0 sent h.1.1))
sends_rest taken rest before left p q r ls (Err fault.Link) a sent count end h =
    (ls ++ rest ∷ [], all_append IsLine ls (rest ∷ []) a.good.lines (h.0, tt), inr (begins_rest taken rest ls a), (_, sent_rest p q r ls rest h.1.0 sent h.1.1))
sends_rest taken rest before left p q r ls (Err fault.NoMemory) a sent count end h =
    (ls ++ rest ∷ [], all_append IsLine ls (rest ∷ []) a.good.lines (h.0, tt), inr (begins_rest taken rest ls a), (_, sent_rest p q r ls rest h.1.0 sent h.1.1))

-- the memory that a read wants is refused
pub sends_refused : (taken rest : List ℕ) (left p q : Option (List ℕ)) (ls : List (List ℕ)) → AreLinesAnd taken rest ls → Appends p q (lines_text ls)
    → Sends taken left p q (Err fault.NoMemory)
sends_refused taken rest left p q ls a sent =
    (ls, a.good.lines, inl (record { rest = rest; whole = a.whole }), (length (lines_text ls), subst (Appends p q) (sym (take-length (lines_text ls))) sent))

pub nothing_sent : (left p : Option (List ℕ)) → Sends [] left p p (Err fault.NoMemory)
nothing_sent left p = sends_refused [] [] left p p [] (record { good = record { lines = tt; byes = tt }; whole = sym (append-nil (lines_text []) ∙ lines_text-none) })
    (subst (Appends p p) (sym lines_text-none) (Appends-nil p))

pub sends_unread : (taken rest : List ℕ) (left p q : Option (List ℕ)) (ls : List (List ℕ)) → AreLinesAnd taken rest ls → IsUnended rest → Appends p q (lines_text ls)
    → Sends taken left p q (Err fault.Read)
sends_unread taken rest left p q ls a unended sent = (ls, rest, a, inl unended, sent)
