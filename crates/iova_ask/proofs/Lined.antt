-- One line more.
use Rattle.std.proofs.Common.{ℕ, ◌≡◌, ◌≢◌, ◌≤◌, ◌<◌, ◌+◌, ◌∙◌, Bool, true, false, List, [], ◌∷◌, ◌++◌, length, refl, sym, ap, arith, subst, inl, inr, length-append, take, drop, zero, suc, Option, MatchBool}
use Rattle.std.specs.Io.KnownBytes.{Appends}
use Rattle.std.proofs.KnownBytes.{Appends-trans}
use Rattle.std.proofs.Math.Seq.{take-append-add}
use Rattle.std.specs.List.{list_all}
use Rattle.std.proofs.lemmas.Bool.{and_parts, and_from, cases_lt}
use Rattle.std.proofs.lemmas.List.{take-append-le}
use Rattle.std.specs.List.{AllByRecursion}
use Rattle.std.proofs.lemmas.List.{append-nil, append_assoc}
use Rattle.std.proofs.lemmas.Grind.{flat_map-append}
use Rattle.iova_range.specs.declared.limits.TheConstants.{MAX_RUN, MAX_LINE}
use Rattle.iova_text.specs.Lines.{HasNoLf, is_not_lf, IsOverlong, IsUnended, whole_line}
use Rattle.iova_ask.specs.Asking.{AreLines, AreLinesAnd, AreOpen, EndByBye, IsLine, bye, lines_text}
use Rattle.iova_ask.specs.LineRuns.{IsRunOfLines, IsStuck}
use Rattle.iova_ask.specs.declared.front.LineRun.{LineRun}

pub take_front : (xs ys : List ℕ) → take (length xs) (xs ++ ys) ≡ xs
take_front [] ys = refl
take_front (x ∷ xs) ys = ap (λ (t : List ℕ). x ∷ t) (take_front xs ys)

drop_front : (xs ys : List ℕ) → drop (length xs) (xs ++ ys) ≡ ys
drop_front [] ys = refl
drop_front (x ∷ xs) ys = drop_front xs ys

take_past : (xs ys : List ℕ) (n : ℕ) → take (length xs + n) (xs ++ ys) ≡ xs ++ take n ys
take_past xs ys n = take-append-add xs ys n

all_push : {X : Type 0} (P : X → Type 0) (xs : List X) (x : X) → AllByRecursion P xs → P x → AllByRecursion P (xs ++ x ∷ [])
all_push P [] x h p = (p, tt)
all_push P (y ∷ xs) x h p = (h.0, all_push P xs x h.1 p)

pub all_append : {X : Type 0} (P : X → Type 0) (xs ys : List X) → AllByRecursion P xs → AllByRecursion P ys → AllByRecursion P (xs ++ ys)
all_append P [] ys h p = p
all_append P (y ∷ xs) ys h p = (h.0, all_append P xs ys h.1 p)

pub lines_text-append : (ls ms : List (List ℕ)) → lines_text (ls ++ ms) ≡ lines_text ls ++ lines_text ms
unfolding lines_text
lines_text-append ls ms = flat_map-append whole_line ls ms

pub lines_text-one : (l : List ℕ) → lines_text (l ∷ []) ≡ whole_line l
unfolding lines_text
lines_text-one l = append-nil (whole_line l)

pub lines_text-none : lines_text [] ≡ []
unfolding lines_text
lines_text-none = refl

pub lines_text-push : (ls : List (List ℕ)) (l : List ℕ) → lines_text (ls ++ l ∷ []) ≡ lines_text ls ++ whole_line l
lines_text-push ls l = lines_text-append ls (l ∷ []) ∙ ap (λ (t : List ℕ). lines_text ls ++ t) (lines_text-one l)

pub open_push : (ls : List (List ℕ)) (l : List ℕ) → AreOpen ls → IsLine l → l ≢ bye → AreOpen (ls ++ l ∷ [])
open_push ls l are is not = record { lines = all_push IsLine ls l are.lines is; byes = all_push (λ m. m ≢ bye) ls l are.byes not }

pub open_append : (ls ms : List (List ℕ)) → AreOpen ls → AreOpen ms → AreOpen (ls ++ ms)
open_append ls ms a b = record { lines = all_append IsLine ls ms a.lines b.lines; byes = all_append (λ m. m ≢ bye) ls ms a.byes b.byes }

-- the lines gathered so far
pub record IsGathered (bytes rest : List ℕ) (len count : ℕ) : Type 0 where
  pub lines : List (List ℕ)
  pub good : AreOpen lines
  pub whole : bytes ≡ lines_text lines ++ rest
  pub len_is : len ≡ length (lines_text lines)
  pub count_is : count ≡ length lines

pub gathered_none : (bytes : List ℕ) → IsGathered bytes bytes 0 0
gathered_none bytes = record { lines = []; good = record { lines = tt; byes = tt }; whole = ap (λ (t : List ℕ). t ++ bytes) (sym lines_text-none); len_is = ap length (sym lines_text-none); count_is = refl }

pub length_push : (ls : List (List ℕ)) (l : List ℕ) → length (lines_text (ls ++ l ∷ [])) ≡ length (lines_text ls) + (length l + 1)
length_push ls l = ap length (lines_text-push ls l) ∙ simp length-append

pub whole_push : (ls : List (List ℕ)) (bytes rest l behind : List ℕ) → bytes ≡ lines_text ls ++ rest → rest ≡ whole_line l ++ behind
    → bytes ≡ lines_text (ls ++ l ∷ []) ++ behind
whole_push ls bytes rest l behind whole cut =
    whole ∙ (ap (λ (t : List ℕ). lines_text ls ++ t) cut ∙ (sym (append_assoc (lines_text ls) (whole_line l) behind)
    ∙ ap (λ (t : List ℕ). t ++ behind) (sym (lines_text-push ls l))))

pub gathered_push : (bytes rest l behind : List ℕ) (len n : ℕ) → IsGathered bytes rest len n → rest ≡ whole_line l ++ behind → HasNoLf l → length l < MAX_LINE
    → l ≢ bye → IsGathered bytes behind (len + (length l + 1)) (n + 1)
gathered_push bytes rest l behind len n g cut one short not = record {
  lines = g.lines ++ l ∷ [];
  good = open_push g.lines l g.good (record { one = one; short = short }) not;
  whole = whole_push g.lines bytes rest l behind g.whole cut;
  len_is = ap (λ (k : ℕ). k + (length l + 1)) g.len_is ∙ sym (length_push g.lines l);
  count_is = ap (λ (k : ℕ). k + 1) g.count_is ∙ sym (simp length-append);
}

pub run_of : (bytes rest : List ℕ) (len n : ℕ) → IsGathered bytes rest len n → n ≤ MAX_RUN → (n ≡ 0 → IsStuck rest)
    → IsRunOfLines bytes record { len = len; lines = n; is_last = false }
run_of bytes rest len n g few stuck = record {
  lines = g.lines;
  rest = rest;
  whole = g.whole;
  len = g.len_is;
  count = g.count_is;
  few = few;
  byes = g.good;
  stuck = stuck;
}

pub run_by_bye : (bytes rest l behind : List ℕ) (len n : ℕ) → IsGathered bytes rest len n → rest ≡ whole_line l ++ behind → l ≡ bye → n + 1 ≤ MAX_RUN
    → IsRunOfLines bytes record { len = len + (length l + 1); lines = n + 1; is_last = true }
run_by_bye bytes rest l behind len n g cut is few = record {
  lines = g.lines ++ l ∷ [];
  rest = behind;
  whole = whole_push g.lines bytes rest l behind g.whole cut;
  len = ap (λ (k : ℕ). k + (length l + 1)) g.len_is ∙ sym (length_push g.lines l);
  count = ap (λ (k : ℕ). k + 1) g.count_is ∙ sym (simp length-append);
  few = few;
  byes = record { others = g.lines; before = g.good; whole = ap (λ (m : List ℕ). g.lines ++ m ∷ []) is };
  stuck = λ none. absurd (omega arith);
}

all_take : (p : ℕ → Bool) (n : ℕ) (xs : List ℕ) → list_all p xs ≡ true → list_all p (take n xs) ≡ true
all_take p zero xs h = refl
all_take p (suc n) [] h = refl
all_take p (suc n) (x ∷ xs) h =
    let parts = and_parts (p x) (list_all p xs) h in and_from (p x) (list_all p (take n xs)) parts.0 (all_take p n xs parts.1)

pub stuck_without : (rest : List ℕ) → HasNoLf rest → IsStuck rest
stuck_without rest one = elim (cases_lt (length rest) MAX_LINE) [
  | inl short ↦ inl (record { one = one; short = short })
  | inr long ↦ inr (record { one = all_take is_not_lf MAX_LINE rest one; long = long })
]

pub stuck_at_long : (rest l behind : List ℕ) → rest ≡ whole_line l ++ behind → HasNoLf l → MAX_LINE ≤ length l → IsStuck rest
stuck_at_long rest l behind cut one long =
    let split : rest ≡ l ++ (10 ∷ behind) = cut ∙ append_assoc l (10 ∷ []) behind in
    let short : take MAX_LINE (l ++ (10 ∷ behind)) ≡ take MAX_LINE l = rw take-append-le refl in
    let front : take MAX_LINE rest ≡ take MAX_LINE l = ap (take MAX_LINE) split ∙ short in
    inr (record {
      one = subst HasNoLf (sym front) (all_take is_not_lf MAX_LINE l one);
      long = omega (arith, ap length split, length-append l (10 ∷ behind));
    })

-- no whole line was read

none_of : (ls : List (List ℕ)) → 0 ≡ length ls → ls ≡ []
none_of [] e = refl
none_of (l ∷ ls) e = absurd (omega (arith, e))

pub run_none : (bytes : List ℕ) (run : LineRun) → IsRunOfLines bytes run → run.lines ≡ 0 → IsStuck bytes
run_none bytes run r none =
    let no_lines : r.lines ≡ [] = none_of r.lines (sym none ∙ r.count) in
    let same : bytes ≡ r.rest = r.whole ∙ ap (λ (t : List ℕ). t ++ r.rest) (ap lines_text no_lines ∙ lines_text-none) in
    subst IsStuck (sym same) (r.stuck none)

pub stuck_short : (bytes : List ℕ) → IsStuck bytes → length bytes < MAX_LINE → IsUnended bytes
stuck_short bytes (inl unended) short = unended
stuck_short bytes (inr overlong) short = absurd (omega (arith, overlong.long, short))

pub stuck_long : (bytes : List ℕ) → IsStuck bytes → MAX_LINE ≤ length bytes → IsOverlong bytes
stuck_long bytes (inl unended) long = absurd (omega (arith, unended.short, long))
stuck_long bytes (inr overlong) long = overlong

-- a run of whole lines was read

pub run_text : (bytes : List ℕ) (run : LineRun) (r : IsRunOfLines bytes run) → take run.len bytes ≡ lines_text r.lines
run_text bytes run r =
    ap (λ (n : ℕ). take n bytes) r.len ∙ (ap (take (length (lines_text r.lines))) r.whole ∙ take_front (lines_text r.lines) r.rest)

pub run_rest : (bytes : List ℕ) (run : LineRun) (r : IsRunOfLines bytes run) → drop run.len bytes ≡ r.rest
run_rest bytes run r =
    ap (λ (n : ℕ). drop n bytes) r.len ∙ (ap (drop (length (lines_text r.lines))) r.whole ∙ drop_front (lines_text r.lines) r.rest)

pub run_within : (bytes : List ℕ) (run : LineRun) → IsRunOfLines bytes run → run.len ≤ length bytes
run_within bytes run r = omega (arith, r.len, ap length r.whole, length-append (lines_text r.lines) r.rest)

pub count_within : (ls : List (List ℕ)) → length ls ≤ length (lines_text ls)
count_within [] = omega arith
count_within (l ∷ ls) =
    let one = count_within ls in
    let whole : lines_text (l ∷ ls) ≡ whole_line l ++ lines_text ls = lines_text-append (l ∷ []) ls ∙ ap (λ (t : List ℕ). t ++ lines_text ls) (lines_text-one l) in
    omega (arith, ap length whole, length-append (whole_line l) (lines_text ls), length-append l (10 ∷ []), one)

pub run_count : (bytes : List ℕ) (run : LineRun) → IsRunOfLines bytes run → run.lines ≤ run.len
run_count bytes run r = omega (arith, r.count, r.len, count_within r.lines)

-- lines and then a run of them
pub more_whole : (bytes mid : List ℕ) (run : LineRun) (ls : List (List ℕ)) → bytes ≡ lines_text ls ++ mid → (r : IsRunOfLines mid run)
    → bytes ≡ lines_text (ls ++ r.lines) ++ r.rest
more_whole bytes mid run ls whole r =
    whole ∙ (ap (λ (t : List ℕ). lines_text ls ++ t) r.whole ∙ (sym (append_assoc (lines_text ls) (lines_text r.lines) r.rest)
    ∙ ap (λ (t : List ℕ). t ++ r.rest) (sym (lines_text-append ls r.lines))))

pub more_open : (bytes mid : List ℕ) (run : LineRun) (ls : List (List ℕ)) → AreLinesAnd bytes mid ls → (r : IsRunOfLines mid run) → run.is_last ≡ false
    → AreLinesAnd bytes (drop run.len mid) (ls ++ r.lines)
more_open bytes mid run ls a r not = record {
  good = open_append ls r.lines a.good (subst (λ (b : Bool). MatchBool b (EndByBye r.lines) (AreOpen r.lines)) not r.byes);
  whole = more_whole bytes mid run ls a.whole r ∙ ap (λ (t : List ℕ). lines_text (ls ++ r.lines) ++ t) (sym (run_rest mid run r));
}

pub more_bye : (ls ms : List (List ℕ)) → AreOpen ls → EndByBye ms → EndByBye (ls ++ ms)
more_bye ls ms a b = record {
  others = ls ++ b.others;
  before = open_append ls b.others a b.before;
  whole = ap (λ (t : List (List ℕ)). ls ++ t) b.whole ∙ sym (append_assoc ls b.others (bye ∷ []));
}

bye_line : IsLine bye
bye_line = record { one = refl; short = omega arith }

pub lines_of_bye : (ms : List (List ℕ)) → EndByBye ms → AreLines ms
lines_of_bye ms b = subst AreLines (sym b.whole) (all_push IsLine b.others bye b.before.lines bye_line)

pub lines_of_run : (b : Bool) (ms : List (List ℕ)) → MatchBool b (EndByBye ms) (AreOpen ms) → AreLines ms
lines_of_run true ms h = lines_of_bye ms h
lines_of_run false ms h = h.lines

-- what is sent of a run after lines that were sent
pub more_sent : (p q r : Option (List ℕ)) (ls ms : List (List ℕ)) → Appends p q (lines_text ls) → Appends q r (lines_text ms) → Appends p r (lines_text (ls ++ ms))
more_sent p q r ls ms a b = subst (Appends p r) (sym (lines_text-append ls ms)) (Appends-trans p q r (lines_text ls) (lines_text ms) a b)

pub some_sent : (p q r : Option (List ℕ)) (ls ms : List (List ℕ)) (n : ℕ) → Appends p q (lines_text ls) → Appends q r (take n (lines_text ms))
    → Appends p r (take (length (lines_text ls) + n) (lines_text (ls ++ ms)))
some_sent p q r ls ms n a b =
    let front : take (length (lines_text ls) + n) (lines_text (ls ++ ms)) ≡ lines_text ls ++ take n (lines_text ms) =
    ap (take (length (lines_text ls) + n)) (lines_text-append ls ms) ∙ take_past (lines_text ls) (lines_text ms) n in
    subst (Appends p r) (sym front) (Appends-trans p q r (lines_text ls) (take n (lines_text ms)) a b)
