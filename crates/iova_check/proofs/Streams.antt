-- One piece of a log after another.
use Rattle.std.proofs.Common.{ℕ, ◌≡◌, inl, inr, true, false, List, [], ◌∷◌, ◌++◌, Option, None, Result, Ok, Err, take, drop, refl, sym, ap, ◌∙◌, subst, append_assoc, append-nil, take-append-drop}
use Rattle.std.specs.Prelude.{OnErr, OnOk, IfErr}
use Rattle.std.proofs.lemmas.Bool.{cases_Bool}
use Rattle.std.proofs.KnownBytes.{Appends-trans, Appends-nil, Consumes-trans, Consumes-nil, Consumes-kept}
use Rattle.std.specs.Io.KnownBytes.{Appends, Consumes, Keeps, IsAtEnd}
use Rattle.iova_check.specs.declared.source.Form.{Form}
use Rattle.iova_check.specs.declared.source.Form.TheVariants as form
use Rattle.iova_check.specs.declared.source.Source.{Source}
use Rattle.iova_check.specs.declared.checker.Checker.{Checker}
use Rattle.iova_check.specs.Logs.{LogLines}
use Rattle.iova_check.specs.declared.fault.CheckFault.{CheckFault}
use Rattle.iova_check.specs.declared.fault.CheckFault.TheVariants as fault
use Rattle.iova_check.specs.declared.run.CheckState.{CheckState}
use Rattle.iova_text.specs.Lines.{HasNoLf, whole_line, IsUnended}
use Rattle.iova_text.proofs.LineEnds.{odd_more, overlong_more}
use Rattle.iova_text.proofs.LineEnds.{no_line}
use Rattle.iova_check.proofs.LineSteps.{rest_one, rest_kept, no_rest}
use Rattle.iova_check.specs.Logs.{BeginsWithLines, IsBad, MayFollow, first_lines_text}
use Rattle.iova_check.specs.Runs.{IsUnendedIn, AreRead, BreaksOff, IsChecked, StopsInLine, TellsOfCheck, Checks}
use Rattle.iova_check.specs.CheckState.{IsKeptOf, IsRestOf, IsOpen, is_last, HasTaken, Goes, EndsCheck, Stops, Outcome, TakesBytes, Closes}

-- Outcomes

pub Goes-then : (source : Source) → (a b c : CheckState) (p q v w : List ℕ) → Goes source a p v b → Goes source b q w c → Goes source a (p ++ q) (v ++ w) c
Goes-then source a b c p q v w first second taken written st =
    let P : List ℕ → Type 0 = λ x. HasTaken source x ((written ++ v) ++ w) c in
    let Q : List ℕ → Type 0 = λ x. HasTaken source (taken ++ (p ++ q)) x c in
    subst Q (append_assoc written v w) (subst P (append_assoc taken p q) (second (taken ++ p) (written ++ v) (first taken written st)))

pub Stops-then : (source : Source) → (a b : CheckState) (p q v w : List ℕ) (e : CheckFault) → Goes source a p v b → Stops source b q w e → Stops source a (p ++ q) (v ++ w) e
Stops-then source a b p q v w e first second taken written st =
    let P : List ℕ → Type 0 = λ x. EndsCheck source x ((written ++ v) ++ w) e in
    let Q : List ℕ → Type 0 = λ x. EndsCheck source (taken ++ (p ++ q)) x e in
    subst Q (append_assoc written v w) (subst P (append_assoc taken p q) (second (taken ++ p) (written ++ v) (first taken written st)))

BeginsWithLines-more : (source : Source) (taken more rest : List ℕ) (lines : Option LogLines) → BeginsWithLines source taken lines rest
    → BeginsWithLines source (taken ++ more) lines (rest ++ more)
BeginsWithLines-more source taken more rest lines b = record {
  good = b.good;
  whole = ap (λ (x : List ℕ). x ++ more) b.whole ∙ append_assoc (first_lines_text lines) rest more;
}

IsBad-more : (lines : Option LogLines) (rest more : List ℕ) → IsBad lines rest → IsBad lines (rest ++ more)
IsBad-more lines rest more (inl other) = inl (odd_more (λ line. ¬ MayFollow lines line) rest more other)
IsBad-more lines rest more (inr long) = inr (overlong_more rest more long)

-- what is not read any more changes nothing
EndsCheck-more : (source : Source) → (taken more written : List ℕ) (e : CheckFault) → EndsCheck source taken written e → EndsCheck source (taken ++ more) written e
EndsCheck-more source taken more written (fault.BadLog number) s = record {
  lines = s.lines;
  rest = s.rest ++ more;
  checker = s.checker;
  begins = BeginsWithLines-more source taken more s.rest s.lines s.begins;
  checked = s.checked;
  number_is = s.number_is;
  of_log = s.of_log;
  bad = IsBad-more s.lines s.rest more s.bad;
}
EndsCheck-more source taken more written fault.NoMemory s = record {
  lines = s.lines;
  rest = s.rest ++ more;
  checker = s.checker;
  text = s.text;
  begins = BeginsWithLines-more source taken more s.rest s.lines s.begins;
  checked = s.checked;
  unwritten = s.unwritten;
  begun = s.begun;
}
EndsCheck-more source taken more written fault.ReadFault s = absurd s
EndsCheck-more source taken more written fault.WriteFault s = record {
  lines = s.lines;
  rest = s.rest ++ more;
  checker = s.checker;
  text = s.text;
  begins = BeginsWithLines-more source taken more s.rest s.lines s.begins;
  checked = s.checked;
  unwritten = s.unwritten;
  begun = s.begun;
}

pub Stops-more : (source : Source) → (p : CheckState) (bytes more written : List ℕ) (e : CheckFault) → Stops source p bytes written e → Stops source p (bytes ++ more) written e
Stops-more source p bytes more written e s taken before st =
    let P : List ℕ → Type 0 = λ x. EndsCheck source x (before ++ written) e in
    subst P (append_assoc taken bytes more) (EndsCheck-more source (taken ++ bytes) more (before ++ written) e (s taken before st))

-- a write that breaks off
broken : (before more : List ℕ) (n : ℕ) (text unwritten : List ℕ) → text ≡ (before ++ more) ++ unwritten
    → text ≡ (before ++ take n more) ++ (drop n more ++ unwritten)
broken before more n text unwritten e =
    e ∙ (ap (λ (x : List ℕ). (before ++ x) ++ unwritten) (sym (take-append-drop n more)) ∙ simp append_assoc)

EndsCheck-broken : (source : Source) → (taken before more : List ℕ) (n : ℕ) (e : CheckFault) → EndsCheck source taken (before ++ more) e → BreaksOff source taken (before ++ take n more)
EndsCheck-broken source taken before more n (fault.BadLog number) s = record {
  lines = s.lines;
  rest = s.rest;
  checker = s.checker;
  text = before ++ more;
  begins = s.begins;
  checked = s.checked;
  unwritten = drop n more ++ [];
  begun = broken before more n (before ++ more) [] (sym (append-nil (before ++ more)));
}
EndsCheck-broken source taken before more n fault.NoMemory s = record {
  lines = s.lines;
  rest = s.rest;
  checker = s.checker;
  text = s.text;
  begins = s.begins;
  checked = s.checked;
  unwritten = drop n more ++ s.unwritten;
  begun = broken before more n s.text s.unwritten s.begun;
}
EndsCheck-broken source taken before more n fault.ReadFault s = absurd s
EndsCheck-broken source taken before more n fault.WriteFault s = record {
  lines = s.lines;
  rest = s.rest;
  checker = s.checker;
  text = s.text;
  begins = s.begins;
  checked = s.checked;
  unwritten = drop n more ++ s.unwritten;
  begun = broken before more n s.text s.unwritten s.begun;
}

-- the fault is that of the write, where the kept findings are not all written
pub Stops-broken : (source : Source) → (p : CheckState) (bytes more : List ℕ) (n : ℕ) (e : CheckFault) → Stops source p bytes more e → Stops source p bytes (take n more) fault.WriteFault
Stops-broken source p bytes more n e s taken before st = EndsCheck-broken source (taken ++ bytes) before more n e (s taken before st)

-- after bytes that were taken the kept findings are not all written
pub Goes-broken : (source : Source) → (p q : CheckState) (bytes : List ℕ) (n : ℕ) → Goes source p bytes [] q → Stops source p bytes (take n q.findings.items) fault.WriteFault
Goes-broken source p q bytes n goes taken before st =
    let at = goes taken before st in
    record {
      lines = at.lines;
      rest = at.rest;
      checker = q.checker;
      text = at.text;
      begins = at.begins;
      checked = at.checked;
      unwritten = drop n q.findings.items;
      begun = at.gathered ∙ (ap (λ (x : List ℕ). x ++ q.findings.items) (append-nil before)
          ∙ (ap (λ (x : List ℕ). before ++ x) (sym (take-append-drop n q.findings.items)) ∙ sym (append_assoc before (take n q.findings.items) (drop n q.findings.items))));
    }

-- after bytes that were taken the kept findings are written
pub Goes-written : (source : Source) → (p q r : CheckState) (bytes : List ℕ) → Goes source p bytes [] q → r.line.items ≡ q.line.items → r.checker ≡ q.checker
    → r.findings.items ≡ [] → Goes source p bytes q.findings.items r
Goes-written source p q r bytes goes line domain none taken before st =
    let at = goes taken before st in
    record {
      lines = at.lines;
      text = at.text;
      rest = at.rest;
      begins = at.begins;
      kept = (let P : List ℕ → Type 0 = λ x. IsRestOf source.form x at.rest in subst P (sym line) at.kept);
      opened = (let P : Option Checker → Type 0 = IsOpen source.form in subst P (sym domain) at.opened);
      checked = (let P : Option Checker → Type 0 = λ d. IsChecked at.lines d at.text in subst P (sym domain) at.checked);
      gathered = at.gathered ∙ (ap (λ (x : List ℕ). x ++ q.findings.items) (append-nil before)
          ∙ (sym (append-nil (before ++ q.findings.items)) ∙ ap (λ (x : List ℕ). (before ++ q.findings.items) ++ x) (sym none)));
    }

pub TakesBytes-broken : (source : Source) → (p q : CheckState) (bytes : List ℕ) (n : ℕ) (r : Result Unit CheckFault) → TakesBytes source p bytes q r → Stops source p bytes (take n q.findings.items) fault.WriteFault
TakesBytes-broken source p q bytes n (Ok u) t = Goes-broken source p q bytes n t
TakesBytes-broken source p q bytes n (Err e) t =
    let P : List ℕ → Type 0 = λ x. Stops source p bytes (take n x) fault.WriteFault in
    subst P (sym t.1) (Stops-broken source p bytes p.findings.items n e t.0)

pub TakesBytes-written : (source : Source) → (p q r : CheckState) (bytes : List ℕ) (result : Result Unit CheckFault) → TakesBytes source p bytes q result
    → r ≡ record q { findings = r.findings } → r.findings.items ≡ [] → Outcome source p bytes q.findings.items r result
TakesBytes-written source p q r bytes (Ok u) t same none =
    Goes-written source p q r bytes t (ap (λ (x : CheckState). x.line.items) same) (ap (λ (x : CheckState). x.checker) same) none
TakesBytes-written source p q r bytes (Err e) t same none =
    let P : List ℕ → Type 0 = λ x. Stops source p bytes x e in
    subst P (sym t.1) t.0

pub Outcome-then : (source : Source) → (a b c : CheckState) (p q v w : List ℕ) (r : Result Unit CheckFault) → Goes source a p v b → Outcome source b q w c r → Outcome source a (p ++ q) (v ++ w) c r
Outcome-then source a b c p q v w (Ok u) first second = Goes-then source a b c p q v w first second
Outcome-then source a b c p q v w (Err e) first second = Stops-then source a b p q v w e first second

-- The line that was kept is whole once its last bytes have come.

fresh_line : (source : Source) (taken written : List ℕ) (q mid : CheckState) (st : HasTaken source taken written q) → mid.line.items ≡ [] → mid.checker ≡ q.checker
    → mid.findings.items ≡ q.findings.items → HasTaken source (first_lines_text st.lines) written mid
fresh_line source taken written q mid st empty domain replies = record {
  lines = st.lines;
  text = st.text;
  rest = [];
  begins = record { good = st.begins.good; whole = sym (append-nil (first_lines_text st.lines)) };
  kept = no_rest source.form mid.line.items empty;
  opened = (let P : Option Checker → Type 0 = IsOpen source.form in subst P (sym domain) st.opened);
  checked = (let P : Option Checker → Type 0 = λ d. IsChecked st.lines d st.text in subst P (sym domain) st.checked);
  gathered = st.gathered ∙ ap (λ (x : List ℕ). written ++ x) (sym replies);
}

-- the lines, and then the line with its LF
line_whole : (taken bytes rest : List ℕ) (lines : Option LogLines) → taken ++ bytes ≡ first_lines_text lines ++ rest
    → first_lines_text lines ++ whole_line rest ≡ taken ++ whole_line bytes
line_whole taken bytes rest lines e =
    sym (append_assoc (first_lines_text lines) rest (10 ∷ [])) ∙ (ap (λ (x : List ℕ). x ++ 10 ∷ []) (sym e) ∙ append_assoc taken bytes (10 ∷ []))

-- this is kept of what has come of the line in `q`
kept_line : (source : Source) (taken written : List ℕ) (q : CheckState) (line : List ℕ) (st : HasTaken source taken written q) → line ≡ q.line.items
    → IsKeptOf source.form line st.rest
kept_line source taken written q line st is =
    let P : List ℕ → Type 0 = λ x. IsKeptOf source.form x st.rest in
    subst P (sym is) (rest_kept source.form q.line.items st.rest st.kept)

pub TakesBytes-ended : (source : Source) (p q mid new : CheckState) (bytes line : List ℕ) (r : Result Unit CheckFault) → Goes source p bytes [] q
    → q.findings.items ≡ p.findings.items → mid.line.items ≡ [] → mid.checker ≡ q.checker → mid.findings.items ≡ q.findings.items
    → line ≡ q.line.items
    → ((whole : List ℕ) → HasNoLf whole → IsKeptOf source.form line whole → TakesBytes source mid (whole_line whole) new r)
    → OnErr r (new.findings.items ≡ mid.findings.items) → TakesBytes source p (whole_line bytes) new r
TakesBytes-ended source p q mid new bytes line (Ok u) goes same empty domain replies kept t after_err = λ taken written st.
    let at = goes taken written st in
    let one = rest_one source.form q.line.items at.rest at.kept in
    let after = t at.rest one (kept_line source (taken ++ bytes) (written ++ []) q line at kept) (first_lines_text at.lines) (written ++ [])
    (fresh_line source (taken ++ bytes) (written ++ []) q mid at empty domain replies) in
    let P : List ℕ → Type 0 = λ x. HasTaken source x ((written ++ []) ++ []) new in
    let Q : List ℕ → Type 0 = λ x. HasTaken source (taken ++ whole_line bytes) x new in
    subst Q (append-nil (written ++ [])) (subst P (line_whole taken bytes at.rest at.lines at.begins.whole) after)
TakesBytes-ended source p q mid new bytes line (Err e) goes same empty domain replies kept t after_err = (
  (λ taken written st.
      let at = goes taken written st in
      let one = rest_one source.form q.line.items at.rest at.kept in
      let after = (t at.rest one (kept_line source (taken ++ bytes) (written ++ []) q line at kept)).0 (first_lines_text at.lines) (written ++ [])
      (fresh_line source (taken ++ bytes) (written ++ []) q mid at empty domain replies) in
      let P : List ℕ → Type 0 = λ x. EndsCheck source x ((written ++ []) ++ mid.findings.items) e in
      let Q : List ℕ → Type 0 = λ x. EndsCheck source (taken ++ whole_line bytes) x e in
      let text : (written ++ []) ++ mid.findings.items ≡ written ++ p.findings.items =
      ap (λ (x : List ℕ). x ++ mid.findings.items) (append-nil written) ∙ ap (λ (x : List ℕ). written ++ x) (replies ∙ same) in
      subst Q text (subst P (line_whole taken bytes at.rest at.lines at.begins.whole) after)),
  after_err ∙ (replies ∙ same),
)

-- Whole checks

-- what was taken is read as it is
read_same : (f : Form) (taken : List ℕ) (left : Option (List ℕ)) → AreRead f taken left taken
read_same form.Log taken left = refl
read_same (form.Trace domain) taken left = inl refl

rest_unended : (f : Form) (kept rest : List ℕ) → IsRestOf f kept rest → IsUnendedIn f rest
rest_unended form.Log kept rest h = let P : List ℕ → Type 0 = IsUnended in subst P (sym h.0) h.1
rest_unended (form.Trace domain) kept rest h = h.one

pub nothing_told : (source : Source) → (input output : Option (List ℕ)) → Checks source input input output output (Err fault.NoMemory)
nothing_told source input output = record {
  taken = [];
  read = [];
  written = [];
  takes = Consumes-nil input;
  reads = read_same source.form [] input;
  writes = Appends-nil output;
  tells = record { lines = None; rest = []; checker = None; text = []; begins = record { good = tt; whole = refl }; checked = refl; unwritten = []; begun = refl };
}

-- the findings of all that was taken are written
pub HasTaken-stops : (source : Source) (taken written : List ℕ) (p : CheckState) → HasTaken source taken written p → p.findings.items ≡ [] → StopsInLine source taken written
HasTaken-stops source taken written p st none = record {
  lines = st.lines;
  rest = st.rest;
  checker = p.checker;
  begins = st.begins;
  checked = (let P : List ℕ → Type 0 = IsChecked st.lines p.checker in
      subst P (st.gathered ∙ (ap (λ (x : List ℕ). written ++ x) none ∙ append-nil written)) st.checked);
  unended = rest_unended source.form p.line.items st.rest st.kept;
}

pub EndsCheck-tells : (source : Source) → (taken written : List ℕ) (left : Option (List ℕ)) (e : CheckFault) → EndsCheck source taken written e → TellsOfCheck source taken written left (Err e)
EndsCheck-tells source taken written left (fault.BadLog number) s = inl s
EndsCheck-tells source taken written left fault.NoMemory s = s
EndsCheck-tells source taken written left fault.ReadFault s = absurd s
EndsCheck-tells source taken written left fault.WriteFault s = s

pub Closes-tells : (source : Source) → (taken written : List ℕ) (left : Option (List ℕ)) (r : Result Checker CheckFault) → Closes source taken written r → IsAtEnd left → TellsOfCheck source taken written left r
Closes-tells source taken written left (Ok done) s end = (s, end)
Closes-tells source taken written left (Err (fault.BadLog number)) s end = inr (s, end)
Closes-tells source taken written left (Err fault.NoMemory) s end = absurd s
Closes-tells source taken written left (Err fault.ReadFault) s end = absurd s
Closes-tells source taken written left (Err fault.WriteFault) s end = absurd s

-- a reader and a writer before and now, between two reads: the findings of all that was taken are written
pub record SoFar (source : Source) (input left output filled : Option (List ℕ)) (p : CheckState) : Type 0 where
  pub taken : List ℕ
  pub written : List ℕ
  pub takes : Consumes input left taken
  pub writes : Appends output filled written
  pub stands : HasTaken source taken written p
  pub none : p.findings.items ≡ []

pub read_fails : (source : Source) → (input mid left output filled : Option (List ℕ)) (p : CheckState) → SoFar source input mid output filled p → Keeps mid left
    → Checks source input left output filled (Err fault.ReadFault)
read_fails source input mid left output filled p s keeps = record {
  taken = s.taken;
  read = s.taken;
  written = s.written;
  takes = Consumes-kept input mid left s.taken s.takes keeps;
  reads = read_same source.form s.taken left;
  writes = s.writes;
  tells = HasTaken-stops source s.taken s.written p s.stands s.none;
}

-- where the input ends, what was taken from it is what had been
at_end : (input mid left : Option (List ℕ)) (taken buffer : List ℕ) (n : ℕ) → Consumes input mid taken → Consumes mid left (take n buffer) → n ≡ 0
    → Consumes input left taken
at_end input mid left taken buffer n before consumes no_bytes =
    let P : List ℕ → Type 0 = Consumes input left in
    let nothing : taken ++ take n buffer ≡ taken = ap (λ (k : ℕ). taken ++ take k buffer) no_bytes ∙ append-nil taken in
    subst P nothing (Consumes-trans input mid left taken (take n buffer) before consumes)

-- the input ends, and no line of a trace is left
pub read_ends : (source : Source) (input mid left output filled : Option (List ℕ)) (p : CheckState) (n : ℕ) (buffer : List ℕ) (r : Result Checker CheckFault)
    → SoFar source input mid output filled p → Consumes mid left (take n buffer) → n ≡ 0 → IsAtEnd left
    → ((taken written : List ℕ) → HasTaken source taken written p → Closes source taken written r) → Checks source input left output filled r
read_ends source input mid left output filled p n buffer r s consumes no_bytes end closes = record {
  taken = s.taken;
  read = s.taken;
  written = s.written;
  takes = at_end input mid left s.taken buffer n s.takes consumes no_bytes;
  reads = read_same source.form s.taken left;
  writes = s.writes;
  tells = Closes-tells source s.taken s.written left r (closes s.taken s.written s.stands) end;
}

-- something of a trace's last line has come
last_read : (f : Form) (taken front kept rest : List ℕ) (left : Option (List ℕ)) → is_last f kept ≡ true → IsRestOf f kept rest → taken ≡ front ++ rest
    → IsAtEnd left → AreRead f taken left (taken ++ 10 ∷ [])
last_read form.Log taken front kept rest left last h whole end = absurd cc
last_read (form.Trace domain) taken front [] rest left last h whole end = absurd cc
last_read (form.Trace domain) taken front (b ∷ kept) rest left last h whole end = inr (record {
  before = front;
  line = rest;
  whole = whole;
  one = h.one;
  some = λ none. let no : [] ≡ b ∷ (kept ++ h.dropped) = sym none ∙ h.whole in absurd cc;
  ended = ap (λ (x : List ℕ). x ++ 10 ∷ []) whole ∙ append_assoc front rest (10 ∷ []);
  end = end;
})

-- what ends by LF has no rest
settled : (a b rest : List ℕ) → a ++ 10 ∷ [] ≡ b ++ rest → HasNoLf rest → rest ≡ []
settled a [] rest e one = absurd (no_line rest a [] one (sym e ∙ sym (append-nil (a ++ 10 ∷ []))))
settled [] (y ∷ []) rest e one = (let h : 10 ∷ [] ≡ y ∷ rest = e in cc)
settled [] (y ∷ z ∷ b) rest e one = (let h : 10 ∷ [] ≡ y ∷ (z ∷ (b ++ rest)) = e in absurd cc)
settled (x ∷ a) (y ∷ b) rest e one = settled a b rest (let h : x ∷ (a ++ 10 ∷ []) ≡ y ∷ (b ++ rest) = e in cc) one

not_last_empty : (f : Form) (kept rest : List ℕ) → rest ≡ [] → IsRestOf f kept rest → is_last f kept ≡ false
not_last_empty form.Log kept rest none h = refl
not_last_empty (form.Trace domain) [] rest none h = refl
not_last_empty (form.Trace domain) (b ∷ kept) rest none h = let no : [] ≡ b ∷ (kept ++ h.dropped) = sym none ∙ h.whole in absurd cc

-- the input ends in a line of a trace, which is read
pub last_ends : (source : Source) (input mid left output filled full : Option (List ℕ)) (p q : CheckState) (n : ℕ) (buffer more : List ℕ) (r : Result Checker CheckFault)
    → SoFar source input mid output filled p → Consumes mid left (take n buffer) → n ≡ 0 → IsAtEnd left → is_last source.form p.line.items ≡ true
    → Appends filled full more → Goes source p (10 ∷ []) more q
    → ((taken written : List ℕ) → HasTaken source taken written q → is_last source.form q.line.items ≡ false → Closes source taken written r)
    → Checks source input left output full r
last_ends source input mid left output filled full p q n buffer more r s consumes no_bytes end last appends goes closes =
    let taken = s.taken ++ 10 ∷ [] in
    let written = s.written ++ more in
    let now = goes s.taken s.written s.stands in
    let nothing : now.rest ≡ [] = settled s.taken (first_lines_text now.lines) now.rest now.begins.whole (rest_one source.form q.line.items now.rest now.kept) in
    record {
      taken = s.taken;
      read = taken;
      written = written;
      takes = at_end input mid left s.taken buffer n s.takes consumes no_bytes;
      reads = last_read source.form s.taken (first_lines_text s.stands.lines) p.line.items s.stands.rest left last s.stands.kept s.stands.begins.whole end;
      writes = Appends-trans output filled full s.written more s.writes appends;
      tells = Closes-tells source taken written left r (closes taken written now (not_last_empty source.form q.line.items now.rest nothing now.kept)) end;
    }

pub last_stops : (source : Source) (input mid left output filled full : Option (List ℕ)) (p : CheckState) (n : ℕ) (buffer more : List ℕ) (e : CheckFault)
    → SoFar source input mid output filled p → Consumes mid left (take n buffer) → n ≡ 0 → IsAtEnd left → is_last source.form p.line.items ≡ true
    → Appends filled full more → Stops source p (10 ∷ []) more e → Checks source input left output full (Err e)
last_stops source input mid left output filled full p n buffer more e s consumes no_bytes end last appends stops = record {
  taken = s.taken;
  read = s.taken ++ 10 ∷ [];
  written = s.written ++ more;
  takes = at_end input mid left s.taken buffer n s.takes consumes no_bytes;
  reads = last_read source.form s.taken (first_lines_text s.stands.lines) p.line.items s.stands.rest left last s.stands.kept s.stands.begins.whole end;
  writes = Appends-trans output filled full s.written more s.writes appends;
  tells = EndsCheck-tells source (s.taken ++ 10 ∷ []) (s.written ++ more) left e (stops s.taken s.written s.stands);
}

-- the result of the end of a line
abbrev pub IsLastRead : Source → Option (List ℕ) → Option (List ℕ) → CheckState → CheckState → Result Unit CheckFault → Type 0
IsLastRead source filled full p q ended =
    (more : List ℕ) × Appends filled full more × Outcome source p (10 ∷ []) more q ended × OnOk ended (q.findings.items ≡ [])

-- the input ends, whatever of a line has come
input_ends : (source : Source) (input mid left output filled full : Option (List ℕ)) (p q : CheckState) (n : ℕ) (buffer : List ℕ)
    (ended : Result Unit CheckFault) (u : Unit) (r : Result Checker CheckFault)
    → SoFar source input mid output filled p → Consumes mid left (take n buffer) → n ≡ 0 → IsAtEnd left → ended ≡ Ok u
    → (is_last source.form p.line.items ≡ false → (ended ≡ Ok tt) × (q ≡ p) × (full ≡ filled))
    → (is_last source.form p.line.items ≡ true → IsLastRead source filled full p q ended)
    → ((taken written : List ℕ) → HasTaken source taken written q → q.findings.items ≡ [] → is_last source.form q.line.items ≡ false → Closes source taken written r)
    → Checks source input left output full r
input_ends source input mid left output filled full p q n buffer ended u r s consumes no_bytes end is other last closes =
    elim (cases_Bool (is_last source.form p.line.items)) [
      | inl so ↦
          let read = last so in
          let P : Result Unit CheckFault → Type 0 = λ x. Outcome source p (10 ∷ []) read.0 q x in
          let Q : Result Unit CheckFault → Type 0 = λ x. OnOk x (q.findings.items ≡ []) in
          last_ends source input mid left output filled full p q n buffer read.0 r s consumes no_bytes end so read.1 (subst P is read.2)
          (λ taken written st. closes taken written st (subst Q is read.3))
      | inr not ↦
          let same = other not in
          let F : Option (List ℕ) → Type 0 = λ x. Checks source input left output x r in
          let C : CheckState → Type 0 = λ x. (taken written : List ℕ) → HasTaken source taken written x → x.findings.items ≡ []
          → is_last source.form x.line.items ≡ false → Closes source taken written r in
          let here = subst C same.1 closes in
          subst F (sym same.2) (read_ends source input mid left output filled p n buffer r s consumes no_bytes end (λ taken written st. here taken written st s.none not))
    ]

input_stops : (source : Source) (input mid left output filled full : Option (List ℕ)) (p q : CheckState) (n : ℕ) (buffer : List ℕ)
    (ended : Result Unit CheckFault) (e : CheckFault)
    → SoFar source input mid output filled p → Consumes mid left (take n buffer) → n ≡ 0 → IsAtEnd left → ended ≡ Err e
    → (is_last source.form p.line.items ≡ false → (ended ≡ Ok tt) × (q ≡ p) × (full ≡ filled))
    → (is_last source.form p.line.items ≡ true → IsLastRead source filled full p q ended)
    → Checks source input left output full (Err e)
input_stops source input mid left output filled full p q n buffer ended e s consumes no_bytes end is other last =
    elim (cases_Bool (is_last source.form p.line.items)) [
      | inl so ↦
          let read = last so in
          let P : Result Unit CheckFault → Type 0 = λ x. Outcome source p (10 ∷ []) read.0 q x in
          last_stops source input mid left output filled full p n buffer read.0 e s consumes no_bytes end so read.1 (subst P is read.2)
      | inr not ↦ let same = other not in fails ended e is same.0
    ]
  where
    fails : (x : Result Unit CheckFault) (f : CheckFault) → x ≡ Err f → x ≡ Ok tt → Checks source input left output full (Err e)
    fails x f a b = let no : ◌≡◌ {A = Result Unit CheckFault} (Err f) (Ok tt) = sym a ∙ b in absurd cc

-- the input ends, and the result of the end of a line is returned: it is the answer, or the end of what was taken has one

pub end_goes : (source : Source) (input mid left output filled full : Option (List ℕ)) (p q : CheckState) (n : ℕ) (buffer : List ℕ) (ended : Result Unit CheckFault)
    → SoFar source input mid output filled p → Consumes mid left (take n buffer) → n ≡ 0 → IsAtEnd left
    → (is_last source.form p.line.items ≡ false → (ended ≡ Ok tt) × (q ≡ p) × (full ≡ filled))
    → (is_last source.form p.line.items ≡ true → IsLastRead source filled full p q ended)
    → OnOk ended ((r : Result Checker CheckFault)
    → ((taken written : List ℕ) → HasTaken source taken written q → q.findings.items ≡ [] → is_last source.form q.line.items ≡ false → Closes source taken written r)
    → Checks source input left output full r)
end_goes source input mid left output filled full p q n buffer (Ok u) s consumes no_bytes end other last =
    λ r closes. input_ends source input mid left output filled full p q n buffer (Ok u) u r s consumes no_bytes end refl other last closes
end_goes source input mid left output filled full p q n buffer (Err e) s consumes no_bytes end other last = tt

pub end_stops : (source : Source) (input mid left output filled full : Option (List ℕ)) (p q : CheckState) (n : ℕ) (buffer : List ℕ) (ended : Result Unit CheckFault)
    → SoFar source input mid output filled p → Consumes mid left (take n buffer) → n ≡ 0 → IsAtEnd left
    → (is_last source.form p.line.items ≡ false → (ended ≡ Ok tt) × (q ≡ p) × (full ≡ filled))
    → (is_last source.form p.line.items ≡ true → IsLastRead source filled full p q ended)
    → IfErr ended (λ e. Checks source input left output full (Err e))
end_stops source input mid left output filled full p q n buffer (Ok u) s consumes no_bytes end other last = tt
end_stops source input mid left output filled full p q n buffer (Err e) s consumes no_bytes end other last =
    input_stops source input mid left output filled full p q n buffer (Err e) e s consumes no_bytes end refl other last

pub piece_stops : (source : Source) → (input mid left output filled full : Option (List ℕ)) (p : CheckState) (piece more : List ℕ) (e : CheckFault)
    → SoFar source input mid output filled p → Consumes mid left piece → Appends filled full more → Stops source p piece more e
    → Checks source input left output full (Err e)
piece_stops source input mid left output filled full p piece more e s consumes appends stops = record {
  taken = s.taken ++ piece;
  read = s.taken ++ piece;
  written = s.written ++ more;
  takes = Consumes-trans input mid left s.taken piece s.takes consumes;
  reads = read_same source.form (s.taken ++ piece) left;
  writes = Appends-trans output filled full s.written more s.writes appends;
  tells = EndsCheck-tells source (s.taken ++ piece) (s.written ++ more) left e (stops s.taken s.written s.stands);
}

pub piece_goes : (source : Source) → (input mid left output filled full : Option (List ℕ)) (p q : CheckState) (piece more : List ℕ)
    → SoFar source input mid output filled p → Consumes mid left piece → Appends filled full more → Goes source p piece more q → q.findings.items ≡ []
    → SoFar source input left output full q
piece_goes source input mid left output filled full p q piece more s consumes appends goes none = record {
  taken = s.taken ++ piece;
  written = s.written ++ more;
  takes = Consumes-trans input mid left s.taken piece s.takes consumes;
  writes = Appends-trans output filled full s.written more s.writes appends;
  stands = goes s.taken s.written s.stands;
  none = none;
}

-- two faults that are returned alike
pub err_is : {A : Type 0} (e f : CheckFault) → ◌≡◌ {A = Result A CheckFault} (Err e) (Err f) → e ≡ f
err_is e f same = cc
