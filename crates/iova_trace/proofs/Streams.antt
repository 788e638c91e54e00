-- One piece of a trace after another.
use Rattle.std.proofs.Common.{ℕ, ◌≡◌, ◌⊎◌, inl, inr, List, [], ◌∷◌, ◌++◌, Option, Some, None, Result, Ok, Err, length, take, drop, refl, sym, ap, ◌∙◌, subst, arith, append_assoc, append-nil, take-append-drop}
use Rattle.std.proofs.lemmas.List.{take_at, take_all}
use Rattle.std.proofs.KnownBytes.{Appends-trans, Appends-nil, Consumes-trans, Consumes-nil, Consumes-kept}
use Rattle.std.specs.Io.KnownBytes.{Appends, Consumes, Keeps, IsAtEnd}
use Rattle.iova_model.specs.State.{State}
use Rattle.iova_line.specs.declared.trace.Trace.{Trace}
use Rattle.iova_trace.specs.declared.fault.ReplayFault.{ReplayFault}
use Rattle.iova_trace.specs.declared.fault.ReplayFault.TheVariants as fault
use Rattle.iova_trace.specs.declared.replay.ReplayState.{ReplayState}
use Rattle.iova_text.specs.Lines.{whole_line, IsUnended}
use Rattle.iova_text.proofs.LineEnds.{odd_more, overlong_more}
use Rattle.iova_trace.specs.Lines.{BeginsWithLines, IsBad, MayFollow, first_lines_text}
use Rattle.iova_trace.specs.Replay.{BreaksOff, IsReplayed, StopsInLine, TellsOfReplay}
use Rattle.iova_trace.specs.Logged.{IsLogged, LogsAll, LogsFront, TellsOfLog, ReplaysAndLogs}
use Rattle.iova_trace.specs.ReplayState.{HasTaken, Goes, EndsReplay, EndsLog, Stops, Outcome, TakesBytes, Closes}

-- Outcomes

-- what a fault says of all bytes and of the log
abbrev Ends : List ℕ → List ℕ → Option (List ℕ) → Option (List ℕ) → ReplayFault → Type 0
Ends taken written before now e = EndsReplay taken written e × EndsLog taken written before now e

pub Goes-then : (a b c : ReplayState) (x y z : Option (List ℕ)) (p q v w : List ℕ) → Goes a x p v b y → Goes b y q w c z → Goes a x (p ++ q) (v ++ w) c z
Goes-then a b c x y z p q v w first second taken written log st =
    let P : List ℕ → Type 0 = λ l. HasTaken l ((written ++ v) ++ w) log z c in
    let Q : List ℕ → Type 0 = λ l. HasTaken (taken ++ (p ++ q)) l log z c in
    subst Q (append_assoc written v w) (subst P (append_assoc taken p q) (second (taken ++ p) (written ++ v) log (first taken written log st)))

pub Stops-then : (a b : ReplayState) (x y z : Option (List ℕ)) (p q v w : List ℕ) (e : ReplayFault) → Goes a x p v b y → Stops b y q w z e
    → Stops a x (p ++ q) (v ++ w) z e
Stops-then a b x y z p q v w e first second taken written log st =
    let P : List ℕ → Type 0 = λ l. Ends l ((written ++ v) ++ w) log z e in
    let Q : List ℕ → Type 0 = λ l. Ends (taken ++ (p ++ q)) l log z e in
    subst Q (append_assoc written v w) (subst P (append_assoc taken p q) (second (taken ++ p) (written ++ v) log (first taken written log st)))

BeginsWithLines-more : (taken more rest : List ℕ) (lines : Option Trace) → BeginsWithLines taken lines rest → BeginsWithLines (taken ++ more) lines (rest ++ more)
BeginsWithLines-more taken more rest lines b = record {
  good = b.good;
  whole = ap (λ (x : List ℕ). x ++ more) b.whole ∙ append_assoc (first_lines_text lines) rest more;
}

IsBad-more : (lines : Option Trace) (rest more : List ℕ) → IsBad lines rest → IsBad lines (rest ++ more)
IsBad-more lines rest more (inl odd) = inl (odd_more (λ line. ¬ MayFollow lines line) rest more odd)
IsBad-more lines rest more (inr long) = inr (overlong_more rest more long)

-- what is not read any more changes nothing
EndsReplay-more : (taken more written : List ℕ) (e : ReplayFault) → EndsReplay taken written e → EndsReplay (taken ++ more) written e
EndsReplay-more taken more written (fault.BadTrace number) s = record {
  lines = s.lines;
  rest = s.rest ++ more;
  state = s.state;
  begins = BeginsWithLines-more taken more s.rest s.lines s.begins;
  replayed = s.replayed;
  number_is = s.number_is;
  bad = IsBad-more s.lines s.rest more s.bad;
}
EndsReplay-more taken more written fault.NoMemory s = record {
  lines = s.lines;
  rest = s.rest ++ more;
  state = s.state;
  text = s.text;
  begins = BeginsWithLines-more taken more s.rest s.lines s.begins;
  replayed = s.replayed;
  unwritten = s.unwritten;
  begun = s.begun;
}
EndsReplay-more taken more written fault.ReadFault s = absurd s
EndsReplay-more taken more written fault.WriteFault s = record {
  lines = s.lines;
  rest = s.rest ++ more;
  state = s.state;
  text = s.text;
  begins = BeginsWithLines-more taken more s.rest s.lines s.begins;
  replayed = s.replayed;
  unwritten = s.unwritten;
  begun = s.begun;
}

LogsAll-more : (taken more written : List ℕ) (x y : Option (List ℕ)) → LogsAll taken written x y → LogsAll (taken ++ more) written x y
LogsAll-more taken more written x y s = record {
  lines = s.lines;
  rest = s.rest ++ more;
  log = s.log;
  begins = BeginsWithLines-more taken more s.rest s.lines s.begins;
  logged = s.logged;
  grown = s.grown;
}

LogsFront-more : (taken more written : List ℕ) (x y : Option (List ℕ)) → LogsFront taken written x y → LogsFront (taken ++ more) written x y
LogsFront-more taken more written x y s = record {
  lines = s.lines;
  rest = s.rest ++ more;
  text = s.text;
  unwritten = s.unwritten;
  log = s.log;
  count = s.count;
  begins = BeginsWithLines-more taken more s.rest s.lines s.begins;
  logged = s.logged;
  begun = s.begun;
  grown = s.grown;
}

EndsLog-more : (taken more written : List ℕ) (x y : Option (List ℕ)) (e : ReplayFault) → EndsLog taken written x y e → EndsLog (taken ++ more) written x y e
EndsLog-more taken more written x y (fault.BadTrace number) s = LogsAll-more taken more written x y s
EndsLog-more taken more written x y fault.NoMemory s = LogsFront-more taken more written x y s
EndsLog-more taken more written x y fault.ReadFault s = absurd s
EndsLog-more taken more written x y fault.WriteFault s = LogsFront-more taken more written x y s

pub Stops-more : (p : ReplayState) (x y : Option (List ℕ)) (bytes more written : List ℕ) (e : ReplayFault) → Stops p x bytes written y e
    → Stops p x (bytes ++ more) written y e
Stops-more p x y bytes more written e s taken before log st =
    let P : List ℕ → Type 0 = λ l. Ends l (before ++ written) log y e in
    let ends = s taken before log st in
    subst P (append_assoc taken bytes more)
    (EndsReplay-more (taken ++ bytes) more (before ++ written) e ends.0, EndsLog-more (taken ++ bytes) more (before ++ written) log y e ends.1)

-- all of a log is as many bytes of it as it has
pub Appends-whole : (x y : Option (List ℕ)) (log : List ℕ) → Appends x y log → Appends x y (take (length log) log)
Appends-whole x y log a =
    let P : List ℕ → Type 0 = Appends x y in
    subst P (sym (take_all (length log) log (omega arith))) a

-- a write that breaks off
broken : (before more : List ℕ) (n : ℕ) (text unwritten : List ℕ) → text ≡ (before ++ more) ++ unwritten
    → text ≡ (before ++ take n more) ++ (drop n more ++ unwritten)
broken before more n text unwritten e =
    e ∙ (ap (λ (x : List ℕ). (before ++ x) ++ unwritten) (sym (take-append-drop n more)) ∙ simp append_assoc)

EndsReplay-broken : (taken before more : List ℕ) (n : ℕ) (e : ReplayFault) → EndsReplay taken (before ++ more) e → BreaksOff taken (before ++ take n more)
EndsReplay-broken taken before more n (fault.BadTrace number) s = record {
  lines = s.lines;
  rest = s.rest;
  state = s.state;
  text = before ++ more;
  begins = s.begins;
  replayed = s.replayed;
  unwritten = drop n more ++ [];
  begun = broken before more n (before ++ more) [] (sym (append-nil (before ++ more)));
}
EndsReplay-broken taken before more n fault.NoMemory s = record {
  lines = s.lines;
  rest = s.rest;
  state = s.state;
  text = s.text;
  begins = s.begins;
  replayed = s.replayed;
  unwritten = drop n more ++ s.unwritten;
  begun = broken before more n s.text s.unwritten s.begun;
}
EndsReplay-broken taken before more n fault.ReadFault s = absurd s
EndsReplay-broken taken before more n fault.WriteFault s = record {
  lines = s.lines;
  rest = s.rest;
  state = s.state;
  text = s.text;
  begins = s.begins;
  replayed = s.replayed;
  unwritten = drop n more ++ s.unwritten;
  begun = broken before more n s.text s.unwritten s.begun;
}

LogsAll-broken : (taken before more : List ℕ) (n : ℕ) (x y : Option (List ℕ)) → LogsAll taken (before ++ more) x y → LogsFront taken (before ++ take n more) x y
LogsAll-broken taken before more n x y s = record {
  lines = s.lines;
  rest = s.rest;
  text = before ++ more;
  unwritten = drop n more ++ [];
  log = s.log;
  count = length s.log;
  begins = s.begins;
  logged = s.logged;
  begun = broken before more n (before ++ more) [] (sym (append-nil (before ++ more)));
  grown = Appends-whole x y s.log s.grown;
}

LogsFront-broken : (taken before more : List ℕ) (n : ℕ) (x y : Option (List ℕ)) → LogsFront taken (before ++ more) x y → LogsFront taken (before ++ take n more) x y
LogsFront-broken taken before more n x y s = record {
  lines = s.lines;
  rest = s.rest;
  text = s.text;
  unwritten = drop n more ++ s.unwritten;
  log = s.log;
  count = s.count;
  begins = s.begins;
  logged = s.logged;
  begun = broken before more n s.text s.unwritten s.begun;
  grown = s.grown;
}

EndsLog-broken : (taken before more : List ℕ) (n : ℕ) (x y : Option (List ℕ)) (e : ReplayFault) → EndsLog taken (before ++ more) x y e
    → LogsFront taken (before ++ take n more) x y
EndsLog-broken taken before more n x y (fault.BadTrace number) s = LogsAll-broken taken before more n x y s
EndsLog-broken taken before more n x y fault.NoMemory s = LogsFront-broken taken before more n x y s
EndsLog-broken taken before more n x y fault.ReadFault s = absurd s
EndsLog-broken taken before more n x y fault.WriteFault s = LogsFront-broken taken before more n x y s

-- the fault is that of the write, where the kept replies are not all written
pub Stops-broken : (p : ReplayState) (x y : Option (List ℕ)) (bytes more : List ℕ) (n : ℕ) (e : ReplayFault) → Stops p x bytes more y e
    → Stops p x bytes (take n more) y fault.WriteFault
Stops-broken p x y bytes more n e s taken before log st =
    let ends = s taken before log st in
    (EndsReplay-broken (taken ++ bytes) before more n e ends.0, EndsLog-broken (taken ++ bytes) before more n log y e ends.1)

-- after bytes that were taken the kept replies are not all written
pub Goes-broken : (p q : ReplayState) (x y : Option (List ℕ)) (bytes : List ℕ) (n : ℕ) → Goes p x bytes [] q y
    → Stops p x bytes (take n q.replies.items) y fault.WriteFault
Goes-broken p q x y bytes n goes taken before log st =
    let at = goes taken before log st in
    let cut = drop n q.replies.items in
    let begun : at.text ≡ (before ++ take n q.replies.items) ++ cut =
    at.gathered ∙ (ap (λ (l : List ℕ). l ++ q.replies.items) (append-nil before)
    ∙ (ap (λ (l : List ℕ). before ++ l) (sym (take-append-drop n q.replies.items)) ∙ sym (append_assoc before (take n q.replies.items) cut))) in (
      record { lines = at.lines; rest = q.line; state = q.domain; text = at.text; begins = at.begins; replayed = at.replayed; unwritten = cut; begun = begun },
      record {
        lines = at.lines;
        rest = q.line;
        text = at.text;
        unwritten = cut;
        log = at.log;
        count = length at.log;
        begins = at.begins;
        logged = at.logged;
        begun = begun;
        grown = Appends-whole log y at.log at.grown;
      },
    )

-- after bytes that were taken the kept replies are written
pub Goes-written : (p q r : ReplayState) (x y : Option (List ℕ)) (bytes : List ℕ) → Goes p x bytes [] q y → r.line ≡ q.line → r.domain ≡ q.domain
    → r.steps ≡ q.steps → r.replies.items ≡ [] → Goes p x bytes q.replies.items r y
Goes-written p q r x y bytes goes line domain steps none taken before log st =
    let at = goes taken before log st in
    record {
      lines = at.lines;
      text = at.text;
      begins = record { good = at.begins.good; whole = at.begins.whole ∙ ap (λ (l : List ℕ). first_lines_text at.lines ++ l) (sym line) };
      replayed = (let P : Option State → Type 0 = λ d. IsReplayed at.lines d at.text in subst P (sym domain) at.replayed);
      steps = steps ∙ at.steps;
      gathered = at.gathered ∙ (ap (λ (l : List ℕ). l ++ q.replies.items) (append-nil before)
          ∙ (sym (append-nil (before ++ q.replies.items)) ∙ ap (λ (l : List ℕ). (before ++ q.replies.items) ++ l) (sym none)));
      log = at.log;
      logged = at.logged;
      grown = at.grown;
    }

pub TakesBytes-broken : (p q : ReplayState) (x y : Option (List ℕ)) (bytes : List ℕ) (n : ℕ) (r : Result Unit ReplayFault) → TakesBytes p x bytes q y r
    → Stops p x bytes (take n q.replies.items) y fault.WriteFault
TakesBytes-broken p q x y bytes n (Ok u) t = Goes-broken p q x y bytes n t
TakesBytes-broken p q x y bytes n (Err e) t =
    let P : List ℕ → Type 0 = λ l. Stops p x bytes (take n l) y fault.WriteFault in
    subst P (sym t.1) (Stops-broken p x y bytes p.replies.items n e t.0)

pub TakesBytes-written : (p q r : ReplayState) (x y : Option (List ℕ)) (bytes : List ℕ) (result : Result Unit ReplayFault) → TakesBytes p x bytes q y result
    → r ≡ record q { replies = r.replies } → r.replies.items ≡ [] → Outcome p x bytes q.replies.items r y result
TakesBytes-written p q r x y bytes (Ok u) t same none =
    Goes-written p q r x y bytes t (ap (λ (l : ReplayState). l.line) same) (ap (λ (l : ReplayState). l.domain) same) (ap (λ (l : ReplayState). l.steps) same) none
TakesBytes-written p q r x y bytes (Err e) t same none =
    let P : List ℕ → Type 0 = λ l. Stops p x bytes l y e in
    subst P (sym t.1) t.0

pub Outcome-then : (a b c : ReplayState) (x y z : Option (List ℕ)) (p q v w : List ℕ) (r : Result Unit ReplayFault) → Goes a x p v b y → Outcome b y q w c z r
    → Outcome a x (p ++ q) (v ++ w) c z r
Outcome-then a b c x y z p q v w (Ok u) first second = Goes-then a b c x y z p q v w first second
Outcome-then a b c x y z p q v w (Err e) first second = Stops-then a b x y z p q v w e first second

-- The line that was kept is whole once its last bytes have come.

fresh_line : (taken written : List ℕ) (x y : Option (List ℕ)) (q mid : ReplayState) (st : HasTaken taken written x y q) → mid.line ≡ [] → mid.domain ≡ q.domain → mid.steps ≡ q.steps
    → mid.replies.items ≡ q.replies.items → HasTaken (first_lines_text st.lines) written x y mid
fresh_line taken written x y q mid st empty domain steps replies = record {
  lines = st.lines;
  text = st.text;
  begins = record {
    good = st.begins.good;
    whole = sym (append-nil (first_lines_text st.lines)) ∙ ap (λ (x : List ℕ). first_lines_text st.lines ++ x) (sym empty);
  };
  replayed = (let P : Option State → Type 0 = λ d. IsReplayed st.lines d st.text in subst P (sym domain) st.replayed);
  steps = steps ∙ st.steps;
  gathered = st.gathered ∙ ap (λ (x : List ℕ). written ++ x) (sym replies);
  log = st.log;
  logged = st.logged;
  grown = st.grown;
}

-- the lines, and then the kept line with its end
ended_text : (taken bytes line kept : List ℕ) (lines : Option Trace) → line ≡ kept ++ bytes → taken ≡ first_lines_text lines ++ kept
    → first_lines_text lines ++ whole_line line ≡ taken ++ whole_line bytes
ended_text taken bytes line kept lines is e =
    let first = first_lines_text lines in
    ap (λ (x : List ℕ). first ++ whole_line x) is
    ∙ (ap (λ (x : List ℕ). first ++ x) (append_assoc kept bytes (10 ∷ []))
    ∙ (sym (append_assoc first kept (whole_line bytes)) ∙ ap (λ (x : List ℕ). x ++ whole_line bytes) (sym e)))

pub TakesBytes-ended : (p mid new : ReplayState) (x z : Option (List ℕ)) (bytes line : List ℕ) (r : Result Unit ReplayFault) → mid.line ≡ []
    → mid.domain ≡ p.domain → mid.steps ≡ p.steps → mid.replies.items ≡ p.replies.items → line ≡ p.line ++ bytes
    → TakesBytes mid x (whole_line line) new z r → TakesBytes p x (whole_line bytes) new z r
TakesBytes-ended p mid new x z bytes line (Ok u) empty domain steps replies is t = λ taken written log st.
    let after = t (first_lines_text st.lines) written log (fresh_line taken written log x p mid st empty domain steps replies) in
    let P : List ℕ → Type 0 = λ l. HasTaken l (written ++ []) log z new in
    subst P (ended_text taken bytes line p.line st.lines is st.begins.whole) after
TakesBytes-ended p mid new x z bytes line (Err e) empty domain steps replies is t = (
  (λ taken written log st.
      let after = t.0 (first_lines_text st.lines) written log (fresh_line taken written log x p mid st empty domain steps replies) in
      let P : List ℕ → Type 0 = λ l. Ends l (written ++ mid.replies.items) log z e in
      let Q : List ℕ → Type 0 = λ l. Ends (taken ++ whole_line bytes) (written ++ l) log z e in
      subst Q replies (subst P (ended_text taken bytes line p.line st.lines is st.begins.whole) after)),
  t.1 ∙ replies,
)

-- Whole replays

pub nothing_told : (input output log : Option (List ℕ)) → ReplaysAndLogs input input output output log log (Err fault.NoMemory)
nothing_told input output log = record {
  replays = record {
    taken = [];
    written = [];
    takes = Consumes-nil input;
    writes = Appends-nil output;
    tells = record { lines = None; rest = []; state = None; text = []; begins = record { good = tt; whole = refl }; replayed = refl; unwritten = []; begun = refl };
  };
  logs = record {
    lines = None;
    rest = [];
    text = [];
    unwritten = [];
    log = [];
    count = 0;
    begins = record { good = tt; whole = refl };
    logged = (refl, refl);
    begun = refl;
    grown = Appends-nil log;
  };
}

-- all replies to what was taken are written
all_written : (taken written : List ℕ) (x y : Option (List ℕ)) (p : ReplayState) (st : HasTaken taken written x y p) → p.replies.items ≡ [] → st.text ≡ written
all_written taken written x y p st none = st.gathered ∙ (ap (λ (l : List ℕ). written ++ l) none ∙ append-nil written)

pub HasTaken-stops : (taken written : List ℕ) (x y : Option (List ℕ)) (p : ReplayState) → HasTaken taken written x y p → p.replies.items ≡ [] → IsUnended p.line
    → StopsInLine taken written
HasTaken-stops taken written x y p st none unended = record {
  lines = st.lines;
  rest = p.line;
  state = p.domain;
  begins = st.begins;
  replayed = (let P : List ℕ → Type 0 = IsReplayed st.lines p.domain in subst P (all_written taken written x y p st none) st.replayed);
  unended = unended;
}

pub HasTaken-logs : (taken written : List ℕ) (x y : Option (List ℕ)) (p : ReplayState) → HasTaken taken written x y p → p.replies.items ≡ [] → LogsAll taken written x y
HasTaken-logs taken written x y p st none = record {
  lines = st.lines;
  rest = p.line;
  log = st.log;
  begins = st.begins;
  logged = (let P : List ℕ → Type 0 = λ l. IsLogged st.lines l st.log in subst P (all_written taken written x y p st none) st.logged);
  grown = st.grown;
}

pub EndsReplay-tells : (taken written : List ℕ) (left : Option (List ℕ)) (e : ReplayFault) → EndsReplay taken written e → TellsOfReplay taken written left (Err e)
EndsReplay-tells taken written left (fault.BadTrace number) s = inl s
EndsReplay-tells taken written left fault.NoMemory s = s
EndsReplay-tells taken written left fault.ReadFault s = absurd s
EndsReplay-tells taken written left fault.WriteFault s = s

pub Closes-tells : (taken written : List ℕ) (left : Option (List ℕ)) (r : Result (State × ℕ) ReplayFault) → Closes taken written r → IsAtEnd left → TellsOfReplay taken written left r
Closes-tells taken written left (Ok done) s end = (s, end)
Closes-tells taken written left (Err (fault.BadTrace number)) s end = inr (s, end)
Closes-tells taken written left (Err fault.NoMemory) s end = absurd s
Closes-tells taken written left (Err fault.ReadFault) s end = absurd s
Closes-tells taken written left (Err fault.WriteFault) s end = absurd s

EndsLog-tells : (taken written : List ℕ) (x y : Option (List ℕ)) (e : ReplayFault) → EndsLog taken written x y e → TellsOfLog taken written x y (Err e)
EndsLog-tells taken written x y (fault.BadTrace number) s = s
EndsLog-tells taken written x y fault.NoMemory s = s
EndsLog-tells taken written x y fault.ReadFault s = absurd s
EndsLog-tells taken written x y fault.WriteFault s = s

Closes-logs : (taken written : List ℕ) (x y : Option (List ℕ)) (r : Result (State × ℕ) ReplayFault) → Closes taken written r → LogsAll taken written x y
    → TellsOfLog taken written x y r
Closes-logs taken written x y (Ok done) s all = all
Closes-logs taken written x y (Err (fault.BadTrace number)) s all = all
Closes-logs taken written x y (Err fault.NoMemory) s all = absurd s
Closes-logs taken written x y (Err fault.ReadFault) s all = absurd s
Closes-logs taken written x y (Err fault.WriteFault) s all = absurd s

-- a reader, a writer and a log before and now, between two reads: all replies to what was taken are written
pub record SoFar (input left output filled before now : Option (List ℕ)) (p : ReplayState) : Type 0 where
  pub taken : List ℕ
  pub written : List ℕ
  pub takes : Consumes input left taken
  pub writes : Appends output filled written
  pub stands : HasTaken taken written before now p
  pub none : p.replies.items ≡ []

pub read_fails : (input mid left output filled x y : Option (List ℕ)) (p : ReplayState) → SoFar input mid output filled x y p → IsUnended p.line → Keeps mid left
    → ReplaysAndLogs input left output filled x y (Err fault.ReadFault)
read_fails input mid left output filled x y p s unended keeps = record {
  replays = record {
    taken = s.taken;
    written = s.written;
    takes = Consumes-kept input mid left s.taken s.takes keeps;
    writes = s.writes;
    tells = HasTaken-stops s.taken s.written x y p s.stands s.none unended;
  };
  logs = HasTaken-logs s.taken s.written x y p s.stands s.none;
}

pub read_ends : (input mid left output filled x y : Option (List ℕ)) (p : ReplayState) (n : ℕ) (buffer : List ℕ) (r : Result (State × ℕ) ReplayFault)
    → SoFar input mid output filled x y p → Consumes mid left (take n buffer) → n ≡ 0 → IsAtEnd left
    → ((taken written : List ℕ) (before now : Option (List ℕ)) → HasTaken taken written before now p → Closes taken written r)
    → ReplaysAndLogs input left output filled x y r
read_ends input mid left output filled x y p n buffer r s consumes no_bytes end closes =
    let P : List ℕ → Type 0 = Consumes input left in
    let nothing : s.taken ++ take n buffer ≡ s.taken = ap (λ (k : ℕ). s.taken ++ take k buffer) no_bytes ∙ append-nil s.taken in
    let close = closes s.taken s.written x y s.stands in
    record {
      replays = record {
        taken = s.taken;
        written = s.written;
        takes = subst P nothing (Consumes-trans input mid left s.taken (take n buffer) s.takes consumes);
        writes = s.writes;
        tells = Closes-tells s.taken s.written left r close end;
      };
      logs = Closes-logs s.taken s.written x y r close (HasTaken-logs s.taken s.written x y p s.stands s.none);
    }

pub piece_stops : (input mid left output filled full x y z : Option (List ℕ)) (p : ReplayState) (piece more : List ℕ) (e : ReplayFault)
    → SoFar input mid output filled x y p → Consumes mid left piece → Appends filled full more → Stops p y piece more z e
    → ReplaysAndLogs input left output full x z (Err e)
piece_stops input mid left output filled full x y z p piece more e s consumes appends stops =
    let ends = stops s.taken s.written x s.stands in
    record {
      replays = record {
        taken = s.taken ++ piece;
        written = s.written ++ more;
        takes = Consumes-trans input mid left s.taken piece s.takes consumes;
        writes = Appends-trans output filled full s.written more s.writes appends;
        tells = EndsReplay-tells (s.taken ++ piece) (s.written ++ more) left e ends.0;
      };
      logs = EndsLog-tells (s.taken ++ piece) (s.written ++ more) x z e ends.1;
    }

pub piece_goes : (input mid left output filled full x y z : Option (List ℕ)) (p q : ReplayState) (piece more : List ℕ)
    → SoFar input mid output filled x y p → Consumes mid left piece → Appends filled full more → Goes p y piece more q z → q.replies.items ≡ []
    → SoFar input left output full x z q
piece_goes input mid left output filled full x y z p q piece more s consumes appends goes none = record {
  taken = s.taken ++ piece;
  written = s.written ++ more;
  takes = Consumes-trans input mid left s.taken piece s.takes consumes;
  writes = Appends-trans output filled full s.written more s.writes appends;
  stands = goes s.taken s.written x s.stands;
  none = none;
}

-- A log that can't be handed on

done_breaks : (taken written : List ℕ) (left : Option (List ℕ)) (r : Result (State × ℕ) ReplayFault) → TellsOfReplay taken written left r → BreaksOff taken written
done_breaks taken written left (Ok done) (s, end) = record {
  lines = Some s.trace;
  rest = [];
  state = Some done.0;
  text = written;
  begins = record { good = s.good; whole = s.whole ∙ sym (append-nil _) };
  replayed = s.replayed;
  unwritten = [];
  begun = sym (append-nil written);
}
done_breaks taken written left (Err (fault.BadTrace number)) (inl s) = record {
  lines = s.lines;
  rest = s.rest;
  state = s.state;
  text = written;
  begins = s.begins;
  replayed = s.replayed;
  unwritten = [];
  begun = sym (append-nil written);
}
done_breaks taken written left (Err (fault.BadTrace number)) (inr (s, end)) = record {
  lines = s.lines;
  rest = s.rest;
  state = s.state;
  text = written;
  begins = s.begins;
  replayed = s.replayed;
  unwritten = [];
  begun = sym (append-nil written);
}
done_breaks taken written left (Err fault.NoMemory) s = s
done_breaks taken written left (Err fault.ReadFault) s = record {
  lines = s.lines;
  rest = s.rest;
  state = s.state;
  text = written;
  begins = s.begins;
  replayed = s.replayed;
  unwritten = [];
  begun = sym (append-nil written);
}
done_breaks taken written left (Err fault.WriteFault) s = s

LogsAll-front : (taken written : List ℕ) (x y : Option (List ℕ)) → LogsAll taken written x y → LogsFront taken written x y
LogsAll-front taken written x y s = record {
  lines = s.lines;
  rest = s.rest;
  text = written;
  unwritten = [];
  log = s.log;
  count = length s.log;
  begins = s.begins;
  logged = s.logged;
  begun = sym (append-nil written);
  grown = Appends-whole x y s.log s.grown;
}

log_breaks : (taken written : List ℕ) (x y : Option (List ℕ)) (r : Result (State × ℕ) ReplayFault) → TellsOfLog taken written x y r → LogsFront taken written x y
log_breaks taken written x y (Ok done) s = LogsAll-front taken written x y s
log_breaks taken written x y (Err (fault.BadTrace number)) s = LogsAll-front taken written x y s
log_breaks taken written x y (Err fault.NoMemory) s = s
log_breaks taken written x y (Err fault.ReadFault) s = LogsAll-front taken written x y s
log_breaks taken written x y (Err fault.WriteFault) s = s

Appends-kept : (x y z : Option (List ℕ)) (bytes : List ℕ) → Appends x y bytes → Keeps y z → Appends x z bytes
Appends-kept None y z bytes a k = tt
Appends-kept (Some a) None z bytes p k = absurd p
Appends-kept (Some a) (Some b) None bytes p k = absurd k
Appends-kept (Some a) (Some b) (Some c) bytes p k = k ∙ p

LogsAll-kept : (taken written : List ℕ) (x y z : Option (List ℕ)) → LogsAll taken written x y → Keeps y z → LogsAll taken written x z
LogsAll-kept taken written x y z s k = record {
  lines = s.lines;
  rest = s.rest;
  log = s.log;
  begins = s.begins;
  logged = s.logged;
  grown = Appends-kept x y z s.log s.grown k;
}

LogsFront-kept : (taken written : List ℕ) (x y z : Option (List ℕ)) → LogsFront taken written x y → Keeps y z → LogsFront taken written x z
LogsFront-kept taken written x y z s k = record {
  lines = s.lines;
  rest = s.rest;
  text = s.text;
  unwritten = s.unwritten;
  log = s.log;
  count = s.count;
  begins = s.begins;
  logged = s.logged;
  begun = s.begun;
  grown = Appends-kept x y z (take s.count s.log) s.grown k;
}

log_kept : (taken written : List ℕ) (x y z : Option (List ℕ)) (r : Result (State × ℕ) ReplayFault) → TellsOfLog taken written x y r → Keeps y z
    → TellsOfLog taken written x z r
log_kept taken written x y z (Ok done) s k = LogsAll-kept taken written x y z s k
log_kept taken written x y z (Err (fault.BadTrace number)) s k = LogsAll-kept taken written x y z s k
log_kept taken written x y z (Err fault.NoMemory) s k = LogsFront-kept taken written x y z s k
log_kept taken written x y z (Err fault.ReadFault) s k = LogsAll-kept taken written x y z s k
log_kept taken written x y z (Err fault.WriteFault) s k = LogsFront-kept taken written x y z s k

-- the answer of a replay whose log was handed on, or could not be
pub is_closed : (input left output filled x y z : Option (List ℕ)) (r answer : Result (State × ℕ) ReplayFault) → ReplaysAndLogs input left output filled x y r
    → Keeps y z → (answer ≡ r) ⊎ (answer ≡ Err fault.WriteFault) → ReplaysAndLogs input left output filled x z answer
is_closed input left output filled x y z r answer s k (inl same) =
    let P : Result (State × ℕ) ReplayFault → Type 0 = ReplaysAndLogs input left output filled x z in
    subst P (sym same) (record { replays = s.replays; logs = log_kept s.replays.taken s.replays.written x y z r s.logs k })
is_closed input left output filled x y z r answer s k (inr failed) =
    let P : Result (State × ℕ) ReplayFault → Type 0 = ReplaysAndLogs input left output filled x z in
    let taken = s.replays.taken in
    let written = s.replays.written in
    subst P (sym failed) (record {
      replays = record {
        taken = taken;
        written = written;
        takes = s.replays.takes;
        writes = s.replays.writes;
        tells = done_breaks taken written left r s.replays.tells;
      };
      logs = LogsFront-kept taken written x y z (log_breaks taken written x y r s.logs) k;
    })

-- two faults that are returned alike
pub err_is : {A : Type 0} (e f : ReplayFault) → ◌≡◌ {A = Result A ReplayFault} (Err e) (Err f) → e ≡ f
err_is e f same = cc

-- what a vector has after bytes were read into its slice
pub read_back : (len : ℕ) (new old slice : List ℕ) → length new ≡ length slice → slice ≡ old → len ≡ length old
    → take len (new ++ drop (length new) old) ≡ new
read_back len new old slice same is all = take_at new (drop (length new) old) len (same ∙ (ap length is ∙ sym all))
