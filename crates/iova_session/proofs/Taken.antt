-- What a piece gives, of what is gathered from it, asked and written.
use Rattle.std.proofs.Common.{◌≡◌, ℕ, ◌+◌, ◌-◌, ◌≤◌, ◌⊎◌, inl, inr, List, [], ◌++◌, length, take, drop, sym, ap, ◌∙◌, subst, append_assoc, append-nil, arith, length-append, refl, take-append-drop, Err}
use Rattle.std.specs.List.{AllByRecursion}
use Rattle.std.specs.Prelude.{Option, Some}
use Rattle.std.specs.Io.KnownBytes.{Appends}
use Rattle.std.proofs.Math.Seq.{take-append-add, take-length}
use Rattle.iova_range.specs.declared.limits.TheConstants.{MAX_SESSION_READS}
use Rattle.iova_text.specs.Lines.{IsUnended}
use Rattle.iova_proto.specs.Requests.{IsRequest}
use Rattle.iova_proto.specs.declared.request.Request.{Request}
use Rattle.iova_session.specs.Pairs.{Pair, requests_of, answers_of, requests_text, answers_text}
use Rattle.iova_session.specs.Sessions.{bad_line, too_many, HasNoBye, StopsAtBye, EndsInBye, BeginsWith, IsLastLine, EndsSo, Serves, ServesWithin}
use Rattle.iova_session.specs.Rounds.{IsLines, AllAnswered, Gathers, AsksRun}
use Rattle.iova_session.specs.declared.end.End.{End}
use Rattle.iova_session.specs.declared.end.End.TheVariants as ends
use Rattle.iova_session.specs.declared.gathering.Stop.{Stop}
use Rattle.iova_session.specs.declared.gathering.Stop.TheVariants as stops
use Rattle.iova_session.proofs.Texts.{take_plus, all_after, requests_text-append, length-asked}
use Rattle.iova_session.proofs.Byes.{All-front, StopsAtBye-none, StopsAtBye-last, StopsAtBye-front}
use Rattle.iova_session.proofs.Joins.{AllAnswered-none, AllAnswered-then, Serves-then, begins}

-- the lines end within the piece, and the rest of it follows
IsLines-cut : (next piece : List ℕ) (rs : List Request) (used : ℕ) → IsLines (next ++ take used piece) rs [] → IsLines (next ++ piece) rs (drop used piece)
IsLines-cut next piece rs used e = record {
  good = e.good;
  whole = ap (λ x. next ++ x) (sym (take-append-drop used piece)) ∙ sym (append_assoc next (take used piece) (drop used piece))
      ∙ ap (λ x. x ++ drop used piece) (e.whole ∙ append-nil (requests_text rs));
}

-- the first requests, where not all of them were asked
begins_front : (here : ℕ) (bytes rest : List ℕ) (rs qs more : List Request) → rs ≡ qs ++ more → length rs ≤ here → StopsAtBye rs → IsLines bytes rs rest
    → BeginsWith here bytes qs (requests_text more ++ rest)
begins_front here bytes rest rs qs more e l b i = record {
  good = All-front IsRequest qs more (subst (AllByRecursion IsRequest) e i.good);
  whole = i.whole ∙ ap (λ x. requests_text x ++ rest) e ∙ ap (λ x. x ++ rest) (requests_text-append qs more)
      ∙ append_assoc (requests_text qs) (requests_text more) rest;
  byes = StopsAtBye-front qs more (subst StopsAtBye e b);
  few = omega (arith, ap length e, length-append {A = Request} qs more, l);
}

begins_all : (here : ℕ) (bytes rest : List ℕ) (rs qs : List Request) → qs ≡ rs → length rs ≤ here → StopsAtBye rs → IsLines bytes rs rest
    → BeginsWith here bytes qs rest
begins_all here bytes rest rs qs e l b i =
    subst (λ (x : List Request). BeginsWith here bytes x rest) (sym e) (record { good = i.good; whole = i.whole; byes = b; few = l })

-- whatever was gathered, the bytes are those requests and a rest
gathered : (left used : ℕ) (next piece : List ℕ) (rs : List Request) (stop : Stop) (new : Option (List ℕ)) → Gathers left next piece rs used stop new
    → (rest : List ℕ) × IsLines (next ++ piece) rs rest × StopsAtBye rs
gathered left used next piece rs stops.More new h = (h.1.0, h.1.1, StopsAtBye-none rs h.0)
gathered left used next piece rs stops.Full new h = (drop used piece, IsLines-cut next piece rs used h.1, StopsAtBye-none rs h.0)
gathered left used next piece rs stops.Bye new h = (drop used piece, IsLines-cut next piece rs used h.1, StopsAtBye-last rs h.0)
gathered left used next piece rs stops.Bad new h = (h.1.0, h.1.1, StopsAtBye-none rs h.0)
gathered left used next piece rs stops.Limit new h = (h.2.0, h.2.1, StopsAtBye-none rs h.0)

-- an ask that stopped ends the session
pub Serves-cut : (here used : ℕ) (next piece w : List ℕ) (rs : List Request) (stop : Stop) (new : Option (List ℕ)) (qs : List Pair) (end : End)
    → length rs ≤ here → Gathers here next piece rs used stop new → AsksRun rs qs w (Err end) → Serves here (next ++ piece) qs w 0 end
Serves-cut here used next piece w rs stop new qs end l h b =
    let t = gathered here used next piece rs stop new h in
    let n = b.2.0 in
    let rest = requests_text b.1.0 ++ t.0 in
    let text = answers_text (answers_of qs) in
    let start = begins_front here (next ++ piece) t.0 rs (requests_of qs) b.1.0 b.1.1 l t.2 t.1 in
    let P : End → Type 0 = λ x. Serves here (next ++ piece) qs w 0 x in
    elim b.0 [
      | inl a ↦ subst P (sym a) (record {
        rest = rest;
        requests = start;
        few = omega arith;
        says = ([], n, inl refl, b.2.1 ∙ ap (take n) (sym (append-nil text)));
      })
      | inr d ↦ subst P (sym d) (record { rest = rest; requests = start; few = omega arith; says = b.2 })
    ]

pub AllAnswered-more : (here used : ℕ) (next piece w : List ℕ) (rs : List Request) (new : Option (List ℕ)) (qs : List Pair)
    → Gathers here next piece rs used stops.More new → requests_of qs ≡ rs → w ≡ answers_text (answers_of qs)
    → (n : List ℕ) × AllAnswered (next ++ piece) qs n w × IsUnended n × (new ≡ Some n)
AllAnswered-more here used next piece w rs new qs h e f =
    (h.1.0, record { lines = subst (λ (x : List Request). IsLines (next ++ piece) x h.1.0) (sym e) h.1.1; byes = subst HasNoBye (sym e) h.0; answered = f }, h.1.2, h.1.3)

pub AllAnswered-full : (here used : ℕ) (next piece w : List ℕ) (rs : List Request) (new : Option (List ℕ)) (qs : List Pair)
    → Gathers here next piece rs used stops.Full new → requests_of qs ≡ rs → w ≡ answers_text (answers_of qs)
    → AllAnswered (next ++ take used piece) qs [] w
AllAnswered-full here used next piece w rs new qs h e f =
    record { lines = subst (λ (x : List Request). IsLines (next ++ take used piece) x []) (sym e) h.1; byes = subst HasNoBye (sym e) h.0; answered = f }

pub Serves-bye : (here used : ℕ) (next piece w : List ℕ) (rs : List Request) (new : Option (List ℕ)) (qs : List Pair) → length rs ≤ here
    → Gathers here next piece rs used stops.Bye new → requests_of qs ≡ rs → w ≡ answers_text (answers_of qs)
    → Serves here (next ++ piece) qs w 0 ends.Bye
Serves-bye here used next piece w rs new qs l h e f = record {
  rest = drop used piece;
  requests = begins_all here (next ++ piece) (drop used piece) rs (requests_of qs) e l (StopsAtBye-last rs h.0) (IsLines-cut next piece rs used h.1);
  few = omega arith;
  says = (subst EndsInBye (sym e) h.0, f);
}

-- a line of its own ends a session, or the link fails in it
pub Serves-refused : (most bound reads : ℕ) (bytes rest v line : List ℕ) (qs : List Pair) (a b : Option (List ℕ)) (end result : End) → reads ≤ bound
    → BeginsWith most bytes (requests_of qs) rest → v ≡ answers_text (answers_of qs) → IsLastLine most bound (requests_of qs) rest reads line
    → EndsSo most bound (requests_of qs) rest reads (answers_text (answers_of qs)) (v ++ line) end
    → ((result ≡ end) × Appends a b line) ⊎ ((result ≡ ends.LinkFault) × ((n : ℕ) × Appends a b (take n line)))
    → (w : List ℕ) × Appends a b w × ServesWithin most bound bytes qs (v ++ w) reads result
Serves-refused most bound reads bytes rest v line qs a b end result few start e last says (inl t) =
    (line, t.1, subst (ServesWithin most bound bytes qs (v ++ line) reads) (sym t.0) (record { rest = rest; requests = start; few = few; says = says }))
Serves-refused most bound reads bytes rest v line qs a b end result few start e last says (inr t) =
    let n = t.1.0 in (
      take n line,
      t.1.1,
      subst (ServesWithin most bound bytes qs (v ++ take n line) reads) (sym t.0) (record {
        rest = rest;
        requests = start;
        few = few;
        says = (line, length v + n, last, sym (take-append-add v line n) ∙ ap (λ x. take (length v + n) (x ++ line)) e);
      }),
    )

pub Serves-bad : (here used : ℕ) (next piece w : List ℕ) (rs : List Request) (new : Option (List ℕ)) (qs : List Pair) (a b : Option (List ℕ)) (end : End)
    → length rs ≤ here → Gathers here next piece rs used stops.Bad new → requests_of qs ≡ rs → w ≡ answers_text (answers_of qs)
    → ((end ≡ ends.BadLine) × Appends a b bad_line) ⊎ ((end ≡ ends.LinkFault) × ((n : ℕ) × Appends a b (take n bad_line)))
    → (v : List ℕ) × Appends a b v × Serves here (next ++ piece) qs (w ++ v) 0 end
Serves-bad here used next piece w rs new qs a b end l h e f t =
    let none = subst HasNoBye (sym e) h.0 in
    Serves-refused here MAX_SESSION_READS 0 (next ++ piece) h.1.0 w bad_line qs a b ends.BadLine end (omega arith)
    (begins_all here (next ++ piece) h.1.0 rs (requests_of qs) e l (StopsAtBye-none rs h.0) h.1.1) f
    (inr (inl (refl, none, h.1.2))) (none, h.1.2, ap (λ x. x ++ bad_line) f) t

pub Serves-limit : (here used : ℕ) (next piece w : List ℕ) (rs : List Request) (new : Option (List ℕ)) (qs : List Pair) (a b : Option (List ℕ)) (end : End)
    → length rs ≤ here → Gathers here next piece rs used stops.Limit new → requests_of qs ≡ rs → w ≡ answers_text (answers_of qs)
    → ((end ≡ ends.TooMany) × Appends a b too_many) ⊎ ((end ≡ ends.LinkFault) × ((n : ℕ) × Appends a b (take n too_many)))
    → (v : List ℕ) × Appends a b v × Serves here (next ++ piece) qs (w ++ v) 0 end
Serves-limit here used next piece w rs new qs a b end l h e f t =
    let none = subst HasNoBye (sym e) h.0 in
    let all : length (requests_of qs) ≡ here = ap length e ∙ h.1 in
    Serves-refused here MAX_SESSION_READS 0 (next ++ piece) h.2.0 w too_many qs a b ends.TooMany end (omega arith)
    (begins_all here (next ++ piece) h.2.0 rs (requests_of qs) e l (StopsAtBye-none rs h.0) h.2.1) f
    (inr (inr (refl, none, inl (all, h.2.2)))) (none, inl (all, h.2.2), ap (λ x. x ++ too_many) f) t

-- the part that is used, and the rest
parts : (kept piece : List ℕ) (at : ℕ) → (kept ++ take at piece) ++ take (length piece - at) (drop at piece) ≡ kept ++ piece
parts kept piece at =
    append_assoc kept (take at piece) (take (length piece - at) (drop at piece))
    ∙ ap (λ x. kept ++ x) (ap (λ x. take at piece ++ x) (all_after piece at) ∙ take-append-drop at piece)

pub Serves-whole : (most here at : ℕ) (kept piece next w v : List ℕ) (ps qs : List Pair) (end : End) → length ps + here ≡ most
    → AllAnswered (kept ++ take at piece) ps next w → Serves here (next ++ take (length piece - at) (drop at piece)) qs v 0 end
    → Serves most (kept ++ piece) (ps ++ qs) (w ++ v) 0 end
Serves-whole most here at kept piece next w v ps qs end l a b =
    subst (λ (x : List ℕ). Serves most x (ps ++ qs) (w ++ v) 0 end) (parts kept piece at)
    (Serves-then most MAX_SESSION_READS here 0 (kept ++ take at piece) (take (length piece - at) (drop at piece)) next w v ps qs end l (omega arith) a b)

pub AllAnswered-whole : (at : ℕ) (kept piece next n w v : List ℕ) (ps qs : List Pair)
    → AllAnswered (kept ++ take at piece) ps next w → AllAnswered (next ++ take (length piece - at) (drop at piece)) qs n v
    → AllAnswered (kept ++ piece) (ps ++ qs) n (w ++ v)
AllAnswered-whole at kept piece next n w v ps qs a b =
    subst (λ (x : List ℕ). AllAnswered x (ps ++ qs) n (w ++ v)) (parts kept piece at) (AllAnswered-then (kept ++ take at piece) (take (length piece - at) (drop at piece)) next n w v ps qs a b)

pub AllAnswered-further : (at used : ℕ) (kept piece next n w v : List ℕ) (ps qs : List Pair) → at ≤ length piece
    → AllAnswered (kept ++ take at piece) ps next w → AllAnswered (next ++ take used (take (length piece - at) (drop at piece))) qs n v
    → AllAnswered (kept ++ take (at + used) piece) (ps ++ qs) n (w ++ v)
AllAnswered-further at used kept piece next n w v ps qs h a b =
    let same : (kept ++ take at piece) ++ take used (take (length piece - at) (drop at piece)) ≡ kept ++ take (at + used) piece =
    append_assoc kept (take at piece) (take used (take (length piece - at) (drop at piece)))
    ∙ ap (λ x. kept ++ x) (ap (λ x. take at piece ++ take used x) (all_after piece at) ∙ sym (take_plus piece at used h)) in
    subst (λ (x : List ℕ). AllAnswered x (ps ++ qs) n (w ++ v)) same (AllAnswered-then (kept ++ take at piece) (take used (take (length piece - at) (drop at piece))) next n w v ps qs a b)

pub lengths : (ps qs : List Pair) (rs : List Request) (left here : ℕ) → length ps + here ≡ left → requests_of qs ≡ rs → length rs ≤ here
    → length (ps ++ qs) + (here - length rs) ≡ left
lengths ps qs rs left here e f h = omega (arith, length-append {A = Pair} ps qs, length-asked qs, ap length f, e, h)

-- where a session goes on, it may as well end: as the link fails, as it comes to its end, and at the most reads
pub Serves-fault : (most bound here reads : ℕ) (taken next written : List ℕ) (ps : List Pair) → length ps + here ≡ most → reads ≤ bound
    → AllAnswered taken ps next written → ServesWithin most bound taken ps written reads ends.LinkFault
Serves-fault most bound here reads taken next written ps l few a = record {
  rest = next;
  requests = begins most here taken next written ps l a;
  few = few;
  says = (
    [],
    length written,
    inl refl,
    a.answered ∙ sym (take-length (answers_text (answers_of ps))) ∙ ap (λ x. take (length x) (answers_text (answers_of ps))) (sym a.answered)
        ∙ ap (take (length written)) (sym (append-nil (answers_text (answers_of ps)))),
  );
}

pub Serves-closed : (most bound here reads : ℕ) (taken next written : List ℕ) (ps : List Pair) → length ps + here ≡ most → reads ≤ bound
    → IsUnended next → AllAnswered taken ps next written → ServesWithin most bound taken ps written reads ends.Closed
Serves-closed most bound here reads taken next written ps l few u a = record {
  rest = next;
  requests = begins most here taken next written ps l a;
  few = few;
  says = (a.byes, u, a.answered);
}

pub Serves-worn : (most bound here reads : ℕ) (taken next written : List ℕ) (ps : List Pair) (a b : Option (List ℕ)) (end : End) → length ps + here ≡ most
    → reads ≡ bound → IsUnended next → AllAnswered taken ps next written
    → ((end ≡ ends.TooMany) × Appends a b too_many) ⊎ ((end ≡ ends.LinkFault) × ((n : ℕ) × Appends a b (take n too_many)))
    → (v : List ℕ) × Appends a b v × ServesWithin most bound taken ps (written ++ v) reads end
Serves-worn most bound here reads taken next written ps a b end l r u h t =
    Serves-refused most bound reads taken next written too_many ps a b ends.TooMany end (omega arith)
    (begins most here taken next written ps l h) h.answered
    (inr (inr (refl, h.byes, inr (r, u)))) (h.byes, inr (r, u), ap (λ x. x ++ too_many) h.answered) t

pub IsUnended-none : IsUnended []
IsUnended-none = record { one = refl; short = omega arith }

-- no room at the start
pub Serves-no_room : (most bound : ℕ) → ServesWithin most bound [] [] [] 0 ends.NoMemory
Serves-no_room most bound = record {
  rest = [];
  requests = begins most most [] [] [] [] (omega arith) AllAnswered-none;
  few = omega arith;
  says = (0, refl);
}
