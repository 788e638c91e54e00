-- Requests and answers, one part after another.
use Rattle.std.proofs.Common.{◌≡◌, ◌≢◌, ℕ, ◌+◌, ◌-◌, ◌<◌, ◌≤◌, ◌⊎◌, inl, inr, Bool, true, false, List, [], ◌∷◌, ◌++◌, Result, Ok, Err, length, take, drop, get_or, refl, sym, ap, ◌∙◌, subst, arith, append_assoc, append-nil, length-append, take-append-drop}
use Rattle.std.proofs.lemmas.List.{map-append, take_all, take_more, get_or_append_left, get_or-append-add}
use Rattle.std.proofs.lemmas.Bool.{cases_lt}
use Rattle.iova_sink.specs.declared.channel.ChannelFault.{ChannelFault}
use Rattle.iova_sink.specs.declared.channel.Incoming.{Incoming}
use Rattle.iova_sink.specs.declared.channel.Incoming.TheVariants as incoming
use Rattle.iova_sink.specs.declared.history.Passed.{Passed}
use Rattle.iova_sink.specs.declared.history.Passed.TheVariants as passed
use Rattle.iova_sink.specs.declared.sink.SinkFault.{SinkFault}
use Rattle.iova_sink.specs.declared.sink.SinkFault.TheVariants as fault
use Rattle.iova_sink.specs.declared.asking.AnswerState.{AnswerState}
use Rattle.iova_sink.specs.declared.asking.AnswerState.TheVariants as heard
use Rattle.iova_range.specs.Frames.{Frames}
use Rattle.iova_sink.specs.Records.{range_line, ranges_text}
use Rattle.iova_sink.specs.Passing.{sent_bytes, received_bytes, with_received_bytes}
use Rattle.iova_sink.specs.Channels.{Talk, HandsOn, FailsBehind, with_sent, with_failure, without_connection, Looks, Connects, IsFailure, opening, exchange, readied, IsFront, IsCutOff, Readies, SendsAll, IsBegun, Requests, EndsAtLf, IsAnswer, IsSaid, Hears, IsAnsweredBy, Settles, Concludes, Answers}
use Rattle.iova_sink.proofs.Records.{take_plus, rest_of}

pub sent_more : (t : Talk) (xs ys : List ℕ) → with_sent (with_sent t xs) ys ≡ with_sent t (xs ++ ys)
sent_more t xs ys = ap (λ (x : List Passed). record t { passed = x }) (append_assoc t.passed (sent_bytes xs) (sent_bytes ys) ∙ ap (λ (x : List Passed). t.passed ++ x) (sym (map-append passed.Sent xs ys)))

pub sent_nothing : (t : Talk) → t ≡ with_sent t []
sent_nothing t = ap (λ (x : List Passed). record t { passed = x }) (sym (append-nil t.passed))

-- Bytes handed on

pub hands_nothing : (t : Talk) → HandsOn t t []
hands_nothing t = record {
  more = [];
  passed = sym (append-nil t.passed);
  order = append-nil t.ahead;
  connected = refl;
}

pub hands_more : (a b c : Talk) (xs ys : List ℕ) → HandsOn a b xs → HandsOn b c ys → HandsOn a c (xs ++ ys)
hands_more a b c xs ys p q = record {
  more = p.more ++ q.more;
  passed = q.passed
      ∙ (ap (λ (x : List Passed). x ++ received_bytes q.more) p.passed
      ∙ (append_assoc a.passed (received_bytes p.more) (received_bytes q.more) ∙ ap (λ (x : List Passed). a.passed ++ x) (sym (map-append passed.Received p.more q.more))));
  order = sym (append_assoc a.ahead p.more q.more)
      ∙ (ap (λ (x : List ℕ). x ++ q.more) p.order
      ∙ (append_assoc xs b.ahead q.more ∙ (ap (λ (x : List ℕ). xs ++ x) q.order ∙ sym (append_assoc xs ys c.ahead))));
  connected = q.connected ∙ p.connected;
}

-- by a channel that never receives ahead
pub hands_none_ahead : (old new : Talk) (bytes : List ℕ) → old.ahead ≡ [] → new.ahead ≡ [] → new.passed ≡ with_received_bytes old.passed bytes → new.connected ≡ old.connected → HandsOn old new bytes
hands_none_ahead old new bytes none left is still = record {
  more = bytes;
  passed = is;
  order = ap (λ (x : List ℕ). x ++ bytes) none ∙ (sym (append-nil bytes) ∙ ap (λ (x : List ℕ). bytes ++ x) (sym left));
  connected = still;
}

-- What passes at a request

four_parts : (ps os ss rs ls : List Passed) → ((((ps ++ os) ++ ss) ++ rs) ++ ls) ≡ ps ++ ((os ++ (ss ++ rs)) ++ ls)
four_parts ps os ss rs ls =
    ap (λ (x : List Passed). x ++ ls) (append_assoc (ps ++ os) ss rs ∙ append_assoc ps os (ss ++ rs))
    ∙ append_assoc ps (os ++ (ss ++ rs)) ls

three_parts : (ps os ss rs : List Passed) → ((ps ++ os) ++ ss) ++ rs ≡ ps ++ (os ++ (ss ++ rs))
three_parts ps os ss rs = append_assoc (ps ++ os) ss rs ∙ append_assoc ps os (ss ++ rs)

-- what was received behind a request that was sent over a connection in which nothing stood
pub behind_request : (a b c : Talk) (anew : Bool) (request got : List ℕ) → b ≡ with_sent (readied anew a) request → (h : HandsOn b c got) → h.more ≡ got ++ c.ahead
behind_request a b c anew request got p h = sym (ap (λ (x : List ℕ). x ++ h.more) (ap (λ (t : Talk). t.ahead) p)) ∙ h.order

pub passed_behind : (a b c : Talk) (anew : Bool) (request got : List ℕ) → b ≡ with_sent (readied anew a) request → (h : HandsOn b c got)
    → c.passed ≡ ((a.passed ++ opening anew) ++ sent_bytes request) ++ received_bytes h.more
passed_behind a b c anew request got p h = h.passed ∙ ap (λ (x : List Passed). x ++ received_bytes h.more) (ap (λ (t : Talk). t.passed) p)

-- the whole request, and this answer behind it
pub answered_by : (a b c : Talk) (anew : Bool) (request answer : List ℕ) → b ≡ with_sent (readied anew a) request → HandsOn b c answer → IsAnsweredBy a c request answer
answered_by a b c anew request answer p h = record {
  anew = anew;
  passed = passed_behind a b c anew request answer p h
      ∙ (three_parts a.passed (opening anew) (sent_bytes request) (received_bytes h.more)
      ∙ ap (λ (x : List ℕ). a.passed ++ exchange anew request x) (behind_request a b c anew request answer p h));
  connected = h.connected ∙ ap (λ (t : Talk). t.connected) p;
}

-- A connection made ready

pub cut_off_unsent : (old new : Talk) (last : List Passed) → new.passed ≡ old.passed ++ last → IsFailure last → (request : List ℕ) → IsCutOff old new request
cut_off_unsent old new last is failed request = record {
  anew = false;
  front = [];
  last = last;
  is_front = (request, refl);
  passed = is;
  failed = failed;
}

pub readies_from_connects : (old new : Talk) (r : Result Unit ChannelFault) → Connects old new r → Readies old new r
readies_from_connects old new (Ok u) e = (true, e)
readies_from_connects old new (Err f) e = cut_off_unsent old new (passed.Failed ∷ []) (ap (λ (t : Talk). t.passed) e) (inl refl)

pub readies_by_failure : (old new : Talk) → new ≡ with_failure old → (request : List ℕ) → IsCutOff old new request
readies_by_failure old new e = cut_off_unsent old new (passed.Failed ∷ []) (ap (λ (t : Talk). t.passed) e) (inl refl)

pub readies_by_stray : (old new : Talk) (s : Incoming) → s ≡ incoming.Bytes → Looks old new (Ok s) → (request : List ℕ) → IsCutOff old new request
readies_by_stray old new incoming.Nothing is e = absurd (let no = is in cc)
readies_by_stray old new incoming.Bytes is e = cut_off_unsent old new (passed.Strayed ∷ []) (ap (λ (t : Talk). t.passed) e) (inr refl)
readies_by_stray old new incoming.End is e = absurd (let no = is in cc)

pub readies_behind_end : (old middle new : Talk) (s : Incoming) (r : Result Unit ChannelFault) → s ≡ incoming.End → Looks old middle (Ok s) → Connects middle new r → Readies old new r
readies_behind_end old middle new incoming.Nothing r is e c = absurd (let no = is in cc)
readies_behind_end old middle new incoming.Bytes r is e c = absurd (let no = is in cc)
readies_behind_end old middle new incoming.End r is e c = readies_from_connects old new r (subst (λ (t : Talk). Connects t new r) e c)

pub stays_open : (old new : Talk) → new ≡ old → old.ahead ≡ [] → old.connected ≡ true → (anew : Bool) × (new ≡ readied anew old)
stays_open old new e none is = (
  false,
  e ∙ (ap (λ (b : Bool). record old { connected = b }) is
      ∙ (ap (λ (x : List ℕ). record old { ahead = x; connected = true }) none
      ∙ ap (λ (x : List Passed). record old { passed = x; ahead = []; connected = true }) (sym (append-nil old.passed)))),
)

pub readies_still : (old new : Talk) (s : Incoming) → s ≡ incoming.Nothing → Looks old new (Ok s) → old.connected ≡ true → (anew : Bool) × (new ≡ readied anew old)
readies_still old new incoming.Nothing is e was = stays_open old new e.0 e.1 was
readies_still old new incoming.Bytes is e was = absurd (let no = is in cc)
readies_still old new incoming.End is e was = absurd (let no = is in cc)

-- A request sent

pub sends_more : (a b c : Talk) (bs : List ℕ) (i n : ℕ) → b ≡ with_sent a (take i bs) → c ≡ with_sent b (take n (take (length bs - i) (drop i bs)))
    → c ≡ with_sent a (take (i + n) bs)
sends_more a b c bs i n p q =
    q ∙ (ap (λ (t : Talk). with_sent t (take n (take (length bs - i) (drop i bs)))) p
    ∙ (sent_more a (take i bs) (take n (take (length bs - i) (drop i bs)))
    ∙ (ap (λ (x : List ℕ). with_sent a (take i bs ++ take n x)) (rest_of bs i) ∙ ap (with_sent a) (sym (take_plus bs i n)))))

pub sends_all : (a b : Talk) (bs : List ℕ) (i : ℕ) → length bs ≤ i → b ≡ with_sent a (take i bs) → b ≡ with_sent a bs
sends_all a b bs i le p = p ∙ ap (with_sent a) (take_all i bs le)

pub sends_cut : (a b c : Talk) (bs : List ℕ) (i : ℕ) → b ≡ with_sent a (take i bs) → c ≡ with_failure b
    → (front : List ℕ) × IsFront front bs × (c ≡ with_failure (with_sent a front))
sends_cut a b c bs i p q = (take i bs, (drop i bs, sym (take-append-drop i bs)), q ∙ ap with_failure p)

-- one part and then another
pub sends_both : (a b c : Talk) (xs ys : List ℕ) (r : Result Unit ChannelFault) → b ≡ with_sent a xs → SendsAll b c ys r → SendsAll a c (xs ++ ys) r
sends_both a b c xs ys (Ok u) p q = q ∙ (ap (λ (t : Talk). with_sent t ys) p ∙ sent_more a xs ys)
sends_both a b c xs ys (Err f) p q =
    let front = q.0 in
    let rest = q.1.0 in
    let is : ys ≡ front ++ rest = q.1.1 in (
      xs ++ front,
      (rest, ap (λ (y : List ℕ). xs ++ y) is ∙ sym (append_assoc xs front rest)),
      q.2 ∙ ap with_failure (ap (λ (t : Talk). with_sent t front) p ∙ sent_more a xs front),
    )

pub sends_first : (a c : Talk) (xs ys : List ℕ) (f : ChannelFault) → SendsAll a c xs (Err f) → SendsAll a c (xs ++ ys) (Err f)
sends_first a c xs ys f q =
    let front = q.0 in
    let rest = q.1.0 in
    let is : xs ≡ front ++ rest = q.1.1 in
    (front, (rest ++ ys, ap (λ (x : List ℕ). x ++ ys) is ∙ append_assoc front rest ys), q.2)

pub requests_from : (a b c : Talk) (request : List ℕ) (r : Result Unit ChannelFault) → (anew : Bool) × (b ≡ readied anew a) → SendsAll b c request r → Requests a c request r
requests_from a b c request (Ok u) (anew, p) q = (anew, q ∙ ap (λ (t : Talk). with_sent t request) p)
requests_from a b c request (Err f) (anew, p) q =
    let whole : c ≡ with_failure (with_sent (readied anew a) q.0) = q.2 ∙ ap (λ (t : Talk). with_failure (with_sent t q.0)) p in
    record {
      anew = anew;
      front = q.0;
      last = passed.Failed ∷ [];
      is_front = q.1;
      passed = ap (λ (t : Talk). t.passed) whole
          ∙ (ap (λ (x : List Passed). x ++ passed.Failed ∷ []) (sym (append-nil (a.passed ++ opening anew ++ sent_bytes q.0))) ∙ four_parts a.passed (opening anew) (sent_bytes q.0) [] (passed.Failed ∷ []));
      failed = inl refl;
    }

-- the lines of ranges
ranges_append : (xs ys : List Frames) → ranges_text (xs ++ ys) ≡ ranges_text xs ++ ranges_text ys
ranges_append [] ys = refl
ranges_append (x ∷ xs) ys =
    ap (λ (t : List ℕ). range_line x ++ t) (ranges_append xs ys) ∙ sym (append_assoc (range_line x) (ranges_text xs) (ranges_text ys))

pub ranges_more : (ranges : List Frames) (i : ℕ) (d : Frames) → i < length ranges
    → ranges_text (take (i + 1) ranges) ≡ ranges_text (take i ranges) ++ range_line (get_or ranges i d)
ranges_more ranges i d lt =
    ap ranges_text (take_more ranges i d lt)
    ∙ (ranges_append (take i ranges) (get_or ranges i d ∷ []) ∙ ap (λ (x : List ℕ). ranges_text (take i ranges) ++ x) (append-nil (range_line (get_or ranges i d))))

-- the lines of ranges behind a text, one more
pub ranges_behind : (text : List ℕ) (ranges : List Frames) (i : ℕ) (d : Frames) (line : List ℕ) → i < length ranges → line ≡ range_line (get_or ranges i d)
    → (text ++ ranges_text (take i ranges)) ++ line ≡ text ++ ranges_text (take (i + 1) ranges)
ranges_behind text ranges i d line lt is =
    append_assoc text (ranges_text (take i ranges)) line
    ∙ (ap (λ (x : List ℕ). text ++ (ranges_text (take i ranges) ++ x)) is ∙ ap (λ (x : List ℕ). text ++ x) (sym (ranges_more ranges i d lt)))

-- and all of them
pub ranges_left : (text : List ℕ) (ranges : List Frames) (i : ℕ) → (text ++ ranges_text (take i ranges)) ++ ranges_text (drop i ranges) ≡ text ++ ranges_text ranges
ranges_left text ranges i =
    append_assoc text (ranges_text (take i ranges)) (ranges_text (drop i ranges))
    ∙ ap (λ (x : List ℕ). text ++ x) (sym (ranges_append (take i ranges) (drop i ranges)) ∙ ap ranges_text (take-append-drop i ranges))

-- A text sent a block at a time

pub begins : (a : Talk) (text : List ℕ) → IsBegun a a text text
begins a text = ([], sent_nothing a, refl)

pub adds_fitting : (a b : Talk) (block now line : List ℕ) → b ≡ a → now ≡ block ++ line → IsBegun a b now (block ++ line)
adds_fitting a b block now line same is = ([], same ∙ sent_nothing a, is)

pub adds_behind : (a b : Talk) (block now line : List ℕ) → b ≡ with_sent a block → now ≡ line → IsBegun a b now (block ++ line)
adds_behind a b block now line e is = (block, e, ap (λ (x : List ℕ). block ++ x) is)

pub begun_more : (a b c : Talk) (block now text line : List ℕ) → IsBegun a b block text → IsBegun b c now (block ++ line) → IsBegun a c now (text ++ line)
begun_more a b c block now text line p q = (
  p.0 ++ q.0,
  q.1 ∙ (ap (λ (t : Talk). with_sent t q.0) p.1 ∙ sent_more a p.0 q.0),
  append_assoc p.0 q.0 now ∙ (ap (λ (x : List ℕ). p.0 ++ x) q.2 ∙ (sym (append_assoc p.0 block line) ∙ ap (λ (x : List ℕ). x ++ line) p.2)),
)

pub begun_sent : (a b c : Talk) (block text : List ℕ) (r : Result Unit ChannelFault) → IsBegun a b block text → SendsAll b c block r → SendsAll a c text r
begun_sent a b c block text r p q = subst (λ (x : List ℕ). SendsAll a c x r) p.2 (sends_both a b c p.0 block r p.1 q)

-- An answer received

pub one_taken : (xs : List ℕ) (n : ℕ) → length xs ≡ 1 → n ≤ 1 → 0 < n → take n xs ≡ get_or xs 0 0 ∷ []
one_taken [] n long le lt = absurd (omega arith)
one_taken (x ∷ []) n long le lt = let is : n ≡ 1 = omega arith in ap (λ (k : ℕ). take k (x ∷ [])) is
one_taken (x ∷ y ∷ xs) n long le lt = absurd (omega arith)

-- no byte so far is an LF
pub record HasNone (got : List ℕ) : Type 0 where
  pub none : (k : ℕ) → k < length got → get_or got k 0 ≢ 10

pub none_yet : HasNone []
none_yet = record { none = λ k lt. absurd (omega arith) }

pub ends_none : (got : List ℕ) → HasNone got → EndsAtLf got
ends_none got h = λ k lt. h.none k (omega arith)

at_end : (got : List ℕ) (b k : ℕ) → k + 1 < length (got ++ b ∷ []) → k < length got
at_end got b k lt = omega (arith, length-append got (b ∷ []))

pub ends_one : (got : List ℕ) (b : ℕ) → HasNone got → EndsAtLf (got ++ b ∷ [])
ends_one got b h = λ k lt e.
    let within = at_end got b k lt in h.none k within (sym (get_or_append_left got (b ∷ []) 0 k within) ∙ e)

pub none_more : (got : List ℕ) (b : ℕ) → HasNone got → b ≢ 10 → HasNone (got ++ b ∷ [])
none_more got b h other = record { none = λ k lt e. split k lt e (cases_lt k (length got)) }
  where
    split : (k : ℕ) → k < length (got ++ b ∷ []) → get_or (got ++ b ∷ []) k 0 ≡ 10 → (k < length got) ⊎ (length got ≤ k) → ⊥
    split k lt e (inl within) = h.none k within (sym (get_or_append_left got (b ∷ []) 0 k within) ∙ e)
    split k lt e (inr le) =
        let here : k ≡ length got + 0 = omega (arith, length-append got (b ∷ [])) in
        other (sym (ap (λ (j : ℕ). get_or (got ++ b ∷ []) j 0) here ∙ get_or-append-add got (b ∷ []) 0 0) ∙ e)

pub received_one : (a b c : Talk) (got xs : List ℕ) (n : ℕ) → HandsOn a b got → HandsOn b c (take n xs) → length xs ≡ 1 → n ≤ 1 → 0 < n → HandsOn a c (got ++ get_or xs 0 0 ∷ [])
received_one a b c got xs n p q long le lt = subst (λ (x : List ℕ). HandsOn a c (got ++ x)) (one_taken xs n long le lt) (hands_more a b c got (take n xs) p q)

pub received_next : (a b c : Talk) (got now xs : List ℕ) (n : ℕ) → HandsOn a b got → HandsOn b c (take n xs) → now ≡ got ++ get_or xs 0 0 ∷ [] → length xs ≡ 1 → n ≤ 1 → 0 < n → HandsOn a c now
received_next a b c got now xs n p q is long le lt = subst (λ (x : List ℕ). HandsOn a c x) (sym is) (received_one a b c got xs n p q long le lt)

pub received_end : (a b c : Talk) (got xs : List ℕ) (n : ℕ) → HandsOn a b got → HandsOn b c (take n xs) → n ≡ 0 → HandsOn a c got
received_end a b c got xs n p q is =
    subst (λ (x : List ℕ). HandsOn a c x) (ap (λ (k : ℕ). got ++ take k xs) is ∙ append-nil got) (hands_more a b c got (take n xs) p q)

pub received_cut : (a b c : Talk) (got : List ℕ) → HandsOn a b got → c ≡ with_failure b → FailsBehind a c got
received_cut a b c got p e = (b, p, e)

pub hears_said : (old new : Talk) (got done failed : List ℕ) (what : AnswerState) → HandsOn old new got → IsAnswer got done → IsSaid got done failed what
    → Hears old new done failed what
hears_said old new got done failed heard.Done h answer is = subst (λ (x : List ℕ). HandsOn old new x) is h
hears_said old new got done failed heard.Failed h answer is = subst (λ (x : List ℕ). HandsOn old new x) is h
hears_said old new got done failed heard.Broken h answer is = (got, answer, inr (h, is.0, is.1))

pub hears_cut : (old new : Talk) (got done failed : List ℕ) → FailsBehind old new got → IsAnswer got done → Hears old new done failed heard.Broken
hears_cut old new got done failed h answer = (got, answer, inl h)

-- a connection closed after what is no answer
pub settles_closed : (a b c : Talk) (done failed : List ℕ) → Hears a b done failed heard.Broken → c ≡ without_connection b → Settles a c done failed (Err fault.Broken)
settles_closed a b c done failed h e = (b, h, e)

-- A request and its answer

nothing_heard : (done : List ℕ) → IsAnswer [] done
nothing_heard done = record { short = omega arith; one = λ k lt. absurd (omega arith) }

pub answers_from : (a b c : Talk) (request done failed : List ℕ) (s : Result Unit ChannelFault) (r : Result Unit SinkFault) → Requests a b request s
    → Concludes b c done failed s r → Answers a c request done failed r
answers_from a b c request done failed (Ok u) (Ok v) p q = answered_by a b c p.0 request done p.1 q
answers_from a b c request done failed (Ok u) (Err fault.Refused) p q = answered_by a b c p.0 request failed p.1 q
answers_from a b c request done failed (Ok u) (Err fault.Broken) p (last, (got, answer, inl (middle, h, is)), e) = record {
  anew = p.0;
  front = request;
  more = h.more;
  got = got;
  last = passed.Failed ∷ [];
  is_front = ([], sym (append-nil request));
  is_first = (middle.ahead, behind_request a b middle p.0 request got p.1 h);
  passed = ap (λ (t : Talk). t.passed) (e ∙ ap without_connection is)
      ∙ (ap (λ (x : List Passed). x ++ passed.Failed ∷ []) (passed_behind a b middle p.0 request got p.1 h)
      ∙ four_parts a.passed (opening p.0) (sent_bytes request) (received_bytes h.more) (passed.Failed ∷ []));
  answer = answer;
  unconnected = ap (λ (t : Talk). t.connected) e;
  failure = inl (inl refl);
}
answers_from a b c request done failed (Ok u) (Err fault.Broken) p (last, (got, answer, inr (h, done_not, failed_not)), e) = record {
  anew = p.0;
  front = request;
  more = h.more;
  got = got;
  last = [];
  is_front = ([], sym (append-nil request));
  is_first = (last.ahead, behind_request a b last p.0 request got p.1 h);
  passed = ap (λ (t : Talk). t.passed) e
      ∙ (passed_behind a b last p.0 request got p.1 h
      ∙ (sym (append-nil (((a.passed ++ opening p.0) ++ sent_bytes request) ++ received_bytes h.more))
      ∙ four_parts a.passed (opening p.0) (sent_bytes request) (received_bytes h.more) []));
  answer = answer;
  unconnected = ap (λ (t : Talk). t.connected) e;
  failure = inr (refl, refl, done_not, failed_not);
}
answers_from a b c request done failed (Err f) (Ok v) p q = absurd q
answers_from a b c request done failed (Err f) (Err fault.Refused) p q = absurd (let no = q.0 in cc)
answers_from a b c request done failed (Err f) (Err fault.Broken) p q =
    let is = q.1 in
    record {
      anew = p.anew;
      front = p.front;
      more = [];
      got = [];
      last = p.last;
      is_front = p.is_front;
      is_first = ([], refl);
      passed = ap (λ (t : Talk). t.passed) is ∙ p.passed;
      answer = nothing_heard done;
      unconnected = ap (λ (t : Talk). t.connected) is;
      failure = inl p.failed;
    }
