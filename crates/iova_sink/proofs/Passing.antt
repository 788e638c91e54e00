-- What passes over a channel, bytes behind bytes.
use Rattle.std.proofs.Common.{ℕ, ◌≡◌, List, [], ◌∷◌, ◌++◌, take, length, refl, sym, ap, ◌∙◌, append-nil}
use Rattle.std.proofs.Math.Seq.{take-append_seam}
use Rattle.iova_sink.specs.declared.history.Passed.{Passed}
use Rattle.iova_sink.specs.declared.history.Passed.TheVariants as passed
use Rattle.iova_sink.specs.Passing.{sent_bytes, received_bytes, with_sent_bytes, with_received_bytes, sent_of, received_of}

-- all bytes that were sent
sent-append : (ps qs : List Passed) → sent_of (ps ++ qs) ≡ sent_of ps ++ sent_of qs
sent-append [] qs = refl
sent-append (passed.Connected ∷ ps) qs = sent-append ps qs
sent-append (passed.Sent b ∷ ps) qs = ap (λ x. b ∷ x) (sent-append ps qs)
sent-append (passed.Received b ∷ ps) qs = sent-append ps qs
sent-append (passed.Strayed ∷ ps) qs = sent-append ps qs
sent-append (passed.Failed ∷ ps) qs = sent-append ps qs

sent-sent : (bs : List ℕ) → sent_of (sent_bytes bs) ≡ bs
sent-sent [] = refl
sent-sent (b ∷ bs) = ap (λ x. b ∷ x) (sent-sent bs)

sent-received : (bs : List ℕ) → sent_of (received_bytes bs) ≡ []
sent-received [] = refl
sent-received (b ∷ bs) = sent-received bs

pub sent_more : (ps : List Passed) (bs : List ℕ) → sent_of (with_sent_bytes ps bs) ≡ sent_of ps ++ bs
sent_more ps bs = sent-append ps (sent_bytes bs) ∙ ap (λ x. sent_of ps ++ x) (sent-sent bs)

pub sent_still : (ps : List Passed) (bs : List ℕ) → sent_of (with_received_bytes ps bs) ≡ sent_of ps
sent_still ps bs = sent-append ps (received_bytes bs) ∙ (ap (λ x. sent_of ps ++ x) (sent-received bs) ∙ append-nil (sent_of ps))

-- what is neither
pub sent_connected : (ps : List Passed) → sent_of (ps ++ passed.Connected ∷ []) ≡ sent_of ps
sent_connected ps = sent-append ps (passed.Connected ∷ []) ∙ append-nil (sent_of ps)

pub sent_strayed : (ps : List Passed) → sent_of (ps ++ passed.Strayed ∷ []) ≡ sent_of ps
sent_strayed ps = sent-append ps (passed.Strayed ∷ []) ∙ append-nil (sent_of ps)

pub sent_failed : (ps : List Passed) → sent_of (ps ++ passed.Failed ∷ []) ≡ sent_of ps
sent_failed ps = sent-append ps (passed.Failed ∷ []) ∙ append-nil (sent_of ps)

-- all bytes that were received
received-append : (ps qs : List Passed) → received_of (ps ++ qs) ≡ received_of ps ++ received_of qs
received-append [] qs = refl
received-append (passed.Connected ∷ ps) qs = received-append ps qs
received-append (passed.Sent b ∷ ps) qs = received-append ps qs
received-append (passed.Received b ∷ ps) qs = ap (λ x. b ∷ x) (received-append ps qs)
received-append (passed.Strayed ∷ ps) qs = received-append ps qs
received-append (passed.Failed ∷ ps) qs = received-append ps qs

received-received : (bs : List ℕ) → received_of (received_bytes bs) ≡ bs
received-received [] = refl
received-received (b ∷ bs) = ap (λ x. b ∷ x) (received-received bs)

received-sent : (bs : List ℕ) → received_of (sent_bytes bs) ≡ []
received-sent [] = refl
received-sent (b ∷ bs) = received-sent bs

pub received_more : (ps : List Passed) (bs : List ℕ) → received_of (with_received_bytes ps bs) ≡ received_of ps ++ bs
received_more ps bs = received-append ps (received_bytes bs) ∙ ap (λ x. received_of ps ++ x) (received-received bs)

pub received_still : (ps : List Passed) (bs : List ℕ) → received_of (with_sent_bytes ps bs) ≡ received_of ps
received_still ps bs = received-append ps (sent_bytes bs) ∙ (ap (λ x. received_of ps ++ x) (received-sent bs) ∙ append-nil (received_of ps))

pub received_connected : (ps : List Passed) → received_of (ps ++ passed.Connected ∷ []) ≡ received_of ps
received_connected ps = received-append ps (passed.Connected ∷ []) ∙ append-nil (received_of ps)

pub received_strayed : (ps : List Passed) → received_of (ps ++ passed.Strayed ∷ []) ≡ received_of ps
received_strayed ps = received-append ps (passed.Strayed ∷ []) ∙ append-nil (received_of ps)

pub received_failed : (ps : List Passed) → received_of (ps ++ passed.Failed ∷ []) ≡ received_of ps
received_failed ps = received-append ps (passed.Failed ∷ []) ∙ append-nil (received_of ps)

-- What a list keeps of it

pub sent_kept : (old new : List ℕ) (ps qs : List Passed) (bs : List ℕ) → old ≡ sent_of ps → new ≡ old ++ bs → qs ≡ with_sent_bytes ps bs → new ≡ sent_of qs
sent_kept old new ps qs bs is more e = more ∙ (ap (λ x. x ++ bs) is ∙ sym (ap sent_of e ∙ sent_more ps bs))

pub received_kept : (old new : List ℕ) (ps qs : List Passed) (bs : List ℕ) → old ≡ received_of ps → new ≡ old ++ bs → qs ≡ with_received_bytes ps bs → new ≡ received_of qs
received_kept old new ps qs bs is more e = more ∙ (ap (λ x. x ++ bs) is ∙ sym (ap received_of e ∙ received_more ps bs))

-- the front of a buffer into which bytes were copied
pub front_of : (n : ℕ) (taken rest now : List ℕ) → length taken ≡ n → taken ≡ now → take n (taken ++ rest) ≡ now
front_of n taken rest now len is = ap (λ (k : ℕ). take k (taken ++ rest)) (sym len) ∙ (take-append_seam taken rest ∙ is)
