-- The text of a reply: a line of ASCII that ends by LF, whose words have one space between them.
use Rattle.std.specs.Prelude.{ℕ, ◌+◌, ◌-◌, List, [], ◌∷◌, ◌++◌, codes}
use Rattle.iova_text.specs.Words.{numbers_line, refusal_line}
use Rattle.iova_model.specs.declared.step.Reply.{Reply}
use Rattle.iova_model.specs.declared.step.Reply.TheVariants as reply

-- Replies

-- a reply's line with its LF
abbrev pub reply_text : Reply → List ℕ
reply_text (reply.Reserved r) =
    numbers_line (codes "reserved") (r.lo ∷ (r.lo + r.len - 1) ∷ []) ++ 10 ∷ []
reply_text (reply.Opened serial) = numbers_line (codes "opened") (serial ∷ []) ++ 10 ∷ []
reply_text (reply.Given r) = numbers_line (codes "given") (r.lo ∷ r.len ∷ []) ++ 10 ∷ []
reply_text (reply.Queued r) = numbers_line (codes "queued") (r.lo ∷ r.len ∷ []) ++ 10 ∷ []
reply_text reply.Empty = codes "empty" ++ 10 ∷ []
reply_text (reply.Begun number) = numbers_line (codes "begun") (number ∷ []) ++ 10 ∷ []
reply_text reply.Ended = codes "ended" ++ 10 ∷ []
reply_text (reply.Drained n) = numbers_line (codes "drained") (n ∷ []) ++ 10 ∷ []
reply_text (reply.Marked left) = numbers_line (codes "marked") (left ∷ []) ++ 10 ∷ []
reply_text (reply.Refused r) = refusal_line r ++ 10 ∷ []
