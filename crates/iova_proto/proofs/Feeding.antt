-- What a piece gives is one thing.
use Rattle.std.proofs.Common.{ℕ, ◌≡◌, ◌+◌, ◌-◌, ◌≤◌, inl, inr, List, [], ◌∷◌, ◌++◌, Option, Some, length, length-append, length-take, take, drop, refl, sym, ap, ◌∙◌, arith, append_assoc, take-append-drop}
use Rattle.std.proofs.Math.Seq.{take-append_seam}
use Rattle.iova_text.specs.Lines.{HasNoLf, whole_line, IsUnended}
use Rattle.iova_text.proofs.LineEnds.{cut_once, no_line, lf_within}
use Rattle.iova_proto.specs.declared.request.Request.{Request}
use Rattle.iova_proto.specs.declared.fed.Fed.{Fed}
use Rattle.iova_proto.specs.declared.fed.Fed.TheVariants as fed
use Rattle.iova_proto.specs.Requests.{request_line, request_text, IsRequest, Spells}
use Rattle.iova_proto.specs.Feeds.{BeginsBad, Feeds}
use Rattle.iova_proto.proofs.Spellings.{no_lf_request, short_request, same_request}

-- A whole line, a line that has not ended and a bad one are three things.

pub unended_no_request : (bytes : List ℕ) (r : Request) (more : List ℕ) → IsUnended bytes → bytes ≡ request_text r ++ more → ⊥
unended_no_request bytes r more is whole = no_line bytes (request_line r) more is.one whole

pub bad_no_request : (bytes : List ℕ) (r : Request) (more : List ℕ) → BeginsBad bytes → IsRequest r → bytes ≡ request_text r ++ more → ⊥
bad_no_request bytes r more (inl odd) good whole =
    let same = cut_once odd.line odd.more (request_line r) more odd.one (no_lf_request r good) (sym odd.whole ∙ whole) in
    odd.odd r (record { good = good; text = ap whole_line same.0 })
bad_no_request bytes r more (inr long) good whole = lf_within bytes (request_line r) more (short_request r good) whole long.one

pub bad_not_unended : (bytes : List ℕ) → BeginsBad bytes → IsUnended bytes → ⊥
bad_not_unended bytes (inl odd) is = no_line bytes odd.line odd.more is.one odd.whole
bad_not_unended bytes (inr long) is = omega (arith, long.long, is.short)

-- the line of a spelling
pub line_of : (line : List ℕ) (r : Request) → HasNoLf line → Spells (whole_line line) r → line ≡ request_line r
line_of line r one spells = (cut_once line [] (request_line r) [] one (no_lf_request r spells.good) (ap (λ (x : List ℕ). x ++ []) spells.text)).0

-- the whole of what was kept and the piece, where some of it is this line
pub rest_behind : (kept piece line : List ℕ) (used : ℕ) → kept ++ take used piece ≡ line → kept ++ piece ≡ line ++ drop used piece
rest_behind kept piece line used e =
    ap (λ (x : List ℕ). kept ++ x) (sym (take-append-drop used piece))
    ∙ (sym (append_assoc kept (take used piece) (drop used piece)) ∙ ap (λ (x : List ℕ). x ++ drop used piece) e)

used_once : (kept piece line other : List ℕ) (n m : ℕ) → n ≤ length piece → m ≤ length piece → kept ++ take n piece ≡ line → kept ++ take m piece ≡ other
    → line ≡ other → n ≡ m
used_once kept piece line other n m within inside e f same =
    omega (
      arith,
      ap length (e ∙ (same ∙ sym f)),
      length-append kept (take n piece),
      length-append kept (take m piece),
      length-take n piece,
      length-take m piece,
      within,
      inside,
    )

pub Feeds-once : (kept piece : List ℕ) (f g : Fed) (a b : Option (List ℕ)) → Feeds kept piece f a → Feeds kept piece g b → (f ≡ g) × (a ≡ b)
Feeds-once kept piece (fed.Request r n) (fed.Request s m) a b x y =
    let cut = cut_once (request_line r) (drop n piece) (request_line s) (drop m piece) (no_lf_request r x.spells.good) (no_lf_request s y.spells.good)
    (sym (rest_behind kept piece (request_text r) n x.spells.text) ∙ rest_behind kept piece (request_text s) m y.spells.text) in
    let request : r ≡ s = same_request r s x.spells.good y.spells.good cut.0 in
    let used : n ≡ m = used_once kept piece (request_text r) (request_text s) n m x.within y.within x.spells.text y.spells.text (ap whole_line cut.0) in
    ((cc), x.next_is ∙ sym y.next_is)
Feeds-once kept piece (fed.Request r n) fed.More a b x y =
    absurd (unended_no_request (kept ++ piece) r (drop n piece) y.0 (rest_behind kept piece (request_text r) n x.spells.text))
Feeds-once kept piece (fed.Request r n) fed.Bad a b x y =
    absurd (bad_no_request (kept ++ piece) r (drop n piece) y.0 x.spells.good (rest_behind kept piece (request_text r) n x.spells.text))
Feeds-once kept piece fed.More (fed.Request r n) a b x y =
    absurd (unended_no_request (kept ++ piece) r (drop n piece) x.0 (rest_behind kept piece (request_text r) n y.spells.text))
Feeds-once kept piece fed.More fed.More a b x y = (refl, x.1 ∙ sym y.1)
Feeds-once kept piece fed.More fed.Bad a b x y = absurd (bad_not_unended (kept ++ piece) y.0 x.0)
Feeds-once kept piece fed.Bad (fed.Request r n) a b x y =
    absurd (bad_no_request (kept ++ piece) r (drop n piece) x.0 y.spells.good (rest_behind kept piece (request_text r) n y.spells.text))
Feeds-once kept piece fed.Bad fed.More a b x y = absurd (bad_not_unended (kept ++ piece) x.0 y.0)
Feeds-once kept piece fed.Bad fed.Bad a b x y = (refl, x.1 ∙ sym y.1)

-- a piece that begins with a request's line gives that request, where nothing is kept
pub front_feeds : (piece : List ℕ) (r : Request) (behind : List ℕ) → IsRequest r → piece ≡ request_text r ++ behind
    → Feeds [] piece (fed.Request r (length piece - length behind)) (Some [])
front_feeds piece r behind good e =
    let used : length piece - length behind ≡ length (request_text r) = omega (arith, ap length e, length-append (request_text r) behind) in
    let some : 1 ≤ length (request_text r) = omega (arith, length-append (request_line r) (10 ∷ [])) in
    record {
      some = omega (arith, used, some);
      within = omega arith;
      spells = record {
        good = good;
        text = ap (λ (n : ℕ). take n piece) used ∙ (ap (take (length (request_text r))) e ∙ take-append_seam (request_text r) behind);
      };
      next_is = refl;
    }
