-- Pieces of a stream, one after another.
use Rattle.std.proofs.Common.{ℕ, ◌≡◌, inl, inr, List, [], ◌∷◌, ◌++◌, Option, Some, None, drop, refl, sym, ap, ◌∙◌, subst, arith, append_assoc, append-nil}
use Rattle.std.specs.Prelude.{flat_map}
use Rattle.std.specs.List.{AllByRecursion}
use Rattle.std.proofs.lemmas.List.Concat.{flat_map-append}
use Rattle.iova_text.proofs.LineEnds.{cut_once, odd_more, overlong_more}
use Rattle.iova_proto.specs.declared.request.Request.{Request}
use Rattle.iova_proto.specs.Requests.{request_line, request_text, IsRequest}
use Rattle.iova_proto.specs.Feeds.{IsNoRequest, BeginsBad}
use Rattle.iova_proto.specs.Streams.{FeedsPiece, FeedsPieces, StandsAt, Reads, bytes_of_pieces}
use Rattle.iova_proto.proofs.Spellings.{no_lf_request, same_request}
use Rattle.iova_proto.proofs.Feeding.{unended_no_request, bad_no_request, bad_not_unended, rest_behind}

all_append : (rs ss : List Request) → AllByRecursion IsRequest rs → AllByRecursion IsRequest ss → AllByRecursion IsRequest (rs ++ ss)
all_append [] ss a b = b
all_append (r ∷ rs) ss a b = (a.0, all_append rs ss a.1 b)

-- a bad line stays bad, whatever comes after it
bad_more : (bytes more : List ℕ) → BeginsBad bytes → BeginsBad (bytes ++ more)
bad_more bytes more (inl odd) = inl (odd_more IsNoRequest bytes more odd)
bad_more bytes more (inr long) = inr (overlong_more bytes more long)

-- One piece

piece_reads : (rs : List Request) (kept piece : List ℕ) (state : Option (List ℕ)) → FeedsPiece rs (Some kept) piece state → Reads (kept ++ piece) rs state
piece_reads [] kept piece state (inl more) = record {
  rest = kept ++ piece;
  each = tt;
  whole = refl;
  stands = (let P : Option (List ℕ) → Type 0 = StandsAt (kept ++ piece) in subst P (sym more.1) (refl, more.0));
}
piece_reads [] kept piece state (inr bad) = record {
  rest = kept ++ piece;
  each = tt;
  whole = refl;
  stands = (let P : Option (List ℕ) → Type 0 = StandsAt (kept ++ piece) in subst P (sym bad.1) bad.0);
}
piece_reads (r ∷ rs) kept piece state (used, one, others) =
    let behind = piece_reads rs [] (drop used piece) state others in
    record {
      rest = behind.rest;
      each = (one.spells.good, behind.each);
      whole = rest_behind kept piece (request_text r) used one.spells.text
          ∙ (ap (λ (x : List ℕ). request_text r ++ x) behind.whole ∙ sym (append_assoc (request_text r) (flat_map request_text rs) behind.rest));
      stands = behind.stands;
    }

reads_more : (stream : List ℕ) (rs first : List Request) (state next : Option (List ℕ)) (piece : List ℕ) → Reads stream rs state
    → FeedsPiece first state piece next → Reads (stream ++ piece) (rs ++ first) next
reads_more stream rs [] None next piece so_far e = record {
  rest = so_far.rest ++ piece;
  each = all_append rs [] so_far.each tt;
  whole = ap (λ (x : List ℕ). x ++ piece) so_far.whole ∙ (append_assoc (flat_map request_text rs) so_far.rest piece
      ∙ ap (λ (x : List Request). flat_map request_text x ++ (so_far.rest ++ piece)) (sym (append-nil rs)));
  stands = (let P : Option (List ℕ) → Type 0 = StandsAt (so_far.rest ++ piece) in subst P (sym e) (bad_more so_far.rest piece so_far.stands));
}
reads_more stream rs (r ∷ first) None next piece so_far e = absurd e
reads_more stream rs first (Some kept) next piece so_far e =
    let behind = piece_reads first kept piece next e in
    let front = flat_map request_text rs in
    let back = flat_map request_text first in
    record {
      rest = behind.rest;
      each = all_append rs first so_far.each behind.each;
      whole = ap (λ (x : List ℕ). x ++ piece) so_far.whole
          ∙ (append_assoc front so_far.rest piece
          ∙ (ap (λ (x : List ℕ). front ++ (x ++ piece)) so_far.stands.0
          ∙ (ap (λ (x : List ℕ). front ++ x) behind.whole
          ∙ (sym (append_assoc front back behind.rest) ∙ ap (λ (x : List ℕ). x ++ behind.rest) (sym (flat_map-append request_text rs first))))));
      stands = behind.stands;
    }

-- All pieces

pieces_more : (pieces : List (List ℕ)) (stream : List ℕ) (rs others : List Request) (state next : Option (List ℕ)) → Reads stream rs state
    → FeedsPieces pieces state others next → Reads (stream ++ bytes_of_pieces pieces) (rs ++ others) next
pieces_more [] stream rs others state next so_far (none, same) =
    let P : List ℕ → Type 0 = λ x. Reads x (rs ++ others) next in
    let Q : List Request → Type 0 = λ x. Reads stream x next in
    let R : Option (List ℕ) → Type 0 = λ x. Reads stream rs x in
    subst P (sym (append-nil stream)) (subst Q (sym (ap (λ (x : List Request). rs ++ x) none ∙ append-nil rs)) (subst R (sym same) so_far))
pieces_more (piece ∷ pieces) stream rs all state next so_far (first, mid, others, whole, one, more) =
    let after = pieces_more pieces (stream ++ piece) (rs ++ first) others mid next (reads_more stream rs first state mid piece so_far one) more in
    let P : List ℕ → Type 0 = λ x. Reads x ((rs ++ first) ++ others) next in
    let Q : List Request → Type 0 = λ x. Reads (stream ++ bytes_of_pieces (piece ∷ pieces)) x next in
    subst Q (append_assoc rs first others ∙ ap (λ (x : List Request). rs ++ x) (sym whole)) (subst P (append_assoc stream piece (bytes_of_pieces pieces)) after)

nothing_read : Reads [] [] (Some [])
nothing_read = record { rest = []; each = tt; whole = refl; stands = (refl, record { one = refl; short = omega arith }) }

pub pieces_read : (pieces : List (List ℕ)) (rs : List Request) (state : Option (List ℕ)) → FeedsPieces pieces (Some []) rs state → Reads (bytes_of_pieces pieces) rs state
pieces_read pieces rs state e = pieces_more pieces [] [] rs (Some []) state nothing_read e

-- One reading

stands_once : (rest other : List ℕ) (a b : Option (List ℕ)) → rest ≡ other → StandsAt rest a → StandsAt other b → a ≡ b
stands_once rest other (Some kept) (Some left) e x y = ap (λ (l : List ℕ). Some l) (sym x.0 ∙ (e ∙ y.0))
stands_once rest other (Some kept) None e x y =
    let P : List ℕ → Type 0 = BeginsBad in
    absurd (bad_not_unended kept (subst P (sym e ∙ x.0) y) x.1)
stands_once rest other None (Some kept) e x y =
    let P : List ℕ → Type 0 = BeginsBad in
    absurd (bad_not_unended kept (subst P (e ∙ y.0) x) y.1)
stands_once rest other None None e x y = refl

-- no request's line stands where a stream stands
stands_no_request : (rest : List ℕ) (state : Option (List ℕ)) (r : Request) (more : List ℕ) → StandsAt rest state → IsRequest r → rest ≡ request_text r ++ more → ⊥
stands_no_request rest (Some kept) r more x good e = unended_no_request kept r more x.1 (sym x.0 ∙ e)
stands_no_request rest None r more x good e = bad_no_request rest r more x good e

lines_once : (rs ss : List Request) (rest other : List ℕ) (a b : Option (List ℕ)) → AllByRecursion IsRequest rs → AllByRecursion IsRequest ss
    → flat_map request_text rs ++ rest ≡ flat_map request_text ss ++ other → StandsAt rest a → StandsAt other b → (rs ≡ ss) × (a ≡ b)
lines_once [] [] rest other a b each all e x y = (refl, stands_once rest other a b e x y)
lines_once [] (s ∷ ss) rest other a b each all e x y =
    absurd (stands_no_request rest a s (flat_map request_text ss ++ other) x all.0 (e ∙ append_assoc (request_text s) (flat_map request_text ss) other))
lines_once (r ∷ rs) [] rest other a b each all e x y =
    absurd (stands_no_request other b r (flat_map request_text rs ++ rest) y each.0 (sym e ∙ append_assoc (request_text r) (flat_map request_text rs) rest))
lines_once (r ∷ rs) (s ∷ ss) rest other a b each all e x y =
    let cut = cut_once (request_line r) (flat_map request_text rs ++ rest) (request_line s) (flat_map request_text ss ++ other)
    (no_lf_request r each.0) (no_lf_request s all.0)
    (sym (append_assoc (request_text r) (flat_map request_text rs) rest) ∙ (e ∙ append_assoc (request_text s) (flat_map request_text ss) other)) in
    let first : r ≡ s = same_request r s each.0 all.0 cut.0 in
    let later = lines_once rs ss rest other a b each.1 all.1 cut.1 x y in
    let others : rs ≡ ss = later.0 in
    ((cc), later.1)

pub one_reading : (stream : List ℕ) (rs ss : List Request) (state other : Option (List ℕ)) → Reads stream rs state → Reads stream ss other
    → (rs ≡ ss) × (state ≡ other)
one_reading stream rs ss state other x y = lines_once rs ss x.rest y.rest state other x.each y.each (sym x.whole ∙ y.whole) x.stands y.stands

pub any_cut : (pieces others : List (List ℕ)) (rs ss : List Request) (state other : Option (List ℕ)) → bytes_of_pieces pieces ≡ bytes_of_pieces others
    → FeedsPieces pieces (Some []) rs state → FeedsPieces others (Some []) ss other → (rs ≡ ss) × (state ≡ other)
any_cut pieces others rs ss state other e x y =
    let P : List ℕ → Type 0 = λ s. Reads s rs state in
    one_reading (bytes_of_pieces others) rs ss state other (subst P e (pieces_read pieces rs state x)) (pieces_read others ss other y)
