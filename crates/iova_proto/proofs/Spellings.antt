-- A request has one spelling, and a spelling one request.
use Rattle.std.proofs.Common.{ℕ, ◌≡◌, ◌+◌, ◌*◌, ◌<◌, ◌≤◌, true, List, [], ◌∷◌, ◌++◌, length, length-append, get_or, decimal, refl, sym, ap, ◌∙◌, arith}
use Rattle.std.specs.List.{list_all, AllByRecursion}
use Rattle.iova_range.specs.declared.limits.TheConstants.{MAX_LINE}
use Rattle.iova_text.specs.Lines.{is_not_lf, HasNoLf}
use Rattle.iova_text.specs.Reading.{is_not_space}
use Rattle.iova_text.specs.Words.{spaced_words, kind_text}
use Rattle.iova_text.proofs.Cuts.{list_all-append, run_once, stops-spaced_words}
use Rattle.iova_text.proofs.WordTexts.{no_lf_decimal, no_lf_kind, no_lf_words, IsShort, short_decimal, short_kind, short_words, same_front, same_kind}
use Rattle.iova_proto.specs.declared.request.Request.{Request}
use Rattle.iova_proto.specs.declared.request.Request.TheVariants as request
use Rattle.iova_proto.specs.Requests.{request_verb, request_arguments, request_line, IsRequest}

-- No request's line has an LF.

no_lf_verb : (r : Request) → HasNoLf (request_verb r)
no_lf_verb (request.Hello domain sac) = refl
no_lf_verb (request.Alloc frames limit) = refl
no_lf_verb (request.Free lo) = refl
no_lf_verb request.List = refl
no_lf_verb request.Flush = refl
no_lf_verb request.Stat = refl
no_lf_verb request.Bye = refl

no_lf_arguments : (r : Request) → IsRequest r → AllByRecursion HasNoLf (request_arguments r)
no_lf_arguments (request.Hello domain sac) good = (refl, (no_lf_decimal domain good, (no_lf_kind sac, tt)))
no_lf_arguments (request.Alloc frames limit) good = (no_lf_decimal frames good.0, (no_lf_decimal limit good.1, tt))
no_lf_arguments (request.Free lo) good = (no_lf_decimal lo good, tt)
no_lf_arguments request.List good = tt
no_lf_arguments request.Flush good = tt
no_lf_arguments request.Stat good = tt
no_lf_arguments request.Bye good = tt

pub no_lf_request : (r : Request) → IsRequest r → HasNoLf (request_line r)
no_lf_request r good =
    list_all-append is_not_lf (request_verb r) (spaced_words (request_arguments r)) (no_lf_verb r) (no_lf_words (request_arguments r) (no_lf_arguments r good))

-- It is shorter than the longest line.

short_verb : (r : Request) → length (request_verb r) ≤ 5
short_verb (request.Hello domain sac) = omega arith
short_verb (request.Alloc frames limit) = omega arith
short_verb (request.Free lo) = omega arith
short_verb request.List = omega arith
short_verb request.Flush = omega arith
short_verb request.Stat = omega arith
short_verb request.Bye = omega arith

short_arguments : (r : Request) → IsRequest r → AllByRecursion IsShort (request_arguments r) × (length (request_arguments r) ≤ 3)
short_arguments (request.Hello domain sac) good = ((omega arith, (short_decimal domain good, (short_kind sac, tt))), omega arith)
short_arguments (request.Alloc frames limit) good = ((short_decimal frames good.0, (short_decimal limit good.1, tt)), omega arith)
short_arguments (request.Free lo) good = ((short_decimal lo good, tt), omega arith)
short_arguments request.List good = (tt, omega arith)
short_arguments request.Flush good = (tt, omega arith)
short_arguments request.Stat good = (tt, omega arith)
short_arguments request.Bye good = (tt, omega arith)

pub short_request : (r : Request) → IsRequest r → length (request_line r) < MAX_LINE
short_request r good =
    let a = short_arguments r good in
    omega (arith, length-append (request_verb r) (spaced_words (request_arguments r)), short_verb r, short_words (request_arguments r) a.0, a.1)

-- It is one request's.

no_space_verb : (r : Request) → list_all is_not_space (request_verb r) ≡ true
no_space_verb (request.Hello domain sac) = refl
no_space_verb (request.Alloc frames limit) = refl
no_space_verb (request.Free lo) = refl
no_space_verb request.List = refl
no_space_verb request.Flush = refl
no_space_verb request.Stat = refl
no_space_verb request.Bye = refl

-- a number that tells the first words apart
abbrev key : List ℕ → ℕ
key word = 2 * get_or word 0 0 + get_or word 1 0

abbrev key_of : Request → ℕ
key_of (request.Hello domain sac) = 309
key_of (request.Alloc frames limit) = 302
key_of (request.Free lo) = 318
key_of request.List = 321
key_of request.Flush = 312
key_of request.Stat = 346
key_of request.Bye = 317

key-is : (r : Request) → key (request_verb r) ≡ key_of r
key-is (request.Hello domain sac) = refl
key-is (request.Alloc frames limit) = refl
key-is (request.Free lo) = refl
key-is request.List = refl
key-is request.Flush = refl
key-is request.Stat = refl
key-is request.Bye = refl

same_arguments : (r s : Request) → IsRequest r → IsRequest s → key_of r ≡ key_of s
    → spaced_words (request_arguments r) ≡ spaced_words (request_arguments s) → r ≡ s
same_arguments (request.Hello domain sac) (request.Hello other kind) good fits k e =
    let both : 32 ∷ 105 ∷ 111 ∷ 118 ∷ 97 ∷ 49 ∷ spaced_words (decimal domain ∷ kind_text sac ∷ [])
    ≡ 32 ∷ 105 ∷ 111 ∷ 118 ∷ 97 ∷ 49 ∷ spaced_words (decimal other ∷ kind_text kind ∷ []) = e in
    let tails : spaced_words (decimal domain ∷ kind_text sac ∷ []) ≡ spaced_words (decimal other ∷ kind_text kind ∷ []) = cc in
    let r = same_front domain other (kind_text sac ∷ []) (kind_text kind ∷ []) good fits tails in
    let first : domain ≡ other = r.0 in
    let kinds : 32 ∷ (kind_text sac ++ []) ≡ 32 ∷ (kind_text kind ++ []) = r.1 in
    let last : sac ≡ kind = same_kind sac kind (cc) in
    cc
same_arguments (request.Alloc frames limit) (request.Alloc other most) good fits k e =
    let r = same_front frames other (decimal limit ∷ []) (decimal most ∷ []) good.0 fits.0 e in
    let q = same_front limit most [] [] good.1 fits.1 r.1 in
    let first : frames ≡ other = r.0 in
    let last : limit ≡ most = q.0 in
    cc
same_arguments (request.Free lo) (request.Free other) good fits k e = ap request.Free (same_front lo other [] [] good fits e).0
same_arguments request.List request.List good fits k e = refl
same_arguments request.Flush request.Flush good fits k e = refl
same_arguments request.Stat request.Stat good fits k e = refl
same_arguments request.Bye request.Bye good fits k e = refl
same_arguments r s good fits k e = absurd (omega (arith, k))

pub same_request : (r s : Request) → IsRequest r → IsRequest s → request_line r ≡ request_line s → r ≡ s
same_request r s good fits e =
    let cut = run_once is_not_space (request_verb r) (spaced_words (request_arguments r)) (request_verb s) (spaced_words (request_arguments s))
    (no_space_verb r) (stops-spaced_words (request_arguments r)) (no_space_verb s) (stops-spaced_words (request_arguments s)) e in
    same_arguments r s good fits (sym (key-is r) ∙ (ap key cut.0 ∙ key-is s)) cut.1
