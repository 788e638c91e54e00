-- What the getters of matches read, by the rows.
use Rattle.std.proofs.Common.{ℕ, ◌≡◌, ◌∙◌, Bool, true, false, codes, List, Option, Some, None, Result, refl, sym, ap, subst, rules}
use Rattle.std.specs.Option.{option_and_then, option_map}
use Rattle.std.specs.Prelude.{IfSome, find}
use Rattle.std.specs.Str.{bytes_eq}
use Rattle.std.specs.Borrow.{Bor}
use Rattle.std.specs.Str.Parse.{ParsesUnsigned, ExplainsUnsignedError, HasUnsignedDigitsIfOk}
use Rattle.std.specs.declared.num.ParseIntError.{ParseIntError}
use Rattle.clap.specs.Facts.{Entry}
use Rattle.clap.specs.Walk.{row_of}
use Rattle.clap.specs.Words.{ReadsOne, Text, matched_of, one_text, first_value, rows_of, first_of}
use Rattle.clap.specs.declared.parser.matches.Found.{Found}
use Rattle.clap.specs.declared.parser.matches.ValueSource.{ValueSource}
use Rattle.clap.proofs.WalkLemmas.{find_row, first_value-rows, one_text-rows}
use Rattle.iova_command.specs.Asks.{HasFlag}
use Rattle.iova_command.specs.Numbers.{HasNumberOr, HasOptional, IsPlain, ParsesNumber, ParsesOptional, begins_with_plus}

-- what `parse` gives for a number of 64 bits
abbrev pub Parses : List ℕ → Result ℕ ParseIntError → Type 0
Parses text r = ParsesUnsigned 64 10 text r × ExplainsUnsignedError 10 text r × HasUnsignedDigitsIfOk text r

pub number_read : (f : Found) (id : Text) (r : Option ℕ) (n : ℕ) → r ≡ Some n → (one_text f id ≡ None → r ≡ None)
    → ((text : Text) → one_text f id ≡ Some text → ReadsOne Parses text r) → ParsesNumber (rows_of f) id n
number_read f id r n is none value = go (one_text f id) refl
  where
    go : (o : Option Text) → one_text f id ≡ o → ParsesNumber (rows_of f) id n
    go None e =
        let bad : None ≡ Some n = sym (none e) ∙ is in
        cc
    go (Some text) e = (text, sym (one_text-rows f id) ∙ e, (subst (λ (o : Option ℕ). ReadsOne Parses text o) is (value text e)).0)

pub parses_optional : (f : Found) (id : Text) (r : Option ℕ) → (one_text f id ≡ None → r ≡ None)
    → ((text : Text) → one_text f id ≡ Some text → ReadsOne Parses text r) → ParsesOptional (rows_of f) id r
parses_optional f id (Some n) none value = number_read f id (Some n) n refl none value
parses_optional f id None none value = λ n has.
    let read = value has.0 (one_text-rows f id ∙ has.1) in
    read.1.0 has.2.0

pub optional_read : (f : Found) (id : Text) (r : Option ℕ) → (one_text f id ≡ None → r ≡ None)
    → ((text : Text) → one_text f id ≡ Some text → ReadsOne Parses text r) → IsPlain (rows_of f) id → HasOptional (rows_of f) id r
optional_read f id (Some n) none value plain = (parses_optional f id (Some n) none value, plain)
optional_read f id None none value plain = parses_optional f id None none value

pub text_read : (f : Found) (id : Text) (r : Option (Bor Text)) (s : Bor Text) → option_map (λ b. b.now) r ≡ first_value f id → r ≡ Some s
    → first_of id (rows_of f) ≡ Some s.now
text_read f id r s reads is =
    sym (first_value-rows f id) ∙ sym reads ∙ ap (option_map (λ b. b.now)) is

pub optional_text_read : (f : Found) (id : Text) (r : Option (Bor Text)) → option_map (λ b. b.now) r ≡ first_value f id
    → first_of id (rows_of f) ≡ option_map (λ b. b.now) r
optional_text_read f id r reads = sym (first_value-rows f id) ∙ sym reads

-- what holds of the text that was read, or of none at all, holds of the option's text
pub text_has : (Q : Text → Type 0) (f : Found) (id : Text) (r : Option (Bor Text)) (s : Bor Text) → option_map (λ b. b.now) r ≡ first_value f id → r ≡ Some s
    → Q s.now → (text : Text) → first_of id (rows_of f) ≡ Some text → Q text
text_has Q f id r s reads is holds text has =
    let one : Some s.now ≡ Some text = sym (text_read f id r s reads is) ∙ has in
    subst Q (some_is s.now text one) holds
  where
    some_is : (a b : Text) → Some a ≡ Some b → a ≡ b
    some_is a b h = search rules

pub no_text_has : (Q : Text → Type 0) (f : Found) (id : Text) (r : Option (Bor Text)) → option_map (λ b. b.now) r ≡ first_value f id → r ≡ None
    → (text : Text) → first_of id (rows_of f) ≡ Some text → Q text
no_text_has Q f id r reads is text has =
    let none : first_of id (rows_of f) ≡ None = optional_text_read f id r reads ∙ ap (option_map (λ b. b.now)) is in
    absurd (let bad : None ≡ Some text = sym none ∙ has in cc)

-- a text that has no sign in front, or none at all
pub plain_text : (f : Found) (id : Text) (r : Option (Bor Text)) (s : Bor Text) → option_map (λ b. b.now) r ≡ first_value f id → r ≡ Some s
    → begins_with_plus s.now ≡ false → IsPlain (rows_of f) id
plain_text f id r s reads is plain text has =
    let one : Some s.now ≡ Some text = sym (text_read f id r s reads is) ∙ has in
    let P : Text → Type 0 = λ x. begins_with_plus x ≡ false in
    subst P (some_is s.now text one) plain
  where
    some_is : (a b : Text) → Some a ≡ Some b → a ≡ b
    some_is a b h = search rules

pub no_text : (f : Found) (id : Text) (r : Option (Bor Text)) → option_map (λ b. b.now) r ≡ first_value f id → r ≡ None → IsPlain (rows_of f) id
no_text f id r reads is text has =
    let none : first_of id (rows_of f) ≡ None = optional_text_read f id r reads ∙ ap (option_map (λ b. b.now)) is in
    let bad : None ≡ Some text = sym none ∙ has in
    cc

-- the number of an option that is left out is its default
pub left_out : (f : Found) (id : Text) (default : Option ℕ) (r : Option (Bor Text)) → option_map (λ b. b.now) r ≡ first_value f id → r ≡ None
    → IfSome default (λ n. IfSome default (λ d. HasNumberOr (rows_of f) id d n))
left_out f id None r reads is = tt
left_out f id (Some default) r reads is =
    let none : first_of id (rows_of f) ≡ None = optional_text_read f id r reads ∙ ap (option_map (λ b. b.now)) is in
    (λ e. refl, λ some. absurd (some none))

pub source_read : (f : Found) (id : Text) (r : Option ValueSource) → r ≡ option_and_then (λ a. a.source) (matched_of f id)
    → option_and_then (λ row. row.source) (find (λ row. bytes_eq row.id id) (rows_of f)) ≡ r
source_read f id r reads = ap (option_and_then (λ row. row.source)) (find_row f.entries.items id) ∙ go (find (λ e. bytes_eq e.0.now id) f.entries.items) ∙ sym reads
  where
    go : (o : Option Entry) → option_and_then (λ row. row.source) (option_map row_of o) ≡ option_and_then (λ a. a.source) (option_map (λ e. e.1) o)
    go None = refl
    go (Some e) = refl

pub flag_read : (f : Found) (id : Text) (flag : Bool) → (one_text f id ≡ Some (codes "true") → flag ≡ true) → (one_text f id ≡ Some (codes "false") → flag ≡ false)
    → HasFlag (rows_of f) id flag
flag_read f id flag set unset = (λ e. set (one_text-rows f id ∙ e), λ e. unset (one_text-rows f id ∙ e))
