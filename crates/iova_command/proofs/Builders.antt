-- A command is made by one argument or subcommand after another.
use Rattle.std.proofs.Common.{ℕ, ◌≡◌, ◌∙◌, ◌<◌, ◌^◌, false, true, List, ◌∷◌, map, Some, ap, ap₂, arith, pos, ℤ, w64, subst}
use Rattle.std.proofs.lemmas.Int.{ints}
use Rattle.std.specs.Ordering.{nat_cmp, ord_max, ord_min}
use Rattle.std.specs.Int.{saturate_unsigned}
use Rattle.std.proofs.lemmas.Grind.{common_steps}
use Rattle.std.specs.Borrow.{Bor}
use Rattle.clap.specs.Simple.{app_of_fields}
use Rattle.clap.specs.declared.builder.command.Command.TheOpen.{Command-F}
use Rattle.clap.specs.declared.builder.command.Command.TheViews.{out-Command}
use Rattle.clap.specs.Words.{NarrowsTo, App, Text, app_of, new_app}
use Rattle.clap.specs.declared.builder.command.Command.{Command}
use Rattle.clap.specs.declared.builder.value_parser.ValueParser.{ValueParser}
use Rattle.clap.specs.declared.builder.value_parser.ValueParser.TheVariants as parser
use Rattle.iova_command.specs.declared.options.OptionRow.{OptionRow}
use Rattle.iova_command.specs.Commands.{IsCommand, are_parsable, taken, with_version}
use Rattle.std.proofs.lemmas.Bool.{and_parts}

-- a new command with a text about it
pub new_command : (name : Text) (old new : Command) (text : Bor Text) → app_of old ≡ new_app name → (out-Command old).has_globals ≡ false
    → out-Command new ≡ record (out-Command old) { about = Some text } → IsCommand (new_app name) new
new_command name old new text app local fields = record {
  app = ap app_of_fields fields ∙ app;
  local = ap (λ (f : Command-F Command). f.has_globals) fields ∙ local;
}

-- and with a version, another usage, and a text after its help
pub told_more : (app : App) (old versioned_one used new : Command) (version usage help : Bor Text) → IsCommand app old
    → out-Command versioned_one ≡ record (out-Command old) { version = Some version }
    → out-Command used ≡ record (out-Command versioned_one) { usage_str = Some usage }
    → out-Command new ≡ record (out-Command used) { after_help = Some help } → IsCommand (with_version app) new
told_more app old versioned_one used new version usage help is first second third = record {
  app = ap app_of_fields third ∙ ap app_of_fields second ∙ ap app_of_fields first ∙ ap with_version is.app;
  local = ap (λ (f : Command-F Command). f.has_globals) third ∙ ap (λ (f : Command-F Command). f.has_globals) second
      ∙ ap (λ (f : Command-F Command). f.has_globals) first ∙ is.local;
}

-- another usage
pub used : (app : App) (old new : Command) (usage : Bor Text) → IsCommand app old → out-Command new ≡ record (out-Command old) { usage_str = Some usage }
    → IsCommand app new
used app old new usage is fields = record {
  app = ap app_of_fields fields ∙ is.app;
  local = ap (λ (f : Command-F Command). f.has_globals) fields ∙ is.local;
}

-- a text after its help
pub helped : (app : App) (old new : Command) (help : Bor Text) → IsCommand app old → out-Command new ≡ record (out-Command old) { after_help = Some help }
    → IsCommand app new
helped app old new help is fields = record {
  app = ap app_of_fields fields ∙ is.app;
  local = ap (λ (f : Command-F Command). f.has_globals) fields ∙ is.local;
}

-- of options that can be parsed, those behind the first
pub parsable_behind : (rows more : List OptionRow) (row : OptionRow) → rows ≡ row ∷ more → are_parsable (map taken rows) ≡ true
    → are_parsable (map taken more) ≡ true
parsable_behind rows more row is fit = (and_parts _ _ (subst (λ (xs : List OptionRow). are_parsable (map taken xs) ≡ true) is fit)).1

-- no number is below the least that a parser of 64 bits has
pub max_zero : (n : ℕ) → ord_max nat_cmp 0 n ≡ n
max_zero n = grind (arith, common_steps)

pub min_most : (n : ℕ) → n < 2 ^ 63 → ord_min nat_cmp 18446744073709551615 n ≡ n
min_most n small = grind (arith, common_steps)

-- bounds below 2^63 are the bounds of the parser
pub narrowed : (low high : ℕ) (q p : ValueParser) (first last : ℤ) → q ≡ parser.Unsigned 0 18446744073709551615 → first ≡ pos low → last ≡ pos high
    → low < 2 ^ 63 → high < 2 ^ 63 → NarrowsTo q (Some first) (Some last) p → p ≡ parser.Unsigned low high
narrowed low high q p first last q_is first_is last_is low_fits high_fits made =
    let same : saturate_unsigned w64 (pos low) ≡ low = grind (arith, ints, common_steps) in
    let from_q = subst (λ (x : ValueParser). NarrowsTo x (Some first) (Some last) p) q_is made in
    let from_first = subst (λ (x : ℤ). NarrowsTo (parser.Unsigned 0 18446744073709551615) (Some x) (Some last) p) first_is from_q in
    let all = subst (λ (x : ℤ). NarrowsTo (parser.Unsigned 0 18446744073709551615) (Some (pos low)) (Some x) p) last_is from_first in
    all ∙ ap₂ parser.Unsigned (max_zero (saturate_unsigned w64 (pos low)) ∙ same) (min_most high high_fits)
