-- The argument that is built, and the values that are read.
use Rattle.std.proofs.Common.{◌≡◌, List, Option, Some, None, true, ap, ◌∙◌}
use Rattle.std.specs.Prelude.{IsSomeAnd}
use Rattle.std.specs.Prelude.{option_map}
use Rattle.clap.specs.Words.{Rule, Text, all_of, matched_of, new_rule, raw_values, rows_of, rule_of}
use Rattle.clap.specs.declared.parser.matches.Found.{Found}
use Rattle.clap.proofs.WalkLemmas.{raw_values-rows}
use Rattle.clap.specs.declared.builder.arg.Arg.{Arg}
use Rattle.clap.specs.declared.builder.range.ValueRange.{ValueRange}

-- an option of which something is so is that
some_from : {A : Type 0} (found : Option A) (value : A) → IsSomeAnd found (λ it. it ≡ value) → found ≡ Some value
some_from (Some it) value is = ap (λ it'. Some it') is
some_from None value is = absurd is

-- a required argument of so many values
pub required_rule : (id : Text) (first second last : Arg) (range : ValueRange) → rule_of first ≡ new_rule id → second ≡ record first { required = true }
    → last ≡ record second { num_vals = last.num_vals } → IsSomeAnd last.num_vals (λ it. it ≡ range)
    → rule_of last ≡ record (new_rule id) { required = true; range = Some range }
required_rule id first second last range is_new is_required is_ranged is =
    let many = some_from last.num_vals range is in
    ap rule_of (is_ranged ∙ ap (λ (most : Option ValueRange). record second { num_vals = most }) many)
    ∙ ap (λ (rule : Rule). record rule { range = Some range })
    (ap rule_of is_required ∙ ap (λ (rule : Rule). record rule { required = true }) is_new)

-- the values of an argument that were found are those of its row
pub values_are : {A : Type 0} (found : Found) (id : Text) (read : Option A) (view : A → List Text)
    → option_map view read ≡ option_map raw_values (matched_of found id) → option_map view read ≡ all_of id (rows_of found)
values_are found id read view is = is ∙ raw_values-rows found id
