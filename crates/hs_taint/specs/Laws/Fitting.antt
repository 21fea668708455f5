-- The numbers of a program fit, as its tables know it.
--     small_program                 if variables, classes and operands have numbers of 32 bits, and names are not too many
use Rattle.hs_chains.specs.Answering.{knowledge_by}
use Rattle.hs_chains.specs.Knowledge.{places_of}
use Rattle.hs_code.specs.Codes.{IsCode}
use Rattle.hs_code.specs.declared.function_code.Placed.{Placed}
use Rattle.hs_effects.specs.Answers.{Answers}
use Rattle.hs_facts.specs.Effects.{WholeCode, placed_in}
use Rattle.hs_flow.specs.Programs.{IsNumbered}
use Rattle.hs_flow.specs.Slots.{below}
use Rattle.hs_must.specs.declared.kept.Kept.{Kept}
use Rattle.hs_must.specs.Answers.{HasMany, names_in}
use Rattle.hs_taint.specs.Coding.{names, numbers}
use Rattle.hs_taint.specs.Laws.Codes.{ops_small}
use Rattle.hs_taint.specs.Laws.SmallCalls.{IsSmallProgram}
use Rattle.std.proofs.Common.{◌≡◌, ◌<◌, ◌≤◌, ℕ, nat_lt, Bool, true, false, List, length, Option, Some, None, refl, arith}
use Rattle.std.proofs.lemmas.Bool.Decides.{nat_tests}

few_names : (n : ℕ) → (64 < n → ⊥) → n ≤ names
few_names n few = by (nat_lt 64 n) refl
  where
    by : (b : Bool) → nat_lt 64 n ≡ b → n ≤ names
    by true e = absurd (few (grind (arith, nat_tests)))
    by false e = let below : n ≤ 64 = grind (arith, nat_tests) in omega (arith)

places_small : (o : Option Placed) (most : ℕ) → most < numbers → ((its : Placed) → o ≡ Some its → its.places ≤ most) → places_of o < numbers
places_small None most fits below = omega (arith)
places_small (Some its) most fits below = let few = below its refl in omega (arith)

-- If variables and classes have numbers of 32 bits, and operands and names are not too many, then so are the numbers in facts.
pub small_program : (whole : WholeCode) (effects : Answers) (facts : List Kept) (most : ℕ)
    → ∥ IsCode whole.program whole.classes whole.functions ∥₁ → ((f : ℕ) → IsNumbered whole f) → most < numbers
    → ((f at : ℕ) (its : Placed) → placed_in whole f at ≡ Some its → its.places ≤ most) → ((f : ℕ) → HasMany whole f → ⊥)
    → IsSmallProgram whole (knowledge_by whole effects facts)
small_program whole effects facts most are numbered fits deep few =
    let globals : length whole.program.globals ≤ numbers = let few = (numbered 0).globals in omega (arith) in
    let classes : length whole.classes ≤ numbers = let few = (numbered 0).classes in omega (arith) in
    record {
      globals = globals;
      locals = λ f. let few = (numbered f).locals in omega (arith);
      classes = classes;
      places = λ f at. places_small (placed_in whole f at) most fits (deep f at);
      named = λ f at. few_names (length (names_in whole f)) (few f);
      ops = ops_small whole globals (λ f. let few = (numbered f).locals in omega (arith)) classes are;
    }
