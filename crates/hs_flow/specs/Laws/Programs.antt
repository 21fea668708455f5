-- The steps of facts in a program, and what a table of effects says of a function.
--     scope_there         the scope of a function that is there
--     callee_does         the effects of the function that is called are those of the program
--     callee_assigns      and so are the globals that it may assign
use Rattle.std.proofs.Common.{◌≡◌, ◌<◌, ℕ, nat_lt, arith, true, ◌&&◌, length, map, slice_get, Option, Some, ap, sym, subst}
use Rattle.std.proofs.lemmas.Bool.Decides.{nat_tests}
use Rattle.std.specs.Bool.{Decides}
use Rattle.hs_code.specs.Codes.{scope_of, signature_of}
use Rattle.hs_code.specs.Stacks.{Scope}
use Rattle.hs_effects.specs.Answers.{Answers, IsExact}
use Rattle.hs_facts.specs.Effects.{WholeCode, Assigns, Effect, HasEffect}
use Rattle.hs_flow.specs.Programs.{scope_at, variables_in, result_in, callee_of, does}
use Rattle.hs_rows.specs.Sets.{has}
use Rattle.hs_tree.specs.Trees.{TypedFunction}

pub scope_there : (whole : WholeCode) (f : ℕ) (function : TypedFunction) → slice_get whole.program.functions f ≡ Some function
    → scope_at whole f ≡ scope_of whole.program function
scope_there whole f function there = ap of there
  where
    of : Option TypedFunction → Scope
    of it =
        record {
          types = whole.program.types;
          globals = whole.program.globals;
          variables = variables_in it;
          result = result_in it;
          functions = map signature_of whole.program.functions;
          routines = whole.program.routines;
        }

module _ (whole : WholeCode) (answers : Answers) (exact : IsExact whole answers) (f : ℕ) (there : f < length whole.functions) where
  pub callee_does : (effect : Effect) → Decides (does answers f effect) (HasEffect whole f effect)
  callee_does effect = exact.effects f effect there

  pub callee_assigns : (g : ℕ) → g < length whole.program.globals → Decides ((callee_of whole answers f).assigns g) (Assigns whole f g)
  callee_assigns g is =
      let inside : nat_lt g (length whole.program.globals) ≡ true = grind (arith, nat_tests) in
      subst (λ b. Decides b (Assigns whole f g)) (sym (ap (λ b. b && has answers.assigned f g) inside)) (exact.assigns f g there is)
