use Rattle.std.proofs.Common.{◌≡◌, ◌<◌, ◌≤◌, ◌∙◌, Bool, IfSome, Some, ap, arith, false, length, nat_lt, option_map, refl, rules, subst, true, ℕ}
use Rattle.std.proofs.lemmas.Bool.Decides.{nat_tests}
use Rattle.std.proofs.lemmas.Option.{slice_get-map}
use Rattle.hs_chains.specs.Answering.{given_by}
use Rattle.hs_effects.specs.Calling.{whole_of}
use Rattle.hs_flow.specs.Programs.{IsNumbered}
use Rattle.hs_must.specs.Answers.{names_in}
use Rattle.hs_taint.specs.Coding.{numbers}
use Rattle.hs_taint.specs.Laws.Codes.{start_there}
use Rattle.hs_taint.specs.Laws.Sizes.{room_enough}
use Rattle.hs_taint.specs.Sizes.{most_facts, most_values}
use Rattle.hs_tree.specs.Views.{view_function}
use Rattle.hs_taint.proofs.building.program_graph.Goals as goal

-- no more than 64
few_of : (n : ℕ) → (64 < n → ⊥) → n ≤ 64
few_of n few = by (nat_lt 64 n) refl
  where
    by : (b : Bool) → nat_lt 64 n ≡ b → n ≤ 64
    by true e = absurd (few (grind (arith, nat_tests)))
    by false e = grind (arith, nat_tests)

-- what the graph keeps
pub invariant_of-result : goal.invariant_of-result
invariant_of-result c =
    let whole = whole_of c.args.code.now in
    let functions = c.args.code.now.program.now.functions.items in
    let room : c.room_in.result ≡ Some c.in_ok-room.room = search rules in
    let numbered : (f : ℕ) → IsNumbered whole f =
    subst (λ o. IfSome o (λ room. (f : ℕ) → IsNumbered whole f)) room c.room_in.ensures.numbered in
    let deep : most_values 0 c.args.code.now.functions.items < numbers =
    subst (λ o. IfSome o (λ room. most_values 0 c.args.code.now.functions.items < numbers)) room c.room_in.ensures.values in
    let enough = subst (λ o. IfSome o (λ room. most_facts c.args.code.now ≤ room)) room c.room_in.ensures.room in
    record {
      functions_are = c.in_ok-operations.ensures ∙ c.as_slice.ensures.value;
      names_are = c.in_ok-names.ensures.names;
      all_named = c.in_ok-names.ensures.each;
      few_names = λ f. few_of (length (names_in whole f)) (c.requires.few f);
      numbered = numbered;
      tables = λ f below. let effects = c.requires.functions in let assigned = c.requires.assigned in
          record { effects = omega (arith, below, effects); assigned = omega (arith, below, assigned); globals = c.requires.globals };
      starts =
          start_there whole c.args.code.now.program.now.main (view_function c.main_function-main.result.now) c.args.code.now.whole
          (slice_get-map view_function functions c.args.code.now.program.now.main ∙ ap (option_map view_function) c.main_function-main.ensures.place);
      deep = deep;
      has_room = λ f at. room_enough whole functions c.in_ok-room.room refl enough f at (given_by whole c.args.effects.now c.args.must.now f at) refl;
    }
