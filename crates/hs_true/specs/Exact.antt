-- An exact table of effects is all that the facts of calls ask of it (own).
--     may_of, sets_of      what functions may do, by the table
--     exact_told           the table says so
use Rattle.std.proofs.Common.{◌≡◌, ◌<◌, ◌-◌, ◌⊎◌, inl, inr, ℕ, zero, suc, Bool, true, false, List, [], ◌∷◌, length, Option, Some, None, refl, sym, ap, ◌∙◌, subst, arith, ◌&&◌, slice_get, map, true≢false, if◌then◌else◌, nat_lt, ◌||◌}
use Rattle.std.proofs.lemmas.Bool.{and_parts}
use Rattle.std.proofs.lemmas.Bool.Decides.{nat_tests}
use Rattle.std.proofs.lemmas.Option.{same_Some, none-some, slice_get_within}
use Rattle.hs_calls.specs.Calls.{Wait, IsWait}
use Rattle.hs_calls.specs.Changing.{decision_effects}
use Rattle.hs_code.specs.Codes as codes
use Rattle.hs_code.specs.Codes.{IsCode, IsCodeOf, AreCodesOf, IsInRange, is_slot_in}
use Rattle.hs_code.specs.Stacks.{Signature, variable_of_global}
use Rattle.hs_code.specs.declared.function_code.FunctionCode.{FunctionCode}
use Rattle.hs_code.specs.declared.function_code.Placed.{Placed}
use Rattle.hs_code.specs.declared.op.Op.TheVariants as op
use Rattle.hs_code_run.specs.Codes.{CodeProgram, scope_of, CodeFunction, signature_of, function_with, functions_with, code_program}
use Rattle.hs_code_run.specs.Steps.{holds}
use Rattle.hs_effects.specs.Answers.{Answers, IsExact}
use Rattle.hs_effects.specs.Effecting.{number_of, restored}
use Rattle.hs_facts.specs.Changes.{IsRestore}
use Rattle.hs_facts.specs.Effects as effect
use Rattle.hs_facts.specs.Effects.{WholeCode, ops_in, placed_in, Calls, itself, Assigns, only_assigns, first_argument, IsRestoreAt, Effect, shift_has, role_has, OpHas, HasEffect, impact_of}
use Rattle.hs_facts.specs.Laws.Bytes.{IsOfByte, Holds-bytes}
use Rattle.hs_facts.specs.Laws.Effects.{Does-called, unless_restore}
use Rattle.hs_facts.specs.MustFacts.{MustFact, With, Saved, on_stack}
use Rattle.hs_facts.specs.Names.{taken as taken_by, role_in}
use Rattle.hs_facts.specs.Rounds.{Holds, HoldsIn}
use Rattle.hs_rows.specs.Sets.{has}
use Rattle.hs_sound_heap.specs.Roles.{nothing, effects_of}
use Rattle.hs_sound_heap.specs.Shifts.{shifting}
use Rattle.hs_sound_heap.specs.Since.{May, IsWithin}
use Rattle.hs_table.specs.declared.role.Role.{Role}
use Rattle.hs_table.specs.declared.role.Role.TheVariants as role
use Rattle.hs_tree.specs.Trees.{TypedFunction, TypedProgram}
use Rattle.hs_tree.specs.declared.class.Class.{Class}
use Rattle.hs_tree.specs.declared.function.BoundRoutine.{BoundRoutine}
use Rattle.hs_tree.specs.declared.globals.Global.{Global}
use Rattle.hs_tree.specs.declared.head.Variable.TheVariants as name
use Rattle.hs_true.specs.Tables.{IsTold}
use Rattle.hs_truth.specs.Good.{CallsClosed}

-- ---- functions and their code

-- a function of the program and its code
pub record FoundIn (whole : WholeCode) (fn : ℕ) (its : CodeFunction) : Type 0 where
  pub function : TypedFunction
  pub code : FunctionCode
  pub of_function : slice_get whole.program.functions fn ≡ Some function
  pub of_code : slice_get whole.functions fn ≡ Some code
  pub same : function_with function code ≡ its

found_in : (functions : List TypedFunction) (its : List FunctionCode) (fn : ℕ) (function : CodeFunction)
    → slice_get (functions_with functions its) fn ≡ Some function
    → (f : TypedFunction) × (c : FunctionCode) × (slice_get functions fn ≡ Some f) × (slice_get its fn ≡ Some c) × (function_with f c ≡ function)
found_in [] its fn function is = absurd (none-some function is)
found_in (f ∷ functions) [] fn function is = absurd (none-some function is)
found_in (f ∷ functions) (c ∷ its) zero function is = (f, c, refl, refl, same_Some (function_with f c) function is)
found_in (f ∷ functions) (c ∷ its) (suc fn) function is = found_in functions its fn function is

-- the signatures are those of the functions
pub signatures : (program : TypedProgram) (classes : List Class) (functions : List TypedFunction) (its : List FunctionCode)
    → AreCodesOf program classes functions its → map signature_of (functions_with functions its) ≡ map codes.signature_of functions
signatures program classes [] [] are = refl
signatures program classes [] (code ∷ its) are = absurd are
signatures program classes (function ∷ functions) [] are = absurd are
signatures program classes (function ∷ functions) (code ∷ its) are =
    ap (λ rest. codes.signature_of function ∷ rest) (signatures program classes functions its are.1)

-- the code of each is in range
pub code_of : (program : TypedProgram) (classes : List Class) (functions : List TypedFunction) (its : List FunctionCode) → AreCodesOf program classes functions its
    → (fn : ℕ) (f : TypedFunction) (c : FunctionCode) → slice_get functions fn ≡ Some f → slice_get its fn ≡ Some c → IsCodeOf program classes f c
code_of program classes [] its are fn f c is so = absurd (none-some f is)
code_of program classes (one ∷ functions) [] are fn f c is so = absurd (none-some c so)
code_of program classes (one ∷ functions) (code ∷ its) are zero f c is so =
    subst (λ g. IsCodeOf program classes g c) (same_Some one f is) (subst (λ d. IsCodeOf program classes one d) (same_Some code c so) are.0)
code_of program classes (one ∷ functions) (code ∷ its) are (suc fn) f c is so = code_of program classes functions its are.1 fn f c is so

module _ (whole : WholeCode) (answers : Answers) (exact : IsExact whole answers) (are : IsCode whole.program whole.classes whole.functions) where
  -- the program with its code
  abbrev pub program : CodeProgram
  program = code_program whole.program whole.functions

  -- a function that is there has the effect
  abbrev pub has_effect : ℕ → Effect → Bool
  has_effect f effect = nat_lt f (length whole.functions) && has answers.effects f (number_of effect)

  -- what functions may do
  abbrev pub may_of : ℕ → May
  may_of f =
      record {
        moves = has_effect f effect.moves;
        purges = has_effect f effect.purges;
        unlocks = has_effect f effect.unlocks;
        marks = has_effect f effect.marks;
        disposes = has_effect f effect.disposes;
      }

  -- a function that is there may assign a global that is there
  abbrev pub sets_of : ℕ → ℕ → Bool
  sets_of f g = nat_lt f (length whole.functions) && (nat_lt g (length whole.program.globals) && has answers.assigned f g)

  less_is : (a b : ℕ) → nat_lt a b ≡ true → a < b
  less_is a b is = grind (is, nat_tests, arith)

  less_so : (a b : ℕ) → a < b → nat_lt a b ≡ true
  less_so a b is = grind (is, nat_tests, arith)

  both_so : (a b : Bool) → a ≡ true → b ≡ true → (a && b) ≡ true
  both_so true b is so = so
  both_so false b is so = is

  -- ---- effects

  pub says : (f : ℕ) (its : Effect) → has_effect f its ≡ true → HasEffect whole f its
  says f its is = (exact.effects f its (less_is f (length whole.functions) parts.0)).0 parts.1
    where
      parts : (nat_lt f (length whole.functions) ≡ true) × (has answers.effects f (number_of its) ≡ true)
      parts = and_parts (nat_lt f (length whole.functions)) (has answers.effects f (number_of its)) is

  shows : (f : ℕ) (its : Effect) → f < length whole.functions → HasEffect whole f its → has_effect f its ≡ true
  shows f its low effect_is =
      both_so (nat_lt f (length whole.functions)) (has answers.effects f (number_of its)) (less_so f (length whole.functions) low)
      ((exact.effects f its low).1 effect_is)

  pub says_set : (f g : ℕ) → sets_of f g ≡ true → (f < length whole.functions) × (g < length whole.program.globals) × Assigns whole f g
  says_set f g is = (less_is f (length whole.functions) first.0, less_is g (length whole.program.globals) second.0, assigns)
    where
      first : (nat_lt f (length whole.functions) ≡ true) × ((nat_lt g (length whole.program.globals) && has answers.assigned f g) ≡ true)
      first = and_parts (nat_lt f (length whole.functions)) (nat_lt g (length whole.program.globals) && has answers.assigned f g) is

      second : (nat_lt g (length whole.program.globals) ≡ true) × (has answers.assigned f g ≡ true)
      second = and_parts (nat_lt g (length whole.program.globals)) (has answers.assigned f g) first.1

      assigns : Assigns whole f g
      assigns =
          (exact.assigns f g (less_is f (length whole.functions) first.0) (less_is g (length whole.program.globals) second.0)).0 second.1

  shows_set : (f g : ℕ) → f < length whole.functions → g < length whole.program.globals → Assigns whole f g → sets_of f g ≡ true
  shows_set f g low low_global assigns =
      both_so (nat_lt f (length whole.functions)) (nat_lt g (length whole.program.globals) && has answers.assigned f g)
      (less_so f (length whole.functions) low)
      (both_so (nat_lt g (length whole.program.globals)) (has answers.assigned f g) (less_so g (length whole.program.globals) low_global)
      ((exact.assigns f g low low_global).1 assigns))

  -- ---- a function that is there

  pub found_of : (fn : ℕ) (function : CodeFunction) → slice_get program.functions fn ≡ Some function → FoundIn whole fn function
  found_of fn function is = on (found_in whole.program.functions whole.functions fn function is)
    where
      on : (f : TypedFunction) × (c : FunctionCode) × (slice_get whole.program.functions fn ≡ Some f) × (slice_get whole.functions fn ≡ Some c)
          × (function_with f c ≡ function) → FoundIn whole fn function
      on it = record { function = it.0; code = it.1; of_function = it.2; of_code = it.3; same = it.4 }

  pub low_of : (fn : ℕ) (function : CodeFunction) → FoundIn whole fn function → fn < length whole.functions
  low_of fn function found = slice_get_within whole.functions fn found.code found.of_code

  pub placed_of : (fn : ℕ) (function : CodeFunction) (found : FoundIn whole fn function) (at : ℕ) (its : Placed)
      → slice_get function.code.ops at ≡ Some its → placed_in whole fn at ≡ Some its
  placed_of fn function found at its there =
      ap (λ c. slice_get (ops_in c) at) found.of_code ∙ ap (λ (f : CodeFunction). slice_get f.code.ops at) found.same ∙ there

  -- an effect of one of its operations
  own_effect : (fn : ℕ) (function : CodeFunction) (found : FoundIn whole fn function) (at : ℕ) (its : Placed) → slice_get function.code.ops at ≡ Some its
      → (e : Effect) → OpHas whole.program.routines (IsRestoreAt whole fn at) its.op e → has_effect fn e ≡ true
  own_effect fn function found at its there e is =
      shows fn e (low_of fn function found)
      (record { last = fn; leads = itself fn; at = at; its = its; there = placed_of fn function found at its there; so = is })

  -- ---- calls

  calls_of : (w : Wait) → IsWait program w → slice_get program.functions w.here.fn ≡ Some w.here.function → Calls whole w.here.fn w.called
  calls_of w waits found =
      record {
        at = w.here.at;
        its = waits.its;
        there = placed_of w.here.fn w.here.function (found_of w.here.fn w.here.function found) w.here.at waits.its waits.there;
        calls = waits.calls;
      }

  more_effect : (w : Wait) → IsWait program w → slice_get program.functions w.here.fn ≡ Some w.here.function → (e : Effect)
      → has_effect w.called e ≡ true → has_effect w.here.fn e ≡ true
  more_effect w waits found e is =
      shows w.here.fn e (low_of w.here.fn w.here.function (found_of w.here.fn w.here.function found))
      (Does-called whole (λ last at its. OpHas whole.program.routines (IsRestoreAt whole last at) its e) w.here.fn w.called (calls_of w waits found)
      (says w.called e is))

  more_sets : (w : Wait) → IsWait program w → slice_get program.functions w.here.fn ≡ Some w.here.function → (g : ℕ) → sets_of w.here.fn g ≡ false
      → sets_of w.called g ≡ false
  more_sets w waits found g none = by_bit (sets_of w.called g) refl
    where
      by_bit : (z : Bool) → sets_of w.called g ≡ z → z ≡ false
      by_bit false is = refl
      by_bit true is =
          absurd (true≢false
          (sym (shows_set w.here.fn g (low_of w.here.fn w.here.function (found_of w.here.fn w.here.function found)) (says_set w.called g is).1
          (Does-called whole (λ last at its. its ≡ op.Set (name.Global g)) w.here.fn w.called (calls_of w waits found) (says_set w.called g is).2)) ∙ none))

  calls_closed : CallsClosed program may_of sets_of (impact_of whole)
  calls_closed =
      record {
        effects = λ w waits found. record {
          moves = more_effect w waits found effect.moves;
          purges = more_effect w waits found effect.purges;
          unlocks = more_effect w waits found effect.unlocks;
          marks = more_effect w waits found effect.marks;
          disposes = more_effect w waits found effect.disposes;
        };
        globals = more_sets;
      }

  -- ---- operations

  shift_told : (fn : ℕ) (function : CodeFunction) → slice_get program.functions fn ≡ Some function → (at : ℕ) (its : Placed)
      → slice_get function.code.ops at ≡ Some its → (place : ℕ) → its.op ≡ op.Shift place
      → IsWithin (decision_effects (slice_get program.setting.routines place)) (may_of fn)
  shift_told fn function found at its there place is = by_routine (slice_get whole.program.routines place) refl
    where
      own : (e : Effect) → shift_has (slice_get whole.program.routines place) e ≡ true → has_effect fn e ≡ true
      own e so =
          own_effect fn function (found_of fn function found) at its there e
          (subst (λ o. OpHas whole.program.routines (IsRestoreAt whole fn at) o e) (sym is) so)

      by_powers : (it : BoundRoutine) → slice_get whole.program.routines place ≡ Some it → (z : Bool) → (it.routine.moves || it.routine.purges) ≡ z
          → IsWithin (if z then shifting it.routine.purges else nothing) (may_of fn)
      by_powers it there_ true so =
          record {
            moves = λ yes. own effect.moves (ap (λ r. shift_has r effect.moves) there_ ∙ so);
            purges = λ yes. own effect.purges (ap (λ r. shift_has r effect.purges) there_ ∙ yes);
            unlocks = λ yes. absurd cc;
            marks = λ yes. absurd cc;
            disposes = λ yes. absurd cc;
          }
      by_powers it there_ false so =
          record {
            moves = λ yes. absurd cc;
            purges = λ yes. absurd cc;
            unlocks = λ yes. absurd cc;
            marks = λ yes. absurd cc;
            disposes = λ yes. absurd cc;
          }

      by_routine : (found : Option BoundRoutine) → slice_get whole.program.routines place ≡ found → IsWithin (decision_effects found) (may_of fn)
      by_routine None there_ =
          record {
            moves = λ yes. absurd cc;
            purges = λ yes. absurd cc;
            unlocks = λ yes. absurd cc;
            marks = λ yes. absurd cc;
            disposes = λ yes. absurd cc;
          }
      by_routine (Some it) there_ = by_powers it there_ (it.routine.moves || it.routine.purges) refl

  set_told : (fn : ℕ) (function : CodeFunction) → slice_get program.functions fn ≡ Some function → (at : ℕ) (its : Placed)
      → slice_get function.code.ops at ≡ Some its → (g : ℕ) → its.op ≡ op.Set (name.Global g) → sets_of fn g ≡ true
  set_told fn function found at its there g is =
      shows_set fn g (low_of fn function f) global_there
      (record { last = fn; leads = itself fn; at = at; its = its; there = placed_of fn function f at its there; so = is })
    where
      f : FoundIn whole fn function
      f = found_of fn function found

      in_range : is_slot_in whole.program.types (variable_of_global (slice_get whole.program.globals g)) ≡ true
      in_range =
          subst (IsInRange whole.program whole.classes f.function f.code) is
          ((code_of whole.program whole.classes whole.program.functions whole.functions are fn f.function f.code f.of_function f.of_code).ranges at its
          (ap (λ (c : CodeFunction). slice_get c.code.ops at) f.same ∙ there))

      global_there : g < length whole.program.globals
      global_there = by_global (slice_get whole.program.globals g) refl in_range
        where
          by_global : (it : Option Global) → slice_get whole.program.globals g ≡ it → is_slot_in whole.program.types (variable_of_global it) ≡ true
              → g < length whole.program.globals
          by_global None so slot_is = absurd (true≢false (sym slot_is))
          by_global (Some it) so slot_is = slice_get_within whole.program.globals g it so

  -- the effects of a role, apart from a state byte that is put back
  role_told : (fn : ℕ) (r : Role) → (r ≡ role.SetState → ⊥) → ((e : Effect) → role_has (Some r) e ≡ true → has_effect fn e ≡ true)
      → IsWithin (effects_of r) (may_of fn)
  role_told fn role.Unlock other own =
      record { moves = λ y. absurd cc; purges = λ y. absurd cc; unlocks = λ y. own effect.unlocks refl; marks = λ y. absurd cc; disposes = λ y. absurd cc }
  role_told fn role.Purge other own =
      record { moves = λ y. absurd cc; purges = λ y. absurd cc; unlocks = λ y. absurd cc; marks = λ y. own effect.marks refl; disposes = λ y. absurd cc }
  role_told fn role.SetState other own = absurd (other refl)
  role_told fn role.Realloc other own =
      record { moves = λ y. absurd cc; purges = λ y. absurd cc; unlocks = λ y. own effect.unlocks refl; marks = λ y. absurd cc; disposes = λ y. absurd cc }
  role_told fn role.DisposeHandle other own =
      record { moves = λ y. absurd cc; purges = λ y. absurd cc; unlocks = λ y. absurd cc; marks = λ y. absurd cc; disposes = λ y. own effect.disposes refl }
  role_told fn r other own =
      record { moves = λ y. absurd cc; purges = λ y. absurd cc; unlocks = λ y. absurd cc; marks = λ y. absurd cc; disposes = λ y. absurd cc }

  pub scope_is : (fn : ℕ) (function : CodeFunction) (f : FoundIn whole fn function)
      → codes.scope_of whole.program f.function ≡ scope_of program (function_with f.function f.code)
  scope_is fn function f =
      ap (λ (all : List Signature). record (codes.scope_of whole.program f.function) { functions = all })
      (sym (signatures whole.program whole.classes whole.program.functions whole.functions are))

  -- a restore is one in every round, also if all that calls do counts
  pub restore_told : (fn : ℕ) (function : CodeFunction) → slice_get program.functions fn ≡ Some function → (at : ℕ) (its : Placed)
      → slice_get function.code.ops at ≡ Some its → (p : ℕ) → its.op ≡ op.Routine p → IsRestoreAt whole fn at → (round : ℕ)
      → IsRestore (HoldsIn (scope_of program function) function.code (impact_of whole) round at)
      (its.places - taken_by (scope_of program function) (op.Routine p)) (suc (its.places - taken_by (scope_of program function) (op.Routine p)))
  restore_told fn function found at its there p is restores round =
      subst (λ (g : CodeFunction). IsRestore (HoldsIn (scope_of program g) g.code (impact_of whole) round at)
      (its.places - taken_by (scope_of program g) (op.Routine p)) (suc (its.places - taken_by (scope_of program g) (op.Routine p)))) f.same
      (subst (λ scope. IsRestore (HoldsIn scope f.code (impact_of whole) round at) (its.places - taken_by scope (op.Routine p))
      (suc (its.places - taken_by scope (op.Routine p)))) (scope_is fn function f)
      (subst (λ o. IsRestore (HoldsIn (codes.scope_of whole.program f.function) f.code (impact_of whole) round at)
      (its.places - taken_by (codes.scope_of whole.program f.function) o) (suc (its.places - taken_by (codes.scope_of whole.program f.function) o))) is
      (restores.handle, of_place restores.its its_is, of_byte restores.its its_is)))
    where
      f : FoundIn whole fn function
      f = found_of fn function found

      function_is : restores.function ≡ f.function
      function_is = same_Some restores.function f.function (sym restores.of_function ∙ f.of_function)

      code_is : restores.code ≡ f.code
      code_is = same_Some restores.code f.code (sym restores.its_code ∙ f.of_code)

      its_is : restores.its ≡ its
      its_is =
          same_Some restores.its its
          (sym restores.there ∙ ap (λ (c : FunctionCode). slice_get c.ops at) code_is
          ∙ ap (λ (c : CodeFunction). slice_get c.code.ops at) f.same ∙ there)

      with_calls : (fact : MustFact) → IsOfByte fact
          → Holds (codes.scope_of whole.program restores.function) restores.code (only_assigns whole) at fact
          → HoldsIn (codes.scope_of whole.program f.function) f.code (impact_of whole) round at fact
      with_calls fact of_byte holds =
          subst (λ g. HoldsIn (codes.scope_of whole.program g) f.code (impact_of whole) round at fact) function_is
          (subst (λ c. HoldsIn (codes.scope_of whole.program restores.function) c (impact_of whole) round at fact) code_is
          (Holds-bytes (codes.scope_of whole.program restores.function) restores.code (only_assigns whole) (impact_of whole)
          (λ h g so. so) at fact of_byte holds
          round))

      of_place : (one : Placed) → one ≡ its
          → HoldsIn (codes.scope_of whole.program f.function) f.code (impact_of whole) round at
          (With (its.places - taken_by (codes.scope_of whole.program f.function) its.op) restores.handle)
      of_place one same =
          subst (λ g. HoldsIn (codes.scope_of whole.program f.function) f.code (impact_of whole) round at
          (With (its.places - taken_by (codes.scope_of whole.program g) its.op) restores.handle)) function_is
          (subst (λ (o : Placed). HoldsIn (codes.scope_of whole.program f.function) f.code (impact_of whole) round at
          (With (o.places - taken_by (codes.scope_of whole.program restores.function) o.op) restores.handle)) its_is
          (with_calls (With (first_argument (codes.scope_of whole.program restores.function) restores.its) restores.handle) tt restores.held))

      of_byte : (one : Placed) → one ≡ its
          → HoldsIn (codes.scope_of whole.program f.function) f.code (impact_of whole) round at
          (Saved (on_stack (suc (its.places - taken_by (codes.scope_of whole.program f.function) its.op))) restores.handle)
      of_byte one same =
          subst (λ g. HoldsIn (codes.scope_of whole.program f.function) f.code (impact_of whole) round at
          (Saved (on_stack (suc (its.places - taken_by (codes.scope_of whole.program g) its.op))) restores.handle)) function_is
          (subst (λ (o : Placed). HoldsIn (codes.scope_of whole.program f.function) f.code (impact_of whole) round at
          (Saved (on_stack (suc (o.places - taken_by (codes.scope_of whole.program restores.function) o.op))) restores.handle)) its_is
          (with_calls (Saved (on_stack (suc (first_argument (codes.scope_of whole.program restores.function) restores.its))) restores.handle) tt restores.read))

  routine_told : (fn : ℕ) (function : CodeFunction) → slice_get program.functions fn ≡ Some function → (at : ℕ) (its : Placed)
      → slice_get function.code.ops at ≡ Some its → (p : ℕ) → its.op ≡ op.Routine p → (it : BoundRoutine)
      → slice_get program.setting.routines p ≡ Some it
      → IsWithin (effects_of it.routine.role) (may_of fn)
      ⊎ ((it.routine.role ≡ role.SetState)
      × ((round : ℕ) → IsRestore (HoldsIn (scope_of program function) function.code (impact_of whole) round at)
      (its.places - taken_by (scope_of program function) (op.Routine p)) (suc (its.places - taken_by (scope_of program function) (op.Routine p)))))
  routine_told fn function found at its there p is it bound = by_role (is_set_state it.routine.role)
    where
      f : FoundIn whole fn function
      f = found_of fn function found

      is_set_state : (r : Role) → (r ≡ role.SetState) ⊎ (r ≡ role.SetState → ⊥)
      is_set_state role.SetState = inl refl
      is_set_state role.Plain = inr (λ so. absurd cc)
      is_set_state role.NewHandle = inr (λ so. absurd cc)
      is_set_state role.DisposeHandle = inr (λ so. absurd cc)
      is_set_state role.GetSize = inr (λ so. absurd cc)
      is_set_state role.SetSize = inr (λ so. absurd cc)
      is_set_state role.Lock = inr (λ so. absurd cc)
      is_set_state role.Unlock = inr (λ so. absurd cc)
      is_set_state role.Purge = inr (λ so. absurd cc)
      is_set_state role.NoPurge = inr (λ so. absurd cc)
      is_set_state role.GetState = inr (λ so. absurd cc)
      is_set_state role.Empty = inr (λ so. absurd cc)
      is_set_state role.Realloc = inr (λ so. absurd cc)
      is_set_state role.NewPtr = inr (λ so. absurd cc)
      is_set_state role.DisposePtr = inr (λ so. absurd cc)
      is_set_state role.BlockMove = inr (λ so. absurd cc)
      is_set_state role.Getchar = inr (λ so. absurd cc)
      is_set_state role.Putchar = inr (λ so. absurd cc)

      own : (e : Effect) → role_has (Some it.routine.role) e ≡ true → has_effect fn e ≡ true
      own e so =
          own_effect fn function f at its there e
          (subst (λ o. OpHas whole.program.routines (IsRestoreAt whole fn at) o e) (sym is)
          (inl (ap (λ r. role_has (role_in r) e) bound ∙ so)))

      sets_state : it.routine.role ≡ role.SetState → role_in (slice_get whole.program.routines p) ≡ Some role.SetState
      sets_state so = ap role_in bound ∙ ap (λ r. Some r) so

      by_restore : it.routine.role ≡ role.SetState → (z : Bool) → restored answers.restores fn at ≡ z
          → IsWithin (effects_of it.routine.role) (may_of fn)
          ⊎ ((it.routine.role ≡ role.SetState)
          × ((round : ℕ) → IsRestore (HoldsIn (scope_of program function) function.code (impact_of whole) round at)
          (its.places - taken_by (scope_of program function) (op.Routine p))
          (suc (its.places - taken_by (scope_of program function) (op.Routine p)))))
      by_restore so true told = inr (so, restore_told fn function found at its there p is ((exact.restores fn at).0 told))
      by_restore so false told =
          inl (subst (λ r. IsWithin (effects_of r) (may_of fn)) (sym so)
          (record {
            moves = λ y. absurd cc;
            purges = λ y. absurd cc;
            unlocks = λ y. shows fn effect.unlocks (low_of fn function f) changes.0;
            marks = λ y. shows fn effect.marks (low_of fn function f) changes.1;
            disposes = λ y. absurd cc;
          }))
        where
          changes : HasEffect whole fn effect.unlocks × HasEffect whole fn effect.marks
          changes =
              unless_restore whole fn at its p (placed_of fn function f at its there) is (sets_state so)
              (λ restores. true≢false (sym ((exact.restores fn at).1 restores) ∙ told))

      by_role : (it.routine.role ≡ role.SetState) ⊎ (it.routine.role ≡ role.SetState → ⊥)
          → IsWithin (effects_of it.routine.role) (may_of fn)
          ⊎ ((it.routine.role ≡ role.SetState)
          × ((round : ℕ) → IsRestore (HoldsIn (scope_of program function) function.code (impact_of whole) round at)
          (its.places - taken_by (scope_of program function) (op.Routine p))
          (suc (its.places - taken_by (scope_of program function) (op.Routine p)))))
      by_role (inl so) = by_restore so (restored answers.restores fn at) refl
      by_role (inr other) = inl (role_told fn it.routine.role other own)

  -- an exact table of effects is all that is asked
  pub exact_told : IsTold program may_of sets_of (impact_of whole)
  exact_told =
      record {
        closed = calls_closed;
        unlocked = λ f is. says f effect.unlocks is;
        disposed = λ f is. says f effect.disposes is;
        assigned = λ f g is. (says_set f g is).2;
        shifts = shift_told;
        routines = routine_told;
        sets_own = set_told;
      }
