-- The step of a Set (own).
--     set_goes          the step
use Rattle.std.proofs.Common.{◌≡◌, ℕ, suc, Bool, true, false, ◌&&◌, List, ◌∷◌, length, slice_get, Some, refl, sym, ap, ◌∙◌, subst, true≢false}
use Rattle.std.proofs.lemmas.Bool.{and_parts}
use Rattle.hs_base.specs.Entries.{set_other}
use Rattle.hs_calls.specs.Calls.{Here, Wait, moved, point_of, steady_in}
use Rattle.hs_calls.specs.Stacks.{RanTo, Stays}
use Rattle.hs_code.specs.Following.{IsNext}
use Rattle.hs_code.specs.declared.function_code.Placed.{Placed}
use Rattle.hs_code.specs.declared.op.Op.TheVariants as op
use Rattle.hs_code_run.specs.Codes.{CodeProgram, scope_of}
use Rattle.hs_code_run.specs.Steps.{by_stack}
use Rattle.hs_facts.specs.Changes.{Impact, Gives}
use Rattle.hs_facts.specs.MustFacts.{AreNames}
use Rattle.hs_meaning.specs.Machine.{Machine, Done, done, slot, with_value}
use Rattle.hs_meaning.specs.Operations.{set}
use Rattle.hs_meaning.specs.Steps.{State}
use Rattle.hs_meaning.specs.Values.{Value}
use Rattle.hs_meaning.specs.declared.outcome.Outcome.{Outcome}
use Rattle.hs_sound_heap.specs.Since.{May}
use Rattle.hs_tree.specs.declared.head.Variable.{Variable}
use Rattle.hs_tree.specs.declared.head.Variable.TheVariants as name
use Rattle.hs_true.specs.Setting.{set_true, IsSlot}
use Rattle.hs_truth.specs.Good.{Good}
use Rattle.hs_truth.specs.Linked.{since_of}
use Rattle.hs_truth.specs.Owing.{operates_good}
use Rattle.hs_truth.specs.Truth.{AllTrue, SoundAt, shorter}

module _ (program : CodeProgram) (may : ℕ → May) (sets : ℕ → ℕ → Bool) (impact : Impact) (E : Outcome → State → Type 0)
    (ends : (outcome : Outcome) (s : State) → E outcome s) (here : Here) (ws : List Wait) (choices : List Bool) (its : Placed) (s : State)
    (good : Good program may sets impact here s.machine ws) (there : slice_get here.function.code.ops here.at ≡ Some its) (x : Variable)
    (is : its.op ≡ op.Set x) (deep : its.places ≡ length here.stack) (a_slot : IsSlot s.machine x)
    -- the table of effects has what the function sets
    (told : (g : ℕ) → x ≡ name.Global g → sets here.fn g ≡ true) where
  same_done : (v : Value) (a b : Machine) (u : Value) → ◌≡◌ {A = Done Value} (done v a) (done u b) → (v ≡ u) × (a ≡ b)
  same_done v a b u is = (cc, cc)

  other_globals : (x : Variable) (v : Value) (machine : Machine) → ((g : ℕ) → x ≡ name.Global g → sets here.fn g ≡ true) → (g : ℕ) → sets here.fn g ≡ false
      → slice_get (with_value x v machine).globals g ≡ slice_get machine.globals g
  other_globals (name.Local i) v machine told g none = refl
  other_globals (name.Global i) v machine told g none =
      set_other machine.globals i (slot (Some v)) g (λ so. true≢false (sym (told g (ap name.Global (sym so))) ∙ none))

  -- the facts of the Set
  sound : (v : Value) (rest : List Value) → here.stack ≡ v ∷ rest
      → SoundAt (scope_of program here.function) here.function.code impact (since_of may sets here.fn ws) its here s.machine
      (moved here (suc here.at) (v ∷ rest) (λ k. here.lasting k && steady_in s.machine (with_value x v s.machine) k)) (with_value x v s.machine)
  sound v rest so R names are =
      subst (λ o. AllTrue (λ fact. AreNames (scope_of program here.function) here.function.code fact
      × Gives (scope_of program here.function) here.function.code impact R o its.places fact)
      (moved here (suc here.at) (v ∷ rest) (λ k. here.lasting k && steady_in s.machine (with_value x v s.machine) k)) (with_value x v s.machine)
      (since_of may sets here.fn ws)) (sym is)
      (shorter (λ fact. AreNames (scope_of program here.function) here.function.code fact
      × Gives (scope_of program here.function) here.function.code impact R (op.Set x) its.places fact)
      (moved here (suc here.at) (v ∷ rest) here.lasting) (with_value x v s.machine) (since_of may sets here.fn ws)
      (λ k. here.lasting k && steady_in s.machine (with_value x v s.machine) k)
      (λ n lasts. (and_parts (here.lasting n) (steady_in s.machine (with_value x v s.machine) n) lasts).0)
      (set_true (scope_of program here.function) here.function.code impact R here s.machine
      (since_of may sets here.fn ws) are its.places x v rest so deep a_slot))

  pub set_goes : (v : Value) (rest : List Value) → here.stack ≡ v ∷ rest
      → RanTo E (Stays program (Good program may sets impact) E here s.machine ws) (by_stack program its.at (point_of here ws choices) (op.Set x) here.stack s)
  set_goes v rest so =
      subst (λ stack. RanTo E (Stays program (Good program may sets impact) E (record here { stack = stack }) s.machine ws)
      (by_stack program its.at (point_of (record here { stack = stack }) ws choices) (op.Set x) stack s)) (sym so) shown
    where
      now : Here
      now = record here { stack = v ∷ rest }

      shown : RanTo E (Stays program (Good program may sets impact) E (record here { stack = v ∷ rest }) s.machine ws)
          (by_stack program its.at (point_of (record here { stack = v ∷ rest }) ws choices) (op.Set x) (v ∷ rest) s)
      shown =
          operates_good program may sets impact (record here { stack = v ∷ rest }) ws its (set x) 1 s.machine
          (subst (λ stack. Good program may sets impact (record here { stack = stack }) s.machine ws) so good) there
          (subst (λ o. IsNext o here.function.code.cases here.at (suc here.at)) (sym is) refl) E ends choices its.at s refl tt
          (λ u after done_. by_done u after (same_done v (with_value x v s.machine) after u done_))
        where
          by_done : (u : Value) (after : Machine) → (v ≡ u) × (with_value x v s.machine ≡ after)
              → ((g : ℕ) → sets here.fn g ≡ false → slice_get after.globals g ≡ slice_get s.machine.globals g)
              × SoundAt (scope_of program here.function) here.function.code impact (since_of may sets here.fn ws) its
              (record here { stack = v ∷ rest }) s.machine
              (moved (record here { stack = v ∷ rest }) (suc here.at) (u ∷ rest) (λ k. here.lasting k && steady_in s.machine after k)) after
          by_done u after same =
              subst (λ m. ((g : ℕ) → sets here.fn g ≡ false → slice_get m.globals g ≡ slice_get s.machine.globals g)
              × SoundAt (scope_of program here.function) here.function.code impact (since_of may sets here.fn ws) its
              (record here { stack = v ∷ rest }) s.machine
              (moved (record here { stack = v ∷ rest }) (suc here.at) (u ∷ rest) (λ k. here.lasting k && steady_in s.machine m k)) m) same.1 (
                other_globals x v s.machine told,
                subst (λ w. SoundAt (scope_of program here.function) here.function.code impact (since_of may sets here.fn ws) its
                    (record here { stack = v ∷ rest }) s.machine
                    (moved (record here { stack = v ∷ rest }) (suc here.at) (w ∷ rest)
                    (λ k. here.lasting k && steady_in s.machine (with_value x v s.machine) k))
                    (with_value x v s.machine)) same.0
                    (subst (λ stack. SoundAt (scope_of program here.function) here.function.code impact (since_of may sets here.fn ws) its
                    (record here { stack = stack }) s.machine
                    (moved (record here { stack = stack }) (suc here.at) (v ∷ rest) (λ k. here.lasting k && steady_in s.machine (with_value x v s.machine) k))
                    (with_value x v s.machine)) so (sound v rest so)),
              )
