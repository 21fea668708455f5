-- A routine takes the values on top, which are those after the others.
use Rattle.std.proofs.Common.{◌≡◌, ◌++◌, ◌-◌, ◌<◌, ℕ, false, List, length, reverse, take, slice_get, Option, Some, Err, refl, subst, ◌∙◌, arith}
use Rattle.std.proofs.lemmas.Bool.Decides.{nat_tests}
use Rattle.std.proofs.lemmas.List.{take-append-drop}
use Rattle.hs_code_run.specs.Steps.{holds, routine_arguments}
use Rattle.hs_meaning.specs.Machine.{Machine}
use Rattle.hs_meaning.specs.Operations as operation
use Rattle.hs_meaning.specs.Operations.{Operation}
use Rattle.hs_meaning.specs.Settings.{Setting}
use Rattle.hs_meaning.specs.Values.{Value}
use Rattle.hs_meaning.specs.declared.outcome.Stop.TheVariants.{BadPointer}
use Rattle.hs_operations.proofs.Working.{whole_given, whole_not}
use Rattle.hs_operations.proofs.places.routine.Goals as goal
use Rattle.hs_operations.specs.Stacks.{holds_top}
use Rattle.hs_operations.specs.Works.{Works, operated, routine_of}
use Rattle.hs_state.specs.Machines.{machine_of}
use Rattle.hs_state.specs.Settings.{setting_here}
use Rattle.hs_values.specs.declared.halt.Halt.TheVariants.{Stopped}

-- there are too few values
too_few : (setting : Setting) (count : ℕ) (its : Operation) (values left : List Value) (machine : Machine) → length values < count
    → Works (operated setting (Some (count, its)) (reverse values) machine) left machine (Err (Stopped BadPointer))
too_few setting count its values left machine few =
    let none : holds count (reverse values) ≡ false = holds_top count values ∙ grind (arith, nat_tests) in
    rw none (refl, refl)

pub returns-then-values-count-clause-works : goal.returns-then-values-count-clause-works
returns-then-values-count-clause-works c =
    let setting = setting_here c.args.setting.now in
    let values = c.args.stack.now.top in
    let machine = machine_of c.args.machine.now in
    let counted : Some c.in-Some.count ≡ routine_arguments (slice_get setting.routines c.args.place) = c.in-Some.ensures in
    let few : length values < c.in-Some.count = rw (← c.items-values.ensures) c.if-values-count.true in
    subst (λ (n : Option ℕ). Works (operated setting (routine_of c.args.place n) (reverse values) machine) (reverse values) machine (Err (Stopped BadPointer)))
    counted
    (too_few setting c.in-Some.count (operation.routine c.args.place) values (reverse values) machine few)

pub returns-in-Ok-clause-works : goal.returns-in-Ok-clause-works
returns-in-Ok-clause-works c =
    let setting = setting_here c.args.setting.now in
    let values = c.args.stack.now.top in
    let machine = machine_of c.args.machine.now in
    let now = machine_of c.call.new.machine in
    let left = c.replace.new.stack.top in
    let place = length c.items-values.result.now - c.in-Some.count in
    let its : Option (ℕ × Operation) = Some (c.in-Some.count, operation.routine c.args.place) in
    let counted : Some c.in-Some.count ≡ routine_arguments (slice_get setting.routines c.args.place) = c.in-Some.ensures in
    let same : values ≡ take place values ++ c.split_at.result.1.now =
    cc (take-append-drop place c.items-values.result.now, c.split_at.ensures.back, c.items-values.ensures) in
    let taken : length c.split_at.result.1.now ≡ c.in-Some.count = omega arith in
    subst (λ (n : Option ℕ). Works (operated setting (routine_of c.args.place n) (reverse values) machine) (reverse left) now c.replace.result) counted
    (whole_given its setting values (take place values) c.split_at.result.1.now machine now same c.in-Ok.value left c.replace.result taken c.in-Ok.ensures.does
    c.replace.ensures.top c.replace.ensures.memory)

pub returns-in-Err-clause-works : goal.returns-in-Err-clause-works
returns-in-Err-clause-works c =
    let setting = setting_here c.args.setting.now in
    let values = c.args.stack.now.top in
    let machine = machine_of c.args.machine.now in
    let now = machine_of c.call.new.machine in
    let place = length c.items-values.result.now - c.in-Some.count in
    let its : Option (ℕ × Operation) = Some (c.in-Some.count, operation.routine c.args.place) in
    let counted : Some c.in-Some.count ≡ routine_arguments (slice_get setting.routines c.args.place) = c.in-Some.ensures in
    let same : values ≡ take place values ++ c.split_at.result.1.now =
    cc (take-append-drop place c.items-values.result.now, c.split_at.ensures.back, c.items-values.ensures) in
    let taken : length c.split_at.result.1.now ≡ c.in-Some.count = omega arith in
    subst (λ (n : Option ℕ). Works (operated setting (routine_of c.args.place n) (reverse values) machine) (reverse values) now (Err c.in-Err.why)) counted
    (whole_not its setting values (take place values) c.split_at.result.1.now machine now same values c.in-Err.why taken c.in-Err.ensures.does)
