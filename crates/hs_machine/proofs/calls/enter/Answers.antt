-- The arguments are the values on top.
use Rattle.std.proofs.Common.{◌≡◌, ◌-◌, ℕ, List, length, take, drop, reverse, Result, Ok, Err, sym, ap, ◌∙◌, subst}
use Rattle.hs_code_run.specs.Steps.{taken}
use Rattle.hs_machine.proofs.Taking.{taken_last, below_last}
use Rattle.hs_machine.proofs.calls.enter.Goals as goal
use Rattle.hs_meaning.specs.Frames.{opened}
use Rattle.hs_meaning.specs.Machine.{Machine}
use Rattle.hs_meaning.specs.Settings.{Setting}
use Rattle.hs_meaning.specs.Values.{Value}
use Rattle.hs_state.specs.Machines.{Does, machine_of}
use Rattle.hs_state.specs.Settings.{setting_here}
use Rattle.hs_tree.specs.declared.head.VariableDecl.{VariableDecl}
use Rattle.hs_values.specs.declared.halt.Halt.{Halt}

-- by the place where they begin
last_ones : (count place : ℕ) (items values back : List Value) → items ≡ values → place ≡ length items - count → back ≡ drop place items
    → back ≡ taken count (reverse values)
last_ones count place items values back same at is =
    is
    ∙ ap (λ (n : ℕ). drop n items) at
    ∙ ap (λ (l : List Value). drop (length l - count) l) same
    ∙ sym (taken_last count values)

-- with the variables and the arguments by other names
does_so : (setting : Setting) (count : ℕ) (given variables : List VariableDecl) (values arguments : List Value) (old new : Machine)
    (result : Result Unit Halt) → given ≡ variables → values ≡ arguments → Does (opened setting count given values old) new result
    → Does (opened setting count variables arguments old) new result
does_so setting count given variables values arguments old new result are is does =
    subst (λ (l : List Value). Does (opened setting count variables l old) new result) is
    (subst (λ (v : List VariableDecl). Does (opened setting count v values old) new result) are does)

pub returns-in-Ok-clause-does : goal.returns-in-Ok-clause-does
returns-in-Ok-clause-does c =
    let count = c.args.callee.function.now.parameters in
    let arguments = last_ones count c.saturating_sub-low.result c.items-values.result.now c.args.stack.now.top c.split_at.result.1.now c.items-values.ensures
    c.saturating_sub-low.ensures c.split_at.ensures.back in
    does_so (setting_here c.args.setting.now) count c.items-variables.result.now c.args.callee.function.now.variables c.split_at.result.1.now
    (taken count (reverse c.args.stack.now.top)) (machine_of c.args.machine.now) (machine_of c.open.new.machine) (Ok tt) c.items-variables.ensures arguments
    c.in-Ok.ensures.does

pub returns-in-Ok-clause-top : goal.returns-in-Ok-clause-top
returns-in-Ok-clause-top c =
    let count = c.args.callee.function.now.parameters in
    let values = c.args.stack.now.top in
    ap reverse c.truncate.ensures.top
    ∙ ap (λ (n : ℕ). reverse (take n values)) (c.saturating_sub-low.ensures ∙ ap (λ (l : List Value). length l - count) c.items-values.ensures)
    ∙ sym (below_last count values)

pub returns-in-Err-clause-does : goal.returns-in-Err-clause-does
returns-in-Err-clause-does c =
    let count = c.args.callee.function.now.parameters in
    let arguments = last_ones count c.saturating_sub-low.result c.items-values.result.now c.args.stack.now.top c.split_at.result.1.now c.items-values.ensures
    c.saturating_sub-low.ensures c.split_at.ensures.back in
    does_so (setting_here c.args.setting.now) count c.items-variables.result.now c.args.callee.function.now.variables c.split_at.result.1.now
    (taken count (reverse c.args.stack.now.top)) (machine_of c.args.machine.now) (machine_of c.open.new.machine) (Err c.in-Err.why) c.items-variables.ensures
    arguments c.in-Err.ensures.does
