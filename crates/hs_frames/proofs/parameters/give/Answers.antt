use Rattle.std.proofs.Common.{◌≡◌, sym, ap, ◌∙◌, rules, None}
use Rattle.hs_code_run.specs.Steps.{access_of}
use Rattle.hs_meaning.specs.Settings.{access_of_type}
use Rattle.hs_state.specs.Bindings.{place_of}
use Rattle.hs_state.specs.Machines.{machine_of}
use Rattle.hs_state.specs.Settings.{setting_here}
use Rattle.hs_frames.proofs.Giving.{found, given_object, given_slot}
use Rattle.hs_frames.proofs.parameters.give.Goals as goal

-- the parameter is an object
pub returns-in-Some-place-clause-does : goal.returns-in-Some-place-clause-does
returns-in-Some-place-clause-does c =
    let here = found c.items.result.now c.args.machine.now.locals.top c.args.place c.in-Some.binding.now c.items.ensures
    c.in-Some.ensures.lookup.3.0 c.in-Some.ensures.lookup.1
    in given_object (setting_here c.args.setting.now) c.args.place c.args.id c.args.value.now _ c.in-Some.binding.now c.in-Some-place.object
    (access_of c.access_of_type-access.result) (machine_of c.args.machine.now) _ _ here (sym c.in-Some-place.ensures)
    (c.access_of_type-access.ensures ∙ ap (access_of_type (setting_here c.args.setting.now) c.args.id) c.class_of_type.ensures)
    c.put.ensures.does

-- the parameter is a slot
pub returns-in_ok-value-in-None-clause-does : goal.returns-in_ok-value-in-None-clause-does
returns-in_ok-value-in-None-clause-does c =
    let here = found c.items.result.now c.args.machine.now.locals.top c.args.place c.in-Some.binding.now c.items.ensures
    c.in-Some.ensures.lookup.3.0 c.in-Some.ensures.lookup.1
    in let slot : place_of c.in-Some.binding.now ≡ None = sym c.in-None.ensures
    in rw (
      given_slot (setting_here c.args.setting.now) c.args.place c.args.id c.args.value.now _ c.in-Some.binding.now
          (machine_of c.args.machine.now) here slot,
      ← c.in_ok-value-in-None.ensures,
      ← c.slot.ensures,
      ← c.set.ensures.top,
    )
    (search rules)
