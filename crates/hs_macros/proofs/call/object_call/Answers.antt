use Rattle.std.proofs.Common.{ap, ◌∙◌}
use Rattle.std.specs.FinSet as set
use Rattle.hs_macros.specs.HideSets.{HideSet}
use Rattle.hs_macros.specs.Slots.{tokens_of}
use Rattle.hs_macros.specs.Stacks.{ahead}
use Rattle.hs_macros.specs.declared.hide_set.HideSet.{HideSet as NumberSet}
use Rattle.hs_macros.proofs.Calls.{hides_object}
use Rattle.hs_macros.proofs.call.object_call.Goals as goal

-- the numbers that are hidden name what the definition hides
pub returns-clause-call : goal.returns-clause-call
returns-clause-call c names is =
    let inserts = c.in_ok-new.ensures.ok ∙ c.in_ok-hides.ensures ∙ ap (λ (before : NumberSet). set.insert before c.args.number) c.deref.ensures in
    let hides = hides_object names c.args.name.now.hides.value _ c.args.name.now.token.now.text c.args.number is inserts in
    ap (λ (hides' : HideSet). record { body = tokens_of c.args.body.now; pos = c.args.name.now.pos; hides = hides'; behind = ahead names c.args.behind.items })
    hides
