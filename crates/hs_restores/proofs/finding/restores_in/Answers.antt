use Rattle.std.proofs.Common.{◌≡◌, sym, subst, ◌∙◌, false, Bool, List, [], rules, slice_get}
use Rattle.std.specs.Bool.{Decides}
use Rattle.hs_code.specs.declared.function_code.Placed.{Placed}
use Rattle.hs_effects.specs.Calling.{whole_of}
use Rattle.hs_effects.specs.Effecting.{noted}
use Rattle.hs_facts.specs.Effects.{IsRestoreAt}
use Rattle.hs_restores.specs.Laws.Restoring.{no_restore, nothing_noted}
use Rattle.hs_restores.specs.Restoring.{sets_any}
use Rattle.hs_tree.specs.declared.function.BoundRoutine.{BoundRoutine}
use Rattle.hs_restores.proofs.finding.restores_in.Goals as goal

-- no operation puts a state byte
pub returns : goal.returns
returns c at =
    let empty : c.new.result.items ≡ [] = search rules in
    subst (λ (row : List Bool). Decides (noted (slice_get row at)) (IsRestoreAt (whole_of c.args.code.now) c.args.number at)) (sym empty)
    (nothing_noted at (no_restore (whole_of c.args.code.now) c.args.number c.args.own.now c.requires.of_code
    (subst (λ (its : List BoundRoutine). sets_any its c.args.own.now.ops ≡ false) c.items.ensures
    (subst (λ (ops : List Placed). sets_any c.items.result.now ops ≡ false) c.items-2.ensures.lends (sym c.sets_any.ensures ∙ c.if-sets_any.false))) at))
