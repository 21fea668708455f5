use Rattle.std.proofs.Common.{ap, sym, ◌∙◌}
use Rattle.std.specs.Prelude.{slice_get}
use Rattle.hs_types.specs.TableLaws.{IsRight-with_constants, grows_constants, awaits_none}
use Rattle.hs_types.proofs.types.Types.complete_enumeration.Goals as goal

-- the constants come where there were none
pub invariant_of-self : goal.invariant_of-self
invariant_of-self c =
    let none = awaits_none _ (sym c.enumeration_awaits_body.ensures ∙ c.if-not-enumeration_awaits_body.false) in
    IsRight-with_constants _ c.args.number c.args.constants (ap (λ it. slice_get it.enumerations c.args.number) c.self.view_is ∙ none)
    c.self.invariant

-- nothing that was there changes
pub returns-clause-grows : goal.returns-clause-grows
returns-clause-grows c =
    let none = awaits_none _ (sym c.enumeration_awaits_body.ensures ∙ c.if-not-enumeration_awaits_body.false) in
    rw (← c.self.view_is)
    (grows_constants _ c.args.number c.args.constants (ap (λ it. slice_get it.enumerations c.args.number) c.self.view_is ∙ none))
