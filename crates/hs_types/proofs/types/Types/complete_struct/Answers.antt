use Rattle.std.proofs.Common.{ap, sym, ◌∙◌, subst}
use Rattle.std.specs.Prelude.{slice_get}
use Rattle.hs_types.specs.TypeTables.{HaveLayouts}
use Rattle.hs_types.proofs.Layouts.{laid-is_body, measured_have}
use Rattle.hs_types.specs.TableLaws.{IsRight-with_body, grows_body, awaits_none}
use Rattle.hs_types.proofs.types.Types.complete_struct.Goals as goal

-- the body comes where there was none, and its fields have the layouts of their types
pub invariant_of-self : goal.invariant_of-self
invariant_of-self c =
    let none = awaits_none _ (sym c.struct_awaits_body.ensures ∙ c.if-not-struct_awaits_body.false) in
    IsRight-with_body _ c.args.number c.in_ok-body.body (ap (λ it. slice_get it.structs c.args.number) c.self.view_is ∙ none)
    (laid-is_body _ c.in_ok-members.members.items c.in_ok-body.body
    (subst (λ types. HaveLayouts types c.in_ok-members.members.items) (sym c.self.view_is)
    (measured_have c.args.self.now c.args.members.items c.in_ok-members.members.items c.in_ok-members.ensures.members))
    c.in_ok-body.ensures.body)
    c.self.invariant

-- nothing that was there changes
pub returns-clause-grows : goal.returns-clause-grows
returns-clause-grows c =
    let none = awaits_none _ (sym c.struct_awaits_body.ensures ∙ c.if-not-struct_awaits_body.false) in
    rw (← c.self.view_is)
    (grows_body _ c.args.number c.in_ok-body.body (ap (λ it. slice_get it.structs c.args.number) c.self.view_is ∙ none))
