use Rattle.std.proofs.Common.{rules, ◌∙◌, sym, subst}
use Rattle.hs_lower_expressions.specs.Contexts.{setting_in}
use Rattle.hs_scalars.specs.Left.{of_scalar, IsNext}
use Rattle.hs_lower_starts.proofs.Loops.{scalars_on, scalars_next, scalars_end}
use Rattle.hs_lower_starts.proofs.parts.start_scalars.Goals as goal

-- a scalar is refused
pub returns-in_err-start_scalar-clause-emitted : goal.returns-in_err-start_scalar-clause-emitted
returns-in_err-start_scalar-clause-emitted c =
    let next = subst (λ found. IsNext found c.scalars.scalars c.next.new.self) c.in-Some.is c.in_ok-its.ensures in
    let that = c.part_for-part.ensures ∙ c.in_ok-index.ensures (of_scalar c.in-Some.its) in
    let ahead = scalars_on (setting_in c.args.context.now) c.args.to c.args.parts.now c.scalars.scalars (of_scalar c.in-Some.its) c.next.new.self next
    c.part_for-part.result that c.scalars.ops in
    rw (← c.scalars.invariant.same, ahead) (search rules)

-- a scalar is there
pub scalars-preserved : goal.scalars-preserved
scalars-preserved c =
    let next = subst (λ found. IsNext found c.scalars.scalars c.next.new.self) c.in-Some.is c.in_ok-its.ensures in
    let that = c.part_for-part.ensures ∙ c.in_ok-index.ensures (of_scalar c.in-Some.its) in
    record {
      same =
          scalars_next (setting_in c.args.context.now) c.args.to c.args.parts.now c.scalars.scalars (of_scalar c.in-Some.its) c.next.new.self next
          c.part_for-part.result that c.scalars.ops c.start_scalar.new.ops c.in_ok-start_scalar.ensures.emitted
          ∙ c.scalars.invariant.same;
      keeps = search rules;
      few = search rules;
    }

-- all of them are
pub returns-clause-emitted : goal.returns-clause-emitted
returns-clause-emitted c =
    let next = subst (λ found. IsNext found c.scalars.scalars c.next.new.self) c.in_default.is c.in_ok-its.ensures in
    sym c.scalars.invariant.same
    ∙ scalars_end (setting_in c.args.context.now) c.args.to c.args.parts.now c.scalars.scalars next.0 c.scalars.ops c.scalars.invariant.few
