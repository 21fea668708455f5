use Rattle.std.proofs.Common.{sym, arith}
use Rattle.hs_meaning.specs.Scalars.{found_within}
use Rattle.hs_scalars.specs.Left.{fields_of, weight_within}
use Rattle.hs_scalars.proofs.Parts.{fields_none, fields_next, weight_none, weight_next}
use Rattle.hs_scalars.proofs.pending.opened_fields.Goals as goal

-- no field is left
pub returns-in_default-clause-same : goal.returns-in_default-clause-same
returns-in_default-clause-same c =
    sym (fields_none (fields_of c.args.types.now c.args.number) c.args.place (found_within c.args.levels c.args.types.now) c.args.at c.args.number
    (sym c.in_default.ensures))

pub returns-in_default-clause-falls : goal.returns-in_default-clause-falls
returns-in_default-clause-falls c =
    omega (arith, weight_none (fields_of c.args.types.now c.args.number) c.args.place (weight_within c.args.levels c.args.types.now) (sym c.in_default.ensures))

-- the next field, and those after it
pub returns-clause-same : goal.returns-clause-same
returns-clause-same c =
    rw (c.in_ok-sum.ensures, c.in_ok-sum-2.ensures)
    (fields_next (fields_of c.args.types.now c.args.number) c.args.place (found_within c.args.levels c.args.types.now) c.args.at c.args.number
    c.in-Some.field (sym c.in-Some.ensures))

pub returns-clause-falls : goal.returns-clause-falls
returns-clause-falls c =
    rw c.in_ok-sum.ensures
    (omega (
      arith,
      weight_next (fields_of c.args.types.now c.args.number) c.args.place (weight_within c.args.levels c.args.types.now) c.in-Some.field
          (sym c.in-Some.ensures),
    ))
