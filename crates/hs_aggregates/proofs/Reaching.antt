-- What is reached from an aggregate, by its next member or element.
use Rattle.std.proofs.Common.{◌≡◌, ◌<◌, ℕ, zero, suc, ◌-◌, Bool, true, false, List, ◌∷◌, Some, None, refl, arith}
use native.Mathlib.Numerals.{unary_clauses}
use Rattle.hs_aggregates.specs.Aggregates.{reached_within, next_in, takes, advanced, fresh}
use Rattle.hs_aggregates.specs.declared.aggregates.Aggregate.{Aggregate}
use Rattle.hs_aggregates.specs.declared.aggregates.Subobject.{Subobject}
use Rattle.hs_types.specs.TypeTables.{TypeTable}

-- there is no next one
pub reached_none : (left : ℕ) (types : TypeTable) (text : Bool) (it : Aggregate) (outer : List Aggregate) → 0 < left → next_in types it ≡ None
    → reached_within left types text it outer ≡ None
reached_none zero types text it outer some is = absurd (omega arith)
reached_none (suc left) types text it outer some is = rw is refl

-- it is a scalar, or an array of characters for a string
pub reached_here : (left : ℕ) (types : TypeTable) (text : Bool) (it : Aggregate) (outer : List Aggregate) (next : Subobject) → 0 < left
    → next_in types it ≡ Some next → takes types text next ≡ true → reached_within left types text it outer ≡ Some (next, advanced it ∷ outer)
reached_here zero types text it outer next some is taken = absurd (omega arith)
reached_here (suc left) types text it outer next some is taken = rw (is, taken) refl

-- it is an aggregate
pub reached_inside : (left : ℕ) (types : TypeTable) (text : Bool) (it : Aggregate) (outer : List Aggregate) (next : Subobject) → 0 < left
    → next_in types it ≡ Some next → takes types text next ≡ false
    → reached_within (left - 1) types text (fresh next) (advanced it ∷ outer) ≡ reached_within left types text it outer
reached_inside zero types text it outer next some is taken = absurd (omega arith)
reached_inside (suc left) types text it outer next some is taken = simp unary_clauses (rw (is, taken) refl)
