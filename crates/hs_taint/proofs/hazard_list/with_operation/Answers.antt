use Rattle.std.proofs.Common.{◌≡◌, ◌+◌, ◌++◌, ◌∙◌, Err, Global, IfOk, List, Ok, Result, Vec, arith, suc, ap, subst, sym}
use Rattle.hs_base.specs.declared.errors.NoMemory.{NoMemory}
use Rattle.hs_effects.specs.Calling.{whole_of}
use Rattle.hs_taint.specs.Laws.Listing.{hazards_more}
use Rattle.hs_taint.specs.Listing.{AreHazardsTo, listed_if}
use Rattle.hs_taint.specs.declared.hazard.Hazard.{Hazard}
use Rattle.hs_taint.specs.declared.hazard.HazardKind.TheVariants as kind
use Rattle.hs_taint.proofs.hazard_list.with_operation.Goals as goal

-- what is so of a list is so of one with the same items
if_items : (P : List Hazard → Type 0) (its : List Hazard) (result : Result (Vec Hazard Global) NoMemory) → IfOk result (λ now. now.items ≡ its) → P its
    → IfOk result (λ now. P now.items)
if_items P its (Ok now) are is = subst P (sym are) is
if_items P its (Err end) are is = tt

-- with those of one operation more
pub returns : goal.returns
returns c =
    let one : suc c.args.at ≡ c.args.at + 1 = omega (arith) in
    let first : Hazard = record { function = c.args.function; at = c.args.at; kind = kind.Moved; pos = c.args.its.at } in
    let second : Hazard = record { function = c.args.function; at = c.args.at; kind = kind.Purged; pos = c.args.its.at } in
    let same : (c.args.all.items ++ listed_if c.is_hazard-moved.result first) ++ listed_if c.is_hazard-purged.result second
    ≡ c.in_ok-all.all.items ++ listed_if c.is_hazard-purged.result c.hazard-2.result =
    λ i. (sym (c.in_ok-all.ensures ∙ ap (λ h. c.args.all.items ++ listed_if c.is_hazard-moved.result h) c.hazard.ensures)) i
    ++ listed_if c.is_hazard-purged.result (sym c.hazard-2.ensures i) in
    let are : AreHazardsTo (whole_of c.args.code.now) c.args.function (suc c.args.at)
    ((c.args.all.items ++ listed_if c.is_hazard-moved.result first) ++ listed_if c.is_hazard-purged.result second) =
    hazards_more (whole_of c.args.code.now) c.args.function c.args.at c.args.its c.args.all.items c.is_hazard-moved.result
    c.is_hazard-purged.result c.requires.placed c.requires.so_far c.is_hazard-moved.ensures c.is_hazard-purged.ensures in
    if_items (AreHazardsTo (whole_of c.args.code.now) c.args.function (c.args.at + 1))
    (c.in_ok-all.all.items ++ listed_if c.is_hazard-purged.result c.hazard-2.result) c.with_if-2.result c.with_if-2.ensures
    (subst (λ at. AreHazardsTo (whole_of c.args.code.now) c.args.function at (c.in_ok-all.all.items ++ listed_if c.is_hazard-purged.result c.hazard-2.result))
    one (subst (AreHazardsTo (whole_of c.args.code.now) c.args.function (suc c.args.at)) same are))
