use Rattle.std.proofs.Common.{◌≡◌, ◌-◌, ◌∙◌, Some, ap, arith, subst}
use Rattle.hs_taint.specs.Laws.Points.{IsPoint}
use Rattle.hs_taint.proofs.Owners.{found_point, located, owner_below, owner_is, start_at_most, start_below}
use Rattle.hs_taint.proofs.operations.Operations.at.Goals as goal

-- the number has an owner
pub index-function-requires : goal.index-function-requires
index-function-requires c =
    let below = owner_below c.args.self.now.functions.now c.args.self.now.starts.items c.args.self.now.owners.items c.args.number
    c.args.self.now.starts_are c.args.self.now.owners_are c.requires.within in
    omega (arith, below)

-- and that has a start
pub index-requires : goal.index-requires
index-requires c =
    let below = start_below c.args.self.now.functions.now c.args.self.now.starts.items c.args.self.now.owners.items c.args.number
    c.args.self.now.starts_are c.args.self.now.owners_are c.requires.within in
    let same = owner_is c.args.self.now.functions.now c.args.self.now.starts.items c.args.self.now.owners.items c.args.number
    c.args.self.now.starts_are c.args.self.now.owners_are c.requires.within c.index-function.result.now in
    let owner = c.index-function.ensures in
    omega (arith, below, same, owner)

-- which is not above it
pub overflow_sub-result : goal.overflow_sub-result
overflow_sub-result c =
    start_at_most c.args.self.now.functions.now c.args.self.now.starts.items c.args.self.now.owners.items c.args.number
    c.args.self.now.starts_are c.args.self.now.owners_are c.requires.within c.index-function.result.now c.index.result.now
    c.index-function.result.now c.index.result.now c.index-function.ensures c.index.ensures

pub returns-clause-point : goal.returns-clause-point
returns-clause-point c =
    let it = located c.args.self.now.functions.now c.args.number c.requires.within in
    let same : it.p ≡ record { function = c.index-function.result.now; at = c.args.number - c.index.result.now } =
    found_point c.args.self.now.functions.now c.args.self.now.starts.items c.args.self.now.owners.items c.args.number
    c.args.self.now.starts_are c.args.self.now.owners_are c.requires.within c.index-function.result.now c.index.result.now
    c.index-function.result.now c.index.result.now c.index-function.ensures c.index.ensures in
    it.point ∙ ap Some same

pub returns-clause-there : goal.returns-clause-there
returns-clause-there c =
    let it = located c.args.self.now.functions.now c.args.number c.requires.within in
    let same : it.p ≡ record { function = c.index-function.result.now; at = c.args.number - c.index.result.now } =
    found_point c.args.self.now.functions.now c.args.self.now.starts.items c.args.self.now.owners.items c.args.number
    c.args.self.now.starts_are c.args.self.now.owners_are c.requires.within c.index-function.result.now c.index.result.now
    c.index-function.result.now c.index.result.now c.index-function.ensures c.index.ensures in
    subst (IsPoint c.args.self.now.functions.now c.args.number) same it.there
