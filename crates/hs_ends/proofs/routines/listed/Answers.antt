use Rattle.std.proofs.Common.{◌≡◌, [], ◌∷◌, ◌++◌, Some, ◌-◌, suc, true, false, length, slice_get, is_some, sym, ap, ◌∙◌, arith}
use Rattle.hs_types.specs.declared.row.Parameters.TheVariants.{More}
use Rattle.hs_ends.specs.Ends.{listed_in}
use Rattle.hs_ends.proofs.Turns.{left_there, no_turn, turn_goes_on}
use Rattle.hs_ends.proofs.routines.listed.Goals as goal

-- one turn fewer is left
pub turn-smaller : goal.turn-smaller
turn-smaller c =
    let there : is_some (slice_get c.args.types.now.lists c.turn.turn) ≡ true
    = grind (arith, c.parameters.ensures, c.is_some.ensures, c.turn-test.true) in
    let next : c.in_ok-turn.turn ≡ suc c.turn.turn = c.in_ok-turn.ensures in
    let left : length c.args.types.now.lists - c.turn.turn ≡ suc (length c.args.types.now.lists - suc c.turn.turn)
    = left_there c.args.types.now.lists c.turn.turn there in
    omega (arith, next, left)

-- one type more is done
pub turn-preserved : goal.turn-preserved
turn-preserved c =
    let there : is_some (slice_get c.args.types.now.lists c.turn.turn) ≡ true
    = grind (arith, c.parameters.ensures, c.is_some.ensures, c.turn-test.true) in
    let next : c.in_ok-turn.turn ≡ suc c.turn.turn = c.in_ok-turn.ensures in
    let pushed : c.push.new.self.items ≡ c.turn.done.items ++ c.in-Some-More.first ∷ [] = c.in_ok-push.ensures.items in
    let listed : slice_get c.args.types.now.lists c.turn.left.number ≡ Some (More c.in-Some-More.first c.in-Some-More.others)
    = sym c.parameters-in-turn.ensures ∙ c.in-Some-More.is ∙ ap Some c.in-Some-More.field-0-is in
    ap (λ turn. listed_in (length c.args.types.now.lists - turn) c.args.types.now c.push.new.self.items c.in-Some-More.others) next
    ∙ ap (λ items. listed_in (length c.args.types.now.lists - suc c.turn.turn) c.args.types.now items c.in-Some-More.others) pushed
    ∙ sym (turn_goes_on c.args.types.now c.turn.turn c.turn.done.items c.turn.left c.in-Some-More.first c.in-Some-More.others there listed)
    ∙ c.turn.invariant

-- no list is left
pub returns : goal.returns
returns c =
    let over : is_some (slice_get c.args.types.now.lists c.turn.turn) ≡ false
    = grind (arith, c.parameters.ensures, c.is_some.ensures, c.turn-test.false) in
    c.from_vec-2.ensures ∙ sym (no_turn c.args.types.now c.turn.turn c.turn.done.items c.turn.left over) ∙ c.turn.invariant
