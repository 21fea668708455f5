use Rattle.std.proofs.Common.{◌≡◌, ◌+◌, ◌≤◌, ◌∷◌, drop, ap, ap₂, ◌∙◌, arith}
use Rattle.hs_syntax.specs.declared.level.Level.{Level}
use Rattle.hs_syntax.specs.Counts.{deepeners_on, all_deepeners}
use Rattle.hs_syntax.proofs.Opening.{room_left, slot_taken, open_follows}
use Rattle.hs_syntax.proofs.nesting.Nesting.open.Goals as goal

-- the levels around have a deepener each
pub overflow_sub-self : goal.overflow_sub-self
overflow_sub-self c =
    room_left c.self.inside.free c.self.inside.around (omega arith) c.self.invariant.1 (omega (arith, ap all_deepeners c.self.view_is))

-- the level that is put around has the bracket's deepener
pub invariant_of-self : goal.invariant_of-self
invariant_of-self c =
    let inside = c.self.inside in
    let room : 1 ≤ inside.free = room_left inside.free inside.around (omega arith) c.self.invariant.1 (omega (arith, ap all_deepeners c.self.view_is)) in
    let taken = slot_taken inside.free inside.around c.with-level.result room (omega arith) in
    let more : deepeners_on c.with-level.result ≡ deepeners_on inside.level + 1 = omega (arith, ap deepeners_on c.with-level.ensures) in
    let bare : deepeners_on c.bare-self-inside.result ≡ 0 = omega (arith, ap deepeners_on c.bare-self-inside.ensures) in
    (omega arith, rw taken (omega arith, c.self.invariant.1), rw taken (omega arith), omega (arith, ap all_deepeners c.self.view_is))

-- the level that is put around stands in front of the others
pub returns : goal.returns
returns c levels same =
    let inside = c.self.inside in
    let room : 1 ≤ inside.free = room_left inside.free inside.around (omega arith) c.self.invariant.1 (omega (arith, ap all_deepeners c.self.view_is)) in
    let taken = slot_taken inside.free inside.around c.with-level.result room (omega arith) in
    let around = drop inside.free inside.around in
    ap₂ ◌∷◌ c.bare-self-inside.ensures (taken ∙ ap (λ (level : Level). level ∷ around) c.with-level.ensures)
    ∙ open_follows inside.level around levels (c.self.view_is ∙ same)
