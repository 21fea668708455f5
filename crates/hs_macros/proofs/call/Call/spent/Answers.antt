use Rattle.std.proofs.Common.{rules}
use Rattle.hs_macros.specs.Numbers.{named}
use Rattle.hs_macros.specs.Replacement.{placed_at}
use Rattle.hs_macros.specs.Stacks.{ready}
use Rattle.hs_macros.proofs.Places.{flat_map-tokens_of}
use Rattle.hs_macros.proofs.call.Call.spent.Goals as goal

-- the tokens pass the limit
pub returns-in_default : goal.returns-in_default
returns-in_default c names =
    let hides = named names c.args.self.now.hides.value in
    let room = c.room_left.ensures names c.args.self.now.pos hides in
    let all = flat_map-tokens_of (placed_at c.args.self.now.pos hides (ready names c.args.self.now.ready.items)) c.args.self.now.body.now in
    rw all (search rules)

-- the tokens fit
pub returns : goal.returns
returns c names =
    let hides = named names c.args.self.now.hides.value in
    let room = c.room_left.ensures names c.args.self.now.pos hides in
    let all = flat_map-tokens_of (placed_at c.args.self.now.pos hides (ready names c.args.self.now.ready.items)) c.args.self.now.body.now in
    rw all (search rules)
