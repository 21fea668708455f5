use Rattle.std.proofs.Common.{◌≡◌, take}
use Rattle.hs_macros.specs.Lines.{names_of}
use Rattle.hs_macros.specs.Slots.{tokens_of, ArePlaced}
use Rattle.hs_macros.proofs.slot.slots_of.Given as goal

-- the tokens that were passed are copied, and know their parameters
abbrev pub invariant-tokens : goal.invariant-tokens
invariant-tokens l = record {
  copied : tokens_of l.body.items ≡ take l.token-index l.tokens;
  placed : ArePlaced (names_of l.names) l.body.items;
}
