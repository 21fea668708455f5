use Rattle.std.proofs.Common.{take}
use Rattle.hs_macros.specs.Slots.{HasTexts}
use Rattle.hs_macros.proofs.slot.texts_of.Given as goal

-- the texts so far
abbrev pub invariant-tokens : goal.invariant-tokens
invariant-tokens l = HasTexts (take l.token-index l.tokens) l.texts
