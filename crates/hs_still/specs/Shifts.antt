-- The still machine does not see a decision of the schedule.
--     shift_still         a shift changes nothing of it
--     decided_still       nor does a decision change anything else of the state
use Rattle.std.proofs.Common.{◌≡◌, ℕ, suc, ◌+◌, Bool, true, false, not, ◌&&◌, List, [], ◌∷◌, map, refl, ap, ◌∙◌, if◌then◌else◌}
use Rattle.std.proofs.lemmas.Bool.{and_parts}
use Rattle.hs_heap.specs.Blocks.{Block}
use Rattle.hs_heap.specs.Shift.{Powers, is_named, is_present, is_loose, is_moved, is_purged, shift_from, shift}
use Rattle.hs_heap.specs.declared.decision.Decision.{Decision}
use Rattle.hs_heap.specs.declared.presence.Presence.{Presence}
use Rattle.hs_heap.specs.declared.presence.Presence.TheVariants.{Present, Emptied, Purged, Disposed}
use Rattle.hs_meaning.specs.Machine.{Machine, with_blocks}
use Rattle.hs_meaning.specs.Steps.{State as RunState, next_decision, after_decision}
use Rattle.hs_still.specs.Machines.{unpurged, still_cells, still_block, still_machine, still_state}

module _ (powers : Powers) (decision : Decision) where
  -- what is purged was present
  present_still : (it : Presence) → is_present it ≡ true → Present ≡ unpurged it
  present_still Present is = refl
  present_still Emptied is = absurd cc
  present_still Purged is = absurd cc
  present_still Disposed is = absurd cc

  -- what is purged is loose
  loose_purged : (n : ℕ) (block : Block) → is_purged powers decision n block ≡ true → is_loose block ≡ true
  loose_purged n block is =
      (and_parts (powers.purges && is_named decision.purges n) (is_loose block)
      (and_parts (powers.purges && is_named decision.purges n && is_loose block) block.purgeable is).0).1

  block_still : (n : ℕ) (block : Block) (purge move : Bool) → is_purged powers decision n block ≡ purge
      → still_block (if purge then record block { epoch = block.epoch + 1; presence = Purged }
      else if move then record block { epoch = block.epoch + 1 } else block)
      ≡ still_block block
  block_still n block true move is =
      ap (λ it. record { cells = still_cells block.cells; life = block.life; epoch = 0; locked = block.locked; purgeable = block.purgeable; presence = it })
      (present_still block.presence (and_parts (is_present block.presence) (not block.locked) (loose_purged n block is)).0)
  block_still n block false true is = refl
  block_still n block false false is = refl

  blocks_still : (n : ℕ) (blocks : List Block) → map still_block (shift_from powers decision n blocks) ≡ map still_block blocks
  blocks_still n [] = refl
  blocks_still n (block ∷ blocks) =
      ap (λ b. b ∷ map still_block (shift_from powers decision (suc n) blocks))
      (block_still n block (is_purged powers decision n block) (is_moved powers decision n block) refl)
      ∙ ap (λ bs. still_block block ∷ bs) (blocks_still (suc n) blocks)

  -- a shift changes nothing of the still machine
  pub shift_still : (machine : Machine) → still_machine (with_blocks (shift powers decision machine.blocks) machine) ≡ still_machine machine
  shift_still machine = ap (λ blocks. record (still_machine machine) { blocks = blocks }) (blocks_still 1 machine.blocks)

-- nor does a decision change anything else of the state
pub decided_still : (powers : Powers) (s : RunState) → still_state (after_decision powers s) ≡ still_state s
decided_still powers s =
    ap (λ machine. record { machine = machine; schedule = []; turns = s.turns }) (shift_still powers (next_decision s.schedule) s.machine)
