-- Blocks that are there, after a part of a run that has only some effects (own).
--     made_since        a block that was made is there
--     alive_since       it is not disposed of, if nothing disposes
--     present_since     if nothing unlocks, it is present only if it was
use Rattle.std.proofs.Common.{◌≡◌, ℕ, zero, suc, false, slice_get, sym, ap, ◌∙◌}
use Rattle.std.proofs.lemmas.Option.{none-some, same_Some}
use Rattle.hs_heap.specs.Shift.{is_present}
use Rattle.hs_hiding.specs.Holding.{IsAlive, IsPresent, IsMade}
use Rattle.hs_meaning.specs.Machine.{Machine}
use Rattle.hs_sound_heap.specs.Since.{May, Since, IsThere}

pub alive_since : (may : May) (old new : Machine) (n : ℕ) → Since may old.blocks new.blocks → may.disposes ≡ false → IsAlive old n → IsAlive new n
alive_since may old new zero since none a = absurd (none-some a.block a.there)
alive_since may old new (suc place) since none a = on (since place a.block a.there)
  where
    on : IsThere may a.block (slice_get new.blocks place) → IsAlive new (suc place)
    on x = record { block = x.block; there = x.there; alive = x.since.disposed none a.alive }

pub made_since : (may : May) (old new : Machine) (n : ℕ) → Since may old.blocks new.blocks → IsMade old n → IsMade new n
made_since may old new zero since e = absurd (none-some e.block e.there)
made_since may old new (suc place) since e = on (since place e.block e.there)
  where
    on : IsThere may e.block (slice_get new.blocks place) → IsMade new (suc place)
    on x = record { block = x.block; there = x.there }

-- without UNLOCKS no block gets new cells
pub present_since : (may : May) (old new : Machine) (n : ℕ) → Since may old.blocks new.blocks → may.unlocks ≡ false → IsMade old n → IsPresent new n
    → IsPresent old n
present_since may old new zero since none e p = absurd (none-some e.block e.there)
present_since may old new (suc place) since none e p = on (since place e.block e.there)
  where
    on : IsThere may e.block (slice_get new.blocks place) → IsPresent old (suc place)
    on x =
        record {
          block = e.block;
          there = e.there;
          present = x.since.revived none (ap (λ b. is_present b.presence) (same_Some x.block p.block (sym x.there ∙ p.there)) ∙ p.present);
        }
