-- Buffers of facts.
--     Buffer                  its facts and its room
--     HasRoom count buffer    there is room for so many facts more
use Rattle.std.specs.Prelude.{◌≤◌, ◌+◌, ℕ, List, length}
use Rattle.hs_flow.specs.declared.fact.Fact.{Fact}

-- the facts of a buffer, and how many it can have
pub record Buffer : Type 0 where
  pub facts : List Fact
  pub room : ℕ

-- after those that are there
abbrev pub HasRoom : ℕ → Buffer → Type 0
HasRoom count buffer = length buffer.facts + count ≤ buffer.room
