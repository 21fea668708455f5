-- Readings that call one another on shorter lists of tokens.
--     Table Read          for each goal a reading: what is read, and the tokens after it, or nothing
--     below limit table   the same on shorter lists than the limit alone
--     fixed rule          the table in which each goal is read by its rule, which reads the others on shorter lists
use Rattle.std.specs.Prelude.{ℕ, zero, suc, nat_lt, List, length, Option, None, if◌then◌else◌}
use Rattle.hs_tokens.specs.declared.token.SourceToken.{SourceToken}

-- what a reading gives
abbrev pub Read : Type 0 → Type 0
Read A = Option (A × List SourceToken)

-- a reading for each goal
abbrev pub Table : (Goal : Type 0) → (Goal → Type 0) → Type 0
Table Goal Tree = (goal : Goal) → List SourceToken → Read (Tree goal)

-- on shorter lists than the limit alone
abbrev pub below : {Goal : Type 0} {Tree : Goal → Type 0} → ℕ → Table Goal Tree → Table Goal Tree
below limit table goal tokens = if nat_lt (length tokens) limit then table goal tokens else None

-- the rules applied that many times, one inside another
abbrev pub rounds : {Goal : Type 0} {Tree : Goal → Type 0} → (Table Goal Tree → Table Goal Tree) → ℕ → Table Goal Tree
rounds rule zero goal tokens = None
rounds rule (suc n) goal tokens = rule (below (length tokens) (rounds rule n)) goal tokens

-- each goal by its rule
abbrev pub fixed : {Goal : Type 0} {Tree : Goal → Type 0} → (Table Goal Tree → Table Goal Tree) → Table Goal Tree
fixed rule goal tokens = rounds rule (suc (length tokens)) goal tokens
