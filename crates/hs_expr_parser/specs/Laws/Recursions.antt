-- The fixed table reads each goal by its rule, if the others are read by the table itself on shorter lists.
--     below_is                 a reading on a list below the limit
--     fixed_is                 one round of the fixed table
--     Always Holds table       the fact holds of all that the table reads
--     fixed_always             it does so of the fixed table, if the rules keep it
--     Short table              what is left is no longer than what was read
--     IsByRules rule table     the table reads by the rules; `round`: it is one round of them
use Rattle.std.proofs.Common.{◌≡◌, ℕ, zero, suc, ◌<◌, ◌≤◌, Bool, true, false, List, length, Some, None, refl, inl, inr, arith}
use Rattle.std.specs.Prelude.{nat_lt, if◌then◌else◌}
use Rattle.std.proofs.lemmas.Bool.{cases_Bool}
use Rattle.std.proofs.lemmas.Bool.Decides.{nat_tests}
use Rattle.hs_tokens.specs.declared.token.SourceToken.{SourceToken}
use Rattle.hs_expr_parser.specs.Recursion.{Table, below, rounds, fixed}

-- a reading on a list below the limit
pub below_is : {Goal : Type 0} {Tree : Goal → Type 0} (limit : ℕ) (table : Table Goal Tree) (goal : Goal) (tokens : List SourceToken)
    → length tokens < limit → below limit table goal tokens ≡ table goal tokens
below_is limit table goal tokens short =
    let is : nat_lt (length tokens) limit ≡ true = grind (arith, nat_tests) in
    rw is refl

-- tables that are the same on the lists below a limit
below_same : {Goal : Type 0} {Tree : Goal → Type 0} (limit : ℕ) (table other : Table Goal Tree)
    → ((goal : Goal) (tokens : List SourceToken) → length tokens < limit → table goal tokens ≡ other goal tokens)
    → (goal : Goal) (tokens : List SourceToken) → below limit table goal tokens ≡ below limit other goal tokens
below_same limit table other same goal tokens =
    elim (cases_Bool (nat_lt (length tokens) limit)) [
      | inl is ↦
          let short : length tokens < limit = grind (arith, nat_tests) in
          rw is (same goal tokens short)
      | inr is ↦ rw is refl
    ]

-- rounds enough are as good as more
enough : {Goal : Type 0} {Tree : Goal → Type 0} (rule : Table Goal Tree → Table Goal Tree) (n m : ℕ) (goal : Goal) (tokens : List SourceToken)
    → length tokens < n → length tokens < m → rounds rule n goal tokens ≡ rounds rule m goal tokens
enough rule zero m goal tokens low high = absurd (omega arith)
enough rule (suc n) zero goal tokens low high = absurd (omega arith)
enough rule (suc n) (suc m) goal tokens low high =
    let same = below_same (length tokens) (rounds rule n) (rounds rule m)
    (λ it rest short. enough rule n m it rest (omega arith) (omega arith)) in
    λ i. rule (λ it rest. same it rest i) goal tokens

-- one round of the fixed table
pub fixed_is : {Goal : Type 0} {Tree : Goal → Type 0} (rule : Table Goal Tree → Table Goal Tree) (goal : Goal) (tokens : List SourceToken)
    → fixed rule goal tokens ≡ rule (below (length tokens) (fixed rule)) goal tokens
fixed_is rule goal tokens =
    let same = below_same (length tokens) (rounds rule (length tokens)) (fixed rule)
    (λ it rest short. enough rule (length tokens) (suc (length rest)) it rest short (omega arith)) in
    λ i. rule (λ it rest. same it rest i) goal tokens

-- a fact of each goal: of what is read, of the tokens before it and of those that are left
abbrev pub Fact : (Goal : Type 0) → (Goal → Type 0) → Type 1
Fact Goal Tree = (it : Goal) → Tree it → List SourceToken → List SourceToken → Type 0

-- the fact holds of all that the table reads
abbrev pub Always : {Goal : Type 0} {Tree : Goal → Type 0} → Fact Goal Tree → Table Goal Tree → Type 0
Always {Goal = Goal} {Tree = Tree} Holds table =
    (it : Goal) (tokens : List SourceToken) (tree : Tree it) (rest : List SourceToken) → table it tokens ≡ Some (tree, rest) → Holds it tree tokens rest

module _ {Goal : Type 0} {Tree : Goal → Type 0} (Holds : Fact Goal Tree) (rule : Table Goal Tree → Table Goal Tree)
    (kept : (table : Table Goal Tree) → Always Holds table → Always Holds (rule table)) where
  -- below a limit nothing else is read
  below_always : (limit : ℕ) (table : Table Goal Tree) → Always Holds table → Always Holds (below limit table)
  below_always limit table always it tokens tree rest = by_test (nat_lt (length tokens) limit)
    where
      by_test : (shorter : Bool) → (if shorter then table it tokens else None) ≡ Some (tree, rest) → Holds it tree tokens rest
      by_test true is = always it tokens tree rest is
      by_test false is = absurd cc

  -- by induction on the number of rounds
  rounds_always : (n : ℕ) → Always Holds (rounds rule n)
  rounds_always zero it tokens tree rest is = absurd cc
  rounds_always (suc n) it tokens tree rest is =
      kept (below (length tokens) (rounds rule n)) (below_always (length tokens) (rounds rule n) (rounds_always n)) it tokens tree rest is

  -- what the rules keep holds of all that the fixed table reads
  pub fixed_always : Always Holds (fixed rule)
  fixed_always it tokens tree rest is = rounds_always (suc (length tokens)) it tokens tree rest is

-- what is left is no longer than what was read
abbrev pub Short : {Goal : Type 0} {Tree : Goal → Type 0} → Table Goal Tree → Type 0
Short {Goal = Goal} {Tree = Tree} table =
    (it : Goal) (tokens : List SourceToken) (tree : Tree it) (rest : List SourceToken) → table it tokens ≡ Some (tree, rest) → length rest ≤ length tokens

-- a table that reads by the rules
pub record IsByRules {Goal : Type 0} {Tree : Goal → Type 0} (rule : Table Goal Tree → Table Goal Tree) (table : Table Goal Tree) : Type 0 where
  pub plain : (it : Goal) (tokens : List SourceToken) → table it tokens ≡ rule table it tokens
  pub short : Short table

-- it is one round of them
pub round : {Goal : Type 0} {Tree : Goal → Type 0} {rule : Table Goal Tree → Table Goal Tree} {table : Table Goal Tree} → IsByRules rule table → table
    ≡ rule table
round reads = λ i it tokens. reads.plain it tokens i
