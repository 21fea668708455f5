-- Rules that ask a table about shorter lists alone.
--     asks              what the table reads below a limit
--     AsksLess rule     the rule reads the same over shorter lists alone, and leaves no more than it reads
--     rule_short        so what it leaves is no longer than what it reads
--     fixed_by_rules    and the fixed table reads by the rules
use Rattle.std.proofs.Common.{◌≡◌, ℕ, suc, ◌<◌, ◌≤◌, List, length, ◌∙◌, arith}
use Rattle.hs_tokens.specs.declared.token.SourceToken.{SourceToken}
use Rattle.hs_expr_parser.specs.Recursion.{Table, below, fixed}
use Rattle.hs_expr_parser.specs.Laws.Bound.{Alike}
use Rattle.hs_expr_parser.specs.Laws.Recursions.{below_is, fixed_is, fixed_always, Short, IsByRules}

-- what the table reads below a limit
pub asks : {Goal : Type 0} {Tree : Goal → Type 0} (limit : ℕ) (table : Table Goal Tree) → Short table → (it : Goal) (tokens : List SourceToken)
    → length tokens < limit → Alike (suc (length tokens)) (below limit table it tokens) (table it tokens)
asks limit table shorts it tokens low =
    record {
      same = below_is limit table it tokens low;
      short = λ all is.
          let short : length all.1 ≤ length tokens = shorts it tokens all.0 all.1 is in
          omega arith;
    }

-- the rule reads the same over shorter lists alone, and leaves no more than it reads
abbrev pub AsksLess : {Goal : Type 0} {Tree : Goal → Type 0} → (Table Goal Tree → Table Goal Tree) → Type 0
AsksLess {Goal = Goal} {Tree = Tree} rule =
    (limit : ℕ) (table : Table Goal Tree) → Short table → (it : Goal) (tokens : List SourceToken) → length tokens ≤ limit
    → Alike (suc (length tokens)) (rule (below limit table) it tokens) (rule table it tokens)

module _ {Goal : Type 0} {Tree : Goal → Type 0} (rule : Table Goal Tree → Table Goal Tree) (less : AsksLess rule) where
  -- what a rule leaves is no longer than what it reads
  rule_short : (table : Table Goal Tree) → Short table → Short (rule table)
  rule_short table shorts it tokens tree rest is =
      let short : length rest < suc (length tokens) = (less (length tokens) table shorts it tokens (omega arith)).short (tree, rest) is in
      omega arith

  -- what the fixed table leaves is no longer either
  fixed_short : Short (fixed rule)
  fixed_short = fixed_always (λ it tree tokens rest. length rest ≤ length tokens) rule rule_short

  -- the fixed table reads by the rules
  pub fixed_by_rules : IsByRules rule (fixed rule)
  fixed_by_rules = record {
    plain = λ it tokens. fixed_is rule it tokens ∙ (less (length tokens) (fixed rule) fixed_short it tokens (omega arith)).same;
    short = fixed_short;
  }
