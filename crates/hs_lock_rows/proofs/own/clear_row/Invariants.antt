use Rattle.hs_lock_rows.specs.Own.{ClearedTo}
use Rattle.hs_lock_rows.proofs.own.clear_row.Given as goal

-- the names so far
abbrev pub invariant-names : goal.invariant-names
invariant-names l = record { out : ClearedTo l.plan l.row l.name l.initial.rows l.rows }
