use Rattle.hs_lock_rows.specs.Own.{Cleared}
use Rattle.hs_lock_rows.proofs.own.clear_own.Given as goal

-- the rows so far
abbrev pub invariant-rows : goal.invariant-rows
invariant-rows l = record { out : Cleared l.plan l.row l.initial.rows l.rows }
