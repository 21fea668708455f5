use Rattle.std.proofs.Common.{◌≡◌, ◌<◌, ℕ, ◌&&◌}
use Rattle.hs_lock_rows.specs.Given.{Locks, any, other}
use Rattle.hs_lock_rows.specs.Making.{Shows}
use Rattle.hs_lock_rows.specs.declared.field.Field.TheVariants as field
use Rattle.hs_rows.specs.Sets.{bit_in, has}
use Rattle.hs_lock_rows.proofs.knowing.apart_from.Given as goal

-- what is apart from one of the names so far
abbrev pub invariant-names : goal.invariant-names
invariant-names l = record {
  so_far : (facts : Locks) → Shows l.point.plan (has l.rows l.point.at) facts → (y : ℕ) → y < l.point.plan.names
      → bit_in l.word y ≡ any l.name (λ x. bit_in l.names x && (other y x && facts (field.Apart x) y));
}
