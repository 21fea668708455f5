-- Lists of which each has a property, and what is done unless it stops (own).
--     all_set, all_take, all_drop, all_same      lists
--     unless_so, and_so                          what is given unless there is a stop, and one act after another
use Rattle.std.proofs.Common.{ℕ, zero, suc, List, [], ◌∷◌, take, drop, replicate, slice_set, Option, Some, None}
use Rattle.std.specs.List.{AllByRecursion}
use Rattle.hs_hiding.specs.Holding.{OnDone}
use Rattle.hs_meaning.specs.Accesses.{by_stop, unless_stopped}
use Rattle.hs_meaning.specs.Machine.{Machine, Done, done, stopped, and_then}
use Rattle.hs_meaning.specs.Stops.{Stops, first_stop}
use Rattle.hs_meaning.specs.declared.outcome.Stop.{Stop}

-- ---- lists

pub all_set : {A : Type 0} → (P : A → Type 0) (xs : List A) (i : ℕ) (y : A) → AllByRecursion P xs → P y → AllByRecursion P (slice_set xs i y)
all_set P [] i y are is = are
all_set P (x ∷ xs) zero y are is = (is, are.1)
all_set P (x ∷ xs) (suc i) y are is = (are.0, all_set P xs i y are.1 is)

pub all_take : {A : Type 0} → (P : A → Type 0) (k : ℕ) (xs : List A) → AllByRecursion P xs → AllByRecursion P (take k xs)
all_take P zero xs are = tt
all_take P (suc k) [] are = tt
all_take P (suc k) (x ∷ xs) are = (are.0, all_take P k xs are.1)

pub all_drop : {A : Type 0} → (P : A → Type 0) (k : ℕ) (xs : List A) → AllByRecursion P xs → AllByRecursion P (drop k xs)
all_drop P zero xs are = are
all_drop P (suc k) [] are = tt
all_drop P (suc k) (x ∷ xs) are = all_drop P k xs are.1

pub all_same : {A : Type 0} → (P : A → Type 0) (k : ℕ) (x : A) → P x → AllByRecursion P (replicate k x)
all_same P zero x is = tt
all_same P (suc k) x is = (is, all_same P k x is)

pub unless_so : {A : Type 0} → (Q : A → Machine → Type 0) (stops : Stops) (it : A) (after before : Machine) → Q it after
    → OnDone Q (unless_stopped stops it after before)
unless_so Q stops it after before is = by_first (first_stop stops)
  where
    by_first : (why : Option Stop) → OnDone Q (by_stop why it after before)
    by_first None = is
    by_first (Some why) = tt

pub and_so : {A B : Type 0} → (Q : A → Machine → Type 0) (Q' : B → Machine → Type 0) (its : Done A) (next : A → Machine → Done B) → OnDone Q its
    → ((it : A) (after : Machine) → Q it after → OnDone Q' (next it after)) → OnDone Q' (and_then its next)
and_so Q Q' (done it after) next is each = each it after is
and_so Q Q' (stopped why after) next is each = tt
