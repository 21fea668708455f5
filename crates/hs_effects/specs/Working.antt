-- Numbers of functions, while they are handed on to callers.
--     IsIn rows f b                the function f has the number b
--     Waits work f b               that is not handed on yet
--     Grows Adds old new           functions got numbers, and what they did not have waits
--     left work                    how much there is still to hand on, at most
use Rattle.std.specs.List.{Contains}
use Rattle.std.specs.Prelude.{◌≡◌, ◌<◌, ◌⊎◌, ◌+◌, ℕ, zero, suc, Bool, true, false, length}
use Rattle.hs_effects.specs.declared.work.Work.{Work}
use Rattle.hs_rows.specs.Sets.{Sets, SameSize, has, width}

-- of a function and a number that there are
abbrev pub IsIn : Sets → ℕ → ℕ → Type 0
IsIn rows f b = (f < rows.count) × (b < width rows) × (has rows f b ≡ true)

-- not handed on to the callers yet
abbrev pub Waits : Work → ℕ → ℕ → Type 0
Waits work f b = Contains work.waiting.items (record { function = f; number = b })

-- nothing is handed on yet
pub record AllWait (work : Work) : Type 0 where
  pub waits : (f b : ℕ) → IsIn work.rows f b → Waits work f b
  pub there : (f b : ℕ) → Waits work f b → IsIn work.rows f b

-- ---- how much is left

-- 1 for what is absent
abbrev pub absent : Bool → ℕ
absent true = 0
absent false = 1

-- how many numbers are absent, of those below that one
abbrev pub absent_below : (ℕ → Bool) → ℕ → ℕ
absent_below test zero = 0
absent_below test (suc n) = absent (test n) + absent_below test n

-- of the functions below that one
abbrev pub absent_in : Sets → ℕ → ℕ
absent_in rows zero = 0
absent_in rows (suc f) = absent_below (has rows f) (width rows) + absent_in rows f

-- numbers that functions may still get, and those that wait
abbrev pub left : Work → ℕ
left work = absent_in work.rows work.rows.count + length work.waiting.items

-- ---- how it grows

-- one function got one number
abbrev pub Only : ℕ → ℕ → ℕ → ℕ → Type 0
Only function number f b = (f ≡ function) × (b ≡ number)

-- the functions got the numbers that are so
pub record Grows (Adds : ℕ → ℕ → Type 0) (old new : Work) : Type 0 where
  pub size : SameSize old.rows new.rows
  pub kept : (f b : ℕ) → IsIn old.rows f b → IsIn new.rows f b
  pub adds : (f b : ℕ) → Adds f b → IsIn new.rows f b
  pub back : (f b : ℕ) → IsIn new.rows f b → IsIn old.rows f b ⊎ Adds f b
  pub waits : (f b : ℕ) → IsIn new.rows f b → IsIn old.rows f b ⊎ Waits new f b
  pub still : (f b : ℕ) → Waits old f b → Waits new f b
  pub fresh : (f b : ℕ) → Waits new f b → Waits old f b ⊎ IsIn new.rows f b
  pub less : left new ≡ left old
