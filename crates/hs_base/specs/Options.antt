-- Options: steps that may find nothing, one after another, and laws on the library's words.
--     read >>= next                       nothing, or what follows from what was read; bind_some
--     Seen view result read               what a function returned is what reading gives
--     or_else first second                the first, or else the second; or_else_assoc
--     some_same, one_there, some_none     an option has one value, or none
--     some_there, is_there                something is there
use Rattle.std.proofs.Common.{◌≡◌, Option, Some, None, IsTrue, is_some, refl}

infixl 10 ◌>>=◌
-- nothing, or what follows from what was read
abbrev pub ◌>>=◌ : {A B : Type 0} → Option A → (A → Option B) → Option B
None >>= f = None
(Some x) >>= f = f x

-- a step after something that may be missing gave an answer
pub bind_some : {A B : Type 0} (read : Option A) (next : A → Option B) (y : B) → (read >>= next) ≡ Some y
    → (x : A) × (read ≡ Some x) × (next x ≡ Some y)
bind_some None next y is = absurd (cc)
bind_some (Some x) next y is = (x, refl, is)

-- what a function returned, seen by view, is what reading gives
abbrev pub Seen : {X Y : Type 0} → (X → Y) → Option X → Option Y → Type 0
Seen view None read = read ≡ None
Seen view (Some x) read = read ≡ Some (view x)

-- the first, or else the second
abbrev pub or_else : {A : Type 0} → Option A → Option A → Option A
or_else None second = second
or_else (Some it) second = Some it

-- three in a row
pub or_else_assoc : {A : Type 0} → (first second third : Option A) → or_else (or_else first second) third ≡ or_else first (or_else second third)
or_else_assoc None second third = refl
or_else_assoc (Some it) second third = refl

-- an option has one value, or none
pub some_same : {A : Type 0} → (a b : A) → Some a ≡ Some b → a ≡ b
some_same a b same = cc

pub one_there : {A : Type 0} → (o : Option A) (a b : A) → o ≡ Some a → o ≡ Some b → a ≡ b
one_there o a b is is' = cc

pub some_none : {A : Type 0} → (o : Option A) (it : A) → o ≡ Some it → o ≡ None → ⊥
some_none o it is is' = cc

-- something is there
pub some_there : {A : Type 0} → (o : Option A) → IsTrue (is_some o) → (it : A) × (o ≡ Some it)
some_there None is = absurd cc
some_there (Some it) is = (it, refl)

pub is_there : {A : Type 0} → (o : Option A) (it : A) → o ≡ Some it → IsTrue (is_some o)
is_there None it same = absurd cc
is_there (Some other) it same = refl
