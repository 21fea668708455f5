-- What a reading gives, by how the reading is made.
--     Yields Holds it      whatever is read, this holds of it and of the tokens after it
use Rattle.std.proofs.Common.{◌≡◌, Bool, true, false, List, Some, None, refl, ap, subst}
use Rattle.std.specs.Prelude.{if◌then◌else◌}
use Rattle.hs_base.specs.Options.{◌>>=◌}
use Rattle.hs_tokens.specs.declared.token.SourceToken.{SourceToken}
use Rattle.hs_expr_parser.specs.Recursion.{Read, Table}
use Rattle.hs_expr_parser.specs.Laws.Recursions.{Fact, Always}
use Rattle.hs_expr_parser.specs.Reading.{going_on}

-- whatever is read, this holds of it and of the tokens after it
pub record Yields {A : Type 0} (Holds : A → List SourceToken → Type 0) (it : Read A) : Type 0 where
  pub holds : (tree : A) (rest : List SourceToken) → it ≡ Some (tree, rest) → Holds tree rest

-- nothing is read
pub none_gives : {A : Type 0} {Holds : A → List SourceToken → Type 0} → Yields Holds None
none_gives = record { holds = λ tree rest is. absurd cc }

-- what was read, or else this
abbrev read_of : {A : Type 0} → A × List SourceToken → Read A → A × List SourceToken
read_of other None = other
read_of other (Some it) = it

-- this is read
pub some_gives : {A : Type 0} {Holds : A → List SourceToken → Type 0} (tree : A) (rest : List SourceToken) → Holds tree rest → Yields Holds (Some (tree, rest))
some_gives {A = A} {Holds = Holds} tree rest is = record {
  holds = λ other others same. subst (λ (it : A × List SourceToken). Holds it.0 it.1) (ap (read_of {A = A} (tree, rest)) same) is;
}

-- one reading after another
pub then_gives : {A B : Type 0} {Before : A → List SourceToken → Type 0} {Behind : B → List SourceToken → Type 0} (it : Read A)
    (next : A × List SourceToken → Read B) → Yields Before it → ((tree : A) (rest : List SourceToken) → Before tree rest → Yields Behind (next (tree, rest)))
    → Yields Behind (it >>= next)
then_gives None next first second = none_gives
then_gives (Some (tree, rest)) next first second = second tree rest (first.holds tree rest refl)

-- the same, with what was read
pub so_then_gives : {A B : Type 0} {Before : A → List SourceToken → Type 0} {Behind : B → List SourceToken → Type 0} (it : Read A)
    (next : A × List SourceToken → Read B) → Yields Before it
    → ((tree : A) (rest : List SourceToken) → it ≡ Some (tree, rest) → Before tree rest → Yields Behind (next (tree, rest))) → Yields Behind (it >>= next)
so_then_gives None next first second = none_gives
so_then_gives (Some (tree, rest)) next first second = second tree rest refl (first.holds tree rest refl)

-- more, if something was read; else it stops
pub going_gives : {A B : Type 0} {Before : A → List SourceToken → Type 0} {Behind : B → List SourceToken → Type 0} (it : Read A)
    (more : A → List SourceToken → Read B) (stop : Read B) → Yields Before it
    → ((tree : A) (rest : List SourceToken) → it ≡ Some (tree, rest) → Before tree rest → Yields Behind (more tree rest)) → (it ≡ None → Yields Behind stop)
    → Yields Behind (going_on it more stop)
going_gives None more stop first second third = third refl
going_gives (Some (tree, rest)) more stop first second third = second tree rest refl (first.holds tree rest refl)

-- one or the other
pub if_gives : {A : Type 0} {Holds : A → List SourceToken → Type 0} (test : Bool) (one other : Read A) → (test ≡ true → Yields Holds one)
    → (test ≡ false → Yields Holds other) → Yields Holds (if test then one else other)
if_gives true one other first second = first refl
if_gives false one other first second = second refl

-- less may be said
pub so_gives : {A : Type 0} {Before Behind : A → List SourceToken → Type 0} (it : Read A) → Yields Before it
    → ((tree : A) (rest : List SourceToken) → Before tree rest → Behind tree rest) → Yields Behind it
so_gives it first so = record { holds = λ tree rest is. so tree rest (first.holds tree rest is) }

-- a table gives what holds of all that it reads
pub always_gives : {Goal : Type 0} {Tree : Goal → Type 0} (Holds : Fact Goal Tree) (table : Table Goal Tree) → Always Holds table
    → (it : Goal) (tokens : List SourceToken) → Yields (λ (tree : Tree it) rest. Holds it tree tokens rest) (table it tokens)
always_gives Holds table always it tokens = record { holds = λ tree rest is. always it tokens tree rest is }
