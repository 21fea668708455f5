-- Laws of typing: what is known grows, and what is typed is well typed.
--     Extends old new                     what was known is still known
--     IsScoped s                          no declaration is of a scope inside the innermost one, and the next scope ends
--     Knows program function s            the names of objects mean the variables of the program
--     TypingExtends, TypingIsRight        the laws
use Rattle.std.specs.Prelude.{◌≡◌, ◌≤◌, ℕ, true, false, List, ◌++◌, Some, Ok}
use Rattle.std.specs.List.{AllByRecursion}
use Rattle.hs_expressions.specs.Expressions.{typed}
use Rattle.hs_typer.specs.declared.typer.Entity.{Entity}
use Rattle.hs_typer.specs.declared.typer.Entity.TheVariants as entity
use Rattle.hs_typer.specs.declared.typer.Tag.{Tag}
use Rattle.hs_typer.specs.declared.typer.Typer.{Typer}
use Rattle.hs_names.specs.Scopes.{Scoped, Declared}
use Rattle.hs_operands.specs.Laws.{IsTypedOperand}
use Rattle.hs_operand_types.specs.Operands.{TypedOperand}
use Rattle.hs_syntax.specs.Trees.{Expression}
use Rattle.hs_tree.specs.Fitting.{IsOfType}
use Rattle.hs_tree.specs.Trees.{TypedFunction, TypedProgram}
use Rattle.hs_types.specs.TypeTables.{IsRight, Grows}
pub mod Always
pub mod Applied
pub mod Bodies
pub mod Braces
pub mod Extending
pub mod Grown
pub mod Keeping
pub mod Leaves
pub mod Operating
pub mod Origins
pub mod Primary
pub mod Reached
pub mod Traced
pub mod Typing

-- an enumeration constant
abbrev pub IsConstant : Entity → Type 0
IsConstant (entity.Constant bits) = Unit {0}
IsConstant (entity.Variable variable id) = ⊥
IsConstant (entity.Function id bound) = ⊥
IsConstant (entity.Typedef id) = ⊥

-- a declaration of the scope of that level: of a constant, or of a tag
abbrev pub IsConstantAt : ℕ → Declared Entity → Type 0
IsConstantAt level it = (it.level ≡ level) × IsConstant it.entity

abbrev pub IsTagAt : ℕ → Declared Tag → Type 0
IsTagAt level it = it.level ≡ level

-- the same scope, with more declarations
abbrev pub HasMore : {E : Type 0} → (Declared E → Type 0) → Scoped E → Scoped E → Type 0
HasMore {E} Holds old new =
    (more : List (Declared E)) × AllByRecursion Holds more × (new ≡ record { declarations = more ++ old.declarations; level = old.level })

-- more at the end
abbrev pub IsPrefix : {A : Type 0} → List A → List A → Type 0
IsPrefix {A} old new = (more : List A) × (new ≡ old ++ more)

-- Types stay as they are, names and tags mean what they did or are new in the innermost scope, and what is noted is noted after the rest.
-- Whether the scope of the next list of parameters is kept stays as it was, too.
pub record Extends (old new : Typer) : Type 0 where
  pub types : Grows old.types new.types
  pub names : HasMore (IsConstantAt old.names.level) old.names new.names
  pub tags : HasMore (IsTagAt old.tags.level) old.tags new.tags
  pub literals : IsPrefix old.literals new.literals
  pub taken : IsPrefix old.taken new.taken
  pub calls : IsPrefix old.calls new.calls
  pub table : new.table ≡ old.table
  pub counts : new.counts ≡ old.counts
  pub keeps : new.keeps ≡ old.keeps

-- scopes inside the innermost one have ended
abbrev pub AreOutside : {E : Type 0} → Scoped E → Type 0
AreOutside scopes = AllByRecursion (λ it. it.level ≤ scopes.level) scopes.declarations

-- The scope of the next list of parameters ends with it: it is kept only for a function that is being defined, outside of expressions.
pub record IsScoped (s : Typer) : Type 0 where
  pub names : AreOutside s.names
  pub tags : AreOutside s.tags
  pub closed : s.keeps ≡ false

-- the name of an object means a variable of the program, of that type
abbrev pub IsKnown : TypedProgram → TypedFunction → Entity → Type 0
IsKnown program function (entity.Constant bits) = Unit {0}
IsKnown program function (entity.Variable variable id) = IsOfType program function variable id
IsKnown program function (entity.Function id bound) = Unit {0}
IsKnown program function (entity.Typedef id) = Unit {0}

abbrev pub Knows : TypedProgram → TypedFunction → Typer → Type 0
Knows program function s = AllByRecursion (λ it. IsKnown program function it.entity) s.names.declarations

-- what is known after an expression extends what was known before it
abbrev pub TypingExtends : Type 0
TypingExtends = (e : Expression) (s new : Typer) (it : TypedOperand) → IsScoped s → typed e s ≡ Ok (it, new) → Extends s new

-- What an expression that is evaluated is typed as is well typed in every program that has its types, its variables and its strings.
abbrev pub TypingIsRight : Type 0
TypingIsRight = (program : TypedProgram) (function : TypedFunction) (e : Expression) (s new : Typer) (it : TypedOperand) → IsScoped s
    → s.counts ≡ true → Knows program function s → typed e s ≡ Ok (it, new) → IsRight program.types → Grows new.types program.types
    → IsPrefix new.literals program.literals → IsTypedOperand program function it
