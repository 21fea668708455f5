-- The names that are declared, by scope (X3.159-1989 3.1.2.1). The declarations are listed newest first, each with the level of its
-- scope: 0 is file scope, and each block or prototype inside is one more.
--     find name scopes          what the name means: its innermost declaration
--     find_here name scopes     what the name was declared as in the innermost scope
--     declared name entity      with one declaration more, in the innermost scope
--     entered, left             with one scope more, and without the innermost one
--     declared_outside name entity scopes      with one declaration more, in the scope around the innermost one
use Rattle.std.specs.Prelude.{ℕ, suc, ◌-◌, ◌==◌, Bool, false, nat_eq, List, [], ◌∷◌, ◌++◌, Option, Some, None, if◌then◌else◌}
use Rattle.std.specs.Cmp.Lexicographic.{pointwise}

pub record Declared (E : Type 0) : Type 0 where
  pub name : List ℕ
  pub entity : E
  pub level : ℕ

pub record Scoped (E : Type 0) : Type 0 where
  pub declarations : List (Declared E)
  pub level : ℕ

module _ {E : Type 0} where
  -- the newest declaration of the name
  abbrev pub newest : List ℕ → List (Declared E) → Option (Declared E)
  newest name [] = None
  newest name (it ∷ older) = if pointwise nat_eq it.name name then Some it else newest name older

  abbrev pub entity_of : Option (Declared E) → Option E
  entity_of None = None
  entity_of (Some it) = Some it.entity

  abbrev pub find : List ℕ → Scoped E → Option E
  find name scopes = entity_of (newest name scopes.declarations)

  -- if it is of that level
  abbrev pub entity_at : ℕ → Option (Declared E) → Option E
  entity_at level None = None
  entity_at level (Some it) = if it.level == level then Some it.entity else None

  abbrev pub find_here : List ℕ → Scoped E → Option E
  find_here name scopes = entity_at scopes.level (newest name scopes.declarations)

  abbrev pub declared : List ℕ → E → Scoped E → Scoped E
  declared name entity scopes =
      record { declarations = record { name = name; entity = entity; level = scopes.level } ∷ scopes.declarations; level = scopes.level }

  abbrev pub entered : Scoped E → Scoped E
  entered scopes = record { declarations = scopes.declarations; level = suc scopes.level }

  -- the declarations outside the scope of that level
  abbrev pub outside : ℕ → List (Declared E) → List (Declared E)
  outside level [] = []
  outside level (it ∷ older) = if it.level == level then outside level older else it ∷ older

  abbrev pub left : Scoped E → Scoped E
  left scopes = record { declarations = outside scopes.level scopes.declarations; level = scopes.level - 1 }

  -- the declarations of the scope of that level
  abbrev pub inside : ℕ → List (Declared E) → List (Declared E)
  inside level [] = []
  inside level (it ∷ older) = if it.level == level then it ∷ inside level older else []

  -- what the innermost scope declares still hides it
  abbrev pub declared_outside : List ℕ → E → Scoped E → Scoped E
  declared_outside name entity scopes =
      record {
        declarations =
            inside scopes.level scopes.declarations
            ++ record { name = name; entity = entity; level = scopes.level - 1 } ∷ outside scopes.level scopes.declarations;
        level = scopes.level;
      }

  -- without the declarations of the innermost scope
  abbrev pub cleared : Scoped E → Scoped E
  cleared scopes = record { declarations = outside scopes.level scopes.declarations; level = scopes.level }

  -- the newest declaration is of the innermost scope
  abbrev pub is_of_level : ℕ → List (Declared E) → Bool
  is_of_level level [] = false
  is_of_level level (it ∷ older) = it.level == level

  abbrev pub is_newest_here : Scoped E → Bool
  is_newest_here scopes = is_of_level scopes.level scopes.declarations

  -- without the newest declaration, if it is of the innermost scope
  abbrev pub older_than : ℕ → List (Declared E) → List (Declared E)
  older_than level [] = []
  older_than level (it ∷ older) = if it.level == level then older else it ∷ older

  abbrev pub without_newest : Scoped E → Scoped E
  without_newest scopes = record { declarations = older_than scopes.level scopes.declarations; level = scopes.level }
