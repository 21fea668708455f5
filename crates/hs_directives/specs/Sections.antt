-- Conditional sections (X3.159-1989 3.8.1), the innermost first.
--     is_active sections        the text here is kept
--     opened pos kept active    a section that an `#if` begins
--     elsed, elifed ..          what `#else` and `#elif` make of a section
use Rattle.std.specs.Prelude.{Bool, true, false, not, List, [], ◌∷◌, Option, Some, None}
use Rattle.hs_base.specs.declared.pos.Pos.{Pos}
use Rattle.hs_directives.specs.declared.section.Section.{Section}

-- the text here is kept: a section in a group that is skipped keeps none of its groups
abbrev pub is_active : List Section → Bool
is_active [] = true
is_active (section ∷ outer) = section.kept

-- where the outermost open section begins
abbrev pub outermost : Section → List Section → Pos
outermost section [] = section.pos
outermost section (next ∷ outer) = outermost next outer

-- where it begins, if one is open
abbrev pub open_at : List Section → Option Pos
open_at [] = None
open_at (section ∷ outer) = Some (outermost section outer)

-- a section whose condition was reached, and holds or not
abbrev pub opened : Pos → Bool → Section
opened pos holds = record { pos = pos; reached = true; kept = holds; done = holds; closed = false }

-- a section in a group that is skipped: of its directives only the nesting counts
abbrev pub skipped : Pos → Section
skipped pos = record { pos = pos; reached = false; kept = false; done = true; closed = false }

-- after `#else`: the group is kept if none was
abbrev pub elsed : Section → Section
elsed section = record section { kept = not section.done; done = true; closed = true }

-- after an `#elif` whose condition was not reached, since a group was kept
abbrev pub passed_over : Section → Section
passed_over section = record section { kept = false }

-- after an `#elif` whose condition was reached
abbrev pub elifed : Section → Bool → Section
elifed section holds = record section { kept = holds; done = holds }
