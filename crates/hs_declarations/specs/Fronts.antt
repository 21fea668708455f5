-- The parts of a declaration that give a type (X3.159-1989 3.5), and declarations without declarators.
--     front at its               the storage word and the type that specifiers name
--     item_type at base it       the type that a declarator makes of it
--     tag_alone word             `struct tag;` declares the tag in the innermost scope (3.5.2.3)
--     storage_place at its       the place of the storage word
--     place_of_start it          the place of an initialiser
use Rattle.std.specs.Prelude.{Bool, true, false, ◌||◌, Option, Some, None, is_some}
use Rattle.hs_declarations.specs.declared.fronts.Front.{Front}
use Rattle.hs_expressions.specs.Expressions.{specified, derivations}
use Rattle.hs_names.specs.Scopes.{find_here}
use Rattle.hs_syntax.specs.Positions.{position_of}
use Rattle.hs_syntax.specs.Trees as syntax
use Rattle.hs_syntax.specs.Trees.{Declared, Initialising, Specified, Specification}
use Rattle.hs_syntax.specs.declared.word.Word.{Word}
use Rattle.hs_tokens.specs.declared.place.Place.{Place}
use Rattle.hs_typer.specs.Declarators.{formed, place_of}
use Rattle.hs_typer.specs.Specifiers.{no_specifiers, type_from, new_tagged_struct}
use Rattle.hs_typer.specs.Steps.{Step, ◌>>=◌, look, on_types, give, refuse}
use Rattle.hs_typer.specs.declared.type_error.TypeError.TheVariants.{Untyped}
use Rattle.hs_typer.specs.declared.typer.Tag.{Tag}
use Rattle.hs_typer.specs.declared.typer.Tag.TheVariants as tag
use Rattle.hs_types.specs.declared.row.TypeId.{TypeId}

-- 3.5.1 to 3.5.3; `at` is the first place of the specifiers
abbrev pub front : Place → Specification → Step Front
front at its = do
  said ← specified true at no_specifiers its
  id ← look (λ s. type_from at said)
  give (record { storage = said.storage; type_id = id })

-- 3.5.4
abbrev pub item_type : Place → TypeId → Declared → Step TypeId
item_type at base it = do
  its ← derivations at it
  on_types (formed (place_of at it) its base)

-- what a tag of this scope means is left as it is
abbrev pub tag_alone_as : Word → Option Tag → Step (Unit {0})
tag_alone_as word None = new_tagged_struct word >>= (λ number. give tt)
tag_alone_as word (Some (tag.Struct number)) = give tt
tag_alone_as word (Some (tag.Enumeration number)) = refuse (Untyped word.place)

-- 3.5.2.3: a new struct, unless the tag is one of this scope
abbrev pub tag_alone : Word → Step (Unit {0})
tag_alone word s = tag_alone_as word (find_here word.text s.tags) s

-- the tag of a specifier that is `struct tag`
abbrev pub tag_of : Specified → Option Word
tag_of (syntax.storage word at) = None
tag_of (syntax.dropped word at) = None
tag_of (syntax.basic word at) = None
tag_of (syntax.named word) = None
tag_of (syntax.struct_tag at word) = Some word
tag_of (syntax.struct_body at word brace fields) = None
tag_of (syntax.enum_tag at word) = None
tag_of (syntax.enum_body at word brace its comma) = None

-- the tag, if `struct tag` is all that the specifiers say
abbrev pub lone_tag : Specification → Option Word
lone_tag syntax.no_specifiers = None
lone_tag (syntax.more_specifiers it syntax.no_specifiers) = tag_of it
lone_tag (syntax.more_specifiers it (syntax.more_specifiers next rest)) = None

-- 3.5: a declaration declares at least a declarator, a tag, or constants of an enumeration
abbrev pub declares : Specified → Bool
declares (syntax.storage word at) = false
declares (syntax.dropped word at) = false
declares (syntax.basic word at) = false
declares (syntax.named word) = false
declares (syntax.struct_tag at word) = true
declares (syntax.struct_body at word brace fields) = is_some word
declares (syntax.enum_tag at word) = true
declares (syntax.enum_body at word brace its comma) = true

-- one of the specifiers does
abbrev pub declares_any : Specification → Bool
declares_any syntax.no_specifiers = false
declares_any (syntax.more_specifiers it rest) = declares it || declares_any rest

-- the place of a storage word, or the other one
abbrev pub storage_or : Place → Specified → Place
storage_or other (syntax.storage word at) = at
storage_or other (syntax.dropped word at) = other
storage_or other (syntax.basic word at) = other
storage_or other (syntax.named word) = other
storage_or other (syntax.struct_tag at word) = other
storage_or other (syntax.struct_body at word brace fields) = other
storage_or other (syntax.enum_tag at word) = other
storage_or other (syntax.enum_body at word brace its comma) = other

-- the place of the only storage word, or the other place if there is no storage word
abbrev pub storage_place : Place → Specification → Place
storage_place other syntax.no_specifiers = other
storage_place other (syntax.more_specifiers it rest) = storage_or (storage_place other rest) it

-- an expression's position, or the `{` of a list
abbrev pub place_of_start : Initialising → Place
place_of_start (syntax.value e) = position_of e
place_of_start (syntax.list at its comma) = at
