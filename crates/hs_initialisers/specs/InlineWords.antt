-- The words of an inline trap after a prototype, which are constants and are dropped (own).
--     inline_words it       all of them
use Rattle.hs_expressions.specs.Expressions.{typed}
use Rattle.hs_expressions.specs.Operations.{value_of}
use Rattle.hs_syntax.specs.Trees as syntax
use Rattle.hs_syntax.specs.Trees.{Expression, Initialising, Initialisers}
use Rattle.hs_typer.specs.Declarators.{constant_of}
use Rattle.hs_typer.specs.Steps.{Step, ◌>>=◌, ◌>>◌, give, refuse, of_types}
use Rattle.hs_typer.specs.declared.type_error.TypeError.TheVariants.{Untyped}

-- one word of an inline trap: an integral constant
abbrev pub inline_word : Expression → Step (Unit {0})
inline_word e = do
  its ← value_of (typed e)
  word ← of_types (λ types. constant_of types its)
  give tt

-- one in a list, in which there is no list
abbrev pub inline_in_list : Initialising → Step (Unit {0})
inline_in_list (syntax.value e) = inline_word e
inline_in_list (syntax.list at its comma) = refuse (Untyped at)

-- all of a list
abbrev pub inline_list : Initialisers → Step (Unit {0})
inline_list syntax.no_initialisers = give tt
inline_list (syntax.more_initialisers first rest) = inline_in_list first >> inline_list rest

-- the words after a prototype
abbrev pub inline_words : Initialising → Step (Unit {0})
inline_words (syntax.value e) = inline_word e
inline_words (syntax.list at its comma) = inline_list its
