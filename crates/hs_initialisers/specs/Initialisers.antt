-- What objects start with (X3.159-1989 3.5.7). A list in braces holds constants, also for automatic objects (own for one scalar).
--     initialised at id it       an object of static storage duration, or one that a list or a string initialises: its type and its parts
--     starting at id it          an automatic object: its type, and a value or parts
use Rattle.std.specs.Prelude.{ℕ, suc, ◌==◌, nat_le, Bool, true, false, ◌&&◌, List, [], ◌∷◌, ◌++◌, length, take, Option, Some, None, is_some, Result, Ok, Err, if◌then◌else◌}
use Rattle.hs_expressions.specs.Expressions.{typed}
use Rattle.hs_expressions.specs.Operations.{value_of}
use Rattle.hs_aggregates.specs.Addresses.{constant_in}
use Rattle.hs_aggregates.specs.Aggregates.{Reached, fresh, takes, reached, whole, text_kind, is_growing, count_begun}
use Rattle.hs_aggregates.specs.declared.aggregates.Aggregate.{Aggregate}
use Rattle.hs_aggregates.specs.declared.aggregates.Subobject.{Subobject}
use Rattle.hs_operands.specs.Assignments.{assigned}
use Rattle.hs_syntax.specs.Positions.{position_of}
use Rattle.hs_syntax.specs.Trees as syntax
use Rattle.hs_syntax.specs.Trees.{Expression, Initialising, Initialisers}
use Rattle.hs_syntax.specs.declared.word.Word.{Word}
use Rattle.hs_tokens.specs.declared.place.Place.{Place}
use Rattle.hs_tree.specs.Kinds.{element, array_length}
use Rattle.hs_tree.specs.Trees as tree
use Rattle.hs_tree.specs.Trees.{RightValue, Starting}
use Rattle.hs_tree.specs.declared.constant.Constant.{Constant}
use Rattle.hs_tree.specs.declared.constant.Constant.TheVariants as constant
use Rattle.hs_tree.specs.declared.constant.Part.{Part}
use Rattle.hs_typer.specs.Declarators.{untyped_end}
use Rattle.hs_typer.specs.Primaries.{string_bytes}
use Rattle.hs_typer.specs.Steps.{Step, ◌>>=◌, give, refuse, look, of_types, on_types, lifted}
use Rattle.hs_typer.specs.declared.type_error.TypeError.{TypeError}
use Rattle.hs_typer.specs.declared.type_error.TypeError.TheVariants.{Untyped}
use Rattle.hs_types.specs.Integers.{converted}
use Rattle.hs_types.specs.TypeTables.{TypeTable, row_of, arrayed}
use Rattle.hs_types.specs.declared.integer.Integer.{Integer}
use Rattle.hs_types.specs.declared.row.Row.{Row}
use Rattle.hs_types.specs.declared.row.Row.TheVariants as row
use Rattle.hs_types.specs.declared.row.TypeId.{TypeId}

-- a constant for a scalar inside an object
abbrev pub part_as : Subobject → Place → Option Constant → Result Part TypeError
part_as it at None = Err (Untyped at)
part_as it at (Some its) = Ok (record { offset = it.offset; type_id = it.type_id; field = it.field; value = its })

-- 3.5.7: converted as by assignment, and constant
abbrev pub part_with : TypeTable → Subobject → Place → Result RightValue TypeError → Result Part TypeError
part_with types it at (Err why) = Err why
part_with types it at (Ok e) = part_as it at (constant_in types e)

-- of the value of an expression
abbrev pub part_of : Subobject → Place → RightValue → TypeTable → Result Part TypeError
part_of it at e types = part_with types it at (lifted (assigned types at it.type_id e))

-- the bytes of a string, one character each
abbrev pub characters : Integer → TypeId → ℕ → List ℕ → List Part
characters kind id offset [] = []
characters kind id offset (byte ∷ bytes) =
    record { offset = offset; type_id = id; field = None; value = constant.Number (converted kind byte) } ∷
    characters kind id (suc offset) bytes

-- 3.5.7: the byte 0 at the end of a string is left out if there is no room for it
abbrev pub that_fit : Option ℕ → List ℕ → Option (List ℕ)
that_fit None bytes = Some bytes
that_fit (Some room) bytes =
    if nat_le (length bytes) room then Some bytes else if length bytes == suc room then Some (take room bytes) else None

-- if they fit
abbrev pub text_with : Place → Integer → TypeId → ℕ → Option (List ℕ) → Result (List Part) TypeError
text_with at kind id offset None = Err (Untyped at)
text_with at kind id offset (Some bytes) = Ok (characters kind id offset bytes)

-- if the string has bytes
abbrev pub text_as : Place → Integer → TypeId → ℕ → Option ℕ → Option (List ℕ) → Result (List Part) TypeError
text_as at kind id offset room None = Err (Untyped at)
text_as at kind id offset room (Some bytes) = text_with at kind id offset (that_fit room bytes)

-- of an array whose elements are such characters
abbrev pub text_by : TypeTable → Subobject → Word → List Word → Option Integer → Option TypeId → Result (List Part) TypeError
text_by types it first others None id = Err (Untyped first.place)
text_by types it first others (Some kind) None = Err (Untyped first.place)
text_by types it first others (Some kind) (Some id) =
    text_as first.place kind id it.offset (array_length types it.type_id) (string_bytes first others)

-- An array of characters that a string literal initialises. The literal is then no object, and parentheses around it make it an
-- expression like any other (own).
abbrev pub text_of : Subobject → Expression → TypeTable → Result (List Part) TypeError
text_of it (syntax.strings first others) types = text_by types it first others (text_kind types it.type_id) (element types it.type_id)
text_of it (syntax.name word) types = Err (Untyped (position_of (syntax.name word)))
text_of it (syntax.number word) types = Err (Untyped (position_of (syntax.number word)))
text_of it (syntax.character word) types = Err (Untyped (position_of (syntax.character word)))
text_of it (syntax.parens at inner) types = Err (Untyped (position_of (syntax.parens at inner)))
text_of it (syntax.index base at offset) types = Err (Untyped (position_of (syntax.index base at offset)))
text_of it (syntax.call callee arguments) types = Err (Untyped (position_of (syntax.call callee arguments)))
text_of it (syntax.member base access at word) types = Err (Untyped (position_of (syntax.member base access at word)))
text_of it (syntax.postfix base operator at) types = Err (Untyped (position_of (syntax.postfix base operator at)))
text_of it (syntax.prefix operator at base) types = Err (Untyped (position_of (syntax.prefix operator at base)))
text_of it (syntax.sizeof_value at base) types = Err (Untyped (position_of (syntax.sizeof_value at base)))
text_of it (syntax.sizeof_type at name) types = Err (Untyped (position_of (syntax.sizeof_type at name)))
text_of it (syntax.cast at name base) types = Err (Untyped (position_of (syntax.cast at name base)))
text_of it (syntax.binary first operator at second) types = Err (Untyped (position_of (syntax.binary first operator at second)))
text_of it (syntax.conditional test at taken otherwise) types = Err (Untyped (position_of (syntax.conditional test at taken otherwise)))
text_of it (syntax.assign target operator at second) types = Err (Untyped (position_of (syntax.assign target operator at second)))
text_of it (syntax.comma lefts last) types = Err (Untyped (position_of (syntax.comma lefts last)))

-- a string literal
abbrev pub is_string : Expression → Bool
is_string (syntax.strings first others) = true
is_string (syntax.name word) = false
is_string (syntax.number word) = false
is_string (syntax.character word) = false
is_string (syntax.parens at inner) = false
is_string (syntax.index base at offset) = false
is_string (syntax.call callee arguments) = false
is_string (syntax.member base access at word) = false
is_string (syntax.postfix base operator at) = false
is_string (syntax.prefix operator at base) = false
is_string (syntax.sizeof_value at base) = false
is_string (syntax.sizeof_type at name) = false
is_string (syntax.cast at name base) = false
is_string (syntax.binary first operator at second) = false
is_string (syntax.conditional test at taken otherwise) = false
is_string (syntax.assign target operator at second) = false
is_string (syntax.comma lefts last) = false

-- a list of one string literal
abbrev pub lone_string : Initialisers → Option Expression
lone_string syntax.no_initialisers = None
lone_string (syntax.more_initialisers (syntax.list at its comma) rest) = None
lone_string (syntax.more_initialisers (syntax.value e) syntax.no_initialisers) = if is_string e then Some e else None
lone_string (syntax.more_initialisers (syntax.value e) (syntax.more_initialisers next rest)) = None

-- one scalar, which an expression initialises
abbrev pub scalar : Subobject → Expression → Step (List Part)
scalar it e = do
  its ← value_of (typed e)
  part ← of_types (part_of it (position_of e) its)
  give (part ∷ [])

-- an expression with nothing left to initialise, which is refused at that place
abbrev pub excess : Place → Expression → Step (List Part)
excess at e = value_of (typed e) >>= (λ its. refuse (Untyped at))

-- a scalar, or an array of characters and a string
abbrev pub simple : Subobject → Expression → Step (List Part)
simple it e s = if is_string e && is_some (text_kind s.types it.type_id) then of_types (text_of it e) s else scalar it e s

-- the parts so far, and the aggregates that have begun
abbrev pub Filled : Type 0
Filled = List Part × List Aggregate

-- Where an item that nothing is left for is refused. If the object is an array of unknown length, the item would make it too large, which is
-- refused at the name of the object (own); otherwise the item itself is refused.
abbrev pub place_beyond : TypeTable → Place → List Aggregate → Place → Place
place_beyond types name begun at = if is_growing types begun then name else at

-- what an expression in a list initialises; if nothing is left, it is refused at `at`
abbrev pub placed_value : Place → List Part → Expression → Option Reached → Step Filled
placed_value at done e None = excess at e >>= (λ its. give (done ++ its, []))
placed_value at done e (Some to) = simple to.0 e >>= (λ its. give (done ++ its, to.1))

-- what a list inside a list initialises; if nothing is left, it is refused at `at`
abbrev pub whole_at : Place → Option Reached → Result Reached TypeError
whole_at at None = Err (Untyped at)
whole_at at (Some to) = Ok to

-- so many characters
abbrev pub text_filled : TypeId → List Part → List Part → Filled
text_filled id done its = (done ++ its, record { type_id = id; offset = 0; field = None; begun = length its } ∷ [])

-- a string literal in braces, for an array of characters
abbrev pub text_or : Option Expression → Subobject → List Part → Step Filled → Step Filled
text_or None it done others s = others s
text_or (Some e) it done others s =
    if is_some (text_kind s.types it.type_id) then (of_types (text_of it e) >>= (λ its. give (text_filled it.type_id done its))) s else others s

abbrev mutual
  -- one initialiser of a list; `name` is the place of the object's name
  pub placed : Place → Filled → Initialising → Step Filled
  placed name done (syntax.value e) = do
    at ← look (λ s. Ok (place_beyond s.types name done.1 (position_of e)))
    to ← look (λ s. Ok (reached s.types (is_string e) done.1))
    placed_value at done.0 e to
  placed name done (syntax.list at its comma) = do
    to ← look (λ s. whole_at (place_beyond s.types name done.1 at) (whole s.types done.1))
    inner ← text_or (lone_string its) to.0 done.0 (all_placed name (done.0, fresh to.0 ∷ []) its)
    give (inner.0, to.1)

  -- those of a list, in their order
  pub all_placed : Place → Filled → Initialisers → Step Filled
  all_placed name done syntax.no_initialisers = give done
  all_placed name done (syntax.more_initialisers first rest) = placed name done first >>= (λ next. all_placed name next rest)

-- a list in braces, for that object, as it is in a list
abbrev pub braced : Place → Subobject → List Part → Initialisers → Step Filled
braced name it done its = text_or (lone_string its) it done (all_placed name (done, fresh it ∷ []) its)

-- the whole object
abbrev pub all_of : TypeId → Subobject
all_of id = record { offset = 0; type_id = id; field = None }

-- an array of so many elements, if its length was not known
abbrev pub sized_by : Place → TypeId → ℕ → Option Row → TypeTable → Result (TypeId × TypeTable) TypeError
sized_by at id count None types = Ok (id, types)
sized_by at id count (Some row.Void) types = Ok (id, types)
sized_by at id count (Some (row.Integer kind)) types = Ok (id, types)
sized_by at id count (Some (row.Pointer of)) types = Ok (id, types)
sized_by at id count (Some (row.Enumeration number)) types = Ok (id, types)
sized_by at id count (Some (row.Struct number)) types = Ok (id, types)
sized_by at id count (Some (row.Array of size layout)) types = Ok (id, types)
sized_by at id count (Some (row.OpenArray of)) types = untyped_end at (arrayed of count types)
sized_by at id count (Some (row.Function result parameters)) types = Ok (id, types)

-- the type of the object, refused at its name if it is too large
abbrev pub sized : Place → TypeId → ℕ → TypeTable → Result (TypeId × TypeTable) TypeError
sized at id count types = sized_by at id count (row_of types id) types

-- an expression alone initialises a scalar, or a string literal an array of characters
abbrev pub alone : TypeId → Expression → Step (List Part)
alone id e s = if takes s.types (is_string e) (all_of id) then simple (all_of id) e s else excess (position_of e) e s

-- a list in braces for the whole object
abbrev pub listed : Place → TypeId → Initialisers → Step (TypeId × List Part)
listed at id its = do
  filled ← braced at (all_of id) [] its
  made ← on_types (sized at id (count_begun filled.1))
  give (made, filled.0)

-- 3.5.7: an object of static storage duration, or one that a list initialises; `at` is its name
abbrev pub initialised : Place → TypeId → Initialising → Step (TypeId × List Part)
initialised at id (syntax.value e) = do
  its ← alone id e
  made ← on_types (sized at id (length its))
  give (made, its)
initialised at id (syntax.list brace its comma) = listed at id its

-- with constants
abbrev pub with_parts : TypeId × List Part → TypeId × Starting
with_parts p = (p.0, tree.parts p.1)

-- an automatic object that an expression initialises, as by assignment
abbrev pub assigned_start : TypeId → Expression → Step (TypeId × Starting)
assigned_start id e = do
  its ← value_of (typed e)
  converted ← of_types (λ types. lifted (assigned types (position_of e) id its))
  give (id, tree.value converted)

-- an automatic object that constants initialise
abbrev pub constant_start : Place → TypeId → Initialising → Step (TypeId × Starting)
constant_start at id it = initialised at id it >>= (λ p. give (with_parts p))

-- 3.5.7: an automatic object
abbrev pub starting : Place → TypeId → Initialising → Step (TypeId × Starting)
starting at id (syntax.value e) s =
    if is_string e && is_some (text_kind s.types id)
    then constant_start at id (syntax.value e) s
    else assigned_start id e s
starting at id (syntax.list brace its comma) s = constant_start at id (syntax.list brace its comma) s
