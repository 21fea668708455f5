-- Function definitions (X3.159-1989 3.7.1) as typed functions, or the first refusal.
--     parameters_of it                     the parameters of what a declarator names, if it is a function
--     defined number specifiers it body    the function that a definition defines, which has that number in the program
use Rattle.std.specs.Prelude.{ℕ, ◌==◌, Bool, true, false, not, ◌||◌, List, [], ◌∷◌, length, drop, slice_get, Option, Some, None, Ok, if◌then◌else◌}
use Rattle.hs_declarations.specs.Declarations.{is_static, is_typedef_word, is_whole, new_local}
use Rattle.hs_declarations.specs.Fronts.{front, storage_place}
use Rattle.hs_declarations.specs.declared.fronts.Front.{Front}
use Rattle.hs_expressions.specs.Expressions.{first_place}
use Rattle.hs_functions.specs.Opening.{opened_type, named_outside}
use Rattle.hs_linkage.specs.Linkage.{may_name, link, clash_of}
use Rattle.hs_linkage.specs.Objects.{marked}
use Rattle.hs_linkage.specs.Works.{Work, ◌>>=◌, ◌>>◌, pass, stop, typing, unless}
use Rattle.hs_operand_types.specs.declared.operand.Bound.{Bound}
use Rattle.hs_operand_types.specs.declared.operand.Bound.TheVariants as bound
use Rattle.hs_statements.specs.Statements.{body_of, without_scope}
use Rattle.hs_syntax.specs.Trees as syntax
use Rattle.hs_syntax.specs.Trees.{Declared, Directly, Parameters, Specification, Compound}
use Rattle.hs_syntax.specs.declared.operators.Storage.{Storage}
use Rattle.hs_syntax.specs.declared.word.Word.{Word}
use Rattle.hs_tokens.specs.declared.place.Place.{Place}
use Rattle.hs_tree.specs.Kinds.{is_void, is_readable}
use Rattle.hs_tree.specs.Trees.{TypedBlock, TypedFunction}
use Rattle.hs_typer.specs.Declarators.{word_of}
use Rattle.hs_typer.specs.declared.type_error.TypeError.TheVariants.{Untyped}
use Rattle.hs_typer.specs.declared.typer.Entity.{Entity}
use Rattle.hs_typer.specs.declared.typer.Entity.TheVariants as entity
use Rattle.hs_types.specs.TypeTables.{row_of}
use Rattle.hs_types.specs.declared.row.ListId.{ListId}
use Rattle.hs_types.specs.declared.row.Parameters.{Parameters as Listed}
use Rattle.hs_types.specs.declared.row.Parameters.TheVariants.{Empty, More}
use Rattle.hs_types.specs.declared.row.Row.{Row}
use Rattle.hs_types.specs.declared.row.Row.TheVariants as row
use Rattle.hs_types.specs.declared.row.TypeId.{TypeId}

abbrev mutual
  -- nothing but a name, maybe in parentheses
  pub is_name : Directly → Bool
  is_name syntax.nothing = false
  is_name (syntax.identifier word) = true
  is_name (syntax.parens_of it) = is_bare it
  is_name (syntax.array base) = false
  is_name (syntax.sized_array base length) = false
  is_name (syntax.function base its) = false
  is_name (syntax.function_of_void base at) = false

  pub is_bare : Declared → Bool
  is_bare (syntax.pointing [] direct) = is_name direct
  is_bare (syntax.pointing (pointer ∷ pointers) direct) = false

abbrev mutual
  -- 3.7.1: what the declarator names is a function by the declarator itself, and not by a typedef name
  pub parameters_of : Declared → Option Parameters
  parameters_of (syntax.pointing pointers direct) = parameters_of_direct direct

  -- the same of what follows the pointers
  pub parameters_of_direct : Directly → Option Parameters
  parameters_of_direct syntax.nothing = None
  parameters_of_direct (syntax.identifier word) = None
  parameters_of_direct (syntax.parens_of it) = parameters_of it
  parameters_of_direct (syntax.array base) = parameters_of_direct base
  parameters_of_direct (syntax.sized_array base length) = parameters_of_direct base
  parameters_of_direct (syntax.function base its) = if is_name base then Some its else parameters_of_direct base
  parameters_of_direct (syntax.function_of_void base at) = if is_name base then Some syntax.no_parameters else parameters_of_direct base

-- 3.7.1: the storage word of a definition is `extern` or `static`; `stored` is its place
abbrev pub may_store : Place → Option Storage → Work (Unit {0})
may_store stored storage = unless (Untyped stored) (λ m. is_typedef_word storage)

-- 3.7.1: it gives nothing, or a value that can be read
abbrev pub may_give : Word → TypeId → Work (Unit {0})
may_give word id = unless (Untyped word.place) (λ m. not (is_void m.typer.types id || is_readable m.typer.types id))

-- the calls of the name are bound to another definition
abbrev pub is_other : ℕ → Bound → Bool
is_other number (bound.Function its) = not (its == number)
is_other number (bound.Routine its) = false
is_other number bound.Nothing = false

abbrev pub is_of_other : ℕ → Entity → Bool
is_of_other number (entity.Constant bits) = false
is_of_other number (entity.Variable variable id) = false
is_of_other number (entity.Function id its) = is_other number its
is_of_other number (entity.Typedef id) = false

-- a second definition of a function is a Clash (own; 3.7 asks for one)
abbrev pub is_only : ℕ → Word → Entity → Work (Unit {0})
is_only number word it = unless (clash_of word) (λ m. is_of_other number it)

-- 3.7.1: a parameter of a definition has a name and a complete type
abbrev pub named_parameter : Place → Option Word → TypeId → Work (Unit {0})
named_parameter first None id = stop (Untyped first)
named_parameter first (Some word) id = is_whole word id >> (new_local word id >>= (λ place. pass tt))

-- the first type of a list, and the others
abbrev pub first_type : Place → Option Listed → Work (TypeId × ListId)
first_type first None = stop (Untyped first)
first_type first (Some Empty) = stop (Untyped first)
first_type first (Some (More id others)) = pass (id, others)

-- by its number
abbrev pub next_type : Place → ListId → Work (TypeId × ListId)
next_type first list m = first_type first (slice_get m.typer.types.lists list.number) m

-- one parameter, and the types of the others
abbrev pub parameter_in : Place → Declared → ListId → Work ListId
parameter_in first it list = do
  its ← next_type first list
  named_parameter first (word_of it) its.0
  pass its.1

-- the parameters are the first variables of the function, in their order
abbrev pub parameters_in : Place → Parameters → ListId → Work (Unit {0})
parameters_in at syntax.no_parameters list = pass tt
parameters_in at (syntax.more_parameters specifiers it rest) list =
    parameter_in (first_place at specifiers) it list >>= (λ others. parameters_in at rest others)

-- how many variables the function has, and how many addresses the program has taken
abbrev pub counts : Work (ℕ × ℕ)
counts m = Ok ((length m.locals, length m.typer.taken), m)

-- The function, after its body. The variables whose addresses its body takes are marked.
abbrev pub finished : List ℕ → Place → TypeId → ℕ → ℕ → TypedBlock → Work TypedFunction
finished name at id count before it m =
    Ok (
      record {
        name = name;
        at = at;
        result = id;
        parameters = count;
        variables = marked (drop before m.typer.taken) 0 m.locals;
        body = it;
      },
      record (without_scope m) { locals = [] },
    )

-- with its parameters and its body
abbrev pub defined_with : ℕ → Bool → Word → Parameters → TypeId → Compound → TypeId → ListId → Work TypedFunction
defined_with number static word parameters id body its list = do
  may_give word its
  entity ← link static word id
  is_only number word entity
  typing (named_outside word entity)
  parameters_in word.place parameters list
  done ← counts
  made ← body_of its body
  finished word.text word.place its done.0 done.1 made

-- by the type that its declarator gives it
abbrev pub defined_of : ℕ → Bool → Word → Parameters → TypeId → Compound → Option Row → Work TypedFunction
defined_of number static word them id body None = stop (Untyped word.place)
defined_of number static word them id body (Some row.Void) = stop (Untyped word.place)
defined_of number static word them id body (Some (row.Integer kind)) = stop (Untyped word.place)
defined_of number static word them id body (Some (row.Pointer of)) = stop (Untyped word.place)
defined_of number static word them id body (Some (row.Enumeration tag)) = stop (Untyped word.place)
defined_of number static word them id body (Some (row.Struct tag)) = stop (Untyped word.place)
defined_of number static word them id body (Some (row.Array of length layout)) = stop (Untyped word.place)
defined_of number static word them id body (Some (row.OpenArray of)) = stop (Untyped word.place)
defined_of number static word them id body (Some (row.Function its list)) =
    defined_with number static word them id body its list

-- of that type
abbrev pub defined_as : ℕ → Bool → Word → Parameters → Compound → TypeId → Work TypedFunction
defined_as number static word parameters body id m = defined_of number static word parameters id body (row_of m.typer.types id) m

-- A definition names a function, by a list of parameters.
abbrev pub defined_by : ℕ → Place → Front → Declared → Compound → Option Word → Option Parameters → Work TypedFunction
defined_by number at said it body None parameters = stop (Untyped at)
defined_by number at said it body (Some word) None = stop (Untyped word.place)
defined_by number at said it body (Some word) (Some parameters) = do
  may_name word
  id ← typing (opened_type at said.type_id it parameters)
  defined_as number (is_static said.storage) word parameters body id

-- after its specifiers
abbrev pub defined_said : ℕ → Place → Place → Declared → Compound → Front → Work TypedFunction
defined_said number at stored it body said =
    may_store stored said.storage >> defined_by number at said it body (word_of it) (parameters_of it)

-- the first of which is at that place
abbrev pub defined_at : ℕ → Place → Specification → Declared → Compound → Work TypedFunction
defined_at number at specifiers it body = typing (front at specifiers) >>= defined_said number at (storage_place at specifiers) it body

-- the place of the `{` of a block
abbrev pub brace_of : Compound → Place
brace_of (syntax.compound opening before its closing) = opening

-- 3.7.1: without specifiers the function gives an `int`
abbrev pub defined : ℕ → Specification → Declared → Compound → Work TypedFunction
defined number specifiers it body = defined_at number (first_place (brace_of body) specifiers) specifiers it body
