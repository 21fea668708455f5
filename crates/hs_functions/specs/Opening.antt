-- The scope of the parameters of a function that is being defined, which goes on in its body (X3.159-1989 3.1.2.1).
--     opened_type at base it its      the type of the function with these parameters, with that scope as the innermost one
--     named_outside word it      the name of the function, in the scope around it
use Rattle.std.specs.Prelude.{true, Ok}
use Rattle.hs_declarations.specs.Fronts.{item_type}
use Rattle.hs_expressions.specs.Expressions.{enter}
use Rattle.hs_names.specs.Scopes.{declared_outside}
use Rattle.hs_syntax.specs.Trees as syntax
use Rattle.hs_syntax.specs.Trees.{Declared, Parameters}
use Rattle.hs_syntax.specs.declared.word.Word.{Word}
use Rattle.hs_tokens.specs.declared.place.Place.{Place}
use Rattle.hs_typer.specs.Steps.{Step, ◌>>=◌, ◌>>◌, give}
use Rattle.hs_typer.specs.declared.typer.Entity.{Entity}
use Rattle.hs_types.specs.declared.row.TypeId.{TypeId}

-- a scope begins
abbrev pub opened : Step (Unit {0})
opened s = Ok (tt, enter s)

-- The scope of the parameters does not end with them. They are the first list of parameters that the declarator has. Without parameters
-- the scope begins after the type.
abbrev pub opened_type : Place → TypeId → Declared → Parameters → Step TypeId
opened_type at base it syntax.no_parameters s = (item_type at base it >>= (λ id. opened >> give id)) s
opened_type at base it (syntax.more_parameters words first rest) s = item_type at base it (record s { keeps = true })

-- 3.1.2.1: the name of a function is of the scope around that of its parameters
abbrev pub named_outside : Word → Entity → Step (Unit {0})
named_outside word it s = Ok (tt, record s { names = declared_outside word.text it s.names })
