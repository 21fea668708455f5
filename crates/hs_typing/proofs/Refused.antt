-- A refusal of typing is one of the program.
use Rattle.std.proofs.Common.{List, Err, ap}
use Rattle.std.specs.Prelude.{Result}
use Rattle.hs_linkage.specs.declared.translator.Translator.{Translator}
use Rattle.hs_tree.specs.Trees.{TypedFunction}
use Rattle.hs_typer.specs.Steps.{Refuses}
use Rattle.hs_typer.specs.declared.type_error.TypeError.{TypeError}
use Rattle.hs_typer.specs.declared.type_error.TypeError.TheVariants as typing
use Rattle.hs_typing.specs.Programs.{ended, refusal_of, IsTyped}

-- what is refused is what the definition refuses, unless memory ran out
pub refused_is : (given : Result (List TypedFunction × Translator) TypeError) (why : TypeError) → Refuses given why
    → IsTyped (ended given) (Err (refusal_of why))
refused_is given typing.NoMemory refused = tt
refused_is given (typing.Untyped at) refused = ap ended refused
refused_is given (typing.Undeclared at name) refused = ap ended refused
refused_is given (typing.UnknownRoutine at name) refused = ap ended refused
refused_is given (typing.Clash at name) refused = ap ended refused
