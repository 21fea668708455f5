-- Refusals of two steps, one after the other.
--     both_refuse next given it      what the first one refuses, both refuse
use Rattle.std.specs.Prelude.{Result}
use Rattle.std.proofs.Common.{ap}
use Rattle.hs_linkage.specs.Works.{Work, work_with}
use Rattle.hs_linkage.specs.declared.translator.Translator.{Translator}
use Rattle.hs_typer.specs.Steps.{Refuses}
use Rattle.hs_typer.specs.declared.type_error.TypeError.{TypeError}
use Rattle.hs_typer.specs.declared.type_error.TypeError.TheVariants as why

-- whatever comes next
pub both_refuse : {A B : Type 0} → (next : A → Work B) (given : Result (A × Translator) TypeError) (it : TypeError) → Refuses given it
    → Refuses (work_with next given) it
both_refuse next given why.NoMemory is = tt
both_refuse next given (why.Untyped at) is = ap (work_with next) is
both_refuse next given (why.Undeclared at name) is = ap (work_with next) is
both_refuse next given (why.UnknownRoutine at name) is = ap (work_with next) is
both_refuse next given (why.Clash at name) is = ap (work_with next) is
