use Rattle.std.proofs.Common.{rules, ◌≡◌, Some}
use Rattle.hs_functions.proofs.functions.defined_as.Goals as goal
use Rattle.hs_types.specs.TypeTables.{row_of}
use Rattle.hs_types.specs.declared.row.Row.TheVariants as row

-- a function by its type
pub returns-in-Some-Function : goal.returns-in-Some-Function
returns-in-Some-Function c =
    let is : row_of c.args.m.now.typer.types c.args.id ≡ Some (row.Function c.in-Some-Function.given c.in-Some-Function.list) = search rules in
    rw is c.defined_with.ensures
