use Rattle.std.proofs.Common.{rules, map}
use Rattle.hs_syntax.specs.StatementLaws.{initialisers_seen}
use Rattle.hs_syntax.specs.StatementViews.{initialisers_from}
use Rattle.hs_syntax.specs.Views.{view, view_initialiser}
use Rattle.std.specs.Prelude.{option_map}
use Rattle.hs_initialisers.proofs.Choices.{braced_listed, value_placed, list_refused}
use Rattle.hs_initialisers.proofs.lists.+placed.Goals as goal

-- a string literal in braces for an object that is no array of characters
pub braced-returns-else-is_some : goal.braced-returns-else-is_some
braced-returns-else-is_some t c =
    braced_listed (λ all. (all.parts.items, all.begun)) c.listed.new.typer c.args.typer.now c.args.name c.args.it c.args.done.items
    (initialisers_from (map view_initialiser c.args.its.now)) (view c.in-Some.e.now) c.listed.result (search rules) (search rules) (search rules)

-- an expression is for what is reached
pub placed-returns-in_ok-to-in-Value : goal.placed-returns-in_ok-to-in-Value
placed-returns-in_ok-to-in-Value t c =
    rw c.in-Value.is
    (value_placed (λ all. (all.parts.items, all.begun)) c.placed_value.new.typer c.args.typer.now c.args.name
    c.place_beyond-at.result (c.args.done.parts.items, c.args.done.begun) (view c.in-Value.e) (option_map (λ to. (to.it, to.begun)) c.in_ok-to-in-Value.to) c.placed_value.result (search rules) (search rules) (search rules))

-- the initialisers of a list in braces are the list
pub placed-returns-in_err-inner-in-List : goal.placed-returns-in_err-inner-in-List
placed-returns-in_err-inner-in-List t c =
    rw (c.in-List.is, initialisers_seen c.in-List.values, ← c.deref.ensures.value)
    (list_refused (λ all. (all.parts.items, all.begun)) c.braced.new.typer c.args.typer.now c.args.name c.in-List.at
    (initialisers_from (map view_initialiser c.deref.result.now)) c.in-List.comma (c.args.done.parts.items, c.args.done.begun)
    (c.in_ok-to-in-List.to.it, c.in_ok-to-in-List.to.begun) c.braced.result c.from_residual-in_err-inner-in-List.result c.in_err-inner-in-List.field-0.0
    (search rules) (search rules) (search rules) (search rules))

pub placed-returns-in_ok-inner-in-List : goal.placed-returns-in_ok-inner-in-List
placed-returns-in_ok-inner-in-List t c = rw (c.in-List.is, initialisers_seen c.in-List.values, ← c.deref.ensures.value) (search rules)
