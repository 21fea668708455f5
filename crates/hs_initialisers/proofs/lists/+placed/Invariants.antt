use Rattle.std.proofs.Common.{◌≡◌, map, drop}
use Rattle.hs_initialisers.specs.Initialisers.{all_placed}
use Rattle.hs_syntax.specs.StatementViews.{initialisers_from}
use Rattle.hs_syntax.specs.Views.{view_initialiser}
use Rattle.hs_initialisers.proofs.lists.+placed.Given as goal

-- those that are left, after those so far, are placed as all are
abbrev pub invariant-all_placed-its : goal.invariant-all_placed-its
invariant-all_placed-its l =
    all_placed l.name (l.all.parts.items, l.all.begun) (initialisers_from (map view_initialiser (drop l.it-index l.its))) l.typer
    ≡ all_placed l.fn.name (l.fn.done.parts.items, l.fn.done.begun) (initialisers_from (map view_initialiser l.its)) l.fn.typer
