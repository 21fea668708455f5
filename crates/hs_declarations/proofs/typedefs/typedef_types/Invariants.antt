use Rattle.std.proofs.Common.{◌≡◌, [], map, drop}
use Rattle.hs_declarations.specs.Declarations.{typedef_types}
use Rattle.hs_syntax.specs.Views.{view_item}
use Rattle.hs_declarations.proofs.typedefs.typedef_types.Given as goal

-- the declarators that are left, after those so far, have their types as all have
abbrev pub invariant-its : goal.invariant-its
invariant-its l =
    typedef_types l.at l.base l.done.items (map view_item (drop l.it-index l.its)) l.m ≡ typedef_types l.at l.base [] (map view_item l.its) l.fn.m
