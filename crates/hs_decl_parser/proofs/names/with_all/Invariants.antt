use Rattle.std.proofs.Common.{◌≡◌, ◌++◌, drop, map}
use Rattle.hs_syntax.specs.Phrases.{name_of}
use Rattle.hs_syntax.specs.Views.{view_declarator}
use Rattle.hs_decl_parser.proofs.names.with_all.Given as goal

-- the names so far, and those of the declarators that are left
abbrev pub invariant-items : goal.invariant-items
invariant-items l =
    l.names ++ map (λ item. name_of (view_declarator item.declarator)) (drop l.item-index l.items)
    ≡ l.fn.known ++ map (λ item. name_of (view_declarator item.declarator)) l.items
