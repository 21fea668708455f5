use Rattle.std.proofs.Common.{take}
use Rattle.hs_expr_parser.specs.Index.{IsIndexOf}
use Rattle.hs_expr_parser.proofs.type_names.TypeNames.from_vec.Given as goal

-- the index is that of the names so far
abbrev pub invariant-names : goal.invariant-names
invariant-names l = IsIndexOf l.index.keys (take l.name-index l.name-items)
