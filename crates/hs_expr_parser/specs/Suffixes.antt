-- What a suffix makes of the postfix expression that it follows.
use Rattle.std.specs.Prelude.{map}
use Rattle.hs_syntax.specs.RowViews.{expressions_from}
use Rattle.hs_syntax.specs.Trees as tree
use Rattle.hs_syntax.specs.Trees.{Expression}
use Rattle.hs_syntax.specs.Views.{view}
use Rattle.hs_expr_parser.specs.declared.postfixes.Suffix.{Suffix}
use Rattle.hs_expr_parser.specs.declared.postfixes.Suffix.TheVariants.{Index, Call, Member, Postfix}

abbrev pub applied : Suffix → Expression → Expression
applied (Index at index) base = tree.index base at (view index)
applied (Call its) base = tree.call base (expressions_from (map view its.items))
applied (Member access at name) base = tree.member base access at name
applied (Postfix operator at) base = tree.postfix base operator at
