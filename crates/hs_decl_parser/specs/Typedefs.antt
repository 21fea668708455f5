-- The specifier that makes typedef names.
use Rattle.std.specs.Prelude.{Bool, true, false}
use Rattle.hs_syntax.specs.Trees as tree
use Rattle.hs_syntax.specs.Trees.{Specified}
use Rattle.hs_syntax.specs.declared.operators.Storage.TheVariants.{Typedef}

abbrev pub is_typedef_word : Specified → Bool
is_typedef_word (tree.storage Typedef at) = true
is_typedef_word _ = false
