-- The spellings of operators and words, and how tightly operators bind.
--     binary_text, assign_text, ..     the spelling
--     precedence_of operator                the binary operators bind from 10, the tightest, to 1 (3.3.5 to 3.3.14)
use Rattle.std.specs.Prelude.{ℕ, List, codes}
use Rattle.hs_syntax.specs.declared.operators.Access.{Access}
use Rattle.hs_syntax.specs.declared.operators.Access.TheVariants as access
use Rattle.hs_syntax.specs.declared.operators.AssignOperator.{AssignOperator}
use Rattle.hs_syntax.specs.declared.operators.AssignOperator.TheVariants as assigning
use Rattle.hs_syntax.specs.declared.operators.Basic.{Basic}
use Rattle.hs_syntax.specs.declared.operators.Basic.TheVariants as basic
use Rattle.hs_syntax.specs.declared.operators.BinaryOperator.{BinaryOperator}
use Rattle.hs_syntax.specs.declared.operators.BinaryOperator.TheVariants as binary
use Rattle.hs_syntax.specs.declared.operators.Dropped.{Dropped}
use Rattle.hs_syntax.specs.declared.operators.Dropped.TheVariants as dropped
use Rattle.hs_syntax.specs.declared.operators.PostfixOperator.{PostfixOperator}
use Rattle.hs_syntax.specs.declared.operators.PostfixOperator.TheVariants as postfix
use Rattle.hs_syntax.specs.declared.operators.PrefixOperator.{PrefixOperator}
use Rattle.hs_syntax.specs.declared.operators.PrefixOperator.TheVariants as prefix
use Rattle.hs_syntax.specs.declared.operators.Storage.{Storage}
use Rattle.hs_syntax.specs.declared.operators.Storage.TheVariants as storage

abbrev pub binary_text : BinaryOperator → List ℕ
binary_text binary.Multiply = codes "*"
binary_text binary.Divide = codes "/"
binary_text binary.Remainder = codes "%"
binary_text binary.Add = codes "+"
binary_text binary.Subtract = codes "-"
binary_text binary.ShiftLeft = codes "<<"
binary_text binary.ShiftRight = codes ">>"
binary_text binary.Less = codes "<"
binary_text binary.Greater = codes ">"
binary_text binary.LessEqual = codes "<="
binary_text binary.GreaterEqual = codes ">="
binary_text binary.Equal = codes "=="
binary_text binary.NotEqual = codes "!="
binary_text binary.BitAnd = codes "&"
binary_text binary.BitXor = codes "^"
binary_text binary.BitOr = codes "|"
binary_text binary.And = codes "&&"
binary_text binary.Or = codes "||"

abbrev pub precedence_of : BinaryOperator → ℕ
precedence_of binary.Multiply = 10
precedence_of binary.Divide = 10
precedence_of binary.Remainder = 10
precedence_of binary.Add = 9
precedence_of binary.Subtract = 9
precedence_of binary.ShiftLeft = 8
precedence_of binary.ShiftRight = 8
precedence_of binary.Less = 7
precedence_of binary.Greater = 7
precedence_of binary.LessEqual = 7
precedence_of binary.GreaterEqual = 7
precedence_of binary.Equal = 6
precedence_of binary.NotEqual = 6
precedence_of binary.BitAnd = 5
precedence_of binary.BitXor = 4
precedence_of binary.BitOr = 3
precedence_of binary.And = 2
precedence_of binary.Or = 1

abbrev pub assign_text : AssignOperator → List ℕ
assign_text assigning.Plain = codes "="
assign_text assigning.Multiply = codes "*="
assign_text assigning.Divide = codes "/="
assign_text assigning.Remainder = codes "%="
assign_text assigning.Add = codes "+="
assign_text assigning.Subtract = codes "-="
assign_text assigning.ShiftLeft = codes "<<="
assign_text assigning.ShiftRight = codes ">>="
assign_text assigning.BitAnd = codes "&="
assign_text assigning.BitXor = codes "^="
assign_text assigning.BitOr = codes "|="

abbrev pub prefix_text : PrefixOperator → List ℕ
prefix_text prefix.Increment = codes "++"
prefix_text prefix.Decrement = codes "--"
prefix_text prefix.Address = codes "&"
prefix_text prefix.Dereference = codes "*"
prefix_text prefix.Plus = codes "+"
prefix_text prefix.Minus = codes "-"
prefix_text prefix.Complement = codes "~"
prefix_text prefix.Not = codes "!"

abbrev pub postfix_text : PostfixOperator → List ℕ
postfix_text postfix.Increment = codes "++"
postfix_text postfix.Decrement = codes "--"

abbrev pub access_text : Access → List ℕ
access_text access.Dot = codes "."
access_text access.Arrow = codes "->"

abbrev pub storage_text : Storage → List ℕ
storage_text storage.Typedef = codes "typedef"
storage_text storage.Extern = codes "extern"
storage_text storage.Static = codes "static"

abbrev pub dropped_text : Dropped → List ℕ
dropped_text dropped.Auto = codes "auto"
dropped_text dropped.Register = codes "register"
dropped_text dropped.Const = codes "const"
dropped_text dropped.Volatile = codes "volatile"
dropped_text dropped.Pascal = codes "pascal"

abbrev pub basic_text : Basic → List ℕ
basic_text basic.Void = codes "void"
basic_text basic.Char = codes "char"
basic_text basic.Short = codes "short"
basic_text basic.Int = codes "int"
basic_text basic.Long = codes "long"
basic_text basic.Signed = codes "signed"
basic_text basic.Unsigned = codes "unsigned"
