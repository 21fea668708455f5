-- Rows on which the reading computes.
use Rattle.std.proofs.Common.{◌≡◌, ℕ, false, List, [], ◌∷◌, Some, None, refl}
use Rattle.std.specs.Prelude.{codes}
use Rattle.hs_tokens.specs.declared.token.SourceToken.{SourceToken}
use Rattle.hs_tokens.specs.declared.token.TokenKind.{TokenKind}
use Rattle.hs_tokens.specs.declared.token.TokenKind.TheVariants.{Identifier, Number, Literal, Punctuator}
use Rattle.hs_syntax.specs.Forms.{nowhere}
use Rattle.hs_syntax.specs.Names.{keywords}
use Rattle.hs_syntax.specs.Phrases.{specifier_words}
use Rattle.hs_syntax.specs.Trees as tree
use Rattle.hs_syntax.specs.Trees.{Expression, NamedType}
use Rattle.hs_syntax.specs.declared.operators.AssignOperator.TheVariants.{Plain}
use Rattle.hs_syntax.specs.declared.operators.BinaryOperator.{BinaryOperator}
use Rattle.hs_syntax.specs.declared.operators.BinaryOperator.TheVariants.{Add, Multiply, Subtract}
use Rattle.hs_syntax.specs.declared.operators.PrefixOperator.TheVariants.{Address, Dereference, Minus}
use Rattle.hs_syntax.specs.declared.word.Word.{Word}
use Rattle.hs_expr_parser.specs.Goals as goal
use Rattle.hs_expr_parser.specs.Recursion.{Read}
use Rattle.hs_expr_parser.specs.Reading.{reading}

-- tokens, all of one place
abbrev token : TokenKind → List ℕ → SourceToken
token kind text = record { token = record { kind = kind; text = text; pos = nowhere.pos; first = false; spaced = false }; origin = nowhere.origin }

abbrev name : List ℕ → SourceToken
name = token Identifier

abbrev mark : List ℕ → SourceToken
mark = token Punctuator

abbrev word : List ℕ → Word
word text = record { text = text; place = nowhere }

abbrev variable : List ℕ → Expression
variable text = tree.name (word text)

abbrev binary : Expression → BinaryOperator → Expression → Expression
binary left operator right = tree.binary left operator nowhere right

-- what is read, if T is a typedef name or nothing is
abbrev read : List SourceToken → Read Expression
read = reading [] goal.expression

abbrev read_with_T : List SourceToken → Read Expression
read_with_T = reading (codes "T" ∷ []) goal.expression

abbrev a : SourceToken
a = name (codes "a")

abbrev b : SourceToken
b = name (codes "b")

abbrev c : SourceToken
c = name (codes "c")

abbrev d : SourceToken
d = name (codes "d")

abbrev e : SourceToken
e = name (codes "e")

abbrev type : SourceToken
type = name (codes "T")

abbrev sizeof : SourceToken
sizeof = name (codes "sizeof")

abbrev one : SourceToken
one = token Number (codes "1")

abbrev open_ : SourceToken
open_ = mark (codes "(")

abbrev close_ : SourceToken
close_ = mark (codes ")")

abbrev minus : SourceToken
minus = mark (codes "-")

abbrev plus : SourceToken
plus = mark (codes "+")

abbrev star : SourceToken
star = mark (codes "*")

abbrev amp : SourceToken
amp = mark (codes "&")

abbrev query : SourceToken
query = mark (codes "?")

abbrev colon : SourceToken
colon = mark (codes ":")

abbrev equals : SourceToken
equals = mark (codes "=")

abbrev comma : SourceToken
comma = mark (codes ",")

abbrev semicolon : SourceToken
semicolon = mark (codes ";")

abbrev text : SourceToken
text = token Literal (codes "s")

abbrev a_read : Expression
a_read = variable (codes "a")

abbrev b_read : Expression
b_read = variable (codes "b")

abbrev c_read : Expression
c_read = variable (codes "c")

abbrev d_read : Expression
d_read = variable (codes "d")

abbrev e_read : Expression
e_read = variable (codes "e")

abbrev type_T : NamedType
type_T = tree.typed_as (tree.more_specifiers (tree.named (word (codes "T"))) tree.no_specifiers) (tree.pointing [] tree.nothing)

abbrev one_read : Expression
one_read = tree.number (word (codes "1"))

-- `a - b - c` groups to the left
groups_left : read (a ∷ minus ∷ b ∷ minus ∷ c ∷ []) ≡ Some (binary (binary a_read Subtract b_read) Subtract c_read, [])
unfolding reading keywords specifier_words
groups_left = refl

-- `a + b * c` and `a * b + c` by their precedences
product_last : read (a ∷ plus ∷ b ∷ star ∷ c ∷ []) ≡ Some (binary a_read Add (binary b_read Multiply c_read), [])
unfolding reading keywords specifier_words
product_last = refl

product_first : read (a ∷ star ∷ b ∷ plus ∷ c ∷ []) ≡ Some (binary (binary a_read Multiply b_read) Add c_read, [])
unfolding reading keywords specifier_words
product_first = refl

-- `(T)-1` is a cast if T is a typedef name, and a subtraction if it is not
casts : read_with_T (open_ ∷ type ∷ close_ ∷ minus ∷ one ∷ []) ≡ Some (tree.cast nowhere type_T (tree.prefix Minus nowhere one_read), [])
unfolding reading keywords specifier_words
casts = refl

subtracts : read (open_ ∷ type ∷ close_ ∷ minus ∷ one ∷ []) ≡ Some (binary (tree.parens nowhere (variable (codes "T"))) Subtract one_read, [])
unfolding reading keywords specifier_words
subtracts = refl

-- `sizeof (T)` and `sizeof (a)`
size_of_type : read_with_T (sizeof ∷ open_ ∷ type ∷ close_ ∷ []) ≡ Some (tree.sizeof_type nowhere type_T, [])
unfolding reading keywords specifier_words
size_of_type = refl

size_of_value : read_with_T (sizeof ∷ open_ ∷ a ∷ close_ ∷ []) ≡ Some (tree.sizeof_value nowhere (tree.parens nowhere a_read), [])
unfolding reading keywords specifier_words
size_of_value = refl

-- `a ? b : c ? d : e` and `a = b = c` group to the right
branches : read (a ∷ query ∷ b ∷ colon ∷ c ∷ query ∷ d ∷ colon ∷ e ∷ [])
    ≡ Some (tree.conditional a_read nowhere b_read (tree.conditional c_read nowhere d_read e_read), [])
unfolding reading keywords specifier_words
branches = refl

assigns : read (a ∷ equals ∷ b ∷ equals ∷ c ∷ []) ≡ Some (tree.assign a_read Plain nowhere (tree.assign b_read Plain nowhere c_read), [])
unfolding reading keywords specifier_words
assigns = refl

-- `&*a`, a cast after them, and adjacent literals
prefixes : read_with_T (amp ∷ star ∷ open_ ∷ type ∷ close_ ∷ a ∷ [])
    ≡ Some (tree.prefix Address nowhere (tree.prefix Dereference nowhere (tree.cast nowhere type_T a_read)), [])
unfolding reading keywords specifier_words
prefixes = refl

literals : read (text ∷ text ∷ []) ≡ Some (tree.strings (word (codes "s")) (word (codes "s") ∷ []), [])
unfolding reading keywords specifier_words
literals = refl

-- arguments `a(b, c)`, and a comma `a, b`
calls : read (a ∷ open_ ∷ b ∷ comma ∷ c ∷ close_ ∷ [])
    ≡ Some (tree.call a_read (tree.more_expressions b_read (tree.more_expressions c_read tree.no_expressions)), [])
unfolding reading keywords specifier_words
calls = refl

sequences : read (a ∷ comma ∷ b ∷ []) ≡ Some (tree.comma (tree.more_lefts a_read nowhere tree.no_lefts) b_read, [])
unfolding reading keywords specifier_words
sequences = refl

-- what cannot go on is left: `a + ;`, `a(b`, `a ? b ? c : d`; and no expression starts with `)` or with an open parenthesis alone
operand_missing : read (a ∷ plus ∷ semicolon ∷ []) ≡ Some (a_read, plus ∷ semicolon ∷ [])
unfolding reading keywords specifier_words
operand_missing = refl

call_open : read (a ∷ open_ ∷ b ∷ []) ≡ Some (a_read, open_ ∷ b ∷ [])
unfolding reading keywords specifier_words
call_open = refl

branch_open : read (a ∷ query ∷ b ∷ query ∷ c ∷ colon ∷ d ∷ []) ≡ Some (a_read, query ∷ b ∷ query ∷ c ∷ colon ∷ d ∷ [])
unfolding reading keywords specifier_words
branch_open = refl

none_closed : read (close_ ∷ []) ≡ None
unfolding reading keywords specifier_words
none_closed = refl

none_open : read (open_ ∷ a ∷ plus ∷ b ∷ []) ≡ None
unfolding reading keywords specifier_words
none_open = refl
