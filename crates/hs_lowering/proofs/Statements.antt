-- The code of small statements, each row computed: the piece, how many values are on the stack, and the operation.
use Rattle.std.proofs.Common.{◌≡◌, ℕ, List, [], ◌∷◌, map, Some, None, refl}
use Rattle.std.specs.Prelude.{codes}
use Rattle.hs_code.specs.declared.function_code.Placed.{Placed}
use Rattle.hs_code.specs.declared.op.Access.TheVariants as access
use Rattle.hs_code.specs.declared.op.Object.TheVariants as object
use Rattle.hs_code.specs.declared.op.Op.{Op}
use Rattle.hs_code.specs.declared.op.Op.TheVariants.{Num, Address, Get, Set, Store, Drop, Offset, Jump, Zero, Choose, Return, Turn, Mark}
use Rattle.hs_lowering.proofs.Rows.{int, head, variables, get, num, setting}
use Rattle.hs_lowering.specs.Statements.{Written, statement_code, function_code}
use Rattle.hs_tokens.specs.declared.place.Place.{Place}
use Rattle.hs_tree.specs.Trees as tree
use Rattle.hs_tree.specs.Trees.{RightValue, TypedStatement, TypedStatements, TypedBlock, TypedFunction, TypedDeclaration, TypedItem}
use Rattle.hs_tree.specs.declared.head.Variable.TheVariants as name
use Rattle.hs_tree.specs.declared.statement.Label.TheVariants as label
use Rattle.hs_types.specs.declared.integer.Integer.TheVariants as kind

abbrev at : ℕ → Place
at col = (head col int).at

-- a list of statements without labels
abbrev all : List TypedStatement → TypedStatements
all [] = tree.no_statements
all (it ∷ rest) = tree.more_statements [] it (all rest)

abbrev block : List TypedDeclaration → TypedStatements → TypedBlock
block declarations list = tree.compound (at 1) declarations list (at 9)

abbrev function : TypedBlock → TypedFunction
function body =
    record { name = codes "f"; at = at 1; result = int; parameters = 0; variables = variables; body = body }

-- i;
abbrev read : TypedStatement
read = tree.expression (at 5) (get int 3)

abbrev Short : Type 0
Short = ℕ × ℕ × Op

abbrev short : Placed → Short
short its = (its.piece, its.places, its.op)

-- from piece 10, case 4 and operation 100 on; `break` goes to 7, and `continue` to 8
abbrev written : TypedStatement → Written
written it =
    statement_code setting (function (block [] tree.no_statements)) it (record { pieces = 10; cases = 4 }) (record { breaks = 7; continues = 8 }) 100

abbrev code_of : TypedStatement → List Short
code_of it = map short (written it).ops

simple : code_of read ≡ (10, 0, Get (name.Local 3)) ∷ (10, 1, Drop) ∷ []
simple = refl

empty : code_of (tree.empty (at 1)) ≡ (10, 0, Mark) ∷ []
empty = refl

jumps : code_of (tree.block (block [] (all (tree.break_ (at 2) ∷ tree.continue_ (at 3) ∷ []))))
    ≡ (10, 0, Mark) ∷ (11, 0, Jump 7) ∷ (12, 0, Jump 8) ∷ (13, 0, Mark) ∷ []
jumps = refl

returned : code_of (tree.return_ (at 2) (Some (num 5))) ≡ (10, 0, Num 5) ∷ (10, 1, Return) ∷ []
returned = refl

returned_nothing : code_of (tree.return_ (at 2) None) ≡ (10, 0, Num 0) ∷ (10, 1, Return) ∷ []
returned_nothing = refl

-- if (i) i;
if_ : code_of (tree.if_ (at 2) (get int 3) read)
    ≡ (10, 0, Get (name.Local 3)) ∷ (10, 1, Zero 104) ∷ (11, 0, Get (name.Local 3)) ∷ (11, 1, Drop) ∷ (12, 0, Mark) ∷ []
if_ = refl

-- if (i) i; else ;
if_else : code_of (tree.if_else (at 2) (get int 3) read (tree.empty (at 4)))
    ≡ (10, 0, Get (name.Local 3)) ∷ (10, 1, Zero 105) ∷ (11, 0, Get (name.Local 3)) ∷ (11, 1, Drop) ∷ (13, 0, Jump 106) ∷ (12, 0, Mark)
    ∷ (13, 0, Mark) ∷ []
if_else = refl

-- while (i) { break; continue; }
while_ : code_of (tree.while_ (at 2) (get int 3) (tree.block (block [] (all (tree.break_ (at 3) ∷ tree.continue_ (at 4) ∷ [])))))
    ≡ (10, 0, Mark) ∷ (11, 0, Get (name.Local 3)) ∷ (11, 1, Zero 109) ∷ (11, 0, Turn) ∷ (12, 0, Mark) ∷ (13, 0, Jump 109) ∷ (14, 0, Jump 100)
    ∷ (15, 0, Mark) ∷ (10, 0, Jump 100) ∷ (16, 0, Mark) ∷ []
while_ = refl

-- do { break; continue; } while (i);
do_ : code_of (tree.do_ (at 2) (tree.block (block [] (all (tree.break_ (at 3) ∷ tree.continue_ (at 4) ∷ [])))) (get int 3))
    ≡ (10, 0, Mark) ∷ (10, 0, Turn) ∷ (11, 0, Mark) ∷ (12, 0, Jump 109) ∷ (13, 0, Jump 106) ∷ (14, 0, Mark)
    ∷ (15, 0, Get (name.Local 3)) ∷ (15, 1, Zero 109) ∷ (10, 0, Jump 100) ∷ (16, 0, Mark) ∷ []
do_ = refl

-- for (i; i; 1) continue;
for_ : code_of (tree.for_ (at 2) (Some (get int 3)) (Some (get int 3)) (Some (num 1)) (tree.continue_ (at 4)))
    ≡ (10, 0, Get (name.Local 3)) ∷ (10, 1, Drop) ∷ (11, 0, Mark) ∷ (12, 0, Get (name.Local 3)) ∷ (12, 1, Zero 110) ∷ (12, 0, Turn)
    ∷ (14, 0, Jump 107) ∷ (13, 0, Num 1) ∷ (13, 1, Drop) ∷ (11, 0, Jump 102) ∷ (15, 0, Mark) ∷ []
for_ = refl

-- for (;;) { break; continue; }
for_ever : code_of (tree.for_ (at 2) None None None (tree.block (block [] (all (tree.break_ (at 3) ∷ tree.continue_ (at 4) ∷ [])))))
    ≡ (10, 0, Mark) ∷ (10, 0, Turn) ∷ (11, 0, Mark) ∷ (12, 0, Jump 107) ∷ (13, 0, Jump 106) ∷ (14, 0, Mark) ∷ (10, 0, Jump 100) ∷ (15, 0, Mark) ∷ []
for_ever = refl

-- switch (i) { case 1: case 2: break; default: continue; }
choices : TypedStatement
choices =
    tree.switch_ (at 2) (get int 3)
    (block [] (tree.more_statements (label.Case (at 3) 1 ∷ label.Case (at 4) 2 ∷ []) (tree.break_ (at 5))
    (tree.more_statements (label.Default (at 6) ∷ []) (tree.continue_ (at 7)) tree.no_statements)))

switch_ : code_of choices
    ≡ (10, 0, Get (name.Local 3)) ∷ (10, 1, Choose (record { first = 4; end = 6; default = 106 })) ∷ (11, 0, Mark) ∷ (12, 0, Mark) ∷ (13, 0, Mark)
    ∷ (14, 0, Jump 109) ∷ (15, 0, Mark) ∷ (16, 0, Jump 8) ∷ (17, 0, Mark) ∷ (18, 0, Mark) ∷ []
unfolding choices
switch_ = refl

switch_cases : (written choices).cases ≡ record { bits = 1; target = 103 } ∷ record { bits = 2; target = 104 } ∷ []
unfolding choices
switch_cases = refl

-- a switch in a switch: the cases of the inner one come first
inner_cases : (written (tree.switch_ (at 2) (num 1) (block [] (tree.more_statements (label.Case (at 3) 5 ∷ []) choices tree.no_statements)))).cases
    ≡ record { bits = 1; target = 107 } ∷ record { bits = 2; target = 108 } ∷ record { bits = 5; target = 103 } ∷ []
unfolding choices
inner_cases = refl

-- { int i = 5; int o = 5; } where o is an object
declared : code_of (tree.block (block (record {
  at = at 2;
  items = record { variable = 3; at = at 3; start = tree.value (num 5) }
      ∷ record { variable = 4; at = at 4; start = tree.value (num 6) } ∷ [];
} ∷ []) tree.no_statements))
    ≡ (10, 0, Mark) ∷ (11, 0, Num 5) ∷ (11, 1, Set (name.Local 3)) ∷ (11, 1, Drop) ∷ (11, 0, Address (object.Variable (name.Local 4))) ∷ (11, 1, Offset 0)
    ∷ (11, 1, Num 6) ∷ (11, 2, Store (access.Number kind.Int)) ∷ (11, 1, Drop) ∷ (12, 0, Mark) ∷ []
declared = refl

-- int f() { i; }
function_ : map short (function_code setting (function (block [] (all (read ∷ []))))).ops
    ≡ (2, 0, Mark) ∷ (3, 0, Get (name.Local 3)) ∷ (3, 1, Drop) ∷ (4, 0, Mark) ∷ (1, 0, Num 0) ∷ (1, 1, Return) ∷ []
function_ = refl
