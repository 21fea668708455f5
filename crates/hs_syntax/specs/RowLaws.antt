-- The view of a row of a list is made of the views of the list's entries.
--     expressions_seen, specifiers_seen, ..    the row of a list
--     views-same, view_members-same, ..        lists with the same views
--     view_member-out, boxed_type_seen         a struct after a row or a pointer
use Rattle.std.proofs.Common.{◌≡◌, List, [], ◌∷◌, ◌++◌, map, drop, length, ◌≤◌, refl, ap, sym, ◌∙◌, Vec, ℕ, arith}
use Rattle.std.specs.Global.{Global}
use Rattle.std.proofs.lemmas.Grind.{common_steps}
use Rattle.hs_syntax.specs.declared.expr.Expr.{Expr, Row_of-Expr, end_of-Expr, more_of-Expr, items-the_row-Expr, items_hidden-the_row-Expr-2, Row_of-Left, end_of-Left, more_of-Left, items-the_row-Left, items_hidden-the_row-Left-3}
use Rattle.hs_syntax.specs.declared.expr.TypeName.{Row_of-Specifier, end_of-Specifier, more_of-Specifier, items-the_row-Specifier, items_hidden-the_row-Specifier-0}
use Rattle.hs_syntax.specs.declared.expr.Specifier.{Specifier, Row_of-Member, end_of-Member, more_of-Member, items-the_row-Member, items_hidden-the_row-Member-4, Row_of-Constant, end_of-Constant, more_of-Constant, items-the_row-Constant, items_hidden-the_row-Constant-5}
use Rattle.hs_syntax.specs.declared.expr.Constant.{Constant, Plain, Valued'}
use Rattle.hs_syntax.specs.declared.expr.Constant.TheBlock.{items_shown-the_row-Specifier-0, items_shown-the_row-Declarator-6, shown-the_row-Declarator-6, shown-the_row-Specifier-0, hidden-the_row-Specifier-0, hidden-the_row-Parameter-1, hidden-the_row-Expr-2, hidden-the_row-Left-3, hidden-the_row-Member-4, hidden-the_row-Constant-5, hidden-the_row-Declarator-6}
use Rattle.hs_syntax.specs.declared.expr.Declarator.{Declarator}
use Rattle.hs_syntax.specs.declared.expr.TypeName.{TypeName}
use Rattle.hs_syntax.specs.declared.expr.Left.{Left}
use Rattle.hs_syntax.specs.declared.expr.Member.{Member, out-Member, roll-Member, Member', Row_of-Declarator, end_of-Declarator, more_of-Declarator, items-the_row-Declarator, items_hidden-the_row-Declarator-6}
use Rattle.hs_syntax.specs.declared.expr.Parameter.{Parameter}
use Rattle.hs_syntax.specs.declared.expr.Direct.{Row_of-Parameter, end_of-Parameter, more_of-Parameter, items-the_row-Parameter, items_hidden-the_row-Parameter-1}
use Rattle.hs_syntax.specs.RowViews.{one_member, view_left, view_member, view_constant, view_parameter, expressions_from, lefts_from, specification_from, members_from, constants_from, declarators_from, parameters_from}
use Rattle.hs_syntax.specs.Views.{view, views, view_lefts, view_type, view_specifier, view_specifiers, specification_of, view_members, view_constants, view_declarator, view_declarators, view_direct, view_parameters}
use Rattle.hs_syntax.specs.Trees as tree

-- the list of specifiers is made of their views
pub specification_of-from : (its : List Specifier) → specification_of its ≡ specification_from (map view_specifier its)
specification_of-from [] = refl
specification_of-from (it ∷ rest) = ap (tree.more_specifiers (view_specifier it)) (specification_of-from rest)

-- the same of the specifiers of a vector
pub specification_seen : (v : Vec Specifier Global) → specification_of v.items ≡ specification_from (map view_specifier v.items)
specification_seen v = specification_of-from v.items

-- Specifiers with the same views are the same list of specifiers.
pub specification_of-same : (its others : List Specifier) → map view_specifier its ≡ map view_specifier others → specification_of its ≡ specification_of others
specification_of-same its others same = specification_of-from its ∙ ap specification_from same ∙ sym (specification_of-from others)

-- by recursion on the row, as in each of these
expressions_row : (m : _) (row : Row_of-Expr m) → views row ≡ expressions_from (map view (items-the_row-Expr m row))
expressions_row _ end_of-Expr = refl
expressions_row _ (more_of-Expr e rest) = ap (tree.more_expressions (view e)) (expressions_row _ rest)

-- the row of expressions
pub expressions_seen : (v : Vec Expr Global) → views (hidden-the_row-Expr-2 v) ≡ expressions_from (map view v.items)
expressions_seen v = expressions_row _ (hidden-the_row-Expr-2 v) ∙ ap (λ its. expressions_from (map view its)) (items_hidden-the_row-Expr-2 v)

-- each left operand of commas with its view
lefts_row : (m : _) (row : Row_of-Left m) → view_lefts row ≡ lefts_from (map view_left (items-the_row-Left m row))
lefts_row _ end_of-Left = refl
lefts_row _ (more_of-Left e at rest) = ap (tree.more_lefts (view e) at) (lefts_row _ rest)

-- the row of left operands
pub lefts_seen : (v : Vec Left Global) → view_lefts (hidden-the_row-Left-3 v) ≡ lefts_from (map view_left v.items)
lefts_seen v = lefts_row _ (hidden-the_row-Left-3 v) ∙ ap (λ its. lefts_from (map view_left its)) (items_hidden-the_row-Left-3 v)

-- each specifier with its view
specifiers_row : (m : _) (row : Row_of-Specifier m) → view_specifiers row ≡ specification_of (items-the_row-Specifier m row)
specifiers_row _ end_of-Specifier = refl
specifiers_row _ (more_of-Specifier it rest) = ap (tree.more_specifiers (view_specifier it)) (specifiers_row _ rest)

-- the row of specifiers
pub specifiers_seen : (v : Vec Specifier Global) → view_specifiers (hidden-the_row-Specifier-0 v) ≡ specification_of v.items
specifiers_seen v = specifiers_row _ (hidden-the_row-Specifier-0 v) ∙ ap specification_of (items_hidden-the_row-Specifier-0 v)

-- each entry of members with its view
members_row : (m : _) (row : Row_of-Member m) → view_members row ≡ members_from (map view_member (items-the_row-Member m row))
members_row _ end_of-Member = refl
members_row _ (more_of-Member (Member' shape specifiers shape' declarators) rest) =
    ap (tree.more_members (view_specifiers specifiers) (view_declarators declarators)) (members_row _ rest)

-- the row of members
pub members_seen : (v : Vec Member Global) → view_members (hidden-the_row-Member-4 v) ≡ members_from (map view_member v.items)
members_seen v = members_row _ (hidden-the_row-Member-4 v) ∙ ap (λ its. members_from (map view_member its)) (items_hidden-the_row-Member-4 v)

-- each constant with its view
constants_row : (m : _) (row : Row_of-Constant m) → view_constants row ≡ constants_from (map view_constant (items-the_row-Constant m row))
constants_row _ end_of-Constant = refl
constants_row _ (more_of-Constant (Plain name) rest) = ap (tree.constant name) (constants_row _ rest)
constants_row _ (more_of-Constant (Valued' name p value) rest) = ap (tree.valued_constant name (view value)) (constants_row _ rest)

-- the row of constants
pub constants_seen : (v : Vec Constant Global) → view_constants (hidden-the_row-Constant-5 v) ≡ constants_from (map view_constant v.items)
constants_seen v = constants_row _ (hidden-the_row-Constant-5 v) ∙ ap (λ its. constants_from (map view_constant its)) (items_hidden-the_row-Constant-5 v)

-- each declarator with its view
declarators_row : (m : _) (row : Row_of-Declarator m) → view_declarators row ≡ declarators_from (map view_declarator (items-the_row-Declarator m row))
declarators_row _ end_of-Declarator = refl
declarators_row _ (more_of-Declarator pointers direct rest) =
    ap (tree.more_declarators (tree.pointing pointers.items (view_direct direct))) (declarators_row _ rest)

-- the row of declarators
pub declarators_seen : (v : Vec Declarator Global) → view_declarators (hidden-the_row-Declarator-6 v) ≡ declarators_from (map view_declarator v.items)
declarators_seen v = declarators_row _ (hidden-the_row-Declarator-6 v)
    ∙ ap (λ its. declarators_from (map view_declarator its)) (items_hidden-the_row-Declarator-6 v)

-- each parameter with its view
parameters_row : (m : _) (row : Row_of-Parameter m) → view_parameters row ≡ parameters_from (map view_parameter (items-the_row-Parameter m row))
parameters_row _ end_of-Parameter = refl
parameters_row _ (more_of-Parameter shape specifiers pointers direct rest) =
    let declared = tree.pointing pointers.items (view_direct direct) in
    let specified : view_specifiers specifiers ≡ specification_of (shown-the_row-Specifier-0 shape specifiers).items = specifiers_row _ specifiers
    ∙ ap specification_of (sym (items_shown-the_row-Specifier-0 shape specifiers)) in
    ap (λ specification. tree.more_parameters specification declared (view_parameters rest)) specified
    ∙ ap (tree.more_parameters (specification_of (shown-the_row-Specifier-0 shape specifiers).items) declared) (parameters_row _ rest)

-- the row of parameters
pub parameters_seen : (v : Vec Parameter Global) → view_parameters (hidden-the_row-Parameter-1 v) ≡ parameters_from (map view_parameter v.items)
parameters_seen v = parameters_row _ (hidden-the_row-Parameter-1 v)
    ∙ ap (λ its. parameters_from (map view_parameter its)) (items_hidden-the_row-Parameter-1 v)

-- A type name after a pointer has the view of the type name.
pub boxed_type_seen : (it : TypeName)
    → tree.typed_as (view_specifiers (hidden-the_row-Specifier-0 it.specifiers)) (view_declarator it.declarator) ≡ view_type it
boxed_type_seen it = ap (λ specification. tree.typed_as specification (view_declarator it.declarator)) (specifiers_seen it.specifiers)

-- The view of members is made of their two lists.
pub view_member-out : (it : Member) → view_member it
    ≡ one_member (specification_of (out-Member it).specifiers.items) (declarators_from (map view_declarator (out-Member it).declarators.items))
unfolding out-Member shown-the_row-Specifier-0 shown-the_row-Declarator-6 denote.Hole.Carrier.out denote.Hole.Carrier.shown
view_member-out (Member' shape specifiers shape' declarators) =
    let specified : view_specifiers specifiers ≡ specification_of (shown-the_row-Specifier-0 shape specifiers).items = specifiers_row _ specifiers
    ∙ ap specification_of (sym (items_shown-the_row-Specifier-0 shape specifiers)) in
    let declared : view_declarators declarators ≡ declarators_from (map view_declarator (shown-the_row-Declarator-6 shape' declarators).items) =
    declarators_row _ declarators ∙ ap (λ its. declarators_from (map view_declarator its)) (sym (items_shown-the_row-Declarator-6 shape' declarators)) in
    ap (λ specification. one_member specification (view_declarators declarators)) specified
    ∙ ap (one_member (specification_of (shown-the_row-Specifier-0 shape specifiers).items)) declared

-- Members that are put together have the views of their lists.
pub view_member-rolled : (specifiers : Vec Specifier Global) (declarators : Vec Declarator Global)
    → view_member (roll-Member record { specifiers = specifiers; declarators = declarators })
    ≡ one_member (specification_of specifiers.items) (declarators_from (map view_declarator declarators.items))
unfolding roll-Member denote.Hole.Carrier.roll
view_member-rolled specifiers declarators =
    ap (λ specification. one_member specification (view_declarators (hidden-the_row-Declarator-6 declarators))) (specifiers_seen specifiers)
    ∙ ap (one_member (specification_of specifiers.items)) (declarators_seen declarators)

-- Lists with the same views have the same view in a row.
pub views-same : (v w : Vec Expr Global) → map view v.items ≡ map view w.items → views (hidden-the_row-Expr-2 v) ≡ views (hidden-the_row-Expr-2 w)
views-same v w same = expressions_seen v ∙ ap expressions_from same ∙ sym (expressions_seen w)

-- the same of left operands of commas
pub view_lefts-same : (v w : Vec Left Global) → map view_left v.items ≡ map view_left w.items
    → view_lefts (hidden-the_row-Left-3 v) ≡ view_lefts (hidden-the_row-Left-3 w)
view_lefts-same v w same = lefts_seen v ∙ ap lefts_from same ∙ sym (lefts_seen w)

-- the same of members
pub view_members-same : (v w : Vec Member Global) → map view_member v.items ≡ map view_member w.items → view_members (hidden-the_row-Member-4 v)
    ≡ view_members (hidden-the_row-Member-4 w)
view_members-same v w same = members_seen v ∙ ap members_from same ∙ sym (members_seen w)

-- the same of constants
pub view_constants-same : (v w : Vec Constant Global) → map view_constant v.items ≡ map view_constant w.items
    → view_constants (hidden-the_row-Constant-5 v) ≡ view_constants (hidden-the_row-Constant-5 w)
view_constants-same v w same = constants_seen v ∙ ap constants_from same ∙ sym (constants_seen w)

-- the same of parameters
pub view_parameters-same : (v w : Vec Parameter Global) → map view_parameter v.items ≡ map view_parameter w.items
    → view_parameters (hidden-the_row-Parameter-1 v) ≡ view_parameters (hidden-the_row-Parameter-1 w)
view_parameters-same v w same = parameters_seen v ∙ ap parameters_from same ∙ sym (parameters_seen w)

-- If no entry is left, the views of the copies are all.
pub views-done : {X Y : Type 0} (f : X → Y) (copies all : List X) (n : ℕ) → length all ≤ n → map f copies ++ map f (drop n all) ≡ map f all
    → map f copies ≡ map f all
views-done f copies all n le invariant = grind (arith, common_steps)
