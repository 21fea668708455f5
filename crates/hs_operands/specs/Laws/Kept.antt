-- Operators keep what is so of every expression but variables, literals, addresses and calls, as they make none of these.
--     IsPlain node                     none of these
--     IsKept, IsKeptObject             each expression inside meets the fact
--     unary_kept, arithmetic_kept, ..  one lemma for each operator
use Rattle.std.proofs.Common.{◌≡◌, ℕ, ◌==◌, Bool, true, false, ◌&&◌, List, [], ◌∷◌, Option, Some, None, Result, Ok, refl, if◌then◌else◌}
use Rattle.std.specs.List.{AllByRecursion}
use Rattle.hs_base.specs.Tests.{whichever}
use Rattle.hs_operand_types.specs.Answers.{◌>>=◌}
use Rattle.hs_operands.specs.Assignments.{assigned_pointer, assigned_number, assigned, assign_of, update_with, direction, advance_by, update_by, update_of, one, post_advance_by, post_update_by, post_update_of, cast_of, as_pointer, pointers_chosen, pointer_branches, other_branches, branches_by, conditional_of, comma_of}
use Rattle.hs_operand_types.specs.Constants.{is_null_constant}
use Rattle.hs_operand_types.specs.Conversions.{head_at, same_type, as_kind, truth, is_not_nil}
use Rattle.hs_operands.specs.Laws.AssignedTyped.{first-of}
use Rattle.hs_operands.specs.Laws.Made.{Makes, gives, refuses, either_way, gives_then}
use Rattle.hs_operands.specs.Laws.Numbers.{same-is}
use Rattle.hs_operands.specs.Objects.{loaded_as, loaded, target_at, target_of, spacing, element_by, element_of, found_at, member_by, member_of, found_behind, arrow_by, arrow_of, size_by, size_number}
use Rattle.hs_operand_types.specs.Operands as operand
use Rattle.hs_operand_types.specs.Operands.{TypedOperand}
use Rattle.hs_operands.specs.Operators.{with_number, with_numbers, unary_of, arithmetic_in, is_shift, arithmetic_of, comparison_in, comparison_of, not_of, and_of, or_of}
use Rattle.hs_operands.specs.Pointers.{are_numbers, stepped, plus_of, apart, difference_by, minus_of, may_be_compared, is_equality, is_nil_test, nil_test, compared}
use Rattle.hs_operand_types.specs.Types.{designates, are_compatible, is_accessible, is_open}
use Rattle.hs_operands.specs.declared.objects.Found.{Found}
use Rattle.hs_operand_types.specs.declared.operand_end.OperandEnd.{OperandEnd}
use Rattle.hs_operands.specs.declared.spacing.Spacing.{Spacing}
use Rattle.hs_tokens.specs.declared.place.Place.{Place}
use Rattle.hs_tree.specs.Inside.{Node, right, left, EachRight, EachLeft, EachOf}
use Rattle.hs_tree.specs.Kinds.{element, number_kind, is_number, is_pointer, is_scalar, is_readable, is_void, pointed, size_at}
use Rattle.hs_tree.specs.RowLaws.{rights_from}
use Rattle.hs_tree.specs.Trees as tree
use Rattle.hs_tree.specs.Trees.{RightValue, LeftValue, type_of, type_of_left, head_of_left}
use Rattle.hs_tree.specs.declared.operators.Arithmetic.{Arithmetic}
use Rattle.hs_tree.specs.declared.operators.Arithmetic.TheVariants as arithmetic
use Rattle.hs_tree.specs.declared.operators.Comparison.{Comparison}
use Rattle.hs_tree.specs.declared.operators.Unary.{Unary}
use Rattle.hs_types.specs.Integers.{promoted, common}
use Rattle.hs_types.specs.Rows.{integer_id}
use Rattle.hs_types.specs.TypeTables.{TypeTable, layout_of, is_complete, with_row, id_of}
use Rattle.hs_types.specs.declared.integer.Integer.{Integer}
use Rattle.hs_types.specs.declared.integer.Integer.TheVariants as kind
use Rattle.hs_types.specs.declared.layout.Layout.{Layout}
use Rattle.hs_types.specs.declared.row.Row.TheVariants as row
use Rattle.hs_types.specs.declared.row.TypeId.{TypeId}

-- the expressions that operators make of others
abbrev pub IsPlain : Node → Type 0
IsPlain (left (tree.variable head variable)) = ⊥
IsPlain (left (tree.literal head place)) = ⊥
IsPlain (right (tree.address head object)) = ⊥
IsPlain (right (tree.call head number routine arguments)) = ⊥
IsPlain (right (tree.call_routine head routine arguments)) = ⊥
IsPlain _ = Unit {0}

-- an operand that is a number, and two
number_makes : (holds : RightValue → Type 0) (at : Place) (o : Option Integer) (make : Integer → RightValue)
    → ((its : Integer) → holds (make its)) → Makes holds (with_number at o make)
number_makes holds at None make is = refuses holds at
number_makes holds at (Some its) make is = gives holds (make its) (is its)

numbers_make : (holds : RightValue → Type 0) (at : Place) (o p : Option Integer) (make : Integer → Integer → RightValue)
    → ((first second : Integer) → holds (make first second)) → Makes holds (with_numbers at o p make)
numbers_make holds at None p make is = refuses holds at
numbers_make holds at (Some first) p make is = number_makes holds at p (make first) (is first)

module _ (holds : Node → Type 0) (plain : (node : Node) → IsPlain node → holds node) where
  abbrev pub IsKept : RightValue → Type 0
  IsKept e = EachRight holds e

  abbrev pub IsKeptObject : LeftValue → Type 0
  IsKeptObject it = EachLeft holds it

  -- what is given is bound
  abbrev pub MakesKept : Result RightValue OperandEnd → Type 0
  MakesKept given = Makes IsKept given

  abbrev pub MakesKeptObject : Result LeftValue OperandEnd → Type 0
  MakesKeptObject given = Makes IsKeptObject given

  -- the expressions of a list
  pub each_kept : (its : List RightValue) → AllByRecursion IsKept its → EachOf holds (rights_from its)
  each_kept [] are = tt
  each_kept (e ∷ its) are = (are.0, each_kept its are.1)

  -- `a, b, c`
  pub comma_kept : (at : Place) (lefts : List RightValue) (e : RightValue) → AllByRecursion IsKept lefts → IsKept e
      → IsKept (comma_of at lefts e)
  comma_kept at lefts e are is = (plain _ tt, each_kept lefts are, is)

  -- the 1 of `++l`
  pub one_kept : (at : Place) → IsKept (one at)
  one_kept at = plain _ tt

  -- a number that is wanted as one of a kind, and a pointer as one of a type
  kind_kept : (at : Place) (its : Integer) (e : RightValue) → IsKept e → IsKept (as_kind at its e)
  kind_kept at its e is = whichever IsKept (same_type (type_of e) (integer_id its)) is (plain _ tt, is)

  pointer_kept : (at : Place) (id : TypeId) (e : RightValue) → IsKept e → IsKept (as_pointer at id e)
  pointer_kept at id e is = whichever IsKept (same_type (type_of e) id) is (plain _ tt, is)

  module _ (types : TypeTable) where
    pub unary_kept : (at : Place) (op : Unary) (e : RightValue) → IsKept e → MakesKept (unary_of types at op e)
    unary_kept at op e is =
        number_makes IsKept at (number_kind types (type_of e))
        (λ its. tree.unary (head_at at (integer_id (promoted its))) op (promoted its) (as_kind at (promoted its) e))
        (λ its. (plain _ tt, kind_kept at (promoted its) e is))

    pub arithmetic_kept : (at : Place) (op : Arithmetic) (a b : RightValue) → IsKept a → IsKept b → MakesKept (arithmetic_of types at op a b)
    arithmetic_kept at op a b is is' =
        whichever MakesKept (is_shift op)
        (numbers_make IsKept at (number_kind types (type_of a)) (number_kind types (type_of b))
        (λ first second.
        tree.arithmetic (head_at at (integer_id (promoted first))) op (promoted first) (as_kind at (promoted first) a)
        (as_kind at (promoted second) b))
        (λ first second. (plain _ tt, kind_kept at (promoted first) a is, kind_kept at (promoted second) b is')))
        (numbers_make IsKept at (number_kind types (type_of a)) (number_kind types (type_of b))
        (λ first second. arithmetic_in at op (common first second) a b)
        (λ first second. (plain _ tt, kind_kept at (common first second) a is, kind_kept at (common first second) b is')))

    comparison_kept : (at : Place) (op : Comparison) (a b : RightValue) → IsKept a → IsKept b → MakesKept (comparison_of types at op a b)
    comparison_kept at op a b is is' =
        numbers_make IsKept at (number_kind types (type_of a)) (number_kind types (type_of b))
        (λ first second. comparison_in at op (common first second) a b)
        (λ first second. (plain _ tt, kind_kept at (common first second) a is, kind_kept at (common first second) b is'))

    -- conditions
    truth_kept : (at : Place) (e : RightValue) → IsKept e → MakesKept (truth types at e)
    truth_kept at e is =
        whichever MakesKept (is_number types (type_of e)) (gives IsKept e is)
        (whichever MakesKept (is_pointer types (type_of e)) (gives IsKept (is_not_nil e) (plain _ tt, is)) (refuses IsKept at))

    pub not_kept : (at : Place) (e : RightValue) → IsKept e → MakesKept (not_of types at e)
    not_kept at e is =
        gives_then IsKept (truth types at e) (λ test. Ok (tree.not (head_at at (integer_id kind.Int)) test))
        (λ test given. gives IsKept (tree.not (head_at at (integer_id kind.Int)) test) (plain _ tt, truth_kept at e is test given))

    both_kept : (at : Place) (make : RightValue → RightValue → RightValue) (a b : RightValue)
        → ((first second : RightValue) → IsKept first → IsKept second → IsKept (make first second)) → IsKept a → IsKept b
        → MakesKept (truth types at a >>= (λ first. truth types at b >>= (λ second. Ok (make first second))))
    both_kept at make a b so is is' =
        gives_then IsKept (truth types at a) (λ first. truth types at b >>= (λ second. Ok (make first second)))
        (λ first given. gives_then IsKept (truth types at b) (λ second. Ok (make first second))
        (λ second given'. gives IsKept (make first second)
        (so first second (truth_kept at a is first given) (truth_kept at b is' second given'))))

    pub and_kept : (at : Place) (a b : RightValue) → IsKept a → IsKept b → MakesKept (and_of types at a b)
    and_kept at a b = both_kept at (tree.and (head_at at (integer_id kind.Int))) a b (λ first second is is'. (plain _ tt, is, is'))

    pub or_kept : (at : Place) (a b : RightValue) → IsKept a → IsKept b → MakesKept (or_of types at a b)
    or_kept at a b = both_kept at (tree.or (head_at at (integer_id kind.Int))) a b (λ first second is is'. (plain _ tt, is, is'))

    -- pointers
    stepped_kept : (o : Option Spacing) (at : Place) (backward : Bool) (a b : RightValue) → IsKept a → IsKept b
        → MakesKept (stepped at backward a b o)
    stepped_kept None at backward a b is is' = refuses IsKept at
    stepped_kept (Some it) at backward a b is is' =
        gives IsKept
        (tree.step (head_at at (if it.pointer_first then type_of a else type_of b)) (record { size = it.size; backward = backward }) it.pointer_first a b)
        (plain _ tt, is, is')

    pub plus_kept : (at : Place) (a b : RightValue) → IsKept a → IsKept b → MakesKept (plus_of types at a b)
    plus_kept at a b is is' =
        whichever MakesKept (are_numbers types a b) (arithmetic_kept at arithmetic.Add a b is is')
        (stepped_kept (spacing types (type_of a) (type_of b)) at false a b is is')

    apart_kept : (o p : Option Layout) (at : Place) (a b : RightValue) → IsKept a → IsKept b → MakesKept (apart at a b o p)
    apart_kept None p at a b is is' = refuses IsKept at
    apart_kept (Some first) None at a b is is' = refuses IsKept at
    apart_kept (Some first) (Some second) at a b is is' =
        whichever MakesKept (first.size == second.size)
        (gives IsKept (tree.difference (head_at at (integer_id kind.Long)) first.size a b) (plain _ tt, is, is')) (refuses IsKept at)

    difference_kept : (o p : Option TypeId) (at : Place) (a b : RightValue) → IsKept a → IsKept b → MakesKept (difference_by types at a b o p)
    difference_kept None p at a b is is' = refuses IsKept at
    difference_kept (Some first) None at a b is is' = refuses IsKept at
    difference_kept (Some first) (Some second) at a b is is' =
        whichever MakesKept (are_compatible types first second) (apart_kept (layout_of types first) (layout_of types second) at a b is is')
        (refuses IsKept at)

    pub minus_kept : (at : Place) (a b : RightValue) → IsKept a → IsKept b → MakesKept (minus_of types at a b)
    minus_kept at a b is is' =
        whichever MakesKept (are_numbers types a b) (arithmetic_kept at arithmetic.Subtract a b is is')
        (whichever MakesKept (is_number types (type_of b)) (stepped_kept (spacing types (type_of a) (type_of b)) at true a b is is')
        (difference_kept (pointed types (type_of a)) (pointed types (type_of b)) at a b is is'))

    pub compared_kept : (at : Place) (op : Comparison) (a b : RightValue) → IsKept a → IsKept b → MakesKept (compared types at op a b)
    compared_kept at op a b is is' =
        whichever MakesKept (are_numbers types a b) (comparison_kept at op a b is is')
        (whichever MakesKept (is_nil_test types op a b) (gives IsKept (nil_test at op a) (plain _ tt, is))
        (whichever MakesKept (is_nil_test types op b a) (gives IsKept (nil_test at op b) (plain _ tt, is'))
        (whichever MakesKept (may_be_compared types (is_equality op) (pointed types (type_of a)) (pointed types (type_of b)))
        (gives IsKept (tree.compare_pointers (head_at at (integer_id kind.Int)) op a b) (plain _ tt, is, is')) (refuses IsKept at))))

    -- objects
    target_at_kept : (o : Option TypeId) (at : Place) (e : RightValue) → IsKept e → MakesKeptObject (target_at types at e o)
    target_at_kept None at e is = refuses IsKeptObject at
    target_at_kept (Some of) at e is =
        whichever MakesKeptObject (designates types of) (gives IsKeptObject (tree.target (head_at at of) e) (plain _ tt, is))
        (refuses IsKeptObject at)

    pub target_kept : (at : Place) (e : RightValue) → IsKept e → MakesKeptObject (target_of types at e)
    target_kept at e is = target_at_kept (pointed types (type_of e)) at e is

    element_by_kept : (o : Option Spacing) (at : Place) (a b : RightValue) → IsKept a → IsKept b → MakesKeptObject (element_by at a b o)
    element_by_kept None at a b is is' = refuses IsKeptObject at
    element_by_kept (Some it) at a b is is' =
        gives IsKeptObject (tree.element (head_at at it.of) it.size it.pointer_first a b) (plain _ tt, is, is')

    pub element_kept : (at : Place) (a b : RightValue) → IsKept a → IsKept b → MakesKeptObject (element_of types at a b)
    element_kept at a b is is' = element_by_kept (spacing types (type_of a) (type_of b)) at a b is is'

    member_by_kept : (o : Option Found) (at : Place) (it : LeftValue) → IsKeptObject it → MakesKeptObject (member_by at it o)
    member_by_kept None at it is = refuses IsKeptObject at
    member_by_kept (Some found) at it is =
        gives IsKeptObject (tree.member (head_at at found.type_id) found.field found.offset it) (plain _ tt, is)

    pub member_kept : (at : Place) (name : List ℕ) (it : LeftValue) → IsKeptObject it → MakesKeptObject (member_of types at name it)
    member_kept at name it is = member_by_kept (found_at types name (type_of_left it)) at it is

    arrow_by_kept : (o : Option Found) (at : Place) (e : RightValue) → IsKept e → MakesKeptObject (arrow_by at e o)
    arrow_by_kept None at e is = refuses IsKeptObject at
    arrow_by_kept (Some found) at e is =
        gives IsKeptObject (tree.arrow (head_at at found.type_id) found.field found.offset e) (plain _ tt, is)

    pub arrow_kept : (at : Place) (name : List ℕ) (e : RightValue) → IsKept e → MakesKeptObject (arrow_of types at name e)
    arrow_kept at name e is = arrow_by_kept (found_behind types name (pointed types (type_of e))) at e is

    -- sizes
    size_by_kept : (o : Option Layout) (at : Place) → MakesKept (size_by at o)
    size_by_kept None at = refuses IsKept at
    size_by_kept (Some layout) at = gives IsKept (tree.number (head_at at (integer_id kind.UnsignedLong)) layout.size) (plain _ tt)

    pub size_kept : (at : Place) (id : TypeId) → MakesKept (size_number types at id)
    size_kept at id = size_by_kept (layout_of types id) at

    -- conversions as by assignment
    abbrev pub IsKeptOf : TypeId → RightValue → Type 0
    IsKeptOf id e = IsKept e × (type_of e ≡ id)

    number_assigned : (o : Option Integer) (is_one : Bool) (at : Place) (id : TypeId) (e : RightValue) → IsKept e
        → Makes (IsKeptOf id) (assigned_number at id o is_one e)
    number_assigned None is_one at id e is = refuses (IsKeptOf id) at
    number_assigned (Some its) true at id e is = gives (IsKeptOf id) (tree.convert_number (head_at at id) its e) ((plain _ tt, is), refl)
    number_assigned (Some its) false at id e is = refuses (IsKeptOf id) at

    pub assigned_kept : (at : Place) (id : TypeId) (e : RightValue) → IsKept e → Makes (IsKeptOf id) (assigned types at id e)
    assigned_kept at id e is =
        either_way (Makes (IsKeptOf id)) (same_type (type_of e) id && is_readable types id) (Ok e)
        (if is_pointer types id
        then assigned_pointer types at id e
        else assigned_number at id (number_kind types id) (is_number types (type_of e)) e)
        (λ same. gives (IsKeptOf id) e (is, same-is (type_of e) id (first-of (same_type (type_of e) id) (is_readable types id) same)))
        (λ other. whichever (Makes (IsKeptOf id)) (is_pointer types id)
        (whichever (Makes (IsKeptOf id)) (is_null_constant types e) (gives (IsKeptOf id) (tree.nil (head_at at id)) (plain _ tt, refl))
        (whichever (Makes (IsKeptOf id)) (is_pointer types (type_of e))
        (gives (IsKeptOf id) (tree.convert_pointer (head_at at id) e) ((plain _ tt, is), refl)) (refuses (IsKeptOf id) at)))
        (number_assigned (number_kind types id) (is_number types (type_of e)) at id e is))

    pub assign_kept : (at : Place) (it : LeftValue) (e : RightValue) → IsKeptObject it → IsKept e → MakesKept (assign_of types at it e)
    assign_kept at it e is is' =
        whichever MakesKept (is_accessible types (type_of_left it))
        (gives_then IsKept (assigned types at (type_of_left it) e)
        (λ converted. Ok (tree.assign (head_at at (type_of_left it)) it converted))
        (λ converted given. gives IsKept (tree.assign (head_at at (type_of_left it)) it converted)
        (plain _ tt, is, (assigned_kept at (type_of_left it) e is' converted given).0))) (refuses IsKept at)

    update_with_kept : (at : Place) (op : Arithmetic) (to its : Integer) (it : LeftValue) (e : RightValue) → IsKeptObject it → IsKept e
        → IsKept (update_with at op to its it e)
    update_with_kept at op to its it e is is' =
        whichever IsKept (is_shift op) (plain _ tt, is, kind_kept at (promoted its) e is')
        (plain _ tt, is, kind_kept at (common to its) e is')

    advance_kept : (way : Option Bool) (o : Option ℕ) (at : Place) (it : LeftValue) (e : RightValue) → IsKeptObject it → IsKept e
        → MakesKept (advance_by at way o it e)
    advance_kept None o at it e is is' = refuses IsKept at
    advance_kept (Some backward) None at it e is is' = refuses IsKept at
    advance_kept (Some backward) (Some size) at it e is is' =
        gives IsKept (tree.advance (head_at at (type_of_left it)) (record { size = size; backward = backward }) it e) (plain _ tt, is, is')

    update_by_kept : (o p : Option Integer) (at : Place) (op : Arithmetic) (it : LeftValue) (e : RightValue) → IsKeptObject it → IsKept e
        → MakesKept (update_by types at op o p it e)
    update_by_kept o None at op it e is is' = refuses IsKept at
    update_by_kept (Some to) (Some its) at op it e is is' =
        gives IsKept (update_with at op to its it e) (update_with_kept at op to its it e is is')
    update_by_kept None (Some its) at op it e is is' =
        advance_kept (direction op) (size_at types (pointed types (type_of_left it))) at it e is is'

    pub update_kept : (at : Place) (op : Arithmetic) (it : LeftValue) (e : RightValue) → IsKeptObject it → IsKept e
        → MakesKept (update_of types at op it e)
    update_kept at op it e is is' =
        whichever MakesKept (is_accessible types (type_of_left it))
        (update_by_kept (number_kind types (type_of_left it)) (number_kind types (type_of e)) at op it e is is') (refuses IsKept at)

    post_advance_kept : (way : Option Bool) (o : Option ℕ) (at : Place) (it : LeftValue) → IsKeptObject it
        → MakesKept (post_advance_by at way o it)
    post_advance_kept None o at it is = refuses IsKept at
    post_advance_kept (Some backward) None at it is = refuses IsKept at
    post_advance_kept (Some backward) (Some size) at it is =
        gives IsKept (tree.post_advance (head_at at (type_of_left it)) (record { size = size; backward = backward }) it) (plain _ tt, is)

    post_by_kept : (o : Option Integer) (at : Place) (op : Arithmetic) (it : LeftValue) → IsKeptObject it
        → MakesKept (post_update_by types at op o it)
    post_by_kept (Some to) at op it is =
        gives IsKept (tree.post_update (head_at at (type_of_left it)) op (common to kind.Int) to it) (plain _ tt, is)
    post_by_kept None at op it is = post_advance_kept (direction op) (size_at types (pointed types (type_of_left it))) at it is

    pub post_kept : (at : Place) (op : Arithmetic) (it : LeftValue) → IsKeptObject it → MakesKept (post_update_of types at op it)
    post_kept at op it is =
        whichever MakesKept (is_accessible types (type_of_left it)) (post_by_kept (number_kind types (type_of_left it)) at op it is)
        (refuses IsKept at)

    pub cast_kept : (at : Place) (id : TypeId) (e : RightValue) → IsKept e → MakesKept (cast_of types at id e)
    cast_kept at id e is =
        whichever MakesKept (is_void types id) (gives IsKept (tree.cast (head_at at id) e) (plain _ tt, is))
        (whichever MakesKept (is_scalar types id && is_complete types id)
        (gives_then IsKept (assigned types at id e) (λ converted. Ok (tree.cast (head_at at id) converted))
        (λ converted given. gives IsKept (tree.cast (head_at at id) converted)
        (plain _ tt, (assigned_kept at id e is converted given).0))) (refuses IsKept at))

    -- `c ? a : b`
    chosen_kept : (at : Place) (id : TypeId) (test a b : RightValue) → IsKept test → IsKept a → IsKept b
        → MakesKept (Ok (pointers_chosen at id test a b))
    chosen_kept at id test a b is is' is'' =
        gives IsKept (pointers_chosen at id test a b) (plain _ tt, is, pointer_kept at id a is', pointer_kept at id b is'')

    pointers_kept : (o p : Option TypeId) (at : Place) (test a b : RightValue) → IsKept test → IsKept a → IsKept b
        → MakesKept (pointer_branches types at o p test a b)
    pointers_kept None p at test a b is is' is'' = refuses IsKept at
    pointers_kept (Some first) None at test a b is is' is'' = refuses IsKept at
    pointers_kept (Some first) (Some second) at test a b is is' is'' =
        whichever MakesKept (is_void types first) (chosen_kept at (type_of a) test a b is is' is'')
        (whichever MakesKept (is_void types second) (chosen_kept at (type_of b) test a b is is' is'')
        (whichever MakesKept (are_compatible types first second)
        (chosen_kept at (if is_open types first then type_of b else type_of a) test a b is is' is'') (refuses IsKept at)))

    conditional_made : (at : Place) (id : TypeId) (test a b : RightValue) → IsKept test → IsKept a → IsKept b
        → MakesKept (Ok (tree.conditional (head_at at id) test a b))
    conditional_made at id test a b is is' is'' = gives IsKept (tree.conditional (head_at at id) test a b) (plain _ tt, is, is', is'')

    others_kept : (at : Place) (test a b : RightValue) → IsKept test → IsKept a → IsKept b → MakesKept (other_branches types at test a b)
    others_kept at test a b is is' is'' =
        whichever MakesKept (same_type (type_of a) (type_of b)) (conditional_made at (type_of a) test a b is is' is'')
        (whichever MakesKept (is_pointer types (type_of a) && is_null_constant types b)
        (conditional_made at (type_of a) test a (tree.nil (head_at at (type_of a))) is is' (plain _ tt))
        (whichever MakesKept (is_pointer types (type_of b) && is_null_constant types a)
        (conditional_made at (type_of b) test (tree.nil (head_at at (type_of b))) b is (plain _ tt) is'')
        (pointers_kept (pointed types (type_of a)) (pointed types (type_of b)) at test a b is is' is'')))

    branches_kept : (o p : Option Integer) (at : Place) (test a b : RightValue) → IsKept test → IsKept a → IsKept b
        → MakesKept (branches_by types at o p test a b)
    branches_kept None p at test a b is is' is'' = others_kept at test a b is is' is''
    branches_kept (Some first) None at test a b is is' is'' = others_kept at test a b is is' is''
    branches_kept (Some first) (Some second) at test a b is is' is'' =
        conditional_made at (integer_id (common first second)) test (as_kind at (common first second) a) (as_kind at (common first second) b) is
        (kind_kept at (common first second) a is') (kind_kept at (common first second) b is'')

    pub conditional_kept : (at : Place) (test a b : RightValue) → IsKept test → IsKept a → IsKept b
        → MakesKept (conditional_of types at test a b)
    conditional_kept at test a b is is' is'' =
        gives_then IsKept (truth types at test)
        (λ condition. branches_by types at (number_kind types (type_of a)) (number_kind types (type_of b)) condition a b)
        (λ condition given.
        branches_kept (number_kind types (type_of a)) (number_kind types (type_of b)) at condition a b
        (truth_kept at test is condition given) is' is'')

    -- the value of an operand
    abbrev pub IsKeptOperand : TypedOperand → Type 0
    IsKeptOperand (operand.value e) = IsKept e
    IsKeptOperand (operand.object it) = IsKeptObject it
    IsKeptOperand (operand.function it) = Unit {0}

    loaded_as_kept : (o : Option TypeId) (it : LeftValue) → IsKeptObject it → Makes (λ p. IsKept p.0) (loaded_as types it o)
    loaded_as_kept (Some of) it is =
        gives (λ p. IsKept p.0)
        (tree.decay (head_at (head_of_left it).at (id_of (row.Pointer of) types)) it, with_row (row.Pointer of) types) (plain _ tt, is)
    loaded_as_kept None it is =
        whichever (Makes (λ p. IsKept p.0)) (is_accessible types (type_of_left it))
        (gives (λ p. IsKept p.0) (tree.load (head_of_left it) it, types) (plain _ tt, is))
        (refuses (λ p. IsKept p.0) (head_of_left it).at)

    pub loaded_kept : (it : TypedOperand) → IsKeptOperand it → Makes (λ p. IsKept p.0) (loaded types it)
    loaded_kept (operand.value e) is = gives (λ p. IsKept p.0) (e, types) is
    loaded_kept (operand.object it) is = loaded_as_kept (element types (type_of_left it)) it is
    loaded_kept (operand.function it) is = refuses (λ p. IsKept p.0) it.head.at
