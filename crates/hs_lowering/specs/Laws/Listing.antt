-- Each class that a program names is one of its classes (own).
--     Among classes its                  the class is one of those
--     placed_in                          then its place is less than how many they are
--     listed_all                         all that a list names are among its classes, each once
--     right_classes, left_classes        of an expression; block_classes of a block
--     classes_there                      of the program
use Rattle.std.proofs.Common.{◌≡◌, ◌<◌, ◌==◌, ℕ, suc, Bool, true, false, not, cond, ◌+◌, ◌&&◌, ◌||◌, List, [], ◌∷◌, ◌++◌, length, take, slice_get, Option, Some, None, if◌then◌else◌, refl, ap, ◌∙◌, subst, arith}
use Rattle.std.proofs.lemmas.Bool.Decides.{nat_tests}
use Rattle.std.proofs.lemmas.List.Folds.{list_any-append}
use Rattle.std.specs.List.{AllByRecursion, list_any, position_or_len}
use Rattle.indexmap.specs.IndexSet.{insert_key}
use Rattle.hs_lowering.specs.Laws.Ranges.{ClassIn, Reaches, NamesClass, slot_false}
use Rattle.hs_lowering.specs.Lowering.{access_in, declared_in, slot_of}
use Rattle.hs_meaning.specs.Classes.{same_class, with_classes, classes_of, listed, accessed, in_slot, is_slot_declared, named, named_left, named_all, named_if, named_start, named_items, named_declarations, named_in, named_block, named_statements, named_variables, named_functions, named_globals}
use Rattle.hs_meaning.specs.Settings.{Setting, setting_of, access_by, class_or}
use Rattle.hs_tree.specs.Classes.{class_of}
use Rattle.hs_tree.specs.Fitting.{HasOperands, EachNode}
use Rattle.hs_tree.specs.Inside.{Node, of_declaration, EachRight, EachLeft, EachOf, EachStatement, EachBlock, EachOfStatements, EachExpression, IfAny, InStart}
use Rattle.hs_tree.specs.Kinds.{number_kind, is_pointer, IsNumber}
use Rattle.hs_tree.specs.Trees as tree
use Rattle.hs_tree.specs.Trees.{RightValue, LeftValue, RightValues, Starting, TypedItem, TypedDeclaration, TypedStatement, TypedBlock, TypedStatements, TypedFunction, TypedProgram, type_of_left}
use Rattle.hs_tree.specs.declared.class.Class.{Class}
use Rattle.hs_tree.specs.declared.class.Class.TheVariants as class
use Rattle.hs_tree.specs.declared.head.Variable.TheVariants as name
use Rattle.hs_types.specs.declared.integer.Integer.{Integer}
use Rattle.hs_types.specs.declared.row.TypeId.{TypeId}

-- ---- lists of classes

-- it is one of those
abbrev pub Among : List Class → Class → Type 0
Among classes its = list_any (same_class its) classes ≡ true

-- all of them are
abbrev pub AllAmong : List Class → List Class → Type 0
AllAmong classes its = AllByRecursion (Among classes) its

number_self : (n : ℕ) → (n == n) ≡ true
number_self n = grind (arith, nat_tests)

same_self : (its : Class) → same_class its its ≡ true
same_self (class.Field id) = ap (λ b. b && (id.place == id.place)) (number_self id.of) ∙ number_self id.place
same_self (class.Pointer id) = number_self id.number

-- its place
pub placed_in : (p : Class → Bool) (its : List Class) → list_any p its ≡ true → position_or_len p its < length its
placed_in p [] is = absurd cc
placed_in p (one ∷ rest) is = by (p one) is (placed_in p rest)
  where
    by : (b : Bool) → (b || list_any p rest) ≡ true → (list_any p rest ≡ true → position_or_len p rest < length rest)
        → cond (not b) (1 + position_or_len p rest) 0 < suc (length rest)
    by true so later = omega arith
    by false so later = omega (arith, later so)

or_true : (b : Bool) → (b || true) ≡ true
or_true true = refl
or_true false = refl

kept_one : (known : List Class) (its other : Class) → Among known other → Among (insert_key same_class known its) other
kept_one known its other is = by (list_any (same_class its) known)
  where
    by : (b : Bool) → list_any (same_class other) (if b then known else known ++ its ∷ []) ≡ true
    by true = is
    by false = list_any-append (same_class other) known (its ∷ []) ∙ ap (λ b. b || list_any (same_class other) (its ∷ [])) is

new_one : (known : List Class) (its : Class) → Among (insert_key same_class known its) its
new_one known its = by (list_any (same_class its) known) refl
  where
    by : (b : Bool) → list_any (same_class its) known ≡ b → list_any (same_class its) (if b then known else known ++ its ∷ []) ≡ true
    by true so = so
    by false so =
        list_any-append (same_class its) known (its ∷ []) ∙ ap (λ b. list_any (same_class its) known || (b || false)) (same_self its)
        ∙ or_true (list_any (same_class its) known)

kept : (known its : List Class) (other : Class) → Among known other → Among (with_classes known its) other
kept known [] other is = is
kept known (one ∷ rest) other is = kept (insert_key same_class known one) rest other (kept_one known one other is)

pub listed_all : (known its : List Class) → AllAmong (with_classes known its) its
listed_all known [] = tt
listed_all known (one ∷ rest) =
    (kept (insert_key same_class known one) rest one (new_one known one), listed_all (insert_key same_class known one) rest)

pub all_front : (classes first second : List Class) → AllAmong classes (first ++ second) → AllAmong classes first
all_front classes [] second is = tt
all_front classes (one ∷ first) second is = (is.0, all_front classes first second is.1)

pub all_back : (classes first second : List Class) → AllAmong classes (first ++ second) → AllAmong classes second
all_back classes [] second is = is
all_back classes (one ∷ first) second is = all_back classes first second is.1

-- ---- expressions

module _ (program : TypedProgram) (function : TypedFunction) where
  -- those of the program
  abbrev classes : List Class
  classes = classes_of program

  -- what a run needs of the program
  abbrev setting : Setting
  setting = setting_of program

  -- the class of what is in memory
  reached : (id : TypeId) (kind : Option Integer) (b : Bool) (its : Class) → AllAmong classes (listed (if b then Some its else None))
      → ClassIn classes (access_in (access_by setting id (class_or setting id (if b then Some its else None)) kind b))
  reached id (Some kind) b its is = tt
  reached id None true its is = placed_in (same_class its) classes is.0
  reached id None false its is = tt

  reached_number : (id : TypeId) (its : Class) (to : Integer) (kind : Option Integer) (b : Bool) → kind ≡ Some to
      → ClassIn classes (access_in (access_by setting id its kind b))
  reached_number id its to (Some kind) b is = tt
  reached_number id its to None b is = absurd cc

  in_slot_too : (e : LeftValue) → slot_of setting function.variables e ≡ None → in_slot program function e ≡ false
  in_slot_too (tree.variable head (name.Global place)) is =
      slot_false (is_slot_declared program.types (declared_in setting function.variables (name.Global place))) (name.Global place) is
  in_slot_too (tree.variable head (name.Local place)) is =
      slot_false (is_slot_declared program.types (declared_in setting function.variables (name.Local place))) (name.Local place) is
  in_slot_too (tree.literal head place) is = refl
  in_slot_too (tree.target head pointer) is = refl
  in_slot_too (tree.element head size pointer_first a b) is = refl
  in_slot_too (tree.member head field bytes e) is = refl
  in_slot_too (tree.arrow head field bytes e) is = refl

  -- of an lvalue whose class is listed
  reaches : (e : LeftValue) → AllAmong classes (accessed program function e) → Reaches program classes function e
  reaches e is no_ =
      reached (type_of_left e) (number_kind program.types (type_of_left e)) (is_pointer program.types (type_of_left e)) _
      (subst (λ b. AllAmong classes (if b then [] else listed (class_of program.types program.same program.taken e))) (in_slot_too e no_) is)

  -- of a number
  number_reaches : (e : LeftValue) (to : Integer) → IsNumber program.types to (type_of_left e) → Reaches program classes function e
  number_reaches e to is no_ =
      reached_number (type_of_left e) (class_or setting (type_of_left e) (class_of program.types program.same program.taken e)) to
      (number_kind program.types (type_of_left e)) (is_pointer program.types (type_of_left e)) is

  -- the facts of an expression
  abbrev Facts : Node → Type 0
  Facts node = HasOperands program.types node

  -- that its class is there
  abbrev Classes : Node → Type 0
  Classes node = NamesClass program classes function node

  -- what is named in a value
  abbrev of_right : RightValue → List Class
  of_right e = named program function e

  -- in an lvalue
  abbrev of_left : LeftValue → List Class
  of_left e = named_left program function e

  pub front : (first second : List Class) → AllAmong classes (first ++ second) → AllAmong classes first
  front first second is = all_front classes first second is

  pub back : (first second : List Class) → AllAmong classes (first ++ second) → AllAmong classes second
  back first second is = all_back classes first second is

  mutual
    pub right_classes : (e : RightValue) → EachRight Facts e → AllAmong classes (of_right e) → EachRight Classes e
    right_classes (tree.number head bits) facts is = tt
    right_classes (tree.nil head) facts is = tt
    right_classes (tree.load head e) facts is = (reaches e (back (of_left e) _ is), left_classes e facts.1 (front (of_left e) _ is))
    right_classes (tree.decay head e) facts is = (tt, left_classes e facts.1 is)
    right_classes (tree.address head e) facts is = (tt, left_classes e facts.1 is)
    right_classes (tree.cast head e) facts is = (tt, right_classes e facts.1 is)
    right_classes (tree.convert_number head kind e) facts is = (tt, right_classes e facts.1 is)
    right_classes (tree.convert_pointer head e) facts is = (tt, right_classes e facts.1 is)
    right_classes (tree.unary head its kind e) facts is = (tt, right_classes e facts.1 is)
    right_classes (tree.not head e) facts is = (tt, right_classes e facts.1 is)
    right_classes (tree.arithmetic head its kind a b) facts is =
        (tt, right_classes a facts.1 (front (of_right a) _ is), right_classes b facts.2 (back (of_right a) _ is))
    right_classes (tree.comparison head its kind a b) facts is =
        (tt, right_classes a facts.1 (front (of_right a) _ is), right_classes b facts.2 (back (of_right a) _ is))
    right_classes (tree.compare_pointers head its a b) facts is =
        (tt, right_classes a facts.1 (front (of_right a) _ is), right_classes b facts.2 (back (of_right a) _ is))
    right_classes (tree.is_nil head equal e) facts is = (tt, right_classes e facts.1 is)
    right_classes (tree.step head stride pointer_first a b) facts is =
        (tt, right_classes a facts.1 (front (of_right a) _ is), right_classes b facts.2 (back (of_right a) _ is))
    right_classes (tree.difference head size a b) facts is =
        (tt, right_classes a facts.1 (front (of_right a) _ is), right_classes b facts.2 (back (of_right a) _ is))
    right_classes (tree.and head a b) facts is =
        (tt, right_classes a facts.1 (front (of_right a) _ is), right_classes b facts.2 (back (of_right a) _ is))
    right_classes (tree.or head a b) facts is =
        (tt, right_classes a facts.1 (front (of_right a) _ is), right_classes b facts.2 (back (of_right a) _ is))
    right_classes (tree.conditional head test a b) facts is = (
      tt,
      right_classes test facts.1 (front (of_right test) (of_right a) (front (of_right test ++ of_right a) (of_right b) is)),
      right_classes a facts.2 (back (of_right test) (of_right a) (front (of_right test ++ of_right a) (of_right b) is)),
      right_classes b facts.3 (back (of_right test ++ of_right a) (of_right b) is),
    )
    right_classes (tree.comma head lefts last) facts is = (
      tt,
      all_classes lefts facts.1 (front (named_all program function lefts) _ is),
      right_classes last facts.2 (back (named_all program function lefts) _ is),
    )
    right_classes (tree.assign head into from) facts is = (
      reaches into (back (of_left into ++ of_right from) (accessed program function into) is),
      left_classes into facts.1 (front (of_left into) (of_right from) (front (of_left into ++ of_right from) (accessed program function into) is)),
      right_classes from facts.2 (back (of_left into) (of_right from) (front (of_left into ++ of_right from) (accessed program function into) is)),
    )
    right_classes (tree.update head its kind to into from) facts is =
        (number_reaches into to facts.0.0, left_classes into facts.1 (front (of_left into) _ is), right_classes from facts.2 (back (of_left into) _ is))
    right_classes (tree.advance head stride into from) facts is = (
      reaches into (back (of_left into) (accessed program function into) (front (of_left into ++ accessed program function into) (of_right from) is)),
      left_classes into facts.1
          (front (of_left into) (accessed program function into) (front (of_left into ++ accessed program function into) (of_right from) is)),
      right_classes from facts.2 (back (of_left into ++ accessed program function into) (of_right from) is),
    )
    right_classes (tree.post_update head its kind to into) facts is = (number_reaches into to facts.0, left_classes into facts.1 is)
    right_classes (tree.post_advance head stride into) facts is =
        (reaches into (back (of_left into) _ is), left_classes into facts.1 (front (of_left into) _ is))
    right_classes (tree.call head place routine arguments) facts is = (tt, all_classes arguments facts.1 is)
    right_classes (tree.call_routine head place arguments) facts is = (tt, all_classes arguments facts.1 is)

    pub left_classes : (e : LeftValue) → EachLeft Facts e → AllAmong classes (of_left e) → EachLeft Classes e
    left_classes (tree.variable head its) facts is = tt
    left_classes (tree.literal head place) facts is = tt
    left_classes (tree.target head e) facts is = (tt, right_classes e facts.1 is)
    left_classes (tree.element head size pointer_first a b) facts is =
        (tt, right_classes a facts.1 (front (of_right a) _ is), right_classes b facts.2 (back (of_right a) _ is))
    left_classes (tree.member head field bytes e) facts is = (tt, left_classes e facts.1 is)
    left_classes (tree.arrow head field bytes e) facts is = (tt, right_classes e facts.1 is)

    all_classes : (its : RightValues) → EachOf Facts its → AllAmong classes (named_all program function its) → EachOf Classes its
    all_classes tree.no_values facts is = tt
    all_classes (tree.more_values e rest) facts is =
        (right_classes e facts.0 (front (of_right e) _ is), all_classes rest facts.1 (back (of_right e) _ is))

  -- ---- statements

  -- of each expression inside
  abbrev FactsOf : RightValue → Type 0
  FactsOf e = EachRight Facts e

  -- that each class is there
  abbrev ClassesOf : RightValue → Type 0
  ClassesOf e = EachRight Classes e

  -- what is named in a statement
  abbrev of_statement' : TypedStatement → List Class
  of_statement' it = named_in program function it

  any_classes : (e : Option RightValue) → IfAny FactsOf e → AllAmong classes (named_if program function e) → IfAny ClassesOf e
  any_classes None facts is = tt
  any_classes (Some e) facts is = right_classes e facts is

  items_classes : (its : List TypedItem) → AllByRecursion (λ item. InStart FactsOf item.start) its → AllAmong classes (named_items program function its)
      → AllByRecursion (λ item. InStart ClassesOf item.start) its
  items_classes [] facts is = tt
  items_classes (item ∷ items) facts is = (
    by item.start facts.0
        (front (named_start program function (slice_get function.variables item.variable) item.start) (named_items program function items) is),
    items_classes items facts.1
        (back (named_start program function (slice_get function.variables item.variable) item.start) (named_items program function items) is),
  )
    where
      by : (start : Starting) → InStart FactsOf start → AllAmong classes (named_start program function (slice_get function.variables item.variable) start)
          → InStart ClassesOf start
      by (tree.value e) facts' so = right_classes e facts' (front (of_right e) _ so)
      by (tree.parts its) facts' so = tt

  declarations_classes : (its : List TypedDeclaration) → AllByRecursion (λ it. EachExpression FactsOf (of_declaration it)) its
      → AllAmong classes (named_declarations program function its) → AllByRecursion (λ it. EachExpression ClassesOf (of_declaration it)) its
  declarations_classes [] facts is = tt
  declarations_classes (it ∷ rest) facts is = (
    items_classes it.items facts.0 (front (named_items program function it.items) (named_declarations program function rest) is),
    declarations_classes rest facts.1 (back (named_items program function it.items) (named_declarations program function rest) is),
  )

  mutual
    statement_classes : (it : TypedStatement) → EachStatement (EachExpression FactsOf) it → AllAmong classes (of_statement' it)
        → EachStatement (EachExpression ClassesOf) it
    statement_classes (tree.block it) facts is = block_classes it facts is
    statement_classes (tree.expression at e) facts is = right_classes e facts is
    statement_classes (tree.empty at) facts is = tt
    statement_classes (tree.if_ at test first) facts is = (
      right_classes test facts.0 (front (of_right test) (of_statement' first) is),
      statement_classes first facts.1 (back (of_right test) (of_statement' first) is),
    )
    statement_classes (tree.if_else at test first second) facts is = (
      right_classes test facts.0 (front (of_right test) (of_statement' first) (front (of_right test ++ of_statement' first) (of_statement' second) is)),
      statement_classes first facts.1 (back (of_right test) (of_statement' first) (front (of_right test ++ of_statement' first) (of_statement' second) is)),
      statement_classes second facts.2 (back (of_right test ++ of_statement' first) (of_statement' second) is),
    )
    statement_classes (tree.while_ at test body) facts is = (
      right_classes test facts.0 (front (of_right test) (of_statement' body) is),
      statement_classes body facts.1 (back (of_right test) (of_statement' body) is),
    )
    statement_classes (tree.do_ at body test) facts is = (
      right_classes test facts.0 (back (of_statement' body) (of_right test) is),
      statement_classes body facts.1 (front (of_statement' body) (of_right test) is),
    )
    statement_classes (tree.for_ at first test next body) facts is = (
      (
        any_classes first facts.0.0 (front (named_if program function first) (named_if program function test)
            (front (named_if program function first ++ named_if program function test) (of_statement' body)
            (front (named_if program function first ++ named_if program function test ++ of_statement' body) (named_if program function next) is))),
        any_classes test facts.0.1 (back (named_if program function first) (named_if program function test)
            (front (named_if program function first ++ named_if program function test) (of_statement' body)
            (front (named_if program function first ++ named_if program function test ++ of_statement' body) (named_if program function next) is))),
        any_classes next facts.0.2
            (back (named_if program function first ++ named_if program function test ++ of_statement' body) (named_if program function next) is),
      ),
      statement_classes body facts.1 (back (named_if program function first ++ named_if program function test) (of_statement' body)
          (front (named_if program function first ++ named_if program function test ++ of_statement' body) (named_if program function next) is)),
    )
    statement_classes (tree.switch_ at e it) facts is = (
      right_classes e facts.0 (front (of_right e) (named_block program function it) is),
      block_classes it facts.1 (back (of_right e) (named_block program function it) is),
    )
    statement_classes (tree.break_ at) facts is = tt
    statement_classes (tree.continue_ at) facts is = tt
    statement_classes (tree.return_ at e) facts is = any_classes e facts is

    pub block_classes : (it : TypedBlock) → EachBlock (EachExpression FactsOf) it → AllAmong classes (named_block program function it)
        → EachBlock (EachExpression ClassesOf) it
    block_classes (tree.compound opening declarations list closing) facts is = (
      declarations_classes declarations facts.0 (front (named_declarations program function declarations) (named_statements program function list) is),
      list_classes list facts.1 (back (named_declarations program function declarations) (named_statements program function list) is),
    )

    list_classes : (its : TypedStatements) → EachOfStatements (EachExpression FactsOf) its → AllAmong classes (named_statements program function its)
        → EachOfStatements (EachExpression ClassesOf) its
    list_classes tree.no_statements facts is = tt
    list_classes (tree.more_statements labels it rest) facts is = (
      statement_classes it facts.0 (front (of_statement' it) (named_statements program function rest) is),
      list_classes rest facts.1 (back (of_statement' it) (named_statements program function rest) is),
    )

-- ---- the program

module _ (program : TypedProgram) where
  functions_classes : (its : List TypedFunction)
      → AllByRecursion (λ function. EachBlock (EachExpression (EachRight (HasOperands program.types))) function.body) its
      → AllAmong (classes_of program) (named_functions program its)
      → AllByRecursion (λ function. EachBlock (EachExpression (EachRight (NamesClass program (classes_of program) function))) function.body) its
  functions_classes [] facts is = tt
  functions_classes (it ∷ rest) facts is = (
    block_classes program it it.body facts.0
        (all_back (classes_of program) (named_variables program (take it.parameters it.variables)) (named_block program it it.body)
        (all_front (classes_of program) (named_variables program (take it.parameters it.variables) ++ named_block program it it.body)
        (named_functions program rest) is)),
    functions_classes rest facts.1
        (all_back (classes_of program) (named_variables program (take it.parameters it.variables) ++ named_block program it it.body)
        (named_functions program rest) is),
  )

  -- each expression of the program
  pub classes_there : EachNode program (λ function. HasOperands program.types) → EachNode program (NamesClass program (classes_of program))
  classes_there facts =
      functions_classes program.functions facts
      (all_back (classes_of program) (named_globals program program.globals) (named_functions program program.functions)
      (listed_all [] (named_globals program program.globals ++ named_functions program program.functions)))
