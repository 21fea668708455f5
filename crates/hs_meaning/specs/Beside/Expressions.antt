-- Two runs that correspond in each operation and job correspond in each expression.
use Rattle.std.specs.Prelude.{◌≡◌, ℕ, pos, Bool, true, false, not, [], ◌∷◌, Option, Some, None, ◌==◌}
use Rattle.std.proofs.Common.{refl, ap}
use Rattle.hs_base.specs.declared.pos.Pos.{Pos}
use Rattle.hs_meaning.specs.Beside.{Relation, Follows, gives, thens, Units, Same, Lists, Locations, Pairs, Leaves, Agains}
use Rattle.hs_meaning.specs.Evaluation.{Flow, Job, Location, in_slot, at_address, read, written, read_with, decided_by, bound_to, truth_value, on_one, on_two, updated, advanced, value_of, addressed, location_of, values_of, each_of}
use Rattle.hs_meaning.specs.Operations as operation
use Rattle.hs_meaning.specs.Operations.{Operation}
use Rattle.hs_meaning.specs.Steps.{Step, ◌>>=◌, give, either, perform, condition, operands}
use Rattle.hs_meaning.specs.Values.{Value, number, Access}
use Rattle.hs_tree.specs.Trees as tree
use Rattle.hs_meaning.specs.Settings.{Setting}
use Rattle.hs_tree.specs.Trees.{RightValue, LeftValue, RightValues}
use Rattle.hs_tree.specs.declared.constant.Base.TheVariants as base
use Rattle.hs_tree.specs.declared.constant.Constant.TheVariants as constant
use Rattle.hs_tree.specs.declared.head.Head.{Head}
use Rattle.hs_tree.specs.declared.operators.Stride.{Stride}

module _ (R : Relation) (setting : Setting) (leaves : Leaves R setting) where
  -- ---- operations

  one_value : (a b : Value) → R.values a b → Lists R (a ∷ []) (b ∷ [])
  one_value a b is = (is, tt)

  two_values : (a b a' b' : Value) → R.values a b → R.values a' b' → Lists R (a ∷ a' ∷ []) (b ∷ b' ∷ [])
  two_values a b a' b' is is' = (is, (is', tt))

  pub performed_one : (at : Pos) (its : Operation) (a b : Value) → R.values a b
      → Follows R R.values (perform setting at its (a ∷ [])) (perform setting at its (b ∷ []))
  performed_one at its a b is = leaves.performed at its (a ∷ []) (b ∷ []) (one_value a b is)

  pub performed_two : (at : Pos) (its : Operation) (a b a' b' : Value) → R.values a b → R.values a' b'
      → Follows R R.values (perform setting at its (a ∷ a' ∷ [])) (perform setting at its (b ∷ b' ∷ []))
  performed_two at its a b a' b' is is' = leaves.performed at its (a ∷ a' ∷ []) (b ∷ b' ∷ []) (two_values a b a' b' is is')

  pub number_follows : (bits : ℕ) → R.values (number bits) (number bits)
  number_follows bits = leaves.constant (constant.Number bits)

  pub condition_follows : (at : Pos) (a b : Value) → R.values a b → Follows R Same (condition at a) (condition at b)
  condition_follows at a b is = thens (leaves.used_as at a b is) (λ m n same. gives (ap (λ bits. not (bits == 0)) same))

  -- one of two steps, by equal tests
  pub chosen : {A : Type 0} → {same : A → A → Type 0} → {f f' g g' : Step A} → (a b : Bool) → a ≡ b → Follows R same f f'
      → Follows R same g g' → Follows R same (either a f g) (either b f' g')
  chosen true true is first second = first
  chosen true false is first second = absurd cc
  chosen false true is first second = absurd cc
  chosen false false is first second = second

  -- ---- objects

  pub read_follows : (at : Pos) (access : Access) (a b : Location) → Locations R a b
      → Follows R R.values (read setting at access a) (read setting at access b)
  read_follows at access (in_slot a) (in_slot b) is =
      Rattle.std.proofs.Common.subst (λ n. Follows R R.values (read setting at access (in_slot a)) (read setting at access (in_slot n))) is
      (leaves.performed at (operation.get a) [] [] tt)
  read_follows at access (in_slot a) (at_address b) is = absurd is
  read_follows at access (at_address a) (in_slot b) is = absurd is
  read_follows at access (at_address a) (at_address b) is = performed_one at (operation.load access) a b is

  pub written_follows : (at : Pos) (access : Access) (a b : Location) (v w : Value) → Locations R a b → R.values v w
      → Follows R R.values (written setting at access a v) (written setting at access b w)
  written_follows at access (in_slot a) (in_slot b) v w is so =
      Rattle.std.proofs.Common.subst (λ n. Follows R R.values (written setting at access (in_slot a) v) (written setting at access (in_slot n) w)) is
      (performed_one at (operation.set a) v w so)
  written_follows at access (in_slot a) (at_address b) v w is so = absurd is
  written_follows at access (at_address a) (in_slot b) v w is so = absurd is
  written_follows at access (at_address a) (at_address b) v w is so = performed_two at (operation.store access) a b v w is so

  read_with_follows : (at : Pos) (access : Access) (a b : Location) → Locations R a b
      → Follows R (Pairs R (Locations R) R.values) (read_with setting at access a) (read_with setting at access b)
  read_with_follows at access a b is = thens (read_follows at access a b is) (λ v w so. gives (is, so))

  -- the object at an address, if it is no variable
  reached_follows : {f g : Step Value} → Follows R R.values f g
      → Follows R (Locations R) (f >>= (λ its. give (at_address its))) (g >>= (λ its. give (at_address its)))
  reached_follows address = thens address (λ a b is. gives is)

  -- the object that an lvalue designates
  located_follows : (e : LeftValue) {f g : Step Value} → Follows R R.values f g → Follows R (Locations R) (location_of e f) (location_of e g)
  located_follows (tree.variable head name) address = leaves.variable head.at.pos name
  located_follows (tree.literal head place) address = reached_follows address
  located_follows (tree.target head its) address = reached_follows address
  located_follows (tree.element head size pointer_first a b) address = reached_follows address
  located_follows (tree.member head field bytes object) address = reached_follows address
  located_follows (tree.arrow head field bytes its) address = reached_follows address

  -- ---- operands

  operands_follow : {A B : Type 0} → {same : A → A → Type 0} → {same' : B → B → Type 0} → {f f' : Step A} → {g g' : Step B}
      → Follows R same f f' → Follows R same' g g' → Follows R (Pairs R same same') (operands f g) (operands f' g')
  operands_follow first second = thens first (λ a b is. thens second (λ a' b' is'. gives (is, is')))

  decided_follows : (routine : Option ℕ) → Follows R Units (decided_by (bound_to setting routine)) (decided_by (bound_to setting routine))
  decided_follows None = gives tt
  decided_follows (Some place) = leaves.decided place

  module _ (again other : Job → Step Flow) (agains : Agains R again other) where
    on_one_follows : (head : Head) (its : Operation) {f f' : Step Value} → Follows R R.values f f'
        → Follows R R.values (on_one setting again head its f) (on_one setting other head its f')
    on_one_follows head its first = thens first (λ a b is. performed_one head.at.pos its a b is)

    on_two_follows : (head : Head) (its : Operation) {f f' g g' : Step Value} → Follows R R.values f f' → Follows R R.values g g'
        → Follows R R.values (on_two setting again head its f g) (on_two setting other head its f' g')
    on_two_follows head its first second =
        thens (operands_follow first second) (λ a b is. performed_two head.at.pos its a.0 b.0 a.1 b.1 is.0 is.1)

    updated_follows : (head : Head) (access : Access) (its to : Operation) (a b : Location) (v w x y : Value) → Locations R a b → R.values v w
        → R.values x y → Follows R R.values (updated setting again head access its to a v x) (updated setting other head access its to b w y)
    updated_follows head access its to a b v w x y is so by =
        thens (performed_two head.at.pos its v w x y so by) (λ m n sum. thens (performed_one head.at.pos to m n sum)
        (λ m n value. written_follows head.at.pos access a b m n is value))

    advanced_follows : (head : Head) (access : Access) (stride : Stride) (a b : Location) (v w x y : Value) → Locations R a b → R.values v w
        → R.values x y → Follows R R.values (advanced setting again head access stride a v x) (advanced setting other head access stride b w y)
    advanced_follows head access stride a b v w x y is so by =
        thens (performed_two head.at.pos (operation.step stride true) v w x y so by) (λ m n value. written_follows head.at.pos access a b m n is value)

    truth_follows : (a b : Bool) → a ≡ b → Follows R R.values (give (truth_value a)) (give (truth_value b))
    truth_follows true true is = gives (number_follows 1)
    truth_follows true false is = absurd cc
    truth_follows false true is = absurd cc
    truth_follows false false is = gives (number_follows 0)

    tested : {A : Type 0} → {same : A → A → Type 0} → {f f' : Step Value} → {g g' h h' : Step A} → (at : Pos) → Follows R R.values f f'
        → Follows R same g g' → Follows R same h h'
        → Follows R same (f >>= condition at >>= (λ is. either is g h)) (f' >>= condition at >>= (λ is. either is g' h'))
    tested at first second third = thens (thens first (λ a b is. condition_follows at a b is)) (λ a b is. chosen a b is second third)

    answered : {f f' : Step Value} → (at : Pos) → Follows R R.values f f'
        → Follows R R.values (f >>= condition at >>= (λ is. give (truth_value is))) (f' >>= condition at >>= (λ is. give (truth_value is)))
    answered at first = thens (thens first (λ a b is. condition_follows at a b is)) (λ a b is. truth_follows a b is)

    -- ---- expressions

    mutual
      -- the value of an expression
      pub value_follows : (e : RightValue) → Follows R R.values (value_of setting again e) (value_of setting other e)
      value_follows (tree.number head bits) = gives (number_follows bits)
      value_follows (tree.nil head) = gives (leaves.constant constant.Nil)
      value_follows (tree.load head object) = thens (located_follows object (address_follows object)) (λ a b is. read_follows head.at.pos _ a b is)
      value_follows (tree.decay head array) = address_follows array
      value_follows (tree.address head object) = address_follows object
      value_follows (tree.cast head operand) = value_follows operand
      value_follows (tree.convert_number head kind operand) = on_one_follows head (operation.convert kind) (value_follows operand)
      value_follows (tree.convert_pointer head operand) = value_follows operand
      value_follows (tree.unary head operator kind operand) = on_one_follows head (operation.sign operator) (value_follows operand)
      value_follows (tree.not head operand) = on_one_follows head operation.not_ (value_follows operand)
      value_follows (tree.arithmetic head operator kind a b) =
          on_two_follows head (operation.arithmetic operator kind) (value_follows a) (value_follows b)
      value_follows (tree.comparison head operator kind a b) =
          on_two_follows head (operation.comparison operator kind) (value_follows a) (value_follows b)
      value_follows (tree.compare_pointers head operator a b) =
          on_two_follows head (operation.compare operator) (value_follows a) (value_follows b)
      value_follows (tree.is_nil head true its) = on_one_follows head operation.is_nil (value_follows its)
      value_follows (tree.is_nil head false its) =
          on_one_follows head operation.not_ (on_one_follows head operation.is_nil (value_follows its))
      value_follows (tree.step head stride pointer_first a b) =
          on_two_follows head (operation.step stride pointer_first) (value_follows a) (value_follows b)
      value_follows (tree.difference head size a b) = on_two_follows head (operation.difference size) (value_follows a) (value_follows b)
      value_follows (tree.and head a b) =
          tested head.at.pos (value_follows a) (answered head.at.pos (value_follows b)) (gives (number_follows 0))
      value_follows (tree.or head a b) =
          tested head.at.pos (value_follows a) (gives (number_follows 1)) (answered head.at.pos (value_follows b))
      value_follows (tree.conditional head test first second) =
          tested head.at.pos (value_follows test) (value_follows first) (value_follows second)
      value_follows (tree.comma head lefts last) = thens (each_follows lefts) (λ a b is. value_follows last)
      value_follows (tree.assign head into from) =
          thens (operands_follow (located_follows into (address_follows into)) (value_follows from))
          (λ a b is. written_follows head.at.pos _ a.0 b.0 a.1 b.1 is.0 is.1)
      value_follows (tree.update head operator kind to into from) =
          thens (operands_follow (thens (located_follows into (address_follows into)) (λ a b is. read_with_follows head.at.pos _ a b is)) (value_follows from))
          (λ a b is. updated_follows head _ (operation.arithmetic operator kind) (operation.convert to) a.0.0 b.0.0 a.0.1 b.0.1 a.1 b.1 is.0.0 is.0.1 is.1)
      value_follows (tree.advance head stride into from) =
          thens (operands_follow (thens (located_follows into (address_follows into)) (λ a b is. read_with_follows head.at.pos _ a b is)) (value_follows from))
          (λ a b is. advanced_follows head _ stride a.0.0 b.0.0 a.0.1 b.0.1 a.1 b.1 is.0.0 is.0.1 is.1)
      value_follows (tree.post_update head operator kind to into) =
          thens (thens (located_follows into (address_follows into)) (λ a b is. read_with_follows head.at.pos _ a b is))
          (λ a b is. thens (updated_follows head _ (operation.arithmetic operator kind) (operation.convert to) a.0 b.0 a.1 b.1 (number 1) (number 1)
          is.0 is.1 (number_follows 1)) (λ m n so. gives is.1))
      value_follows (tree.post_advance head stride into) =
          thens (thens (located_follows into (address_follows into)) (λ a b is. read_with_follows head.at.pos _ a b is))
          (λ a b is. thens (advanced_follows head _ stride a.0 b.0 a.1 b.1 (number 1) (number 1) is.0 is.1 (number_follows 1)) (λ m n so. gives is.1))
      value_follows (tree.call head place routine arguments) =
          thens (thens (values_follow arguments) (λ a b is. thens (decided_follows routine) (λ m n so. agains.calls place head.at.pos a b is)))
          (λ a b is. leaves.result head.at.pos a b is)
      value_follows (tree.call_routine head place arguments) =
          thens (values_follow arguments) (λ a b is. thens (leaves.decided place) (λ m n so. leaves.performed head.at.pos (operation.routine place) a b is))

      -- the address of an object
      pub address_follows : (e : LeftValue) → Follows R R.values (addressed setting again e) (addressed setting other e)
      address_follows (tree.variable head name) = thens (leaves.variable head.at.pos name) (λ a b is. leaves.address head.at.pos a b is)
      address_follows (tree.literal head place) = gives (leaves.constant (constant.Address (base.Literal place) (pos 0)))
      address_follows (tree.target head its) = value_follows its
      address_follows (tree.element head size pointer_first a b) =
          on_two_follows head (operation.step (record { size = size; backward = false }) pointer_first) (value_follows a) (value_follows b)
      address_follows (tree.member head field bytes object) = on_one_follows head (operation.offset bytes) (address_follows object)
      address_follows (tree.arrow head field bytes its) = on_one_follows head (operation.offset bytes) (value_follows its)

      -- arguments
      pub values_follow : (its : RightValues) → Follows R (Lists R) (values_of setting again its) (values_of setting other its)
      values_follow tree.no_values = gives tt
      values_follow (tree.more_values e rest) = thens (operands_follow (value_follows e) (values_follow rest)) (λ a b is. gives (is.0, is.1))

      -- the left operands of a comma
      pub each_follows : (its : RightValues) → Follows R Units (each_of setting again its) (each_of setting other its)
      each_follows tree.no_values = gives tt
      each_follows (tree.more_values e rest) = thens (value_follows e) (λ a b is. each_follows rest)
