-- Each form of expression in the steps that the code takes.
use Rattle.std.proofs.Common.{◌≡◌, ◌≤◌, ◌+◌, ℕ, suc, Bool, true, false, List, [], ◌++◌, length, Option, Some, None, refl, arith, sym, ◌∙◌, ap}
use Rattle.std.specs.Prelude.{slice_get}
use Rattle.std.proofs.lemmas.List.{append-nil, length-append}
use Rattle.hs_code.specs.declared.function_code.Placed.{Placed}
use Rattle.hs_code.specs.declared.op.Access as code
use Rattle.hs_code.specs.declared.op.Binary.TheVariants as binary
use Rattle.hs_code.specs.declared.op.Object.TheVariants as object
use Rattle.hs_code.specs.declared.op.Op.{Op}
use Rattle.hs_code.specs.declared.op.Op.TheVariants as op
use Rattle.hs_code.specs.declared.op.Unary.TheVariants as unary
use Rattle.hs_lowering.specs.Lowering.{Lowered, operand, sequence, only, on_one, on_two, decided_if, takes_decision, right_code, address_code, all_code, dropped_code, slot_of, access_in, read_code, written_code, updated_code, stepped_code, numbers_changed, fetched, bound_code, decided_code}
use Rattle.hs_meaning.specs.Settings.{Setting, access_of}
use Rattle.hs_tree.specs.Trees as tree
use Rattle.hs_tree.specs.Trees.{RightValue, LeftValue, RightValues}
use Rattle.hs_tree.specs.declared.head.Head.{Head}
use Rattle.hs_tree.specs.declared.head.Variable.{Variable}
use Rattle.hs_tree.specs.declared.head.VariableDecl.{VariableDecl}
use Rattle.hs_tree.specs.declared.operators.Arithmetic.{Arithmetic}
use Rattle.hs_tree.specs.declared.operators.Comparison.{Comparison}
use Rattle.hs_tree.specs.declared.operators.Stride.{Stride}
use Rattle.hs_tree.specs.declared.operators.Unary.{Unary}
use Rattle.hs_types.specs.declared.integer.Integer.{Integer}
use Rattle.hs_types.specs.declared.row.FieldId.{FieldId}
use Rattle.hs_lower_expressions.specs.declared.parts.Change.{Change}
use Rattle.hs_lower_expressions.specs.Emits.{most_ops}
use Rattle.hs_lower_expressions.specs.Emitting.{limited, ◌>>=◌, emitted, pushed, patched, turned, both_ended, either_begun, either_ended, nil_tested, fetched_there, changed, slot_changed, memory_changed, slot_stepped, memory_stepped, called, routine_called, decided, by_slot, number_change, pointer_change, count, values_code, drops_code, right_emitted, left_emitted, all_emitted, dropped_emitted}
use Rattle.hs_lower_expressions.specs.EmittingLaws.{passes, fits_limited, bind_same, bind_twice, sequence_emitted, operand_emitted, chosen_emitted, or_emitted, conjoined_emitted, two_more}

-- ---- calls

decided_is : (piece : ℕ) (moves : Bool) (head : Head) (place : ℕ) (its : Op) (depth : ℕ) (ops : List Placed)
    → emitted (sequence (decided_if piece moves head place) (only piece head its)) depth ops ≡ decided piece moves head place its depth ops
unfolding decided pushed
decided_is piece true head place its depth ops = sequence_emitted (decided_if piece true head place) (only piece head its) depth ops
decided_is piece false head place its depth ops = refl

module _ (setting : Setting) (variables : List VariableDecl) (piece : ℕ) where
  pub called_alone : (head : Head) (place depth : ℕ) (ops : List Placed)
      → called setting variables piece head place None depth ops ≡ pushed piece head (op.Call place) depth ops
  unfolding called pushed
  called_alone head place depth ops = refl

  pub called_bound : (head : Head) (place routine depth : ℕ) (ops : List Placed)
      → called setting variables piece head place (Some routine) depth ops
      ≡ decided piece (takes_decision (slice_get setting.routines routine)) head routine (op.Call place) depth ops
  unfolding called
  called_bound head place routine depth ops =
      decided_is piece (takes_decision (slice_get setting.routines routine)) head routine (op.Call place) depth ops

  pub routine_decided : (head : Head) (place depth : ℕ) (ops : List Placed)
      → routine_called setting variables piece head place depth ops
      ≡ decided piece (takes_decision (slice_get setting.routines place)) head place (op.Routine place) depth ops
  unfolding routine_called
  routine_decided head place depth ops =
      decided_is piece (takes_decision (slice_get setting.routines place)) head place (op.Routine place) depth ops

-- ---- one and two operands

three_more : (depth : ℕ) → (depth + 2) + 1 ≡ depth + 3
three_more depth = omega arith

more_two : (depth : ℕ) → (depth + 1) + 2 ≡ depth + 3
more_two depth = omega arith

module _ (piece : ℕ) (head : Head) where
  one_emitted : (its : Op) (first : Lowered) (depth : ℕ) (ops : List Placed)
      → emitted (on_one piece head its first) depth ops ≡ (emitted first depth ops >>= (λ mid. pushed piece head its (depth + 1) mid))
  unfolding pushed
  one_emitted its first depth ops = operand_emitted first (only piece head its) depth ops

  two_emitted : (its : Op) (first second : Lowered) (depth : ℕ) (ops : List Placed)
      → emitted (on_two piece head its first second) depth ops
      ≡ (emitted first depth ops >>= (λ mid. emitted second (depth + 1) mid >>= (λ last. pushed piece head its (depth + 2) last)))
  two_emitted its first second depth ops =
      operand_emitted first (operand second (only piece head its)) depth ops
      ∙ bind_same (emitted first depth ops) _ _ (λ mid. one_emitted its second (depth + 1) mid
      ∙ ap (λ n. emitted second (depth + 1) mid >>= (λ last. pushed piece head its n last)) (two_more depth))

  -- ---- what an assignment makes of two operands

  abbrev made_by : Option Integer → Op → Lowered → Lowered → Lowered
  made_by None its first second = on_two piece head its first second
  made_by (Some to) its first second = numbers_changed piece head its (op.Conv to) first second

  made_emitted : (to : Option Integer) (its : Op) (first second : Lowered) (depth : ℕ) (ops : List Placed)
      → emitted (made_by to its first second) depth ops
      ≡ (emitted first depth ops >>= (λ a. emitted second (depth + 1) a >>= (λ b. changed piece head (record { op = its; to = to }) depth b)))
  unfolding changed
  made_emitted None its first second depth ops =
      two_emitted its first second depth ops
      ∙ bind_same (emitted first depth ops) _ _ (λ a. bind_same (emitted second (depth + 1) a) _ _ (λ b. ends (pushed piece head its (depth + 2) b)))
    where
      ends : (x : Option (List Placed)) → x ≡ (x >>= (λ ops. Some ops))
      ends None = refl
      ends (Some ops) = refl
  made_emitted (Some to) its first second depth ops =
      one_emitted (op.Conv to) (on_two piece head its first second) depth ops
      ∙ ap (λ x. x >>= (λ last. pushed piece head (op.Conv to) (depth + 1) last)) (two_emitted its first second depth ops)
      ∙ bind_twice (emitted first depth ops) _ _
      ∙ bind_same (emitted first depth ops) _ _ (λ a. bind_twice (emitted second (depth + 1) a) _ _)

  fetched_emitted : (access : code.Access) (depth : ℕ) (ops : List Placed)
      → emitted (fetched piece head access) depth ops ≡ fetched_there piece head access depth ops
  unfolding fetched_there pushed
  fetched_emitted access depth ops = operand_emitted (only piece head op.Dup) (only piece head (op.Load access)) depth ops

  -- a slot gets what is made of its value and another operand
  slot_updated : (to : Option Integer) (its : Op) (slot : Variable) (from : Lowered) (depth : ℕ) (ops : List Placed)
      → emitted (on_one piece head (op.Set slot) (made_by to its (only piece head (op.Get slot)) from)) depth ops
      ≡ (pushed piece head (op.Get slot) depth ops
      >>= (λ got. emitted from (depth + 1) got >>= (λ mid. slot_changed piece head (record { op = its; to = to }) slot depth mid)))
  unfolding slot_changed pushed
  slot_updated to its slot from depth ops =
      operand_emitted (made_by to its (only piece head (op.Get slot)) from) (only piece head (op.Set slot)) depth ops
      ∙ ap (λ x. x >>= (λ last. emitted (only piece head (op.Set slot)) (depth + 1) last)) (made_emitted to its (only piece head (op.Get slot)) from depth ops)
      ∙ bind_twice (emitted (only piece head (op.Get slot)) depth ops) _ _
      ∙ bind_same (emitted (only piece head (op.Get slot)) depth ops) _ _ (λ a. bind_twice (emitted from (depth + 1) a) _ _)

  -- what a pointer reaches does
  memory_updated : (to : Option Integer) (its : Op) (access : code.Access) (address from : Lowered) (depth : ℕ) (ops : List Placed)
      → emitted (on_two piece head (op.Store access) address (made_by to its (fetched piece head access) from)) depth ops
      ≡ (emitted address depth ops
      >>= (λ at. fetched_there piece head access (depth + 1) at
      >>= (λ got. emitted from (depth + 2) got >>= (λ mid. memory_changed piece head (record { op = its; to = to }) access depth mid))))
  unfolding memory_changed
  memory_updated to its access address from depth ops =
      two_emitted (op.Store access) address (made_by to its (fetched piece head access) from) depth ops
      ∙ bind_same (emitted address depth ops) _ _ (λ at.
      ap (λ x. x >>= (λ last. pushed piece head (op.Store access) (depth + 2) last)) (made_emitted to its (fetched piece head access) from (depth + 1) at)
      ∙ bind_twice (emitted (fetched piece head access) (depth + 1) at) _ _
      ∙ bind_same (emitted (fetched piece head access) (depth + 1) at) _ _ (λ a. bind_twice (emitted from ((depth + 1) + 1) a) _ _)
      ∙ ap (λ x. x >>= (λ got. emitted from ((depth + 1) + 1) got
      >>= (λ b. changed piece head (record { op = its; to = to }) (depth + 1) b >>= (λ last. pushed piece head (op.Store access) (depth + 2) last))))
      (fetched_emitted access (depth + 1) at)
      ∙ ap (λ n. fetched_there piece head access (depth + 1) at >>= (λ got. emitted from n got
      >>= (λ b. changed piece head (record { op = its; to = to }) (depth + 1) b >>= (λ last. pushed piece head (op.Store access) (depth + 2) last))))
      (two_more depth))

  -- `x++` of a slot
  slot_steps : (to : Option Integer) (its : Op) (slot : Variable) (depth : ℕ) (ops : List Placed)
      → emitted (on_two piece head op.Drop (only piece head (op.Get slot))
      (on_one piece head (op.Set slot) (made_by to its (only piece head op.Dup) (only piece head (op.Num 1))))) depth ops
      ≡ slot_stepped piece head (record { op = its; to = to }) slot depth ops
  unfolding slot_stepped slot_changed pushed
  slot_steps to its slot depth ops =
      let change : Change = record { op = its; to = to } in
      let given = made_by to its (only piece head op.Dup) (only piece head (op.Num 1)) in
      let drop : List Placed → Option (List Placed) = λ last. emitted (only piece head op.Drop) (depth + 2) last in
      let gives : (got : List Placed) → emitted (on_one piece head (op.Set slot) given) (depth + 1) got
      ≡ (emitted (only piece head op.Dup) (depth + 1) got >>= (λ twice. emitted (only piece head (op.Num 1)) (depth + 2) twice
      >>= (λ one. changed piece head change (depth + 1) one >>= (λ mid. emitted (only piece head (op.Set slot)) ((depth + 1) + 1) mid)))) =
      λ got. operand_emitted given (only piece head (op.Set slot)) (depth + 1) got
      ∙ ap (λ x. x >>= (λ last. emitted (only piece head (op.Set slot)) ((depth + 1) + 1) last))
      (made_emitted to its (only piece head op.Dup) (only piece head (op.Num 1)) (depth + 1) got)
      ∙ bind_twice (emitted (only piece head op.Dup) (depth + 1) got) _ _
      ∙ bind_same (emitted (only piece head op.Dup) (depth + 1) got) _ _ (λ a. bind_twice (emitted (only piece head (op.Num 1)) ((depth + 1) + 1) a) _ _)
      ∙ ap (λ n. emitted (only piece head op.Dup) (depth + 1) got >>= (λ twice. emitted (only piece head (op.Num 1)) n twice
      >>= (λ one. changed piece head change (depth + 1) one >>= (λ mid. emitted (only piece head (op.Set slot)) ((depth + 1) + 1) mid)))) (two_more depth) in
      two_emitted op.Drop (only piece head (op.Get slot)) (on_one piece head (op.Set slot) given) depth ops
      ∙ bind_same (emitted (only piece head (op.Get slot)) depth ops) _ _ (λ got. ap (λ x. x >>= drop) (gives got)
      ∙ bind_twice (emitted (only piece head op.Dup) (depth + 1) got) _ drop
      ∙ bind_same (emitted (only piece head op.Dup) (depth + 1) got) _ _ (λ twice. bind_twice (emitted (only piece head (op.Num 1)) (depth + 2) twice) _ drop))

  -- `x++` of an object
  memory_steps : (to : Option Integer) (its : Op) (access : code.Access) (address : Lowered) (depth : ℕ) (ops : List Placed)
      → emitted (operand address (operand (fetched piece head access)
      (sequence (on_one piece head (op.Store access) (made_by to its (only piece head op.Tuck) (only piece head (op.Num 1))))
      (only piece head op.Drop)))) depth ops
      ≡ (emitted address depth ops >>= (λ at. memory_stepped piece head (record { op = its; to = to }) access depth at))
  unfolding memory_stepped memory_changed pushed
  memory_steps to its access address depth ops =
      let change : Change = record { op = its; to = to } in
      let given = made_by to its (only piece head op.Tuck) (only piece head (op.Num 1)) in
      let drop : List Placed → Option (List Placed) = λ last. emitted (only piece head op.Drop) (depth + 2) last in
      let tail : Lowered = sequence (on_one piece head (op.Store access) given) (only piece head op.Drop) in
      let gives : (got : List Placed) → emitted (on_one piece head (op.Store access) given) (depth + 2) got
      ≡ (emitted (only piece head op.Tuck) (depth + 2) got >>= (λ twice. emitted (only piece head (op.Num 1)) (depth + 3) twice
      >>= (λ one. changed piece head change (depth + 2) one >>= (λ mid. emitted (only piece head (op.Store access)) ((depth + 2) + 1) mid)))) =
      λ got. operand_emitted given (only piece head (op.Store access)) (depth + 2) got
      ∙ ap (λ x. x >>= (λ last. emitted (only piece head (op.Store access)) ((depth + 2) + 1) last))
      (made_emitted to its (only piece head op.Tuck) (only piece head (op.Num 1)) (depth + 2) got)
      ∙ bind_twice (emitted (only piece head op.Tuck) (depth + 2) got) _ _
      ∙ bind_same (emitted (only piece head op.Tuck) (depth + 2) got) _ _ (λ a. bind_twice (emitted (only piece head (op.Num 1)) ((depth + 2) + 1) a) _ _)
      ∙ ap (λ n. emitted (only piece head op.Tuck) (depth + 2) got >>= (λ twice. emitted (only piece head (op.Num 1)) n twice
      >>= (λ one. changed piece head change (depth + 2) one
      >>= (λ mid. emitted (only piece head (op.Store access)) ((depth + 2) + 1) mid)))) (three_more depth) in
      let stored : (one : List Placed) → (changed piece head change (depth + 2) one
      >>= (λ mid. emitted (only piece head (op.Store access)) ((depth + 2) + 1) mid))
      ≡ (changed piece head change ((depth + 1) + 1) one >>= (λ mid. emitted (only piece head (op.Store access)) ((depth + 1) + 2) mid)) =
      λ one. ap (λ n. changed piece head change n one >>= (λ mid. emitted (only piece head (op.Store access)) ((depth + 2) + 1) mid)) (sym (two_more depth))
      ∙ ap (λ n. changed piece head change ((depth + 1) + 1) one >>= (λ mid. emitted (only piece head (op.Store access)) n mid))
      (three_more depth ∙ sym (more_two depth)) in
      let tucked : (got : List Placed) → emitted tail (depth + 2) got
      ≡ (emitted (only piece head op.Tuck) (depth + 2) got >>= (λ twice. emitted (only piece head (op.Num 1)) (depth + 3) twice
      >>= (λ one. (changed piece head change ((depth + 1) + 1) one >>= (λ mid. emitted (only piece head (op.Store access)) ((depth + 1) + 2) mid)) >>= drop))) =
      λ got. sequence_emitted (on_one piece head (op.Store access) given) (only piece head op.Drop) (depth + 2) got
      ∙ ap (λ x. x >>= drop) (gives got)
      ∙ bind_twice (emitted (only piece head op.Tuck) (depth + 2) got) _ drop
      ∙ bind_same (emitted (only piece head op.Tuck) (depth + 2) got) _ _ (λ twice. bind_twice (emitted (only piece head (op.Num 1)) (depth + 3) twice) _ drop
      ∙ bind_same (emitted (only piece head (op.Num 1)) (depth + 3) twice) _ _ (λ one. ap (λ x. x >>= drop) (stored one))) in
      operand_emitted address (operand (fetched piece head access) tail) depth ops
      ∙ bind_same (emitted address depth ops) _ _ (λ at. operand_emitted (fetched piece head access) tail (depth + 1) at
      ∙ ap (λ x. x >>= (λ got. emitted tail ((depth + 1) + 1) got)) (fetched_emitted access (depth + 1) at)
      ∙ ap (λ n. fetched_there piece head access (depth + 1) at >>= (λ got. emitted tail n got)) (two_more depth)
      ∙ bind_same (fetched_there piece head access (depth + 1) at) _ _ tucked)

-- ---- forms

module _ (setting : Setting) (variables : List VariableDecl) (piece : ℕ) where
  pub right_number : (head : Head) (bits depth : ℕ) (ops : List Placed)
      → right_emitted setting variables piece (tree.number head bits) depth ops ≡ pushed piece head (op.Num bits) depth ops
  unfolding right_emitted pushed
  right_number head bits depth ops = refl

  pub right_nil : (head : Head) (depth : ℕ) (ops : List Placed)
      → right_emitted setting variables piece (tree.nil head) depth ops ≡ pushed piece head op.Nil depth ops
  unfolding right_emitted pushed
  right_nil head depth ops = refl

  pub right_load : (head : Head) (object : LeftValue) (depth : ℕ) (ops : List Placed)
      → right_emitted setting variables piece (tree.load head object) depth ops
      ≡ by_slot (slot_of setting variables object) (λ its. pushed piece head (op.Get its) depth ops)
      (left_emitted setting variables piece object depth ops
      >>= (λ mid. pushed piece head (op.Load (access_in (access_of setting object))) (depth + 1) mid))
  unfolding right_emitted left_emitted pushed
  right_load head object depth ops = by (slot_of setting variables object)
    where
      by : (slot : Option Variable)
          → emitted (read_code piece head slot (access_in (access_of setting object)) (address_code setting variables piece object)) depth ops
          ≡ by_slot slot (λ its. emitted (only piece head (op.Get its)) depth ops)
          (emitted (address_code setting variables piece object) depth ops
          >>= (λ mid. emitted (only piece head (op.Load (access_in (access_of setting object)))) (depth + 1) mid))
      by (Some its) = refl
      by None = operand_emitted (address_code setting variables piece object) (only piece head (op.Load (access_in (access_of setting object)))) depth ops

  pub right_decay : (head : Head) (array : LeftValue) (depth : ℕ) (ops : List Placed)
      → right_emitted setting variables piece (tree.decay head array) depth ops ≡ left_emitted setting variables piece array depth ops
  unfolding right_emitted left_emitted
  right_decay head array depth ops = refl

  pub right_address : (head : Head) (object : LeftValue) (depth : ℕ) (ops : List Placed)
      → right_emitted setting variables piece (tree.address head object) depth ops ≡ left_emitted setting variables piece object depth ops
  unfolding right_emitted left_emitted
  right_address head object depth ops = refl

  pub right_cast : (head : Head) (e : RightValue) (depth : ℕ) (ops : List Placed)
      → right_emitted setting variables piece (tree.cast head e) depth ops ≡ right_emitted setting variables piece e depth ops
  unfolding right_emitted
  right_cast head e depth ops = refl

  pub right_convert_number : (head : Head) (kind : Integer) (e : RightValue) (depth : ℕ) (ops : List Placed)
      → right_emitted setting variables piece (tree.convert_number head kind e) depth ops
      ≡ (right_emitted setting variables piece e depth ops >>= (λ mid. pushed piece head (op.Conv kind) (depth + 1) mid))
  unfolding right_emitted
  right_convert_number head kind e depth ops = one_emitted piece head (op.Conv kind) (right_code setting variables piece e) depth ops

  pub right_convert_pointer : (head : Head) (e : RightValue) (depth : ℕ) (ops : List Placed)
      → right_emitted setting variables piece (tree.convert_pointer head e) depth ops ≡ right_emitted setting variables piece e depth ops
  unfolding right_emitted
  right_convert_pointer head e depth ops = refl

  pub right_unary : (head : Head) (operator : Unary) (kind : Integer) (e : RightValue) (depth : ℕ) (ops : List Placed)
      → right_emitted setting variables piece (tree.unary head operator kind e) depth ops
      ≡ (right_emitted setting variables piece e depth ops >>= (λ mid. pushed piece head (op.Unary (unary.Sign operator)) (depth + 1) mid))
  unfolding right_emitted
  right_unary head operator kind e depth ops = one_emitted piece head (op.Unary (unary.Sign operator)) (right_code setting variables piece e) depth ops

  pub right_not : (head : Head) (e : RightValue) (depth : ℕ) (ops : List Placed)
      → right_emitted setting variables piece (tree.not head e) depth ops
      ≡ (right_emitted setting variables piece e depth ops >>= (λ mid. pushed piece head (op.Unary unary.Not) (depth + 1) mid))
  unfolding right_emitted
  right_not head e depth ops = one_emitted piece head (op.Unary unary.Not) (right_code setting variables piece e) depth ops

  pub right_arithmetic : (head : Head) (operator : Arithmetic) (kind : Integer) (a b : RightValue) (depth : ℕ) (ops : List Placed)
      → right_emitted setting variables piece (tree.arithmetic head operator kind a b) depth ops
      ≡ (right_emitted setting variables piece a depth ops
      >>= (λ mid. right_emitted setting variables piece b (depth + 1) mid
      >>= (λ last. pushed piece head (op.Binary (binary.Arithmetic operator) kind) (depth + 2) last)))
  unfolding right_emitted
  right_arithmetic head operator kind a b depth ops =
      two_emitted piece head (op.Binary (binary.Arithmetic operator) kind) (right_code setting variables piece a)
      (right_code setting variables piece b) depth ops

  pub right_comparison : (head : Head) (operator : Comparison) (kind : Integer) (a b : RightValue) (depth : ℕ) (ops : List Placed)
      → right_emitted setting variables piece (tree.comparison head operator kind a b) depth ops
      ≡ (right_emitted setting variables piece a depth ops
      >>= (λ mid. right_emitted setting variables piece b (depth + 1) mid
      >>= (λ last. pushed piece head (op.Binary (binary.Comparison operator) kind) (depth + 2) last)))
  unfolding right_emitted
  right_comparison head operator kind a b depth ops =
      two_emitted piece head (op.Binary (binary.Comparison operator) kind) (right_code setting variables piece a)
      (right_code setting variables piece b) depth ops

  pub right_compare_pointers : (head : Head) (operator : Comparison) (a b : RightValue) (depth : ℕ) (ops : List Placed)
      → right_emitted setting variables piece (tree.compare_pointers head operator a b) depth ops
      ≡ (right_emitted setting variables piece a depth ops
      >>= (λ mid. right_emitted setting variables piece b (depth + 1) mid >>= (λ last. pushed piece head (op.Compare operator) (depth + 2) last)))
  unfolding right_emitted
  right_compare_pointers head operator a b depth ops =
      two_emitted piece head (op.Compare operator) (right_code setting variables piece a) (right_code setting variables piece b) depth ops

  pub right_is_nil : (head : Head) (equal : Bool) (pointer : RightValue) (depth : ℕ) (ops : List Placed)
      → right_emitted setting variables piece (tree.is_nil head equal pointer) depth ops
      ≡ (right_emitted setting variables piece pointer depth ops >>= (λ mid. nil_tested piece head equal depth mid))
  unfolding right_emitted
  right_is_nil head true pointer depth ops = one_emitted piece head op.IsNil (right_code setting variables piece pointer) depth ops
  right_is_nil head false pointer depth ops =
      one_emitted piece head (op.Unary unary.Not) (on_one piece head op.IsNil (right_code setting variables piece pointer)) depth ops
      ∙ ap (λ x. x >>= (λ last. pushed piece head (op.Unary unary.Not) (depth + 1) last))
      (one_emitted piece head op.IsNil (right_code setting variables piece pointer) depth ops)
      ∙ bind_twice (emitted (right_code setting variables piece pointer) depth ops) _ _

  pub right_step : (head : Head) (stride : Stride) (pointer_first : Bool) (a b : RightValue) (depth : ℕ) (ops : List Placed)
      → right_emitted setting variables piece (tree.step head stride pointer_first a b) depth ops
      ≡ (right_emitted setting variables piece a depth ops
      >>= (λ mid. right_emitted setting variables piece b (depth + 1) mid >>= (λ last. pushed piece head (op.Step stride pointer_first) (depth + 2) last)))
  unfolding right_emitted
  right_step head stride pointer_first a b depth ops =
      two_emitted piece head (op.Step stride pointer_first) (right_code setting variables piece a) (right_code setting variables piece b) depth ops

  pub right_difference : (head : Head) (size : ℕ) (a b : RightValue) (depth : ℕ) (ops : List Placed)
      → right_emitted setting variables piece (tree.difference head size a b) depth ops
      ≡ (right_emitted setting variables piece a depth ops
      >>= (λ mid. right_emitted setting variables piece b (depth + 1) mid >>= (λ last. pushed piece head (op.Difference size) (depth + 2) last)))
  unfolding right_emitted
  right_difference head size a b depth ops =
      two_emitted piece head (op.Difference size) (right_code setting variables piece a) (right_code setting variables piece b) depth ops

  pub right_and : (head : Head) (a b : RightValue) (depth : ℕ) (ops : List Placed)
      → right_emitted setting variables piece (tree.and head a b) depth ops
      ≡ (right_emitted setting variables piece a depth ops
      >>= (λ tested. pushed piece head (op.Zero 0) (depth + 1) tested
      >>= (λ opened. right_emitted setting variables piece b depth opened >>= (λ mid. both_ended piece head (length tested) depth mid))))
  unfolding right_emitted
  right_and head a b depth ops = conjoined_emitted piece head depth (right_code setting variables piece a) (right_code setting variables piece b) ops

  pub right_or : (head : Head) (a b : RightValue) (depth : ℕ) (ops : List Placed)
      → right_emitted setting variables piece (tree.or head a b) depth ops
      ≡ (right_emitted setting variables piece a depth ops
      >>= (λ tested. either_begun piece head depth tested
      >>= (λ mid. right_emitted setting variables piece b depth mid >>= (λ last. either_ended piece head (length tested + 2) depth last))))
  unfolding right_emitted
  right_or head a b depth ops = or_emitted piece head depth (right_code setting variables piece a) (right_code setting variables piece b) ops

  pub right_conditional : (head : Head) (test first second : RightValue) (depth : ℕ) (ops : List Placed)
      → right_emitted setting variables piece (tree.conditional head test first second) depth ops
      ≡ (right_emitted setting variables piece test depth ops
      >>= (λ tested. pushed piece head (op.Zero 0) (depth + 1) tested
      >>= (λ opened. right_emitted setting variables piece first depth opened
      >>= (λ mid. turned piece head (length tested) depth mid
      >>= (λ between. right_emitted setting variables piece second depth between
      >>= (λ last. Some (patched piece head (length mid) (op.Jump (length last)) (depth + 1) last)))))))
  unfolding right_emitted
  right_conditional head test first second depth ops =
      chosen_emitted piece head depth (right_code setting variables piece test) (right_code setting variables piece first)
      (right_code setting variables piece second) ops

  -- ---- assignments

  pub right_assign : (head : Head) (into : LeftValue) (from : RightValue) (depth : ℕ) (ops : List Placed)
      → right_emitted setting variables piece (tree.assign head into from) depth ops
      ≡ by_slot (slot_of setting variables into)
      (λ its. right_emitted setting variables piece from depth ops >>= (λ mid. pushed piece head (op.Set its) (depth + 1) mid))
      (left_emitted setting variables piece into depth ops
      >>= (λ mid. right_emitted setting variables piece from (depth + 1) mid
      >>= (λ last. pushed piece head (op.Store (access_in (access_of setting into))) (depth + 2) last)))
  unfolding right_emitted left_emitted
  right_assign head into from depth ops = by (slot_of setting variables into)
    where
      by : (slot : Option Variable) → emitted (written_code piece head slot (access_in (access_of setting into)) (address_code setting variables piece into)
          (right_code setting variables piece from)) depth ops
          ≡ by_slot slot (λ its. emitted (right_code setting variables piece from) depth ops >>= (λ mid. pushed piece head (op.Set its) (depth + 1) mid))
          (emitted (address_code setting variables piece into) depth ops
          >>= (λ mid. emitted (right_code setting variables piece from) (depth + 1) mid
          >>= (λ last. pushed piece head (op.Store (access_in (access_of setting into))) (depth + 2) last)))
      by (Some its) = one_emitted piece head (op.Set its) (right_code setting variables piece from) depth ops
      by None =
          two_emitted piece head (op.Store (access_in (access_of setting into))) (address_code setting variables piece into)
          (right_code setting variables piece from) depth ops

  -- by what is made of the two
  abbrev updated_by : Head → LeftValue → RightValue → Change → Option Variable → ℕ → List Placed → Option (List Placed)
  updated_by head into from change slot depth ops =
      by_slot slot
      (λ its. pushed piece head (op.Get its) depth ops
      >>= (λ got. emitted (right_code setting variables piece from) (depth + 1) got >>= (λ mid. slot_changed piece head change its depth mid)))
      (emitted (address_code setting variables piece into) depth ops
      >>= (λ at. fetched_there piece head (access_in (access_of setting into)) (depth + 1) at
      >>= (λ got. emitted (right_code setting variables piece from) (depth + 2) got
      >>= (λ mid. memory_changed piece head change (access_in (access_of setting into)) depth mid))))

  updates : (head : Head) (into : LeftValue) (from : RightValue) (to : Option Integer) (its : Op) (slot : Option Variable) (depth : ℕ) (ops : List Placed)
      → emitted (updated_code piece head slot (access_in (access_of setting into)) (made_by piece head to its) (address_code setting variables piece into)
      (right_code setting variables piece from)) depth ops ≡ updated_by head into from (record { op = its; to = to }) slot depth ops
  updates head into from to its (Some slot) depth ops = slot_updated piece head to its slot (right_code setting variables piece from) depth ops
  updates head into from to its None depth ops =
      memory_updated piece head to its (access_in (access_of setting into)) (address_code setting variables piece into)
      (right_code setting variables piece from) depth ops

  pub right_update : (head : Head) (operator : Arithmetic) (kind to : Integer) (into : LeftValue) (from : RightValue) (depth : ℕ) (ops : List Placed)
      → right_emitted setting variables piece (tree.update head operator kind to into from) depth ops
      ≡ by_slot (slot_of setting variables into)
      (λ its. pushed piece head (op.Get its) depth ops
      >>= (λ got. right_emitted setting variables piece from (depth + 1) got
      >>= (λ mid. slot_changed piece head (number_change operator kind to) its depth mid)))
      (left_emitted setting variables piece into depth ops
      >>= (λ at. fetched_there piece head (access_in (access_of setting into)) (depth + 1) at
      >>= (λ got. right_emitted setting variables piece from (depth + 2) got
      >>= (λ mid. memory_changed piece head (number_change operator kind to) (access_in (access_of setting into)) depth mid))))
  unfolding right_emitted left_emitted
  right_update head operator kind to into from depth ops =
      updates head into from (Some to) (op.Binary (binary.Arithmetic operator) kind) (slot_of setting variables into) depth ops

  pub right_advance : (head : Head) (stride : Stride) (into : LeftValue) (from : RightValue) (depth : ℕ) (ops : List Placed)
      → right_emitted setting variables piece (tree.advance head stride into from) depth ops
      ≡ by_slot (slot_of setting variables into)
      (λ its. pushed piece head (op.Get its) depth ops
      >>= (λ got. right_emitted setting variables piece from (depth + 1) got
      >>= (λ mid. slot_changed piece head (pointer_change stride) its depth mid)))
      (left_emitted setting variables piece into depth ops
      >>= (λ at. fetched_there piece head (access_in (access_of setting into)) (depth + 1) at
      >>= (λ got. right_emitted setting variables piece from (depth + 2) got
      >>= (λ mid. memory_changed piece head (pointer_change stride) (access_in (access_of setting into)) depth mid))))
  unfolding right_emitted left_emitted
  right_advance head stride into from depth ops =
      updates head into from None (op.Step stride true) (slot_of setting variables into) depth ops

  steps : (head : Head) (into : LeftValue) (to : Option Integer) (its : Op) (slot : Option Variable) (depth : ℕ) (ops : List Placed)
      → emitted (stepped_code piece head slot (access_in (access_of setting into)) (made_by piece head to its)
      (address_code setting variables piece into)) depth ops
      ≡ by_slot slot (λ slot. slot_stepped piece head (record { op = its; to = to }) slot depth ops)
      (emitted (address_code setting variables piece into) depth ops
      >>= (λ at. memory_stepped piece head (record { op = its; to = to }) (access_in (access_of setting into)) depth at))
  steps head into to its (Some slot) depth ops = slot_steps piece head to its slot depth ops
  steps head into to its None depth ops =
      memory_steps piece head to its (access_in (access_of setting into)) (address_code setting variables piece into) depth ops

  pub right_post_update : (head : Head) (operator : Arithmetic) (kind to : Integer) (into : LeftValue) (depth : ℕ) (ops : List Placed)
      → right_emitted setting variables piece (tree.post_update head operator kind to into) depth ops
      ≡ by_slot (slot_of setting variables into) (λ its. slot_stepped piece head (number_change operator kind to) its depth ops)
      (left_emitted setting variables piece into depth ops
      >>= (λ at. memory_stepped piece head (number_change operator kind to) (access_in (access_of setting into)) depth at))
  unfolding right_emitted left_emitted
  right_post_update head operator kind to into depth ops =
      steps head into (Some to) (op.Binary (binary.Arithmetic operator) kind) (slot_of setting variables into) depth ops

  pub right_post_advance : (head : Head) (stride : Stride) (into : LeftValue) (depth : ℕ) (ops : List Placed)
      → right_emitted setting variables piece (tree.post_advance head stride into) depth ops
      ≡ by_slot (slot_of setting variables into) (λ its. slot_stepped piece head (pointer_change stride) its depth ops)
      (left_emitted setting variables piece into depth ops
      >>= (λ at. memory_stepped piece head (pointer_change stride) (access_in (access_of setting into)) depth at))
  unfolding right_emitted left_emitted
  right_post_advance head stride into depth ops = steps head into None (op.Step stride true) (slot_of setting variables into) depth ops

  -- ---- lists of expressions

  nothing_emitted : (ops : List Placed) → limited (ops ++ []) ≡ limited ops
  nothing_emitted ops = ap limited (append-nil ops)

  pub all_done : (depth : ℕ) (ops : List Placed) → length ops ≤ most_ops → all_emitted setting variables piece tree.no_values depth ops ≡ Some ops
  unfolding all_emitted
  all_done depth ops fits = nothing_emitted ops ∙ fits_limited ops fits

  pub all_more : (e : RightValue) (rest : RightValues) (depth : ℕ) (ops : List Placed)
      → all_emitted setting variables piece (tree.more_values e rest) depth ops
      ≡ (right_emitted setting variables piece e depth ops >>= (λ mid. all_emitted setting variables piece rest (depth + 1) mid))
  unfolding all_emitted right_emitted
  all_more e rest depth ops = operand_emitted (right_code setting variables piece e) (values_code setting variables piece rest) depth ops

  pub dropped_done : (head : Head) (depth : ℕ) (ops : List Placed) → length ops ≤ most_ops
      → dropped_emitted setting variables piece head tree.no_values depth ops ≡ Some ops
  unfolding dropped_emitted
  dropped_done head depth ops fits = nothing_emitted ops ∙ fits_limited ops fits

  pub dropped_more : (head : Head) (e : RightValue) (rest : RightValues) (depth : ℕ) (ops : List Placed)
      → dropped_emitted setting variables piece head (tree.more_values e rest) depth ops
      ≡ (right_emitted setting variables piece e depth ops
      >>= (λ mid. pushed piece head op.Drop (depth + 1) mid >>= (λ last. dropped_emitted setting variables piece head rest depth last)))
  unfolding dropped_emitted right_emitted
  dropped_more head e rest depth ops =
      sequence_emitted (on_one piece head op.Drop (right_code setting variables piece e)) (drops_code setting variables piece head rest) depth ops
      ∙ ap (λ x. x >>= (λ last. emitted (drops_code setting variables piece head rest) depth last))
      (one_emitted piece head op.Drop (right_code setting variables piece e) depth ops)
      ∙ bind_twice (emitted (right_code setting variables piece e) depth ops) _ _

  -- the arguments, and what follows them
  all_then : (its : RightValues) (last : Lowered) (depth : ℕ) (ops : List Placed)
      → emitted (all_code setting variables piece its last) depth ops
      ≡ (emitted (values_code setting variables piece its) depth ops >>= (λ mid. emitted last (depth + count its) mid))
  all_then tree.no_values last depth ops = start
    where
      none_more : depth ≡ depth + 0
      none_more = omega arith

      start : emitted last depth ops ≡ (limited (ops ++ []) >>= (λ mid. emitted last (depth + 0) mid))
      start =
          passes ops (λ mid. emitted last depth mid) (ops ++ last (length ops) depth) (omega (arith, length-append ops (last (length ops) depth)))
          (λ fits. refl)
          ∙ ap (λ x. x >>= (λ mid. emitted last depth mid)) (sym (nothing_emitted ops))
          ∙ ap (λ n. limited (ops ++ []) >>= (λ mid. emitted last n mid)) none_more
  all_then (tree.more_values e rest) last depth ops =
      operand_emitted (right_code setting variables piece e) (all_code setting variables piece rest last) depth ops
      ∙ bind_same (emitted (right_code setting variables piece e) depth ops) _ _ (λ mid. all_then rest last (depth + 1) mid
      ∙ ap (λ n. emitted (values_code setting variables piece rest) (depth + 1) mid >>= (λ mid. emitted last n mid)) (more (count rest)))
      ∙ sym (bind_twice (emitted (right_code setting variables piece e) depth ops) _ _)
      ∙ ap (λ x. x >>= (λ mid. emitted last (depth + suc (count rest)) mid))
      (sym (operand_emitted (right_code setting variables piece e) (values_code setting variables piece rest) depth ops))
    where
      more : (n : ℕ) → (depth + 1) + n ≡ depth + suc n
      more n = omega arith

  pub right_call : (head : Head) (place : ℕ) (routine : Option ℕ) (its : RightValues) (depth : ℕ) (ops : List Placed)
      → right_emitted setting variables piece (tree.call head place routine its) depth ops
      ≡ (all_emitted setting variables piece its depth ops >>= (λ mid. called setting variables piece head place routine (depth + count its) mid))
  unfolding right_emitted all_emitted called
  right_call head place routine its depth ops =
      all_then its (sequence (bound_code setting variables piece head routine) (only piece head (op.Call place))) depth ops

  pub right_call_routine : (head : Head) (place : ℕ) (its : RightValues) (depth : ℕ) (ops : List Placed)
      → right_emitted setting variables piece (tree.call_routine head place its) depth ops
      ≡ (all_emitted setting variables piece its depth ops >>= (λ mid. routine_called setting variables piece head place (depth + count its) mid))
  unfolding right_emitted all_emitted routine_called
  right_call_routine head place its depth ops =
      all_then its (sequence (decided_code setting variables piece head place) (only piece head (op.Routine place))) depth ops

  dropped_then : (head : Head) (its : RightValues) (last : Lowered) (depth : ℕ) (ops : List Placed)
      → emitted (dropped_code setting variables piece head its last) depth ops
      ≡ (emitted (drops_code setting variables piece head its) depth ops >>= (λ mid. emitted last depth mid))
  dropped_then head tree.no_values last depth ops =
      passes ops (λ mid. emitted last depth mid) (ops ++ last (length ops) depth) (omega (arith, length-append ops (last (length ops) depth))) (λ fits. refl)
      ∙ ap (λ x. x >>= (λ mid. emitted last depth mid)) (sym (nothing_emitted ops))
  dropped_then head (tree.more_values e rest) last depth ops =
      let one = on_one piece head op.Drop (right_code setting variables piece e) in
      sequence_emitted one (dropped_code setting variables piece head rest last) depth ops
      ∙ bind_same (emitted one depth ops) _ _ (λ mid. dropped_then head rest last depth mid)
      ∙ sym (bind_twice (emitted one depth ops) _ _)
      ∙ ap (λ x. x >>= (λ mid. emitted last depth mid)) (sym (sequence_emitted one (drops_code setting variables piece head rest) depth ops))

  pub right_comma : (head : Head) (lefts : RightValues) (last : RightValue) (depth : ℕ) (ops : List Placed)
      → right_emitted setting variables piece (tree.comma head lefts last) depth ops
      ≡ (dropped_emitted setting variables piece head lefts depth ops >>= (λ mid. right_emitted setting variables piece last depth mid))
  unfolding right_emitted dropped_emitted
  right_comma head lefts last depth ops = dropped_then head lefts (right_code setting variables piece last) depth ops

  -- ---- lvalues

  pub left_variable : (head : Head) (its : Variable) (depth : ℕ) (ops : List Placed)
      → left_emitted setting variables piece (tree.variable head its) depth ops ≡ pushed piece head (op.Address (object.Variable its)) depth ops
  unfolding left_emitted pushed
  left_variable head its depth ops = refl

  pub left_literal : (head : Head) (place depth : ℕ) (ops : List Placed)
      → left_emitted setting variables piece (tree.literal head place) depth ops ≡ pushed piece head (op.Address (object.Literal place)) depth ops
  unfolding left_emitted pushed
  left_literal head place depth ops = refl

  pub left_target : (head : Head) (pointer : RightValue) (depth : ℕ) (ops : List Placed)
      → left_emitted setting variables piece (tree.target head pointer) depth ops ≡ right_emitted setting variables piece pointer depth ops
  unfolding left_emitted right_emitted
  left_target head pointer depth ops = refl

  pub left_element : (head : Head) (size : ℕ) (pointer_first : Bool) (a b : RightValue) (depth : ℕ) (ops : List Placed)
      → left_emitted setting variables piece (tree.element head size pointer_first a b) depth ops
      ≡ (right_emitted setting variables piece a depth ops
      >>= (λ mid. right_emitted setting variables piece b (depth + 1) mid
      >>= (λ last. pushed piece head (op.Step (record { size = size; backward = false }) pointer_first) (depth + 2) last)))
  unfolding left_emitted right_emitted
  left_element head size pointer_first a b depth ops =
      two_emitted piece head (op.Step (record { size = size; backward = false }) pointer_first) (right_code setting variables piece a)
      (right_code setting variables piece b) depth ops

  pub left_member : (head : Head) (field : FieldId) (bytes : ℕ) (object : LeftValue) (depth : ℕ) (ops : List Placed)
      → left_emitted setting variables piece (tree.member head field bytes object) depth ops
      ≡ (left_emitted setting variables piece object depth ops >>= (λ mid. pushed piece head (op.Offset bytes) (depth + 1) mid))
  unfolding left_emitted
  left_member head field bytes object depth ops = one_emitted piece head (op.Offset bytes) (address_code setting variables piece object) depth ops

  pub left_arrow : (head : Head) (field : FieldId) (bytes : ℕ) (pointer : RightValue) (depth : ℕ) (ops : List Placed)
      → left_emitted setting variables piece (tree.arrow head field bytes pointer) depth ops
      ≡ (right_emitted setting variables piece pointer depth ops >>= (λ mid. pushed piece head (op.Offset bytes) (depth + 1) mid))
  unfolding left_emitted right_emitted
  left_arrow head field bytes pointer depth ops = one_emitted piece head (op.Offset bytes) (right_code setting variables piece pointer) depth ops

-- all of them, for the functions that take these steps
pub ruleset value_equations = (
  right_number,
  right_nil,
  right_load,
  right_decay,
  right_address,
  right_cast,
  right_convert_number,
  right_convert_pointer,
  right_unary,
  right_not,
  right_arithmetic,
  right_comparison,
  right_compare_pointers,
  right_is_nil,
  right_step,
  right_difference,
  right_and,
  right_or,
  right_conditional,
  right_assign,
  right_update,
  right_advance,
  right_post_update,
  right_post_advance,
)

pub ruleset place_equations = (left_variable, left_literal, left_target, left_element, left_member, left_arrow)
