-- What a routine gives is of the kind of the type with which it is declared, and it changes no variable: plain routines, and all.
--     plain_to                     a plain routine
--     declared_to                  any routine, as it is declared
use Rattle.std.proofs.Common.{◌≡◌, ℕ, ◌==◌, Bool, true, false, List, map, take, Option, Some, None, IsTrue, is_some, ◌||◌, refl, if◌then◌else◌}
use Rattle.hs_code.specs.Stacks.{Kind, kind_of, kind_by}
use Rattle.hs_code.specs.Stacks as kind
use Rattle.hs_heap.specs.Memory.{has_room}
use Rattle.hs_heap.specs.declared.cell.Cell.TheVariants.{Byte}
use Rattle.hs_kinds.specs.Kinds.{AreOfKinds}
use Rattle.hs_kinds.specs.Operations.{DoneTo, IsSo, Gives, cells_so}
use Rattle.hs_meaning.specs.Machine.{Machine, Binding, Done, has_room_for}
use Rattle.hs_meaning.specs.Operations.{is_plain, called_by, called_as}
use Rattle.hs_meaning.specs.Plain.{plain, after_line, then_unless, argument, filled, fill_size, fill_stops, argument_stops, with_line, line_of, answers, bytes_of_words, words_for, result_of, result_by, pointer_result, new_value, made_block, made_object, made_size, pointed_size, points_to_pointer, one_word_less, next_word}
use Rattle.hs_meaning.specs.Stops.{first_stop}
use Rattle.hs_meaning.specs.Values.{Value, pointer_in}
use Rattle.hs_meaning.specs.declared.outcome.Stop.{Stop}
use Rattle.hs_table.specs.declared.role.Role.{Role}
use Rattle.hs_table.specs.declared.role.Role.TheVariants as role
use Rattle.hs_table.specs.declared.routine.Routine.{Routine}
use Rattle.hs_tree.specs.Kinds.{kind_of_row, pointed_of_row, is_void_row, size_at}
use Rattle.hs_tree.specs.Roles.{FitsRole, FitsNamedRole, FitsPlain}
use Rattle.hs_tree.specs.declared.function.Prototype.{Prototype}
use Rattle.hs_types.specs.TypeTables.{TypeTable, row_of}
use Rattle.hs_types.specs.declared.row.Row.{Row}
use Rattle.hs_types.specs.declared.row.Row.TheVariants as row
use Rattle.hs_types.specs.declared.row.TypeId.{TypeId}
use Rattle.hs_kinds.specs.Routines.{row_kind, handle_is, object_is, role_to}

module _ (P : List Binding → List Binding → Type 0) (types : TypeTable) where
  -- bytes are written where an argument points to
  filled_so : (its : Option Value) (size : ℕ) (machine : Machine) → IsSo P machine → IsSo P (filled its size machine)
  filled_so None size machine so = so
  filled_so (Some value) size machine so =
      cells_so P (pointer_in value) (map Byte (take size (bytes_of_words (answers (words_for size) machine.words)))) machine so

  -- a block that is made or not
  made_block_so : (b : Bool) (size : ℕ) (machine : Machine) → IsSo P machine → IsSo P (made_block b size machine)
  made_block_so true size machine so = so
  made_block_so false size machine so = so

  -- an object that is made or not
  made_object_so : (b : Bool) (size : ℕ) (machine : Machine) → IsSo P machine → IsSo P (made_object b size machine)
  made_object_so true size machine so = so
  made_object_so false size machine so = so

  -- a pointer to something new, or nil
  new_to : (handles : Bool) (size : ℕ) (zero_word : Bool) (machine : Machine) → IsSo P machine
      → DoneTo (Gives P kind.pointer) (new_value handles size zero_word machine)
  new_to handles size true machine so = (tt, so)
  new_to true size false machine so = (handle_is (has_room machine.blocks size) machine, made_block_so (has_room machine.blocks size) size machine so)
  new_to false size false machine so = (object_is (has_room_for size machine) machine, made_object_so (has_room_for size machine) size machine so)

  -- one of two
  either_to : {A : Type 0} → (Q : A → Machine → Type 0) (b : Bool) (x y : Done A) → DoneTo Q x → DoneTo Q y → DoneTo Q (if b then x else y)
  either_to Q true x y first second = first
  either_to Q false x y first second = second

  -- a result of a type of pointers
  pointer_to : (size : ℕ) (target : Option TypeId) (is_zero : Bool) (machine : Machine) → IsSo P machine
      → DoneTo (Gives P kind.pointer) (pointer_result types size target is_zero machine)
  pointer_to size target is_zero machine so =
      either_to (Gives P kind.pointer) (points_to_pointer types target) (new_value true (made_size size (pointed_size types target)) is_zero machine)
      (new_value false (made_size size (size_at types target)) is_zero machine)
      (new_to true (made_size size (pointed_size types target)) is_zero machine so)
      (new_to false (made_size size (size_at types target)) is_zero machine so)

  -- by its row: no struct
  result_row : (size : ℕ) (its : Option Row) (machine : Machine)
      → IsTrue (is_void_row its || (is_some (kind_of_row its) || is_some (pointed_of_row its))) → IsSo P machine
      → DoneTo (Gives P (row_kind its)) (result_by types size (kind_of_row its) (pointed_of_row its) machine)
  result_row size None machine is so = absurd cc
  result_row size (Some row.Void) machine is so = (tt, so)
  result_row size (Some (row.Integer i)) machine is so = (tt, so)
  result_row size (Some (row.Pointer of)) machine is so = pointer_to size (Some of) (next_word machine.words == 0) (one_word_less machine) so
  result_row size (Some (row.Enumeration n)) machine is so = (tt, so)
  result_row size (Some (row.Struct n)) machine is so = absurd cc
  result_row size (Some (row.Array of length layout)) machine is so = absurd cc
  result_row size (Some (row.OpenArray of)) machine is so = absurd cc
  result_row size (Some (row.Function result parameters)) machine is so = absurd cc

  -- a test that may stop it
  unless_then : {A : Type 0} → (Q : A → Machine → Type 0) (why : Option Stop) (machine : Machine) (rest : Done A) → DoneTo Q rest
      → DoneTo Q (then_unless why machine rest)
  unless_then Q None machine rest is = is
  unless_then Q (Some why) machine rest is = tt

  -- after the line
  line_to : (its : Routine) (prototype : Prototype) (values : List Value) (size : ℕ) (machine : Machine) → FitsPlain types its.fills prototype
      → IsSo P machine
      → DoneTo (Gives P (kind_of types prototype.result))
      (then_unless (first_stop (fill_stops (argument its.fills values) size machine)) machine
      (result_of types its.size prototype.result (filled (argument its.fills values) size machine)))
  line_to its prototype values size machine fit so =
      unless_then (Gives P (kind_of types prototype.result)) (first_stop (fill_stops (argument its.fills values) size machine)) machine
      (result_of types its.size prototype.result (filled (argument its.fills values) size machine))
      (result_row its.size (row_of types prototype.result) (filled (argument its.fills values) size machine) fit.0
      (filled_so (argument its.fills values) size machine so))

  -- a plain routine
  plain_to : (its : Routine) (prototype : Prototype) (values : List Value) (machine : Machine) → FitsPlain types its.fills prototype → IsSo P machine
      → DoneTo (Gives P (kind_of types prototype.result)) (plain types its prototype values machine)
  plain_to its prototype values machine fit so =
      unless_then (Gives P (kind_of types prototype.result)) (first_stop (argument_stops its.fills values machine)) machine
      (after_line types its prototype values (with_line (line_of its.name types prototype.parameters values) machine))
      (line_to its prototype values (fill_size types its.fills prototype.parameters)
      (with_line (line_of its.name types prototype.parameters values) machine) fit so)

  -- ---- all routines

  -- a plain routine, or one with a role
  by_plain : (its : Routine) (prototype : Prototype) (values : List Value) (machine : Machine) → (b : Bool) → is_plain its.role ≡ b
      → FitsRole types its prototype → AreOfKinds (map (kind_of types) prototype.parameters) values → IsSo P machine
      → DoneTo (Gives P (kind_of types prototype.result)) (called_by b types its prototype values machine)
  by_plain its prototype values machine true is fit are so = plain_to its prototype values machine (of_plain its.role is fit) so
    where
      of_plain : (r : Role) → is_plain r ≡ true → FitsNamedRole types r its.fills prototype → FitsPlain types its.fills prototype
      of_plain role.Plain same fit' = fit'
      of_plain role.NewHandle same fit' = absurd cc
      of_plain role.DisposeHandle same fit' = absurd cc
      of_plain role.GetSize same fit' = absurd cc
      of_plain role.SetSize same fit' = absurd cc
      of_plain role.Lock same fit' = absurd cc
      of_plain role.Unlock same fit' = absurd cc
      of_plain role.Purge same fit' = absurd cc
      of_plain role.NoPurge same fit' = absurd cc
      of_plain role.GetState same fit' = absurd cc
      of_plain role.SetState same fit' = absurd cc
      of_plain role.Empty same fit' = absurd cc
      of_plain role.Realloc same fit' = absurd cc
      of_plain role.NewPtr same fit' = absurd cc
      of_plain role.DisposePtr same fit' = absurd cc
      of_plain role.BlockMove same fit' = absurd cc
      of_plain role.Getchar same fit' = absurd cc
      of_plain role.Putchar same fit' = absurd cc
  by_plain its prototype values machine false is fit are so = role_to P types prototype machine so its.role its.fills is fit values are

  -- as it is declared
  pub declared_to : (its : Routine) (prototype : Prototype) (values : List Value) (machine : Machine) → FitsRole types its prototype
      → AreOfKinds (map (kind_of types) prototype.parameters) values → IsSo P machine
      → DoneTo (Gives P (kind_of types prototype.result)) (called_as types its (Some prototype) values machine)
  declared_to its prototype values machine fit are so = by_plain its prototype values machine (is_plain its.role) refl fit are so
