-- Plain routines.
--     plain_keeps                all that one does
use Rattle.std.proofs.Common.{ℕ, ◌==◌, Bool, true, false, List, [], ◌∷◌, map, take, replicate, Option, Some, None}
use Rattle.hs_heap.specs.Blocks.{new_block}
use Rattle.hs_heap.specs.Memory.{has_room}
use Rattle.hs_heap.specs.declared.cell.Cell.TheVariants.{Byte}
use Rattle.hs_meaning.specs.Laws.Changes.{Change, Stays, Keeps, same_stay, added_stay, line_stays, keeps_after, either_keeps, then_unless_keeps}
use Rattle.hs_meaning.specs.Laws.Changes.Accesses.{with_cells_at_stays}
use Rattle.hs_meaning.specs.Machine.{Machine, has_room_for}
use Rattle.hs_meaning.specs.Plain.{argument_stops, line_of, answers, bytes_of_words, words_for, argument, pointed_size, fill_size, fill_stops, filled, next_word, one_word_less, made_size, made_block, made_object, points_to_pointer, new_value, pointer_result, result_by, result_of, then_unless, with_line, after_line, plain}
use Rattle.hs_meaning.specs.Stops.{first_stop}
use Rattle.hs_meaning.specs.Values.{Value, pointer_in}
use Rattle.hs_table.specs.declared.routine.Routine.{Routine}
use Rattle.hs_tree.specs.Kinds.{number_kind, pointed, size_at}
use Rattle.hs_tree.specs.declared.function.Prototype.{Prototype}
use Rattle.hs_types.specs.TypeTables.{TypeTable}
use Rattle.hs_types.specs.declared.integer.Integer.{Integer}
use Rattle.hs_types.specs.declared.row.TypeId.{TypeId}

module _ (R : Change) where
  -- ---- the target that is filled

  filled_stays : (target : Option Value) (size : ℕ) (machine : Machine) → Stays R machine (filled target size machine)
  filled_stays None size machine = same_stay R machine
  filled_stays (Some value) size machine =
      with_cells_at_stays R (pointer_in value) (map Byte (take size (bytes_of_words (answers (words_for size) machine.words)))) machine

  -- ---- the result

  made_block_stays : (b : Bool) (size : ℕ) (machine : Machine) → Stays R machine (made_block b size machine)
  made_block_stays true size machine = added_stay R machine (record (new_block size) { cells = replicate size (Byte 0) } ∷ [])
  made_block_stays false size machine = same_stay R machine

  made_object_stays : (b : Bool) (size : ℕ) (machine : Machine) → Stays R machine (made_object b size machine)
  made_object_stays true size machine = same_stay R machine
  made_object_stays false size machine = same_stay R machine

  new_value_keeps : (handles : Bool) (size : ℕ) (is_zero : Bool) (machine : Machine) → Keeps R machine (new_value handles size is_zero machine)
  new_value_keeps handles size true machine = same_stay R machine
  new_value_keeps true size false machine = made_block_stays (has_room machine.blocks size) size machine
  new_value_keeps false size false machine = made_object_stays (has_room_for size machine) size machine

  pointer_result_keeps : (types : TypeTable) (size : ℕ) (target : Option TypeId) (is_zero : Bool) (machine : Machine)
      → Keeps R machine (pointer_result types size target is_zero machine)
  pointer_result_keeps types size target is_zero machine =
      either_keeps R machine (points_to_pointer types target) (new_value true (made_size size (pointed_size types target)) is_zero machine)
      (new_value false (made_size size (size_at types target)) is_zero machine)
      (new_value_keeps true (made_size size (pointed_size types target)) is_zero machine)
      (new_value_keeps false (made_size size (size_at types target)) is_zero machine)

  result_keeps : (types : TypeTable) (size : ℕ) (kind : Option Integer) (target : Option TypeId) (machine : Machine)
      → Keeps R machine (result_by types size kind target machine)
  result_keeps types size (Some kind) target machine = same_stay R machine
  result_keeps types size None (Some target) machine =
      keeps_after R machine (one_word_less machine) (pointer_result types size (Some target) (next_word machine.words == 0) (one_word_less machine))
      (same_stay R machine) (pointer_result_keeps types size (Some target) (next_word machine.words == 0) (one_word_less machine))
  result_keeps types size None None machine = same_stay R machine

  -- ---- the routine

  after_line_keeps : (types : TypeTable) (routine : Routine) (prototype : Prototype) (values : List Value) (machine : Machine)
      → Keeps R machine (after_line types routine prototype values machine)
  after_line_keeps types routine prototype values machine = by_size (fill_size types routine.fills prototype.parameters)
    where
      by_size : (size : ℕ) → Keeps R machine (then_unless (first_stop (fill_stops (argument routine.fills values) size machine)) machine
          (result_of types routine.size prototype.result (filled (argument routine.fills values) size machine)))
      by_size size =
          then_unless_keeps R (first_stop (fill_stops (argument routine.fills values) size machine)) machine
          (result_of types routine.size prototype.result (filled (argument routine.fills values) size machine))
          (keeps_after R machine (filled (argument routine.fills values) size machine)
          (result_of types routine.size prototype.result (filled (argument routine.fills values) size machine))
          (filled_stays (argument routine.fills values) size machine)
          (result_keeps types routine.size (number_kind types prototype.result) (pointed types prototype.result)
          (filled (argument routine.fills values) size machine)))

  -- what a plain routine does; a stop after the line leaves the line in the output
  pub plain_keeps : (types : TypeTable) (routine : Routine) (prototype : Prototype) (values : List Value) (machine : Machine)
      → Keeps R machine (plain types routine prototype values machine)
  plain_keeps types routine prototype values machine =
      then_unless_keeps R (first_stop (argument_stops routine.fills values machine)) machine
      (after_line types routine prototype values (with_line (line_of routine.name types prototype.parameters values) machine))
      (keeps_after R machine (with_line (line_of routine.name types prototype.parameters values) machine)
      (after_line types routine prototype values (with_line (line_of routine.name types prototype.parameters values) machine))
      (line_stays R (line_of routine.name types prototype.parameters values) machine)
      (after_line_keeps types routine prototype values (with_line (line_of routine.name types prototype.parameters values) machine)))
