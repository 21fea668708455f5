-- Plain routines on a heap that never moves.
--     plain_still              all that one does
use Rattle.std.proofs.Common.{ℕ, zero, suc, ◌==◌, Bool, true, false, List, [], ◌∷◌, map, take, replicate, slice_get, Option, Some, None, refl, if◌then◌else◌}
use Rattle.std.specs.List.{AllByRecursion}
use Rattle.hs_heap.specs.Blocks.{size_of, new_block}
use Rattle.hs_heap.specs.Memory.{has_room}
use Rattle.hs_heap.specs.declared.cell.Cell.TheVariants.{Byte}
use Rattle.hs_heap.specs.declared.cell.Pointer.{Pointer}
use Rattle.hs_heap.specs.declared.cell.Pointer.TheVariants.{Nil, Fixed, Handle, Spot}
use Rattle.hs_meaning.specs.Accesses.{with_cells_at}
use Rattle.hs_meaning.specs.Laws.Unmoved.{IsUnmovedPointer, IsUnmovedCell, IsUnmoved, IsStillMachine, IsStillDone}
use Rattle.hs_meaning.specs.Laws.Unmoved.Accesses.{use_stops_fine, with_cells_at_still}
use Rattle.hs_meaning.specs.Laws.Unmoved.Blocks.{size_of_fine, zero_block_unmoved}
use Rattle.hs_meaning.specs.Handles.{handle_stop}
use Rattle.hs_meaning.specs.Laws.Unmoved.Fine.{IsFine, AreFine, if_fine, first_fine, then_unless_still}
use Rattle.hs_meaning.specs.Laws.Unmoved.Handles.{handle_fine, handle_if_unmoved, object_if_unmoved, more_blocks_still, new_object_still}
use Rattle.hs_meaning.specs.Laws.Unmoved.Lists.{IfThere, all_append, all_replicate, all_map, there}
use Rattle.hs_meaning.specs.Laws.Unmoved.Pointers.{current_fine}
use Rattle.hs_meaning.specs.Laws.Unmoved.Values.{pointer_in_unmoved, bytes_unmoved}
use Rattle.hs_meaning.specs.Machine.{Machine, Object, Done, allocated, has_ended, has_room_for}
use Rattle.hs_meaning.specs.Plain.{gone_stop, used_stop, pointer_used, pointers_used, byte_stop, argument_stops, line_of, answers, later_words, bytes_of_words, words_for, argument, pointed_size, fill_size, fill_stops, filled, next_word, one_word_less, made_size, made_block, made_object, points_to_pointer, new_value, pointer_result, result_by, result_of, then_unless, with_line, after_line, plain}
use Rattle.hs_meaning.specs.Stops.{first_stop, stops_if}
use Rattle.hs_meaning.specs.Values.{Value, number, pointer, state, structure, pointer_in}
use Rattle.hs_meaning.specs.declared.outcome.Stop.TheVariants as stop
use Rattle.hs_table.specs.declared.routine.Routine.{Routine}
use Rattle.hs_tree.specs.Kinds.{number_kind, pointed, size_at}
use Rattle.hs_tree.specs.declared.function.Prototype.{Prototype}
use Rattle.hs_types.specs.TypeTables.{TypeTable}
use Rattle.hs_types.specs.declared.integer.Integer.{Integer}
use Rattle.hs_types.specs.declared.row.TypeId.{TypeId}

-- ---- arguments

gone_fine : (its : Option Object) → IsFine (gone_stop its)
gone_fine None = λ is. is
gone_fine (Some its) = if_fine (has_ended its.storage) stop.Gone (λ is. is)

used_fine : (is_filled : Bool) (its : Pointer) (machine : Machine) → IsUnmovedPointer its → IsStillMachine machine
    → IsFine (used_stop is_filled its machine)
used_fine is_filled Nil machine is still = tt
used_fine is_filled (Fixed object at) machine is still = gone_fine (slice_get machine.objects object)
used_fine is_filled (Handle block) machine is still =
    first_fine (handle_stop size_of (Handle block) machine ∷ stops_if is_filled stop.BadPointer ∷ [])
    (handle_fine size_of (Handle block) machine size_of_fine still, (if_fine is_filled stop.BadPointer (λ is. is), tt))
used_fine is_filled (Spot its) machine is still = current_fine (Spot its) machine is still

pointer_used_fine : (is_filled : Bool) (value : Value) (machine : Machine) → IsUnmoved value → IsStillMachine machine
    → IsFine (pointer_used is_filled value machine)
pointer_used_fine is_filled (number bits) machine is still = tt
pointer_used_fine is_filled (pointer its) machine is still = used_fine is_filled its machine is still
pointer_used_fine is_filled (state byte) machine is still = tt
pointer_used_fine is_filled (structure cells) machine is still = tt

pointers_used_fine : (fills place : ℕ) (values : List Value) (machine : Machine) → AllByRecursion IsUnmoved values → IsStillMachine machine
    → AreFine (pointers_used fills place values machine)
pointers_used_fine fills place [] machine are still = tt
pointers_used_fine fills place (value ∷ values) machine are still =
    (pointer_used_fine (place == fills) value machine are.0 still, pointers_used_fine fills (suc place) values machine are.1 still)

byte_fine : (value : Value) → IsFine (byte_stop value)
byte_fine (number bits) = tt
byte_fine (pointer its) = tt
byte_fine (state byte) = λ is. is
byte_fine (structure cells) = tt

arguments_fine : (fills : ℕ) (values : List Value) (machine : Machine) → AllByRecursion IsUnmoved values → IsStillMachine machine
    → AreFine (argument_stops fills values machine)
arguments_fine fills values machine are still =
    all_append IsFine (pointers_used fills 1 values machine) (map byte_stop values) (pointers_used_fine fills 1 values machine are still)
    (all_map IsFine byte_stop byte_fine values)

-- ---- the target that is filled

argument_unmoved : (place : ℕ) (values : List Value) → AllByRecursion IsUnmoved values → IfThere IsUnmoved (argument place values)
argument_unmoved zero values are = tt
argument_unmoved (suc place) values are = there IsUnmoved values place are

fill_fine : (target : Option Value) (size : ℕ) (machine : Machine) → IfThere IsUnmoved target → IsStillMachine machine
    → AreFine (fill_stops target size machine)
fill_fine None size machine is still = tt
fill_fine (Some value) size machine is still = use_stops_fine (pointer_in value) size machine (pointer_in_unmoved value is) still

with_words_still : (words : List ℕ) (machine : Machine) → IsStillMachine machine → IsStillMachine (record machine { words = words })
with_words_still words machine still = record { blocks = still.blocks; objects = still.objects; globals = still.globals; locals = still.locals }

filled_still : (target : Option Value) (size : ℕ) (machine : Machine) → IsStillMachine machine → IsStillMachine (filled target size machine)
filled_still None size machine still = still
filled_still (Some value) size machine still =
    with_words_still (later_words (words_for size) machine.words)
    (with_cells_at (pointer_in value) (map Byte (take size (bytes_of_words (answers (words_for size) machine.words)))) machine)
    (with_cells_at_still (pointer_in value) (map Byte (take size (bytes_of_words (answers (words_for size) machine.words)))) machine
    (bytes_unmoved (take size (bytes_of_words (answers (words_for size) machine.words)))) still)

-- ---- the result

one_word_less_still : (machine : Machine) → IsStillMachine machine → IsStillMachine (one_word_less machine)
one_word_less_still machine still = with_words_still (later_words 1 machine.words) machine still

made_block_still : (b : Bool) (size : ℕ) (machine : Machine) → IsStillMachine machine → IsStillMachine (made_block b size machine)
made_block_still true size machine still =
    more_blocks_still (record (new_block size) { cells = replicate size (Byte 0) }) machine (zero_block_unmoved size) still
made_block_still false size machine still = still

made_object_still : (b : Bool) (size : ℕ) (machine : Machine) → IsStillMachine machine → IsStillMachine (made_object b size machine)
made_object_still true size machine still =
    new_object_still allocated (replicate size (Byte 0)) machine (all_replicate IsUnmovedCell size (Byte 0) tt) still
made_object_still false size machine still = still

new_value_still : (handles : Bool) (size : ℕ) (is_zero : Bool) (machine : Machine) → IsStillMachine machine
    → IsStillDone IsUnmoved (new_value handles size is_zero machine)
new_value_still handles size true machine still = (refl, still)
new_value_still true size false machine still =
    (handle_if_unmoved (has_room machine.blocks size) machine, made_block_still (has_room machine.blocks size) size machine still)
new_value_still false size false machine still =
    (object_if_unmoved (has_room_for size machine) machine, made_object_still (has_room_for size machine) size machine still)

done_either : (b : Bool) (first second : Done Value) → IsStillDone IsUnmoved first → IsStillDone IsUnmoved second
    → IsStillDone IsUnmoved (if b then first else second)
done_either true first second is so = is
done_either false first second is so = so

pointer_result_still : (types : TypeTable) (size : ℕ) (target : Option TypeId) (is_zero : Bool) (machine : Machine) → IsStillMachine machine
    → IsStillDone IsUnmoved (pointer_result types size target is_zero machine)
pointer_result_still types size target is_zero machine still =
    done_either (points_to_pointer types target) (new_value true (made_size size (pointed_size types target)) is_zero machine)
    (new_value false (made_size size (size_at types target)) is_zero machine)
    (new_value_still true (made_size size (pointed_size types target)) is_zero machine still)
    (new_value_still false (made_size size (size_at types target)) is_zero machine still)

result_still : (types : TypeTable) (size : ℕ) (kind : Option Integer) (target : Option TypeId) (machine : Machine) → IsStillMachine machine
    → IsStillDone IsUnmoved (result_by types size kind target machine)
result_still types size (Some kind) target machine still = (tt, one_word_less_still machine still)
result_still types size None (Some target) machine still =
    pointer_result_still types size (Some target) (next_word machine.words == 0) (one_word_less machine) (one_word_less_still machine still)
result_still types size None None machine still = (tt, still)

-- ---- the routine

line_still : (line : List ℕ) (machine : Machine) → IsStillMachine machine → IsStillMachine (with_line line machine)
line_still line machine still = record { blocks = still.blocks; objects = still.objects; globals = still.globals; locals = still.locals }

after_line_still : (types : TypeTable) (routine : Routine) (prototype : Prototype) (values : List Value) (machine : Machine)
    → AllByRecursion IsUnmoved values → IsStillMachine machine → IsStillDone IsUnmoved (after_line types routine prototype values machine)
after_line_still types routine prototype values machine are still = by_size (fill_size types routine.fills prototype.parameters)
  where
    by_size : (size : ℕ) → IsStillDone IsUnmoved (then_unless (first_stop (fill_stops (argument routine.fills values) size machine)) machine
        (result_of types routine.size prototype.result (filled (argument routine.fills values) size machine)))
    by_size size =
        then_unless_still IsUnmoved (first_stop (fill_stops (argument routine.fills values) size machine)) machine
        (result_of types routine.size prototype.result (filled (argument routine.fills values) size machine))
        (first_fine (fill_stops (argument routine.fills values) size machine)
        (fill_fine (argument routine.fills values) size machine (argument_unmoved routine.fills values are) still))
        (result_still types routine.size (number_kind types prototype.result) (pointed types prototype.result)
        (filled (argument routine.fills values) size machine) (filled_still (argument routine.fills values) size machine still))

-- what a plain routine does
pub plain_still : (types : TypeTable) (routine : Routine) (prototype : Prototype) (values : List Value) (machine : Machine)
    → AllByRecursion IsUnmoved values → IsStillMachine machine → IsStillDone IsUnmoved (plain types routine prototype values machine)
plain_still types routine prototype values machine are still =
    then_unless_still IsUnmoved (first_stop (argument_stops routine.fills values machine)) machine
    (after_line types routine prototype values (with_line (line_of routine.name types prototype.parameters values) machine))
    (first_fine (argument_stops routine.fills values machine) (arguments_fine routine.fills values machine are still))
    (after_line_still types routine prototype values (with_line (line_of routine.name types prototype.parameters values) machine) are
    (line_still (line_of routine.name types prototype.parameters values) machine still))
