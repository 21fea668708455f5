-- Plain routines on the still machine. They use their arguments, of which one may have a target that is filled.
--     plain_still
use Rattle.std.proofs.Common.{◌≡◌, ℕ, zero, suc, ◌==◌, Bool, true, false, List, [], ◌∷◌, ◌++◌, map, take, replicate, slice_get, Option, Some, None, option_map, refl, sym, ap, ◌∙◌, if◌then◌else◌}
use Rattle.std.proofs.lemmas.Option.{slice_get-map}
use Rattle.hs_heap.specs.Blocks.{Block, size_of, new_block}
use Rattle.hs_heap.specs.Memory.{has_room}
use Rattle.hs_heap.specs.declared.cell.Cell.{Cell}
use Rattle.hs_heap.specs.declared.cell.Cell.TheVariants.{Byte}
use Rattle.hs_heap.specs.declared.cell.Pointer.{Pointer}
use Rattle.hs_heap.specs.declared.cell.Pointer.TheVariants.{Nil, Fixed, Handle, Spot}
use Rattle.hs_meaning.specs.Accesses.{with_cells_at}
use Rattle.hs_meaning.specs.Handles.{handle_if, object_if}
use Rattle.hs_meaning.specs.Machine.{Machine, Object, Done, done, allocated, has_room_for, new_object, with_blocks}
use Rattle.hs_meaning.specs.Plain.{gone_stop, used_stop, pointer_used, pointers_used, byte_stop, argument_stops, word_of, words_of, line_of, answers, later_words, bytes_of_words, words_for, argument, fill_size, fill_stops, filled, next_word, one_word_less, made_size, made_block, made_object, points_to_pointer, pointed_size, new_value, pointer_result, result_by, result_of, then_unless, with_line, after_line, plain}
use Rattle.hs_meaning.specs.Stops.{stops_if, first_stop}
use Rattle.hs_meaning.specs.Values.{Value, number, pointer, state, structure, pointer_in, unmoved}
use Rattle.hs_meaning.specs.declared.outcome.Stop.{Stop}
use Rattle.hs_meaning.specs.declared.outcome.Stop.TheVariants as stop
use Rattle.hs_still.specs.Accesses.{with_cells_at_still}
use Rattle.hs_still.specs.Blocks.{same_number, size_of_still}
use Rattle.hs_still.specs.Cells.{pointer_still, bytes_still}
use Rattle.hs_still.specs.Handles.{handle_stop_still, has_room_still, has_room_for_still, handle_if_still, object_if_still, added_block_still, new_object_still}
use Rattle.hs_still.specs.Machines.{still_cells, still_value, still_block, still_object, still_machine, still_done}
use Rattle.hs_still.specs.Pointers.{current_stop_still}
use Rattle.hs_still.specs.Tests.{AllUsed}
use Rattle.hs_still.specs.Uses.{Current, Used, use_stops_still}
use Rattle.hs_table.specs.declared.routine.Routine.{Routine}
use Rattle.hs_tree.specs.Kinds.{number_kind, pointed, size_at}
use Rattle.hs_tree.specs.declared.function.Prototype.{Prototype}
use Rattle.hs_types.specs.TypeTables.{TypeTable}
use Rattle.hs_types.specs.declared.integer.Integer.{Integer}
use Rattle.hs_types.specs.declared.row.TypeId.{TypeId}

-- ---- arguments

gone_stop_still : (b : Option Object) → gone_stop (option_map still_object b) ≡ gone_stop b
gone_stop_still None = refl
gone_stop_still (Some its) = refl

used_stop_still : (is_filled : Bool) (its : Pointer) (machine : Machine) → Used its machine
    → used_stop is_filled (unmoved its) (still_machine machine) ≡ used_stop is_filled its machine
used_stop_still is_filled Nil machine used = refl
used_stop_still is_filled (Fixed object at) machine used =
    ap gone_stop (slice_get-map still_object machine.objects object) ∙ gone_stop_still (slice_get machine.objects object)
used_stop_still is_filled (Handle block) machine used =
    ap (λ why. first_stop (why ∷ stops_if is_filled stop.BadPointer ∷ []))
    (handle_stop_still same_number size_of size_of_still (Handle block) machine used.1)
used_stop_still is_filled (Spot its) machine used = current_stop_still (Spot its) machine used.0

pointer_used_still : (is_filled : Bool) (value : Value) (machine : Machine) → Used (pointer_in value) machine
    → pointer_used is_filled (still_value value) (still_machine machine) ≡ pointer_used is_filled value machine
pointer_used_still is_filled (number bits) machine used = refl
pointer_used_still is_filled (pointer its) machine used = used_stop_still is_filled its machine used
pointer_used_still is_filled (state byte) machine used = refl
pointer_used_still is_filled (structure cells) machine used = refl

pointers_used_still : (fills place : ℕ) (values : List Value) (machine : Machine) → AllUsed values machine
    → pointers_used fills place (map still_value values) (still_machine machine) ≡ pointers_used fills place values machine
pointers_used_still fills place [] machine used = refl
pointers_used_still fills place (value ∷ values) machine used =
    ap (λ why. why ∷ pointers_used fills (suc place) (map still_value values) (still_machine machine))
    (pointer_used_still (place == fills) value machine used.0)
    ∙ ap (λ ss. pointer_used (place == fills) value machine ∷ ss) (pointers_used_still fills (suc place) values machine used.1)

byte_stop_still : (value : Value) → byte_stop (still_value value) ≡ byte_stop value
byte_stop_still (number bits) = refl
byte_stop_still (pointer its) = refl
byte_stop_still (state byte) = refl
byte_stop_still (structure cells) = refl

byte_stops_still : (values : List Value) → map byte_stop (map still_value values) ≡ map byte_stop values
byte_stops_still [] = refl
byte_stops_still (value ∷ values) = rw (byte_stop_still value, byte_stops_still values) refl

argument_stops_still : (fills : ℕ) (values : List Value) (machine : Machine) → AllUsed values machine
    → argument_stops fills (map still_value values) (still_machine machine) ≡ argument_stops fills values machine
argument_stops_still fills values machine used =
    ap (λ ss. ss ++ map byte_stop (map still_value values)) (pointers_used_still fills 1 values machine used)
    ∙ ap (λ ss. pointers_used fills 1 values machine ++ ss) (byte_stops_still values)

-- ---- the line

word_still : (types : TypeTable) (id : TypeId) (value : Value) → word_of types id (still_value value) ≡ word_of types id value
word_still types id (number bits) = refl
word_still types id (pointer its) = refl
word_still types id (state byte) = refl
word_still types id (structure cells) = refl

words_still : (types : TypeTable) (ids : List TypeId) (values : List Value) → words_of types ids (map still_value values) ≡ words_of types ids values
words_still types [] values = refl
words_still types (id ∷ ids) [] = refl
words_still types (id ∷ ids) (value ∷ values) =
    ap (λ word. word ++ words_of types ids (map still_value values)) (word_still types id value)
    ∙ ap (λ rest. word_of types id value ++ rest) (words_still types ids values)

-- ---- the target that is filled

-- a target is used, if there is one
abbrev FillUsed : Option Value → Machine → Type 0
FillUsed None machine = Unit {0}
FillUsed (Some value) machine = Current (pointer_in value) machine

entry_used : (values : List Value) (place : ℕ) (machine : Machine) → AllUsed values machine → FillUsed (slice_get values place) machine
entry_used [] place machine used = tt
entry_used (value ∷ values) zero machine used = used.0.0
entry_used (value ∷ values) (suc place) machine used = entry_used values place machine used.1

argument_used : (fills : ℕ) (values : List Value) (machine : Machine) → AllUsed values machine → FillUsed (argument fills values) machine
argument_used zero values machine used = tt
argument_used (suc place) values machine used = entry_used values place machine used

current_line : (its : Pointer) (line : List ℕ) (machine : Machine) → Current its machine → Current its (with_line line machine)
current_line Nil line machine used = tt
current_line (Fixed object at) line machine used = tt
current_line (Handle block) line machine used = tt
current_line (Spot its) line machine used = used

fill_line : (target : Option Value) (line : List ℕ) (machine : Machine) → FillUsed target machine → FillUsed target (with_line line machine)
fill_line None line machine used = tt
fill_line (Some value) line machine used = current_line (pointer_in value) line machine used

argument_still : (fills : ℕ) (values : List Value) → argument fills (map still_value values) ≡ option_map still_value (argument fills values)
argument_still zero values = refl
argument_still (suc place) values = slice_get-map still_value values place

fill_stops_still : (target : Option Value) (size : ℕ) (machine : Machine) → FillUsed target machine
    → fill_stops (option_map still_value target) size (still_machine machine) ≡ fill_stops target size machine
fill_stops_still None size machine used = refl
fill_stops_still (Some value) size machine used = rw (pointer_still value) (use_stops_still (pointer_in value) size machine used)

-- the bytes that fill a target
abbrev filling : ℕ → List ℕ → List ℕ
filling size words = take size (bytes_of_words (answers (words_for size) words))

-- with other answer words to come
abbrev with_words : List ℕ → Machine → Machine
with_words words machine = record machine { words = words }

filled_still : (target : Option Value) (size : ℕ) (machine : Machine)
    → filled (option_map still_value target) size (still_machine machine) ≡ still_machine (filled target size machine)
filled_still None size machine = refl
filled_still (Some value) size machine =
    ap (λ p. with_words (later_words (words_for size) machine.words)
    (with_cells_at p (map Byte (filling size machine.words)) (still_machine machine))) (pointer_still value)
    ∙ ap (λ cells. with_words (later_words (words_for size) machine.words) (with_cells_at (unmoved (pointer_in value)) cells (still_machine machine)))
    (sym (bytes_still (filling size machine.words)))
    ∙ ap (with_words (later_words (words_for size) machine.words))
    (with_cells_at_still (pointer_in value) (map Byte (filling size machine.words)) machine)

-- ---- the result

zero_cells : (n : ℕ) → still_cells (replicate n (Byte 0)) ≡ replicate n (Byte 0)
zero_cells zero = refl
zero_cells (suc n) = ap (λ cells. Byte 0 ∷ cells) (zero_cells n)

-- a block of bytes that are 0
abbrev block_with : ℕ → List Cell → Block
block_with size cells = record (new_block size) { cells = cells }

made_block_still : (b : Bool) (size : ℕ) (machine : Machine) → made_block b size (still_machine machine) ≡ still_machine (made_block b size machine)
made_block_still true size machine =
    ap (λ cells. with_blocks (map still_block machine.blocks ++ block_with size cells ∷ []) (still_machine machine)) (sym (zero_cells size))
    ∙ added_block_still (block_with size (replicate size (Byte 0))) machine
made_block_still false size machine = refl

made_object_still : (b : Bool) (size : ℕ) (machine : Machine) → made_object b size (still_machine machine) ≡ still_machine (made_object b size machine)
made_object_still true size machine =
    ap (λ cells. new_object allocated cells (still_machine machine)) (sym (zero_cells size))
    ∙ new_object_still allocated (replicate size (Byte 0)) machine
made_object_still false size machine = refl

new_value_still : (handles : Bool) (size : ℕ) (is_zero : Bool) (machine : Machine)
    → new_value handles size is_zero (still_machine machine) ≡ still_done still_value (new_value handles size is_zero machine)
new_value_still handles size true machine = refl
new_value_still true size false machine =
    ap (λ b. done (handle_if b (still_machine machine)) (made_block b size (still_machine machine))) (has_room_still machine.blocks size)
    ∙ ap (λ v. done v (made_block (has_room machine.blocks size) size (still_machine machine))) (handle_if_still (has_room machine.blocks size) machine)
    ∙ ap (done (still_value (handle_if (has_room machine.blocks size) machine))) (made_block_still (has_room machine.blocks size) size machine)
new_value_still false size false machine =
    ap (λ b. done (object_if b (still_machine machine)) (made_object b size (still_machine machine))) (has_room_for_still size machine)
    ∙ ap (λ v. done v (made_object (has_room_for size machine) size (still_machine machine))) (object_if_still (has_room_for size machine) machine)
    ∙ ap (done (still_value (object_if (has_room_for size machine) machine))) (made_object_still (has_room_for size machine) size machine)

pointer_result_still : (types : TypeTable) (size : ℕ) (target : Option TypeId) (is_zero : Bool) (machine : Machine)
    → pointer_result types size target is_zero (still_machine machine) ≡ still_done still_value (pointer_result types size target is_zero machine)
pointer_result_still types size target is_zero machine = by_test (points_to_pointer types target)
  where
    by_test : (z : Bool)
        → (if z then new_value true (made_size size (pointed_size types target)) is_zero (still_machine machine)
        else new_value false (made_size size (size_at types target)) is_zero (still_machine machine))
        ≡ still_done still_value (if z then new_value true (made_size size (pointed_size types target)) is_zero machine
        else new_value false (made_size size (size_at types target)) is_zero machine)
    by_test true = new_value_still true (made_size size (pointed_size types target)) is_zero machine
    by_test false = new_value_still false (made_size size (size_at types target)) is_zero machine

result_by_still : (types : TypeTable) (size : ℕ) (kind : Option Integer) (target : Option TypeId) (machine : Machine)
    → result_by types size kind target (still_machine machine) ≡ still_done still_value (result_by types size kind target machine)
result_by_still types size (Some kind) target machine = refl
result_by_still types size None (Some target) machine =
    pointer_result_still types size (Some target) (next_word machine.words == 0) (one_word_less machine)
result_by_still types size None None machine = refl

-- ---- the routine

-- what follows, unless there is a stop
pub then_unless_still : {A : Type 0} → (f : A → A) (why : Option Stop) (machine : Machine) (rest : Done A)
    → then_unless why (still_machine machine) (still_done f rest) ≡ still_done f (then_unless why machine rest)
then_unless_still f None machine rest = refl
then_unless_still f (Some why) machine rest = refl

module _ (types : TypeTable) (routine : Routine) (prototype : Prototype) (values : List Value) where
  after_target : (target : Option Value) (size : ℕ) (machine : Machine) → FillUsed target machine
      → then_unless (first_stop (fill_stops (option_map still_value target) size (still_machine machine))) (still_machine machine)
      (result_of types routine.size prototype.result (filled (option_map still_value target) size (still_machine machine)))
      ≡ still_done still_value (then_unless (first_stop (fill_stops target size machine)) machine
      (result_of types routine.size prototype.result (filled target size machine)))
  after_target target size machine used =
      ap (λ ss. then_unless (first_stop ss) (still_machine machine)
      (result_of types routine.size prototype.result (filled (option_map still_value target) size (still_machine machine))))
      (fill_stops_still target size machine used)
      ∙ ap (λ m. then_unless (first_stop (fill_stops target size machine)) (still_machine machine) (result_of types routine.size prototype.result m))
      (filled_still target size machine)
      ∙ ap (then_unless (first_stop (fill_stops target size machine)) (still_machine machine))
      (result_by_still types routine.size (number_kind types prototype.result) (pointed types prototype.result) (filled target size machine))
      ∙ then_unless_still still_value (first_stop (fill_stops target size machine)) machine
      (result_of types routine.size prototype.result (filled target size machine))

  after_line_still : (machine : Machine) → FillUsed (argument routine.fills values) machine
      → after_line types routine prototype (map still_value values) (still_machine machine)
      ≡ still_done still_value (after_line types routine prototype values machine)
  after_line_still machine used =
      ap (λ target. then_unless (first_stop (fill_stops target (fill_size types routine.fills prototype.parameters) (still_machine machine)))
      (still_machine machine) (result_of types routine.size prototype.result
      (filled target (fill_size types routine.fills prototype.parameters) (still_machine machine)))) (argument_still routine.fills values)
      ∙ after_target (argument routine.fills values) (fill_size types routine.fills prototype.parameters) machine used

  -- a plain routine
  pub plain_still : (machine : Machine) → AllUsed values machine
      → plain types routine prototype (map still_value values) (still_machine machine)
      ≡ still_done still_value (plain types routine prototype values machine)
  plain_still machine used =
      ap (λ ss. then_unless (first_stop ss) (still_machine machine) (after_line types routine prototype (map still_value values)
      (with_line (line_of routine.name types prototype.parameters (map still_value values)) (still_machine machine))))
      (argument_stops_still routine.fills values machine used)
      ∙ ap (λ words. then_unless (first_stop (argument_stops routine.fills values machine)) (still_machine machine)
      (after_line types routine prototype (map still_value values) (with_line (routine.name ++ words ++ 10 ∷ []) (still_machine machine))))
      (words_still types prototype.parameters values)
      ∙ ap (then_unless (first_stop (argument_stops routine.fills values machine)) (still_machine machine))
      (after_line_still (with_line (line_of routine.name types prototype.parameters values) machine)
      (fill_line (argument routine.fills values) (line_of routine.name types prototype.parameters values) machine
      (argument_used routine.fills values machine used)))
      ∙ then_unless_still still_value (first_stop (argument_stops routine.fills values machine)) machine
      (after_line types routine prototype values (with_line (line_of routine.name types prototype.parameters values) machine))
