-- A block whose handle is nowhere gets nowhere by a plain routine, unless the routine makes the block (own).
--     plain_hands      what the routine gives
use Rattle.std.proofs.Common.{◌≡◌, ℕ, ◌+◌, ◌-◌, ◌==◌, Bool, true, false, List, [], ◌∷◌, length, map, take, replicate, slice_get, Option, Some, None, refl, ap, ◌∙◌, if◌then◌else◌}
use Rattle.hs_heap.specs.Blocks.{Block, new_block}
use Rattle.hs_heap.specs.Memory.{block_at, has_room}
use Rattle.hs_heap.specs.declared.cell.Cell.{Cell}
use Rattle.hs_heap.specs.declared.cell.Cell.TheVariants.{Byte}
use Rattle.hs_heap.specs.declared.cell.Pointer.{Pointer}
use Rattle.hs_heap.specs.declared.cell.Pointer.TheVariants.{Nil, Fixed, Handle, Spot}
use Rattle.hs_hiding.specs.Holding.{Cells, Gets, CellLacks, Lacking, Hands}
use Rattle.hs_hiding.specs.Lists.{all_same}
use Rattle.hs_hiding.specs.Roles.{object_added, made_is, object_value, block_added}
use Rattle.hs_hiding.specs.Storing.{put_lacks}
use Rattle.hs_meaning.specs.Accesses.{with_cells_at}
use Rattle.hs_meaning.specs.Handles.{handle_if}
use Rattle.hs_meaning.specs.Machine.{Machine, Object, Done, done, stopped, has_room_for}
use Rattle.hs_meaning.specs.Plain.{argument, answers, words_for, bytes_of_words, fill_size, fill_stops, filled, one_word_less, made_size, made_block, made_object, points_to_pointer, new_value, pointer_result, result_by, result_of, next_word, pointed_size, then_unless, with_line, line_of, after_line, argument_stops, plain}
use Rattle.hs_meaning.specs.Stops.{first_stop}
use Rattle.hs_meaning.specs.Values.{Value, pointer_in}
use Rattle.hs_meaning.specs.declared.outcome.Stop.{Stop}
use Rattle.hs_table.specs.declared.routine.Routine.{Routine}
use Rattle.hs_tree.specs.Kinds.{number_kind, pointed, size_at}
use Rattle.hs_tree.specs.declared.function.Prototype.{Prototype}
use Rattle.hs_types.specs.TypeTables.{TypeTable}
use Rattle.hs_types.specs.declared.integer.Integer.{Integer}
use Rattle.hs_types.specs.declared.row.TypeId.{TypeId}

module _ (n : ℕ) where
  filled_lacks : (target : Option Value) (size : ℕ) (machine : Machine) → Lacking n machine → Lacking n (filled target size machine)
  filled_lacks None size machine are = are
  filled_lacks (Some v) size machine are =
      on (put_lacks n (pointer_in v) (map Byte (take size (bytes_of_words (answers (words_for size) machine.words)))) machine
      (bytes_lack (take size (bytes_of_words (answers (words_for size) machine.words)))) are)
    where
      bytes_lack : (bytes : List ℕ) → Cells n (map Byte bytes)
      bytes_lack [] = tt
      bytes_lack (b ∷ bytes) = (tt, bytes_lack bytes)

      on : Lacking n (with_cells_at (pointer_in v) (map Byte (take size (bytes_of_words (answers (words_for size) machine.words)))) machine)
          → Lacking n (filled (Some v) size machine)
      on its = record { globals = its.globals; locals = its.locals; blocks = its.blocks; objects = its.objects }

  made_hands : (z : Bool) (size : ℕ) (machine : Machine) → Lacking n machine → Gets n machine (handle_if z machine) (made_block z size machine)
  made_hands true size machine are = (
    (λ never. made_is n machine.blocks (record (new_block size) { cells = replicate size (Byte 0) }) (made_block true size machine) refl never),
    block_added n machine (record (new_block size) { cells = replicate size (Byte 0) }) (all_same (CellLacks n) size (Byte 0) tt) are,
  )
  made_hands false size machine are = ((λ never. tt), are)

  made_object_lacks : (z : Bool) (size : ℕ) (machine : Machine) → Lacking n machine → Lacking n (made_object z size machine)
  made_object_lacks true size machine are =
      object_added n machine (record { cells = replicate size (Byte 0); storage = Rattle.hs_meaning.specs.Machine.allocated })
      (all_same (CellLacks n) size (Byte 0) tt) are
  made_object_lacks false size machine are = are

  value_hands : (handles : Bool) (size : ℕ) (is_zero : Bool) (machine : Machine) → Lacking n machine → Hands n machine (new_value handles size is_zero machine)
  value_hands handles size true machine are = ((λ never. tt), are)
  value_hands true size false machine are = made_hands (has_room machine.blocks size) size machine are
  value_hands false size false machine are =
      ((λ never. object_value n (has_room_for size machine) machine), made_object_lacks (has_room_for size machine) size machine are)

  pointer_hands : (types : TypeTable) (size : ℕ) (target : Option TypeId) (is_zero : Bool) (machine : Machine) → Lacking n machine
      → Hands n machine (pointer_result types size target is_zero machine)
  pointer_hands types size target is_zero machine are = by_test (points_to_pointer types target)
    where
      by_test : (z : Bool)
          → Hands n machine (if z then new_value true (made_size size (pointed_size types target)) is_zero machine
          else new_value false (made_size size (size_at types target)) is_zero machine)
      by_test true = value_hands true (made_size size (pointed_size types target)) is_zero machine are
      by_test false = value_hands false (made_size size (size_at types target)) is_zero machine are

  less_lacks : (machine : Machine) → Lacking n machine → Lacking n (one_word_less machine)
  less_lacks machine are = record { globals = are.globals; locals = are.locals; blocks = are.blocks; objects = are.objects }

  result_hands : (types : TypeTable) (size : ℕ) (kind : Option Integer) (target : Option TypeId) (machine : Machine) → Lacking n machine
      → Hands n machine (result_by types size kind target machine)
  result_hands types size (Some kind) target machine are = ((λ never. tt), less_lacks machine are)
  result_hands types size None (Some target) machine are =
      pointer_hands types size (Some target) (next_word machine.words == 0) (one_word_less machine) (less_lacks machine are)
  result_hands types size None None machine are = ((λ never. tt), are)

  -- the number of blocks is as it was
  length_put : (its : Pointer) (cells : List Cell) (machine : Machine) → length (with_cells_at its cells machine).blocks ≡ length machine.blocks
  length_put Nil cells machine = refl
  length_put (Handle k) cells machine = refl
  length_put (Fixed object at) cells machine = by_object (slice_get machine.objects object)
    where
      by_object : (found : Option Object) → length (Rattle.hs_meaning.specs.Accesses.put_in_object object at cells machine found).blocks ≡ length machine.blocks
      by_object None = refl
      by_object (Some o) = refl
  length_put (Spot s) cells machine = by_block (block_at machine.blocks s.block)
    where
      by_block : (found : Option Block) → length (Rattle.hs_meaning.specs.Accesses.put_in_block s cells machine found).blocks ≡ length machine.blocks
      by_block None = refl
      by_block (Some b) =
          Rattle.hs_base.specs.Entries.set_length machine.blocks (s.block - 1)
          (record b { cells = Rattle.hs_meaning.specs.Accesses.with_cells_from s.offset cells b.cells })

  pub length_filled : (target : Option Value) (size : ℕ) (machine : Machine) → length (filled target size machine).blocks ≡ length machine.blocks
  length_filled None size machine = refl
  length_filled (Some v) size machine = length_put (pointer_in v) (map Byte (take size (bytes_of_words (answers (words_for size) machine.words)))) machine

  -- seen from a machine with as many blocks
  as_many : (before machine : Machine) (its : Done Value) → length machine.blocks ≡ length before.blocks → Hands n machine its → Hands n before its
  as_many before machine (done it after) many hands = ((λ never. hands.0 (λ so. never (so ∙ ap (λ k. k + 1) many))), hands.1)
  as_many before machine (stopped why after) many hands = tt

  then_hands : (why : Option Stop) (machine : Machine) (rest : Done Value) → Hands n machine rest → Hands n machine (then_unless why machine rest)
  then_hands None machine rest is = is
  then_hands (Some why) machine rest is = tt

  line_hands : (types : TypeTable) (its : Routine) (prototype : Prototype) (values : List Value) (machine : Machine) → Lacking n machine
      → Hands n machine (after_line types its prototype values machine)
  line_hands types its prototype values machine are = by_size (fill_size types its.fills prototype.parameters)
    where
      by_size : (size : ℕ) → Hands n machine (then_unless (first_stop (fill_stops (argument its.fills values) size machine)) machine
          (result_of types its.size prototype.result (filled (argument its.fills values) size machine)))
      by_size size =
          then_hands (first_stop (fill_stops (argument its.fills values) size machine)) machine
          (result_of types its.size prototype.result (filled (argument its.fills values) size machine))
          (as_many machine (filled (argument its.fills values) size machine)
          (result_of types its.size prototype.result (filled (argument its.fills values) size machine))
          (length_filled (argument its.fills values) size machine)
          (result_hands types its.size (number_kind types prototype.result) (pointed types prototype.result) (filled (argument its.fills values) size machine)
          (filled_lacks (argument its.fills values) size machine are)))

  pub plain_hands : (types : TypeTable) (its : Routine) (prototype : Prototype) (values : List Value) (machine : Machine) → Lacking n machine
      → Hands n machine (plain types its prototype values machine)
  plain_hands types its prototype values machine are =
      then_hands (first_stop (argument_stops its.fills values machine)) machine
      (after_line types its prototype values (with_line (line_of its.name types prototype.parameters values) machine))
      (as_many machine (with_line (line_of its.name types prototype.parameters values) machine)
      (after_line types its prototype values (with_line (line_of its.name types prototype.parameters values) machine)) refl
      (line_hands types its prototype values (with_line (line_of its.name types prototype.parameters values) machine)
      (record { globals = are.globals; locals = are.locals; blocks = are.blocks; objects = are.objects })))
