-- What a plain routine gives that is declared to give a handle (own).
--     IsMadeOf        NIL, or the handle of a block that was made
--     plain_made      what it gives
use Rattle.std.proofs.Common.{◌≡◌, ◌⊎◌, inl, inr, ℕ, Bool, true, false, List, [], ◌∷◌, length, Option, Some, None, refl, sym, ap, ◌∙◌, subst, true≢false, ◌+◌, ◌==◌, replicate, if◌then◌else◌, ◌++◌}
use Rattle.hs_facts.specs.Names.{is_pointer_in, points_to_pointer}
use Rattle.hs_heap.specs.Blocks.{Block, new_block, is_disposed}
use Rattle.hs_heap.specs.Memory.{has_room, block_at}
use Rattle.hs_heap.specs.declared.cell.Cell.TheVariants.{Byte}
use Rattle.hs_heap.specs.declared.cell.Pointer.TheVariants.{Nil, Handle}
use Rattle.hs_hiding.specs.Holding.{IsAlive}
use Rattle.hs_hiding.specs.PlainRoutines.{length_filled}
use Rattle.hs_hiding.specs.Roles.{next_there}
use Rattle.hs_meaning.specs.Handles.{handle_if}
use Rattle.hs_meaning.specs.Machine.{Machine, Done, done}
use Rattle.hs_meaning.specs.Plain.{argument, fill_size, fill_stops, filled, one_word_less, made_size, made_block, new_value, result_by, result_of, next_word, pointed_size, then_unless, with_line, line_of, after_line, argument_stops, plain}
use Rattle.hs_meaning.specs.Stops.{first_stop}
use Rattle.hs_meaning.specs.Values.{Value, pointer}
use Rattle.hs_meaning.specs.declared.outcome.Stop.{Stop}
use Rattle.hs_table.specs.declared.routine.Routine.{Routine}
use Rattle.hs_tree.specs.Kinds.{number_kind, pointed, size_at, is_pointer, pointed_of_row, kind_of_row}
use Rattle.hs_tree.specs.declared.function.Prototype.{Prototype}
use Rattle.hs_truth.specs.Values.{same_done}
use Rattle.hs_types.specs.TypeTables.{TypeTable, row_of}
use Rattle.hs_types.specs.declared.integer.Integer.{Integer}
use Rattle.hs_types.specs.declared.row.Row.{Row}
use Rattle.hs_types.specs.declared.row.Row.TheVariants as row
use Rattle.hs_types.specs.declared.row.TypeId.{TypeId}

-- ---- what a plain routine gives

-- NIL, or the handle of the block that it made
abbrev pub IsMadeOf : ℕ → Value → Machine → Type 0
IsMadeOf n v after = (v ≡ pointer Nil) ⊎ ((v ≡ pointer (Handle n)) × IsAlive after n)

-- a new block is not disposed of
pub new_alive : (blocks : List Block) (new : Block) (after : Machine) → is_disposed new.presence ≡ false → after.blocks ≡ blocks ++ new ∷ []
    → IsAlive after (length blocks + 1)
new_alive blocks new after alive is =
    record { block = new; there = ap (λ bs. block_at bs (length blocks + 1)) is ∙ next_there blocks new; alive = alive }

new_made : (size : ℕ) (is_zero : Bool) (machine : Machine) (v : Value) (after : Machine) → new_value true size is_zero machine ≡ done v after
    → IsMadeOf (length machine.blocks + 1) v after
new_made size true machine v after is = inl (sym (same_done (pointer Nil) machine after v is).0)
new_made size false machine v after is = by_room (has_room machine.blocks size) is
  where
    by_room : (z : Bool) → done (handle_if z machine) (made_block z size machine) ≡ done v after → IsMadeOf (length machine.blocks + 1) v after
    by_room false so = inl (sym (same_done (pointer Nil) machine after v so).0)
    by_room true so =
        inr (
          sym (same_done (pointer (Handle (length machine.blocks + 1))) (made_block true size machine) after v so).0,
          new_alive machine.blocks (record (new_block size) { cells = replicate size (Byte 0) }) after refl
              (ap (λ m. m.blocks) (sym (same_done (pointer (Handle (length machine.blocks + 1))) (made_block true size machine) after v so).1)),
        )

-- a type that points to something is no type of numbers
no_number : (row : Option Row) (id : TypeId) → pointed_of_row row ≡ Some id → kind_of_row row ≡ None
no_number None id is = refl
no_number (Some row.Void) id is = absurd cc
no_number (Some (row.Integer i)) id is = absurd cc
no_number (Some (row.Pointer of)) id is = refl
no_number (Some (row.Enumeration n)) id is = absurd cc
no_number (Some (row.Struct n)) id is = absurd cc
no_number (Some (row.Array of count layout)) id is = absurd cc
no_number (Some (row.OpenArray of)) id is = absurd cc
no_number (Some (row.Function result parameters)) id is = absurd cc

result_made : (types : TypeTable) (size : ℕ) (kind : Option Integer) (target : Option TypeId) (machine : Machine) (v : Value) (after : Machine)
    → ((id : TypeId) → target ≡ Some id → kind ≡ None) → is_pointer_in types target ≡ true → result_by types size kind target machine ≡ done v after
    → IsMadeOf (length machine.blocks + 1) v after
result_made types size kind None machine v after none points is = absurd (true≢false (sym points))
result_made types size kind (Some id) machine v after none points is =
    by_kind kind (none id refl) is
  where
    by_test : (z : Bool) → z ≡ true
        → (if z then new_value true (made_size size (pointed_size types (Some id))) (next_word machine.words == 0) (one_word_less machine)
        else new_value false (made_size size (size_at types (Some id))) (next_word machine.words == 0) (one_word_less machine)) ≡ done v after
        → IsMadeOf (length machine.blocks + 1) v after
    by_test true so is = new_made (made_size size (pointed_size types (Some id))) (next_word machine.words == 0) (one_word_less machine) v after is
    by_test false so is = absurd (true≢false (sym so))

    by_kind : (kind : Option Integer) → kind ≡ None → result_by types size kind (Some id) machine ≡ done v after
        → IsMadeOf (length machine.blocks + 1) v after
    by_kind None so is = by_test (is_pointer types id) points is
    by_kind (Some k) so is = absurd cc

-- nothing is given after a stop
unless_done : (why : Option Stop) (machine : Machine) (rest : Done Value) (v : Value) (after : Machine) → then_unless why machine rest ≡ done v after
    → rest ≡ done v after
unless_done None machine rest v after is = is
unless_done (Some why) machine rest v after is = absurd cc

-- a plain routine that is declared to give a handle gives NIL, or the handle of a block that it made
pub plain_made : (types : TypeTable) (its : Routine) (prototype : Prototype) (values : List Value) (machine : Machine) (v : Value) (after : Machine)
    → points_to_pointer types prototype.result ≡ true → plain types its prototype values machine ≡ done v after
    → IsMadeOf (length machine.blocks + 1) v after
plain_made types its prototype values machine v after points is =
    subst (λ k. IsMadeOf (k + 1) v after) (length_filled 0 (argument its.fills values) size lined)
    (result_made types its.size (number_kind types prototype.result) (pointed types prototype.result) (filled (argument its.fills values) size lined) v after
    (λ id so. no_number (row_of types prototype.result) id so) points
    (unless_done (first_stop (fill_stops (argument its.fills values) size lined)) lined
    (result_of types its.size prototype.result (filled (argument its.fills values) size lined)) v after
    (unless_done (first_stop (argument_stops its.fills values machine)) machine (after_line types its prototype values lined) v after is)))
  where
    lined : Machine
    lined = with_line (line_of its.name types prototype.parameters values) machine

    size : ℕ
    size = fill_size types its.fills prototype.parameters
