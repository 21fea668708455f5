-- Plain routines (own): what is done by any routine that has no other role.
-- A plain routine first uses its pointers, in order, and then its numbers. It adds a line to the output: its name, and each number in decimal.
-- Then it fills the target of one argument with answer words, if the table says so, and gives the next answer word as its result. Past the end
-- of the input each word is 0. It keeps no pointer.
--     argument_stops fills place values machine     why its arguments are not used; `place` is the number of the first, from 1
--     line_of name types values                     the line
--     answers count words, later_words count words  the next answer words, and those after them
--     fill_stops, filled                            the target that it fills
--     made_value, made_machine                      its result
--     plain routine prototype values machine        all of this
use Rattle.std.specs.Fmt.{decimal, signed_decimal}
use Rattle.std.specs.Prelude.{ℕ, zero, suc, ◌+◌, ◌/◌, ◌==◌, Bool, true, false, List, [], ◌∷◌, ◌++◌, map, take, replicate, slice_get, Option, Some, None, if◌then◌else◌}
use Rattle.hs_heap.specs.Blocks.{size_of, new_block}
use Rattle.hs_heap.specs.Memory.{has_room}
use Rattle.hs_heap.specs.declared.cell.Cell.TheVariants.{Byte}
use Rattle.hs_heap.specs.declared.cell.Pointer.{Pointer}
use Rattle.hs_heap.specs.declared.cell.Pointer.TheVariants.{Nil, Fixed, Handle, Spot}
use Rattle.hs_meaning.specs.Accesses.{use_stops, with_cells_at}
use Rattle.hs_meaning.specs.Handles.{handle_stop, handle_if, object_if}
use Rattle.hs_meaning.specs.Machine.{Machine, Object, Done, done, stopped, allocated, has_ended, has_room_for, new_object, with_blocks}
use Rattle.hs_meaning.specs.Numbers.{signed}
use Rattle.hs_meaning.specs.Pointers.{current_stop}
use Rattle.hs_meaning.specs.Stops.{Stops, stops_if, first_stop}
use Rattle.hs_meaning.specs.Values.{Value, number, pointer, state, structure, pointer_in, bytes_of}
use Rattle.hs_meaning.specs.declared.outcome.Stop.{Stop}
use Rattle.hs_meaning.specs.declared.outcome.Stop.TheVariants as stop
use Rattle.hs_table.specs.declared.routine.Routine.{Routine}
use Rattle.hs_tree.specs.Kinds.{number_kind, is_pointer, pointed, size_at}
use Rattle.hs_tree.specs.declared.function.Prototype.{Prototype}
use Rattle.hs_types.specs.Integers.{is_signed, converted}
use Rattle.hs_types.specs.TypeTables.{TypeTable}
use Rattle.hs_types.specs.declared.integer.Integer.{Integer}
use Rattle.hs_types.specs.declared.row.TypeId.{TypeId}

-- ---- arguments

-- an object is there and has not ended
abbrev pub gone_stop : Option Object → Option Stop
gone_stop None = Some stop.BadPointer
gone_stop (Some its) = stops_if (has_ended its.storage) stop.Gone

-- A pointer that is used, but for its range. A handle is tested for its block as any other argument is; then, what is filled is no handle.
abbrev pub used_stop : Bool → Pointer → Machine → Option Stop
used_stop is_filled Nil machine = None
used_stop is_filled (Fixed object at) machine = gone_stop (slice_get machine.objects object)
used_stop is_filled (Handle block) machine =
    first_stop (handle_stop size_of (Handle block) machine ∷ stops_if is_filled stop.BadPointer ∷ [])
used_stop is_filled (Spot its) machine = current_stop (Spot its) machine

-- of one argument: a struct is skipped
abbrev pub pointer_used : Bool → Value → Machine → Option Stop
pointer_used is_filled (number bits) machine = None
pointer_used is_filled (pointer its) machine = used_stop is_filled its machine
pointer_used is_filled (state byte) machine = None
pointer_used is_filled (structure cells) machine = None

-- of all pointers
abbrev pub pointers_used : ℕ → ℕ → List Value → Machine → Stops
pointers_used fills place [] machine = []
pointers_used fills place (value ∷ values) machine =
    pointer_used (place == fills) value machine ∷ pointers_used fills (suc place) values machine

-- a state byte is used as a number nowhere
abbrev pub byte_stop : Value → Option Stop
byte_stop (number bits) = None
byte_stop (pointer its) = None
byte_stop (state byte) = Some stop.BadByte
byte_stop (structure cells) = None

-- pointers first
abbrev pub argument_stops : ℕ → List Value → Machine → Stops
argument_stops fills values machine = pointers_used fills 1 values machine ++ map byte_stop values

-- ---- the line

-- with its sign, if its type has one
abbrev pub decimal_of : Bool → ℕ → List ℕ
decimal_of true bits = signed_decimal (signed bits)
decimal_of false bits = decimal bits

-- a type with numbers below 0
abbrev pub is_signed_kind : Option Integer → Bool
is_signed_kind None = false
is_signed_kind (Some kind) = is_signed kind

-- a space and the number
abbrev pub word_of : TypeTable → TypeId → Value → List ℕ
word_of types id (number bits) = 32 ∷ decimal_of (is_signed_kind (number_kind types id)) bits
word_of types id (pointer its) = []
word_of types id (state byte) = []
word_of types id (structure cells) = []

-- each number in its turn
abbrev pub words_of : TypeTable → List TypeId → List Value → List ℕ
words_of types [] values = []
words_of types (id ∷ ids) [] = []
words_of types (id ∷ ids) (value ∷ values) = word_of types id value ++ words_of types ids values

-- ended by a line feed
abbrev pub line_of : List ℕ → TypeTable → List TypeId → List Value → List ℕ
line_of name types ids values = name ++ words_of types ids values ++ 10 ∷ []

-- ---- answer words

-- so many, and 0 past the end
abbrev pub answers : ℕ → List ℕ → List ℕ
answers zero words = []
answers (suc more) [] = 0 ∷ answers more []
answers (suc more) (word ∷ words) = word ∷ answers more words

-- those after so many
abbrev pub later_words : ℕ → List ℕ → List ℕ
later_words zero words = words
later_words (suc more) [] = []
later_words (suc more) (word ∷ words) = later_words more words

-- big-endian
abbrev pub bytes_of_words : List ℕ → List ℕ
bytes_of_words [] = []
bytes_of_words (word ∷ words) = bytes_of 4 word ++ bytes_of_words words

-- a last word that does not fit whole gives its first bytes
abbrev pub words_for : ℕ → ℕ
words_for size = (size + 3) / 4

-- ---- the target that is filled

-- the argument of that number, counted from 1; there is no argument 0
abbrev pub argument : {A : Type 0} → ℕ → List A → Option A
argument zero items = None
argument (suc place) items = slice_get items place

-- or no bytes
abbrev pub or_zero : Option ℕ → ℕ
or_zero None = 0
or_zero (Some size) = size

-- of what a pointer of that type points to
abbrev pub pointed_size : TypeTable → Option TypeId → Option ℕ
pointed_size types None = None
pointed_size types (Some id) = size_at types (pointed types id)

-- how many bytes are filled
abbrev pub fill_size : TypeTable → ℕ → List TypeId → ℕ
fill_size types fills ids = or_zero (pointed_size types (argument fills ids))

-- the whole target is reached
abbrev pub fill_stops : Option Value → ℕ → Machine → Stops
fill_stops None size machine = []
fill_stops (Some value) size machine = use_stops (pointer_in value) size machine

-- with the next answer words, which are no more to come
abbrev pub filled : Option Value → ℕ → Machine → Machine
filled None size machine = machine
filled (Some value) size machine =
    record (with_cells_at (pointer_in value) (map Byte (take size (bytes_of_words (answers (words_for size) machine.words)))) machine) {
      words = later_words (words_for size) machine.words;
    }

-- ---- the result

-- the next word
abbrev pub next_word : List ℕ → ℕ
next_word [] = 0
next_word (word ∷ words) = word

-- the next word was taken
abbrev pub one_word_less : Machine → Machine
one_word_less machine = record machine { words = later_words 1 machine.words }

-- or one byte
abbrev pub or_one : Option ℕ → ℕ
or_one None = 1
or_one (Some size) = size

-- what the table says, or else the size of the target, or 1 if that is not known
abbrev pub made_size : ℕ → Option ℕ → ℕ
made_size zero target = or_one target
made_size (suc size) target = suc size

-- a new block of bytes that are 0, if there is room
abbrev pub made_block : Bool → ℕ → Machine → Machine
made_block true size machine = with_blocks (machine.blocks ++ record (new_block size) { cells = replicate size (Byte 0) } ∷ []) machine
made_block false size machine = machine

-- or an object
abbrev pub made_object : Bool → ℕ → Machine → Machine
made_object true size machine = new_object allocated (replicate size (Byte 0)) machine
made_object false size machine = machine

-- the type to which a pointer points is one of pointers: the result is a handle
abbrev pub points_to_pointer : TypeTable → Option TypeId → Bool
points_to_pointer types None = false
points_to_pointer types (Some id) = is_pointer types id

-- a pointer to something new of so many bytes, or NIL for the word 0
abbrev pub new_value : Bool → ℕ → Bool → Machine → Done Value
new_value handles size true machine = done (pointer Nil) machine
new_value true size false machine = done (handle_if (has_room machine.blocks size) machine) (made_block (has_room machine.blocks size) size machine)
new_value false size false machine = done (object_if (has_room_for size machine) machine) (made_object (has_room_for size machine) size machine)

-- a pointer: to a block by its handle, or to an object
abbrev pub pointer_result : TypeTable → ℕ → Option TypeId → Bool → Machine → Done Value
pointer_result types size target is_zero machine =
    if points_to_pointer types target
    then new_value true (made_size size (pointed_size types target)) is_zero machine
    else new_value false (made_size size (size_at types target)) is_zero machine

-- by its type: a number, a pointer, or nothing, which takes no word
abbrev pub result_by : TypeTable → ℕ → Option Integer → Option TypeId → Machine → Done Value
result_by types size (Some kind) target machine = done (number (converted kind (next_word machine.words))) (one_word_less machine)
result_by types size None (Some target) machine =
    pointer_result types size (Some target) (next_word machine.words == 0) (one_word_less machine)
result_by types size None None machine = done (number 0) machine

-- the result of a routine, by the type with which it is declared
abbrev pub result_of : TypeTable → ℕ → TypeId → Machine → Done Value
result_of types size id machine = result_by types size (number_kind types id) (pointed types id) machine

-- ---- the routine

-- a stop leaves that machine; otherwise what follows
abbrev pub then_unless : {A : Type 0} → Option Stop → Machine → Done A → Done A
then_unless None machine rest = rest
then_unless (Some why) machine rest = stopped why machine

-- with the line in the output
abbrev pub with_line : List ℕ → Machine → Machine
with_line line machine = record machine { output = machine.output ++ line }

-- after the line: the target is filled, and there is a result
abbrev pub after_line : TypeTable → Routine → Prototype → List Value → Machine → Done Value
after_line types routine prototype values machine =
    let size : ℕ = fill_size types routine.fills prototype.parameters in
    then_unless (first_stop (fill_stops (argument routine.fills values) size machine)) machine
    (result_of types routine.size prototype.result (filled (argument routine.fills values) size machine))

-- all of it
abbrev pub plain : TypeTable → Routine → Prototype → List Value → Machine → Done Value
plain types routine prototype values machine =
    then_unless (first_stop (argument_stops routine.fills values machine)) machine
    (after_line types routine prototype values (with_line (line_of routine.name types prototype.parameters values) machine))
