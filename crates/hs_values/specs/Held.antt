-- What a value of the machine is, by the words in which it is kept.
--     value_of held       the value
use Rattle.hs_heap.specs.declared.cell.Pointer.TheVariants as at
use Rattle.hs_meaning.specs.Values.{Value, number, pointer, state, structure}
use Rattle.hs_values.specs.declared.value.Held.{Held}
use Rattle.hs_values.specs.declared.value.Held.TheVariants as held

-- the value
abbrev pub value_of : Held → Value
value_of (held.Number bits) = number bits
value_of held.Nil = pointer at.Nil
value_of (held.Fixed object offset) = pointer (at.Fixed object offset)
value_of (held.Handle block) = pointer (at.Handle block)
value_of (held.Spot block life epoch offset) = pointer (at.Spot (record { block = block; life = life; epoch = epoch; offset = offset }))
value_of (held.State byte) = state byte
value_of (held.Struct cells) = structure cells.value
