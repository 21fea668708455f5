-- An access through a handle that is no load of a pointer stops with BadLoad, whatever the state of the block.
use Rattle.std.proofs.Common.{◌≡◌, ℕ, None, refl}
use Rattle.hs_heap.specs.declared.cell.Pointer.TheVariants.{Handle}
use Rattle.hs_meaning.specs.Accesses.{loaded, stored}
use Rattle.hs_meaning.specs.Machine.{Machine, stopped}
use Rattle.hs_meaning.specs.Values.{Value, Access, of_number, of_struct, store_stop}
use Rattle.hs_meaning.specs.declared.outcome.Stop.TheVariants as stop
use Rattle.hs_types.specs.declared.integer.Integer.{Integer}

-- a load of a number
pub no_number_through_a_handle : (kind : Integer) (block : ℕ) (machine : Machine)
    → loaded (of_number kind) (Handle block) machine ≡ stopped stop.BadLoad machine
no_number_through_a_handle kind block machine = refl

-- a load of a struct
pub no_struct_through_a_handle : (size block : ℕ) (machine : Machine) → loaded (of_struct size) (Handle block) machine ≡ stopped stop.BadLoad machine
no_struct_through_a_handle size block machine = refl

-- a store of anything that may be stored
pub no_store_through_a_handle : (access : Access) (block : ℕ) (value : Value) (machine : Machine) → store_stop access value ≡ None
    → stored access (Handle block) value machine ≡ stopped stop.BadLoad machine
no_store_through_a_handle access block value machine fits = rw fits refl
