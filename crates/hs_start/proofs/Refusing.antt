-- A constant of another sort than its type has no cells.
use Rattle.std.proofs.Common.{◌≡◌, ℕ, pos, List, [], Err, refl, subst, arith}
use Rattle.std.proofs.lemmas.Grind.{common_steps}
use Rattle.hs_heap.specs.declared.cell.Cell.{Cell}
use Rattle.hs_heap.specs.declared.cell.Pointer.{Pointer}
use Rattle.hs_meaning.specs.Accesses.{with_cells_from}
use Rattle.hs_meaning.specs.Objects.{constant_value}
use Rattle.hs_meaning.specs.Settings.{Setting}
use Rattle.hs_meaning.specs.Values.{Value, number, pointer, Access, of_number, of_pointer, of_struct, cells_for, store_stop}
use Rattle.hs_meaning.specs.declared.outcome.Stop.{Stop}
use Rattle.hs_tree.specs.declared.constant.Constant.{Constant}
use Rattle.hs_tree.specs.declared.constant.Constant.TheVariants as constant
use Rattle.hs_values.specs.Answers.{or_stop}

-- a number that is not stored as one
of_number_refused : (access : Access) (bits : ℕ) (why : Stop)
    → Err why ≡ or_stop (store_stop access (number bits)) (cells_for access (number bits)) → cells_for access (number bits) ≡ []
of_number_refused (of_number kind) bits why is = absurd cc
of_number_refused (of_pointer class) bits why is = refl
of_number_refused (of_struct size) bits why is = refl

-- a pointer that is not stored as one
of_pointer_refused : (access : Access) (its : Pointer) (why : Stop)
    → Err why ≡ or_stop (store_stop access (pointer its)) (cells_for access (pointer its)) → cells_for access (pointer its) ≡ []
of_pointer_refused (of_number kind) its why is = refl
of_pointer_refused (of_pointer class) its why is = absurd cc
of_pointer_refused (of_struct size) its why is = refl

-- a constant that is refused
constant_refused : (setting : Setting) (its : Constant) (access : Access) (why : Stop)
    → Err why ≡ or_stop (store_stop access (constant_value setting its)) (cells_for access (constant_value setting its))
    → cells_for access (constant_value setting its) ≡ []
constant_refused setting (constant.Number bits) access why is = of_number_refused access bits why is
constant_refused setting constant.Nil access why is = of_pointer_refused access _ why is
constant_refused setting (constant.Address base offset) access why is = of_pointer_refused access _ why is

-- by the access and the value that the code has
pub refused : (setting : Setting) (its : Constant) (access wanted : Access) (value : Value) (why : Stop) → access ≡ wanted
    → value ≡ constant_value setting its → Err why ≡ or_stop (store_stop access value) (cells_for access value)
    → cells_for wanted (constant_value setting its) ≡ []
refused setting its access wanted value why same_access same_value is =
    constant_refused setting its wanted why
    (subst (λ it. Err why ≡ or_stop (store_stop it (constant_value setting its)) (cells_for it (constant_value setting its))) same_access
    (subst (λ it. Err why ≡ or_stop (store_stop access it) (cells_for access it)) same_value is))

-- no cells change nothing
pub unchanged : (at : ℕ) (new cells : List Cell) → new ≡ [] → cells ≡ with_cells_from (pos at) new cells
unchanged at new cells empty = rw empty (grind (arith, common_steps))
