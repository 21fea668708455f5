-- Cells that are copied before they are written.
use Rattle.std.proofs.Common.{◌≡◌, ℕ, ℤ, pos, negsuc, Bool, true, false, not, List, [], ◌∷◌, length, Option, Some, None, Result, Ok, Err, refl, ap, sym, subst, ◌∙◌, slice_get, arith}
use Rattle.std.proofs.lemmas.Bool.Decides.{nat_tests}
use Rattle.hs_heap.specs.Blocks.{Block, place_for}
use Rattle.hs_heap.specs.Memory.{block_at}
use Rattle.hs_heap.specs.declared.cell.Cell.{Cell}
use Rattle.hs_heap.specs.declared.cell.Pointer.TheVariants as at
use Rattle.hs_heap.specs.declared.cell.Pointer.{Pointer}
use Rattle.hs_heap.specs.declared.cell.Spot as spot
use Rattle.hs_heap.specs.declared.stop.HeapStop.{HeapStop}
use Rattle.hs_meaning.specs.Accesses.{block_stops, by_stop, cells_at, cells_from, cells_of_block, cells_of_object, is_inside, object_stops, unless_stopped, use_stops, with_cells_at}
use Rattle.hs_meaning.specs.Machine.{Machine, Object, has_ended}
use Rattle.hs_meaning.specs.Stops.{first_stop, heap_stop, stops_if, stops_before, stops_after}
use Rattle.hs_meaning.specs.declared.outcome.Stop.TheVariants as stops
use Rattle.hs_meaning.specs.declared.outcome.Stop.{Stop}
use Rattle.hs_roles.proofs.Placing.{placed, taken}
use Rattle.hs_roles.specs.Parts.{copies}
use Rattle.hs_state.specs.Machines.{Does}
use Rattle.hs_values.specs.Answers.{Halts, or_first, or_stop}
use Rattle.hs_values.specs.declared.halt.Halt.TheVariants.{Stopped, NoMemory}
use Rattle.hs_values.specs.declared.halt.Halt.{Halt}

-- cells of an object that are inside
inside : (at : ℤ) (count : ℕ) (cells : List Cell) → is_inside at count (length cells) ≡ true → length (cells_from at count cells) ≡ count
inside (pos at) count cells is = taken cells at count (grind (arith, nat_tests))
inside (negsuc at) count cells is = absurd (cc)

-- a test that is passed
held : (test : Bool) (why : Stop) → stops_if (not test) why ≡ None → test ≡ true
held true why is = refl
held false why is = absurd (cc)

-- of an object that has not ended
of_object : (at : ℤ) (count : ℕ) (its : Object) (ends : Bool)
    → first_stop (stops_if ends stops.Gone ∷ stops_if (not (is_inside at count (length its.cells))) stops.Range ∷ []) ≡ None
    → length (cells_from at count its.cells) ≡ count
of_object at count its true is = absurd (cc)
of_object at count its false is =
    inside at count its.cells (held (is_inside at count (length its.cells)) stops.Range (only _ is))
  where
    only : (it : Option Stop) → first_stop (it ∷ []) ≡ None → it ≡ None
    only None is = refl
    only (Some why) is = absurd (cc)

-- that was made
of_objects : (at : ℤ) (count : ℕ) (found : Option Object) → first_stop (object_stops at count found) ≡ None
    → length (cells_from at count (cells_of_object found)) ≡ count
of_objects at count None is = absurd (cc)
of_objects at count (Some its) is = of_object at count its (has_ended its.storage) is

-- of a block
of_block : (its : spot.Spot) (count : ℕ) (block : Block) (place : Result ℕ HeapStop) → place_for its count block ≡ place
    → first_stop (heap_stop place ∷ []) ≡ None → length (cells_from its.offset count block.cells) ≡ count
of_block its count block (Ok here) is none =
    let both = placed its count here block is
    in ap (λ place. length (cells_from place count block.cells)) both.0 ∙ taken block.cells here count both.1
of_block its count block (Err why) is none = absurd (cc)

-- that was made
of_blocks : (its : spot.Spot) (count : ℕ) (found : Option Block) → first_stop (block_stops its count found) ≡ None
    → length (cells_from its.offset count (cells_of_block found)) ≡ count
of_blocks its count None is = absurd (cc)
of_blocks its count (Some block) is = of_block its count block (place_for its count block) refl is

-- as many cells as were asked for
as_many : (from : Pointer) (count : ℕ) (machine : Machine) → first_stop (use_stops from count machine) ≡ None
    → length (cells_at from count machine) ≡ count
as_many at.Nil count machine is = absurd (cc)
as_many (at.Handle block) count machine is = absurd (cc)
as_many (at.Fixed object at) count machine is = of_objects at count (slice_get machine.objects object) is
as_many (at.Spot its) count machine is = of_blocks its count (block_at machine.blocks its.block) is

module _ (from to : Pointer) (count : ℕ) (machine : Machine) where
  -- the first pointer is not used
  pub not_copied : (why : Halt) → Halts (or_first (use_stops from count machine) (cells_at from count machine)) (Err why)
      → Does (copies from to count machine) machine (Err why)
  not_copied why halts = by_why why (first_stop (use_stops from count machine)) refl halts
    where
      by_why : (why : Halt) (stop : Option Stop) → first_stop (use_stops from count machine) ≡ stop
          → Halts (or_stop stop (cells_at from count machine)) (Err why) → Does (copies from to count machine) machine (Err why)
      by_why NoMemory stop is halts = tt
      by_why (Stopped given) None is halts = absurd halts
      by_why (Stopped given) (Some why) is halts =
          rw (stops_before (use_stops from count machine) (use_stops to count machine) why is) (halts, refl)

  -- its cells are written
  pub then_written : (cells : List Cell) (new : Machine) (result : Result Unit Halt)
      → Halts (or_first (use_stops from count machine) (cells_at from count machine)) (Ok cells)
      → Does (unless_stopped (use_stops to (length cells) machine) tt (with_cells_at to cells machine) machine) new result
      → Does (copies from to count machine) new result
  then_written cells new result halts does = by_stops (first_stop (use_stops from count machine)) refl halts
    where
      by_stops : (stop : Option Stop) → first_stop (use_stops from count machine) ≡ stop → Halts (or_stop stop (cells_at from count machine)) (Ok cells)
          → Does (copies from to count machine) new result
      by_stops None is halts =
          let long : length cells ≡ count = ap length halts ∙ as_many from count machine is
          in subst (λ (stop : Option Stop). Does (by_stop stop tt (with_cells_at to (cells_at from count machine) machine) machine) new result)
          (sym (stops_after (use_stops from count machine) (use_stops to count machine) is))
          (subst (λ (its : List Cell). Does (by_stop (first_stop (use_stops to count machine)) tt (with_cells_at to its machine) machine) new result) halts
          (subst (λ (n : ℕ). Does (by_stop (first_stop (use_stops to n machine)) tt (with_cells_at to cells machine) machine) new result) long does))
      by_stops (Some why) is halts = absurd halts
