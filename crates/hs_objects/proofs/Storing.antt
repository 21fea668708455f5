-- A store into one object, among all objects.
use Rattle.std.proofs.Common.{◌≡◌, ◌<◌, ℕ, ℤ, List, length, Option, Some, None, Result, Ok, Err, OnOk, OnErr, refl, sym, ap, subst, ◌∙◌, slice_set, get_or}
use Rattle.std.proofs.lemmas.List.{set-get_or}
use Rattle.std.proofs.lemmas.Option.{slice_get_read}
use Rattle.hs_heap.specs.declared.cell.Cell.{Cell}
use Rattle.hs_meaning.specs.Accesses.{object_stops, with_cells_from}
use Rattle.hs_meaning.specs.Machine.{Object}
use Rattle.hs_meaning.specs.Stops.{first_stop}
use Rattle.hs_meaning.specs.declared.outcome.Stop.{Stop}
use Rattle.hs_objects.specs.Objects.{Stores, StoresUnless, put_in}
use Rattle.hs_values.specs.Answers.{or_stop, or_first}

-- by whether there is a stop
stores_unless : (objects : List Object) (place : ℕ) (old wanted new : Object) → slice_set objects place old ≡ objects
    → (stop : Option Stop) (result : Result Unit Stop) → result ≡ or_stop stop tt → OnOk result (new ≡ wanted) → OnErr result (new ≡ old)
    → StoresUnless stop (slice_set objects place wanted) objects (slice_set objects place new) result
stores_unless objects place old wanted new same None (Ok _) is stored kept = ap (slice_set objects place) stored
stores_unless objects place old wanted new same None (Err why) is stored kept = absurd cc
stores_unless objects place old wanted new same (Some why) (Ok _) is stored kept = absurd cc
stores_unless objects place old wanted new same (Some why) (Err given) is stored kept = (cc, ap (slice_set objects place) kept ∙ same)

-- the object of that number stored the cells, or stopped
pub stores : (objects : List Object) (place : ℕ) (at : ℤ) (cells : List Cell) (old new : Object) (result : Result Unit Stop)
    → place < length objects → old ≡ get_or objects place old → result ≡ or_first (object_stops at (length cells) (Some old)) tt
    → OnOk result (new ≡ record old { cells = with_cells_from at cells old.cells }) → OnErr result (new ≡ old)
    → Stores place at cells objects (slice_set objects place new) result
stores objects place at cells old new result there here is stored kept =
    subst
    (λ found.
    StoresUnless (first_stop (object_stops at (length cells) found)) (put_in place at cells objects found) objects (slice_set objects place new) result)
    (sym (slice_get_read objects (length objects) place old refl there here))
    (stores_unless objects place old (record old { cells = with_cells_from at cells old.cells }) new
    (subst (λ it. slice_set objects place it ≡ objects) (sym here) (set-get_or objects place old))
    (first_stop (object_stops at (length cells) (Some old))) result is stored kept)
