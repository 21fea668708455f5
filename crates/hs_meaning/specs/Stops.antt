-- Why an operation stops. The stops of one operation stand in one list, in the order in which they are tested (own): the first that applies
-- stops the run, and only if none applies does the operation act.
--     Stops                the stops of an operation: each applies or does not
--     stops_if test why    one that applies if the test is true
--     first_stop stops     the first that applies, if any does; stops_before, stops_after: in a list before another one
--     stop_of why          the stop of the machine for a stop of the heap
--     heap_stop result     the one with which a role of the heap ends, if it does
use Rattle.std.proofs.Common.{refl}
use Rattle.std.specs.Prelude.{◌≡◌, Bool, true, false, List, [], ◌∷◌, ◌++◌, Option, Some, None, Result, Ok, Err}
use Rattle.hs_heap.specs.declared.stop.HeapStop.{HeapStop}
use Rattle.hs_heap.specs.declared.stop.HeapStop.TheVariants as heap
use Rattle.hs_meaning.specs.declared.outcome.Stop.{Stop}
use Rattle.hs_meaning.specs.declared.outcome.Stop.TheVariants as stop

-- the stops of an operation, in their order
abbrev pub Stops : Type 0
Stops = List (Option Stop)

-- the stop applies if the test is true
abbrev pub stops_if : Bool → Stop → Option Stop
stops_if true why = Some why
stops_if false why = None

-- the first that applies
abbrev pub first_stop : Stops → Option Stop
first_stop [] = None
first_stop (Some why ∷ rest) = Some why
first_stop (None ∷ rest) = first_stop rest

-- one of the first list comes before those of the second
pub stops_before : (stops later : Stops) (why : Stop) → first_stop stops ≡ Some why → first_stop (stops ++ later) ≡ Some why
stops_before [] later why is = absurd (cc)
stops_before (Some first ∷ stops) later why is = is
stops_before (None ∷ stops) later why is = stops_before stops later why is

-- and those of the second list count if there is no stop in the first
pub stops_after : (stops later : Stops) → first_stop stops ≡ None → first_stop (stops ++ later) ≡ first_stop later
stops_after [] later is = refl
stops_after (Some first ∷ stops) later is = absurd (cc)
stops_after (None ∷ stops) later is = stops_after stops later is

-- a stop of the heap is the stop of that name
abbrev pub stop_of : HeapStop → Stop
stop_of heap.Disposed = stop.Disposed
stop_of heap.Old = stop.Old
stop_of heap.Stale = stop.Stale
stop_of heap.Purged = stop.Purged
stop_of heap.Range = stop.Range

-- a role of the heap that stops
abbrev pub heap_stop : {A : Type 0} → Result A HeapStop → Option Stop
heap_stop (Ok it) = None
heap_stop (Err why) = Some (stop_of why)
