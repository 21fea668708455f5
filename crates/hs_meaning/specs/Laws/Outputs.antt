-- What was put out stays: no operation takes a byte back.
--     outputs                        the change: the output is the one before, and what was put out since
use Rattle.std.proofs.Common.{◌≡◌, ℕ, true, false, List, [], ◌++◌, Result, Ok, Err, refl, sym, ap, ◌∙◌, append_assoc, append-nil}
use Rattle.hs_heap.specs.Blocks.{Block, with_lock, with_purge_bit, with_state, emptied, disposed, resized, reallocated}
use Rattle.hs_heap.specs.declared.stop.HeapStop.{HeapStop}
use Rattle.hs_meaning.specs.Laws.Changes.{Change, Left, Leaves}

-- the output before, and then what was put out since
abbrev pub OutputStays : List ℕ → List ℕ → Type 0
OutputStays before after = (more : List ℕ) × (after ≡ before ++ more)

pub nothing_more : (output : List ℕ) → OutputStays output output
nothing_more output = ([], sym (append-nil output))

pub stays_then : (first second third : List ℕ) → OutputStays first second → OutputStays second third → OutputStays first third
stays_then first second third is so = (is.0 ++ so.0, so.1 ∙ ap (λ output. output ++ so.0) is.1 ∙ append_assoc first is.0 so.0)

pub more_output : (output more : List ℕ) → OutputStays output (output ++ more)
more_output output more = (more, refl)

-- of blocks nothing is said
abbrev pub AnyBlock : Block → Block → Type 0
AnyBlock before after = Unit {0}

any_left : (before : Block) (result : Result Block HeapStop) → Left AnyBlock before result
any_left before (Ok after) = tt
any_left before (Err why) = tt

pub any_leaves : (act : Block → Result Block HeapStop) → Leaves AnyBlock act
any_leaves act before = any_left before (act before)

-- Operations of all roles keep the output.
abbrev pub outputs : Change
outputs = record {
  over = λ before old after new. OutputStays old new;
  same = λ blocks output. nothing_more output;
  chained = λ a b c x y z is so. stays_then x y z is so;
  added = λ blocks more output. nothing_more output;
  written = λ blocks output more. more_output output more;
  keeps = AnyBlock;
  put = λ blocks output number before block is any. nothing_more output;
  cells = λ before cells. tt;
  speaks_of = λ role. Unit {0};
  locks = λ speaks. any_leaves (with_lock true);
  unlocks = λ speaks. any_leaves (with_lock false);
  marks = λ speaks. any_leaves (with_purge_bit true);
  unmarks = λ speaks. any_leaves (with_purge_bit false);
  puts_back = λ speaks byte. any_leaves (with_state byte);
  empties = λ speaks. any_leaves emptied;
  disposes = λ speaks. any_leaves disposed;
  resizes = λ speaks size. any_leaves (resized size);
  renews = λ speaks size. any_leaves (reallocated size);
}
