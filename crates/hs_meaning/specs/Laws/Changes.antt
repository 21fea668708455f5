-- What a run does to a machine, step by step, in a relation between a machine and a later one. The relation is any that speaks of the blocks and of
-- the output alone, and that holds of the few changes that operations are made of. So each law of this form is one `Change`, and its proof is here:
-- epochs (`Epochs.antt`), the output (`Outputs.antt`).
--     Change                         such a relation
--     Leaves keeps act               what a role leaves of a block
--     standing_left, ..              what the parts of a role leave
--     Stays R before after           the relation of two machines
--     Keeps R before its             the same of the machine that an operation gives or that its stop leaves
--     and_then_keeps                 one operation after another
-- `Changes/Operations.antt` has the law of operations, and `Changes/Calls.antt` those of what else a run does to the machine.
pub mod Accesses
pub mod Calls
pub mod Operations
pub mod Plain
pub mod Roles
use Rattle.std.proofs.Common.{◌≡◌, ℕ, Bool, true, false, List, ◌++◌, Option, Some, None, Result, Ok, Err, if◌then◌else◌}
use Rattle.hs_heap.specs.Blocks.{Block, standing, by_standing, changed, with_lock, with_purge_bit, with_state, emptied, disposed, resized, reallocated}
use Rattle.hs_heap.specs.Memory.{block_at, put_block}
use Rattle.hs_heap.specs.declared.cell.Cell.{Cell}
use Rattle.hs_heap.specs.declared.stop.HeapStop.{HeapStop}
use Rattle.hs_meaning.specs.Accesses.{by_stop, unless_stopped}
use Rattle.hs_meaning.specs.Machine.{Machine, Done, done, stopped, and_then, with_blocks}
use Rattle.hs_meaning.specs.Plain.{then_unless, with_line}
use Rattle.hs_meaning.specs.Stops.{Stops, first_stop}
use Rattle.hs_meaning.specs.declared.outcome.Stop.{Stop}
use Rattle.hs_table.specs.declared.role.Role.{Role}
use Rattle.hs_table.specs.declared.role.Role.TheVariants as role

-- what a role leaves of a block, unless it stops
abbrev pub Left : (Block → Block → Type 0) → Block → Result Block HeapStop → Type 0
Left keeps old (Ok new) = keeps old new
Left keeps old (Err why) = Unit {0}

-- of any block
abbrev pub Leaves : (Block → Block → Type 0) → (Block → Result Block HeapStop) → Type 0
Leaves keeps act = (old : Block) → Left keeps old (act old)

-- ---- what a role leaves

module _ (keeps : Block → Block → Type 0) (old : Block) where
  -- of a present block, and of an emptied one
  pub standing_left : (here gone : Block) (stands : Result Bool HeapStop) → keeps old here → keeps old gone → Left keeps old (by_standing here gone stands)
  standing_left here gone (Ok true) is so = is
  standing_left here gone (Ok false) is so = so
  standing_left here gone (Err why) is so = tt

  -- a change of a present block
  pub changed_left : (change : Block → Block) → keeps old (change old) → keeps old old → Left keeps old (changed change old)
  changed_left change is so = standing_left (change old) old (standing old.presence) is so

  -- one of two
  pub either_left : (b : Bool) (first second : Result Block HeapStop) → Left keeps old first → Left keeps old second
      → Left keeps old (if b then first else second)
  either_left true first second is so = is
  either_left false first second is so = so

-- ---- a change

-- A relation between the blocks and the output before and after. Nothing, and one change after another, are such changes.
pub record Change : Type 1 where
  pub over : List Block → List ℕ → List Block → List ℕ → Type 0
  pub same : (blocks : List Block) (output : List ℕ) → over blocks output blocks output
  pub chained : (a b c : List Block) (x y z : List ℕ) → over a x b y → over b y c z → over a x c z
  -- blocks are added, and bytes are put out
  pub added : (blocks more : List Block) (output : List ℕ) → over blocks output (blocks ++ more) output
  pub written : (blocks : List Block) (output more : List ℕ) → over blocks output blocks (output ++ more)
  -- one block becomes another, if the two are related: so it is if a store gives it other cells
  pub keeps : Block → Block → Type 0
  pub put : (blocks : List Block) (output : List ℕ) (number : ℕ) (old new : Block) → block_at blocks number ≡ Some old → keeps old new
      → over blocks output (put_block blocks number new) output
  pub cells : (old : Block) (new : List Cell) → keeps old (record old { cells = new })
  -- and if a routine acts on it, whose role is one of those of which the relation speaks
  pub speaks_of : Role → Type 0
  pub locks : speaks_of role.Lock → Leaves keeps (with_lock true)
  pub unlocks : speaks_of role.Unlock → Leaves keeps (with_lock false)
  pub marks : speaks_of role.Purge → Leaves keeps (with_purge_bit true)
  pub unmarks : speaks_of role.NoPurge → Leaves keeps (with_purge_bit false)
  pub puts_back : speaks_of role.SetState → (byte : ℕ) → Leaves keeps (with_state byte)
  pub empties : speaks_of role.Empty → Leaves keeps emptied
  pub disposes : speaks_of role.DisposeHandle → Leaves keeps disposed
  pub resizes : speaks_of role.SetSize → (size : ℕ) → Leaves keeps (resized size)
  pub renews : speaks_of role.Realloc → (size : ℕ) → Leaves keeps (reallocated size)

module _ (R : Change) where
  -- of two machines
  abbrev pub Stays : Machine → Machine → Type 0
  Stays before after = R.over before.blocks before.output after.blocks after.output

  -- a stop leaves one too
  abbrev pub Keeps : {A : Type 0} → Machine → Done A → Type 0
  Keeps before (done it after) = Stays before after
  Keeps before (stopped why after) = Stays before after

  -- ---- machines

  -- a machine with the same blocks and the same output, whatever else changes
  pub same_stay : (machine : Machine) → Stays machine machine
  same_stay machine = R.same machine.blocks machine.output

  -- blocks are added
  pub added_stay : (machine : Machine) (blocks : List Block) → Stays machine (with_blocks (machine.blocks ++ blocks) machine)
  added_stay machine blocks = R.added machine.blocks blocks machine.output

  -- a line is put out
  pub line_stays : (line : List ℕ) (machine : Machine) → Stays machine (with_line line machine)
  line_stays line machine = R.written machine.blocks machine.output line

  -- the machine with another block of that number
  pub put_stays : (machine : Machine) (number : ℕ) (before block : Block) → block_at machine.blocks number ≡ Some before → R.keeps before block
      → Stays machine (with_blocks (put_block machine.blocks number block) machine)
  put_stays machine number before block is keeps = R.put machine.blocks machine.output number before block is keeps

  -- one change after another
  pub stay_then : (first second third : Machine) → Stays first second → Stays second third → Stays first third
  stay_then first second third is so = R.chained first.blocks second.blocks third.blocks first.output second.output third.output is so

  -- one of two machines
  pub either_stays : (before : Machine) (b : Bool) (first second : Machine) → Stays before first → Stays before second
      → Stays before (if b then first else second)
  either_stays before true first second is so = is
  either_stays before false first second is so = so

  -- ---- operations

  -- an operation on a machine that was changed before
  pub keeps_after : {A : Type 0} → (before machine : Machine) (its : Done A) → Stays before machine → Keeps machine its → Keeps before its
  keeps_after before machine (done it after) is so = stay_then before machine after is so
  keeps_after before machine (stopped why after) is so = stay_then before machine after is so

  -- one of two operations
  pub either_keeps : {A : Type 0} → (before : Machine) (b : Bool) (first second : Done A) → Keeps before first → Keeps before second
      → Keeps before (if b then first else second)
  either_keeps before true first second is so = is
  either_keeps before false first second is so = so

  -- what is given unless there is a stop
  pub by_stop_keeps : {A : Type 0} → (why : Option Stop) (it : A) (after before : Machine) → Stays before after
      → Keeps before (by_stop why it after before)
  by_stop_keeps None it after before is = is
  by_stop_keeps (Some why) it after before is = same_stay before

  -- the same of a list of stops
  pub unless_keeps : {A : Type 0} → (stops : Stops) (it : A) (after before : Machine) → Stays before after
      → Keeps before (unless_stopped stops it after before)
  unless_keeps stops it after before is = by_stop_keeps (first_stop stops) it after before is

  -- the rest, unless there is a stop
  pub then_unless_keeps : {A : Type 0} → (why : Option Stop) (machine : Machine) (rest : Done A) → Keeps machine rest
      → Keeps machine (then_unless why machine rest)
  then_unless_keeps None machine rest is = is
  then_unless_keeps (Some why) machine rest is = same_stay machine

  -- one operation after another
  pub and_then_keeps : {A B : Type 0} → (machine : Machine) (its : Done A) (next : A → Machine → Done B) → Keeps machine its
      → ((it : A) (after : Machine) → Keeps after (next it after)) → Keeps machine (and_then its next)
  and_then_keeps machine (done it after) next is each = keeps_after machine after (next it after) is (each it after)
  and_then_keeps machine (stopped why after) next is each = is
