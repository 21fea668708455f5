-- Two results alike: the still one is the moving one stilled, and a stop is the same and no misuse. What a step asks of
-- values and blocks gives results alike, if the blocks are plain and no pointer used has an old epoch.
use Rattle.std.proofs.Common.{◌≡◌, ℕ, ℤ, pos as integer, negsuc, ◌+◌, ◌==◌, Bool, true, false, not, List, [], ◌∷◌, ◌++◌, map, take, drop, nat_le, Option, Some, None, Result, Ok, Err, option_map, refl, sym, ap, ◌∙◌, subst, if◌then◌else◌, eq-eqb}
use Rattle.hs_base.specs.declared.pos.Pos.{Pos}
use Rattle.hs_tree.specs.declared.straight.tree.Expr.{Expr}
use Rattle.hs_tree.specs.declared.straight.tree.Expr.TheVariants as expr
use Rattle.hs_heap.specs.Blocks.{Block, is_disposed, reach, range_at, place_for, loaded, loaded_at, with_cells, stored, stored_at}
use Rattle.hs_heap.specs.Memory.{block_at, put_block}
use Rattle.hs_heap.specs.declared.cell.Cell.{Cell}
use Rattle.hs_heap.specs.declared.cell.Cell.TheVariants as cell
use Rattle.hs_heap.specs.declared.cell.Spot.{Spot}
use Rattle.hs_heap.specs.declared.stop.HeapStop.{HeapStop}
use Rattle.hs_heap.specs.declared.stop.HeapStop.TheVariants as heap_stop
use Rattle.hs_meaning.specs.Straight.Value.{Value, number, nil, handle, spot}
use Rattle.hs_meaning.specs.Straight.Heap.{stop_of, char_in, loaded_char, load_if, put_result, store_if, master_if, lock_if}
use Rattle.hs_meaning.specs.Straight.Run.{State, Halt, ◌>>=◌, at_place, lookup, defined, value_of, load_through, store_through, derive_through, lock_through, eval, IsMisuse}
use Rattle.hs_meaning.specs.Straight.StaleUses.{expr_uses}
use Rattle.hs_meaning.specs.declared.outcome.Stop.{Stop}
use Rattle.hs_meaning.specs.declared.outcome.Outcome.TheVariants.{Stopped}
use Rattle.hs_meaning.proofs.Runs.Still.{still_value, still_block, still, Each, IsPlain, lookup-still, block_at-still, put_block-still, block_at-plain}

-- the stop is no misuse
abbrev pub IsHarmless : Stop → Type 0
IsHarmless kind = (pos : Pos) → IsMisuse (Stopped kind pos) → ⊥

-- the stop at its place is not a misuse
abbrev pub IsHarmlessHalt : Halt → Type 0
IsHarmlessHalt halt = IsHarmless halt.kind

-- the second result is the first one stilled, and P holds of the first; or both are one harmless error
abbrev pub Alike : {A B E : Type 0} → (E → Type 0) → (A → B) → (A → Type 0) → Result A E → Result B E → Type 0
Alike H f P (Ok x) other = (other ≡ Ok (f x)) × P x
Alike H f P (Err error) other = (other ≡ Err error) × H error

-- what holds of the first result may be said more weakly
pub alike_weaken : {A B E : Type 0} (H : E → Type 0) (f : A → B) (P Q : A → Type 0) (x : Result A E) (y : Result B E)
    → Alike H f P x y → ((a : A) → P a → Q a) → Alike H f Q x y
alike_weaken H f P Q (Ok a) y alike weaker = (alike.0, weaker a alike.1)
alike_weaken H f P Q (Err error) y alike weaker = alike

-- a place added to both leaves them alike
pub alike_at_place : {A B : Type 0} (f : A → B) (P : A → Type 0) (pos : Pos) (x : Result A Stop) (y : Result B Stop)
    → Alike IsHarmless f P x y → Alike IsHarmlessHalt f P (at_place pos x) (at_place pos y)
alike_at_place f P pos (Ok x) y alike = (ap (at_place pos) alike.0, alike.1)
alike_at_place f P pos (Err kind) y alike = (ap (at_place pos) alike.0, alike.1)

-- alike results that go on alike end alike
pub alike_then : {A B C D : Type 0} (f : A → B) (P : A → Type 0) (g : C → D) (Q : C → Type 0) (x : Result A Halt) (y : Result B Halt)
    (next : A → Result C Halt) (still_next : B → Result D Halt)
    → Alike IsHarmlessHalt f P x y → ((a : A) → P a → Alike IsHarmlessHalt g Q (next a) (still_next (f a)))
    → Alike IsHarmlessHalt g Q (x >>= next) (y >>= still_next)
alike_then f P g Q (Ok a) y next still_next alike go =
    subst (λ (r : Result _ Halt). Alike IsHarmlessHalt g Q (next a) (r >>= still_next)) (sym alike.0) (go a alike.1)
alike_then f P g Q (Err halt) y next still_next alike go = (ap (λ (r : Result _ Halt). r >>= still_next) alike.0, alike.1)

-- a variable's value in the still state is the still value
pub value_of-alike : (state : State) (variable : ℕ)
    → Alike IsHarmless still_value (λ value. lookup state.variables variable ≡ Some value) (value_of state variable) (value_of (still state) variable)
value_of-alike state variable = rw (lookup-still state.variables variable) (go (lookup state.variables variable))
  where
    go : (value : Option Value) → Alike IsHarmless still_value (λ x. value ≡ Some x) (defined value) (defined (option_map still_value value))
    go None = (refl, λ pos misuse. misuse)
    go (Some value) = (refl, refl)

-- the pointer has the epoch of its block
abbrev pub IsFreshSpot : List Block → Spot → Type 0
IsFreshSpot heap s = (block : Block) → block_at heap s.block ≡ Some block → s.epoch ≡ block.epoch

-- the value is no pointer, or has the epoch of its block
abbrev pub IsFresh : List Block → Value → Type 0
IsFresh heap (number n) = Unit {0}
IsFresh heap nil = Unit {0}
IsFresh heap (handle named) = Unit {0}
IsFresh heap (spot s) = IsFreshSpot heap s

-- a use through a fresh pointer begins at the same place in the still heap
place_for-still : (s : Spot) (count : ℕ) (block : Block) → s.epoch ≡ block.epoch
    → place_for (record s { epoch = 0 }) count (still_block block) ≡ place_for s count block
place_for-still s count block fresh = rw (eq-eqb s.epoch block.epoch fresh) refl

-- and if it stops, it is no misuse
harmless_place : (s : Spot) (count : ℕ) (block : Block) (why : HeapStop) → s.epoch ≡ block.epoch → place_for s count block ≡ Err why
    → IsHarmless (stop_of why)
harmless_place s count block why fresh stops =
    go (is_disposed block.presence) (not (s.life == block.life)) (range_at s.offset count (reach block.presence block.cells)) refl
    (sym (rw (eq-eqb s.epoch block.epoch fresh) refl) ∙ stops)
  where
    same_stop : (a b : HeapStop) → ◌≡◌ {A = Result ℕ HeapStop} (Err a) (Err b) → a ≡ b
    same_stop a b same = cc

    at_range : (offset : ℤ) (size : ℕ) (is_short : Bool) → ◌≡◌ {A = Result ℕ HeapStop} (range_at offset count size) (Err why) → why ≡ heap_stop.Range
    at_range (integer at) size is_short is = within at size (nat_le (at + count) size) is
      where
        within : (at size : ℕ) (fits : Bool) → ◌≡◌ {A = Result ℕ HeapStop} (if fits then Ok at else Err heap_stop.Range) (Err why) → why ≡ heap_stop.Range
        within at size true is = absurd cc
        within at size false is = sym (same_stop heap_stop.Range why is)
    at_range (negsuc at) size is_short is = sym (same_stop heap_stop.Range why is)

    go : (gone old : Bool) (at : Result ℕ HeapStop) → range_at s.offset count (reach block.presence block.cells) ≡ at
        → ◌≡◌ {A = Result ℕ HeapStop} (if gone then Err heap_stop.Disposed else if old then Err heap_stop.Old else at) (Err why)
        → IsHarmless (stop_of why)
    go true old at is same = subst (λ it. IsHarmless (stop_of it)) (same_stop heap_stop.Disposed why same) (λ pos misuse. misuse)
    go false true at is same = subst (λ it. IsHarmless (stop_of it)) (same_stop heap_stop.Old why same) (λ pos misuse. misuse)
    go false false at is same =
        subst (λ it. IsHarmless (stop_of it)) (sym (at_range s.offset (reach block.presence block.cells) true (is ∙ same))) (λ pos misuse. misuse)

-- no pointer comes from a cell
char_in-alike : (it : Cell) → Alike IsHarmless still_value (λ value. Unit {0}) (char_in it) (char_in it)
char_in-alike (cell.Byte byte) = (refl, tt)
char_in-alike cell.Undefined = (refl, λ pos misuse. misuse)
char_in-alike (cell.State byte) = (refl, λ pos misuse. misuse)
char_in-alike (cell.Part part pointer class) = (refl, λ pos misuse. misuse)

-- nor from the cells that were loaded
loaded_char-alike : (cells : List Cell) → Alike IsHarmless still_value (λ value. Unit {0}) (loaded_char (Ok cells)) (loaded_char (Ok cells))
loaded_char-alike [] = (refl, λ pos misuse. misuse)
loaded_char-alike (first ∷ cells) = char_in-alike first

-- a load through a fresh value gives the same char
pub load_through-alike : (heap : List Block) (value : Value) → IsFresh heap value
    → Alike IsHarmless still_value (λ got. Unit {0}) (load_through heap value) (load_through (map still_block heap) (still_value value))
load_through-alike heap nil fresh = (refl, λ pos misuse. misuse)
load_through-alike heap (handle named) fresh = (refl, λ pos misuse. misuse)
load_through-alike heap (number n) fresh = (refl, λ pos misuse. misuse)
load_through-alike heap (spot s) fresh = rw (block_at-still heap s.block) (go (block_at heap s.block) fresh)
  where
    go : (found : Option Block) → ((block : Block) → found ≡ Some block → s.epoch ≡ block.epoch)
        → Alike IsHarmless still_value (λ got. Unit {0}) (load_if s found) (load_if (record s { epoch = 0 }) (option_map still_block found))
    go None fresh_here = (refl, λ pos misuse. misuse)
    go (Some block) fresh_here =
        subst
        (λ (at : Result ℕ HeapStop). Alike IsHarmless still_value (λ got. Unit {0}) (loaded_char (loaded s 1 block))
        (loaded_char (loaded_at 1 (still_block block) at)))
        (sym (place_for-still s 1 block (fresh_here block refl)))
        (at_place_of (place_for s 1 block) refl)
      where
        at_place_of : (at : Result ℕ HeapStop) → place_for s 1 block ≡ at
            → Alike IsHarmless still_value (λ got. Unit {0}) (loaded_char (loaded_at 1 block at)) (loaded_char (loaded_at 1 (still_block block) at))
        at_place_of (Ok at) is = loaded_char-alike (take 1 (drop at block.cells))
        at_place_of (Err why) is = (refl, harmless_place s 1 block why (fresh_here block refl) is)

-- the heap with other cells in one block
pub record IsStored (heap after : List Block) : Type 0 where
  pub place : ℕ
  pub block : Block
  pub cells : List Cell
  pub is_block : block_at heap place ≡ Some block
  pub is_after : after ≡ put_block heap place (record block { cells = cells })

-- a store through a fresh value stores the same in the same block
pub store_through-alike : (heap : List Block) (value : Value) (byte : ℕ) → IsFresh heap value
    → Alike IsHarmless (map still_block) (IsStored heap) (store_through heap value byte) (store_through (map still_block heap) (still_value value) byte)
store_through-alike heap nil byte fresh = (refl, λ pos misuse. misuse)
store_through-alike heap (handle named) byte fresh = (refl, λ pos misuse. misuse)
store_through-alike heap (number n) byte fresh = (refl, λ pos misuse. misuse)
store_through-alike heap (spot s) byte fresh = rw (block_at-still heap s.block) (go (block_at heap s.block) refl fresh)
  where
    go : (found : Option Block) → block_at heap s.block ≡ found → ((block : Block) → found ≡ Some block → s.epoch ≡ block.epoch)
        → Alike IsHarmless (map still_block) (IsStored heap) (store_if heap s byte found)
        (store_if (map still_block heap) (record s { epoch = 0 }) byte (option_map still_block found))
    go None there fresh_here = (refl, λ pos misuse. misuse)
    go (Some block) there fresh_here =
        subst
        (λ (at : Result ℕ HeapStop). Alike IsHarmless (map still_block) (IsStored heap)
        (put_result heap s.block (stored s (cell.Byte byte ∷ []) block))
        (put_result (map still_block heap) s.block (stored_at (cell.Byte byte ∷ []) (still_block block) at)))
        (sym (place_for-still s 1 block (fresh_here block refl)))
        (at_place_of (place_for s 1 block) refl)
      where
        at_place_of : (at : Result ℕ HeapStop) → place_for s 1 block ≡ at
            → Alike IsHarmless (map still_block) (IsStored heap) (put_result heap s.block (stored_at (cell.Byte byte ∷ []) block at))
            (put_result (map still_block heap) s.block (stored_at (cell.Byte byte ∷ []) (still_block block) at))
        at_place_of (Ok at) is = (
          ap Ok (put_block-still heap s.block (with_cells at (cell.Byte byte ∷ []) block)),
          record {
            place = s.block;
            block = block;
            cells = take at block.cells ++ (cell.Byte byte ∷ []) ++ drop (at + 1) block.cells;
            is_block = there;
            is_after = refl;
          },
        )
        at_place_of (Err why) is = (refl, harmless_place s 1 block why (fresh_here block refl) is)

-- the pointer that the handle's master pointer gives
pub record IsMaster (heap : List Block) (value got : Value) : Type 0 where
  pub named : ℕ
  pub block : Block
  pub s : Spot
  pub is_handle : value ≡ handle named
  pub is_block : block_at heap named ≡ Some block
  pub is_spot : got ≡ spot s
  pub is_place : s.block ≡ named
  pub is_fresh : s.epoch ≡ block.epoch

-- a pointer taken from a handle of a plain heap is the same one
pub derive_through-alike : (heap : List Block) → Each IsPlain heap → (value : Value)
    → Alike IsHarmless still_value (IsMaster heap value) (derive_through heap value) (derive_through (map still_block heap) (still_value value))
derive_through-alike heap plain nil = (refl, λ pos misuse. misuse)
derive_through-alike heap plain (number n) = (refl, λ pos misuse. misuse)
derive_through-alike heap plain (spot s) = (refl, λ pos misuse. misuse)
derive_through-alike heap plain (handle named) = rw (block_at-still heap named) (go (block_at heap named) refl)
  where
    go : (block : Option Block) → block_at heap named ≡ block
        → Alike IsHarmless still_value (IsMaster heap (handle named)) (master_if named block)
        (master_if named (option_map still_block block))
    go None found = (refl, λ pos misuse. misuse)
    go (Some block) found = rw ((block_at-plain heap plain named block found).is_present) (
      refl,
      record {
        named = named;
        block = block;
        s = record { block = named; life = block.life; epoch = block.epoch; offset = integer 0 };
        is_handle = refl;
        is_block = found;
        is_spot = refl;
        is_place = refl;
        is_fresh = refl;
      },
    )

-- the heap with the lock of the handle's block set or cleared, or the same heap
pub record IsLocked (on : Bool) (heap : List Block) (named : ℕ) (after : List Block) : Type 0 where
  pub block : Block
  pub is_block : block_at heap named ≡ Some block
  pub is_after : after ≡ put_block heap named (record block { locked = on })

-- what HLock or HUnlock of the value leaves of the heap
abbrev pub IsLockedThrough : Bool → List Block → Value → List Block → Type 0
IsLockedThrough on heap nil after = after ≡ heap
IsLockedThrough on heap (handle named) after = IsLocked on heap named after
IsLockedThrough on heap (number n) after = ⊥
IsLockedThrough on heap (spot s) after = ⊥

-- HLock and HUnlock do the same to a plain heap and to the still one
pub lock_through-alike : (on : Bool) (heap : List Block) → Each IsPlain heap → (value : Value)
    → Alike IsHarmless (map still_block) (IsLockedThrough on heap value) (lock_through on heap value)
    (lock_through on (map still_block heap) (still_value value))
lock_through-alike on heap plain nil = (refl, refl)
lock_through-alike on heap plain (number n) = (refl, λ pos misuse. misuse)
lock_through-alike on heap plain (spot s) = (refl, λ pos misuse. misuse)
lock_through-alike on heap plain (handle named) = rw (block_at-still heap named) (go (block_at heap named) refl)
  where
    go : (block : Option Block) → block_at heap named ≡ block
        → Alike IsHarmless (map still_block) (IsLocked on heap named) (lock_if on heap named block)
        (lock_if on (map still_block heap) named (option_map still_block block))
    go None found = (refl, λ pos misuse. misuse)
    go (Some block) found =
        rw ((block_at-plain heap plain named block found).is_present)
        (ap Ok (put_block-still heap named (record block { locked = on })), record { block = block; is_block = found; is_after = refl })

-- the pointers that the expression uses are fresh
abbrev pub IsFreshUse : State → ℕ → Type 0
IsFreshUse state pointer = (value : Value) → lookup state.variables pointer ≡ Some value → IsFresh state.heap value

-- an expression whose pointers are fresh has the still value
pub eval-alike : (state : State) (value : Expr) → Each (IsFreshUse state) (expr_uses value)
    → Alike IsHarmlessHalt still_value (λ got. Unit {0}) (eval state value) (eval (still state) value)
eval-alike state (expr.Letter pos letter) fresh =
    alike_at_place _ _ pos _ _ (alike_weaken IsHarmless still_value _ _ _ _ (value_of-alike state letter) (λ value is_value. tt))
eval-alike state (expr.Load pos pointer) fresh =
    alike_then _ _ _ _ _ _ _ _ (alike_at_place _ _ pos _ _ (value_of-alike state pointer))
    (λ from is_value. alike_at_place _ _ pos _ _ (load_through-alike state.heap from (fresh.0 from is_value)))
eval-alike state (expr.Number value) fresh = (refl, tt)
