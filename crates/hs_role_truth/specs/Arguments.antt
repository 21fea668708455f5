-- The arguments of a routine on the stack, and the blocks on which a role acts (own).
--     one_taken, two_taken      where the arguments are
--     handle_alive              the block of a handle that a role takes is not disposed of
use Rattle.std.proofs.Common.{◌≡◌, ◌-◌, ℕ, zero, suc, Bool, true, false, List, [], ◌∷◌, length, Option, Some, None, refl, sym, ap, ◌∙◌, subst, arith, ◌+◌, true≢false, ◌==◌, Result, Ok, Err, if◌then◌else◌, take, replicate, ◌++◌}
use Rattle.hs_code_run.specs.Steps.{taken, below, holds, onto, taken_onto}
use Rattle.hs_heap.specs.Blocks.{Block, standing, by_standing, changed, emptied, without_cells, reallocated, renewed, size_of, state_of, bit, is_disposed, last_life, resized}
use Rattle.hs_heap.specs.Memory.{block_at}
use Rattle.hs_heap.specs.declared.cell.Cell.TheVariants.{Undefined}
use Rattle.hs_heap.specs.declared.cell.Pointer.TheVariants.{Nil, Handle, Fixed, Spot}
use Rattle.hs_heap.specs.declared.presence.Presence.{Presence}
use Rattle.hs_heap.specs.declared.presence.Presence.TheVariants as presence
use Rattle.hs_heap.specs.declared.stop.HeapStop.{HeapStop}
use Rattle.hs_hiding.specs.Holding.{IsAlive}
use Rattle.hs_meaning.specs.Handles.{handle_stop, handle_stop_in}
use Rattle.hs_meaning.specs.Machine.{Machine}
use Rattle.hs_meaning.specs.Roles.{handle_stops}
use Rattle.hs_meaning.specs.Steps.{acts}
use Rattle.hs_meaning.specs.Stops.{Stops, first_stop, heap_stop}
use Rattle.hs_meaning.specs.Values.{Value, number, pointer, state, structure}
use Rattle.hs_meaning.specs.declared.outcome.Stop.{Stop}
use Rattle.hs_truth.specs.Places.{under_top, at_place, the_top}

-- ---- arguments

-- so many values are taken
taken_length : (k : ℕ) (stack onto : List Value) → holds k stack ≡ true → length (taken_onto k stack onto) ≡ k + length onto
taken_length zero stack onto is = omega arith
taken_length (suc k) [] onto is = absurd (true≢false (sym is))
taken_length (suc k) (v ∷ stack) onto is = taken_length k stack (v ∷ onto) is ∙ moved_one k (length onto)
  where
    moved_one : (a b : ℕ) → a + suc b ≡ suc a + b
    moved_one a b = omega arith

same_first : (a b : Value) (more rest : List Value) → a ∷ more ≡ b ∷ rest → a ≡ b
same_first a b more rest is = cc

same_second : (a b c d : Value) (more rest : List Value) → a ∷ c ∷ more ≡ b ∷ d ∷ rest → c ≡ d
same_second a b c d more rest is = cc

none_taken : (v : Value) (vs : List Value) → [] ≡ v ∷ vs → ⊥
none_taken v vs is = cc

not_so_many : (k n : ℕ) (values : List Value) (stack : List Value) → holds k stack ≡ true → taken k stack ≡ values → length values ≡ n → (k ≡ n → ⊥) → ⊥
not_so_many k n values stack held is so other = other (no_more k ∙ sym (taken_length k stack [] held) ∙ ap length is ∙ so)
  where
    no_more : (a : ℕ) → a ≡ a + 0
    no_more a = omega arith

-- the only argument is right above what stays
pub one_taken : (k : ℕ) (stack : List Value) (a : Value) → holds k stack ≡ true → taken k stack ≡ a ∷ [] → at_place (length (below k stack)) stack ≡ Some a
one_taken zero stack a held is = absurd (none_taken a [] is)
one_taken (suc zero) [] a held is = absurd (true≢false (sym held))
one_taken (suc zero) (v ∷ stack) a held is = the_top (length stack) v stack refl ∙ ap Some (same_first v a [] [] is)
one_taken (suc (suc k)) stack a held is = absurd (not_so_many (suc (suc k)) 1 (a ∷ []) stack held is refl (λ so. omega (so, arith)))

-- two of them
pub two_taken : (k : ℕ) (stack : List Value) (a b : Value) → holds k stack ≡ true → taken k stack ≡ a ∷ b ∷ []
    → (at_place (length (below k stack)) stack ≡ Some a) × (at_place (suc (length (below k stack))) stack ≡ Some b)
two_taken zero stack a b held is = absurd (none_taken a (b ∷ []) is)
two_taken (suc zero) stack a b held is = absurd (not_so_many (suc zero) 2 (a ∷ b ∷ []) stack held is refl (λ so. omega (so, arith)))
two_taken (suc (suc zero)) [] a b held is = absurd (true≢false (sym held))
two_taken (suc (suc zero)) (v ∷ []) a b held is = absurd (true≢false (sym held))
two_taken (suc (suc zero)) (v ∷ u ∷ stack) a b held is = (
  under_top (length stack) v (u ∷ stack) (omega arith) ∙ the_top (length stack) u stack refl ∙ ap Some (same_first u a (v ∷ []) (b ∷ []) is),
  the_top (suc (length stack)) v (u ∷ stack) refl ∙ ap Some (same_second u a v b [] [] is),
)
two_taken (suc (suc (suc k))) stack a b held is =
    absurd (not_so_many (suc (suc (suc k))) 2 (a ∷ b ∷ []) stack held is refl (λ so. omega (so, arith)))

-- ---- stops

-- what is tested later does not stop either
pub later_none : (why : Option Stop) (rest : Stops) → first_stop (why ∷ rest) ≡ None → first_stop rest ≡ None
later_none None rest is = is
later_none (Some why) rest is = absurd cc

-- ---- blocks on which a role acts

standing_alive : {A : Type 0} → (here gone x : A) (it : Presence) → by_standing here gone (standing it) ≡ Ok x → is_disposed it ≡ false
standing_alive here gone x presence.Present is = refl
standing_alive here gone x presence.Emptied is = refl
standing_alive here gone x presence.Purged is = refl
standing_alive here gone x presence.Disposed is = absurd cc

-- the block of a handle on which a role acts is not disposed of
pub handle_alive : {A : Type 0} → (role : Block → Result A HeapStop) → ((b : Block) (x : A) → role b ≡ Ok x → is_disposed b.presence ≡ false) → (a : Value)
    (machine : Machine) → first_stop (handle_stops role a machine) ≡ None → (n : ℕ) → a ≡ pointer (Handle n) → IsAlive machine n
handle_alive role acts (number bits) machine none n is = absurd cc
handle_alive role acts (state byte) machine none n is = absurd cc
handle_alive role acts (structure cells) machine none n is = absurd cc
handle_alive role acts (pointer Nil) machine none n is = absurd cc
handle_alive role acts (pointer (Fixed object at)) machine none n is = absurd cc
handle_alive role acts (pointer (Spot its)) machine none n is = absurd cc
handle_alive {A} role acts (pointer (Handle k)) machine none n is =
    subst (IsAlive machine) (same_handle k n is) (by_block (block_at machine.blocks k) refl (stop_none (handle_stop role (Handle k) machine) none))
  where
    same_handle : (a b : ℕ) → ◌≡◌ {A = Value} (pointer (Handle a)) (pointer (Handle b)) → a ≡ b
    same_handle a b so = cc

    stop_none : (why : Option Stop) → first_stop (why ∷ []) ≡ None → why ≡ None
    stop_none None so = refl
    stop_none (Some why) so = so

    by_role : (b : Block) → block_at machine.blocks k ≡ Some b → (r : Result A HeapStop) → role b ≡ r → heap_stop r ≡ None → IsAlive machine k
    by_role b there (Ok x) so stops = record { block = b; there = there; alive = acts b x so }
    by_role b there (Err why) so stops = absurd cc

    by_block : (found : Option Block) → block_at machine.blocks k ≡ found → handle_stop_in role found ≡ None → IsAlive machine k
    by_block None there stops = absurd cc
    by_block (Some b) there stops = by_role b there (role b) refl stops

-- the blocks on which each role acts
pub size_alive : (b : Block) (x : ℕ) → size_of b ≡ Ok x → is_disposed b.presence ≡ false
size_alive b x is = standing_alive (length b.cells) 0 x b.presence is

pub changed_alive : (change : Block → Block) (b x : Block) → changed change b ≡ Ok x → is_disposed b.presence ≡ false
changed_alive change b x is = standing_alive (change b) b x b.presence is

pub state_alive : (b : Block) (x : ℕ) → state_of b ≡ Ok x → is_disposed b.presence ≡ false
state_alive b x is = standing_alive (bit 128 b.locked + bit 64 b.purgeable) 0 x b.presence is

pub emptied_alive : (b x : Block) → emptied b ≡ Ok x → is_disposed b.presence ≡ false
emptied_alive b x is = by_life (b.life == last_life) is
  where
    by_life : (z : Bool) → (if z then changed (λ its. its) b else changed without_cells b) ≡ Ok x → is_disposed b.presence ≡ false
    by_life true is = changed_alive (λ its. its) b x is
    by_life false is = changed_alive without_cells b x is

pub realloc_alive : (size : ℕ) (b x : Block) → reallocated size b ≡ Ok x → is_disposed b.presence ≡ false
realloc_alive size b x is = by_lock b.locked is
  where
    by_lock : (z : Bool) → (if z then changed (λ its. its) b else by_standing (renewed size b) (renewed size b) (standing b.presence)) ≡ Ok x
        → is_disposed b.presence ≡ false
    by_lock true is = changed_alive (λ its. its) b x is
    by_lock false is = standing_alive (renewed size b) (renewed size b) x b.presence is

pub resized_alive : (size : ℕ) (b x : Block) → resized size b ≡ Ok x → is_disposed b.presence ≡ false
resized_alive size b x is =
    changed_alive (λ its. record its { cells = take size its.cells ++ replicate (size - length its.cells) Undefined }) b x is
