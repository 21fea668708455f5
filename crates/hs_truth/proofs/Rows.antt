-- Worked rows: what must facts say of a call on a machine of two blocks. The first one is locked, and the second one is not.
--     machine           x has a handle of block 1, y one of block 2, and z has NIL
--     here              a call with a handle of block 2 under NIL on its stack
use Rattle.std.proofs.Common.{◌≡◌, ℕ, true, false, Bool, [], ◌∷◌, Some, refl, inl, true≢false, sym}
use Rattle.hs_calls.specs.Calls.{Here}
use Rattle.hs_facts.specs.MustFacts.{With, Locked, Distinct, New}
use Rattle.hs_heap.specs.Blocks.{Block}
use Rattle.hs_heap.specs.declared.cell.Pointer.TheVariants.{Nil, Handle}
use Rattle.hs_heap.specs.declared.presence.Presence.TheVariants.{Present}
use Rattle.hs_meaning.specs.Machine.{Machine, slot}
use Rattle.hs_meaning.specs.Values.{Value, pointer}
use Rattle.hs_tree.specs.declared.head.Variable.{Variable}
use Rattle.hs_tree.specs.declared.head.Variable.TheVariants as name
use Rattle.hs_truth.specs.Places.{at_place}
use Rattle.hs_truth.specs.Truth.{Says}

-- a block without cells
abbrev block : Bool → Block
block locked = record { cells = []; life = 0; epoch = 0; locked = locked; purgeable = false; presence = Present }

-- with three variables
abbrev machine : Machine
machine =
    record {
      blocks = block true ∷ block false ∷ [];
      objects = [];
      globals = [];
      locals = slot (Some (pointer (Handle 1))) ∷ slot (Some (pointer (Handle 2))) ∷ slot (Some (pointer Nil)) ∷ [];
      frames = 1;
      bytes = [];
      words = [];
      refused = [];
      allocations = 2;
      output = [];
    }

-- the variables
abbrev x : Variable
x = name.Local 0

abbrev y : Variable
y = name.Local 1

abbrev z : Variable
z = name.Local 2

module _ (call : Here) where
  -- its stack
  abbrev here : Here
  here = record call { stack = pointer Nil ∷ pointer (Handle 2) ∷ [] }

  places : (at_place 0 here.stack ≡ Some (pointer (Handle 2))) × (at_place 1 here.stack ≡ Some (pointer Nil))
  places = (refl, refl)

  -- the place has the value of y, and not that of x
  with_y : Says here machine (With 0 y)
  with_y = (pointer (Handle 2), refl, refl)

  not_with_x : ¬ (Says here machine (With 0 x))
  not_with_x says = absurd (differ says.0 says.1 says.2)
    where
      differ : (v : Value) → Some (pointer (Handle 2)) ≡ Some v → Some (pointer (Handle 1)) ≡ Some v → ⊥
      differ v is so = cc

  -- NIL is new
  new_nil : Says here machine (New 1)
  new_nil = inl refl

  -- the block of y can move
  not_locked_y : ¬ (Says here machine (Locked y))
  not_locked_y says = true≢false (sym (says 2 refl))

  -- a name without a handle is locked
  locked_z : Says here machine (Locked z)
  locked_z n holds = absurd (no_handle n holds)
    where
      no_handle : (n : ℕ) → Some (pointer Nil) ≡ Some (pointer (Handle n)) → ⊥
      no_handle n so = cc

  -- x and y are apart, and x is not apart from itself
  apart : Says here machine (Distinct x y)
  apart n one other = absurd (differ n one other)
    where
      differ : (n : ℕ) → Some (pointer (Handle 1)) ≡ Some (pointer (Handle n)) → Some (pointer (Handle 2)) ≡ Some (pointer (Handle n)) → ⊥
      differ n is so = cc

  not_apart : ¬ (Says here machine (Distinct x x))
  not_apart says = says 1 refl refl
