-- A pointer that a load puts together from four cells is, apart from its offset, one of the pointers whose parts they are (own).
--     pointer_is       what holds of each part that was stored through the class of the load, if it holds of NIL and depends on block and epoch alone
use Rattle.std.proofs.Common.{◌≡◌, ◌≤◌, ◌⊎◌, inl, inr, ℕ, min, ◌==◌, ◌&&◌, Bool, true, false, List, [], ◌∷◌, Option, Some, None, refl, sym, arith, true≢false, if◌then◌else◌}
use Rattle.std.proofs.lemmas.Bool.{and_parts}
use Rattle.std.proofs.lemmas.Bool.Decides.{nat_tests}
use Rattle.std.specs.List.{AllByRecursion, list_all}
use Rattle.hs_heap.specs.declared.cell.Cell.{Cell}
use Rattle.hs_heap.specs.declared.cell.Cell.TheVariants.{Undefined, Byte, State, Part}
use Rattle.hs_heap.specs.declared.cell.Pointer.{Pointer}
use Rattle.hs_heap.specs.declared.cell.Pointer.TheVariants.{Nil, Fixed, Handle, Spot}
use Rattle.hs_heap.specs.declared.cell.Spot as spot
use Rattle.hs_meaning.specs.Values.{epoch_of, with_epoch, are_one_pointer, part_in, joined, whole_in, pointer_at, is_zero}

-- what is known of a pointer by its block and its epoch
module _ (P : Pointer → Type 0) (nil : P Nil) (like : (a b : spot.Spot) → a.block ≡ b.block → a.epoch ≡ b.epoch → P (Spot a) → P (Spot b)) where
  -- of a pointer that may be there
  abbrev pub IfThere : Option Pointer → Type 0
  IfThere None = Unit {0}
  IfThere (Some p) = P p

  same_block : (a b : spot.Spot) → are_one_pointer (Spot a) (Spot b) ≡ true → a.block ≡ b.block
  same_block a b is = grind (is, nat_tests, arith)

  below : (a b : ℕ) → a ≤ b → min a b ≡ a
  below a b is = omega (arith, is)

  above : (a b : ℕ) → b ≤ a → min a b ≡ b
  above a b is = omega (arith, is)

  lesser : (a b : ℕ) → (min a b ≡ a) ⊎ (min a b ≡ b)
  lesser a b = by_test (Rattle.std.specs.Prelude.nat_le a b) refl
    where
      by_test : (z : Bool) → Rattle.std.specs.Prelude.nat_le a b ≡ z → (min a b ≡ a) ⊎ (min a b ≡ b)
      by_test true is = inl (below a b (grind (is, nat_tests, arith)))
      by_test false is = inr (above a b (grind (is, nat_tests, arith)))

  spots : (a b : spot.Spot) → a.block ≡ b.block → P (Spot a) → P (Spot b) → P (Spot (record a { epoch = min a.epoch b.epoch }))
  spots a b one first second = by_least (lesser a.epoch b.epoch)
    where
      by_least : (min a.epoch b.epoch ≡ a.epoch) ⊎ (min a.epoch b.epoch ≡ b.epoch) → P (Spot (record a { epoch = min a.epoch b.epoch }))
      by_least (inl is) = like a (record a { epoch = min a.epoch b.epoch }) refl (sym is) first
      by_least (inr is) = like b (record a { epoch = min a.epoch b.epoch }) (sym one) (sym is) second

  one_of : (a b : Pointer) → are_one_pointer a b ≡ true → P a → P b → P (with_epoch (min (epoch_of a) (epoch_of b)) a)
  one_of Nil b is first second = first
  one_of (Fixed object at) b is first second = first
  one_of (Handle n) b is first second = first
  one_of (Spot a) (Spot b) is first second = spots a b (same_block a b is) first second
  one_of (Spot a) Nil is first second = absurd (true≢false (sym is))
  one_of (Spot a) (Fixed object at) is first second = absurd (true≢false (sym is))
  one_of (Spot a) (Handle n) is first second = absurd (true≢false (sym is))

  joins : (a b : Option Pointer) → IfThere a → IfThere b → IfThere (joined a b)
  joins None b first second = tt
  joins (Some a) None first second = tt
  joins (Some a) (Some b) first second = by_test (are_one_pointer a b) refl
    where
      by_test : (z : Bool) → are_one_pointer a b ≡ z → IfThere (if z then Some (with_epoch (min (epoch_of a) (epoch_of b)) a) else None)
      by_test true is = one_of a b is first second
      by_test false is = tt

  -- parts that were stored through the class
  module _ (class : ℕ) where
    -- of the pointer of a part that was stored through the class
    abbrev pub PartOf : Cell → Type 0
    PartOf (Part at its c) = c ≡ class → P its
    PartOf cell = Unit {0}

    part_is : (at : ℕ) (cell : Cell) → PartOf cell → IfThere (part_in class at cell)
    part_is at Undefined is = tt
    part_is at (Byte byte) is = tt
    part_is at (State byte) is = tt
    part_is at (Part i its c) is = by_test ((i == at) && (c == class)) refl
      where
        by_test : (z : Bool) → ((i == at) && (c == class)) ≡ z → IfThere (if z then Some its else None)
        by_test true both = is (grind ((and_parts (i == at) (c == class) both).1, nat_tests, arith))
        by_test false both = tt

    whole_is : (cells : List Cell) → AllByRecursion PartOf cells → IfThere (whole_in class cells)
    whole_is [] are = tt
    whole_is (a ∷ []) are = tt
    whole_is (a ∷ b ∷ []) are = tt
    whole_is (a ∷ b ∷ c ∷ []) are = tt
    whole_is (a ∷ b ∷ c ∷ d ∷ []) are =
        joins (joined (joined (part_in class 0 a) (part_in class 1 b)) (part_in class 2 c)) (part_in class 3 d)
        (joins (joined (part_in class 0 a) (part_in class 1 b)) (part_in class 2 c)
        (joins (part_in class 0 a) (part_in class 1 b) (part_is 0 a are.0) (part_is 1 b are.1.0)) (part_is 2 c are.1.1.0)) (part_is 3 d are.1.1.1.0)
    whole_is (a ∷ b ∷ c ∷ d ∷ e ∷ cells) are = tt

    -- what a load of cells gives
    pub pointer_is : (cells : List Cell) → AllByRecursion PartOf cells → IfThere (pointer_at class cells)
    pointer_is cells are = by_test (list_all is_zero cells)
      where
        by_test : (z : Bool) → IfThere (if z then Some Nil else whole_in class cells)
        by_test true = nil
        by_test false = whole_is cells are
