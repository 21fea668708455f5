-- What must facts say of the call that goes on (own).
--     Says here machine fact         what a fact says of one call; a fact about a byte says nothing alone
--     ByteTrue                       what the facts about one byte say together
--     AllTrue                        a set of facts is true
--     TrueFrom                       the facts of every round from one on are true
--     SoundAt, one_step, at_entry    what an operation owes, and how a call begins
--     byte_from                      a byte that stays, in the same keeper or in another one
use Rattle.std.proofs.Common.{◌≡◌, ◌≤◌, ◌⊎◌, inl, inr, ℕ, zero, suc, ◌%◌, nat_le, Bool, true, slice_get, Option, Some, None, refl, sym, ◌∙◌, arith}
use Rattle.hs_calls.specs.Calls.{Here, moved, fixed_in}
use Rattle.hs_code.specs.Following.{IsNext}
use Rattle.hs_code.specs.Stacks.{Scope}
use Rattle.hs_code.specs.declared.function_code.FunctionCode.{FunctionCode}
use Rattle.hs_code.specs.declared.function_code.Placed.{Placed}
use Rattle.hs_facts.specs.Changes.{Impact, Gives}
use Rattle.hs_facts.specs.MustFacts.{MustFact, With, Saved, Kept, Locked, Live, Distinct, New, Keeper, on_stack, in_slot, AreNames}
use Rattle.hs_facts.specs.Rounds.{HoldsIn}
use Rattle.hs_heap.specs.Blocks.{Block}
use Rattle.hs_heap.specs.Memory.{block_at}
use Rattle.hs_heap.specs.Shift.{is_present}
use Rattle.hs_heap.specs.declared.cell.Pointer.TheVariants.{Nil, Handle}
use Rattle.hs_hiding.specs.Holding.{Lacking, IsMade, HoldsHandle, IsPresent, value_of, IsAlive}
use Rattle.hs_meaning.specs.Machine.{Machine}
use Rattle.hs_meaning.specs.Values.{Value, pointer, state}
use Rattle.hs_tree.specs.declared.head.Variable.{Variable}
use Rattle.hs_truth.specs.Places.{OthersLack, at_place}

-- what a keeper has
abbrev pub kept_in : Here → Machine → Keeper → Option Value
kept_in here machine (on_stack i) = at_place i here.stack
kept_in here machine (in_slot b) = value_of machine b

-- ---- facts that are true one by one

module _ (here : Here) (machine : Machine) where
  -- the place has the handle of that block, and nothing else has
  pub record NewAt (i n : ℕ) : Type 0 where
    pub holds : at_place i here.stack ≡ Some (pointer (Handle n))
    pub alive : IsAlive machine n
    pub others : OthersLack n i here.stack
    pub nowhere : Lacking n machine

  -- it is defined, and no disposed handle
  pub record LiveValue (x : Variable) : Type 0 where
    pub value : Value
    pub holds : value_of machine x ≡ Some value
    pub alive : (n : ℕ) → value ≡ pointer (Handle n) → IsAlive machine n

  -- what a fact says; the facts about bytes say nothing one by one (`ByteTrue`)
  abbrev pub Says : MustFact → Type 0
  Says (With i x) = (v : Value) × (at_place i here.stack ≡ Some v) × (value_of machine x ≡ Some v)
  Says (Locked x) = (n : ℕ) → HoldsHandle machine x n → fixed_in machine n ≡ true
  Says (Live x) = LiveValue x
  Says (Distinct x y) = (n : ℕ) → HoldsHandle machine x n → HoldsHandle machine y n → ⊥
  Says (New i) = (at_place i here.stack ≡ Some (pointer Nil)) ⊎ ((n : ℕ) × NewAt i n)
  Says (Saved b x) = Unit {0}
  Says (Kept b x) = Unit {0}

-- ---- bytes

-- All facts about the byte of a keeper are of one origin: the block of which it was read, if any. `since n` is what a purgeable bit shows of
-- the beginning of the call.
pub record ByteTrue (R : MustFact → Type 0) (lasting : ℕ → Bool) (machine : Machine) (b : Keeper) (byte : ℕ) (since : ℕ → Type 0) : Type 0 where
  pub origin : Option ℕ
  pub there : (n : ℕ) → origin ≡ Some n → IsMade machine n
  pub read : (x : Variable) (n : ℕ) → R (Saved b x) → HoldsHandle machine x n → origin ≡ Some n
  pub made : (x : Variable) (n : ℕ) → R (Saved b x) → origin ≡ Some n → HoldsHandle machine x n
  pub lasts : (n : ℕ) (block : Block) → origin ≡ Some n → lasting n ≡ true → block_at machine.blocks n ≡ Some block
      → is_present block.presence ≡ true → nat_le 128 byte ≡ true
  pub keeps : (y : Variable) (n : ℕ) (block : Block) → R (Kept b y) → HoldsHandle machine y n → origin ≡ Some n
      → block_at machine.blocks n ≡ Some block → is_present block.presence ≡ true → nat_le 128 byte ≡ true
  pub marks : (n : ℕ) → origin ≡ Some n → nat_le 64 (byte % 128) ≡ true → since n

-- the same byte in that keeper or another one, later or now
module _ (R R' : MustFact → Type 0) (lasting lasting' : ℕ → Bool) (machine machine' : Machine) (since : ℕ → Type 0) (b b' : Keeper) (byte : ℕ)
    (exists : (n : ℕ) → IsMade machine n → IsMade machine' n)
    (saved : (x : Variable) → R' (Saved b' x) → R (Saved b x) × (value_of machine' x ≡ value_of machine x))
    (lasted : (n : ℕ) → lasting' n ≡ true → IsPresent machine' n → (lasting n ≡ true) × IsPresent machine n)
    (kept : (y : Variable) (n : ℕ) → R' (Kept b' y) → HoldsHandle machine' y n → IsMade machine n → IsPresent machine' n
    → ((z : Variable) → R (Saved b z) → HoldsHandle machine z n)
    → (x : Variable) × R (Kept b x) × HoldsHandle machine x n × IsPresent machine n) where
  pub byte_from : ByteTrue R lasting machine b byte since → ByteTrue R' lasting' machine' b' byte since
  byte_from its =
      record {
        origin = its.origin;
        there = λ n is. exists n (its.there n is);
        read = λ x n so holds. its.read x n (saved x so).0 (sym (saved x so).1 ∙ holds);
        made = λ x n so is. (saved x so).1 ∙ its.made x n (saved x so).0 is;
        lasts = λ n block is lasts there present. by_last n is (lasted n lasts (record { block = block; there = there; present = present }));
        keeps = λ y n block so holds is there present. by_kept n is
            (kept y n so holds (its.there n is) (record { block = block; there = there; present = present }) (λ z is'. its.made z n is' is));
        marks = its.marks;
      }
    where
      by_last : (n : ℕ) → its.origin ≡ Some n → (lasting n ≡ true) × IsPresent machine n → nat_le 128 byte ≡ true
      by_last n is old = its.lasts n old.1.block is old.0 old.1.there old.1.present

      by_kept : (n : ℕ) → its.origin ≡ Some n → (x : Variable) × R (Kept b x) × HoldsHandle machine x n × IsPresent machine n → nat_le 128 byte ≡ true
      by_kept n is old = its.keeps old.0 n old.3.block old.1 old.2 is old.3.there old.3.present

-- ---- all facts

-- each fact of a set is true, and those about one byte are true together
pub record AllTrue (R : MustFact → Type 0) (here : Here) (machine : Machine) (since : ℕ → Type 0) : Type 0 where
  pub says : (fact : MustFact) → R fact → Says here machine fact
  pub bytes : (b : Keeper) (byte : ℕ) → kept_in here machine b ≡ Some (state byte) → ByteTrue R here.lasting machine b byte since

-- of fewer facts
pub fewer : (R less : MustFact → Type 0) (here : Here) (machine : Machine) (since : ℕ → Type 0) → ((fact : MustFact) → less fact → R fact)
    → AllTrue R here machine since → AllTrue less here machine since
fewer R less here machine since are its =
    record {
      says = λ fact so. its.says fact (are fact so);
      bytes = λ b byte held.
          byte_from R less here.lasting here.lasting machine machine since b b byte
          (λ n is. is)
          (λ x so. (are (Saved b x) so, refl))
          (λ n lasts is. (lasts, is))
          (λ y n so holds there is origin. (y, are (Kept b y) so, holds, is))
          (its.bytes b byte held);
    }

-- of fewer blocks that lasted
pub shorter : (R : MustFact → Type 0) (here : Here) (machine : Machine) (since : ℕ → Type 0) (lasting : ℕ → Bool)
    → ((n : ℕ) → lasting n ≡ true → here.lasting n ≡ true) → AllTrue R here machine since → AllTrue R (moved here here.at here.stack lasting) machine since
shorter R here machine since lasting less its =
    record {
      says = by_fact;
      bytes = λ b byte held.
          byte_from R R here.lasting lasting machine machine since b b byte (λ n is. is) (λ x so. (so, refl)) (λ n lasts is. (less n lasts, is))
          (λ y n so holds there is origin. (y, so, holds, is)) (its.bytes b byte (kept b ∙ held));
    }
  where
    kept : (b : Keeper) → kept_in here machine b ≡ kept_in (moved here here.at here.stack lasting) machine b
    kept (on_stack i) = refl
    kept (in_slot b) = refl

    by_new : (i : ℕ) → (at_place i here.stack ≡ Some (pointer Nil)) ⊎ ((n : ℕ) × NewAt here machine i n)
        → (at_place i here.stack ≡ Some (pointer Nil)) ⊎ ((n : ℕ) × NewAt (moved here here.at here.stack lasting) machine i n)
    by_new i (inl nil) = inl nil
    by_new i (inr new) =
        inr (new.0, record { holds = new.1.holds; alive = new.1.alive; others = new.1.others; nowhere = new.1.nowhere })

    by_live : (x : Variable) → LiveValue here machine x → LiveValue (moved here here.at here.stack lasting) machine x
    by_live x is = record { value = is.value; holds = is.holds; alive = is.alive }

    by_fact : (fact : MustFact) → R fact → Says (moved here here.at here.stack lasting) machine fact
    by_fact (With i x) so = its.says (With i x) so
    by_fact (Locked x) so = its.says (Locked x) so
    by_fact (Live x) so = by_live x (its.says (Live x) so)
    by_fact (Distinct x y) so = its.says (Distinct x y) so
    by_fact (New i) so = by_new i (its.says (New i) so)
    by_fact (Saved b x) so = tt
    by_fact (Kept b x) so = tt

-- ---- rounds

module _ (scope : Scope) (code : FunctionCode) (impact : Impact) (since : ℕ → Type 0) where
  -- after that many operations of the call
  abbrev pub TrueFrom : ℕ → Here → Machine → Type 0
  TrueFrom round here machine = (n : ℕ) → round ≤ n → AllTrue (HoldsIn scope code impact n here.at) here machine since

  -- nothing holds at operation 0
  pub at_entry : (here : Here) (machine : Machine) → here.at ≡ 0 → TrueFrom zero here machine
  at_entry here machine is n low =
      record {
        says = λ fact so. absurd (never n fact so);
        bytes = λ b byte held.
            record {
              origin = None;
              there = λ m so. absurd cc;
              read = λ x m so. absurd (never n (Saved b x) so);
              made = λ x m so. absurd (never n (Saved b x) so);
              lasts = λ m block so. absurd cc;
              keeps = λ y m block so. absurd (never n (Kept b y) so);
              marks = λ m so. absurd cc;
            };
      }
    where
      never : (n : ℕ) (fact : MustFact) → HoldsIn scope code impact n here.at fact → ⊥
      never zero fact so = so.1 is
      never (suc n) fact so = so.1 is

  -- what an operation gives, of names. Without names it would give Distinct(x, x).
  abbrev pub Given : (MustFact → Type 0) → Placed → MustFact → Type 0
  Given R its fact = AreNames scope code fact × Gives scope code impact R its.op its.places fact

  -- what an operation owes: rounds are gone. The facts before it are of names too
  abbrev pub SoundAt : Placed → Here → Machine → Here → Machine → Type 1
  SoundAt its here machine next after =
      (R : MustFact → Type 0) → ((fact : MustFact) → R fact → AreNames scope code fact) → AllTrue R here machine since
      → AllTrue (Given R its) next after since

  pub one_step : (round : ℕ) (its : Placed) (here next : Here) (machine after : Machine) → slice_get code.ops here.at ≡ Some its
      → IsNext its.op code.cases here.at next.at → SoundAt its here machine next after → TrueFrom round here machine
      → TrueFrom (suc round) next after
  one_step round its here next machine after there goes sound are zero low = absurd (omega (low, arith))
  one_step round its here next machine after there goes sound are (suc n) low =
      fewer (Given (HoldsIn scope code impact n here.at) its) (HoldsIn scope code impact (suc n) next.at) next after since
      (λ fact so. (so.0.2.named, so.2 here.at its there goes))
      (sound (HoldsIn scope code impact n here.at) (λ fact so. names n fact so) (are n (omega (low, arith))))
    where
      names : (n : ℕ) (fact : MustFact) → HoldsIn scope code impact n here.at fact → AreNames scope code fact
      names zero fact so = so.0.2.named
      names (suc n) fact so = so.0.2.named
