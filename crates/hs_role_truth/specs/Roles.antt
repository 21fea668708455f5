-- What the role of a routine owes, which leaves one value, and that the facts that it gives are then true (own).
--     RoleOwes         what a role owes
--     role_true        the facts after it are true
use Rattle.std.proofs.Common.{◌≡◌, ◌<◌, ◌≤◌, ◌-◌, ◌⊎◌, inl, inr, ℕ, Bool, true, List, ◌∷◌, length, Option, Some, sym, ◌∙◌, subst, arith}
use Rattle.std.proofs.lemmas.Option.{same_Some}
use Rattle.hs_calls.specs.Calls.{Here, moved, fixed_in}
use Rattle.hs_code.specs.Stacks.{Scope}
use Rattle.hs_code.specs.declared.function_code.FunctionCode.{FunctionCode}
use Rattle.hs_code.specs.declared.op.Op.TheVariants as op
use Rattle.hs_facts.specs.Changes.{Impact, StaysInRole, UsedIf, BroughtByRole, MadeIf, Gives}
use Rattle.hs_facts.specs.MustFacts.{Keeper, MustFact, Saved, Kept, Locked, Live, on_stack, Under, AreNames}
use Rattle.hs_facts.specs.Names.{role_at, makes_handle, taken, uses_handle}
use Rattle.hs_hiding.specs.Holding.{Lacking, IsMade, HoldsHandle, IsPresent, Lacks, value_of, IsAlive}
use Rattle.hs_meaning.specs.Machine.{Machine}
use Rattle.hs_meaning.specs.Values.{Value, state}
use Rattle.hs_table.specs.declared.role.Role.{Role}
use Rattle.hs_tree.specs.declared.head.Variable.{Variable}
use Rattle.hs_truth.specs.Frames.{frame_true, GivenByFrame, IsAbove}
use Rattle.hs_truth.specs.Places.{place_low, OthersLack, under_top, at_place, the_top}
use Rattle.hs_truth.specs.Truth.{AllTrue, Says, ByteTrue, NewAt}

module _ (scope : Scope) (code : FunctionCode) (R : MustFact → Type 0) (r : Option Role) (makes : Bool) (first : ℕ) where
  -- what stays, and what comes
  abbrev pub Keeps : MustFact → Type 0
  Keeps fact = Under first fact × StaysInRole R r first fact

  -- that a handle is live, what the role brings, and that a handle was made
  abbrev pub Brought : MustFact → Type 0
  Brought fact = UsedIf R (uses_handle r) first fact ⊎ BroughtByRole R r first fact ⊎ MadeIf makes first fact

  -- all that the role gives
  abbrev pub GivenByRole : MustFact → Type 0
  GivenByRole = GivenByFrame scope code R Keeps Brought first

  module _ (here : Here) (machine after : Machine) (since : ℕ → Type 0) (at : ℕ) (v : Value) (rest : List Value) (lasting : ℕ → Bool) where
    -- the call after it: the value has taken the place where the first argument was
    abbrev pub next : Here
    next = moved here at (v ∷ rest) lasting

    -- what a role owes
    pub record RoleOwes : Type 0 where
      pub deep : first ≡ length rest
      pub below : (i : ℕ) → i < length rest → at_place i rest ≡ at_place i here.stack
      pub values : (x : Variable) → value_of after x ≡ value_of machine x
      pub made : (n : ℕ) → IsMade machine n → IsMade after n
      pub lasted : (n : ℕ) → lasting n ≡ true → IsPresent after n → (here.lasting n ≡ true) × IsPresent machine n
      -- facts that stay
      pub locked : (y : Variable) (n : ℕ) → StaysInRole R r first (Locked y) → HoldsHandle machine y n → fixed_in machine n ≡ true
          → fixed_in after n ≡ true
      pub live : (y : Variable) (n : ℕ) → StaysInRole R r first (Live y) → HoldsHandle machine y n → IsAlive machine n → IsAlive after n
      pub kept : (b : Keeper) (y : Variable) (n : ℕ) → StaysInRole R r first (Kept b y) → HoldsHandle machine y n → IsMade machine n
          → IsPresent after n → IsPresent machine n
      pub new : (i n : ℕ) → i < length rest → NewAt here machine i n → IsAlive after n × Lacks n v × OthersLack n i rest × Lacking n after
      -- facts that come
      pub comes : (fact : MustFact) → AreNames scope code fact → Brought fact → Says next after fact
      pub saved_comes : (b : Keeper) (y : Variable) → Brought (Saved b y) → b ≡ on_stack first
      pub kept_comes : (b : Keeper) (y : Variable) (n : ℕ) → Brought (Kept b y)
          → (b ≡ on_stack first) ⊎ (HoldsHandle machine y n → ((z : Variable) → R (Saved b z) → HoldsHandle machine z n) → ⊥)
      pub top_byte : (byte : ℕ) → v ≡ state byte → ByteTrue GivenByRole lasting after (on_stack first) byte since

    module _ (are : AllTrue R here machine since) (owes : RoleOwes) where
      low_of : (i : ℕ) → i < first → i < length rest
      low_of i low = subst (λ n. i < n) owes.deep low

      above : (b : Keeper) → b ≡ on_stack first → IsAbove scope code R Keeps Brought first b
      above b is = (first, is, omega arith)

      -- a value at the first place or above is the one that the role leaves
      the_value : (i byte : ℕ) → first ≤ i → at_place i (v ∷ rest) ≡ Some (state byte) → (i ≡ first) × (v ≡ state byte)
      the_value i byte high held = (top, same_Some v (state byte) (sym (the_top i v rest (top ∙ owes.deep)) ∙ held))
        where
          top : i ≡ first
          top = omega (high, owes.deep, place_low i (v ∷ rest) (state byte) held, arith)

      kept_either : (b : Keeper) (y : Variable) (n : ℕ)
          → (b ≡ on_stack first) ⊎ (HoldsHandle machine y n → ((z : Variable) → R (Saved b z) → HoldsHandle machine z n) → ⊥)
          → IsAbove scope code R Keeps Brought first b ⊎ (HoldsHandle machine y n → ((z : Variable) → R (Saved b z) → HoldsHandle machine z n) → ⊥)
      kept_either b y n (inl is) = inl (above b is)
      kept_either b y n (inr never) = inr never

      pub role_true : AllTrue GivenByRole next after since
      role_true =
          frame_true scope code R Keeps Brought first here machine after since at (v ∷ rest) lasting are
          (record {
            under = λ fact keep. keep.0;
            places = λ i low. under_top i v rest (low_of i low) ∙ owes.below i (low_of i low);
            values = owes.values;
            made = owes.made;
            lasted = owes.lasted;
            locked = λ y n keep. owes.locked y n keep.1;
            live = λ y n keep. owes.live y n keep.1;
            kept = λ b y n keep. owes.kept b y n keep.1;
            new = λ i n keep it. on_new i n (owes.new i n (low_of i keep.0) it);
            comes = owes.comes;
            saved_comes = λ b y it. above b (owes.saved_comes b y it);
            kept_comes = λ b y n it. kept_either b y n (owes.kept_comes b y n it);
            top_bytes = λ i byte high held.
                subst (λ k. ByteTrue GivenByRole lasting after (on_stack k) byte since) (sym (the_value i byte high held).0)
                (owes.top_byte byte (the_value i byte high held).1);
          })
        where
          on_new : (i n : ℕ) → IsAlive after n × Lacks n v × OthersLack n i rest × Lacking n after
              → IsAlive after n × OthersLack n i (v ∷ rest) × Lacking n after
          on_new i n now = (now.0, (inr now.1, now.2), now.3)

-- the facts that a Routine gives are those of its role
pub as_role : (scope : Scope) (code : FunctionCode) (R : MustFact → Type 0) (impact : Impact) (place depth : ℕ) (fact : MustFact)
    → AreNames scope code fact × Gives scope code impact R (op.Routine place) depth fact
    → GivenByRole scope code R (role_at scope place) (makes_handle scope place) (depth - taken scope (op.Routine place)) fact
as_role scope code R impact place depth fact it = it
