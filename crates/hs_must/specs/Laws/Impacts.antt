-- What calls do counts, and not how it is said.
--     Holds-impact      if two impacts say the same of each call, the same facts hold
use Rattle.std.proofs.Common.{inl, inr}
use Rattle.std.specs.Prelude.{ℕ, zero, suc}
use Rattle.hs_code.specs.Stacks.{Scope}
use Rattle.hs_code.specs.declared.function_code.FunctionCode.{FunctionCode}
use Rattle.hs_code.specs.declared.op.Op.{Op}
use Rattle.hs_code.specs.declared.op.Op.TheVariants as op
use Rattle.hs_facts.specs.Changes.{Impact, StaysInCall, Gives}
use Rattle.hs_facts.specs.Laws.More.{Gives-more}
use Rattle.hs_facts.specs.MustFacts.{MustFact, With, Saved, Kept, Locked, Live, Distinct, New}
use Rattle.hs_facts.specs.Rounds.{HoldsIn, Holds}

-- the second one says no more of a call than the first
pub record SaysLess (one two : Impact) : Type 0 where
  pub assigns : (f g : ℕ) → two.assigns f g → one.assigns f g
  pub unlocks : (f : ℕ) → two.unlocks f → one.unlocks f
  pub disposes : (f : ℕ) → two.disposes f → one.disposes f

module _ (one two : Impact) (less : SaysLess one two) where
  in_call : (f : ℕ) (fact : MustFact) → StaysInCall one f fact → StaysInCall two f fact
  in_call f (With p x) h = h
  in_call f (Saved b x) h = h
  in_call f (Kept b x) h = λ its. h (less.unlocks f its)
  in_call f (Locked x) h = λ its. h (less.unlocks f its)
  in_call f (Live x) h = λ its. h (less.disposes f its)
  in_call f (Distinct x y) h = h
  in_call f (New p) h = h

  module _ (scope : Scope) (code : FunctionCode) (R : MustFact → Type 0) where
    gives_less : (its : Op) (depth : ℕ) (fact : MustFact) → Gives scope code one R its depth fact → Gives scope code two R its depth fact
    gives_less (op.Num bits) depth fact h = h
    gives_less op.Nil depth fact h = h
    gives_less (op.Address its) depth fact h = h
    gives_less (op.Get v) depth fact h = h
    gives_less (op.Set v) depth fact h = h
    gives_less (op.Load its) depth fact h = h
    gives_less (op.Store its) depth fact h = h
    gives_less op.Drop depth fact h = h
    gives_less op.Dup depth fact h = h
    gives_less op.Tuck depth fact h = h
    gives_less (op.Conv kind) depth fact h = h
    gives_less (op.Unary its) depth fact h = h
    gives_less (op.Binary its kind) depth fact h = h
    gives_less op.IsNil depth fact h = h
    gives_less (op.Compare its) depth fact h = h
    gives_less (op.Difference size) depth fact h = h
    gives_less (op.Offset bytes) depth fact h = h
    gives_less (op.Step stride pointer_first) depth fact h = h
    gives_less (op.Jump target) depth fact h = h
    gives_less (op.Zero target) depth fact h = h
    gives_less (op.Choose goal) depth fact h = h
    gives_less (op.Shift place) depth fact h = h
    gives_less (op.Routine place) depth fact h = h
    gives_less (op.Call f) depth fact (inl h) = inl ((h.0.0, in_call f fact h.0.1, λ g a. h.0.2 g (less.assigns f g a)), h.1)
    gives_less (op.Call f) depth fact (inr h) = inr h
    gives_less op.Return depth fact h = h
    gives_less op.Turn depth fact h = h
    gives_less op.Mark depth fact h = h
    gives_less (op.Pick target) depth fact h = h
    gives_less (op.Bring place) depth fact h = h

  in_round : (scope : Scope) (code : FunctionCode) (round at : ℕ) (fact : MustFact) → HoldsIn scope code one round at fact
      → HoldsIn scope code two round at fact
  in_round scope code zero at fact h = h
  in_round scope code (suc round) at fact h = (
    h.0,
    h.1,
    λ from its there next.
        gives_less scope code (HoldsIn scope code two round from) its.op its.places fact
        (Gives-more (HoldsIn scope code one round from) (HoldsIn scope code two round from) (λ it. in_round scope code round from it) scope code one
        its.op its.places fact (h.2 from its there next)),
  )

  pub Holds-impact : (scope : Scope) (code : FunctionCode) (at : ℕ) (fact : MustFact) → Holds scope code one at fact → Holds scope code two at fact
  Holds-impact scope code at fact h = λ round. in_round scope code round at fact (h round)
