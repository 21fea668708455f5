-- Restores as they are noted, one operation after the other.
use Rattle.std.proofs.Common.{◌≡◌, ◌≢◌, ◌<◌, ◌≤◌, ◌⊎◌, inl, inr, ℕ, zero, suc, ◌+◌, Bool, true, false, ap, sym, subst, ◌∙◌, refl, arith, List, [], ◌∷◌, ◌++◌, length, take, drop, set, slice_get, get_or, Some}
use Rattle.std.proofs.Math.ListN.{length-set}
use Rattle.std.proofs.Math.Seq.{take-append_seam}
use Rattle.std.proofs.lemmas.Bool.{cases_eq}
use Rattle.std.proofs.lemmas.Option.{slice_get-get_or}
use Rattle.std.specs.Bool.{Decides}
use Rattle.hs_code.specs.Stacks.{Scope}
use Rattle.hs_code.specs.declared.function_code.Placed.{Placed}
use Rattle.hs_code.specs.declared.op.Op.TheVariants as op
use Rattle.hs_effects.specs.Effecting.{noted}
use Rattle.hs_fact_rows.specs.Laws.Numbers.{false_not_true, some_one}
use Rattle.hs_fact_rows.specs.declared.plan.Plan.{Plan}
use Rattle.hs_restores.specs.Restoring.{AddsShown, Shows, note}
use Rattle.hs_rows.specs.Sets.{Sets}

-- the default of a read
abbrev pub nothing : Placed
nothing = record { op = op.Num 0; at = record { file = 0; line = 0; col = 0 }; piece = 0; places = 0 }

-- the operation that is read
pub op_read : (ops : List Placed) (at : ℕ) → at < length ops → slice_get ops at ≡ Some (get_or ops at nothing)
op_read ops at below = slice_get-get_or ops at nothing below

set_here : (row : List Bool) (at : ℕ) → at < length row → noted (slice_get (set row at true) at) ≡ true
set_here [] at below = absurd (omega (arith, below))
set_here (it ∷ rest) zero below = refl
set_here (it ∷ rest) (suc at) below = set_here rest at (omega (arith, below))

set_other : (row : List Bool) (at k : ℕ) → k ≢ at → slice_get (set row at true) k ≡ slice_get row k
set_other [] at k apart = refl
set_other (it ∷ rest) zero zero apart = absurd (apart refl)
set_other (it ∷ rest) zero (suc k) apart = refl
set_other (it ∷ rest) (suc at) zero apart = refl
set_other (it ∷ rest) (suc at) (suc k) apart = set_other rest at k (λ same. apart (ap (λ n. suc n) same))

module _ (scope : Scope) (plan : Plan) (sets : Sets) (ops : List Placed) (old : List Bool) where
  -- at the end of the operations
  pub shown_all : (done : ℕ) (new : List Bool) → length ops ≤ done → AddsShown scope plan sets ops done old new
      → AddsShown scope plan sets ops (length ops) old new
  shown_all done new all a = record {
    long = a.long;
    kept = a.kept;
    comes = λ at its below there shows. a.comes at its (omega (arith, below, all)) there shows;
    back = a.back;
  }

  module _ (at : ℕ) (mid : List Bool) (it : Placed) (there : slice_get ops at ≡ Some it) (below : at < length mid)
      (a : AddsShown scope plan sets ops at old mid) where
    same_shows : (k : ℕ) (its : Placed) → k ≡ at → slice_get ops k ≡ Some its → Shows scope plan sets k its → Shows scope plan sets at it
    same_shows k its e of shows =
        subst (λ (p : Placed). Shows scope plan sets at p)
        (some_one its it (sym (subst (λ n. slice_get ops n ≡ Some its) e of) ∙ there))
        (subst (λ n. Shows scope plan sets n its) e shows)

    here : (k : ℕ) → k ≡ at → noted (slice_get (set mid at true) k) ≡ true
    here k e = subst (λ n. noted (slice_get (set mid at true) n) ≡ true) (sym e) (set_here mid at below)

    shown_yes : Shows scope plan sets at it → AddsShown scope plan sets ops (at + 1) old (set mid at true)
    shown_yes shows = record {
      long = length-set mid at true ∙ a.long;
      kept = λ k h. kept k h (cases_eq k at);
      comes = λ k its low of s. comes k its low of s (cases_eq k at);
      back = λ k h. back k h (cases_eq k at);
    }
      where
        kept : (k : ℕ) → noted (slice_get old k) ≡ true → (k ≡ at) ⊎ (k ≡ at → ⊥) → noted (slice_get (set mid at true) k) ≡ true
        kept k h (inl e) = here k e
        kept k h (inr ne) = ap noted (set_other mid at k ne) ∙ a.kept k h

        comes : (k : ℕ) (its : Placed) → k < at + 1 → slice_get ops k ≡ Some its → Shows scope plan sets k its → (k ≡ at) ⊎ (k ≡ at → ⊥)
            → noted (slice_get (set mid at true) k) ≡ true
        comes k its low of s (inl e) = here k e
        comes k its low of s (inr ne) = ap noted (set_other mid at k ne) ∙ a.comes k its (omega (arith, low, ne)) of s

        back : (k : ℕ) → noted (slice_get (set mid at true) k) ≡ true → (k ≡ at) ⊎ (k ≡ at → ⊥)
            → (noted (slice_get old k) ≡ true) ⊎ ((its : Placed) × (slice_get ops k ≡ Some its) × Shows scope plan sets k its)
        back k h (inl e) =
            inr (it, subst (λ n. slice_get ops n ≡ Some it) (sym e) there, subst (λ n. Shows scope plan sets n it) (sym e) shows)
        back k h (inr ne) = a.back k (sym (ap noted (set_other mid at k ne)) ∙ h)

    shown_no : (Shows scope plan sets at it → ⊥) → AddsShown scope plan sets ops (at + 1) old mid
    shown_no hidden = record {
      long = a.long;
      kept = a.kept;
      comes = λ k its low of s. comes k its low of s (cases_eq k at);
      back = a.back;
    }
      where
        comes : (k : ℕ) (its : Placed) → k < at + 1 → slice_get ops k ≡ Some its → Shows scope plan sets k its → (k ≡ at) ⊎ (k ≡ at → ⊥)
            → noted (slice_get mid k) ≡ true
        comes k its low of s (inl e) = absurd (hidden (same_shows k its e of s))
        comes k its low of s (inr ne) = a.comes k its (omega (arith, low, ne)) of s

    -- one operation more
    pub shown_more : (is : Bool) → Decides is (Shows scope plan sets at it) → AddsShown scope plan sets ops (at + 1) old (note is at mid)
    shown_more true d = shown_yes (d.0 refl)
    shown_more false d = shown_no (λ shows. false_not_true (d.1 shows))

-- what is written over a whole list
pub written : {X : Type 0} (before after : List X) (long : ℕ) → long ≡ length after → take long (after ++ drop (length after) before) ≡ after
written before after long is = rw is (take-append_seam after (drop (length after) before))
