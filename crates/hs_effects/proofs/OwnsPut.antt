-- Numbers that functions have by their own operations, as they are put in.
use Rattle.std.proofs.Common.{◌≡◌, ◌≢◌, ℕ, ◌<◌, ◌≤◌, ◌+◌, ◌⊎◌, ◌↔◌, inl, inr, List, [], length, Option, Some, None, Contains, arith, ap, sym, ◌∙◌, refl, subst}
use Rattle.std.proofs.lemmas.Option.{slice_get_within}
use Rattle.std.specs.List.{slice_get}
use Rattle.hs_code.specs.declared.function_code.FunctionCode.{FunctionCode}
use Rattle.hs_code.specs.declared.function_code.Placed.{Placed}
use Rattle.hs_code.specs.declared.op.Op.{Op}
use Rattle.hs_effects.proofs.CallersPut.{some_same, placed_same}
use Rattle.hs_effects.proofs.Growing.{Grows-none, Grows-then}
use Rattle.hs_effects.proofs.Members.{same_or, no_member}
use Rattle.hs_effects.specs.Owning.{Assigned, Owns, OwnsTo, OwnsAt, OwnsIn, assigned_by}
use Rattle.hs_effects.specs.Working.{AllWait, IsIn, Waits, Grows, Only}
use Rattle.hs_effects.specs.declared.work.Pair.{Pair}
use Rattle.hs_effects.specs.declared.work.Work.{Work}
use Rattle.hs_facts.specs.Effects.{WholeCode, ops_in}

module _ (Has : ℕ → ℕ → Op → ℕ → Type 0) where
  -- ---- one operation

  module _ (ops : List Placed) (at function : ℕ) (its : Placed) (there : slice_get ops at ≡ Some its) where
    -- it is the operation of that number
    has_it : (f b : ℕ) → f ≡ function → (own : OwnsAt Has ops (at + 1) f b) → own.at ≡ at → Has function at its.op b
    has_it f b same own equal =
        let one : own.its ≡ its = placed_same own.its its (sym own.there ∙ ap (slice_get ops) equal ∙ there) in
        subst (λ g. Has g at its.op b) same
        (subst (λ k. Has f k its.op b) equal (subst (λ (it : Placed). Has f own.at it.op b) one own.has))

    pub owns_step : (Adds : ℕ → ℕ → Type 0) (old now new : Work) → Grows (OwnsIn Has ops at function) old now → Grows Adds now new
        → ((f b : ℕ) → Adds f b → (f ≡ function) × Has function at its.op b) → ((b : ℕ) → Has function at its.op b → Adds function b)
        → Grows (OwnsIn Has ops (at + 1) function) old new
    owns_step Adds old now new so_far grows adds_are all =
        Grows-then (OwnsIn Has ops at function) Adds (OwnsIn Has ops (at + 1) function) old now new so_far grows
        (λ f b is. split f b is (same_or is.1.at at)) earlier added
      where
        split : (f b : ℕ) (is : OwnsIn Has ops (at + 1) function f b) → (is.1.at ≡ at) ⊎ (is.1.at ≢ at) → OwnsIn Has ops at function f b ⊎ Adds f b
        split f b is (inl equal) = inr (subst (λ g. Adds g b) (sym is.0) (all b (has_it f b is.0 is.1 equal)))
        split f b is (inr apart) =
            let below : is.1.at < at + 1 = is.1.below in
            inl (is.0, record { at = is.1.at; below = omega (arith, below, apart); its = is.1.its; there = is.1.there; has = is.1.has })

        earlier : (f b : ℕ) → OwnsIn Has ops at function f b → OwnsIn Has ops (at + 1) function f b
        earlier f b is =
            let below : is.1.at < at = is.1.below in
            (is.0, record { at = is.1.at; below = omega (arith, below); its = is.1.its; there = is.1.there; has = is.1.has })

        added : (f b : ℕ) → Adds f b → OwnsIn Has ops (at + 1) function f b
        added f b adds =
            let is = adds_are f b adds in
            (is.0, record { at = at; below = omega arith; its = its; there = there; has = subst (λ g. Has g at its.op b) (sym is.0) is.1 })

    -- it has no number
    pub owns_pass : (old now : Work) → Grows (OwnsIn Has ops at function) old now → ((b : ℕ) → Has function at its.op b → ⊥)
        → Grows (OwnsIn Has ops (at + 1) function) old now
    owns_pass old now so_far none =
        owns_step (λ f b. ⊥) old now now so_far (Grows-none (λ f b. ⊥) now (λ f b is. is)) (λ f b is. absurd is) none

  -- no operation yet
  pub owns_begin : (ops : List Placed) (function : ℕ) (work : Work) → Grows (OwnsIn Has ops 0 function) work work
  owns_begin ops function work =
      Grows-none (OwnsIn Has ops 0 function) work (λ f b is. let none : is.1.at < 0 = is.1.below in omega arith)

  -- ---- all functions

  pub all_owns_begin : (whole : WholeCode) (work : Work) → Grows (OwnsTo Has whole 0) work work
  all_owns_begin whole work = Grows-none (OwnsTo Has whole 0) work (λ f b is. let none : f < 0 = is.0 in omega arith)

  pub all_owns_more : (whole : WholeCode) (function : ℕ) (code : FunctionCode) (old now new : Work) → slice_get whole.functions function ≡ Some code
      → Grows (OwnsTo Has whole function) old now → Grows (OwnsIn Has code.ops (length code.ops) function) now new
      → Grows (OwnsTo Has whole (function + 1)) old new
  all_owns_more whole function code old now new there so_far grows =
      Grows-then (OwnsTo Has whole function) (OwnsIn Has code.ops (length code.ops) function) (OwnsTo Has whole (function + 1)) old now new so_far grows
      (λ f b is. split f b is (same_or f function)) (λ f b is. ((let below : f < function = is.0 in omega (arith, below)), is.1)) added
    where
      its_ops : (f : ℕ) → f ≡ function → ops_in (slice_get whole.functions f) ≡ code.ops
      its_ops f same = ap (λ g. ops_in (slice_get whole.functions g)) same ∙ ap ops_in there

      split : (f b : ℕ) → OwnsTo Has whole (function + 1) f b → (f ≡ function) ⊎ (f ≢ function)
          → OwnsTo Has whole function f b ⊎ OwnsIn Has code.ops (length code.ops) function f b
      split f b is (inl same) =
          let own : slice_get code.ops is.1.at ≡ Some is.1.its =
          subst (λ ops. slice_get ops is.1.at ≡ Some is.1.its) (its_ops f same) is.1.there in
          inr (same, record { at = is.1.at; below = slice_get_within code.ops is.1.at is.1.its own; its = is.1.its; there = own; has = is.1.has })
      split f b is (inr apart) = let below : f < function + 1 = is.0 in inl (omega (arith, below, apart), is.1)

      added : (f b : ℕ) → OwnsIn Has code.ops (length code.ops) function f b → OwnsTo Has whole (function + 1) f b
      added f b is =
          let same : f ≡ function = is.0 in (
            omega (arith, same),
            record {
              at = is.1.at;
              its = is.1.its;
              there = subst (λ ops. slice_get ops is.1.at ≡ Some is.1.its) (sym (its_ops f is.0)) is.1.there;
              has = is.1.has;
            },
          )

  -- what began with nothing has exactly the numbers of the functions
  module _ (whole : WholeCode) (count : ℕ) (old new : Work) (past : length whole.functions ≤ count) (empty : (f b : ℕ) → ¬ (IsIn old.rows f b))
      (none : old.waiting.items ≡ []) (grows : Grows (OwnsTo Has whole count) old new) where
    within : (f at : ℕ) (it : Option FunctionCode) (its : Placed) → slice_get whole.functions f ≡ it → slice_get (ops_in it) at ≡ Some its
        → f < length whole.functions
    within f at None its of there = absurd cc
    within f at (Some code) its of there = slice_get_within whole.functions f code of

    by_back : (f b : ℕ) → IsIn old.rows f b ⊎ OwnsTo Has whole count f b → Owns Has whole f b
    by_back f b (inl was) = absurd (empty f b was)
    by_back f b (inr is) = is.1

    comes : (f b : ℕ) → Owns Has whole f b → IsIn new.rows f b
    comes f b own =
        let below : f < length whole.functions = within f own.at (slice_get whole.functions f) own.its refl own.there in
        grows.adds f b (omega (arith, below, past), own)

    pub owned : (f b : ℕ) → IsIn new.rows f b ↔ Owns Has whole f b
    owned f b = (λ is. by_back f b (grows.back f b is), comes f b)

    by_waits : (f b : ℕ) → IsIn old.rows f b ⊎ Waits new f b → Waits new f b
    by_waits f b (inl was) = absurd (empty f b was)
    by_waits f b (inr wait) = wait

    by_fresh : (f b : ℕ) → Waits old f b ⊎ IsIn new.rows f b → IsIn new.rows f b
    by_fresh f b (inl wait) =
        absurd (no_member (record { function = f; number = b }) (subst (λ (pairs : List Pair). Contains pairs (record { function = f; number = b })) none wait))
    by_fresh f b (inr is) = is

    pub all_wait : AllWait new
    all_wait = record { waits = λ f b is. by_waits f b (grows.waits f b is); there = λ f b wait. by_fresh f b (grows.fresh f b wait) }

-- ---- assigned globals

module _ (ops : List Placed) (at function : ℕ) (its : Placed) (there : slice_get ops at ≡ Some its) (old now : Work)
    (so_far : Grows (OwnsIn Assigned ops at function) old now) where
  pub assigns_more : (global : ℕ) (new : Work) → assigned_by its.op ≡ Some global → Grows (Only function global) now new
      → Grows (OwnsIn Assigned ops (at + 1) function) old new
  assigns_more global new is grows =
      owns_step Assigned ops at function its there (Only function global) old now new so_far grows
      (λ f b only. (only.0, is ∙ ap (λ g. Some g) (sym only.1))) (λ b has. (refl, some_same b global (sym has ∙ is)))

  pub assigns_none : assigned_by its.op ≡ None → Grows (OwnsIn Assigned ops (at + 1) function) old now
  assigns_none is =
      owns_pass Assigned ops at function its there old now so_far (λ b has. absurd (let both : None ≡ Some b = sym is ∙ has in cc))
