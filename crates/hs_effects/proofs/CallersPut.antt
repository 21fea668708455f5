-- The callers of functions as they are put in.
use Rattle.std.proofs.Common.{◌≡◌, ◌≢◌, ℕ, zero, suc, ◌<◌, ◌≤◌, ◌+◌, ◌⊎◌, inl, inr, List, [], ◌∷◌, ◌++◌, length, get_or, set, Option, Some, None, Contains, arith, ap, sym, ◌∙◌, refl, subst}
use Rattle.std.proofs.Math.ListN.{length-set}
use Rattle.std.proofs.lemmas.List.{get_or-set_same}
use Rattle.std.proofs.lemmas.Option.{slice_get-get_or, slice_get_within}
use Rattle.std.specs.List.{slice_get}
use Rattle.std.specs.declared.alloc.Global.{Global}
use Rattle.std.specs.declared.vec.Vec.{Vec}
use Rattle.hs_code.specs.declared.function_code.FunctionCode.{FunctionCode}
use Rattle.hs_code.specs.declared.function_code.Placed.{Placed}
use Rattle.hs_code.specs.declared.op.Op.TheVariants as op
use Rattle.hs_effects.proofs.Forms.{is_call}
use Rattle.hs_effects.proofs.Members.{same_or, member_stays, member_comes, member_back, no_member}
use Rattle.hs_effects.specs.Calling.{AreCallers, AllCallsPut, CallerPut, CallsPut, IsCallIn, callee_of, callers_from, row_items}
use Rattle.hs_facts.specs.Effects.{WholeCode, Calls, ops_in}

-- ---- one caller

-- the row that is read
row_read : (rows : List (Vec ℕ Global)) (f : ℕ) (row : Vec ℕ Global) → f < length rows → row ≡ get_or rows f row → callers_from rows f ≡ row.items
row_read rows f row below is = ap row_items (slice_get-get_or rows f row below) ∙ ap (λ (it : Vec ℕ Global). it.items) (sym is)

-- another row stays
row_stays : (rows : List (Vec ℕ Global)) (callee f : ℕ) (after : Vec ℕ Global) → f ≢ callee → slice_get (set rows callee after) f ≡ slice_get rows f
row_stays [] callee f after apart = refl
row_stays (row ∷ rows) zero zero after apart = absurd (apart refl)
row_stays (row ∷ rows) zero (suc f) after apart = refl
row_stays (row ∷ rows) (suc callee) zero after apart = refl
row_stays (row ∷ rows) (suc callee) (suc f) after apart = row_stays rows callee f after (λ same. apart (ap (λ n. suc n) same))

module _ (rows : List (Vec ℕ Global)) (callee caller : ℕ) (before after : Vec ℕ Global) (below : callee < length rows)
    (read : before ≡ get_or rows callee before) (pushed : after.items ≡ before.items ++ caller ∷ []) where
  abbrev pub new : List (Vec ℕ Global)
  new = set rows callee after

  inside : callee < length new
  inside = let same : length (set rows callee after) ≡ length rows = length-set {A = Vec ℕ Global} rows callee after in omega (arith, same)

  its_row : callers_from new callee ≡ callers_from rows callee ++ caller ∷ []
  its_row =
      row_read new callee after inside (sym (get_or-set_same rows callee after after below)) ∙ pushed
      ∙ ap (λ (its : List ℕ). its ++ caller ∷ []) (sym (row_read rows callee before below read))

  other_row : (f : ℕ) → f ≢ callee → callers_from new f ≡ callers_from rows f
  other_row f apart = ap row_items (row_stays rows callee f after apart)

  kept_by : (f c : ℕ) → (f ≡ callee) ⊎ (f ≢ callee) → Contains (callers_from rows f) c → Contains (callers_from new f) c
  kept_by f c (inl same) has =
      subst (λ g. Contains (callers_from new g) c) (sym same)
      (member_stays (callers_from rows callee) (callers_from new callee) caller its_row c (subst (λ g. Contains (callers_from rows g) c) same has))
  kept_by f c (inr apart) has = subst (λ its. Contains its c) (sym (other_row f apart)) has

  back_here : (f c : ℕ) → f ≡ callee → Contains (callers_from rows callee) c ⊎ (c ≡ caller)
      → Contains (callers_from rows f) c ⊎ ((f ≡ callee) × (c ≡ caller))
  back_here f c same (inl old) = inl (subst (λ g. Contains (callers_from rows g) c) (sym same) old)
  back_here f c same (inr is) = inr (same, is)

  back_by : (f c : ℕ) → (f ≡ callee) ⊎ (f ≢ callee) → Contains (callers_from new f) c
      → Contains (callers_from rows f) c ⊎ ((f ≡ callee) × (c ≡ caller))
  back_by f c (inl same) has =
      back_here f c same
      (member_back (callers_from rows callee) (callers_from new callee) caller its_row c (subst (λ g. Contains (callers_from new g) c) same has))
  back_by f c (inr apart) has = inl (subst (λ its. Contains its c) (other_row f apart) has)

  pub caller_put : CallerPut callee caller rows new
  caller_put = record {
    each = length-set {A = Vec ℕ Global} rows callee after;
    kept = λ f c. kept_by f c (same_or f callee);
    comes = member_comes (callers_from rows callee) (callers_from new callee) caller its_row;
    back = λ f c. back_by f c (same_or f callee);
  }

-- ---- the calls of one function

-- no operation of importance, which stands for one past the end of a list
abbrev pub nothing : Placed
nothing = record { op = op.Num 0; at = record { file = 0; line = 0; col = 0 }; piece = 0; places = 0 }

pub op_read : (ops : List Placed) (at : ℕ) → at < length ops → slice_get ops at ≡ Some (get_or ops at nothing)
op_read ops at below = slice_get-get_or ops at nothing below

pub calls_begin : (ops : List Placed) (caller : ℕ) (rows : List (Vec ℕ Global)) → CallsPut ops caller 0 rows rows
calls_begin ops caller rows = record {
  each = refl;
  kept = λ f c has. has;
  comes = λ at g below is. absurd (let none : at < 0 = below in omega arith);
  back = λ f c has. inl has;
}

pub some_same : (a b : ℕ) → Some a ≡ Some b → a ≡ b
some_same a b same = cc

pub placed_same : (a b : Placed) → Some a ≡ Some b → a ≡ b
placed_same a b same = cc

-- the operation of that number is this one
same_callee : (ops : List Placed) (at : ℕ) (its : Placed) (g : ℕ) → slice_get ops at ≡ Some its → IsCallIn ops at g → callee_of its.op ≡ Some g
same_callee ops at its g there is = ap (λ (it : Placed). callee_of it.op) (placed_same its is.0 (sym there ∙ is.1)) ∙ is.2

module _ (ops : List Placed) (caller at : ℕ) (old now : List (Vec ℕ Global)) (its : Placed) (there : slice_get ops at ≡ Some its)
    (so_far : CallsPut ops caller at old now) where
  -- it calls no function
  pub calls_pass : callee_of its.op ≡ None → CallsPut ops caller (at + 1) old now
  calls_pass none = record {
    each = so_far.each;
    kept = so_far.kept;
    comes = λ place g below is. by_case place g (same_or place at) below is;
    back = so_far.back;
  }
    where
      by_case : (place g : ℕ) → (place ≡ at) ⊎ (place ≢ at) → place < at + 1 → IsCallIn ops place g → Contains (callers_from now g) caller
      by_case place g (inl same) below is =
          absurd (let both : None ≡ Some g = sym none ∙ same_callee ops at its g there (subst (λ k. IsCallIn ops k g) same is) in cc)
      by_case place g (inr apart) below is = so_far.comes place g (omega arith) is

  -- it calls one
  pub calls_more : (callee : ℕ) (new : List (Vec ℕ Global)) → callee_of its.op ≡ Some callee → CallerPut callee caller now new
      → CallsPut ops caller (at + 1) old new
  calls_more callee new calls put = record {
    each = put.each ∙ so_far.each;
    kept = λ f c has. put.kept f c (so_far.kept f c has);
    comes = λ place g below is. by_case place g (same_or place at) below is;
    back = λ f c has. backward f c (put.back f c has);
  }
    where
      by_case : (place g : ℕ) → (place ≡ at) ⊎ (place ≢ at) → place < at + 1 → IsCallIn ops place g → Contains (callers_from new g) caller
      by_case place g (inl same) below is =
          subst (λ f. Contains (callers_from new f) caller)
          (some_same callee g (sym calls ∙ same_callee ops at its g there (subst (λ k. IsCallIn ops k g) same is))) put.comes
      by_case place g (inr apart) below is = put.kept g caller (so_far.comes place g (omega arith) is)

      backward : (f c : ℕ) → Contains (callers_from now f) c ⊎ ((f ≡ callee) × (c ≡ caller))
          → Contains (callers_from old f) c ⊎ ((c ≡ caller) × ((place : ℕ) × IsCallIn ops place f))
      backward f c (inl was) = so_far.back f c was
      backward f c (inr is) = inr (is.1, (at, (its, there, calls ∙ ap (λ g. Some g) (sym is.0))))

-- ---- the calls of all functions

pub all_begin : (whole : WholeCode) (rows : List (Vec ℕ Global)) → length rows ≡ length whole.functions
    → ((f : ℕ) → callers_from rows f ≡ []) → AllCallsPut whole 0 rows
all_begin whole rows each empty = record {
  each = each;
  comes = λ c at g below is. absurd (let none : c < 0 = below in omega arith);
  back = λ f c has. absurd (no_member c (subst (λ its. Contains its c) (empty f) has));
}

-- the code of one function more
pub all_more : (whole : WholeCode) (caller : ℕ) (code : FunctionCode) (now new : List (Vec ℕ Global)) → slice_get whole.functions caller ≡ Some code
    → AllCallsPut whole caller now → CallsPut code.ops caller (length code.ops) now new → AllCallsPut whole (caller + 1) new
all_more whole caller code now new there so_far put = record {
  each = put.each ∙ so_far.each;
  comes = λ c at g below is. by_case c at g (same_or c caller) below is;
  back = λ f c has. backward f c (put.back f c has);
}
  where
    in_code : (c at g : ℕ) → c ≡ caller → IsCallIn (ops_in (slice_get whole.functions c)) at g → IsCallIn code.ops at g
    in_code c at g same is =
        subst (λ ops. IsCallIn ops at g) (ap (λ f. ops_in (slice_get whole.functions f)) same ∙ ap ops_in there) is

    by_case : (c at g : ℕ) → (c ≡ caller) ⊎ (c ≢ caller) → c < caller + 1 → IsCallIn (ops_in (slice_get whole.functions c)) at g
        → Contains (callers_from new g) c
    by_case c at g (inl same) below is =
        let own : IsCallIn code.ops at g = in_code c at g same is in
        subst (λ f. Contains (callers_from new g) f) (sym same) (put.comes at g (slice_get_within code.ops at own.0 own.1) own)
    by_case c at g (inr apart) below is = put.kept g c (so_far.comes c at g (omega arith) is)

    backward : (f c : ℕ) → Contains (callers_from now f) c ⊎ ((c ≡ caller) × ((at : ℕ) × IsCallIn code.ops at f))
        → (at : ℕ) × IsCallIn (ops_in (slice_get whole.functions c)) at f
    backward f c (inl was) = so_far.back f c was
    backward f c (inr is) =
        (is.1.0, subst (λ ops. IsCallIn ops is.1.0 f) (sym (ap (λ g. ops_in (slice_get whole.functions g)) is.0 ∙ ap ops_in there)) is.1.1)

-- who calls is there
pub caller_is_there : (whole : WholeCode) (c f : ℕ) → Calls whole c f → c < length whole.functions
caller_is_there whole c f calls = within (slice_get whole.functions c) refl calls.there
  where
    within : (it : Option FunctionCode) → slice_get whole.functions c ≡ it → slice_get (ops_in it) calls.at ≡ Some calls.its
        → c < length whole.functions
    within None of there = absurd cc
    within (Some code) of there = slice_get_within whole.functions c code of

-- they are those of the program
pub all_callers : (whole : WholeCode) (rows : List (Vec ℕ Global)) (count : ℕ) → length whole.functions ≤ count → AllCallsPut whole count rows
    → AreCallers whole rows
all_callers whole rows count past all f c = (forward, backward)
  where
    forward : Contains (callers_from rows f) c → Calls whole c f
    forward has =
        let call = all.back f c has in
        record { at = call.0; its = call.1.0; there = call.1.1; calls = is_call call.1.0.op f call.1.2 }

    backward : Calls whole c f → Contains (callers_from rows f) c
    backward calls =
        let below : c < length whole.functions = caller_is_there whole c f calls in
        all.comes c calls.at f (omega arith) (calls.its, calls.there, ap callee_of calls.calls)
