-- Jumps are listed by their lengths.
use Rattle.std.proofs.Common.{◌≡◌, ◌<◌, ◌≤◌, ◌+◌, ℕ, suc, Bool, true, false, nat_lt, List, [], ◌∷◌, ◌++◌, inl, inr, ◌⊎◌, refl, ap, sym, ◌∙◌, Some, subst, arith, length, slice_get, slice_index_or, take}
use Rattle.std.proofs.lemmas.Bool.Decides.{nat_tests}
use Rattle.std.proofs.lemmas.List.{take_more}
use Rattle.hs_search.proofs.Listing.{get_left, get_end, get_either}
use Rattle.hs_search.specs.Laws.Membership.{Has-left, Has-right, Has-either}
use Rattle.hs_search.specs.Graphs.{Has}
use Rattle.hs_search.specs.Searching.{AreBelow, IsPutOff, key_if, key_of}
use Rattle.hs_search.specs.declared.lists.Item.{Item}
use Rattle.hs_search.specs.declared.reach.Reach.{Reach}

pub put_none : (most : ℕ) (far : List (Item Reach)) → IsPutOff most [] far far
put_none most far = record { kept = λ n it there. there; each = λ n it there. inl there; all = λ s has. absurd has }

-- one jump more
pub put_more : (most : ℕ) (jumps : List Reach) (s : Reach) (it : Item Reach) (old mid new : List (Item Reach)) → IsPutOff most jumps old mid
    → it.value ≡ s → it.key ≡ key_of most s.length → new ≡ mid ++ it ∷ [] → IsPutOff most (jumps ++ s ∷ []) old new
put_more most jumps s it old mid new put value key is =
    subst (IsPutOff most (jumps ++ s ∷ []) old) (sym is) (record {
      kept = λ n its there. get_left mid (it ∷ []) n its (put.kept n its there);
      each = λ n its there. each n its (get_either mid it n its there);
      all = λ o has. all o (Has-either jumps (s ∷ []) o has);
    })
  where
    earlier : (n : ℕ) (its : Item Reach) → (slice_get old n ≡ Some its) ⊎ (Has jumps its.value × (its.key ≡ key_of most its.value.length))
        → (slice_get old n ≡ Some its) ⊎ (Has (jumps ++ s ∷ []) its.value × (its.key ≡ key_of most its.value.length))
    earlier n its (inl there) = inl there
    earlier n its (inr own) = inr (Has-left jumps (s ∷ []) its.value own.0, own.1)

    each : (n : ℕ) (its : Item Reach) → (slice_get mid n ≡ Some its) ⊎ ((n ≡ length mid) × (it ≡ its))
        → (slice_get old n ≡ Some its) ⊎ (Has (jumps ++ s ∷ []) its.value × (its.key ≡ key_of most its.value.length))
    each n its (inl there) = earlier n its (put.each n its there)
    each n its (inr last) = inr (subst (λ (i : Item Reach). Has (jumps ++ s ∷ []) i.value × (i.key ≡ key_of most i.value.length)) last.1
        (Has-right jumps (s ∷ []) it.value (inl (sym value)), key ∙ ap (λ (r : Reach). key_of most r.length) (sym value)))

    all : (o : Reach) → Has jumps o ⊎ Has (s ∷ []) o
        → (n : ℕ) × (its : Item Reach) × (slice_get (mid ++ it ∷ []) n ≡ Some its) × (its.value ≡ o) × (its.key ≡ key_of most o.length)
    all o (inl has) = let its = put.all o has in (its.0, its.1, get_left mid (it ∷ []) its.0 its.1 its.2, its.3, its.4)
    all o (inr (inl same)) = (length mid, it, get_end mid it, value ∙ same, key ∙ ap (λ (r : Reach). key_of most r.length) same)
    all o (inr (inr no_more)) = absurd no_more

pub put_next : (most : ℕ) (jumps : List Reach) (i : ℕ) (d : Reach) (it : Item Reach) (old mid new : List (Item Reach)) → i < length jumps
    → IsPutOff most (take i jumps) old mid → it.value ≡ slice_index_or jumps i d → it.key ≡ key_of most (slice_index_or jumps i d).length
    → new ≡ mid ++ it ∷ [] → IsPutOff most (take (i + 1) jumps) old new
put_next most jumps i d it old mid new within put value key is =
    subst (λ js. IsPutOff most js old new) (sym (take_more jumps i d within))
    (put_more most (take i jumps) (slice_index_or jumps i d) it old mid new put value key is)

pub below_more : (latest later : ℕ) (it : Item Reach) (far new : List (Item Reach)) → AreBelow latest far → latest ≤ later → it.key ≤ later
    → new ≡ far ++ it ∷ []
    → AreBelow later new
below_more latest later it far new below left right is n its there = from (get_either far it n its (subst (λ xs. slice_get xs n ≡ Some its) is there))
  where
    from : (slice_get far n ≡ Some its) ⊎ ((n ≡ length far) × (it ≡ its)) → its.key ≤ later
    from (inl at) = let less = below n its at in omega arith
    from (inr last) = subst (λ (i : Item Reach). i.key ≤ later) last.1 right

-- a key by cases
pub key_or : (most length : ℕ) → ((most < length) × (key_of most length ≡ suc most)) ⊎ ((length ≤ most) × (key_of most length ≡ length))
key_or most length = step (nat_lt most length) refl
  where
    step : (test : Bool) → nat_lt most length ≡ test → ((most < length) × (key_of most length ≡ suc most)) ⊎ ((length ≤ most) × (key_of most length ≡ length))
    step true is = inl (grind (arith, nat_tests), ap (λ b. key_if b most length) is)
    step false is = inr (grind (arith, nat_tests), ap (λ b. key_if b most length) is)
