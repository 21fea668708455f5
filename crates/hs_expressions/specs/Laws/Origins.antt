-- The steps that change where structs come from: a new struct, and its body (X3.159-1989 3.5.2.1, and own).
--     traced_struct                    a struct more
--     HasNoBrace o number              the brace of the struct is not known yet
--     traced_body                      a body comes
use Rattle.std.proofs.Common.{◌≡◌, ◌≤◌, ◌<◌, ◌+◌, ◌⊎◌, inl, inr, ℕ, Bool, true, false, List, [], ◌∷◌, ◌++◌, length, Option, Some, None, IsTrue, refl, sym, subst, ◌∙◌, arith}
use Rattle.std.proofs.lemmas.Bool.Decides.{nat_tests}
use Rattle.std.proofs.lemmas.List.{length-append}
use Rattle.std.specs.List.{AllByRecursion}
use Rattle.std.specs.Prelude.{◌==◌, slice_get, slice_set, is_some}
use Rattle.hs_base.specs.Entries.{last_either, entry_stays, same_below, set_there, set_other, set_length}
use Rattle.hs_expressions.specs.Laws.Traced.{HasBodyIn, HasFirst, IsOwnTag, IsTraced, Traces}
use Rattle.hs_names.specs.Scopes.{Declared}
use Rattle.hs_typer.specs.declared.origins.Brace.{Brace}
use Rattle.hs_typer.specs.declared.origins.Origin.{Origin}
use Rattle.hs_typer.specs.declared.origins.Origins.{Origins}
use Rattle.hs_typer.specs.declared.typer.Tag.{Tag}
use Rattle.hs_types.specs.TypeTables.{body_in}
use Rattle.hs_types.specs.declared.body.Body.{Body}

-- ---- a struct more

-- a body stays
body_still : (structs ys : List (Option Body)) (k : ℕ) → HasBodyIn structs k → HasBodyIn (structs ++ ys) k
body_still structs ys k is = by_entry (slice_get structs k) refl is
  where
    by_entry : (o : Option (Option Body)) → slice_get structs k ≡ o → IsTrue (is_some (body_in o)) → HasBodyIn (structs ++ ys) k
    by_entry None same is = absurd cc
    by_entry (Some it) same is = subst (λ o. IsTrue (is_some (body_in o))) (sym (entry_stays structs ys k it same)) is

-- numbers
one_more : (a b : ℕ) → a ≡ b → a + 1 ≡ b + 1
one_more a b same = omega (arith, same)

-- one more is no fewer
no_fewer : (a b : ℕ) → a ≤ b → a ≤ b + 1
no_fewer a b is = omega (arith, is)

-- what is below the first is below the second
below_base : (k a b : ℕ) → k < a → a ≤ b → k < b
below_base k a b is is' = omega (arith, is, is')

-- an origin whose brace is `None` has no brace
no_brace : (it : Origin) (brace : Brace) → it.brace ≡ None → it.brace ≡ Some brace → ⊥
no_brace it brace none some = cc

-- with a struct of this unit that has no body
pub traced_struct : (base : ℕ) (structs : List (Option Body)) (o : Origins) (tags more : List (Declared Tag)) (it : Origin)
    → it.unit ≡ o.unit → it.brace ≡ None → (base ≤ length structs → AllByRecursion (λ its. IsOwnTag base its.entity) tags
    → AllByRecursion (λ its. IsOwnTag base its.entity) more) → IsTraced base structs o tags
    → IsTraced base (structs ++ None ∷ []) (record o { structs = o.structs ++ it ∷ [] }) more
    × Traces base structs o (structs ++ None ∷ []) (record o { structs = o.structs ++ it ∷ [] })
traced_struct base structs o tags more it unit none own is = (
  record {
    counted = length-append o.structs (it ∷ []) ∙ one_more (length o.structs) (length structs) is.counted ∙ sym (length-append structs (None ∷ []));
    there = subst (λ n. base ≤ n) (sym (length-append structs (None ∷ []))) (no_fewer base (length structs) is.there);
    begun = λ number its brace at known. begun_by number its brace known (last_either o.structs it number its at);
    units = λ number its at from. units_by number its from (last_either o.structs it number its at);
    owned = own is.there is.owned;
  },
  record {
    braces = λ number brace has. (has.0, entry_stays o.structs (it ∷ []) number has.0 has.1, has.2);
    closed = λ number less. same_below structs (None ∷ []) number (below_base number base (length structs) less is.there);
  },
)
  where
    begun_by : (number : ℕ) (its : Origin) (brace : Brace) → its.brace ≡ Some brace → (slice_get o.structs number ≡ Some its) ⊎ (it ≡ its)
        → HasBodyIn (structs ++ None ∷ []) number × HasFirst (record o { structs = o.structs ++ it ∷ [] }) brace
    begun_by number its brace known (inl at) =
        let has : HasBodyIn structs number × HasFirst o brace = is.begun number its brace at known in
        (body_still structs (None ∷ []) number has.0, has.1)
    begun_by number its brace known (inr same) = absurd (no_brace its brace (subst (λ it. it.brace ≡ None) same none) known)

    units_by : (number : ℕ) (its : Origin) → base ≤ number → (slice_get o.structs number ≡ Some its) ⊎ (it ≡ its) → its.unit ≡ o.unit
    units_by number its from (inl at) = is.units number its at from
    units_by number its from (inr same) = subst (λ it. it.unit ≡ o.unit) same unit

-- ---- a body

-- a struct that waits for its body has no brace
abbrev pub HasNoBrace : Origins → ℕ → Type 0
HasNoBrace o number = (it : Origin) (brace : Brace) → slice_get o.structs number ≡ Some it → it.brace ≡ Some brace → ⊥

-- what is there is there
awaited : (o : Option (Option Body)) → o ≡ Some None → IsTrue (is_some (body_in o)) → ⊥
awaited None same is = cc
awaited (Some None) same is = cc
awaited (Some (Some body)) same is = cc

-- a number below the base is not one of this unit
not_below : (k n base : ℕ) → k < base → base ≤ n → k ≡ n → ⊥
not_below k n base less from same = omega (arith, less, from, same)

-- of a struct of this unit that waits for it
pub traced_body : (base : ℕ) (structs : List (Option Body)) (o : Origins) (tags : List (Declared Tag)) (number : ℕ) (body : Body) → base ≤ number
    → slice_get structs number ≡ Some None → IsTraced base structs o tags
    → IsTraced base (slice_set structs number (Some body)) o tags × Traces base structs o (slice_set structs number (Some body)) o
    × HasBodyIn (slice_set structs number (Some body)) number × HasNoBrace o number
traced_body base structs o tags number body own waits is = (
  record {
    counted = is.counted ∙ sym (set_length structs number (Some body));
    there = subst (λ n. base ≤ n) (sym (set_length structs number (Some body))) is.there;
    begun = λ k it brace at known. (body_of_all k (is.begun k it brace at known).0, (is.begun k it brace at known).1);
    units = is.units;
    owned = is.owned;
  },
  record { braces = λ k brace has. has; closed = λ k less. set_other structs number (Some body) k (not_below k number base less own) },
  here,
  λ it brace at known. awaited (slice_get structs number) waits (is.begun number it brace at known).0,
)
  where
    here : HasBodyIn (slice_set structs number (Some body)) number
    here = subst (λ o. IsTrue (is_some (body_in o))) (sym (set_there structs number None (Some body) waits)) refl

    either : (k : ℕ) (b : Bool) → (k == number) ≡ b → HasBodyIn structs k → HasBodyIn (slice_set structs number (Some body)) k
    either k true same has = subst (HasBodyIn (slice_set structs number (Some body))) (grind (arith, nat_tests, same)) here
    either k false same has =
        subst (λ o. IsTrue (is_some (body_in o)))
        (sym (set_other structs number (Some body) k (λ is. grind (arith, nat_tests, same, is)))) has

    body_of_all : (k : ℕ) → HasBodyIn structs k → HasBodyIn (slice_set structs number (Some body)) k
    body_of_all k has = either k (k == number) refl has
