-- Along the table of types: what stands for the types so far, with one type more, and after the last one.
use Rattle.std.proofs.Common.{◌≡◌, ◌+◌, ℕ, zero, suc, List, [], ◌∷◌, ◌++◌, drop, length, slice_get, Some, None, refl, sym, ap, ◌∙◌, arith}
use Rattle.std.proofs.lemmas.List.{length-append}
use Rattle.indexmap.specs.IndexMap.{insert_entry}
use Rattle.hs_same_types.specs.Representatives.{same_row, type_of, next_row, types_of}
use Rattle.hs_types.specs.declared.row.Row.{Row}
use Rattle.hs_types.specs.declared.row.TypeId.{TypeId}

-- the same, where the place is looked up
drop_there : {A : Type 0} → (xs : List A) (place : ℕ) (it : A) → slice_get xs place ≡ Some it → drop place xs ≡ it ∷ drop (suc place) xs
drop_there [] place it is = absurd cc
drop_there (x ∷ xs) zero it is = ap (λ first. first ∷ xs) (same is)
  where
    same : Some x ≡ Some it → x ≡ it
    same is = cc
drop_there (x ∷ xs) (suc place) it is = drop_there xs place it is

-- and nothing is left past the end
pub drop_none : {A : Type 0} → (xs : List A) (place : ℕ) → slice_get xs place ≡ None → drop place xs ≡ []
drop_none [] zero is = refl
drop_none [] (suc place) is = refl
drop_none (x ∷ xs) zero is = absurd cc
drop_none (x ∷ xs) (suc place) is = drop_none xs place is

-- one more is done
one_more : (done all : List TypeId) (first : TypeId) (number next : ℕ) → number ≡ length done → all ≡ done ++ first ∷ [] → next ≡ suc number
    → next ≡ length all
one_more done all first number next count is more =
    let whole : length all ≡ length (done ++ first ∷ []) = ap length is in
    let parts = length-append done (first ∷ []) in
    omega (arith, count, whole, parts, more)

-- with one type more
pub types_next : (structs : List ℕ) (rows : List Row) (done all : List TypeId) (known more : List (Row × TypeId)) (number next : ℕ) (row its : Row)
    (first : TypeId) (whole : List TypeId) → number ≡ length done → slice_get rows number ≡ Some row → its ≡ next_row structs done row
    → first ≡ type_of known number its → more ≡ insert_entry same_row known its first → all ≡ done ++ first ∷ [] → next ≡ suc number
    → types_of structs done known (drop number rows) ≡ whole → (next ≡ length all) × (types_of structs all more (drop next rows) ≡ whole)
types_next structs rows done all known more number next row its first whole count there is-its is-first is-more is-all is-next before = (
  one_more done all first number next count is-all is-next,
  ap (λ d. types_of structs d more (drop next rows)) is-all
      ∙ ap (λ k. types_of structs (done ++ first ∷ []) k (drop next rows)) is-more
      ∙ ap (λ n. types_of structs (done ++ first ∷ []) (insert_entry same_row known its first) (drop n rows)) is-next
      ∙ ap (λ t. types_of structs (done ++ t ∷ []) (insert_entry same_row known its t) (drop (suc number) rows)) is-first
      ∙ ap (λ r. types_of structs (done ++ type_of known number r ∷ []) (insert_entry same_row known r (type_of known number r)) (drop (suc number) rows))
      is-its
      ∙ ap
      (λ n. types_of structs (done ++ type_of known n (next_row structs done row) ∷ [])
      (insert_entry same_row known (next_row structs done row) (type_of known n (next_row structs done row))) (drop (suc number) rows)) count
      ∙ sym (ap (types_of structs done known) (drop_there rows number row there)) ∙ before,
)
