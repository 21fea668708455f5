-- Two types or two lists are compared from the front, and what is left decides.
use Rattle.std.proofs.Common.{◌≡◌, ℕ, zero, suc, ◌-◌, Bool, true, false, ◌&&◌, ◌||◌, Option, None, Some, refl, ap, sym, ◌∙◌}
use Rattle.std.specs.Prelude.{slice_get, ◌==◌}
use native.Mathlib.Numerals.{unary_clauses}
use Rattle.hs_operand_types.specs.Conversions.{same_type}
use Rattle.hs_typer.specs.Origins.{are_two, has_body, origins_agree, structs_agree, leaves_agree, objects_agree_within, objects_agree, lists_agree_by, lists_agree_within, mix_within}
use Rattle.hs_typer.specs.Pairs.{IsInside, AreApart, both_more}
use Rattle.hs_typer.specs.declared.agreement.Firsts.{Firsts}
use Rattle.hs_typer.specs.declared.agreement.Pair.{Pair}
use Rattle.hs_typer.specs.declared.origins.Origin.{Origin}
use Rattle.hs_typer.specs.declared.origins.Origins.{Origins}
use Rattle.hs_types.specs.TypeTables.{TypeTable, row_of}
use Rattle.hs_types.specs.declared.row.ListId.{ListId}
use Rattle.hs_types.specs.declared.row.Parameters.{Parameters}
use Rattle.hs_types.specs.declared.row.Parameters.TheVariants.{Empty, More}
use Rattle.hs_types.specs.declared.row.TypeId.{TypeId}

-- Two types that are no such two mix them if what is inside them does.
pub mix_first : (types : TypeTable) (more : ℕ) (a b : TypeId) (next : Pair) → (more ≡ 0 → ⊥) → are_two (row_of types a) (row_of types b) ≡ false
    → IsInside (row_of types a) (row_of types b) next
    → mix_within (more - 1) types next.left next.right ≡ mix_within more types a b
mix_first types zero a b next some leaves inside = absurd (some refl)
mix_first types (suc more) a b next some leaves inside =
    simp unary_clauses (rw (leaves, inside (mix_within more types)) refl)

-- or mix none if nothing is inside both
pub mix_last : (types : TypeTable) (more : ℕ) (a b : TypeId) → are_two (row_of types a) (row_of types b) ≡ false
    → AreApart (row_of types a) (row_of types b) → mix_within more types a b ≡ false
mix_last types zero a b leaves apart = refl
mix_last types (suc more) a b leaves apart = rw (leaves, apart (mix_within more types)) refl

module _ (types : TypeTable) (o : Origins) where
  -- two structs of two numbers
  pub structs_apart : (a b : ℕ) (complete : Bool) (one other : Option Origin) (result : Bool) → (a == b) ≡ false
      → complete ≡ (has_body types a && has_body types b) → one ≡ slice_get o.structs a → other ≡ slice_get o.structs b
      → result ≡ origins_agree o complete a b one other → result ≡ structs_agree types o a b
  structs_apart a b complete one other result differ bodies first second is =
      is
      ∙ ap (λ its. origins_agree o its a b one other) bodies
      ∙ ap (λ its. origins_agree o (has_body types a && has_body types b) a b its other) first
      ∙ ap (λ its. origins_agree o (has_body types a && has_body types b) a b (slice_get o.structs a) its) second
      ∙ sym (ap (λ its. its || origins_agree o (has_body types a && has_body types b) a b (slice_get o.structs a) (slice_get o.structs b)) differ)

  -- Two types that are not the same agree if what is inside them does.
  pub inside_first : (more : ℕ) (a b : TypeId) (next : Pair) → (more ≡ 0 → ⊥) → same_type a b ≡ false
      → leaves_agree types o (row_of types a) (row_of types b) ≡ false → IsInside (row_of types a) (row_of types b) next
      → objects_agree_within (more - 1) types o next.left next.right ≡ objects_agree_within more types o a b
  inside_first zero a b next some differ leaves inside = absurd (some refl)
  inside_first (suc more) a b next some differ leaves inside =
      simp unary_clauses (rw (differ, leaves, inside (objects_agree_within more types o)) refl)

  abbrev firsts : TypeId → TypeId → ListId → ListId → Firsts
  firsts a b others others' = record { left = a; right = b; left_others = others; right_others = others' }

  -- two lists of parameters, by what the tests of the code say of them
  lists_both : (rest : ListId → ListId → Bool) (x y : Option Parameters) (next : Firsts) → both_more x y ≡ Some next
      → lists_agree_by rest types o x y ≡ (objects_agree types o next.left next.right && rest next.left_others next.right_others)
  lists_both rest None y next is = absurd cc
  lists_both rest (Some Empty) y next is = absurd cc
  lists_both rest (Some (More a others)) None next is = absurd cc
  lists_both rest (Some (More a others)) (Some Empty) next is = absurd cc
  lists_both rest (Some (More a others)) (Some (More b others')) next is =
      let same : firsts a b others others' ≡ next = cc in
      ap (λ its. objects_agree types o its.left its.right && rest its.left_others its.right_others) same

  pred_suc : (n : ℕ) → suc n - 1 ≡ n
  pred_suc n = simp unary_clauses refl

  abbrev list_at : ListId → Option Parameters
  list_at list = slice_get types.lists list.number

  -- the others are left to compare
  pub lists_next : (more : ℕ) (a b : ListId) (next : Firsts) → (more ≡ 0 → ⊥) → both_more (list_at a) (list_at b) ≡ Some next
      → objects_agree types o next.left next.right ≡ true
      → lists_agree_within (suc (more - 1)) types o next.left_others next.right_others ≡ lists_agree_within (suc more) types o a b
  lists_next zero a b next some is same = absurd (some refl)
  lists_next (suc more) a b next some is same =
      ap (λ n. lists_agree_within (suc n) types o next.left_others next.right_others) (pred_suc more)
      ∙ sym (lists_both (lists_agree_within (suc more) types o) (list_at a) (list_at b) next is
      ∙ ap (λ its. its && lists_agree_within (suc more) types o next.left_others next.right_others) same)
