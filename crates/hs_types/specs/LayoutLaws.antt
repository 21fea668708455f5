-- The fields of a struct lie one after the other, apart, inside it and aligned.
--     placed_after, end_after, end_size      places only grow: by alignment, by members, by rounding up
--     body_apart, body_inside, body_aligned  the three laws of the body of a struct
use Rattle.std.proofs.Common.{◌≡◌, ◌≤◌, ◌+◌, ◌%◌, ℕ, zero, suc, Bool, true, false, List, [], ◌∷◌, map, Some, ap, if◌then◌else◌, arith}
use Rattle.std.specs.Prelude.{slice_get}
use Rattle.hs_types.specs.Layouts.{rounded_up, placed, offsets_from, end_from, hold_characters, struct_size}
use Rattle.hs_types.specs.TypeTables.{TypeTable, IsBody, AreApart, AreInside, AreAligned, laid}
use Rattle.hs_types.specs.declared.body.Body.{Body}
use Rattle.hs_types.specs.declared.body.Field.{Field}
use Rattle.hs_types.specs.declared.layout.Layout.{Layout}

-- the first place that the alignment allows is not before the free one
pub placed_after : (at : ℕ) (layout : Layout) → at ≤ placed at layout
placed_after at layout = by_even layout.even where
  by_even : (b : Bool) → at ≤ (if b then rounded_up at else at)
  by_even true = omega arith
  by_even false = omega arith

-- an even place
placed_even : (at : ℕ) (layout : Layout) → layout.even ≡ true → placed at layout % 2 ≡ 0
placed_even at layout even = rw even (omega arith)

-- members only take more
pub end_after : (free : ℕ) (members : List Layout) → free ≤ end_from free members
end_after free [] = omega arith
end_after free (member ∷ members) =
    omega (arith, placed_after free member, end_after (placed free member + member.size) members)

-- the offsets of fields that are laid out from there on
abbrev Laid : ℕ → List Field → Type 0
Laid free fields = map (λ field. field.offset) fields ≡ offsets_from free (map (λ field. field.layout) fields)

laid_first : (free : ℕ) (field : Field) (fields : List Field) → Laid free (field ∷ fields) → field.offset ≡ placed free field.layout
laid_first free field fields laid = search laid

laid_rest : (free : ℕ) (field : Field) (fields : List Field) → Laid free (field ∷ fields)
    → Laid (placed free field.layout + field.layout.size) fields
laid_rest free field fields laid = search laid

-- each field lies at the first place that is free or after it
after : (free : ℕ) (fields : List Field) → Laid free fields → (place : ℕ) (field : Field) → slice_get fields place ≡ Some field → free ≤ field.offset
after free [] laid place field at = absurd cc
after free (it ∷ fields) laid zero field at =
    let same : it ≡ field = cc in
    rw (← same, laid_first free it fields laid) (placed_after free it.layout)
after free (it ∷ fields) laid (suc place) field at =
    omega (arith, placed_after free it.layout, after (placed free it.layout + it.layout.size) fields (laid_rest free it fields laid) place field at)

-- the fields end before the next ones begin
pub apart : (free : ℕ) (fields : List Field) → Laid free fields → AreApart fields
apart free [] laid place later field other before at at' = absurd cc
apart free (it ∷ fields) laid zero zero field other before at at' = absurd (omega (arith, before))
apart free (it ∷ fields) laid zero (suc later) field other before at at' =
    let same : it ≡ field = cc in
    rw (← same, laid_first free it fields laid)
    (after (placed free it.layout + it.layout.size) fields (laid_rest free it fields laid) later other at')
apart free (it ∷ fields) laid (suc place) zero field other before at at' = absurd (omega (arith, before))
apart free (it ∷ fields) laid (suc place) (suc later) field other before at at' =
    apart (placed free it.layout + it.layout.size) fields (laid_rest free it fields laid) place later field other (omega (arith, before)) at at'

-- a field that is to be aligned lies at an even byte
aligned : (free : ℕ) (fields : List Field) → Laid free fields → AreAligned fields
aligned free [] laid place field at even = absurd cc
aligned free (it ∷ fields) laid zero field at even =
    let same : it ≡ field = cc in
    rw (← same, laid_first free it fields laid) (placed_even free it.layout (rw same even))
aligned free (it ∷ fields) laid (suc place) field at even =
    aligned (placed free it.layout + it.layout.size) fields (laid_rest free it fields laid) place field at even

-- each field ends before the last one does, or with it
inside : (free : ℕ) (fields : List Field) → Laid free fields → (place : ℕ) (field : Field) → slice_get fields place ≡ Some field
    → field.offset + field.layout.size ≤ end_from free (map (λ it. it.layout) fields)
inside free [] laid place field at = absurd cc
inside free (it ∷ fields) laid zero field at =
    let same : it ≡ field = cc in
    rw (← same, laid_first free it fields laid)
    (end_after (placed free it.layout + it.layout.size) (map (λ it. it.layout) fields))
inside free (it ∷ fields) laid (suc place) field at =
    inside (placed free it.layout + it.layout.size) fields (laid_rest free it fields laid) place field at

-- rounding up only adds
pub end_size : (members : List Layout) → end_from 0 members ≤ struct_size members
end_size members = by_characters (hold_characters members) where
  by_characters : (b : Bool) → end_from 0 members ≤ (if b then end_from 0 members else rounded_up (end_from 0 members))
  by_characters true = omega arith
  by_characters false = omega arith

-- the three laws of the body of a struct
pub body_apart : (types : TypeTable) (body : Body) → IsBody types body → AreApart body.fields
body_apart types body is = apart 0 body.fields is.offsets

-- inside it
pub body_inside : (types : TypeTable) (body : Body) → IsBody types body → AreInside body.fields body.layout.size
body_inside types body is place field at =
    let whole : body.layout.size ≡ struct_size (map (λ it. it.layout) body.fields) = ap (λ it. it.size) is.layout in
    rw whole (omega (arith, inside 0 body.fields is.offsets place field at, end_size (map (λ it. it.layout) body.fields)))

-- and aligned
pub body_aligned : (types : TypeTable) (body : Body) → IsBody types body → AreAligned body.fields
body_aligned types body is = aligned 0 body.fields is.offsets
