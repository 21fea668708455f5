-- A pending part and what it is made of.
--     fields_none, fields_next             the scalars of the fields from a place on
--     weight_none, weight_next             how much work they are
--     left-push, weights-push              one more pending part
--     left-opened, weights-opened          the last one is taken apart
--     left-parts, weights-parts            two more
use Rattle.std.proofs.Common.{◌≡◌, ℕ, suc, ◌+◌, ◌<◌, List, [], ◌∷◌, ◌++◌, drop, Option, Some, None, sym, ap, ◌∙◌, refl, append_assoc, arith, inl, inr}
use Rattle.std.proofs.Math.Numerals.{add-one}
use Rattle.std.proofs.lemmas.List.{append-nil, drop_more, drop_all}
use Rattle.std.proofs.lemmas.Option.{slice_get_within, get_or_from_slice_get, slice_get_cases}
use Rattle.std.specs.Prelude.{slice_get, option_map}
use Rattle.hs_meaning.specs.Scalars.{Finding, of_fields}
use Rattle.hs_types.specs.TypeTables.{TypeTable}
use Rattle.hs_types.specs.declared.body.Field.{Field}
use Rattle.hs_types.specs.declared.row.TypeId.{TypeId}
use Rattle.hs_scalars.specs.Left.{of_pending, left, place_of, weight, weights, weight_of_fields, of_opened, weight_of_opened}
use Rattle.hs_scalars.specs.declared.pending.Opened.{Opened}
use Rattle.hs_scalars.specs.declared.pending.Pending.{Pending}
use Rattle.hs_scalars.specs.declared.pending.Place.{Place}

-- ---- fields

module _ (fields : List Field) (place : ℕ) where
  -- the field of that place begins what is left
  here : (field : Field) → slice_get fields place ≡ Some field → drop place fields ≡ field ∷ drop (place + 1) fields
  here field is =
      drop_more fields place field (slice_get_within fields place field is)
      ∙ ap (λ first. first ∷ drop (place + 1) fields) (get_or_from_slice_get fields place field field is)

  -- if there is no field at that place, nothing is left
  past : (found : Option Field) → slice_get fields place ≡ found → option_map place_of found ≡ None → drop place fields ≡ []
  past None is absent = elim (slice_get_cases fields place).1 [
    | inl (its, within, there, same) ↦ absurd (let apart : None ≡ Some its = sym is ∙ there in cc)
    | inr (after, nothing) ↦ drop_all place fields after
  ]
  past (Some field) is absent = absurd cc

  module _ (found : Finding) (at number : ℕ) where
    -- the scalars of that field, and those of the others
    fields_at : (there : Option Field) (its : Place) → slice_get fields place ≡ there → option_map place_of there ≡ Some its
        → found (at + its.offset) its.type_id (Some (record { of = number; place = place }))
        ++ of_fields found at number (place + 1) (drop (place + 1) fields)
        ≡ of_fields found at number place (drop place fields)
    fields_at None its is same = absurd cc
    fields_at (Some field) its is same =
        let that : place_of field ≡ its = cc in
        ap (λ (it : Place). found (at + it.offset) it.type_id (Some (record { of = number; place = place }))
        ++ of_fields found at number (place + 1) (drop (place + 1) fields)) (sym that)
        ∙ ap (λ next. found (at + field.offset) field.type_id (Some (record { of = number; place = place }))
        ++ of_fields found at number next (drop (place + 1) fields)) (add-one place)
        ∙ ap (of_fields found at number place) (sym (here field is))

    -- what the code finds at the place is that field
    pub fields_next : (its : Place) → option_map place_of (slice_get fields place) ≡ Some its
        → found (at + its.offset) its.type_id (Some (record { of = number; place = place }))
        ++ of_fields found at number (place + 1) (drop (place + 1) fields)
        ≡ of_fields found at number place (drop place fields)
    fields_next its is = fields_at (slice_get fields place) its refl is

    -- or it finds none, and nothing is left
    pub fields_none : option_map place_of (slice_get fields place) ≡ None → of_fields found at number place (drop place fields) ≡ []
    fields_none none = ap (of_fields found at number place) (past (slice_get fields place) refl none)

  module _ (weighs : TypeId → ℕ) where
    -- the work of that field, and that of the others
    weight_at : (there : Option Field) (its : Place) → slice_get fields place ≡ there → option_map place_of there ≡ Some its
        → weight_of_fields weighs (drop place fields) ≡ suc (weighs its.type_id + weight_of_fields weighs (drop (place + 1) fields))
    weight_at None its is same = absurd cc
    weight_at (Some field) its is same =
        let that : place_of field ≡ its = cc in
        ap (weight_of_fields weighs) (here field is)
        ∙ ap (λ (it : Place). suc (weighs it.type_id + weight_of_fields weighs (drop (place + 1) fields))) that

    -- what the code finds at the place is that field
    pub weight_next : (its : Place) → option_map place_of (slice_get fields place) ≡ Some its
        → weight_of_fields weighs (drop place fields) ≡ suc (weighs its.type_id + weight_of_fields weighs (drop (place + 1) fields))
    weight_next its is = weight_at (slice_get fields place) its refl is

    -- or it finds none, and that is all the work
    pub weight_none : option_map place_of (slice_get fields place) ≡ None → weight_of_fields weighs (drop place fields) ≡ 1
    weight_none none = ap (weight_of_fields weighs) (past (slice_get fields place) refl none)

-- ---- the stack

-- the scalars of one more part come first
pub left-push : (types : TypeTable) (pending : List Pending) (part : Pending)
    → left types (pending ++ part ∷ []) ≡ of_pending types part ++ left types pending
left-push types [] part = sym (append-nil (of_pending types part))
left-push types (first ∷ pending) part =
    ap (λ its. its ++ of_pending types first) (left-push types pending part)
    ∙ append_assoc (of_pending types part) (left types pending) (of_pending types first)

-- and its work is added
pub weights-push : (types : TypeTable) (pending : List Pending) (part : Pending)
    → weights types (pending ++ part ∷ []) ≡ weight types part + weights types pending
weights-push types [] part = refl
weights-push types (first ∷ pending) part = omega (arith, weights-push types pending part)

module _ (types : TypeTable) (before rest : List Pending) (part : Pending) (popped : before ≡ rest ++ part ∷ []) (opened its : Opened) (is : opened ≡ its) where
  -- what was left is what the part is made of, and what is left without it
  pub left-opened : of_opened types opened ≡ of_pending types part → left types before ≡ of_opened types its ++ left types rest
  left-opened same =
      ap (left types) popped ∙ left-push types rest part
      ∙ ap (λ first. first ++ left types rest) (sym same ∙ ap (of_opened types) is)

  -- with less work
  pub weights-opened : weight_of_opened types opened < weight types part → weight_of_opened types its + weights types rest < weights types before
  weights-opened falls =
      omega (arith, ap (weights types) popped, weights-push types rest part, falls, ap (weight_of_opened types) is)

module _ (types : TypeTable) (pending between after : List Pending) (first rest : Pending) where
  module _ (one : between ≡ pending ++ rest ∷ []) (two : after ≡ between ++ first ∷ []) where
    -- a part and those after it come before what was left
    pub left-parts : left types after ≡ (of_pending types first ++ of_pending types rest) ++ left types pending
    left-parts =
        ap (left types) two ∙ left-push types between first
        ∙ ap (λ later. of_pending types first ++ later) (ap (left types) one ∙ left-push types pending rest)
        ∙ sym (append_assoc (of_pending types first) (of_pending types rest) (left types pending))

    -- and their work is added
    pub weights-parts : weights types after ≡ (weight types first + weight types rest) + weights types pending
    weights-parts =
        omega (arith, ap (weights types) two, weights-push types between first, ap (weights types) one, weights-push types pending rest)
