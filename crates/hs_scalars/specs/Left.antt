-- What is left of the scalars of an object, if so many parts of it are pending.
--     of_scalar it                 a scalar, as the definitions see it
--     of_pending types entry       the scalars of a pending part
--     left types pending           those of all pending parts: the last part comes first
--     of_opened types its          those of what a part is made of
--     IsNext found old new         what was left is the scalar and what is left now
--     weight types entry, weights types pending     how often a part is taken at most, until nothing is left
use Rattle.std.specs.Prelude.{◌≡◌, ℕ, zero, suc, ◌+◌, List, [], ◌∷◌, ◌++◌, drop, Option, Some, None}
use Rattle.hs_meaning.specs.Scalars.{Scalar, of_elements, of_fields, found_within}
use Rattle.hs_types.specs.TypeTables.{TypeTable, row_of, body_of}
use Rattle.hs_types.specs.declared.body.Body.{Body}
use Rattle.hs_types.specs.declared.body.Field.{Field}
use Rattle.hs_types.specs.declared.row.Row.{Row}
use Rattle.hs_types.specs.declared.row.Row.TheVariants.{Void, Integer, Pointer, Enumeration, Struct, Array, OpenArray, Function}
use Rattle.hs_types.specs.declared.row.TypeId.{TypeId}
use Rattle.hs_scalars.specs.declared.pending.Pending.{Pending}
use Rattle.hs_scalars.specs.declared.pending.Pending.TheVariants.{One, Elements, Fields}
use Rattle.hs_scalars.specs.declared.pending.Opened.{Opened}
use Rattle.hs_scalars.specs.declared.pending.Opened.TheVariants as opened
use Rattle.hs_scalars.specs.declared.pending.Opened.TheVariants.{Empty, Found, Parts}
use Rattle.hs_scalars.specs.declared.pending.Place.{Place}
use Rattle.hs_scalars.specs.declared.scalar.Scalar as code

-- ---- what is left

-- as the definitions see it
abbrev pub of_scalar : code.Scalar → Scalar
of_scalar it = record { offset = it.offset; type_id = it.type_id; field = it.field }

-- the fields of a body that has come
abbrev pub fields_in : Option Body → List Field
fields_in None = []
fields_in (Some body) = body.fields

-- the fields of the struct of that number
abbrev pub fields_of : TypeTable → ℕ → List Field
fields_of types number = fields_in (body_of types number)

-- where a field lies, and its type
abbrev pub place_of : Field → Place
place_of its = record { offset = its.offset; type_id = its.type_id }

-- the scalars of a part
abbrev pub of_pending : TypeTable → Pending → List Scalar
of_pending types (One levels at type_id field) = found_within levels types at type_id field
of_pending types (Elements levels of size at more) = of_elements (found_within levels types) of size at more
of_pending types (Fields levels at number place) = of_fields (found_within levels types) at number place (drop place (fields_of types number))

-- those of the last part come first
abbrev pub left : TypeTable → List Pending → List Scalar
left types [] = []
left types (entry ∷ rest) = left types rest ++ of_pending types entry

-- what a part is made of
abbrev pub of_opened : TypeTable → Opened → List Scalar
of_opened types Empty = []
of_opened types (Found it) = of_scalar it ∷ []
of_opened types (opened.List its) = of_pending types its
of_opened types (Parts first rest) = of_pending types first ++ of_pending types rest

-- What was left is the next scalar, and what is left after it. Without a next scalar nothing was left.
abbrev pub IsNext : Option code.Scalar → List Scalar → List Scalar → Type 0
IsNext (Some it) old new = old ≡ of_scalar it ∷ new
IsNext None old new = (old ≡ []) × (new ≡ [])

-- ---- how much work is left

-- that of some elements, if each of them has so much
abbrev pub weight_of_elements : ℕ → ℕ → ℕ
weight_of_elements each zero = 1
weight_of_elements each (suc more) = suc (each + weight_of_elements each more)

-- that of some fields
abbrev pub weight_of_fields : (TypeId → ℕ) → List Field → ℕ
weight_of_fields weighs [] = 1
weight_of_fields weighs (its ∷ rest) = suc (weighs its.type_id + weight_of_fields weighs rest)

-- that of the parts of an object
abbrev pub weight_of_row : (TypeId → ℕ) → TypeTable → Option Row → ℕ
weight_of_row weighs types None = 0
weight_of_row weighs types (Some Void) = 0
weight_of_row weighs types (Some (Integer kind)) = 0
weight_of_row weighs types (Some (Pointer of)) = 0
weight_of_row weighs types (Some (Enumeration number)) = 0
weight_of_row weighs types (Some (Struct number)) = weight_of_fields weighs (fields_of types number)
weight_of_row weighs types (Some (Array of count layout)) = weight_of_elements (weighs of) count
weight_of_row weighs types (Some (OpenArray of)) = 0
weight_of_row weighs types (Some (Function result parameters)) = 0

-- that of an object, down to so many types inside one another
abbrev pub weight_within : ℕ → TypeTable → TypeId → ℕ
weight_within zero types id = 1
weight_within (suc more) types id = suc (weight_of_row (weight_within more types) types (row_of types id))

-- that of a part
abbrev pub weight : TypeTable → Pending → ℕ
weight types (One levels at type_id field) = weight_within levels types type_id
weight types (Elements levels of size at more) = weight_of_elements (weight_within levels types of) more
weight types (Fields levels at number place) = weight_of_fields (weight_within levels types) (drop place (fields_of types number))

-- that of all parts
abbrev pub weights : TypeTable → List Pending → ℕ
weights types [] = 0
weights types (entry ∷ rest) = weight types entry + weights types rest

-- that of what a part is made of
abbrev pub weight_of_opened : TypeTable → Opened → ℕ
weight_of_opened types Empty = 0
weight_of_opened types (Found it) = 0
weight_of_opened types (opened.List its) = weight types its
weight_of_opened types (Parts first rest) = weight types first + weight types rest
