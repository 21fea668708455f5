-- A table that grows keeps what was known of it.
--     grows_self, grows_then                                    a table grows from itself, and from one that grew
--     layout_stays, fits_row_stays, is_body_stays
use Rattle.std.proofs.Common.{◌≡◌, List, Option, Some, None, refl, ap, ◌∙◌, if◌then◌else◌}
use Rattle.std.specs.Prelude.{is_some, option_map}
use Rattle.hs_types.specs.Layouts.{word_layout}
use Rattle.hs_types.specs.TypeTables.{TypeTable, body_of, constants_of, row_of, layout_of_row, layout_in, layout_of, FitsRow, IsBody, Grows}
use Rattle.hs_types.specs.declared.body.Body.{Body}
use Rattle.hs_types.specs.declared.body.Enumerator.{Enumerator}
use Rattle.hs_types.specs.declared.layout.Layout.{Layout}
use Rattle.hs_types.specs.declared.row.Row.{Row}
use Rattle.hs_types.specs.declared.row.Row.TheVariants.{Void, Integer, Pointer, Enumeration, Struct, Array, OpenArray, Function}
use Rattle.hs_types.specs.declared.row.TypeId.{TypeId}

-- a table grows from itself
pub grows_self : (types : TypeTable) → Grows types types
grows_self types =
    record { rows = λ place row is. is; lists = λ place list is. is; bodies = λ number body is. is; constants = λ number its is. is }

some-if : (its : Option (List Enumerator)) (layout : Layout) → (if is_some its then Some word_layout else None) ≡ Some layout
    → (constants : List Enumerator) × (its ≡ Some constants) × (word_layout ≡ layout)
some-if None layout given = absurd cc
some-if (Some x) layout given = (x, refl, cc)

if-some : (its : Option (List Enumerator)) (constants : List Enumerator) → its ≡ Some constants
    → (if is_some its then Some word_layout else None) ≡ Some word_layout
if-some None constants is = absurd cc
if-some (Some x) constants is = refl

some-body : (its : Option Body) (layout : Layout) → option_map (λ body. body.layout) its ≡ Some layout
    → (body : Body) × (its ≡ Some body) × (body.layout ≡ layout)
some-body None layout given = absurd cc
some-body (Some x) layout given = (x, refl, cc)

-- by one step and then another
pub grows_then : (first second third : TypeTable) → Grows first second → Grows second third → Grows first third
grows_then first second third before after =
    record {
      rows = λ place row is. after.rows place row (before.rows place row is);
      lists = λ place list is. after.lists place list (before.lists place list is);
      bodies = λ number body is. after.bodies number body (before.bodies number body is);
      constants = λ number its is. after.constants number its (before.constants number its is);
    }

-- what is complete stays so, and takes the same
pub layout_of_row_stays : (old new : TypeTable) (row : Row) (layout : Layout) → Grows old new
    → layout_of_row old row ≡ Some layout → layout_of_row new row ≡ Some layout
layout_of_row_stays old new Void layout grows given = absurd cc
layout_of_row_stays old new (Integer kind) layout grows given = given
layout_of_row_stays old new (Pointer of) layout grows given = given
layout_of_row_stays old new (Enumeration number) layout grows given =
    let had : (constants : List Enumerator) × (constants_of old number ≡ Some constants) × (word_layout ≡ layout)
    = some-if (constants_of old number) layout given in
    if-some (constants_of new number) had.0 (grows.constants number had.0 had.1) ∙ ap Some had.2
layout_of_row_stays old new (Struct number) layout grows given =
    let had : (body : Body) × (body_of old number ≡ Some body) × (body.layout ≡ layout)
    = some-body (body_of old number) layout given in
    ap (option_map (λ body. body.layout)) (grows.bodies number had.0 had.1) ∙ ap Some had.2
layout_of_row_stays old new (Array of length its) layout grows given = given
layout_of_row_stays old new (OpenArray of) layout grows given = absurd cc
layout_of_row_stays old new (Function result parameters) layout grows given = absurd cc

some-row : (old : TypeTable) (its : Option Row) (layout : Layout) → layout_in old its ≡ Some layout
    → (row : Row) × (its ≡ Some row) × (layout_of_row old row ≡ Some layout)
some-row old None layout given = absurd cc
some-row old (Some row) layout given = (row, refl, given)

pub layout_stays : (old new : TypeTable) (id : TypeId) (layout : Layout) → Grows old new
    → layout_of old id ≡ Some layout → layout_of new id ≡ Some layout
layout_stays old new id layout grows given =
    let had : (row : Row) × (row_of old id ≡ Some row) × (layout_of_row old row ≡ Some layout)
    = some-row old (row_of old id) layout given in
    ap (layout_in new) (grows.rows id.number had.0 had.1) ∙ layout_of_row_stays old new had.0 layout grows had.2

pub fits_row_stays : (old new : TypeTable) (row : Row) → Grows old new → FitsRow old row → FitsRow new row
fits_row_stays old new Void grows fits = tt
fits_row_stays old new (Integer kind) grows fits = tt
fits_row_stays old new (Pointer of) grows fits = tt
fits_row_stays old new (Enumeration number) grows fits = tt
fits_row_stays old new (Struct number) grows fits = tt
fits_row_stays old new (Array of length layout) grows fits = (fits.0, layout_stays old new of fits.0 grows fits.1, fits.2)
fits_row_stays old new (OpenArray of) grows fits = tt
fits_row_stays old new (Function result parameters) grows fits = tt

pub is_body_stays : (old new : TypeTable) (body : Body) → Grows old new → IsBody old body → IsBody new body
is_body_stays old new body grows is =
    record {
      fields = λ place field at. layout_stays old new field.type_id field.layout grows (is.fields place field at);
      offsets = is.offsets;
      layout = is.layout;
      size = is.size;
    }
