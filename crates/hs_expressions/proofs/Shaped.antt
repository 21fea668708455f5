-- Fewer parameters than shapes.
use Rattle.std.proofs.Common.{◌≡◌, ℕ, ◌<◌, length, drop, false, List, None, slice_get, refl, ap, ◌∙◌}
use Rattle.std.proofs.lemmas.List.{drop_more}
use Rattle.hs_expressions.specs.Roles.{next_of, are_shaped}
use Rattle.hs_expressions.specs.declared.roles.Shape.{Shape}
use Rattle.hs_types.specs.TypeTables.{TypeTable}
use Rattle.hs_types.specs.declared.row.ListId.{ListId}

-- a shape is left, and no parameter
pub shaped_past : (types : TypeTable) (shapes : List Shape) (index : ℕ) (its : Shape) (list : ListId) → index < length shapes
    → next_of (slice_get types.lists list.number) ≡ None → are_shaped types (drop index shapes) list ≡ false
shaped_past types shapes index its list within none =
    ap (λ rest. are_shaped types rest list) (drop_more shapes index its within) ∙ rw none refl
