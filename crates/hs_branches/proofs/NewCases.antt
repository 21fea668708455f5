-- A constant that is new to a switch.
use Rattle.std.proofs.Common.{◌≡◌, ℕ, Bool, false, List, nat_eq, Ok, Err, ap, sym, ◌∙◌, if◌then◌else◌}
use Rattle.std.specs.List.{list_any}
use Rattle.indexmap.specs.IndexSet.{insert_key}
use Rattle.hs_linkage.specs.Works.{work_with, pass}
use Rattle.hs_linkage.specs.declared.translator.Translator.{Translator}
use Rattle.hs_branches.specs.Branches.{new_case}
use Rattle.hs_branches.specs.declared.labels.Cases.{Cases}
use Rattle.hs_tokens.specs.declared.place.Place.{Place}
use Rattle.hs_tree.specs.declared.statement.Label.{Label}
use Rattle.hs_tree.specs.declared.statement.Label.TheVariants as label
use Rattle.hs_typer.specs.declared.type_error.TypeError.TheVariants.{Untyped}

-- it is put after the others
pub new_case-new : (at : Place) (cases : Cases) (bits : ℕ) (values : List ℕ) (m : Translator) → list_any (nat_eq bits) cases.values ≡ false
    → values ≡ insert_key nat_eq cases.values bits
    → new_case at cases bits m ≡ Ok ((label.Case at bits, record { kind = cases.kind; values = values; default = cases.default }), m)
new_case-new at cases bits values m none are =
    ap
    (λ (has : Bool).
    work_with {A = Unit {0}} {B = Label × Cases}
    (λ it. pass (label.Case at bits, record { kind = cases.kind; values = insert_key nat_eq cases.values bits; default = cases.default }))
    (if has then Err (Untyped at) else Ok (tt, m)))
    none
    ∙ ap
    (λ (its : List ℕ). Ok ((label.Case at bits, record { kind = cases.kind; values = its; default = cases.default }), m))
    (sym are)
