-- What the initialiser of an object of static storage duration gives, as the program goes on (X3.159-1989 3.5.7).
--     alike_later                     the type after an initialiser is of the category of the type before it, in the whole program
--     initialised_walks               constants for the scalars of the object, and the type that it gets
use Rattle.std.proofs.Common.{◌≡◌, ℕ, zero, Bool, true, ◌||◌, List, length, drop, Option, Some, None, is_some, Ok, refl, sym, subst, ◌∙◌}
use Rattle.hs_expressions.specs.Binding.Keeping.{KnowsBound, Giving}
use Rattle.hs_expressions.specs.Laws.{IsConstant, IsScoped, Knows}
use Rattle.hs_expressions.specs.Laws.Reached.{Reaches}
use Rattle.hs_fitting.specs.Alike.{IsAlike, AlikeGiven, initialised_alike}
use Rattle.hs_fitting.specs.Claims.{Claims, Endures, Stands}
use Rattle.hs_fitting.specs.Known.{knows_names, proceeds_typer, typing_fully, category_stays}
use Rattle.hs_fitting.specs.Lasting.{continues_of}
use Rattle.hs_fitting.specs.Moves.{any_reaches, moves_typer}
use Rattle.hs_fitting.specs.NotingInitialising.{initialised_notes}
use Rattle.hs_fitting.specs.Parts.{HasParts, initialised_fits}
use Rattle.hs_fitting.specs.Sizing.{MayHaveStart}
use Rattle.hs_fitting.specs.Walk.{Continues, continues_first, Walks}
use Rattle.hs_fitting.specs.Whole.{MayStart}
use Rattle.hs_initialisers.specs.Initialisers.{initialised}
use Rattle.hs_linkage.specs.Objects.{marked}
use Rattle.hs_linkage.specs.Works.{typing}
use Rattle.hs_linkage.specs.declared.translator.Translator.{Translator}
use Rattle.hs_operand_types.specs.Types.{is_open_row}
use Rattle.hs_syntax.specs.Trees.{Initialising}
use Rattle.hs_tokens.specs.declared.place.Place.{Place}
use Rattle.hs_tree.specs.Kinds.{Category, of_void, of_number, of_pointer, of_struct, of_array, of_function, category_of_row, category_of}
use Rattle.hs_tree.specs.Objects.{FitsParts}
use Rattle.hs_tree.specs.Trees.{TypedFunction, TypedProgram}
use Rattle.hs_tree.specs.declared.constant.Part.{Part}
use Rattle.hs_typer.specs.declared.typer.Typer.{Typer}
use Rattle.hs_types.specs.TypeTables.{TypeTable, row_of, layout_in, IsRight, Grows}
use Rattle.hs_types.specs.declared.integer.Integer.TheVariants as kind
use Rattle.hs_types.specs.declared.row.Row.{Row}
use Rattle.hs_types.specs.declared.row.Row.TheVariants as row
use Rattle.hs_types.specs.declared.row.TypeId.{TypeId}

-- ---- the category of the object

-- a type that may have an initialiser has a category
may_category : (types : TypeTable) (o : Option Row) → (is_some (layout_in types o) || is_open_row o) ≡ true
    → (its : Category) × (category_of_row o ≡ Some its)
may_category types None may = absurd cc
may_category types (Some row.Void) may = (of_void, refl)
may_category types (Some (row.Integer kind)) may = (of_number kind, refl)
may_category types (Some (row.Pointer of)) may = (of_pointer, refl)
may_category types (Some (row.Enumeration number)) may = (of_number kind.Int, refl)
may_category types (Some (row.Struct number)) may = (of_struct, refl)
may_category types (Some (row.Array of size layout)) may = (of_array, refl)
may_category types (Some (row.OpenArray of)) may = (of_array, refl)
may_category types (Some (row.Function result list)) may = (of_function, refl)

-- The type after an initialiser is of the category of the type before it, also in the whole program.
pub alike_later : (start mid final : TypeTable) (id made : TypeId) → Grows start mid → Grows mid final → MayStart start id → IsAlike start id mid made
    → category_of final made ≡ category_of final id
alike_later start mid final id made grows further may alike =
    let its : (its : Category) × (category_of start id ≡ Some its) = may_category start (row_of start id) may in
    let old : category_of mid id ≡ Some its.0 = category_stays start mid id its.0 grows its.1 in
    let new : category_of mid made ≡ Some its.0 = alike.0 ∙ old in
    category_stays mid final made its.0 further new ∙ sym (category_stays mid final id its.0 further old)

-- ---- the initialiser

module _ (here : List ℕ → Bool) (program : TypedProgram) (function : TypedFunction) (sound : IsRight program.types) (at : Place) (id : TypeId)
    (it : Initialising) (its : Claims) (m : Translator) (scoped : IsScoped m.typer) (counts : m.typer.counts ≡ true)
    (stands : Stands program here its m.locals m) (may : MayStart m.typer.types id) where
  -- a function whose variables are those that there are
  abbrev function_of : Typer → TypedFunction
  function_of new = record function { variables = marked (drop (length m.typer.taken) new.taken) zero m.locals }

  module _ (p : (TypeId × List Part) × Typer) (given : initialised at id it m.typer ≡ Ok p) (reached : Reaches IsConstant m.typer p.1) where
    -- it continues this place
    continues : Endures program its (record m { typer = p.1 }) → Continues program (function_of p.1) its m (record m { typer = p.1 })
    continues endures =
        continues_of program (function_of p.1) its m (record m { typer = p.1 })
        (moves_typer m p.1 scoped (any_reaches IsConstant m.typer p.1 reached)) endures refl

    -- so the names of this place are those of the program
    knows : Endures program its (record m { typer = p.1 })
        → Knows program (function_of p.1) m.typer × KnowsBound program (function_of p.1) program.types m.typer
    knows endures =
        knows_names here program (function_of p.1) its m stands
        (continues_first program (function_of p.1) its its m m (record m { typer = p.1 })
        (moves_typer m p.1 scoped (any_reaches IsConstant m.typer p.1 reached)) (proceeds_typer program here its m p.1 reached.unit reached.table)
        (continues endures))

    -- and the parts fit
    fits : Endures program its (record m { typer = p.1 }) → HasParts program p.0
    fits endures =
        let known : Knows program (function_of p.1) m.typer × KnowsBound program (function_of p.1) program.types m.typer = knows endures in
        let may_have : MayHaveStart m.typer.types id = record { may = may; elements = λ of is. stands.right.elements id of is } in
        subst (Giving program (function_of p.1) program.types m.typer (HasParts program)) given
        (initialised_fits program (function_of p.1) at id it m.typer sound stands.right.right may_have scoped counts known.0 known.1)
        (continues endures).noted

    -- the object keeps its category
    alike : Grows p.1.types program.types → category_of program.types p.0.0 ≡ category_of program.types id
    alike grows =
        alike_later m.typer.types p.1.types program.types id p.0.0 reached.types grows may
        (subst (AlikeGiven m.typer.types id) given (initialised_alike at id it m.typer scoped))

-- What an initialiser gives: constants for the scalars of the object, in a program that this place goes on to, and its type.
pub initialised_walks : {here : List ℕ → Bool} → {program : TypedProgram} → {function : TypedFunction} → (sound : IsRight program.types) → (at : Place)
    (id : TypeId) (it : Initialising)
    → Walks here program function (λ its m. MayStart m.typer.types id) (typing (initialised at id it))
    (λ its m p. (Endures program its m → FitsParts program p.0 p.1) × (category_of program.types p.0 ≡ category_of program.types id))
    (λ p. Unit {0})
initialised_walks {here = here} {program = program} {function = function} sound at id it =
    typing_fully (initialised at id it) (λ Q. initialised_notes Q program.types at id it)
    (λ its m scoped counts stands may p given reached grows. (
      λ endures. fits here program function sound at id it its m scoped counts stands may p given reached endures,
      alike here program function sound at id it its m scoped counts stands may p given reached grows,
    ))
    (λ its m scoped counts stands may knows binds p given noted. tt)
