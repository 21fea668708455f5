-- Where structs come from, as typing goes on in one unit (X3.159-1989 3.1.2.6, and own). `base` is how many structs there were before the unit.
--     IsTraced base structs o tags         what is so at every place of the text
--     Traces base structs o structs' o'    braces stay, and structs of earlier units get no bodies
--     TracedTo s new                       the first one stays so, and the second one is so, from one place to a later one
--     traced_self, traced_then, traced_same, traced_left       by no step, by two, and at the end of a scope
use Rattle.std.proofs.Common.{◌≡◌, ◌≤◌, ◌<◌, ℕ, List, length, Option, Some, refl, sym, subst, ◌∙◌}
use Rattle.std.specs.List.{AllByRecursion}
use Rattle.std.specs.Prelude.{slice_get, is_some, IsTrue}
use Rattle.hs_names.specs.Scopes.{Scoped, Declared}
use Rattle.hs_typer.specs.Origins.{kept_for}
use Rattle.hs_typer.specs.declared.origins.Brace.{Brace}
use Rattle.hs_typer.specs.declared.origins.Origin.{Origin}
use Rattle.hs_typer.specs.declared.origins.Origins.{Origins}
use Rattle.hs_typer.specs.declared.typer.Tag.{Tag}
use Rattle.hs_typer.specs.declared.typer.Tag.TheVariants as tag
use Rattle.hs_typer.specs.declared.typer.Typer.{Typer}
use Rattle.hs_types.specs.TypeTables.{body_in}
use Rattle.hs_types.specs.declared.body.Body.{Body}

-- the body of the struct of that number has come
abbrev pub HasBodyIn : List (Option Body) → ℕ → Type 0
HasBodyIn structs number = IsTrue (is_some (body_in (slice_get structs number)))

-- a struct is kept for the brace, as the first one
abbrev pub HasFirst : Origins → Brace → Type 0
HasFirst o brace = (number : ℕ) × (kept_for brace o.firsts ≡ Some (tag.Struct number))

-- a tag of a struct of this unit, or of an enumeration
abbrev pub IsOwnTag : ℕ → Tag → Type 0
IsOwnTag base (tag.Struct number) = base ≤ number
IsOwnTag base (tag.Enumeration number) = Unit {0}

-- Each struct has its origin, and a struct whose brace is known has its body and is kept for the brace, or another struct is. The tags that are
-- known are of this unit.
pub record IsTraced (base : ℕ) (structs : List (Option Body)) (o : Origins) (tags : List (Declared Tag)) : Type 0 where
  pub counted : length o.structs ≡ length structs
  pub there : base ≤ length structs
  pub begun : (number : ℕ) (it : Origin) (brace : Brace) → slice_get o.structs number ≡ Some it → it.brace ≡ Some brace
      → HasBodyIn structs number × HasFirst o brace
  pub units : (number : ℕ) (it : Origin) → slice_get o.structs number ≡ Some it → base ≤ number → it.unit ≡ o.unit
  pub owned : AllByRecursion (λ it. IsOwnTag base it.entity) tags

-- a struct with that brace
abbrev pub HasBrace : Origins → ℕ → Brace → Type 0
HasBrace o number brace = (it : Origin) × (slice_get o.structs number ≡ Some it) × (it.brace ≡ Some brace)

-- A brace that is known stays, and a struct of an earlier unit gets no body.
pub record Traces (base : ℕ) (old : List (Option Body)) (o : Origins) (new : List (Option Body)) (o' : Origins) : Type 0 where
  pub braces : (number : ℕ) (brace : Brace) → HasBrace o number brace → HasBrace o' number brace
  pub closed : (number : ℕ) → number < base → slice_get new number ≡ slice_get old number

-- at a place of the text
abbrev pub IsTracedAt : ℕ → Typer → Type 0
IsTracedAt base s = IsTraced base s.types.structs s.origins s.tags.declarations

-- from there to a later place
abbrev pub TracesTo : ℕ → Typer → Typer → Type 0
TracesTo base s new = Traces base s.types.structs s.origins new.types.structs new.origins

-- if it is so at the first place
abbrev pub TracedTo : Typer → Typer → Type 0
TracedTo s new = (base : ℕ) → IsTracedAt base s → IsTracedAt base new × TracesTo base s new

-- nothing changes
pub traces_self : (base : ℕ) (structs : List (Option Body)) (o : Origins) → Traces base structs o structs o
traces_self base structs o = record { braces = λ number brace is. is; closed = λ number less. refl }

-- one step after another
pub traces_then : (base : ℕ) (first second third : List (Option Body)) (o o' o'' : Origins) → Traces base first o second o'
    → Traces base second o' third o'' → Traces base first o third o''
traces_then base first second third o o' o'' before after =
    record {
      braces = λ number brace is. after.braces number brace (before.braces number brace is);
      closed = λ number less. after.closed number less ∙ before.closed number less;
    }

-- at one place
pub traced_self : (s : Typer) → TracedTo s s
traced_self s base is = (is, traces_self base s.types.structs s.origins)

-- at three places
pub traced_then : (first second third : Typer) → TracedTo first second → TracedTo second third → TracedTo first third
traced_then first second third before after base is =
    let one : IsTracedAt base second × TracesTo base first second = before base is in
    let two : IsTracedAt base third × TracesTo base second third = after base one.0 in
    (two.0, traces_then base first.types.structs second.types.structs third.types.structs first.origins second.origins third.origins one.1 two.1)

-- with the same structs
traced_structs : (base : ℕ) (old new : List (Option Body)) (o : Origins) (tags : List (Declared Tag)) → new ≡ old → IsTraced base old o tags
    → IsTraced base new o tags × Traces base old o new o
traced_structs base old new o tags same is =
    subst (λ structs. IsTraced base structs o tags × Traces base old o structs o) (sym same) (is, traces_self base old o)

-- with other names, and what is noted
pub traced_same : (s new : Typer) → new.types.structs ≡ s.types.structs → new.origins ≡ s.origins → new.tags.declarations ≡ s.tags.declarations
    → TracedTo s new
traced_same s new structs origins tags base is =
    subst (λ its. IsTraced base new.types.structs new.origins its × TracesTo base s new) (sym tags)
    (subst (λ o. IsTraced base new.types.structs o s.tags.declarations × Traces base s.types.structs s.origins new.types.structs o) (sym origins)
    (traced_structs base s.types.structs new.types.structs s.origins s.tags.declarations structs is))

-- with other tags, which are of this unit
pub traced_tags : (base : ℕ) (structs : List (Option Body)) (o : Origins) (tags its : List (Declared Tag)) → IsTraced base structs o tags
    → AllByRecursion (λ it. IsOwnTag base it.entity) its → IsTraced base structs o its
traced_tags base structs o tags its is are =
    record { counted = is.counted; there = is.there; begun = is.begun; units = is.units; owned = are }

-- at the end of a scope, whose tags go
pub traced_left : (s inner new : Typer) (left : Scoped Tag) → inner.types.structs ≡ s.types.structs → inner.origins ≡ s.origins
    → inner.tags.declarations ≡ s.tags.declarations → left.declarations ≡ s.tags.declarations → TracedTo inner new
    → TracedTo s (record new { tags = left })
traced_left s inner new left structs origins tags same traced base is =
    let one : IsTracedAt base inner × TracesTo base s inner = traced_same s inner structs origins tags base is in
    let two : IsTracedAt base new × TracesTo base inner new = traced base one.0 in (
      traced_tags base new.types.structs new.origins new.tags.declarations left.declarations two.0
          (subst (AllByRecursion (λ it. IsOwnTag base it.entity)) (sym same) is.owned),
      traces_then base s.types.structs inner.types.structs new.types.structs s.origins inner.origins new.origins one.1 two.1,
    )
