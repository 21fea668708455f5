-- What typing notes of calls in the parts of a declaration that give a type.
--     front_notes, item_type_notes       the specifiers, and a declarator
--     opened_noting                      the type of a function that is being defined
use Rattle.std.proofs.Common.{ℕ, true, Result, Ok, Err, refl}
use Rattle.hs_declarations.specs.Fronts.{front, item_type}
use Rattle.hs_expressions.specs.Laws.{IsConstant}
use Rattle.hs_expressions.specs.Laws.Grown.{formed_grows}
use Rattle.hs_fitting.specs.Noting.{NamesAllow, Noting, Notes, same_noted, then_noting}
use Rattle.hs_fitting.specs.NotingSteps.{gives_notes, looks_notes, on_types_notes, after_notes}
use Rattle.hs_fitting.specs.NotingTyping.{specified_notes, derivations_notes}
use Rattle.hs_fitting.specs.Rightness.{right_self, formed_rights}
use Rattle.hs_functions.specs.Opening.{opened, opened_type}
use Rattle.hs_syntax.specs.Trees as syntax
use Rattle.hs_syntax.specs.Trees.{Specification, Declared, Parameters}
use Rattle.hs_tokens.specs.declared.place.Place.{Place}
use Rattle.hs_typer.specs.Declarators.{formed, place_of}
use Rattle.hs_typer.specs.Specifiers.{no_specifiers, type_from}
use Rattle.hs_typer.specs.Steps.{◌>>◌, give}
use Rattle.hs_typer.specs.declared.type_error.TypeError.{TypeError}
use Rattle.hs_typer.specs.declared.typer.Typer.{Typer}
use Rattle.hs_types.specs.Growing.{grows_self}
use Rattle.hs_types.specs.TypeTables.{TypeTable}
use Rattle.hs_types.specs.declared.row.TypeId.{TypeId}

module _ (Q : ℕ → TypeId → Type 0) (final : TypeTable) where
  -- what the specifiers of a declaration say
  pub front_notes : (at : Place) (its : Specification) → Notes Q final IsConstant (λ it. Unit {0}) (front at its)
  front_notes at its =
      after_notes (specified_notes Q final true at no_specifiers its)
      (λ said. after_notes (looks_notes (λ s. type_from at said)) (λ id. gives_notes (record { storage = said.storage; type_id = id })))

  -- the type of a declarator
  pub item_type_notes : (at : Place) (base : TypeId) (it : Declared) → Notes Q final IsConstant (λ it. Unit {0}) (item_type at base it)
  item_type_notes at base it =
      after_notes (derivations_notes Q final at it)
      (λ its. on_types_notes (formed (place_of at it) its base) (λ types. formed_grows (place_of at it) its base types)
      (λ types. formed_rights (place_of at it) its base types))

  -- from the place at which the scope is kept
  keeping_noting : {A : Type 0} → (holds : A → Type 0) (s : Typer) (given : Result (A × Typer) TypeError)
      → Noting Q final holds (record s { keeps = true }) given → Noting Q final holds s given
  keeping_noting holds s (Ok p) is =
      record { names = is.names; fact = is.fact; table = is.table; types = is.types; right = is.right; calls = is.calls }
  keeping_noting holds s (Err why) is = tt

  -- a scope that begins has the names around it
  entered_noting : (s : Typer) → NamesAllow Q s → Noting Q final (λ it. Unit {0}) s (opened s)
  entered_noting s names =
      record { names = names; fact = tt; table = refl; types = grows_self s.types; right = right_self s.types; calls = λ grows are. are }

  -- the whole type
  pub opened_noting : (at : Place) (base : TypeId) (it : Declared) (its : Parameters) (s : Typer) → NamesAllow Q s
      → Noting Q final (λ it. Unit {0}) s (opened_type at base it its s)
  opened_noting at base it syntax.no_parameters s names =
      then_noting Q final (λ it. Unit {0}) (λ it. Unit {0}) (λ id. opened >> give id) s (item_type at base it s)
      ((item_type_notes at base it).gives s names)
      (λ id is mid around. then_noting Q final (λ it. Unit {0}) (λ it. Unit {0}) (λ done. give id) mid (opened mid) (entered_noting mid around)
      (λ done is' last within. same_noted Q final (λ it. Unit {0}) last id within tt))
  opened_noting at base it (syntax.more_parameters words first rest) s names =
      keeping_noting (λ it. Unit {0}) s (item_type at base it (record s { keeps = true }))
      ((item_type_notes at base it).gives (record s { keeps = true }) names)
