-- The types of parameters, and what declarators make, are of this unit (X3.159-1989 3.5.4, and own).
--     OwnDerivations                of a declarator
--     parameter_made                a parameter, and what is known when it is declared
use Rattle.std.proofs.Common.{◌≡◌, ℕ, Bool, true, false, List, [], ◌∷◌, ◌++◌, Option, Some, None, Result, Ok, Err, refl, if◌then◌else◌}
use Rattle.std.specs.List.{AllByRecursion}
use Rattle.std.specs.Prelude.{is_some, ◌||◌}
use Rattle.hs_base.specs.Entries.{all_appended, all_so}
use Rattle.hs_expressions.specs.Expressions.{enter, ending}
use Rattle.hs_expressions.specs.Laws.{IsConstant, IsScoped}
use Rattle.hs_expressions.specs.Laws.Always.{Reaching, Anything}
use Rattle.hs_expressions.specs.Laws.Grown.{Growing, listed_grows}
use Rattle.hs_expressions.specs.Laws.Reached.{reaches_types, scoped_after}
use Rattle.hs_fitting.specs.Listed.{listed_is}
use Rattle.hs_fitting.specs.Owned.{OwnTop, top_later, OwnDerivation, derivation_later, OwnGiven}
use Rattle.hs_fitting.specs.Stating.{entered_scoped}
use Rattle.hs_names.specs.Scopes.{find}
use Rattle.hs_syntax.specs.declared.operators.Pointer.{Pointer}
use Rattle.hs_syntax.specs.declared.operators.Pointer.TheVariants as pointer
use Rattle.hs_syntax.specs.declared.word.Word.{Word}
use Rattle.hs_tree.specs.declared.head.Variable.TheVariants as variable
use Rattle.hs_typer.specs.Declarators.{pointers_of, listed, is_typedef}
use Rattle.hs_typer.specs.Declaring.{list_of, declare_parameter}
use Rattle.hs_typer.specs.Steps.{Step, then_with, ◌>>=◌, ◌>>◌, give, with_types}
use Rattle.hs_typer.specs.declared.declarators.Derivation.{Derivation}
use Rattle.hs_typer.specs.declared.declarators.Derivation.TheVariants as derivation
use Rattle.hs_typer.specs.declared.type_error.TypeError.{TypeError}
use Rattle.hs_typer.specs.declared.type_error.TypeError.TheVariants.{Untyped}
use Rattle.hs_typer.specs.declared.typer.Entity.{Entity}
use Rattle.hs_typer.specs.declared.typer.Entity.TheVariants as entity
use Rattle.hs_typer.specs.declared.typer.Typer.{Typer}
use Rattle.hs_types.specs.TypeTables.{TypeTable, Grows}
use Rattle.hs_types.specs.declared.row.TypeId.{TypeId}
use Rattle.hs_fitting.specs.OwnNames.{OwnAt, own_after, Owning}

module _ (base : ℕ) where
  abbrev pub OwnDerivations : TypeTable → List Derivation → Type 0
  OwnDerivations types its = AllByRecursion (OwnDerivation base types) its

  -- as the table grows
  pub all_later : (old new : TypeTable) → Grows old new → (its : List Derivation) → OwnDerivations old its → OwnDerivations new its
  all_later old new grows its are = all_so (OwnDerivation base old) (OwnDerivation base new) (derivation_later base old new grows) its are

  -- pointers
  pub pointers_own : (types : TypeTable) (its : List Pointer) → OwnDerivations types (pointers_of its)
  pointers_own types [] = tt
  pointers_own types (pointer.Star at ∷ rest) = (tt, pointers_own types rest)
  pointers_own types (pointer.Dropped word at ∷ rest) = pointers_own types rest

  -- of a list of parameters
  pub listed_own : (its : List Derivation) (ids : List TypeId) (s : Typer) → OwnDerivations s.types its → AllByRecursion (OwnTop base s.types) ids
      → Owning base OwnDerivations ((list_of ids >>= (λ list. give (its ++ derivation.Function list ∷ []))) s)
  listed_own its ids s own are =
      let grows = (listed_grows ids s.types).0 in
      all_appended (OwnDerivation base (listed ids s.types).1) its (derivation.Function (listed ids s.types).0 ∷ [])
      (all_later s.types (listed ids s.types).1 grows its own) (
        (
          ids,
          listed_is ids s.types,
          all_so (OwnTop base s.types) (OwnTop base (listed ids s.types).1)
              (top_later base s.types (listed ids s.types).1 grows) ids are,
        ),
        tt,
      )

  -- the types of parameters, after those that are done
  abbrev pub OwnTypes : TypeTable → List TypeId → Type 0
  OwnTypes types ids = AllByRecursion (OwnTop base types) ids

  -- a prototype that ends
  pub ending_own : {A : Type 0} → (holds : TypeTable → A → Type 0) (kept : Bool) (given : Result (A × Typer) TypeError) → kept ≡ false
      → Owning base holds given → Owning base holds (ending kept given)
  ending_own holds true given ends is = absurd cc
  ending_own holds false (Ok p) ends is = is
  ending_own holds false (Err why) ends is = tt

  -- in the scope of a prototype
  pub inside_own : (s : Typer) → OwnAt base s → OwnAt base (enter (record s { keeps = false }))
  inside_own s own = record { traced = own.traced; names = own.names; fixed = own.fixed }

  -- which begins as scopes do
  pub inside_scoped : (s : Typer) → IsScoped s → IsScoped (enter (record s { keeps = false }))
  inside_scoped s scoped = entered_scoped (record s { keeps = false }) (record { names = scoped.names; tags = scoped.tags; closed = refl })

  -- a step after any other one
  pub behind : {A B : Type 0} → (holds : TypeTable → B → Type 0) (next : A → Step B) (given : Result (A × Typer) TypeError)
      → ((it : A) (mid : Typer) → Owning base holds (next it mid)) → Owning base holds (then_with next given)
  behind holds next (Ok p) are = are p.0 p.1
  behind holds next (Err why) are = tt

  -- a parameter: its type, and what is known when it is declared
  abbrev OwnParameter : Result (TypeId × Typer) TypeError → Type 0
  OwnParameter (Ok q) = OwnAt base q.1 × OwnTop base q.1.types q.0
  OwnParameter (Err why) = Unit {0}

  -- with its name, if it has one
  declare_own : (n : Typer) → OwnAt base n → (o : Option Word) (place : ℕ) (made : TypeId) → OwnTop base n.types made
      → OwnParameter ((declare_parameter o place made >> give made) n)
  declare_own n own None place made top = (own, top)
  declare_own n own (Some word) place made top = by_test (is_typedef (find word.text n.names) || is_some
      (Rattle.hs_names.specs.Scopes.find_here word.text n.names))
    where
      its : Entity
      its = entity.Variable (variable.Local place) made

      by_test : (b : Bool) → OwnParameter (then_with {A = Unit {0}} (λ it. give made) (if b then Err (Untyped word.place)
          else Ok (tt, record n { names = Rattle.hs_names.specs.Scopes.declared word.text (entity.Variable (variable.Local place) made) n.names })))
      by_test true = tt
      by_test false = (record { traced = own.traced; names = (tt, own.names); fixed = own.fixed }, top)

  -- by its type
  pub parameter_made : (n : Typer) → OwnAt base n → (o : Option Word) (place : ℕ) (given : Result (TypeId × TypeTable) TypeError) → Growing n.types given
      → OwnGiven base given → OwnParameter (then_with (λ made. declare_parameter o place made >> give made) (with_types n given))
  parameter_made n own o place (Ok p) grows is =
      declare_own (record n { types = p.1 }) (own_after base n (record n { types = p.1 }) (reaches_types IsConstant n p.1 grows) own) o place p.0 is.top
  parameter_made n own o place (Err why) grows is = tt

  -- and the others
  pub parameters_next : (n : Typer) → IsScoped n → (next : TypeId → Step (List TypeId)) (given : Result (TypeId × Typer) TypeError)
      → Reaching Anything n given → OwnParameter given
      → ((id : TypeId) (q : Typer) → Grows n.types q.types → IsScoped q → OwnAt base q → OwnTop base q.types id → Owning base OwnTypes (next id q))
      → Owning base OwnTypes (then_with next given)
  parameters_next n scoped next (Ok q) reached own after =
      after q.0 q.1 reached.types (scoped_after Anything n q.1 reached scoped) own.0 own.1
  parameters_next n scoped next (Err why) reached own after = tt

  -- types of parameters stay so
  pub types_later : (old new : TypeTable) → Grows old new → (ids : List TypeId) → OwnTypes old ids → OwnTypes new ids
  types_later old new grows ids are = all_so (OwnTop base old) (OwnTop base new) (top_later base old new grows) ids are
