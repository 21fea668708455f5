-- The types that declarations name are of this unit: by induction on the syntax (X3.159-1989 3.5, and own).
--     front_own, item_type_own      what the specifiers and a declarator name
--     parameter_types_owns          the types of the parameters of a list
use Rattle.std.proofs.Common.{◌≤◌, ℕ, suc, Bool, true, false, List, [], ◌∷◌, ◌++◌, Some, Result, Ok, Err}
use Rattle.hs_base.specs.Entries.{all_appended}
use Rattle.hs_declarations.specs.Fronts.{front, item_type}
use Rattle.hs_declarations.specs.declared.fronts.Front.{Front}
use Rattle.hs_expressions.specs.Expressions.{enter, prototype, first_place, type_by, typed, specified, specifier, members_of, constants_of, derivations, derivations_of, parameter_types}
use Rattle.hs_expressions.specs.Laws.{IsScoped}
use Rattle.hs_expressions.specs.Laws.Always.{value_always, prototype_always}
use Rattle.hs_expressions.specs.Laws.Extending.{typed_always, specified_always, specifier_always, derivations_always, derivations_of_always, parameter_types_always, type_always}
use Rattle.hs_expressions.specs.Laws.Grown.{parameter_type_grows}
use Rattle.hs_expressions.specs.Laws.Leaves.{tagged_struct_always, parameter_always}
use Rattle.hs_expressions.specs.Operations.{value_of}
use Rattle.hs_fitting.specs.Owned.{OwnTop, IsOwn, own_later, OwnDerivation, OwnGiven, added_own, formed_own, parameter_own}
use Rattle.hs_names.specs.Scopes.{find}
use Rattle.hs_syntax.specs.Trees as syntax
use Rattle.hs_syntax.specs.Trees.{Specified, Specification, Declared as Declarator, Directly, Parameters}
use Rattle.hs_tokens.specs.declared.place.Place.{Place}
use Rattle.hs_typer.specs.Declarators.{formed, length_of, pointers_of, word_of, place_of, parameter_type}
use Rattle.hs_typer.specs.Declaring.{list_of, parameter}
use Rattle.hs_typer.specs.Specifiers as specifying
use Rattle.hs_typer.specs.Specifiers.{no_specifiers, with_type, with_storage, type_from, typedef_of}
use Rattle.hs_typer.specs.Steps.{then_with, ◌>>=◌, ◌>>◌, give, look, kept, of_types, on_types, with_types, mapped}
use Rattle.hs_typer.specs.declared.declarators.Derivation.{Derivation}
use Rattle.hs_typer.specs.declared.declarators.Derivation.TheVariants as derivation
use Rattle.hs_typer.specs.declared.specifiers.Specifiers.{Specifiers}
use Rattle.hs_typer.specs.declared.type_error.TypeError.{TypeError}
use Rattle.hs_typer.specs.declared.typer.Typer.{Typer}
use Rattle.hs_types.specs.TypeTables.{TypeTable}
use Rattle.hs_types.specs.declared.row.Row.TheVariants as row
use Rattle.hs_types.specs.declared.row.TypeId.{TypeId}
pub use Rattle.hs_fitting.specs.OwnNames.{IsOwnName, name_later, OwnAt, own_after, Owning}
use Rattle.hs_fitting.specs.OwnNames.{Met, then_owning, any_owning, looked}
use Rattle.hs_fitting.specs.OwnSpecified.{OwnSpecifiers, stored, found_own, typedef_own, tagged_own, struct_own, struct_body_own, from_own}
pub use Rattle.hs_fitting.specs.OwnDerived.{OwnTypes}
use Rattle.hs_fitting.specs.OwnDerived.{OwnDerivations, all_later, pointers_own, listed_own, ending_own, inside_own, inside_scoped, behind, parameter_made, parameters_next, types_later}

module _ (base : ℕ) where
  mutual
    -- specifiers
    specified_owns : (is_stored : Bool) (first : Place) (done : Specifiers) (its : Specification) (s : Typer) → IsScoped s → OwnAt base s
        → OwnSpecifiers base s.types done → Owning base (OwnSpecifiers base) (specified is_stored first done its s)
    specified_owns is_stored first done syntax.no_specifiers s scoped own is = is
    specified_owns is_stored first done (syntax.more_specifiers it rest) s scoped own is =
        then_owning base (OwnSpecifiers base) (OwnSpecifiers base) (λ next. specified is_stored first next rest) s
        (specifier is_stored first done it s) scoped own
        ((specifier_always is_stored first done it).from s scoped) (specifier_owns is_stored first done it s scoped own is)
        (λ next mid grows scoped own is. specified_owns is_stored first next rest mid scoped own is)

    specifier_owns : (is_stored : Bool) (first : Place) (done : Specifiers) (it : Specified) (s : Typer) → IsScoped s → OwnAt base s
        → OwnSpecifiers base s.types done → Owning base (OwnSpecifiers base) (specifier is_stored first done it s)
    specifier_owns is_stored first done (syntax.storage word at) s scoped own is =
        looked base (OwnSpecifiers base) s (with_storage is_stored word at done) (stored base s.types is_stored word at done is)
    specifier_owns is_stored first done (syntax.dropped word at) s scoped own is = is
    specifier_owns is_stored first done (syntax.basic word at) s scoped own is = is
    specifier_owns is_stored first done (syntax.named word) s scoped own is =
        looked base (OwnSpecifiers base) s (mapped (λ id. with_type id done) (typedef_of word (find word.text s.names)))
        (typedef_own base s.types word done (find word.text s.names) (found_own base s.types word.text s.names.declarations own.names))
    specifier_owns is_stored first done (syntax.struct_tag at word) s scoped own is =
        then_owning base (λ types number. base ≤ number) (OwnSpecifiers base)
        (λ number. specifying.struct_type number >>= (λ id. give (with_type id done))) s (specifying.tagged_struct word s) scoped own
        ((tagged_struct_always word).from s scoped) ((tagged_own base word).gives s scoped own)
        (λ number mid grows scoped own is. struct_own base number done mid is)
    specifier_owns is_stored first done (syntax.struct_body at word brace members) s scoped own is =
        struct_body_own base word first brace (members_of at [] members) done s own
    specifier_owns is_stored first done (syntax.enum_tag at word) s scoped own is =
        behind base (OwnSpecifiers base) (λ number. specifying.enumeration_type number >>= (λ id. give (with_type id done)))
        (kept s (specifying.tagged_enumeration word (find word.text s.tags)))
        (λ number mid. added_own base (row.Enumeration number) mid.types tt)
    specifier_owns is_stored first done (syntax.enum_body at word brace constants comma) s scoped own is =
        behind base (OwnSpecifiers base)
        (λ number. constants_of [] (Some 0) constants >>= (λ its. specifying.completed_enumeration first word brace number its
        >> (specifying.enumeration_type number >>= (λ id. give (with_type id done))))) (specifying.begun_enumeration word s)
        (λ number mid. behind base (OwnSpecifiers base)
        (λ its. specifying.completed_enumeration first word brace number its
        >> (specifying.enumeration_type number >>= (λ id. give (with_type id done)))) (constants_of [] (Some 0) constants mid)
        (λ its n. behind base (OwnSpecifiers base) (λ it. specifying.enumeration_type number >>= (λ id. give (with_type id done)))
        (specifying.completed_enumeration first word brace number its n) (λ it q. added_own base (row.Enumeration number) q.types tt)))

    -- a declarator
    derivations_owns : (at : Place) (it : Declarator) (s : Typer) → IsScoped s → OwnAt base s → Owning base (OwnDerivations base) (derivations at it s)
    derivations_owns at (syntax.pointing pointers direct) s scoped own =
        then_owning base (OwnDerivations base) (OwnDerivations base) (λ its. give (its ++ pointers_of pointers)) s (derivations_of at direct s) scoped own
        ((derivations_of_always at direct).from s scoped) (derivations_of_owns at direct s scoped own)
        (λ its mid grows scoped own is. all_appended (OwnDerivation base mid.types) its (pointers_of pointers) is (pointers_own base mid.types pointers))

    derivations_of_owns : (at : Place) (it : Directly) (s : Typer) → IsScoped s → OwnAt base s → Owning base (OwnDerivations base) (derivations_of at it s)
    derivations_of_owns at syntax.nothing s scoped own = tt
    derivations_of_owns at (syntax.identifier word) s scoped own = tt
    derivations_of_owns at (syntax.parens_of it) s scoped own = derivations_owns at it s scoped own
    derivations_of_owns at (syntax.array direct) s scoped own =
        then_owning base (OwnDerivations base) (OwnDerivations base) (λ its. give (its ++ derivation.OpenArray ∷ [])) s (derivations_of at direct s) scoped own
        ((derivations_of_always at direct).from s scoped) (derivations_of_owns at direct s scoped own)
        (λ its mid grows scoped own is. all_appended (OwnDerivation base mid.types) its (derivation.OpenArray ∷ []) is (tt, tt))
    derivations_of_owns at (syntax.sized_array direct size) s scoped own =
        then_owning base (OwnDerivations base) (OwnDerivations base)
        (λ its. value_of (typed size) >>= (λ e. of_types (λ types. length_of types e) >>= (λ number. give (its ++ derivation.Array number ∷ []))))
        s (derivations_of at direct s) scoped own ((derivations_of_always at direct).from s scoped) (derivations_of_owns at direct s scoped own)
        (λ its mid grows scoped own is. then_owning base (λ types e. Unit {0}) (OwnDerivations base)
        (λ e. of_types (λ types. length_of types e) >>= (λ number. give (its ++ derivation.Array number ∷ []))) mid (value_of (typed size) mid) scoped own
        ((value_always (typed_always size)).from mid scoped) (any_owning base (value_of (typed size) mid))
        (λ e n further scoped own any. sized_own its n (all_later base mid.types n.types further its is) (length_of n.types e)))
      where
        sized_own : (its : List Derivation) (n : Typer) → OwnDerivations base n.types its → (given : Result ℕ TypeError)
            → Owning base (OwnDerivations base) (then_with (λ number. give (its ++ derivation.Array number ∷ [])) (kept n given))
        sized_own its n are (Ok number) = all_appended (OwnDerivation base n.types) its (derivation.Array number ∷ []) are (tt, tt)
        sized_own its n are (Err why) = tt
    derivations_of_owns at (syntax.function direct parameters) s scoped own =
        then_owning base (OwnDerivations base) (OwnDerivations base)
        (λ its. prototype (parameter_types at 0 [] parameters) >>= (λ ids. list_of ids >>= (λ list. give (its ++ derivation.Function list ∷ []))))
        s (derivations_of at direct s) scoped own ((derivations_of_always at direct).from s scoped) (derivations_of_owns at direct s scoped own)
        (λ its mid grows scoped own is. then_owning base (OwnTypes base) (OwnDerivations base)
        (λ ids. list_of ids >>= (λ list. give (its ++ derivation.Function list ∷ []))) mid (prototype (parameter_types at 0 [] parameters) mid) scoped own
        ((prototype_always (parameter_types_always at 0 [] parameters)).from mid scoped)
        (ending_own base (OwnTypes base) mid.keeps (parameter_types at 0 [] parameters (enter (record mid { keeps = false }))) scoped.closed
        (parameter_types_owns at 0 [] parameters (enter (record mid { keeps = false })) (inside_scoped base mid scoped) (inside_own base mid own) tt))
        (λ ids n further scoped own are. listed_own base its ids n (all_later base mid.types n.types further its is) are))
    derivations_of_owns at (syntax.function_of_void direct place) s scoped own =
        then_owning base (OwnDerivations base) (OwnDerivations base) (λ its. list_of [] >>= (λ list. give (its ++ derivation.Function list ∷ []))) s
        (derivations_of at direct s) scoped own ((derivations_of_always at direct).from s scoped) (derivations_of_owns at direct s scoped own)
        (λ its mid grows scoped own is. listed_own base its [] mid is tt)

    -- the types of parameters
    pub parameter_types_owns : (at : Place) (place : ℕ) (done : List TypeId) (its : Parameters) (s : Typer) → IsScoped s → OwnAt base s
        → OwnTypes base s.types done
        → Owning base (OwnTypes base) (parameter_types at place done its s)
    parameter_types_owns at place done syntax.no_parameters s scoped own are = are
    parameter_types_owns at place done (syntax.more_parameters specification it rest) s scoped own are =
        then_owning base (IsOwn base) (OwnTypes base)
        (λ id. derivations (first_place at specification) it >>= (λ its. parameter (first_place at specification) its id it place
        >>= (λ made. parameter_types at (suc place) (done ++ made ∷ []) rest))) s
        (type_by (first_place at specification) (specified false (first_place at specification) no_specifiers specification) s) scoped own
        ((type_always (first_place at specification) (specified_always false (first_place at specification) no_specifiers specification)).from s scoped)
        (then_owning base (OwnSpecifiers base) (IsOwn base) (λ its. look (λ s. type_from (first_place at specification) its)) s
        (specified false (first_place at specification) no_specifiers specification s) scoped own
        ((specified_always false (first_place at specification) no_specifiers specification).from s scoped)
        (specified_owns false (first_place at specification) no_specifiers specification s scoped own tt)
        (λ its mid grows scoped own said. looked base (IsOwn base) mid (type_from (first_place at specification) its)
        (from_own base mid own (first_place at specification) its said)))
        (λ id mid grows scoped own is. then_owning base (OwnDerivations base) (OwnTypes base)
        (λ its. parameter (first_place at specification) its id it place >>= (λ made. parameter_types at (suc place) (done ++ made ∷ []) rest)) mid
        (derivations (first_place at specification) it mid) scoped own ((derivations_always (first_place at specification) it).from mid scoped)
        (derivations_owns (first_place at specification) it mid scoped own)
        (λ its n further scoped own are'. parameters_next base n scoped (λ made. parameter_types at (suc place) (done ++ made ∷ []) rest)
        (parameter (first_place at specification) its id it place n) ((parameter_always (first_place at specification) its id it place).from n scoped)
        (parameter_made base n own (word_of it) place (parameter_type (place_of (first_place at specification) it) its id n.types)
        (parameter_type_grows (place_of (first_place at specification) it) its id n.types)
        (parameter_own base (place_of (first_place at specification) it) its id n.types are' (own_later base mid.types n.types further id is)))
        (λ made q last scoped own top. parameter_types_owns at (suc place) (done ++ made ∷ []) rest q scoped own
        (all_appended (OwnTop base q.types) done (made ∷ [])
        (types_later base n.types q.types last done (types_later base mid.types n.types further done (types_later base s.types mid.types grows done are)))
        (top, tt)))))

  -- ---- declarations

  -- what the specifiers say
  pub front_own : (at : Place) (its : Specification) (s : Typer) → IsScoped s → OwnAt base s → Owning base (λ types said. IsOwn base types said.type_id)
      (front at its s)
  front_own at its s scoped own =
      then_owning base (OwnSpecifiers base) (λ types said. IsOwn base types said.type_id)
      (λ said. look (λ s. type_from at said) >>= (λ id. give (record { storage = said.storage; type_id = id }))) s (specified true at no_specifiers its s)
      scoped own ((specified_always true at no_specifiers its).from s scoped) (specified_owns true at no_specifiers its s scoped own tt)
      (λ said mid grows scoped own is. given said mid (type_from at said) (from_own base mid own at said is))
    where
      given : (said : Specifiers) (mid : Typer) (it : Result TypeId TypeError) → Met base (IsOwn base mid.types) it
          → Owning base {A = Front} (λ types said. IsOwn base types said.type_id)
          (then_with (λ id. give (record { storage = said.storage; type_id = id })) (kept mid it))
      given said mid (Ok id) is = is
      given said mid (Err why) is = tt

  -- the type of a declarator
  pub item_type_own : (at : Place) (id : TypeId) (it : Declarator) (s : Typer) → IsScoped s → OwnAt base s → IsOwn base s.types id
      → Owning base (IsOwn base) (item_type at id it s)
  item_type_own at id it s scoped own is =
      then_owning base (OwnDerivations base) (IsOwn base) (λ its. on_types (formed (place_of at it) its id)) s (derivations at it s) scoped own
      ((derivations_always at it).from s scoped) (derivations_owns at it s scoped own)
      (λ its mid grows scoped own are. given mid (formed (place_of at it) its id mid.types)
      (formed_own base (place_of at it) its id mid.types are (own_later base s.types mid.types grows id is)))
    where
      given : (mid : Typer) (it : Result (TypeId × TypeTable) TypeError) → OwnGiven base it → Owning base (IsOwn base) (with_types mid it)
      given mid (Ok p) is = is
      given mid (Err why) is = tt
