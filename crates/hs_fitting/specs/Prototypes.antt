-- The names in the scope of parameters: those of the parameters, by their places, and constants of enumerations.
--     IsParameterName ids it            a constant, or a parameter, whose type is that of its place
--     AreAsMany ids its                 as many types as parameters
--     Lists s done its given            what is known after the types of parameters, if they are an answer
--     parameters_listed                 the types of parameters (X3.159-1989 3.5.4.3)
use Rattle.std.proofs.Common.{◌≡◌, ℕ, suc, false, List, [], ◌∷◌, ◌++◌, length, slice_get, Option, Some, None, Result, Ok, Err, refl, sym, ap, subst, ◌∙◌}
use Rattle.std.proofs.lemmas.List.{append_assoc, append-nil}
use Rattle.hs_base.specs.Entries.{entry_stays, last_there}
use Rattle.hs_expressions.specs.Expressions.{first_place, type_by, specified, derivations, parameter_types}
use Rattle.hs_expressions.specs.Laws.{IsConstant, IsScoped}
use Rattle.hs_expressions.specs.Laws.Always.{Always, Reaching, gives_always, looks_always, on_types_always, then_always}
use Rattle.hs_expressions.specs.Laws.Extending.{specified_always, derivations_always}
use Rattle.hs_expressions.specs.Laws.Grown.{parameter_type_grows}
use Rattle.hs_expressions.specs.Laws.Leaves.{declare_always}
use Rattle.hs_expressions.specs.Laws.Reached.{Reaches, reaches_self, reaches_then, reaches_wider, scoped_after}
use Rattle.hs_syntax.specs.Trees as syntax
use Rattle.hs_syntax.specs.Trees.{Specification, Declared, Parameters}
use Rattle.hs_syntax.specs.declared.word.Word.{Word}
use Rattle.hs_tokens.specs.declared.place.Place.{Place}
use Rattle.hs_tree.specs.declared.head.Variable.TheVariants as variable
use Rattle.hs_typer.specs.Declarators.{parameter_type, word_of, place_of}
use Rattle.hs_typer.specs.Declaring.{declare_parameter, parameter}
use Rattle.hs_typer.specs.Specifiers.{no_specifiers, type_from}
use Rattle.hs_typer.specs.Steps.{Step, then_with, ◌>>=◌, give, on_types}
use Rattle.hs_typer.specs.declared.declarators.Derivation.{Derivation}
use Rattle.hs_typer.specs.declared.type_error.TypeError.{TypeError}
use Rattle.hs_typer.specs.declared.typer.Entity.{Entity}
use Rattle.hs_typer.specs.declared.typer.Entity.TheVariants as entity
use Rattle.hs_typer.specs.declared.typer.Typer.{Typer}
use Rattle.hs_types.specs.declared.row.TypeId.{TypeId}

-- a constant of an enumeration, or the parameter of a place, with the type of that place
abbrev pub IsParameterName : List TypeId → Entity → Type 0
IsParameterName ids (entity.Constant bits) = Unit {0}
IsParameterName ids (entity.Variable (variable.Global place) id) = ⊥
IsParameterName ids (entity.Variable (variable.Local place) id) = slice_get ids place ≡ Some id
IsParameterName ids (entity.Function id bound) = ⊥
IsParameterName ids (entity.Typedef id) = ⊥

-- as many types as parameters
abbrev pub AreAsMany : List TypeId → Parameters → Type 0
AreAsMany [] syntax.no_parameters = Unit {0}
AreAsMany [] (syntax.more_parameters words it rest) = ⊥
AreAsMany (id ∷ ids) syntax.no_parameters = ⊥
AreAsMany (id ∷ ids) (syntax.more_parameters words it rest) = AreAsMany ids rest

-- a constant is such a name
pub constant_named : (ids : List TypeId) (it : Entity) → IsConstant it → IsParameterName ids it
constant_named ids (entity.Constant bits) is = tt
constant_named ids (entity.Variable variable id) is = absurd is
constant_named ids (entity.Function id bound) is = absurd is
constant_named ids (entity.Typedef id) is = absurd is

-- ---- lists of types

-- the place after it
one_longer : {A : Type 0} → (xs : List A) (x : A) → suc (length xs) ≡ length (xs ++ x ∷ [])
one_longer [] x = refl
one_longer (y ∷ xs) x = ap suc (one_longer xs x)

-- a name stays one if more parameters follow
names_later : (done more : List TypeId) (it : Entity) → IsParameterName done it → IsParameterName (done ++ more) it
names_later done more (entity.Constant bits) is = tt
names_later done more (entity.Variable (variable.Global place) id) is = absurd is
names_later done more (entity.Variable (variable.Local place) id) is = entry_stays done more place id is
names_later done more (entity.Function id bound) is = absurd is
names_later done more (entity.Typedef id) is = absurd is

-- ---- steps

-- After the types of parameters, if they are an answer, after those that were done: names are parameters and constants.
abbrev pub Lists : Typer → List TypeId → Parameters → Result (List TypeId × Typer) TypeError → Type 0
Lists s done its (Ok p) = Reaches (IsParameterName p.0) s p.1 × (ids : List TypeId) × (p.0 ≡ done ++ ids) × AreAsMany ids its
Lists s done its (Err why) = Unit {0}

-- from a place before it
lists_behind : (s mid : Typer) (done : List TypeId) (its : Parameters) (given : Result (List TypeId × Typer) TypeError) → Reaches IsConstant s mid
    → Lists mid done its given → Lists s done its given
lists_behind s mid done its (Ok p) before after = (
  reaches_then (IsParameterName p.0) s mid p.1 (reaches_wider IsConstant (IsParameterName p.0) (constant_named p.0) s mid before) after.0,
  after.1,
  after.2,
  after.3,
)
lists_behind s mid done its (Err why) before after = tt

-- after a step that declares constants alone
lists_then : {A : Type 0} → (done : List TypeId) (its : Parameters) (next : A → Step (List TypeId)) (s : Typer) (given : Result (A × Typer) TypeError)
    → IsScoped s → Reaching IsConstant s given → ((it : A) (n : Typer) → IsScoped n → Lists n done its (next it n))
    → Lists s done its (then_with next given)
lists_then done its next s (Ok p) scoped before after =
    lists_behind s p.1 done its (next p.0 p.1) before (after p.0 p.1 (scoped_after IsConstant s p.1 before scoped))
lists_then done its next s (Err why) scoped before after = tt

-- one parameter, of which the type is made: it is declared, if it is named
parameter_declared : (ids : List TypeId) (o : Option Word) (place : ℕ) (id : TypeId) → slice_get ids place ≡ Some id
    → Always (IsParameterName ids) (declare_parameter o place id)
parameter_declared ids None place id at = gives_always tt
parameter_declared ids (Some word) place id at = declare_always word (entity.Variable (variable.Local place) id) at

module _ (words : Specification) (it : Declared) (rest : Parameters) (done : List TypeId) (next : TypeId → Step (List TypeId))
    (after : (id : TypeId) (n : Typer) → IsScoped n → Lists n (done ++ id ∷ []) rest (next id n)) where
  -- after it, the others
  lists_more : (s mid : Typer) (id : TypeId) (given : Result (List TypeId × Typer) TypeError) → Reaches (IsParameterName (done ++ id ∷ [])) s mid
      → Lists mid (done ++ id ∷ []) rest given → Lists s done (syntax.more_parameters words it rest) given
  lists_more s mid id (Ok p) before others = (
    reaches_then (IsParameterName p.0) s mid p.1
        (reaches_wider (IsParameterName (done ++ id ∷ [])) (IsParameterName p.0)
        (λ its is. subst (λ ids. IsParameterName ids its) (sym others.2) (names_later (done ++ id ∷ []) others.1 its is)) s mid before) others.0,
    id ∷ others.1,
    others.2 ∙ append_assoc done (id ∷ []) others.1,
    others.3,
  )
  lists_more s mid id (Err why) before others = tt

  -- after its name
  declared_then : (id : TypeId) (s : Typer) (given : Result (Unit {0} × Typer) TypeError) → IsScoped s
      → Reaching (IsParameterName (done ++ id ∷ [])) s given
      → Lists s done (syntax.more_parameters words it rest) (then_with next (then_with (λ declared. give id) given))
  declared_then id s (Ok p) scoped before =
      lists_more s p.1 id (next id p.1) before (after id p.1 (scoped_after (IsParameterName (done ++ id ∷ [])) s p.1 before scoped))
  declared_then id s (Err why) scoped before = tt

  -- after its type
  made_then : (s : Typer) (given : Result (TypeId × Typer) TypeError) → IsScoped s → Reaching IsConstant s given
      → Lists s done (syntax.more_parameters words it rest)
      (then_with next (then_with (λ made. declare_parameter (word_of it) (length done) made >>= (λ declared. give made)) given))
  made_then s (Ok p) scoped before =
      let is_scoped = scoped_after IsConstant s p.1 before scoped in
      lists_behind s p.1 done (syntax.more_parameters words it rest)
      (then_with next (then_with (λ declared. give p.0) (declare_parameter (word_of it) (length done) p.0 p.1))) before
      (declared_then p.0 p.1 (declare_parameter (word_of it) (length done) p.0 p.1) is_scoped
      ((parameter_declared (done ++ p.0 ∷ []) (word_of it) (length done) p.0 (last_there done p.0)).from p.1 is_scoped))
  made_then s (Err why) scoped before = tt

  -- that and the others
  lists_parameter : (first : Place) (its : List Derivation) (base : TypeId) (s : Typer) → IsScoped s
      → Lists s done (syntax.more_parameters words it rest) ((parameter first its base it (length done) >>= next) s)
  lists_parameter first its base s scoped =
      let made : Always IsConstant (on_types (parameter_type (place_of first it) its base)) =
      on_types_always (parameter_type (place_of first it) its base) (λ types. parameter_type_grows (place_of first it) its base types) in
      made_then s (on_types (parameter_type (place_of first it) its base) s) scoped (made.from s scoped)

-- the type that specifiers name
base_always : (first : Place) (its : Specification) → Always IsConstant (type_by first (specified false first no_specifiers its))
base_always first its = then_always (specified_always false first no_specifiers its) (λ said. looks_always (λ s. type_from first said))

-- the types of parameters
pub parameters_listed : (at : Place) (done : List TypeId) (its : Parameters) (s : Typer) → IsScoped s
    → Lists s done its (parameter_types at (length done) done its s)
parameters_listed at done syntax.no_parameters s scoped = (reaches_self (IsParameterName done) s, [], sym (append-nil done), tt)
parameters_listed at done (syntax.more_parameters words it rest) s scoped =
    let first : Place = first_place at words in
    let next : TypeId → Step (List TypeId) = λ id. parameter_types at (suc (length done)) (done ++ id ∷ []) rest in
    lists_then done (syntax.more_parameters words it rest)
    (λ base. derivations first it >>= (λ its. parameter first its base it (length done) >>= next)) s
    (type_by first (specified false first no_specifiers words) s) scoped ((base_always first words).from s scoped)
    (λ base n is. lists_then done (syntax.more_parameters words it rest) (λ its. parameter first its base it (length done) >>= next) n
    (derivations first it n) is ((derivations_always first it).from n is)
    (λ its k is'. lists_parameter words it rest done next
    (λ id m is''. subst (λ place. Lists m (done ++ id ∷ []) rest (parameter_types at place (done ++ id ∷ []) rest m)) (sym (one_longer done id))
    (parameters_listed at (done ++ id ∷ []) rest m is'')) first its base k is'))
