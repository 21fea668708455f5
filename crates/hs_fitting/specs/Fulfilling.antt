-- What is claimed at the end is the program's: functions have numbers, and the declarations of routines are known whole.
--     routines_one                 two types that declarations gave one routine are one
--     claims_fulfilled             functions and routines that are claimed are there, and functions are of the types that were declared for them
--     claims_signed                the parameters of a routine that is claimed are a list that ends
use Rattle.std.proofs.Common.{◌≡◌, ◌<◌, ℕ, zero, suc, Bool, true, false, not, List, [], ◌∷◌, length, slice_get, Option, Some, None, refl, sym, ap, subst, ◌∙◌, arith}
use Rattle.std.specs.Prelude.{◌==◌, take}
use Rattle.std.proofs.lemmas.Bool.Decides.{nat_tests}
use Rattle.std.proofs.lemmas.Option.{slice_get_within}
use Rattle.hs_base.specs.Tests.{both_tests}
use Rattle.hs_base.specs.Options.{one_there, some_there}
use Rattle.hs_base.specs.Entries.{all_so, all_by_both}
use Rattle.hs_expressions.specs.Binding.{IsList, IsSignature, IsLikeBy, AllAlike, IsDefined}
use Rattle.hs_fitting.specs.Claiming.{bound_function}
use Rattle.hs_fitting.specs.Claims.{Claims, IsClaimed, RefersTo, IsBoundIn, IsExternal, IsTypedIn, IsSigned, IsRoutineOf, IsRoutineDeclared, IsAccounted, IsAccountedAs, IsFulfilled, AreFulfilled, Stands}
use Rattle.hs_fitting.specs.Entities.{IsAmong, among_has, all_among, newest_has}
use Rattle.hs_fitting.specs.Exact.{AreJoined, signature_one}
use Rattle.hs_fitting.specs.Found.{same_texts, same_self, place_found}
use Rattle.hs_fitting.specs.Known.{category_stays}
use Rattle.hs_fitting.specs.ProgramWalks.{Between}
use Rattle.hs_fitting.specs.Shapes.{SameShape}
use Rattle.hs_fitting.specs.Strict.{SameBy, AreStrict, AreClosed, closed_self, same_self as same_by_self}
use Rattle.hs_fitting.specs.UnitEnds.{unit_before, function_row, lower}
use Rattle.hs_linkage.specs.Definitions.{same_name, first_place, all_definitions, is_definition_of}
use Rattle.hs_linkage.specs.Externals.{newest_external, type_of_entity}
use Rattle.hs_linkage.specs.declared.definitions.Definition.{Definition}
use Rattle.hs_linkage.specs.declared.externals.External.{External}
use Rattle.hs_linkage.specs.declared.translator.Translator.{Translator}
use Rattle.hs_operand_types.specs.declared.operand.Bound.TheVariants as bound
use Rattle.hs_syntax.specs.Trees.{ExternalDeclaration}
use Rattle.hs_table.specs.declared.routine.Routine.{Routine}
use Rattle.hs_tree.specs.Fitting.{types_of}
use Rattle.hs_tree.specs.Kinds.{of_function}
use Rattle.hs_tree.specs.Sameness.{AreOne}
use Rattle.hs_tree.specs.Trees.{TypedFunction, TypedProgram}
use Rattle.hs_typer.specs.declared.typer.Entity.{Entity}
use Rattle.hs_typer.specs.declared.typer.Entity.TheVariants as entity
use Rattle.hs_types.specs.TypeTables.{TypeTable, Grows, row_of}
use Rattle.hs_types.specs.declared.row.ListId.{ListId}
use Rattle.hs_types.specs.declared.row.Row.TheVariants as row
use Rattle.hs_types.specs.declared.row.TypeId.{TypeId}

there_within : {A : Type 0} → (its : List A) (number : ℕ) → number < length its → (it : A) × (slice_get its number ≡ Some it)
there_within [] number less = absurd (grind (arith, less))
there_within (it ∷ its) zero less = (it, refl)
there_within (it ∷ its) (suc number) less = there_within its number (lower number (length its) less)

-- as many types, each like the other one
alike_count : (types : TypeTable) (its others : List TypeId) → AllAlike types its others → length its ≡ length others
alike_count types [] [] are = refl
alike_count types [] (other ∷ others) are = absurd are
alike_count types (it ∷ its) [] are = absurd are
alike_count types (it ∷ its) (other ∷ others) are = ap suc (alike_count types its others are.1)

module _ (program : TypedProgram) (units : List (List ExternalDeclaration)) (its : Claims) (m : Translator) (all : List TypedFunction)
    (between : Between program units units its m all) (grows : Grows m.typer.types program.types) where
  -- no unit follows
  none_later : (number : ℕ) (it : Definition) → slice_get m.definitions number ≡ Some it → (it.unit == m.typer.origins.unit) ≡ true
      → it.internal ≡ false
  none_later number it at same = absurd (not_one it.unit (length units) (subst (λ n. (it.unit == n) ≡ true) between.unit same) below)
    where
      not_one : (a b : ℕ) → (a == b) ≡ true → a < b → ⊥
      not_one a b is less = grind (arith, nat_tests, is, less)

      there : slice_get (all_definitions 0 units) number ≡ Some it
      there = subst (λ all. slice_get all number ≡ Some it) between.definitions at

      below : it.unit < length units
      below =
          unit_before units units [] (sym (Rattle.std.proofs.lemmas.List.append-nil units)) number it
          (slice_get_within (all_definitions 0 units) number it there) there

  -- what stands at the end
  pub stands_at_end : Stands program (λ name. false) its [] m
  stands_at_end = between.stands (λ name. false) none_later

  -- ---- types of one function

  -- what is so of it
  accounted_of : (it : Entity) → IsAmong it its.entities → IsAccounted program.types its m it
  accounted_of it among = among_has (IsAccounted program.types its m) it its.entities stands_at_end.accounted among

  -- a type that is claimed
  claimed_some : (o : Option TypeId) (id : TypeId) → IsClaimed program.types o id → (first : TypeId) × (o ≡ Some first)
  claimed_some None id is = absurd is
  claimed_some (Some first) id is = (first, refl)

  -- a declaration has the name of the definition that it is bound to
  external_named : (x : External) (number : ℕ) (one : Definition) (id : TypeId) → IsAmong x m.externals
      → x.entity ≡ entity.Function id (bound.Function number) → slice_get m.definitions number ≡ Some one → one.name ≡ x.name
  external_named x number one id among is at =
      let found : first_place (is_definition_of false m.typer.origins.unit x.name) m.definitions ≡ Some number
      = bound_function (first_place (is_definition_of false m.typer.origins.unit x.name) m.definitions)
      (first_place (λ it. same_name it.name x.name) m.typer.table) number
      (sym (subst (IsBoundIn m false x.name) is
      (among_has (IsExternal program.types its m) x m.externals stands_at_end.externals among).bound)) in
      same_texts one.name x.name
      (both_tests (same_name one.name x.name) (not one.internal)
      (place_found (is_definition_of false m.typer.origins.unit x.name) m.definitions number one found at)).0

  -- and a declaration of a routine that of the routine
  routine_named : (x : External) (number : ℕ) (one : Routine) (id : TypeId) → IsAmong x m.routines
      → x.entity ≡ entity.Function id (bound.Routine number) → slice_get m.typer.table number ≡ Some one → one.name ≡ x.name
  routine_named x number one id among is at =
      same_texts one.name x.name
      (place_found (λ it. same_name it.name x.name) m.typer.table number one
      (subst (IsRoutineOf m.typer.table x.name) is
      (among_has (IsRoutineDeclared program.types its m) x m.routines stands_at_end.routines among).routine) at)

  -- one name
  one_name : (a b c : List ℕ) → c ≡ a → c ≡ b → same_name a b ≡ true
  one_name a b c first second = subst (λ b. same_name a b ≡ true) (sym first ∙ second) (same_self a)

  module _ (joined : AreJoined program m) where
    -- two types of structs that are one
    abbrev StrictAtEnd : TypeId → TypeId → Type 0
    StrictAtEnd = AreStrict m.typer.origins program.types

    abbrev ClosedAtEnd : TypeId → TypeId → Type 0
    ClosedAtEnd = AreClosed its.base m.typer.types.structs m.typer.origins program.types

    -- with declarations between them
    by_pairs : (a b c d : TypeId) → SameBy StrictAtEnd program.types a b → SameBy ClosedAtEnd program.types b c → SameBy StrictAtEnd program.types d c
        → (ids : List TypeId) (gives : TypeId) → IsSignature program.types d ids gives
        → IsLikeBy (AreOne program.same program.types) program.types a ids gives
    by_pairs = signature_one program its.base m stands_at_end.traced joined

    -- two types of one definition
    by_linkage : (b : Bool) (number : ℕ) (one : Definition) (id other : TypeId) → slice_get m.definitions number ≡ Some one
        → IsAccountedAs b program.types its m id number → IsAccountedAs b program.types its m other number → (ids : List TypeId) (gives : TypeId)
        → IsSignature program.types other ids gives → IsLikeBy (AreOne program.same program.types) program.types id ids gives
    by_linkage true number one id other at is is' =
        let same : is'.0 ≡ is.0 = one_there (its.functions number) is'.0 is.0 is'.1 is.1 in
        by_pairs id is.0 is.0 other is.2
        (same_by_self ClosedAtEnd program.types (closed_self m.typer.origins program.types its.base m.typer.types.structs) is.0)
        (subst (SameBy StrictAtEnd program.types other) same is'.2)
    by_linkage false number one id other at (x, among, noted, is, strict) (y, among', noted', is', strict') =
        by_pairs id noted noted' other strict
        (between.externals x y among among'
        (one_name x.name y.name one.name (external_named x number one noted among is at) (external_named y number one noted' among' is' at))
        noted noted' (ap type_of_entity is) (ap type_of_entity is')) strict'

    -- two types of one function
    functions_one : (number : ℕ) (id other : TypeId) → IsAmong (entity.Function id (bound.Function number)) its.entities
        → IsAmong (entity.Function other (bound.Function number)) its.entities → (ids : List TypeId) (gives : TypeId)
        → IsSignature program.types other ids gives → IsLikeBy (AreOne program.same program.types) program.types id ids gives
    functions_one number id other among among' =
        let one = accounted_of (entity.Function id (bound.Function number)) among in
        let two = accounted_of (entity.Function other (bound.Function number)) among' in
        let same : two.0 ≡ one.0 = one_there (slice_get m.definitions number) two.0 one.0 two.1 one.1 in
        by_linkage one.0.internal number one.0 id other one.1 one.2
        (subst (λ one. IsAccountedAs one.internal program.types its m other number) same two.2)

    -- Two types of one routine are one.
    pub routines_one : (number : ℕ) (one : Routine) → slice_get m.typer.table number ≡ Some one → (id other : TypeId)
        → IsAmong (entity.Function id (bound.Routine number)) its.entities → IsAmong (entity.Function other (bound.Routine number)) its.entities
        → (ids : List TypeId) (gives : TypeId) → IsSignature program.types other ids gives
        → IsLikeBy (AreOne program.same program.types) program.types id ids gives
    routines_one number one at id other among among' =
        let x = accounted_of (entity.Function id (bound.Routine number)) among in
        let y = accounted_of (entity.Function other (bound.Routine number)) among' in
        by_pairs id x.2 y.2 other x.4
        (between.routines x.0 y.0 x.1 y.1
        (one_name x.0.name y.0.name one.name (routine_named x.0 number one x.2 x.1 x.3 at) (routine_named y.0 number one y.2 y.1 y.3 at))
        x.2 y.2 (ap type_of_entity x.3) (ap type_of_entity y.3)) y.4

    -- the function of a number is claimed
    claimed_number : (b : Bool) (number : ℕ) (id : TypeId) → IsAccountedAs b program.types its m id number
        → (first : TypeId) × (its.functions number ≡ Some first)
    claimed_number true number id is = (is.0, is.1)
    claimed_number false number id (x, among, noted, is, strict) =
        claimed_some (its.functions number) noted
        (subst (RefersTo program.types its m.objects) is
        (among_has (IsExternal program.types its m) x m.externals stands_at_end.externals among).refers).0

    pub claims_fulfilled : (routines : ℕ) → routines ≡ length m.typer.table → program.functions ≡ all → length program.routines ≡ routines
        → AreFulfilled program its
    claims_fulfilled routines count same counted =
        record {
          entities = all_so (λ it. IsAmong it its.entities) (IsFulfilled program) fulfilled its.entities (all_among its.entities);
          routines = λ number id claimed. let one = stands_at_end.routines_there number id claimed in
              subst (λ n. number < n) (sym (counted ∙ count)) (slice_get_within m.typer.table number one.0 one.1);
        }
      where
        defined : (number : ℕ) (id : TypeId) → IsAmong (entity.Function id (bound.Function number)) its.entities
            → IsDefined program program.types id (slice_get program.functions number)
        defined number id among =
            let one = accounted_of (entity.Function id (bound.Function number)) among in
            let claimed = claimed_number one.0.internal number id one.2 in
            let less : number < length all
            = subst (λ n. number < n) (sym (between.count ∙ ap length (sym between.definitions))) (slice_get_within m.definitions number one.0 one.1) in
            let f = there_within all number less in
            let exact = between.functions.exact number claimed.0 f.0 f.1 claimed.1 in
            subst (λ its. IsDefined program program.types id (slice_get its number)) (sym same)
            (subst (IsDefined program program.types id) (sym f.1)
            (functions_one number id exact.0 among exact.1 (types_of (take f.0.parameters f.0.variables)) f.0.result exact.2))

        fulfilled : (it : Entity) → IsAmong it its.entities → IsFulfilled program it
        fulfilled (entity.Function id (bound.Function number)) among = defined number id among
        fulfilled (entity.Function id (bound.Routine number)) among = tt
        fulfilled (entity.Function id bound.Nothing) among = tt
        fulfilled (entity.Constant bits) among = tt
        fulfilled (entity.Variable variable id) among = tt
        fulfilled (entity.Typedef id) among = tt

  -- of a declaration of the routine
  entity_signed : (number : ℕ) (first : TypeId) (name : List ℕ) (it : Entity) → its.routines number ≡ Some first
      → first_place (λ other. same_name other.name name) m.typer.table ≡ Some number → IsRoutineOf m.typer.table name it
      → RefersTo program.types its m.objects it → IsTypedIn m.typer.types it
      → ((id : TypeId) → type_of_entity it ≡ Some id → (result : TypeId) (list : ListId) → row_of program.types id ≡ Some (row.Function result list)
      → (parameters : List TypeId) × IsList program.types list parameters × (length parameters < length program.types.lists))
      → (parameters : List TypeId) × ((result : TypeId) × IsSignature program.types first parameters result
      × (length parameters < length program.types.lists))
  entity_signed number first name (entity.Constant bits) claimed found is refers typed signed = absurd is
  entity_signed number first name (entity.Variable variable id) claimed found is refers typed signed = absurd is
  entity_signed number first name (entity.Function id (bound.Function place)) claimed found is refers typed signed = absurd is
  entity_signed number first name (entity.Function id bound.Nothing) claimed found is refers typed signed = absurd is
  entity_signed number first name (entity.Typedef id) claimed found is refers typed signed = absurd is
  entity_signed number first name (entity.Function id (bound.Routine place)) claimed found is refers typed signed =
      let same : place ≡ number = one_there (first_place (λ other. same_name other.name name) m.typer.table) place number is found in
      let shape : SameShape program.types first id
      = subst (λ o. IsClaimed program.types o id) claimed (subst (λ place. IsClaimed program.types (its.routines place) id) same refers.0) in
      let one = function_row (row_of program.types id) (category_stays m.typer.types program.types id of_function grows typed) in
      let whole = signed id refl one.0 one.1.0 one.1.1 in
      let like = shape.back whole.0 one.0 (one.1.0, one.1.1, whole.1) in (
        like.0,
        (like.1.0, like.1.1, subst (λ n. n < length program.types.lists) (sym (alike_count program.types like.0 whole.0 like.1.2)) whole.2),
      )

  pub claims_signed : (number : ℕ) (id : TypeId) → its.routines number ≡ Some id
      → (parameters : List TypeId) × ((result : TypeId) × IsSignature program.types id parameters result × (length parameters < length program.types.lists))
  claims_signed number id claimed =
      let one = stands_at_end.routines_there number id claimed in
      let newest = some_there (newest_external one.0.name m.routines) (stands_at_end.routines_met number id one.0 claimed one.1) in
      let entry = newest_has (λ it. IsRoutineDeclared program.types its m it × IsSigned program.types it) one.0.name m.routines newest.0
      (all_by_both (IsRoutineDeclared program.types its m) (IsSigned program.types)
      (λ it. IsRoutineDeclared program.types its m it × IsSigned program.types it) (λ it is is'. (is, is')) m.routines stands_at_end.routines between.signed)
      newest.1 in
      entity_signed number id entry.0.name entry.0.entity claimed
      (subst (λ name. first_place (λ other. same_name other.name name) m.typer.table ≡ Some number) (sym (same_texts entry.0.name one.0.name entry.2)) one.2)
      entry.1.0.routine entry.1.0.refers entry.1.0.typed entry.1.1
