-- The routines of a program at the end of all units: each that is called is declared as at its first call, and all its calls have types that are
-- one with that.
--     listed_is                       the types of a list of parameters, as the definition reads them
--     prototype_is                    the prototype of a function type
--     paired, bound_paired            the routines, each with its prototype
--     AreSigned types its             what is claimed for routines are function types with fewer parameters than there are lists
--     AreExact same types its table   two types that declarations gave one routine are one
--     routines_count, all_noted_calls, all_roles      the laws
--     lasting                         what was noted in all units is the program's
use Rattle.std.proofs.Common.{◌≡◌, ◌≤◌, ◌<◌, ℕ, zero, suc, true, List, [], ◌∷◌, ◌++◌, length, slice_get, Option, Some, None, refl, sym, ap, subst, ◌∙◌, arith}
use Rattle.std.proofs.lemmas.List.{append_assoc, append-nil}
use Rattle.std.proofs.lemmas.Option.{slice_get_within}
use Rattle.std.specs.List.{AllByRecursion}
use Rattle.hs_base.specs.Entries.{all_so}
use Rattle.hs_expressions.specs.Binding.{IsList, IsSignature, AllAlike, IsLike, IsLikeBy, IsPrototype, IsNotedCall}
use Rattle.hs_expressions.specs.Laws.Reached.{prefix_self}
use Rattle.hs_expressions.specs.Roles.{fits_routine}
use Rattle.hs_fitting.specs.Claims.{Claims, IsClaimed, AreFulfilled, Endures, IsCallClaimed}
use Rattle.hs_fitting.specs.Entities.{IsAmong}
use Rattle.hs_fitting.specs.Roles.{role_fits}
use Rattle.hs_linkage.specs.declared.translator.Translator.{Translator}
use Rattle.hs_operand_types.specs.declared.operand.Bound.TheVariants as bound
use Rattle.hs_table.specs.declared.routine.Routine.{Routine}
use Rattle.hs_tree.specs.Fitting.{prototype_in, HasRole, HasRoleAs}
use Rattle.hs_tree.specs.Sameness.{AreOne}
use Rattle.hs_tree.specs.Trees.{TypedFunction}
use Rattle.hs_tree.specs.declared.function.BoundRoutine.{BoundRoutine}
use Rattle.hs_tree.specs.declared.function.Prototype.{Prototype}
use Rattle.hs_tree.specs.declared.representatives.Representatives.{Representatives}
use Rattle.hs_typer.specs.declared.typer.Entity.TheVariants as entity
use Rattle.hs_typer.specs.declared.typer.RoutineCall.{RoutineCall}
use Rattle.hs_types.specs.TypeTables.{TypeTable}
use Rattle.hs_types.specs.declared.row.ListId.{ListId}
use Rattle.hs_types.specs.declared.row.TypeId.{TypeId}
use Rattle.hs_ends.specs.Ends.{no_types, first_types, listed_next, listed_in, prototype_of_row, prototype_of, bound_routine, bound_routines}
use Rattle.hs_typing.specs.Finishing.{program_at_end, finished_types, finished_objects}
use Rattle.hs_typing.specs.FirstCalls.{none_count, first_count, HasFirst, first_known, IsCalled, none_called, first_called}
use Rattle.hs_typing.specs.Marking.{all_marked}

-- ---- the parameters of a function type

-- fewer are left
fewer_left : (id : TypeId) (ids : List TypeId) (count : ℕ) → length (id ∷ ids) ≤ suc count → length ids ≤ count
fewer_left id ids count few = omega (arith, few)

-- none is left
none_left : (id : TypeId) (ids : List TypeId) → length (id ∷ ids) ≤ 0 → ⊥
none_left id ids few = omega (arith, few)

module _ (types : TypeTable) where
  -- the list of that number, if there are turns enough
  pub listed_is : (count : ℕ) (done : List TypeId) (list : ListId) (ids : List TypeId) → length ids ≤ count → IsList types list ids
      → listed_in count types done list ≡ done ++ ids
  listed_is zero done list [] few is = sym (append-nil done)
  listed_is (suc count) done list [] few is =
      ap (listed_next (λ next others. listed_in count types next others) done) is ∙ sym (append-nil done)
  listed_is zero done list (id ∷ ids) few is = absurd (none_left id ids few)
  listed_is (suc count) done list (id ∷ ids) few is =
      ap (listed_next (λ next others. listed_in count types next others) done) is.1
      ∙ listed_is count (done ++ id ∷ []) is.0 ids (fewer_left id ids count few) is.2 ∙ append_assoc done (id ∷ []) ids

  -- fewer than there are lists
  at_most : (count limit : ℕ) → count < limit → count ≤ limit
  at_most count limit fewer = omega (arith, fewer)

  -- the result and the parameters of a function type
  pub prototype_is : (id : TypeId) (parameters : List TypeId) (result : TypeId) → IsSignature types id parameters result
      → length parameters < length types.lists
      → prototype_of types (Some id) ≡ Some (record { result = result; parameters = parameters })
  prototype_is id parameters result is fewer =
      let its : List TypeId → Option Prototype = λ ids. Some (record { result = result; parameters = ids }) in
      ap (prototype_of_row types) is.1
      ∙ ap its (listed_is (length types.lists) [] is.0 parameters (at_most (length parameters) (length types.lists) fewer) is.2)

  -- lists of types of the same categories are of one length
  alike_count : (its others : List TypeId) → AllAlike types its others → length its ≡ length others
  alike_count [] [] are = refl
  alike_count [] (other ∷ others) are = absurd are
  alike_count (id ∷ ids) [] are = absurd are
  alike_count (id ∷ ids) (other ∷ others) are = ap suc (alike_count ids others are.1)

  -- ---- routines with their prototypes

  -- each routine with the type of its declaration
  abbrev pub paired : List Routine → List (Option TypeId) → List BoundRoutine
  paired [] ids = []
  paired (it ∷ rest) [] = []
  paired (it ∷ rest) (id ∷ ids) = bound_routine types it id ∷ paired rest ids

  -- after those that are done
  pub bound_paired : (done : List BoundRoutine) (its : List Routine) (ids : List (Option TypeId))
      → bound_routines types done its ids ≡ done ++ paired its ids
  bound_paired done [] ids = sym (append-nil done)
  bound_paired done (it ∷ rest) [] = sym (append-nil done)
  bound_paired done (it ∷ rest) (id ∷ ids) =
      bound_paired (done ++ bound_routine types it id ∷ []) rest ids ∙ append_assoc done (bound_routine types it id ∷ []) (paired rest ids)

  -- some are not none
  no_suc : (n : ℕ) → suc n ≡ 0 → ⊥
  no_suc n same = omega (arith, same)

  -- one fewer
  less_one : (n k : ℕ) → suc n ≡ suc k → n ≡ k
  less_one n k same = omega (arith, same)

  -- as many as there are routines
  pub paired_count : (its : List Routine) (ids : List (Option TypeId)) → length its ≡ length ids → length (paired its ids) ≡ length its
  paired_count [] ids same = refl
  paired_count (it ∷ rest) [] same = absurd (no_suc (length rest) same)
  paired_count (it ∷ rest) (id ∷ ids) same = ap suc (paired_count rest ids (less_one (length rest) (length ids) same))

  -- the one of a number
  paired_at : (its : List Routine) (ids : List (Option TypeId)) (number : ℕ) (routine : Routine) (id : Option TypeId)
      → slice_get its number ≡ Some routine → slice_get ids number ≡ Some id
      → slice_get (paired its ids) number ≡ Some (bound_routine types routine id)
  paired_at [] ids number routine id known known' = absurd cc
  paired_at (it ∷ rest) [] number routine id known known' = absurd cc
  paired_at (it ∷ rest) (other ∷ ids) zero routine id known known' =
      let same : it ≡ routine = cc in
      let same' : other ≡ id = cc in
      ap (λ one. Some (bound_routine types one other)) same ∙ ap (λ one. Some (bound_routine types routine one)) same'
  paired_at (it ∷ rest) (other ∷ ids) (suc number) routine id known known' = paired_at rest ids number routine id known known'

-- what is so of each entry is so of all
all_by_places : {A : Type 0} → (holds : A → Type 0) (xs : List A) → ((number : ℕ) (x : A) → slice_get xs number ≡ Some x → holds x)
    → AllByRecursion holds xs
all_by_places holds [] each = tt
all_by_places holds (x ∷ xs) each = (each 0 x refl, all_by_places holds xs (λ number. each (suc number)))

-- the parts of an entry
abbrev IsPaired : TypeTable → List Routine → List (Option TypeId) → ℕ → BoundRoutine → Type 0
IsPaired types its ids number one =
    (routine : Routine) × (id : Option TypeId) × (slice_get its number ≡ Some routine) × (slice_get ids number ≡ Some id)
    × (bound_routine types routine id ≡ one)

-- of each entry
paired_entry : (types : TypeTable) (its : List Routine) (ids : List (Option TypeId)) (number : ℕ) (one : BoundRoutine)
    → slice_get (paired types its ids) number ≡ Some one → IsPaired types its ids number one
paired_entry types [] ids number one known = absurd cc
paired_entry types (it ∷ rest) [] number one known = absurd cc
paired_entry types (it ∷ rest) (id ∷ ids) zero one known = (it, id, refl, refl, cc)
paired_entry types (it ∷ rest) (id ∷ ids) (suc number) one known = paired_entry types rest ids number one known

-- ---- what is claimed for routines

-- Function types with fewer parameters than there are lists.
abbrev pub AreSigned : TypeTable → Claims → Type 0
AreSigned types its =
    (number : ℕ) (id : TypeId) → its.routines number ≡ Some id
    → (parameters : List TypeId) × ((result : TypeId) × IsSignature types id parameters result × (length parameters < length types.lists))

-- Two types that declarations gave one routine are one, by their results and parameters.
abbrev pub AreExact : Representatives → TypeTable → Claims → List Routine → Type 0
AreExact same types its table =
    (number : ℕ) (one : Routine) → slice_get table number ≡ Some one → (id other : TypeId)
    → IsAmong (entity.Function id (bound.Routine number)) its.entities → IsAmong (entity.Function other (bound.Routine number)) its.entities
    → (ids : List TypeId) (gives : TypeId) → IsSignature types other ids gives → IsLikeBy (AreOne same types) types id ids gives

-- as few
as_few : (count count' limit : ℕ) → count ≡ count' → count' < limit → count < limit
as_few count count' limit same few = omega (arith, same, few)

-- the routine of a call is there
routine_there : (types : TypeTable) (id : TypeId) (given : Option Routine) → fits_routine types id given ≡ true
    → (routine : Routine) × (given ≡ Some routine)
routine_there types id None is = absurd cc
routine_there types id (Some routine) is = (routine, refl)

module _ (types : TypeTable) (its : Claims) (table : List Routine) (calls : List RoutineCall)
    (claimed : AllByRecursion (IsCallClaimed types its table) calls) (signed : AreSigned types its) where
  -- the types of the first calls
  abbrev ids : List (Option TypeId)
  ids = first_types (no_types table) calls

  -- the routines
  abbrev routines : List BoundRoutine
  routines = paired types table ids

  -- as many
  ids_count : length table ≡ length ids
  ids_count = sym (first_count (no_types table) calls ∙ none_count table)

  -- types with which routines are called
  ids_called : (number : ℕ) (id : TypeId) → slice_get ids number ≡ Some (Some id) → IsCalled types its table number id
  ids_called =
      first_called types its table (no_types table) calls (λ number id known. absurd (none_called types its table table number id known)) claimed

  -- the signature of a type, which is its prototype
  abbrev HasPrototype : TypeId → Type 0
  HasPrototype id =
      (parameters : List TypeId) × (result : TypeId) × IsSignature types id parameters result
      × (prototype_of types (Some id) ≡ Some (record { result = result; parameters = parameters }))

  -- one of the shape of what is claimed
  claimed_prototype : (number : ℕ) (id : TypeId) (first : Option TypeId) → its.routines number ≡ first → IsClaimed types first id → HasPrototype id
  claimed_prototype number id None known is = absurd is
  claimed_prototype number id (Some first) known is =
      let of_first : (parameters : List TypeId) × ((result : TypeId) × IsSignature types first parameters result
      × (length parameters < length types.lists))
      = signed number first known in
      let like : IsLike types types id of_first.0 of_first.1.0 = is.there of_first.0 of_first.1.0 of_first.1.1 in (
        like.0,
        like.1.0,
        like.1.1,
        prototype_is types id like.0 like.1.0 like.1.1
            (as_few (length like.0) (length of_first.0) (length types.lists) (alike_count types like.0 of_first.0 like.1.2) of_first.1.2),
      )

  -- the routine of a call is one of the table
  call_within : (it : RoutineCall) → IsCallClaimed types its table it → it.routine < length (no_types table)
  call_within it is =
      let there : (routine : Routine) × (slice_get table it.routine ≡ Some routine)
      = routine_there types it.type_id (slice_get table it.routine) is.1 in
      subst (λ count. it.routine < count) (sym (none_count table)) (slice_get_within table it.routine there.0 there.1)

  module _ (same : Representatives) (exact : AreExact same types its table) where
    -- a call fits the prototype of its routine
    abbrev IsNotedIn : RoutineCall → Type 0
    IsNotedIn it = IsPrototype (AreOne same types) types it.type_id (prototype_in (slice_get routines it.routine))

    -- a call and its first one
    call_noted : (it : RoutineCall) → IsCallClaimed types its table it → HasFirst ids it → IsNotedIn it
    call_noted it is first =
        let there : (routine : Routine) × (slice_get table it.routine ≡ Some routine)
        = routine_there types it.type_id (slice_get table it.routine) is.1 in
        let called : IsCalled types its table it.routine first.0 = ids_called it.routine first.0 first.1 in
        let given : HasPrototype first.0 = claimed_prototype it.routine first.0 (its.routines it.routine) refl called.0.0 in
        subst (IsPrototype (AreOne same types) types it.type_id)
        (sym (ap prototype_in (paired_at types table ids it.routine there.0 (Some first.0) there.1 first.1) ∙ given.3))
        (exact it.routine there.0 there.1 it.type_id first.0 is.0.1 called.0.1 given.0 given.1 given.2)

    -- some of the calls
    calls_noted : (some : List RoutineCall) → AllByRecursion (IsCallClaimed types its table) some → AllByRecursion (HasFirst ids) some
        → AllByRecursion IsNotedIn some
    calls_noted [] are first = tt
    calls_noted (it ∷ rest) are first = (call_noted it are.0 first.0, calls_noted rest are.1 first.1)

    -- Each call fits the prototype of its routine.
    pub routines_noted : AllByRecursion IsNotedIn calls
    routines_noted =
        calls_noted calls claimed
        (first_known (no_types table) calls
        (all_so (IsCallClaimed types its table) (λ it. it.routine < length (no_types table)) call_within calls claimed))

  -- a routine that is called or is not
  role_as : (number : ℕ) (routine : Routine) (id : Option TypeId) → slice_get table number ≡ Some routine → slice_get ids number ≡ Some id
      → HasRole types (bound_routine types routine id)
  role_as number routine None there known = tt
  role_as number routine (Some id) there known =
      let called : IsCalled types its table number id = ids_called number id known in
      let given : HasPrototype id = claimed_prototype number id (its.routines number) refl called.0.0 in
      subst (HasRoleAs types routine) (sym given.3) (role_fits types table number routine id given.0 given.1 there given.2 called.1)

  -- the one of a number
  role_at : (number : ℕ) (one : BoundRoutine) → slice_get routines number ≡ Some one → HasRole types one
  role_at number one known =
      let parts : IsPaired types table ids number one = paired_entry types table ids number one known in
      subst (HasRole types) parts.4 (role_as number parts.0 parts.1 parts.2 parts.3)

  -- The prototype of each routine fits its role.
  pub routines_fit : AllByRecursion (HasRole types) routines
  routines_fit = all_by_places (HasRole types) routines role_at

-- ---- the program

module _ (m : Translator) (functions : List TypedFunction) (main : ℕ) where
  -- its types
  abbrev final : TypeTable
  final = (program_at_end m functions main).types

  -- its routines
  routines_are : (program_at_end m functions main).routines ≡ paired final m.typer.table (first_types (no_types m.typer.table) m.typer.calls)
  routines_are = bound_paired final [] m.typer.table (first_types (no_types m.typer.table) m.typer.calls)

  -- They are those of the table.
  pub routines_count : length (program_at_end m functions main).routines ≡ length m.typer.table
  routines_count =
      ap length routines_are
      ∙ paired_count final m.typer.table (first_types (no_types m.typer.table) m.typer.calls)
      (sym (first_count (no_types m.typer.table) m.typer.calls ∙ none_count m.typer.table))

  module _ (its : Claims) (claimed : AllByRecursion (IsCallClaimed final its m.typer.table) m.typer.calls) (signed : AreSigned final its) where
    -- Each call that was noted is one of the program's.
    pub all_noted_calls : AreExact (program_at_end m functions main).same final its m.typer.table
        → AllByRecursion (IsNotedCall (program_at_end m functions main) (program_at_end m functions main).types) m.typer.calls
    all_noted_calls exact =
        subst (λ all. AllByRecursion (λ it. IsPrototype (AreOne (program_at_end m functions main).same final) final it.type_id
        (prototype_in (slice_get all it.routine))) m.typer.calls)
        (sym routines_are) (routines_noted final its m.typer.table m.typer.calls claimed signed (program_at_end m functions main).same exact)

    -- Each declaration of a routine fits its role.
    pub all_roles : AllByRecursion (HasRole (program_at_end m functions main).types) (program_at_end m functions main).routines
    all_roles =
        subst (AllByRecursion (HasRole final)) (sym routines_are) (routines_fit final its m.typer.table m.typer.calls claimed signed)

    -- What was noted in all units is the program's.
    pub lasting : AreExact (program_at_end m functions main).same final its m.typer.table → AreFulfilled (program_at_end m functions main) its
        → Endures (program_at_end m functions main) its m
    lasting exact fulfilled =
        record {
          types = finished_types m functions main;
          literals = prefix_self m.typer.literals;
          calls = all_noted_calls exact;
          taken = all_marked m functions main;
          claims = fulfilled;
          objects = finished_objects m functions main;
        }
