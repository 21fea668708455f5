-- The walk of a list of initialisers through the aggregates of an object (X3.159-1989 3.5.7): what it reaches is inside the object, and after
-- what it reached before. All of it goes by the types as they are before the list; while it is typed, the table grows.
--     Fine, Around, Nested            aggregates that have begun, the innermost one first; what is left of them lies from that byte on
--     Target                          what a walk reaches
--     reached_target, whole_target    what an expression in the list initialises, and what a list in the list does
--     inside_nested                   a list in braces for that part
--     nested_end, nested_count        where what has begun ends
use Rattle.std.proofs.Common.{◌≡◌, ◌≤◌, ◌+◌, ◌*◌, ℕ, zero, suc, Bool, true, false, List, [], ◌∷◌, Option, Some, None, is_some, refl, sym, subst, ap, ◌∙◌, if◌then◌else◌, arith}
use Rattle.hs_base.specs.Options.{some_same}
use Rattle.hs_fitting.specs.Answers.{none_some}
use Rattle.hs_fitting.specs.Moves.{IsWhole}
use Rattle.hs_fitting.specs.Nexts.{next_known}
use Rattle.hs_fitting.specs.Scalars.{Aggregate, Subobject, Scalars, Within, IsAt, IsSolid, room, Beyond, Next, whole_solid, whole_room, whole_at, open_not_whole}
use Rattle.hs_fitting.specs.Staying.{next_stays, takes_stays}
use Rattle.hs_aggregates.specs.Aggregates.{next_in, advanced, fresh, unfilled, takes, Reached, reached_by, reached_within, reached_in, reached, whole_by, whole_in, whole, count_begun, most_types}
use Rattle.hs_operands.specs.Laws.Made.{either_way}
use Rattle.hs_tree.specs.Kinds.{is_scalar}
use Rattle.hs_types.specs.TypeTables.{TypeTable, row_of, size_of, IsRight, Grows}
use Rattle.hs_types.specs.declared.row.Row.TheVariants as row
use Rattle.hs_types.specs.declared.row.TypeId.{TypeId}

-- the depth is not 0
most_is : most_types ≡ suc 3999999999
unfolding most_types
most_is = refl

-- an aggregate of which what is left lies from that byte on
pub record Fine (types : TypeTable) (holds : Scalars) (from : ℕ) (it : Aggregate) : Type 0 where
  pub at : IsAt types holds it.offset it.type_id it.field
  pub solid : IsSolid types it.type_id
  pub beyond : Beyond types from it
  pub until : from ≤ it.offset + room types it.type_id

-- those around it, up to the one for which the list is
abbrev pub Around : TypeTable → Scalars → Subobject → Aggregate → List Aggregate → Type 0
Around types holds root it [] = (it.type_id ≡ root.type_id) × (it.offset ≡ root.offset)
Around types holds root it (next ∷ outer) = Fine types holds (it.offset + room types it.type_id) next × Around types holds root next outer

-- all of them
abbrev pub Nested : TypeTable → Scalars → Subobject → ℕ → List Aggregate → Type 0
Nested types holds root from [] = ⊥
Nested types holds root from (it ∷ outer) = Fine types holds from it × Around types holds root it outer

-- or none
abbrev MayNest : TypeTable → Scalars → Subobject → ℕ → List Aggregate → Type 0
MayNest types holds root from [] = Unit {0}
MayNest types holds root from (it ∷ outer) = Nested types holds root from (it ∷ outer)

-- what a walk reaches, and what is left then
pub record Target (types : TypeTable) (holds : Scalars) (root : Subobject) (from : ℕ) (to : Reached) : Type 0 where
  pub within : Within types holds to.0.offset to.0.type_id to.0.field
  pub whole : IsWhole types to.0.type_id
  pub after : from ≤ to.0.offset
  pub nested : Nested types holds root (to.0.offset + size_of types to.0.type_id) to.1

module _ (types : TypeTable) (right : IsRight types) (holds : Scalars) (root : Subobject) where
  -- one that is left earlier
  fine_sooner : (from sooner : ℕ) (it : Aggregate) → sooner ≤ from → Fine types holds from it → Fine types holds sooner it
  fine_sooner from sooner it before fine =
      record {
        at = fine.at;
        solid = fine.solid;
        beyond = (
          λ sub given. le_then sooner from sub.offset before (fine.beyond.0 sub given),
          λ of same. le_then sooner from (it.offset + it.begun * size_of types of) before (fine.beyond.1 of same),
        );
        until = le_then sooner from (it.offset + room types it.type_id) before fine.until;
      }
    where
      le_then : (a b c : ℕ) → a ≤ b → b ≤ c → a ≤ c
      le_then a b c first second = omega (arith, first, second)

  around_advanced : (it : Aggregate) (outer : List Aggregate) → Around types holds root it outer → Around types holds root (advanced it) outer
  around_advanced it [] around = around
  around_advanced it (next ∷ outer) around = around

  -- with one more that has begun
  advanced_nested : (it : Aggregate) (outer : List Aggregate) (from : ℕ) (sub : Subobject) → Nested types holds root from (it ∷ outer)
      → Next types it sub → Nested types holds root (sub.offset + size_of types sub.type_id) (advanced it ∷ outer)
  advanced_nested it outer from sub nested next = (
    record { at = nested.0.at; solid = nested.0.solid; beyond = next.beyond; until = next.until },
    around_advanced it outer nested.1,
  )

  -- a list for a part that is whole, of which nothing has begun
  fresh_fine : (from : ℕ) (sub : Subobject) → Within types holds sub.offset sub.type_id sub.field → IsWhole types sub.type_id → from ≤ sub.offset
      → Fine types holds from (fresh sub)
  fresh_fine from sub within whole before =
      let solid : IsSolid types sub.type_id = whole_solid types sub.type_id whole in
      record {
        at = whole_at types holds sub.offset sub.type_id sub.field whole within;
        solid = solid;
        beyond = (
          λ its given.
              let next : Next types (fresh sub) its = next_known types right (fresh sub) its solid given in
              omega (arith, before, next.from),
          λ of same. absurd (open_not_whole types sub.type_id of whole same),
        );
        until = omega (arith, before);
      }

  -- and inside of others
  fresh_nested : (from : ℕ) (it : Aggregate) (outer : List Aggregate) (sub : Subobject) → Nested types holds root from (it ∷ outer)
      → Next types it sub → from ≤ sub.offset → Nested types holds root from (fresh sub ∷ advanced it ∷ outer)
  fresh_nested from it outer sub nested next before =
      let advanced' = advanced_nested it outer from sub nested next in
      let size : size_of types sub.type_id ≡ room types sub.type_id = sym (whole_room types sub.type_id next.whole) in (
        fresh_fine from sub (next.at holds nested.0.at) next.whole before,
        (subst (λ n. Fine types holds (sub.offset + n) (advanced it)) size advanced'.0, advanced'.1),
      )

  -- without those that are full
  unfilled_nested : (later : TypeTable) → (from : ℕ) (its : List Aggregate) → Nested types holds root from its
      → MayNest types holds root from (unfilled later its)
  unfilled_nested later from [] nested = absurd nested
  unfilled_nested later from (it ∷ []) nested =
      either_way (MayNest types holds root from) (is_some (next_in later it)) (it ∷ []) [] (λ there. nested) (λ full. tt)
  unfilled_nested later from (it ∷ next ∷ outer) nested =
      either_way (MayNest types holds root from) (is_some (next_in later it)) (it ∷ next ∷ outer) (unfilled later (next ∷ outer)) (λ there. nested)
      (λ full. unfilled_nested later from (next ∷ outer)
      (fine_sooner (it.offset + room types it.type_id) from next nested.0.until nested.1.0, nested.1.1))

  module _ (later : TypeTable) (grows : Grows types later) (text : Bool) where
    -- the next one, and inside it
    target_if : (more : ℕ) (it : Aggregate) (outer : List Aggregate) (from : ℕ) (sub : Subobject) (to : Reached)
        → Nested types holds root from (it ∷ outer) → Next types it sub → from ≤ sub.offset
        → ((to : Reached) → reached_within more later text (fresh sub) (advanced it ∷ outer) ≡ Some to
        → Target types holds root from to × (takes types text to.0 ≡ true))
        → (b : Bool) → takes later text sub ≡ b
        → (if b then Some (sub, advanced it ∷ outer) else reached_within more later text (fresh sub) (advanced it ∷ outer)) ≡ Some to
        → Target types holds root from to × (takes types text to.0 ≡ true)
    target_if more it outer from sub to nested next before inner true taken given =
        let same : takes types text sub ≡ true =
        sym (takes_stays types right later grows text sub (whole_solid types sub.type_id next.whole)) ∙ taken in
        let here : Reached = (sub, advanced it ∷ outer) in
        subst (λ to. Target types holds root from to × (takes types text to.0 ≡ true)) (some_same here to given) (
          record {
            within = next.at holds nested.0.at;
            whole = next.whole;
            after = before;
            nested = advanced_nested it outer from sub nested next;
          },
          same,
        )
    target_if more it outer from sub to nested next before inner false taken given = inner to given

    within_target : (more : ℕ) (it : Aggregate) (outer : List Aggregate) (from : ℕ) (to : Reached) → Nested types holds root from (it ∷ outer)
        → (o : Option Subobject) → next_in types it ≡ o
        → reached_by (reached_within more later text) later text (advanced it ∷ outer) o ≡ Some to
        → Target types holds root from to × (takes types text to.0 ≡ true)
    within_target more it outer from to nested None same given = absurd (none_some to given)
    within_target zero it outer from to nested (Some sub) same given =
        let next : Next types it sub = next_known types right it sub nested.0.solid same in
        target_if zero it outer from sub to nested next (nested.0.beyond.0 sub same) (λ to' given'. absurd cc) (takes later text sub) refl given
    within_target (suc more) it outer from to nested (Some sub) same given =
        let next : Next types it sub = next_known types right it sub nested.0.solid same in
        let before : from ≤ sub.offset = nested.0.beyond.0 sub same in
        let inside = fresh_nested from it outer sub nested next before in
        target_if (suc more) it outer from sub to nested next before
        (λ to' given'. within_target more (fresh sub) (advanced it ∷ outer) from to' inside (next_in types (fresh sub)) refl
        (ap (reached_by (reached_within more later text) later text (advanced (fresh sub) ∷ advanced it ∷ outer))
        (sym (next_stays types right later grows (fresh sub) inside.0.solid)) ∙ given'))
        (takes later text sub) refl given

    -- of the innermost aggregate
    reached_in_target : (from : ℕ) (its : List Aggregate) (more : ℕ) (to : Reached) → most_types ≡ suc more → MayNest types holds root from its
        → reached_in later text its ≡ Some to → Target types holds root from to × (takes types text to.0 ≡ true)
    reached_in_target from [] more to same nested given = absurd cc
    reached_in_target from (it ∷ outer) more to same nested given =
        within_target more it outer from to nested (next_in types it) refl
        (ap (reached_by (reached_within more later text) later text (advanced it ∷ outer))
        (sym (next_stays types right later grows it nested.0.solid)) ∙
        ap (λ n. reached_within n later text it outer) (sym same) ∙ given)

    -- what an expression in a list initialises
    pub reached_target : (from : ℕ) (its : List Aggregate) (to : Reached) → Nested types holds root from its → reached later text its ≡ Some to
        → Target types holds root from to × (takes types text to.0 ≡ true)
    reached_target from its to nested given =
        reached_in_target from (unfilled later its) 3999999999 to most_is (unfilled_nested later from its nested) given

  -- the member itself
  whole_by_target : (later : TypeTable) (it : Aggregate) (outer : List Aggregate) (from : ℕ) (to : Reached) (o : Option Subobject)
      → Nested types holds root from (it ∷ outer) → next_in types it ≡ o → whole_by (advanced it ∷ outer) o ≡ Some to
      → Target types holds root from to
  whole_by_target later it outer from to None nested same given = absurd cc
  whole_by_target later it outer from to (Some sub) nested same given =
      let next : Next types it sub = next_known types right it sub nested.0.solid same in
      let here : Reached = (sub, advanced it ∷ outer) in
      subst (Target types holds root from) (some_same here to given)
      (record {
        within = next.at holds nested.0.at;
        whole = next.whole;
        after = nested.0.beyond.0 sub same;
        nested = advanced_nested it outer from sub nested next;
      })

  whole_in_target : (later : TypeTable) → Grows types later → (from : ℕ) (its : List Aggregate) (to : Reached) → MayNest types holds root from its
      → whole_in later its ≡ Some to → Target types holds root from to
  whole_in_target later grows from [] to nested given = absurd cc
  whole_in_target later grows from (it ∷ outer) to nested given = by (is_scalar later it.type_id) given
    where
      by : (b : Bool) → (if b then None else whole_by (advanced it ∷ outer) (next_in later it)) ≡ Some to → Target types holds root from to
      by true given' = absurd (none_some to given')
      by false given' =
          whole_by_target later it outer from to (next_in types it) nested refl
          (ap (whole_by (advanced it ∷ outer)) (sym (next_stays types right later grows it nested.0.solid)) ∙ given')

  -- what a list in the list initialises
  pub whole_target : (later : TypeTable) → Grows types later → (from : ℕ) (its : List Aggregate) (to : Reached) → Nested types holds root from its
      → whole later its ≡ Some to → Target types holds root from to
  whole_target later grows from its to nested given =
      whole_in_target later grows from (unfilled later its) to (unfilled_nested later from its nested) given

  -- ---- where what has begun ends

  around_end : (it : Aggregate) (outer : List Aggregate) → Around types holds root it outer
      → it.offset + room types it.type_id ≤ root.offset + room types root.type_id
  around_end it [] around = rw (around.0, around.1) (omega arith)
  around_end it (next ∷ outer) around = omega (arith, around.0.until, around_end next outer around.1)

  -- in the part for which the list is
  pub nested_end : (from : ℕ) (its : List Aggregate) → Nested types holds root from its → from ≤ root.offset + room types root.type_id
  nested_end from [] nested = absurd nested
  nested_end from (it ∷ outer) nested = omega (arith, nested.0.until, around_end it outer nested.1)

  -- among as many elements as are counted
  count_around : (of : TypeId) → row_of types root.type_id ≡ Some (row.OpenArray of) → (from : ℕ) (it : Aggregate) (outer : List Aggregate)
      → Fine types holds from it → Around types holds root it outer → from ≤ root.offset + count_begun (it ∷ outer) * size_of types of
  count_around of same from it [] fine around =
      let its : row_of types it.type_id ≡ Some (row.OpenArray of) = ap (row_of types) around.0 ∙ same in
      subst (λ n. from ≤ n + it.begun * size_of types of) around.1 (fine.beyond.1 of its)
  count_around of same from it (next ∷ outer) fine around =
      omega (arith, fine.until, count_around of same (it.offset + room types it.type_id) next outer around.0 around.1)

  pub nested_count : (of : TypeId) → row_of types root.type_id ≡ Some (row.OpenArray of) → (from : ℕ) (its : List Aggregate)
      → Nested types holds root from its → from ≤ root.offset + count_begun its * size_of types of
  nested_count of same from [] nested = absurd nested
  nested_count of same from (it ∷ outer) nested = count_around of same from it outer nested.0 nested.1

-- a list in braces for a part
pub inside_nested : (types : TypeTable) → IsRight types → (holds : Scalars) (root sub : Subobject) (from : ℕ)
    → Within types holds sub.offset sub.type_id sub.field → IsWhole types sub.type_id → from ≤ sub.offset
    → Nested types holds sub from (fresh sub ∷ [])
inside_nested types right holds root sub from within whole before = (fresh_fine types right holds root from sub within whole before, (refl, refl))
