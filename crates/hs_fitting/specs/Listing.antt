-- What a list of initialisers gives (X3.159-1989 3.5.7): constants for the scalars of the object that it is for, in their order.
--     Braced program types holds root filled     constants for the object, from its start on
--     braced_started                             a list in braces for an object
--     alone_started                              an expression for it
use Rattle.std.proofs.Common.{◌≡◌, ◌≤◌, ◌+◌, ◌*◌, ℕ, Bool, true, List, [], ◌∷◌, ◌++◌, length, Option, Some, None, is_some, Ok, refl, ap, subst, arith}
use Rattle.hs_expressions.specs.Laws.Always.{gives_always, looks_always, of_types_always, then_always}
use Rattle.hs_fitting.specs.Answers.{accepted}
use Rattle.hs_fitting.specs.Filling.{Simple, simple_started, excess_started}
use Rattle.hs_fitting.specs.Initialising.{excess_always, simple_always, placed_value_always, value_reached_always, text_or_always, placed_always, all_placed_always}
use Rattle.hs_fitting.specs.Moves.{IsWhole}
use Rattle.hs_fitting.specs.PartLists.{AreParts, no_parts, parts_then, parts_until}
use Rattle.hs_fitting.specs.Readying.{Started, gives_started, looks_started, of_types_started, then_started, so_started, tested_started}
use Rattle.hs_fitting.specs.Scalars.{Subobject, Scalars, IsAt, IsSolid, whole_solid, whole_room, whole_at}
use Rattle.hs_fitting.specs.Staying.{takes_stays, text_kind_stays}
use Rattle.hs_fitting.specs.Texts.{TextParts, text_parts}
use Rattle.hs_fitting.specs.Walking.{Nested, Target, reached_target, whole_target, inside_nested, nested_end, nested_count}
use Rattle.hs_aggregates.specs.Aggregates.{text_kind, fresh, takes, reached, Reached, whole, count_begun}
use Rattle.hs_initialisers.specs.Initialisers.{Filled, text_of, is_string, lone_string, placed_value, place_beyond, whole_at as whole_reached, text_filled, text_or, placed, all_placed, braced, all_of, alone}
use Rattle.hs_syntax.specs.Positions.{position_of}
use Rattle.hs_syntax.specs.Trees as syntax
use Rattle.hs_syntax.specs.Trees.{Expression, Initialising, Initialisers}
use Rattle.hs_tokens.specs.declared.place.Place.{Place}
use Rattle.hs_tree.specs.Trees.{TypedFunction, TypedProgram}
use Rattle.hs_tree.specs.declared.constant.Part.{Part}
use Rattle.hs_typer.specs.Steps.{Step}
use Rattle.hs_types.specs.TypeTables.{TypeTable, row_of, size_of, IsRight, Grows}
use Rattle.hs_types.specs.declared.row.Row.TheVariants as row
use Rattle.hs_types.specs.declared.row.TypeId.{TypeId}

-- ---- what they give

-- the parts so far end where what is left of the aggregates begins
pub record IsFilled (program : TypedProgram) (types : TypeTable) (holds : Scalars) (root : Subobject) (filled : Filled) : Type 0 where
  pub from : ℕ
  pub parts : AreParts program holds 0 from filled.0
  pub nested : Nested types holds root from filled.1

-- constants for the object, from its start on
pub record Braced (program : TypedProgram) (types : TypeTable) (holds : Scalars) (root : Subobject) (filled : Filled) : Type 0 where
  pub whole : IsWhole types root.type_id → AreParts program holds 0 (root.offset + size_of types root.type_id) filled.0
  pub opens : (of : TypeId) → row_of types root.type_id ≡ Some (row.OpenArray of)
      → AreParts program holds 0 (root.offset + count_begun filled.1 * size_of types of) filled.0

module _ (program : TypedProgram) (function : TypedFunction) (sound : IsRight program.types) (types : TypeTable) (right : IsRight types)
    (holds : Scalars) where
  -- what a walk reaches, if anything
  abbrev Reaching : Subobject → ℕ → Bool → Option Reached → Type 0
  Reaching root from text None = Unit {0}
  Reaching root from text (Some to) = Target types holds root from to × (takes types text to.0 ≡ true)

  reaching_by : (later : TypeTable) → Grows types later → (root : Subobject) (from : ℕ) (text : Bool) (done : Filled) → Nested types holds root from done.1
      → (o : Option Reached) → reached later text done.1 ≡ o → Reaching root from text o
  reaching_by later grows root from text done nested None same = tt
  reaching_by later grows root from text done nested (Some to) same =
      reached_target types right holds root later grows text from done.1 to nested same

  -- an expression in a list
  placed_value_started : (at : Place) (root : Subobject) (done : List Part) (from : ℕ) (e : Expression) (to : Option Reached)
      → AreParts program holds 0 from done → Reaching root from (is_string e) to
      → Started program function types (IsFilled program types holds root) (placed_value at done e to)
  placed_value_started at root done from e None are reaching =
      then_started (excess_always at e) (excess_started program function sound types right holds at e) (λ its. gives_always (done ++ its, []))
      (λ its none'. absurd none')
  placed_value_started at root done from e (Some to) are reaching =
      let target = reaching.0 in
      let before = target.after in
      let there = whole_at types holds to.0.offset to.0.type_id to.0.field target.whole target.within in
      then_started (simple_always to.0 e)
      (simple_started program function sound types right holds to.0 e (whole_solid types to.0.type_id target.whole) there reaching.1)
      (λ its. gives_always (done ++ its, to.1))
      (λ its is. gives_started (done ++ its, to.1)
      (record {
        from = to.0.offset + size_of types to.0.type_id;
        parts = parts_then program holds 0 from to.0.offset (to.0.offset + size_of types to.0.type_id) done its (omega arith) before (omega arith) are
            (is.whole target.whole);
        nested = target.nested;
      }))

  -- a list in braces
  filled_braced : (root : Subobject) (filled : Filled) → IsFilled program types holds root filled → Braced program types holds root filled
  filled_braced root filled is =
      record {
        whole = λ whole.
            let size = whole_room types root.type_id whole in
            let last = nested_end types right holds root is.from filled.1 is.nested in
            parts_until program holds 0 is.from (root.offset + size_of types root.type_id) filled.0 (omega (arith, size, last)) is.parts;
        opens = λ of same.
            parts_until program holds 0 is.from (root.offset + count_begun filled.1 * size_of types of) filled.0
            (nested_count types right holds root of same is.from filled.1 is.nested) is.parts;
      }

  text_braced : (root : Subobject) (from : ℕ) (done its : List Part) → AreParts program holds 0 from done → from ≤ root.offset
      → TextParts program types holds root its → Braced program types holds root (text_filled root.type_id done its)
  text_braced root from done its are before text =
      record {
        whole = λ whole.
            let fits = text.fits whole in
            parts_then program holds 0 from root.offset (root.offset + size_of types root.type_id) done its (omega arith) before (omega arith) are
            (parts_until program holds root.offset (root.offset + length its) (root.offset + size_of types root.type_id) its (omega (arith, fits))
            text.parts);
        opens = λ of same.
            let one : root.offset + length its ≤ root.offset + length its * size_of types of = rw (text.each of same) (omega arith) in
            parts_then program holds 0 from root.offset (root.offset + length its * size_of types of) done its (omega arith) before (omega arith) are
            (parts_until program holds root.offset (root.offset + length its) (root.offset + length its * size_of types of) its one text.parts);
      }

  text_or_started : (o : Option Expression) (root : Subobject) (from : ℕ) (done : List Part) (others : Step Filled)
      → AreParts program holds 0 from done → from ≤ root.offset → IsSolid types root.type_id → IsAt types holds root.offset root.type_id root.field
      → Started program function types (Braced program types holds root) others
      → Started program function types (Braced program types holds root) (text_or o root done others)
  text_or_started None root from done others are before solid there is = is
  text_or_started (Some e) root from done others are before solid there is =
      tested_started (λ s. is_some (text_kind s.types root.type_id)) (is_some (text_kind types root.type_id))
      (λ s grows. ap is_some (text_kind_stays types right s.types grows root.type_id solid))
      (λ text. then_started (of_types_always (text_of root e))
      (of_types_started {holds = TextParts program types holds root} (text_of root e)
      (λ later grows after made given. text_parts program types right holds later grows after root e made solid there given))
      (λ its. gives_always (text_filled root.type_id done its))
      (λ its made. gives_started (text_filled root.type_id done its) (text_braced root from done its are before made)))
      (λ other. is)

  -- the part for which a list inside a list is
  whole_given : (later : TypeTable) → Grows types later → (root : Subobject) (from : ℕ) (at : Place) (done : Filled) → Nested types holds root from done.1
      → (o : Option Reached) (to : Reached) → whole later done.1 ≡ o → whole_reached at o ≡ Ok to → Target types holds root from to
  whole_given later grows root from at done nested None to same given = absurd cc
  whole_given later grows root from at done nested (Some its) to same given =
      subst (Target types holds root from) (accepted its to given) (whole_target types right holds root later grows from done.1 its nested same)

  mutual
    -- one initialiser of a list
    placed_started : (name : Place) (root : Subobject) (done : Filled) (it : Initialising) → IsFilled program types holds root done
        → Started program function types (IsFilled program types holds root) (placed name done it)
    placed_started name root done (syntax.value e) is =
        then_started (looks_always (λ s. Ok (place_beyond s.types name done.1 (position_of e))))
        (looks_started {holds = λ at. Unit {0}} (λ s. Ok (place_beyond s.types name done.1 (position_of e))) (λ s grows after at given. tt))
        (λ at. value_reached_always at done e)
        (λ at any. then_started (looks_always (λ s. Ok (reached s.types (is_string e) done.1)))
        (looks_started {holds = Reaching root is.from (is_string e)} (λ s. Ok (reached s.types (is_string e) done.1))
        (λ s grows after to given.
        reaching_by s.types grows root is.from (is_string e) done is.nested to (accepted (reached s.types (is_string e) done.1) to given)))
        (λ to. placed_value_always at done.0 e to) (λ to reaching. placed_value_started at root done.0 is.from e to is.parts reaching))
    placed_started name root done (syntax.list at its comma) is =
        then_started (looks_always (λ s. whole_reached (place_beyond s.types name done.1 at) (whole s.types done.1)))
        (looks_started {holds = Target types holds root is.from} (λ s. whole_reached (place_beyond s.types name done.1 at) (whole s.types done.1))
        (λ s grows after to given.
        whole_given s.types grows root is.from (place_beyond s.types name done.1 at) done is.nested (whole s.types done.1) to refl given))
        (λ to. then_always
        (text_or_always (lone_string its) to.0 done.0 (all_placed name (done.0, fresh to.0 ∷ []) its) (all_placed_always name (done.0, fresh to.0 ∷ []) its))
        (λ inner. gives_always (inner.0, to.1)))
        (λ to target. then_started
        (text_or_always (lone_string its) to.0 done.0 (all_placed name (done.0, fresh to.0 ∷ []) its) (all_placed_always name (done.0, fresh to.0 ∷ []) its))
        (text_or_started (lone_string its) to.0 is.from done.0 (all_placed name (done.0, fresh to.0 ∷ []) its) is.parts target.after
        (whole_solid types to.0.type_id target.whole) (whole_at types holds to.0.offset to.0.type_id to.0.field target.whole target.within)
        (so_started (filled_braced to.0)
        (all_placed_started name to.0 (done.0, fresh to.0 ∷ []) its
        (record {
          from = is.from;
          parts = is.parts;
          nested = inside_nested types right holds to.0 to.0 is.from target.within target.whole target.after;
        }))))
        (λ inner. gives_always (inner.0, to.1))
        (λ inner braced'. gives_started (inner.0, to.1)
        (record {
          from = to.0.offset + size_of types to.0.type_id;
          parts = braced'.whole target.whole;
          nested = target.nested;
        })))

    -- those of a list
    all_placed_started : (name : Place) (root : Subobject) (done : Filled) (its : Initialisers) → IsFilled program types holds root done
        → Started program function types (IsFilled program types holds root) (all_placed name done its)
    all_placed_started name root done syntax.no_initialisers is = gives_started done is
    all_placed_started name root done (syntax.more_initialisers first rest) is =
        then_started (placed_always name done first) (placed_started name root done first is) (λ next. all_placed_always name next rest)
        (λ next is'. all_placed_started name root next rest is')

  -- a list in braces for the whole object
  pub braced_started : (name : Place) (id : TypeId) (its : Initialisers) → IsSolid types id → IsAt types holds 0 id None
      → Started program function types (Braced program types holds (all_of id)) (braced name (all_of id) [] its)
  braced_started name id its solid there =
      text_or_started (lone_string its) (all_of id) 0 [] (all_placed name ([], fresh (all_of id) ∷ []) its) (no_parts program holds 0 0) (omega arith) solid
      there
      (so_started (filled_braced (all_of id))
      (all_placed_started name (all_of id) ([], fresh (all_of id) ∷ []) its
      (record {
        from = 0;
        parts = no_parts program holds 0 0;
        nested = (
          record {
            at = there;
            solid = solid;
            beyond = (λ sub given. omega arith, λ of same. omega arith);
            until = omega arith;
          },
          (refl, refl),
        );
      })))

  -- an expression for it
  pub alone_started : (id : TypeId) (e : Expression) → IsSolid types id → IsAt types holds 0 id None
      → Started program function types (Simple program types holds (all_of id)) (alone id e)
  alone_started id e solid there =
      tested_started (λ s. takes s.types (is_string e) (all_of id)) (takes types (is_string e) (all_of id))
      (λ s grows. takes_stays types right s.types grows (is_string e) (all_of id) solid)
      (λ taken. simple_started program function sound types right holds (all_of id) e solid there taken)
      (λ other. so_started (λ its none'. absurd none') (excess_started program function sound types right holds (position_of e) e))
