-- The types of declarations are of this unit, from step to step.
--     OwnId id its m                the type is of this unit; own_kept: it stays so
--     also_walks                    one more fact of what a step gives
--     front_own_walks, item_own_walks      what specifiers and declarators name
--     initialised_also              the type that an initialiser gives an object
use Rattle.std.proofs.Common.{◌≡◌, ℕ, Bool, true, false, ◌||◌, List, Option, Some, None, Result, Ok, Err, refl, sym, ap, subst, ◌∙◌}
use Rattle.hs_base.specs.Tests.{true_false}
use Rattle.hs_base.specs.Options.{one_there}
use Rattle.hs_fitting.specs.UnitEnds.{function_row}
use Rattle.hs_fitting.specs.LinkedNames.{kept_walks}
use Rattle.hs_declarations.specs.Fronts.{front, item_type}
use Rattle.hs_expressions.specs.Laws.{IsConstant, IsScoped}
use Rattle.hs_expressions.specs.Laws.Always.{Reaching}
use Rattle.hs_fitting.specs.Alike.{IsAlike, AlikeGiven, initialised_alike}
use Rattle.hs_fitting.specs.Claims.{Claims, Stands, Proceeds}
use Rattle.hs_fitting.specs.Initialising.{initialised_always}
use Rattle.hs_fitting.specs.Known.{own_here, typing_fully}
use Rattle.hs_fitting.specs.Moves.{Moves}
use Rattle.hs_fitting.specs.NotingDeclaring.{front_notes, item_type_notes}
use Rattle.hs_fitting.specs.Owned.{IsOwn, own_later, plain_type}
use Rattle.hs_fitting.specs.Owning.{Owning, front_own, item_type_own}
use Rattle.hs_fitting.specs.Strict.{struct_alike}
use Rattle.std.specs.Prelude.{is_some}
use Rattle.hs_fitting.specs.Walk.{Anywhere, Nothing, Walked, Walking, Walks, so_walks}
use Rattle.hs_fitting.specs.Whole.{MayStart}
use Rattle.hs_initialisers.specs.Initialisers.{initialised}
use Rattle.hs_linkage.specs.Works.{Work, typing, with_typer}
use Rattle.hs_linkage.specs.declared.translator.Translator.{Translator}
use Rattle.hs_operand_types.specs.Types.{is_open_row}
use Rattle.hs_syntax.specs.Trees.{Declared, Initialising, Specification}
use Rattle.hs_tokens.specs.declared.place.Place.{Place}
use Rattle.hs_tree.specs.Kinds.{category_of_row}
use Rattle.hs_tree.specs.Trees.{TypedFunction, TypedProgram}
use Rattle.hs_tree.specs.declared.constant.Part.{Part}
use Rattle.hs_typer.specs.declared.type_error.TypeError.{TypeError}
use Rattle.hs_typer.specs.declared.typer.Typer.{Typer}
use Rattle.hs_types.specs.TypeTables.{TypeTable, Grows, row_of, layout_in}
use Rattle.hs_types.specs.declared.row.ListId.{ListId}
use Rattle.hs_types.specs.declared.row.Row.{Row}
use Rattle.hs_types.specs.declared.row.Row.TheVariants as row
use Rattle.hs_types.specs.declared.row.TypeId.{TypeId}

-- the type is of this unit
abbrev pub OwnId : TypeId → Claims → Translator → Type 0
OwnId id its m = IsOwn its.base m.typer.types id

-- it stays so
pub own_moved : (id : TypeId) (its more : Claims) (m n : Translator) → more.base ≡ its.base → Grows m.typer.types n.typer.types → OwnId id its m
    → OwnId id more n
own_moved id its more m n same grows is =
    subst (λ base. IsOwn base n.typer.types id) (sym same) (own_later its.base m.typer.types n.typer.types grows id is)

-- at a later place of the text
pub own_kept : (types : TypeTable) (id : TypeId) (its more : Claims) (m n : Translator) → Proceeds types its m more n → Moves m n → OwnId id its m
    → OwnId id more n
own_kept types id its more m n proceeds moves is = own_moved id its more m n proceeds.base moves.typer.types is

-- ---- one more fact

module _ (here : List ℕ → Bool) (program : TypedProgram) (function : TypedFunction) where
  also_walked : {A : Type 0} → (after more : Claims → Translator → A → Type 0) (holds : A → Type 0) (its : Claims) (m : Translator)
      → ((its later : Claims) (n : Translator) (it : A) → later.base ≡ its.base → more its n it → more later n it)
      → (given : Result (A × Translator) TypeError)
      → ((p : A × Translator) → given ≡ Ok p → Grows p.1.typer.types program.types → more its p.1 p.0)
      → Walking here program function its m after holds given
      → Walking here program function its m (λ its m it. after its m it × more its m it) holds given
  also_walked after more holds its m stays (Ok p) known walking = λ grows.
      let walked : Walked here program function its m after holds p = walking grows in
      record {
        claims = walked.claims;
        proceeds = walked.proceeds;
        stands = walked.stands;
        known = (walked.known, stays its walked.claims p.1 p.0 walked.proceeds.base (known p refl grows));
        gives = walked.gives;
      }
  also_walked after more holds its m stays (Err why) known walking = tt

module _ {here : List ℕ → Bool} {program : TypedProgram} {function : TypedFunction} where
  -- of what a step gives
  pub also_walks : {A : Type 0} → {pre extra : Claims → Translator → Type 0} → {after : Claims → Translator → A → Type 0} → {holds : A → Type 0}
      → {work : Work A} → (more : Claims → Translator → A → Type 0)
      → ((its later : Claims) (n : Translator) (it : A) → later.base ≡ its.base → more its n it → more later n it)
      → ((its : Claims) (m : Translator) → IsScoped m.typer → Stands program here its m.locals m → extra its m → (p : A × Translator) → work m ≡ Ok p
      → Grows p.1.typer.types program.types → more its p.1 p.0)
      → Walks here program function pre work after holds
      → Walks here program function (λ its m. pre its m × extra its m) work (λ its m it. after its m it × more its m it) holds
  also_walks {after = after} {holds = holds} {work = work} more stays known walks =
      record {
        moved = walks.moved;
        from = λ its m scoped counts stands met. also_walked here program function after more holds its m stays (work m)
            (λ p same grows. known its m scoped stands met.1 p same grows) (walks.from its m scoped counts stands met.0);
      }

  -- what the specifiers name
  pub front_own_walks : {pre : Claims → Translator → Type 0} → (at : Place) (words : Specification)
      → Walks here program function pre (typing (front at words)) (λ its m said. OwnId said.type_id its m) (λ said. Unit {0})
  front_own_walks at words =
      typing_fully (front at words) (λ Q. front_notes Q program.types at words)
      (λ its m scoped counts stands met p given reached grows.
      subst (Owning its.base (λ types said. IsOwn its.base types said.type_id)) given
      (front_own its.base at words m.typer scoped (own_here program here its m.locals m stands)))
      (λ its m scoped counts stands met knows binds p given noted. tt)

  -- and a declarator
  pub item_own_walks : (at : Place) (base : TypeId) (it : Declared)
      → Walks here program function (λ its m. OwnId base its m) (typing (item_type at base it)) (λ its m id. OwnId id its m) (λ id. Unit {0})
  item_own_walks at base it =
      typing_fully (item_type at base it) (λ Q. item_type_notes Q program.types at base it)
      (λ its m scoped counts stands own p given reached grows.
      subst (Owning its.base (IsOwn its.base)) given
      (item_type_own its.base at base it m.typer scoped (own_here program here its m.locals m stands) own))
      (λ its m scoped counts stands own knows binds p given noted. tt)

-- ---- the type that an initialiser gives

-- the answer of a step of typing
typed_given : {A : Type 0} → (m : Translator) (given : Result (A × Typer) TypeError) (p : A × Translator) → with_typer m given ≡ Ok p
    → given ≡ Ok (p.0, p.1.typer)
typed_given {A} m (Ok q) p is =
    let pair : A × Translator = (q.0, record m { typer = q.1 }) in
    let same : pair ≡ p = cc in
    ap (λ p. Ok (p.0, p.1.typer)) same
typed_given m (Err why) p is = absurd cc

-- a struct that may start is complete, and a function may not
struct_whole : (types : TypeTable) (o : Option Row) (n : ℕ) → o ≡ Some (row.Struct n)
    → (is_some (layout_in types o) || is_open_row o) ≡ true → is_some (layout_in types o) ≡ true
struct_whole types o n at may = by_open (is_some (layout_in types o)) (ap is_open_row at) may
  where
    by_open : (b : Bool) → is_open_row o ≡ false → (b || is_open_row o) ≡ true → b ≡ true
    by_open true closed is = refl
    by_open false closed is = absurd (true_false (is_open_row o) is closed)

-- no function may start
function_whole : (types : TypeTable) (o : Option Row) (result : TypeId) (list : ListId) → o ≡ Some (row.Function result list)
    → (is_some (layout_in types o) || is_open_row o) ≡ true → ⊥
function_whole types o result list at may =
    absurd (no_true (subst (λ o. (is_some (layout_in types o) || is_open_row o) ≡ true) at may))
  where
    no_true : false ≡ true → ⊥
    no_true is = cc

-- each row has a category
some_category : (its : Row) → category_of_row (Some its) ≡ None → ⊥
some_category row.Void is = cc
some_category (row.Integer kind) is = cc
some_category (row.Pointer of) is = cc
some_category (row.Enumeration number) is = cc
some_category (row.Struct number) is = cc
some_category (row.Array of length layout) is = cc
some_category (row.OpenArray of) is = cc
some_category (row.Function result list) is = cc

-- the type of an object after its initialiser
initialised_own : (base : ℕ) (id made : TypeId) (old new : TypeTable) → Grows old new → IsAlike old id new made → MayStart old id → IsOwn base old id
    → IsOwn base new made
initialised_own base id made old new grows alike may own = by_row (row_of new made) refl
  where
    there : row_of new id ≡ Some own.top.0
    there = grows.rows id.number own.top.0 own.top.1

    before : (its : Row) → row_of new id ≡ Some its → row_of old id ≡ Some its
    before its at = own.top.1 ∙ ap Some (one_there (row_of new id) own.top.0 its there at)

    struct_made : (n : ℕ) → row_of new made ≡ Some (row.Struct n) → IsOwn base new made
    struct_made n at =
        let mine = struct_alike new made id n alike.0 at in
        let same : made ≡ id = alike.1 (struct_whole old (row_of old id) mine.0 (before (row.Struct mine.0) mine.1) may) in
        subst (IsOwn base new) (sym same) (own_later base old new grows id own)

    by_row : (o : Option Row) → row_of new made ≡ o → IsOwn base new made
    by_row None at = absurd (some_category own.top.0 (sym (ap category_of_row there) ∙ sym alike.0 ∙ ap category_of_row at))
    by_row (Some row.Void) at = plain_type base new made row.Void at tt
    by_row (Some (row.Integer kind)) at = plain_type base new made (row.Integer kind) at tt
    by_row (Some (row.Pointer of)) at = plain_type base new made (row.Pointer of) at tt
    by_row (Some (row.Enumeration number)) at = plain_type base new made (row.Enumeration number) at tt
    by_row (Some (row.Struct n)) at = struct_made n at
    by_row (Some (row.Array of length layout)) at = plain_type base new made (row.Array of length layout) at tt
    by_row (Some (row.OpenArray of)) at = plain_type base new made (row.OpenArray of) at tt
    by_row (Some (row.Function result list)) at =
        let mine = function_row (row_of new id) (sym alike.0 ∙ ap category_of_row at) in
        absurd (function_whole old (row_of old id) mine.0 mine.1.0 (before (row.Function mine.0 mine.1.0) mine.1.1) may)

module _ {here : List ℕ → Bool} {program : TypedProgram} {function : TypedFunction} where
  -- An initialiser gives a type of this unit, if the object was of one.
  pub initialised_also : {pre : Claims → Translator → Type 0} → {after : Claims → Translator → TypeId × List Part → Type 0}
      → {holds : TypeId × List Part → Type 0} → (at : Place) (id : TypeId) (it : Initialising)
      → Walks here program function pre (typing (initialised at id it)) after holds
      → Walks here program function (λ its m. pre its m × (MayStart m.typer.types id × OwnId id its m)) (typing (initialised at id it))
      (λ its m p. after its m p × OwnId p.0 its m) holds
  initialised_also at id it walks =
      also_walks {extra = λ its m. MayStart m.typer.types id × OwnId id its m} (λ its m p. OwnId p.0 its m)
      (λ its later n p same is. subst (λ base. IsOwn base n.typer.types p.0) (sym same) is)
      (λ its m scoped stands met p same grows.
      let given = typed_given m (initialised at id it m.typer) p same in
      initialised_own its.base id p.0.0 m.typer.types p.1.typer.types
      (subst (Reaching IsConstant m.typer) given ((initialised_always at id it).from m.typer scoped)).types
      (subst (AlikeGiven m.typer.types id) given (initialised_alike at id it m.typer scoped)) met.0 met.1) walks

  -- a step keeps that a type is of this unit
  pub with_own : {A : Type 0} → {pre : Claims → Translator → Type 0} → {after : Claims → Translator → A → Type 0} → {holds : A → Type 0}
      → {work : Work A} → (id : TypeId) → Walks here program function pre work after holds
      → Walks here program function (λ its m. pre its m × OwnId id its m) work (λ its m it. after its m it × OwnId id its m) holds
  with_own id walks =
      kept_walks (λ its m. OwnId id its m) (λ its more m n proceeds moves is. own_kept program.types id its more m n proceeds moves is) walks

  -- also from no other fact
  pub own_over : {A : Type 0} → {after : Claims → Translator → A → Type 0} → {holds : A → Type 0} → {work : Work A} → (id : TypeId)
      → Walks here program function Anywhere work after holds
      → Walks here program function (λ its m. OwnId id its m) work (λ its m it. after its m it × OwnId id its m) holds
  own_over id walks = so_walks (λ its m own. (tt, own)) (λ its m it is. is) (λ it is. is) (with_own id walks)

  -- or from that alone
  pub own_through : {A : Type 0} → {holds : A → Type 0} → {work : Work A} → (id : TypeId)
      → Walks here program function (λ its m. OwnId id its m) work Nothing holds
      → Walks here program function (λ its m. OwnId id its m) work (λ its m it. OwnId id its m) holds
  own_through id walks = so_walks (λ its m own. (own, own)) (λ its m it is. is.1) (λ it is. is) (with_own id walks)
