-- Automatic variables refer to what was claimed, and start with what fits them, as the program goes on (X3.159-1989 3.1.2.4 and 3.5.7).
--     IsRightItemIf                   the fact of a variable that is given a value, if there is one
--     unless_grown_walks              a test of what is known, of which the types go on to those of the whole program
--     automatic_walks                 an automatic variable: from one place of the text to the last one, where its type is known
use Rattle.std.proofs.Common.{◌≡◌, ℕ, Bool, true, false, not, ◌||◌, List, [], ◌∷◌, ◌++◌, length, slice_get, Option, Some, None, is_some, Result, Ok, Err, refl, sym, ap, subst, ◌∙◌, if◌then◌else◌}
use Rattle.hs_base.specs.Entries.{all_so}
use Rattle.hs_expressions.specs.Laws.Traced.{traced_same}
use Rattle.hs_declarations.specs.Declarations.{is_object, given, new_local, local_typed, local_started, automatic}
use Rattle.hs_expressions.specs.Binding.Keeping.{IsNoted, KnowsBound, Giving, IsBound}
use Rattle.hs_expressions.specs.Laws.{IsConstant, IsScoped, Knows}
use Rattle.hs_expressions.specs.Laws.Always.{Anything, Reaching}
use Rattle.hs_expressions.specs.Laws.Reached.{Reaches, reaches_then, scoped_after}
use Rattle.hs_fitting.specs.Alike.{IsAlike, AlikeGiven, starting_alike}
use Rattle.hs_fitting.specs.Blocks.{types_with, local_moves, local_of, typed_last}
use Rattle.hs_fitting.specs.Bodies.{stands_locals, proceeds_still, first_same, rest_same}
use Rattle.hs_fitting.specs.Changing.{stands_changed}
use Rattle.hs_fitting.specs.Claims.{IsOfClaim, Claims, IsVariableAt, IsVariableIn, Stands}
use Rattle.hs_fitting.specs.ConstantNumbers.{HasWideKinds}
use Rattle.hs_fitting.specs.Declaring.{renamed_always}
use Rattle.hs_fitting.specs.Initialised.{alike_later}
use Rattle.hs_fitting.specs.Initialising.{starting_always}
use Rattle.hs_fitting.specs.Known.{knows_names, names_allow, stands_typer, stands_reached}
use Rattle.hs_fitting.specs.Lasting.{endures_typer}
use Rattle.hs_fitting.specs.Leaving.{local_later}
use Rattle.hs_fitting.specs.Links.{objects_self}
use Rattle.hs_fitting.specs.Moves.{any_reaches, IsWhole, Moves, moves_typer}
use Rattle.hs_fitting.specs.Moving.{Moving, unless_moved}
use Rattle.hs_fitting.specs.Noting.{Noted, Noting}
use Rattle.hs_fitting.specs.NotingInitialising.{starting_notes}
use Rattle.hs_fitting.specs.Phrases.{IsRightItem}
use Rattle.hs_fitting.specs.Scalars.{open_not_whole}
use Rattle.hs_fitting.specs.Sizing.{MayHaveStart}
use Rattle.hs_fitting.specs.Starting.{IsStart, starting_fits}
use Rattle.hs_fitting.specs.Walk.{Anywhere, Nothing, Continues, continues_first, Walked, Walking, Walks, stays_walked, unless_walks, then_walks, so_walks}
use Rattle.hs_fitting.specs.Whole.{MayStart, WholeGiven, starting_whole, open_row}
use Rattle.hs_initialisers.specs.Initialisers.{starting}
use Rattle.hs_linkage.specs.Linkage.{renamed}
use Rattle.hs_linkage.specs.Works.{work_with, ◌>>=◌, ◌>>◌, pass, typing, with_typer, unless}
use Rattle.hs_linkage.specs.declared.translator.Translator.{Translator}
use Rattle.hs_names.specs.Scopes.{declared, find, find_here}
use Rattle.hs_operands.specs.Laws.{IsTyped}
use Rattle.hs_operand_types.specs.Types.{is_open, designates}
use Rattle.hs_syntax.specs.Trees.{Initialising}
use Rattle.hs_syntax.specs.declared.word.Word.{Word}
use Rattle.hs_tree.specs.Fitting.{types_of, FitsVariable}
use Rattle.hs_tree.specs.Inside.{InStart}
use Rattle.hs_tree.specs.Objects.{FitsStart}
use Rattle.hs_tree.specs.Trees as tree
use Rattle.hs_tree.specs.Trees.{RightValue, Starting, TypedItem, TypedFunction, TypedProgram}
use Rattle.hs_tree.specs.declared.head.Variable.TheVariants as variable
use Rattle.hs_tree.specs.declared.head.VariableDecl.{VariableDecl}
use Rattle.hs_typer.specs.Declarators.{is_typedef, declare}
use Rattle.hs_typer.specs.declared.type_error.TypeError.{TypeError}
use Rattle.hs_typer.specs.declared.type_error.TypeError.TheVariants.{Untyped}
use Rattle.hs_typer.specs.declared.typer.Entity.TheVariants as entity
use Rattle.hs_typer.specs.declared.typer.Typer.{Typer}
use Rattle.hs_types.specs.Growing.{grows_then}
use Rattle.hs_types.specs.Growing.{grows_self}
use Rattle.hs_types.specs.TypeTables.{TypeTable, row_of, is_complete, IsRight, Grows}
use Rattle.hs_types.specs.declared.row.Row.TheVariants as row
use Rattle.hs_types.specs.declared.row.TypeId.{TypeId}

-- a variable that is given a value, if there is one
abbrev pub IsRightItemIf : TypedProgram → TypedFunction → Option TypedItem → Type 0
IsRightItemIf program function None = Unit {0}
IsRightItemIf program function (Some it) = IsRightItem program function it

-- ---- a test of what is known, in the whole program

module _ (here : List ℕ → Bool) (program : TypedProgram) (function : TypedFunction) where
  -- of an answer of the test
  unless_grown_walked : (after : Claims → Translator → Unit {0} → Type 0) (its : Claims) (m : Translator) (why : TypeError) (b : Bool)
      → Stands program here its m.locals m → (b ≡ false → Grows m.typer.types program.types → after its m tt)
      → Walking here program function its m after (λ it. Unit {0}) (if b then Err why else Ok (tt, m))
  unless_grown_walked after its m why true stands known = tt
  unless_grown_walked after its m why false stands known =
      λ grows. stays_walked here program function after (λ it. Unit {0}) tt its m stands (known refl grows) tt grows

module _ {here : List ℕ → Bool} {program : TypedProgram} {function : TypedFunction} where
  -- Where it fails, it is known to, and the types there go on to those of the whole program.
  pub unless_grown_walks : {pre : Claims → Translator → Type 0} → {after : Claims → Translator → Unit {0} → Type 0} → (why : TypeError)
      (test : Translator → Bool)
      → ((its : Claims) (m : Translator) → pre its m → test m ≡ false → Grows m.typer.types program.types → after its m tt)
      → Walks here program function pre (unless why test) after (λ it. Unit {0})
  unless_grown_walks {after = after} why test known =
      record {
        moved = unless_moved why test;
        from = λ its m scoped counts stands met. unless_grown_walked here program function after its m why (test m) stands (known its m met);
      }

-- ---- a type that may start, and is complete at the end

-- an array of unknown length is never complete
whole_by : (start final : TypeTable) (id : TypeId) (b : Bool) → Grows start final → is_complete start id ≡ b → (b || is_open start id) ≡ true
    → IsWhole final id → IsWhole start id
whole_by start final id true grows whole may later = whole
whole_by start final id false grows fails may later =
    let array : (of : TypeId) × (row_of start id ≡ Some (row.OpenArray of)) = open_row (row_of start id) may in
    absurd (open_not_whole final id array.0 later (grows.rows id.number (row.OpenArray array.0) array.1))

-- so the type was complete before
whole_before : (start final : TypeTable) (id : TypeId) → Grows start final → MayStart start id → IsWhole final id → IsWhole start id
whole_before start final id grows may later = whole_by start final id (is_complete start id) grows refl may later

-- ---- the last variable

-- its type may be another one than that of the name
last_variable : (types : TypeTable) (locals : List VariableDecl) (word : Word) (made id : TypeId) → IsVariableAt types (Some made) id
    → IsVariableAt types (slice_get (types_of (locals ++ local_of word made ∷ [])) (length locals)) id
last_variable types [] word made id is = is
last_variable types (it ∷ locals) word made id is = last_variable types locals word made id is

-- What fits its type fits the variable of that place, in a function that has these variables and more.
fits_last : (program : TypedProgram) (locals variables : List VariableDecl) (made : TypeId) (start : Starting) (more : List TypeId)
    → types_of variables ≡ (types_of locals ++ made ∷ []) ++ more → FitsStart program made start
    → FitsVariable program (slice_get variables (length locals)) start
fits_last program [] [] made start more same is = absurd cc
fits_last program [] (it ∷ rest) made start more same is =
    subst (λ id. FitsStart program id start) (sym (first_same it.type_id made (types_of rest) more same)) is
fits_last program (first ∷ locals) [] made start more same is = absurd cc
fits_last program (first ∷ locals) (it ∷ rest) made start more same is =
    fits_last program locals rest made start more
    (rest_same it.type_id first.type_id (types_of rest) ((types_of locals ++ made ∷ []) ++ more) same) is

-- well typed and bound, if it is a value
start_typed : (one other third : RightValue → Type 0) (it : Starting) → InStart (λ e. one e × other e × third e) it → InStart one it × InStart other it
start_typed one other third (tree.value e) is = (is.0, is.1)
start_typed one other third (tree.parts its) is = (tt, tt)

-- ---- from one place of the text

module _ (word : Word) (id : TypeId) (m : Translator) (scoped : IsScoped m.typer) where
  -- the name of the variable, with a type
  abbrev named : TypeId → Typer → Typer
  named type s = record s { names = declared word.text (entity.Variable (variable.Local (length m.locals)) type) s.names }

  -- the variable, with a type
  abbrev variables : TypeId → List VariableDecl
  variables type = m.locals ++ local_of word type ∷ []

  -- the name is known
  named_reaches : Reaches Anything m.typer (named id m.typer)
  named_reaches = (renamed_always word (entity.Variable (variable.Local (length m.locals)) id)).from m.typer scoped

  -- in the scopes that there were
  named_scoped : IsScoped (named id m.typer)
  named_scoped = scoped_after Anything m.typer (named id m.typer) named_reaches scoped

  -- where the variable has no initialiser
  abbrev unstarted : Option TypedItem × Translator
  unstarted = (None, record m { typer = named id m.typer; locals = variables id })

  -- where its initialiser gave that
  abbrev started : (TypeId × Starting) × Typer → Option TypedItem × Translator
  started p = (Some (given (length m.locals) word p.0.1), record m { typer = named p.0.0 p.1; locals = variables p.0.0 })

  -- Each end of the declaration: it is refused, or the variable is there, with or without an initialiser.
  module _ (holds : Result (Option TypedItem × Translator) TypeError → Type 0) (fails : (why : TypeError) → holds (Err why))
      (bare : IsWhole m.typer.types id → holds (Ok unstarted))
      (full : (it : Initialising) (p : (TypeId × Starting) × Typer) → starting word.place id it (named id m.typer) ≡ Ok p → MayStart m.typer.types id
      → holds (Ok (started p))) where
    -- with the name
    abbrev begun : Translator
    begun = record m { typer = named id m.typer; locals = variables id }

    -- after the initialiser
    ends_started : (it : Initialising) → MayStart m.typer.types id → (answer : Result ((TypeId × Starting) × Typer) TypeError)
        → starting word.place id it (named id m.typer) ≡ answer
        → holds (work_with (λ its. local_typed (length m.locals) its.0
        >> (typing (renamed word (entity.Variable (variable.Local (length m.locals)) its.0)) >> pass (Some (given (length m.locals) word its.1))))
        (with_typer begun answer))
    ends_started it may (Ok p) is =
        subst (λ locals. holds (Ok (Some (given (length m.locals) word p.0.1), record m { typer = named p.0.0 p.1; locals = locals })))
        (sym (typed_last p.0.0 m.locals (local_of word id))) (full it p is may)
    ends_started it may (Err why) is = fails why

    -- if the type may have one
    ends_tested : (it : Initialising) (b : Bool) → (is_complete m.typer.types id || is_open m.typer.types id) ≡ b
        → holds (work_with {A = Unit {0}} {B = Option TypedItem} (λ may. typing (starting word.place id it)
        >>= (λ its. local_typed (length m.locals) its.0
        >> (typing (renamed word (entity.Variable (variable.Local (length m.locals)) its.0)) >> pass (Some (given (length m.locals) word its.1)))))
        (if not b then Err (Untyped word.place) else Ok (tt, begun)))
    ends_tested it true may = ends_started it may (starting word.place id it (named id m.typer)) refl
    ends_tested it false may = fails (Untyped word.place)

    -- without an initialiser the type is complete
    ends_whole : (b : Bool) → is_complete m.typer.types id ≡ b
        → holds (work_with {A = Unit {0}} {B = Option TypedItem} (λ whole. pass None) (if not b then Err (Untyped word.place) else Ok (tt, begun)))
    ends_whole true whole = bare whole
    ends_whole false whole = fails (Untyped word.place)

    -- with or without one
    ends_begun : (it : Option Initialising) → holds (local_started word id (length m.locals) it begun)
    ends_begun None = ends_whole (is_complete m.typer.types id) refl
    ends_begun (Some it) = ends_tested it (is_complete m.typer.types id || is_open m.typer.types id) refl

    -- if nothing else has the name in its scope
    ends_named : (it : Option Initialising) (b : Bool)
        → holds (work_with (λ named. local_started word id (length m.locals) it)
        (with_typer {A = Unit {0}} (record m { locals = variables id }) (if b then Err (Untyped word.place) else Ok (tt, named id m.typer))))
    ends_named it true = fails (Untyped word.place)
    ends_named it false = ends_begun it

    -- so it is of the declaration
    ends : (it : Option Initialising)
        → holds ((new_local word id >>= (λ place. typing (declare word (entity.Variable (variable.Local place) id)) >> local_started word id place it)) m)
    ends it = ends_named it (is_typedef (find word.text m.typer.names) || is_some (find_here word.text m.typer.names))

-- ---- the variable moves on what is known

-- with it, its name, and what its initialiser notes
automatic_moving : (word : Word) (id : TypeId) (it : Option Initialising) (m : Translator) → IsScoped m.typer
    → Moving m ((new_local word id >>= (λ place. typing (declare word (entity.Variable (variable.Local place) id)) >> local_started word id place it)) m)
automatic_moving word id it m scoped = ends word id m scoped (Moving m) (λ why. tt) bare full it
  where
    bare : IsWhole m.typer.types id → Moves m (unstarted word id m scoped).1
    bare whole =
        local_moves m (named word id m scoped id m.typer) (variables word id m scoped id) id scoped (named_reaches word id m scoped) whole
        (types_with m.locals (local_of word id))

    full : (it : Initialising) (p : (TypeId × Starting) × Typer) → starting word.place id it (named word id m scoped id m.typer) ≡ Ok p
        → MayStart m.typer.types id → Moves m (started word id m scoped p).1
    full it p is may =
        let inside : IsScoped (named word id m scoped id m.typer) = named_scoped word id m scoped in
        let reached : Reaches IsConstant (named word id m scoped id m.typer) p.1
        = subst (Reaching IsConstant (named word id m scoped id m.typer)) is
        ((starting_always word.place id it).from (named word id m scoped id m.typer) inside) in
        let whole : IsWhole p.1.types p.0.0
        = subst WholeGiven is (starting_whole word.place id it (named word id m scoped id m.typer) inside may) in
        local_moves m (named word id m scoped p.0.0 p.1) (variables word id m scoped p.0.0) p.0.0 scoped
        (reaches_then Anything m.typer p.1 (named word id m scoped p.0.0 p.1)
        (reaches_then Anything m.typer (named word id m scoped id m.typer) p.1 (named_reaches word id m scoped)
        (any_reaches IsConstant (named word id m scoped id m.typer) p.1 reached))
        ((renamed_always word (entity.Variable (variable.Local (length m.locals)) p.0.0)).from p.1
        (scoped_after IsConstant (named word id m scoped id m.typer) p.1 reached inside)))
        whole (types_with m.locals (local_of word p.0.0))

-- ---- and all names refer to what was claimed

module _ (here : List ℕ → Bool) (program : TypedProgram) (function : TypedFunction) (sound : IsRight program.types) (word : Word) (id : TypeId)
    (its : Claims) (m : Translator) (scoped : IsScoped m.typer) (counts : m.typer.counts ≡ true) (stands : Stands program here its m.locals m) where
  -- the first name
  abbrev first_typer : Typer
  first_typer = named word id m scoped id m.typer

  -- where its initialiser begins, if the variable has that type at the end
  abbrev with_variable : TypeId → Translator
  with_variable made = record m { typer = first_typer; locals = variables word id m scoped made }

  -- the names that are known there
  stands_named : (made : TypeId) → IsVariableAt program.types (Some made) id
      → Stands program here its (variables word id m scoped made) (with_variable made)
  stands_named made is =
      stands_locals program here its (variables word id m scoped made) (record m { typer = first_typer }) (variables word id m scoped made)
      (stands_typer program here its m first_typer refl refl m.locals (variables word id m scoped made)
      (grows_self m.typer.types) (traced_same m.typer first_typer refl refl refl) (tt, stands.typedefs) (tt, stands.names) (
        last_variable program.types m.locals word made id is,
        all_so (λ it. IsVariableIn program.types m.locals it.entity) (λ it. IsVariableIn program.types (variables word id m scoped made) it.entity)
            (λ it is. local_later program.types m.locals (variables word id m scoped made) it.entity
            (made ∷ [], types_with m.locals (local_of word made)) is) m.typer.names.declarations stands.locals,
      )
      stands.calls stands.right (endures_typer program its m first_typer Anything (named_reaches word id m scoped)) stands)

  -- without an initialiser
  unstarted_walked : Walked here program function its m Nothing (IsRightItemIf program function) (unstarted word id m scoped)
  unstarted_walked =
      record {
        claims = its;
        proceeds = proceeds_still program.types its m (with_variable id) refl refl refl refl;
        stands = stands_named id (refl, λ whole. refl);
        known = tt;
        gives = λ continues. tt;
      }

  module _ (it : Initialising) (p : (TypeId × Starting) × Typer) (is : starting word.place id it first_typer ≡ Ok p) (may : MayStart m.typer.types id)
      (grows : Grows p.1.types program.types) where
    -- what the initialiser extends
    reached : Reaches IsConstant first_typer p.1
    reached = subst (Reaching IsConstant first_typer) is ((starting_always word.place id it).from first_typer (named_scoped word id m scoped))

    -- and what it notes of calls
    noted : Noted (IsOfClaim program.types its) program.types (λ it. Unit {0}) first_typer p
    noted =
        subst (Noting (IsOfClaim program.types its) program.types (λ it. Unit {0}) first_typer) is
        ((starting_notes (IsOfClaim program.types its) program.types word.place id it).gives first_typer
        (tt, names_allow program here its m.locals m stands))

    -- the type at the end, and that of the first name
    first_type : IsVariableAt program.types (Some p.0.0) id
    first_type =
        let alike : IsAlike m.typer.types id p.1.types p.0.0
        = subst (AlikeGiven m.typer.types id) is (starting_alike word.place id it first_typer (named_scoped word id m scoped)) in (
          alike_later m.typer.types p.1.types program.types id p.0.0 reached.types grows may alike,
          λ whole. alike.1 (whole_before m.typer.types program.types id (grows_then m.typer.types p.1.types program.types reached.types grows) may
              whole),
        )

    -- after the initialiser, with the variable and both names
    abbrev ended : Translator
    ended = record (with_variable p.0.0) { typer = named word id m scoped p.0.0 p.1 }

    -- the names after the initialiser
    stands_started : Stands program here its (variables word id m scoped p.0.0) (record (with_variable p.0.0) { typer = p.1 })
    stands_started =
        stands_reached program here its (with_variable p.0.0) p.1 reached (noted.calls grows stands.calls) (noted.right stands.right)
        (stands_named p.0.0 first_type)

    -- and with the name that has the last type
    stands_ended : Stands program here its (variables word id m scoped p.0.0) ended
    stands_ended =
        stands_changed program here its (record (with_variable p.0.0) { typer = p.1 })
        (declared word.text (entity.Variable (variable.Local (length m.locals)) p.0.0) p.1.names) m.objects (objects_self program.types m.objects)
        (variables word id m scoped p.0.0) stands_started (tt, stands_started.typedefs) (tt, stands_started.names)
        (last_variable program.types m.locals word p.0.0 p.0.0 (refl, λ whole. refl), stands_started.locals) stands_started.objects

    -- What it starts with fits it, in a function that this place goes on to.
    started_right : Continues program function its m ended → IsRightItem program function (given (length m.locals) word p.0.1)
    started_right continues =
        let moves : Moves (with_variable p.0.0) ended
        = moves_typer (with_variable p.0.0) (named word id m scoped p.0.0 p.1) (named_scoped word id m scoped)
        (reaches_then Anything first_typer p.1 (named word id m scoped p.0.0 p.1) (any_reaches IsConstant first_typer p.1 reached)
        ((renamed_always word (entity.Variable (variable.Local (length m.locals)) p.0.0)).from p.1
        (scoped_after IsConstant first_typer p.1 reached (named_scoped word id m scoped)))) in
        let inside : Continues program function its (with_variable p.0.0) ended
        = record {
          noted = record {
            types = continues.noted.types;
            literals = continues.noted.literals;
            calls = continues.noted.calls;
            taken = continues.noted.taken;
          };
          locals = continues.locals;
          claims = continues.claims;
          objects = continues.objects;
        } in
        let knows : Knows program function first_typer × KnowsBound program function program.types first_typer
        = knows_names here program function its (with_variable p.0.0) (stands_named p.0.0 first_type)
        (continues_first program function its its (with_variable p.0.0) (with_variable p.0.0) ended moves
        (proceeds_still program.types its (with_variable p.0.0) ended refl refl refl reached.unit) inside) in
        let may_have : MayHaveStart m.typer.types id = record { may = may; elements = λ of is. stands.right.elements id of is } in
        let noted : IsNoted program function program.types first_typer p.1
        = record {
          types = continues.noted.types;
          literals = continues.noted.literals;
          calls = continues.noted.calls;
          taken = continues.noted.taken;
        } in
        let start : IsStart program function p.0
        = subst (Giving program function program.types first_typer (IsStart program function)) is
        (starting_fits program function word.place id it first_typer sound stands.right.right may_have (named_scoped word id m scoped) counts knows.0
        knows.1) noted in
        let typed : InStart (IsTyped program function) p.0.1 × InStart (IsBound program function) p.0.1
        = start_typed (IsTyped program function) (IsBound program function) HasWideKinds p.0.1 start.1 in (
          fits_last program m.locals function.variables p.0.0 p.0.1 continues.locals.0
              (continues.locals.1 ∙ ap (λ ids. ids ++ continues.locals.0) (types_with m.locals (local_of word p.0.0))) start.0,
          typed.0,
          typed.1,
        )

    -- with an initialiser
    started_walked : Walked here program function its m Nothing (IsRightItemIf program function) (started word id m scoped p)
    started_walked =
        record {
          claims = its;
          proceeds = proceeds_still program.types its m ended refl refl refl reached.unit;
          stands = stands_ended;
          known = tt;
          gives = started_right;
        }

-- the variable, its name, and what it starts with
variable_walks : {here : List ℕ → Bool} → {program : TypedProgram} → {function : TypedFunction} → (sound : IsRight program.types) → (word : Word)
    (id : TypeId) (it : Option Initialising)
    → Walks here program function Anywhere
    (new_local word id >>= (λ place. typing (declare word (entity.Variable (variable.Local place) id)) >> local_started word id place it)) Nothing
    (IsRightItemIf program function)
variable_walks {here = here} {program = program} {function = function} sound word id it =
    record {
      moved = record { from = λ m scoped. automatic_moving word id it m scoped };
      from = λ its m scoped counts stands met.
          ends word id m scoped (Walking here program function its m Nothing (IsRightItemIf program function)) (λ why. tt)
          (λ whole grows. unstarted_walked here program function sound word id its m scoped counts stands)
          (λ it p is may grows. started_walked here program function sound word id its m scoped counts stands it p is may grows) it;
    }

-- an object of automatic storage duration
pub automatic_walks : {here : List ℕ → Bool} → {program : TypedProgram} → {function : TypedFunction} → (sound : IsRight program.types) → (word : Word)
    (id : TypeId) (it : Option Initialising)
    → Walks here program function Anywhere (automatic word id it) Nothing (IsRightItemIf program function)
automatic_walks {program = program} {function = function} sound word id it =
    then_walks {after = Nothing} {holds = λ done. Unit {0}} (is_object word id)
    (unless_walks (Untyped word.place) (λ m. not (designates m.typer.types id)) (λ its m met failed. tt))
    (λ may. so_walks {holds = IsRightItemIf program function} (λ its m met. tt) (λ its m made is. tt) (λ made is done. is)
    (variable_walks sound word id it))
