-- Calls fit what they are bound to, and addresses are marked.
use Rattle.std.proofs.Common.{◌≡◌, ◌<◌, ℕ, Bool, true, false, List, ◌++◌, [], ◌∷◌, length, slice_get, Option, Some, None, Result, Ok, Err, refl, sym, ap, subst, ◌∙◌, if◌then◌else◌}
use Rattle.std.specs.Prelude.{take, ◌||◌}
use Rattle.std.specs.List.{AllByRecursion}
use Rattle.std.proofs.lemmas.List.{append_assoc, append-nil}
use Rattle.std.proofs.lemmas.Option.{slice_get_within}
use Rattle.hs_expressions.specs.Binding.{AllBy, IsBoundNode, IsList, IsSignature, IsDefined, IsPrototype, BindsAs, IsNotedAddress}
use Rattle.hs_expressions.specs.Binding.Keeping.{Giving, Keeps, IsBound, IsBoundIn, IsBoundObject, plain_bound, of_types_keeps, then_keeps, so_keeps}
use Rattle.hs_expressions.specs.Laws.Always.{refuses_always}
use Rattle.hs_expressions.specs.Laws.Leaves.{addressed_always, call_with_always}
use Rattle.hs_expressions.specs.Operations.{taken_by, addressed, bound_call, call_with, call_operand}
use Rattle.hs_expressions.specs.Roles.{fits_role}
use Rattle.hs_typer.specs.Steps.{lifted}
use Rattle.hs_typer.specs.declared.type_error.TypeError.{TypeError}
use Rattle.hs_typer.specs.declared.type_error.TypeError.TheVariants.{Untyped, Clash}
use Rattle.hs_typer.specs.declared.typer.Typer.{Typer}
use Rattle.hs_operand_types.specs.Answers.{◌>>=◌}
use Rattle.hs_operands.specs.Assignments.{assigned, next_parameter, no_parameter, matched, signature_of_row, returned, called}
use Rattle.hs_operands.specs.Calls.{call_of, call_routine_of}
use Rattle.hs_operand_types.specs.Conversions.{head_at}
use Rattle.hs_operands.specs.Laws.Kept.{assigned_kept, each_kept}
use Rattle.hs_operands.specs.Laws.Made.{Makes, gives, refuses, either_way, gives_then}
use Rattle.hs_operands.specs.Laws.Typed.{all_with_one}
use Rattle.hs_operand_types.specs.Operands as operand
use Rattle.hs_operand_types.specs.Operands.{TypedOperand, head_of_operand}
use Rattle.hs_operand_types.specs.declared.operand.Bound.{Bound}
use Rattle.hs_operand_types.specs.declared.operand.Bound.TheVariants as bound
use Rattle.hs_operand_types.specs.declared.operand.Designator.{Designator}
use Rattle.hs_operand_types.specs.declared.operand_end.OperandEnd.{OperandEnd}
use Rattle.hs_operand_types.specs.declared.operand_end.OperandEnd.TheVariants as end
use Rattle.hs_tokens.specs.declared.place.Place.{Place}
use Rattle.hs_tree.specs.Fitting.{types_of, prototype_in, FitParameters, FitsSignature, FitsCalled, FitsPrototype, IsMarked}
use Rattle.hs_tree.specs.Inside.{right}
use Rattle.hs_tree.specs.Kinds.{is_void, is_readable}
use Rattle.hs_tree.specs.RowLaws.{rights_from}
use Rattle.hs_tree.specs.Sameness.{AreOne}
use Rattle.hs_tree.specs.Trees as tree
use Rattle.hs_tree.specs.Trees.{RightValue, RightValues, LeftValue, TypedFunction, TypedProgram, type_of, type_of_left}
use Rattle.hs_tree.specs.declared.function.Prototype.{Prototype}
use Rattle.hs_tree.specs.declared.head.Head.{Head}
use Rattle.hs_types.specs.TypeTables.{TypeTable, row_of, id_of, Grows}
use Rattle.hs_types.specs.declared.row.ListId.{ListId}
use Rattle.hs_types.specs.declared.row.Parameters.{Parameters}
use Rattle.hs_types.specs.declared.row.Parameters.TheVariants.{Empty, More}
use Rattle.hs_types.specs.declared.row.Row.{Row}
use Rattle.hs_types.specs.declared.row.Row.TheVariants as row
use Rattle.hs_types.specs.declared.row.TypeId.{TypeId}

-- what counts is noted
counted : {A : Type 0} → (b : Bool) (xs ys : List A) → b ≡ true → (if b then xs ++ ys else xs) ≡ xs ++ ys
counted true xs ys counts = refl
counted false xs ys counts = absurd cc

-- two readings of a list, and of a row
pub end_or_more : (o : Option Parameters) (a : TypeId) (x : ListId) → o ≡ Some Empty → o ≡ Some (More a x) → ⊥
end_or_more o a x is is' = cc

pub same_first : (o : Option Parameters) (a b : TypeId) (x y : ListId) → o ≡ Some (More a x) → o ≡ Some (More b y) → a ≡ b
same_first o a b x y is is' = cc

pub same_others : (o : Option Parameters) (a b : TypeId) (x y : ListId) → o ≡ Some (More a x) → o ≡ Some (More b y) → x ≡ y
same_others o a b x y is is' = cc

pub same_result : (o : Option Row) (a b : TypeId) (x y : ListId) → o ≡ Some (row.Function a x) → o ≡ Some (row.Function b y) → a ≡ b
same_result o a b x y is is' = cc

pub same_parameters : (o : Option Row) (a b : TypeId) (x y : ListId) → o ≡ Some (row.Function a x) → o ≡ Some (row.Function b y) → x ≡ y
same_parameters o a b x y is is' = cc

-- what an answer says of the list and of the row
next_is : (at : Place) (o : Option Parameters) (it : TypeId × ListId) → next_parameter at o ≡ Ok it → o ≡ Some (More it.0 it.1)
next_is at None it given = absurd cc
next_is at (Some Empty) it given = absurd cc
next_is at (Some (More first others)) it given = let same : (first, others) ≡ it = cc in ap (λ its. Some (More its.0 its.1)) same

signature_is : (at : Place) (o : Option Row) (it : TypeId × ListId) → signature_of_row at o ≡ Ok it → o ≡ Some (row.Function it.0 it.1)
signature_is at None it given = absurd cc
signature_is at (Some row.Void) it given = absurd cc
signature_is at (Some (row.Integer kind)) it given = absurd cc
signature_is at (Some (row.Pointer of)) it given = absurd cc
signature_is at (Some (row.Enumeration number)) it given = absurd cc
signature_is at (Some (row.Struct number)) it given = absurd cc
signature_is at (Some (row.Array of size layout)) it given = absurd cc
signature_is at (Some (row.OpenArray of)) it given = absurd cc
signature_is at (Some (row.Function result parameters)) it given =
    let same : (result, parameters) ≡ it = cc in
    ap (λ its. Some (row.Function its.0 its.1)) same

returned_is : (types : TypeTable) (at : Place) (id : TypeId) → Makes (λ result. id ≡ result) (returned types at id)
returned_is types at id =
    either_way (Makes (λ result. id ≡ result)) (is_void types id || is_readable types id) (Ok id) (Err (end.Untyped at))
    (λ met. gives (λ result. id ≡ result) id refl) (λ failed. refuses (λ result. id ≡ result) at)

-- as many arguments as parameters, each of its type
abbrev HasParameters : List TypeId → RightValues → Type 0
HasParameters [] tree.no_values = Unit {0}
HasParameters [] (tree.more_values e rest) = ⊥
HasParameters (id ∷ ids) tree.no_values = ⊥
HasParameters (id ∷ ids) (tree.more_values e rest) = (type_of e ≡ id) × HasParameters ids rest

-- and a call of the type that the function gives
abbrev HasSignature : List TypeId → TypeId → RightValues → TypeId → Type 0
HasSignature parameters result arguments id = HasParameters parameters arguments × (id ≡ result)

-- of types like those of other parameters
pub like_parameters : (alike : TypeId → TypeId → Type 0) (ids others : List TypeId) (arguments : RightValues) → AllBy alike ids others
    → HasParameters ids arguments → FitParameters alike others arguments
like_parameters alike [] [] tree.no_values like fits = tt
like_parameters alike [] [] (tree.more_values e rest) like fits = absurd fits
like_parameters alike [] (other ∷ others) arguments like fits = absurd like
like_parameters alike (id ∷ ids) [] arguments like fits = absurd like
like_parameters alike (id ∷ ids) (other ∷ others) tree.no_values like fits = absurd fits
like_parameters alike (id ∷ ids) (other ∷ others) (tree.more_values e rest) like fits =
    (subst (λ its. alike its other) (sym fits.0) like.0, like_parameters alike ids others rest like.1 fits.1)

like_fits : (alike : TypeId → TypeId → Type 0) (ids others : List TypeId) (gives result : TypeId) (arguments : RightValues) (id : TypeId)
    → AllBy alike ids others → alike gives result → HasSignature ids gives arguments id → FitsSignature alike others result arguments id
like_fits alike ids others gives result arguments id like one has =
    (like_parameters alike ids others arguments like has.0, subst (λ its. alike its result) (sym has.1) one)

module _ (program : TypedProgram) (function : TypedFunction) (final : TypeTable) where
  abbrev pub AreBound : List RightValue → Type 0
  AreBound its = AllByRecursion (IsBound program function) its

  -- the arguments of a call of that type, and what it gives
  abbrev IsCalled : TypeId → TypeId × List RightValue → Type 0
  IsCalled id p =
      AreBound p.1
      × ((parameters : List TypeId) (result : TypeId) → IsSignature final id parameters result
      → HasSignature parameters result (rights_from p.1) p.0)

  -- those that are done, and others of the types of the list
  abbrev IsMatched : ListId → List RightValue → List RightValue → Type 0
  IsMatched list done made =
      AreBound made × (more : List RightValue) × (made ≡ done ++ more)
      × ((ids : List TypeId) → IsList final list ids → HasParameters ids (rights_from more))

  empty_fits : (list : ListId) → slice_get final.lists list.number ≡ Some Empty → (ids : List TypeId) → IsList final list ids
      → HasParameters ids tree.no_values
  empty_fits list known [] is = tt
  empty_fits list known (id ∷ ids) is = absurd (end_or_more (slice_get final.lists list.number) id is.0 known is.1)

  more_fits : (list : ListId) (it : TypeId × ListId) (e : RightValue) (more : List RightValue)
      → slice_get final.lists list.number ≡ Some (More it.0 it.1) → type_of e ≡ it.0
      → ((ids : List TypeId) → IsList final it.1 ids → HasParameters ids (rights_from more)) → (ids : List TypeId) → IsList final list ids
      → HasParameters ids (rights_from (e ∷ more))
  more_fits list it e more known typed fits [] is = absurd (end_or_more (slice_get final.lists list.number) it.0 it.1 is known)
  more_fits list it e more known typed fits (id ∷ ids) is = (
    typed ∙ same_first (slice_get final.lists list.number) it.0 id it.1 is.0 known is.1,
    fits ids
        (subst (λ its. IsList final its ids) (sym (same_others (slice_get final.lists list.number) it.0 id it.1 is.0 known is.1)) is.2),
  )

  module _ (types : TypeTable) (grows : Grows types final) where
    no_parameter_fits : (at : Place) (list : ListId) (done : List RightValue) (o : Option Parameters) → slice_get types.lists list.number ≡ o
        → AreBound done → Makes (IsMatched list done) (no_parameter at done o)
    no_parameter_fits at list done None known are = refuses (IsMatched list done) at
    no_parameter_fits at list done (Some Empty) known are =
        gives (IsMatched list done) done (are, [], sym (append-nil done), empty_fits list (grows.lists list.number Empty known))
    no_parameter_fits at list done (Some (More first others)) known are = refuses (IsMatched list done) at

    one_more : (list : ListId) (it : TypeId × ListId) (done : List RightValue) (e : RightValue) (made : List RightValue)
        → slice_get types.lists list.number ≡ Some (More it.0 it.1) → type_of e ≡ it.0 → IsMatched it.1 (done ++ e ∷ []) made
        → IsMatched list done made
    one_more list it done e made known typed is = (
      is.0,
      e ∷ is.1,
      is.2 ∙ append_assoc done (e ∷ []) is.1,
      more_fits list it e is.1 (grows.lists list.number (More it.0 it.1) known) typed is.3,
    )

    -- by induction on the arguments that are left
    matched_fits : (at : Place) (done : List RightValue) (list : ListId) (rest : List RightValue) → AreBound done → AreBound rest
        → Makes (IsMatched list done) (matched types at done list rest)
    matched_fits at done list [] are are' = no_parameter_fits at list done (slice_get types.lists list.number) refl are
    matched_fits at done list (e ∷ rest) are are' =
        gives_then (IsMatched list done) (next_parameter at (slice_get types.lists list.number))
        (λ parameter. assigned types at parameter.0 e >>= (λ converted. matched types at (done ++ converted ∷ []) parameter.1 rest))
        (λ parameter is. gives_then (IsMatched list done) (assigned types at parameter.0 e)
        (λ converted. matched types at (done ++ converted ∷ []) parameter.1 rest)
        (λ converted made its given.
        one_more list parameter done converted its (next_is at (slice_get types.lists list.number) parameter is)
        (assigned_kept (IsBoundNode program function) (plain_bound program function) types at parameter.0 e are'.0 converted made).1
        (matched_fits at (done ++ converted ∷ []) parameter.1 rest
        (all_with_one (IsBound program function) done converted are
        (assigned_kept (IsBoundNode program function) (plain_bound program function) types at parameter.0 e are'.0 converted made).0) are'.1 its given)))

    call_fits : (id : TypeId) (signature : TypeId × ListId) (result : TypeId) (converted : List RightValue)
        → row_of types id ≡ Some (row.Function signature.0 signature.1) → signature.0 ≡ result → IsMatched signature.1 [] converted
        → IsCalled id (result, converted)
    call_fits id signature result converted known same is = (
      is.0,
      λ parameters result' its. (
        subst (λ its. HasParameters parameters (rights_from its)) (sym is.2)
            (is.3 parameters
            (subst (λ list. IsList final list parameters)
            (same_parameters (row_of final id) result' signature.0 its.0 signature.1 its.1
            (grows.rows id.number (row.Function signature.0 signature.1) known)) its.2)),
        sym same
            ∙ same_result (row_of final id) signature.0 result' signature.1 its.0
            (grows.rows id.number (row.Function signature.0 signature.1) known) its.1,
      ),
    )

    called_fits : (at : Place) (id : TypeId) (arguments : List RightValue) → AreBound arguments → Makes (IsCalled id) (called types at id arguments)
    called_fits at id arguments are =
        gives_then (IsCalled id) (signature_of_row at (row_of types id))
        (λ signature. matched types at [] signature.1 arguments >>=
        (λ converted. returned types at signature.0 >>= (λ result. Ok (result, converted))))
        (λ signature is. gives_then (IsCalled id) (matched types at [] signature.1 arguments)
        (λ converted. returned types at signature.0 >>= (λ result. Ok (result, converted)))
        (λ converted made. gives_then (IsCalled id) (returned types at signature.0) (λ result. Ok (result, converted))
        (λ result is'. gives (IsCalled id) (result, converted)
        (call_fits id signature result converted (signature_is at (row_of types id) signature is) (returned_is types at signature.0 result is')
        (matched_fits at [] signature.1 arguments tt are converted made)))))

    called_given : (at : Place) (id : TypeId) (arguments : List RightValue) (given : Result (TypeId × List RightValue) OperandEnd)
        → called types at id arguments ≡ given → (p : TypeId × List RightValue) → lifted given ≡ Ok p → AreBound arguments → IsCalled id p
    called_given at id arguments (Ok q) same p given are =
        let its : q ≡ p = cc in
        subst (IsCalled id) its (called_fits at id arguments are q same)
    called_given at id arguments (Err why) same p given are = absurd cc

  -- a function that is defined, and a routine that is declared
  defined_call : (id : TypeId) (p : TypeId × List RightValue) (o : Option TypedFunction) → IsDefined program final id o → IsCalled id p
      → FitsCalled program.same program.types o (rights_from p.1) p.0
  defined_call id p None is fits = absurd is
  defined_call id p (Some its) is fits =
      like_fits (AreOne program.same program.types) is.0 (types_of (take its.parameters its.variables)) is.1.0 its.result
      (rights_from p.1) p.0 is.1.2 is.1.3 (fits.1 is.0 is.1.0 is.1.1)

  defined_there : (id : TypeId) (number : ℕ) (o : Option TypedFunction) → slice_get program.functions number ≡ o → IsDefined program final id o
      → number < length program.functions
  defined_there id number None same is = absurd is
  defined_there id number (Some its) same is = slice_get_within program.functions number its same

  prototype_call : (id : TypeId) (p : TypeId × List RightValue) (o : Option Prototype)
      → IsPrototype (AreOne program.same program.types) final id o → IsCalled id p
      → FitsPrototype program.same program.types o (rights_from p.1) p.0
  prototype_call id p None is fits = absurd is
  prototype_call id p (Some its) is fits =
      like_fits (AreOne program.same program.types) is.0 its.parameters is.1.0 its.result (rights_from p.1) p.0 is.1.2 is.1.3 (fits.1 is.0 is.1.0 is.1.1)

  -- the call is bound
  abbrev IsCall : TypeId → Bound → TypeId × List RightValue → TypedOperand → Type 0
  IsCall id its p made = IsCalled id p → BindsAs program final id its → IsBoundIn program function final made

  routine_gives : (b : Bool) (it : Designator) (number : ℕ) (p : TypeId × List RightValue) (s : Typer)
      → Giving program function final s (IsCall it.head.type_id (bound.Routine number) p) (
      if b
      then Ok (
        operand.value (call_routine_of it.head.at number p),
        record s { calls = s.calls ++ record { routine = number; type_id = it.head.type_id } ∷ [] },
      )
      else Err (Clash it.head.at it.name)
      )
  routine_gives true it number p s =
      λ noted fits within. (
        (
          within,
          tt,
          prototype_call it.head.type_id p (prototype_in (slice_get program.routines number))
              (noted.calls (record { routine = number; type_id = it.head.type_id } ∷ []) refl).0 fits,
          tt,
        ),
        each_kept (IsBoundNode program function) (plain_bound program function) p.1 fits.0,
      )
  routine_gives false it number p s = tt

  bound_gives : (its : Bound) (it : Designator) (p : TypeId × List RightValue) (s : Typer)
      → Giving program function final s (IsCall it.head.type_id its p) (bound_call its it p s)
  bound_gives (bound.Function number) it p s =
      λ noted fits is. (
        (
          defined_there it.head.type_id number (slice_get program.functions number) refl is,
          defined_call it.head.type_id p (slice_get program.functions number) is fits,
          tt,
          tt,
        ),
        each_kept (IsBoundNode program function) (plain_bound program function) p.1 fits.0,
      )
  bound_gives (bound.Routine number) it p s = routine_gives (fits_role s.types s.table number it.head.type_id) it number p s
  bound_gives bound.Nothing it p s = tt

  -- What is called counts.
  counted_gives : (s : Typer) (b : Bool) (holds : TypedOperand → Type 0) (here there : Result (TypedOperand × Typer) TypeError) → b ≡ true
      → Giving program function final s holds here → Giving program function final s holds (if b then here else there)
  counted_gives s true holds here there counts is = is
  counted_gives s false holds here there counts is = absurd cc

  call_with_keeps : (it : Designator) (p : TypeId × List RightValue)
      → Keeps program function final (IsCall it.head.type_id it.bound p) (call_with it p)
  call_with_keeps it p =
      record {
        always = call_with_always it p;
        gives = λ s scoped counts knows. counted_gives s s.counts (IsCall it.head.type_id it.bound p) (bound_call it.bound it p s)
            (Ok (operand.value (call_of it.head.at 0 p), s)) counts (bound_gives it.bound it p s);
      }

  -- what is called, with its arguments
  pub call_operand_keeps : (it : TypedOperand) (arguments : List RightValue)
      → Keeps program function final (λ made. IsBoundIn program function final it → AreBound arguments → IsBoundIn program function final made)
      (call_operand it arguments)
  call_operand_keeps (operand.value e) arguments =
      record { always = refuses_always (Untyped (head_of_operand (operand.value e)).at); gives = λ s scoped counts knows. tt }
  call_operand_keeps (operand.object it) arguments =
      record { always = refuses_always (Untyped (head_of_operand (operand.object it)).at); gives = λ s scoped counts knows. tt }
  call_operand_keeps (operand.function it) arguments =
      then_keeps
      (of_types_keeps {holds = λ its. AreBound arguments → IsCalled it.head.type_id its}
      (λ types. lifted (called types it.head.at it.head.type_id arguments))
      (λ types grows p given are.
      called_given types grows it.head.at it.head.type_id arguments (called types it.head.at it.head.type_id arguments) refl p given are))
      (λ its. so_keeps (λ made is fits named are. is (fits are) named) (call_with_keeps it its))

  -- what an address is taken of is noted
  noted_marked : (head : Head) (it : LeftValue) → IsBoundObject program function it → AllByRecursion (IsNotedAddress program function) (taken_by it)
      → IsMarked program function (right (tree.address head it))
  noted_marked head (tree.variable its name) is are = are.0 is.0
  noted_marked head (tree.literal its place) is are = tt
  noted_marked head (tree.target its pointer) is are = tt
  noted_marked head (tree.element its size pointer_first a b) is are = tt
  noted_marked head (tree.member its field offset object) is are = are.0
  noted_marked head (tree.arrow its field offset pointer) is are = are.0

  addressed_gives : (at : Place) (it : TypedOperand) (s : Typer) → s.counts ≡ true
      → Giving program function final s (λ made. IsBoundIn program function final it → IsBoundIn program function final made) (addressed at it s)
  addressed_gives at (operand.value e) s counts = tt
  addressed_gives at (operand.object it) s counts =
      λ noted is. (
        (
          tt,
          tt,
          tt,
          noted_marked (head_at at (id_of (row.Pointer (type_of_left it)) s.types)) it is
              (noted.taken (taken_by it) (counted s.counts s.taken (taken_by it) counts)),
        ),
        is,
      )
  addressed_gives at (operand.function it) s counts = tt

  pub addressed_keeps : (at : Place) (it : TypedOperand)
      → Keeps program function final (λ made. IsBoundIn program function final it → IsBoundIn program function final made) (addressed at it)
  addressed_keeps at it = record { always = addressed_always at it; gives = λ s scoped counts knows. addressed_gives at it s counts }
