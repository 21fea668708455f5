-- Arguments of calls are well typed, and can be read; the 1 of `++l` is well typed.
use Rattle.std.proofs.Common.{◌≡◌, List, [], ◌∷◌, ◌++◌, Option, Some, None, Ok, ap, sym, subst}
use Rattle.std.specs.Prelude.{slice_get}
use Rattle.std.specs.List.{AllByRecursion}
use Rattle.hs_tokens.specs.declared.place.Place.{Place}
use Rattle.hs_operand_types.specs.Answers.{◌>>=◌}
use Rattle.hs_operands.specs.Assignments.{assigned, one, next_parameter, no_parameter, matched, signature_of_row, returned, called}
use Rattle.hs_operands.specs.Laws.{IsTyped}
use Rattle.hs_operands.specs.Laws.AssignedTyped.{assigned-typed}
use Rattle.hs_operands.specs.Laws.Made.{Makes, gives, refuses, gives_then}
use Rattle.hs_operands.specs.Laws.Numbers.{integer_number}
use Rattle.hs_operands.specs.Laws.Readable.{assigned_readable}
use Rattle.hs_operands.specs.Laws.Stays.{is_readable-stays}
use Rattle.hs_tree.specs.Fitting.{AreReadable}
use Rattle.hs_tree.specs.Kinds.{IsReadable}
use Rattle.hs_tree.specs.Objects.{number_in}
use Rattle.hs_tree.specs.RowLaws.{rights_from}
use Rattle.hs_tree.specs.Trees.{RightValue, TypedFunction, TypedProgram, type_of}
use Rattle.hs_types.specs.TypeTables.{TypeTable, row_of, IsRight, Grows}
use Rattle.hs_types.specs.declared.integer.Integer.TheVariants as kind
use Rattle.hs_types.specs.declared.row.ListId.{ListId}
use Rattle.hs_types.specs.declared.row.Parameters.{Parameters}
use Rattle.hs_types.specs.declared.row.Parameters.TheVariants.{Empty, More}
use Rattle.hs_types.specs.declared.row.TypeId.{TypeId}

-- with one more at the end
pub all_with_one : {A : Type 0} → (holds : A → Type 0) (xs : List A) (x : A) → AllByRecursion holds xs → holds x
    → AllByRecursion holds (xs ++ x ∷ [])
all_with_one holds [] x all is = (is, tt)
all_with_one holds (y ∷ xs) x all is = (all.0, all_with_one holds xs x all.1 is)

module _ (program : TypedProgram) (function : TypedFunction) where
  -- a well-typed value that can be read
  abbrev pub IsArgument : RightValue → Type 0
  IsArgument e = IsTyped program function e × IsReadable program.types (type_of e)

  -- several
  abbrev pub AreArguments : List RightValue → Type 0
  AreArguments its = AllByRecursion IsArgument its

  pub arguments_typed : (its : List RightValue) → AreArguments its → AllByRecursion (IsTyped program function) its
  arguments_typed [] are = tt
  arguments_typed (e ∷ rest) are = (are.0.0, arguments_typed rest are.1)

  pub arguments_readable : (its : List RightValue) → AreArguments its → AreReadable program.types (rights_from its)
  arguments_readable [] are = tt
  arguments_readable (e ∷ rest) are = (are.0.1, arguments_readable rest are.1)

module _ (program : TypedProgram) (function : TypedFunction) (types : TypeTable) (sound : IsRight program.types) (grows : Grows types program.types) where
  -- the 1 of `++l`
  pub one-typed : (at : Place) → IsTyped program function (one at)
  one-typed at = (tt, ap (number_in 1) (integer_number program.types kind.Int sound), tt)

  -- the arguments so far, if there are no more parameters
  no_parameter-typed : (at : Place) (done : List RightValue) (o : Option Parameters) → AreArguments program function done
      → Makes (AreArguments program function) (no_parameter at done o)
  no_parameter-typed at done None typed = refuses (AreArguments program function) at
  no_parameter-typed at done (Some Empty) typed = gives (AreArguments program function) done typed
  no_parameter-typed at done (Some (More first others)) typed = refuses (AreArguments program function) at

  -- one of them
  argument-typed : (at : Place) (id : TypeId) (e converted : RightValue) → IsTyped program function e → assigned types at id e ≡ Ok converted
      → IsArgument program function converted
  argument-typed at id e converted typed made =
      let its : IsTyped program function converted × (type_of converted ≡ id)
      = assigned-typed program function types sound grows at id e typed converted made in (
        its.0,
        subst (IsReadable program.types) (sym its.1) (is_readable-stays types program.types grows id (assigned_readable types at id e converted made)),
      )

  -- by induction on the arguments that are left
  matched-typed : (at : Place) (done : List RightValue) (list : ListId) (rest : List RightValue) → AreArguments program function done
      → AllByRecursion (IsTyped program function) rest → Makes (AreArguments program function) (matched types at done list rest)
  matched-typed at done list [] typed typed' = no_parameter-typed at done (slice_get types.lists list.number) typed
  matched-typed at done list (e ∷ rest) typed typed' =
      gives_then (AreArguments program function) (next_parameter at (slice_get types.lists list.number))
      (λ parameter. assigned types at parameter.0 e >>= (λ converted. matched types at (done ++ converted ∷ []) parameter.1 rest))
      (λ parameter is. gives_then (AreArguments program function) (assigned types at parameter.0 e)
      (λ converted. matched types at (done ++ converted ∷ []) parameter.1 rest)
      (λ converted made. matched-typed at (done ++ converted ∷ []) parameter.1 rest
      (all_with_one (IsArgument program function) done converted typed (argument-typed at parameter.0 e converted typed'.0 made)) typed'.1))

  -- what is called, with its arguments
  abbrev HasTyped : TypeId × List RightValue → Type 0
  HasTyped its = AreArguments program function its.1

  pub called-typed : (at : Place) (id : TypeId) (arguments : List RightValue) → AllByRecursion (IsTyped program function) arguments
      → Makes HasTyped (called types at id arguments)
  called-typed at id arguments typed =
      gives_then HasTyped (signature_of_row at (row_of types id))
      (λ signature. matched types at [] signature.1 arguments >>=
      (λ converted. returned types at signature.0 >>= (λ result. Ok (result, converted))))
      (λ signature is. gives_then HasTyped (matched types at [] signature.1 arguments)
      (λ converted. returned types at signature.0 >>= (λ result. Ok (result, converted)))
      (λ converted made. gives_then HasTyped (returned types at signature.0) (λ result. Ok (result, converted))
      (λ result is'. gives HasTyped (result, converted) (matched-typed at [] signature.1 arguments tt typed converted made))))
