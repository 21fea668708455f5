-- What typing notes of calls: each is of a name that is in scope, and its declaration fits the role of the routine.
--     NamesAllow Q s                           each declared name of a routine has the fact, by the routine and the type of the declaration
--     AreCallsOf Q table final calls           and so has each call that is noted; it fits its role, by the types that are known at the end
--     IsOperandOf Q it                         so has an operand that names a routine
--     Notes Q final allowed holds step         the law of a step, with names of an allowed sort
--     Noted Q final holds s p                  what is known after an answer; kept_noting, then_noting, .. of answers
use Rattle.std.proofs.Common.{◌≡◌, ℕ, Bool, true, false, List, [], ◌∷◌, Result, Ok, Err, refl, sym, subst, ◌∙◌, if◌then◌else◌}
use Rattle.std.specs.List.{AllByRecursion}
use Rattle.std.specs.Prelude.{◌==◌}
use Rattle.hs_expressions.specs.Expressions.{enter, ending}
use Rattle.hs_expressions.specs.Laws.Always.{Always}
use Rattle.hs_expressions.specs.Laws.Grown.{Growing}
use Rattle.hs_expressions.specs.Roles.{fits_role}
use Rattle.hs_fitting.specs.Rightness.{AreRight, Righting}
use Rattle.hs_names.specs.Scopes.{Declared, outside}
use Rattle.hs_operand_types.specs.Operands as operand
use Rattle.hs_operand_types.specs.Operands.{TypedOperand}
use Rattle.hs_operand_types.specs.declared.operand.Bound.{Bound}
use Rattle.hs_operand_types.specs.declared.operand.Bound.TheVariants as bound
use Rattle.hs_table.specs.declared.routine.Routine.{Routine}
use Rattle.hs_typer.specs.Steps.{Step, then_with, kept, with_types, restored}
use Rattle.hs_typer.specs.declared.type_error.TypeError.{TypeError}
use Rattle.hs_typer.specs.declared.typer.Entity.{Entity}
use Rattle.hs_typer.specs.declared.typer.Entity.TheVariants as entity
use Rattle.hs_typer.specs.declared.typer.RoutineCall.{RoutineCall}
use Rattle.hs_typer.specs.declared.typer.Typer.{Typer}
use Rattle.hs_types.specs.Growing.{grows_self, grows_then}
use Rattle.hs_types.specs.TypeTables.{TypeTable, Grows}
use Rattle.hs_types.specs.declared.row.TypeId.{TypeId}

-- an answer that meets a fact, if it is one
abbrev pub Met : {A : Type 0} → (A → Type 0) → Result A TypeError → Type 0
Met holds (Ok it) = holds it
Met holds (Err why) = Unit {0}

-- the place of the first parameter, in a scope of its own
abbrev pub inside : Typer → Typer
inside s = enter (record s { keeps = false })

-- what is outside of a scope that ends
pub all_outside : {E : Type 0} → (holds : Declared E → Type 0) (level : ℕ) (its : List (Declared E)) → AllByRecursion holds its
    → AllByRecursion holds (outside level its)
all_outside holds level [] are = tt
all_outside {E = E} holds level (it ∷ older) are =
    either (it.level == level) (outside level older) (it ∷ older) (all_outside holds level older are.1) are
  where
    either : (b : Bool) (its others : List (Declared E)) → AllByRecursion holds its → AllByRecursion holds others
        → AllByRecursion holds (if b then its else others)
    either true its others is is' = is
    either false its others is is' = is'

module _ (Q : ℕ → TypeId → Type 0) where
  -- what a name is bound to
  abbrev pub AllowsBound : TypeId → Bound → Type 0
  AllowsBound id (bound.Function number) = Unit {0}
  AllowsBound id (bound.Routine number) = Q number id
  AllowsBound id bound.Nothing = Unit {0}

  -- one name
  abbrev pub AllowsName : Entity → Type 0
  AllowsName (entity.Constant bits) = Unit {0}
  AllowsName (entity.Variable variable id) = Unit {0}
  AllowsName (entity.Function id its) = AllowsBound id its
  AllowsName (entity.Typedef id) = Unit {0}

  -- all names that are declared
  abbrev pub NamesAllow : Typer → Type 0
  NamesAllow s = AllByRecursion (λ it. AllowsName it.entity) s.names.declarations

  -- an operand
  abbrev pub IsOperandOf : TypedOperand → Type 0
  IsOperandOf (operand.value e) = Unit {0}
  IsOperandOf (operand.object it) = Unit {0}
  IsOperandOf (operand.function it) = AllowsBound it.head.type_id it.bound

  -- one call, and all that are noted
  abbrev pub IsCallOf : List Routine → TypeTable → RoutineCall → Type 0
  IsCallOf table final call = Q call.routine call.type_id × (fits_role final table call.routine call.type_id ≡ true)

  -- all that are noted
  abbrev pub AreCallsOf : List Routine → TypeTable → List RoutineCall → Type 0
  AreCallsOf table final calls = AllByRecursion (IsCallOf table final) calls

  module _ (final : TypeTable) where
    -- What is known after an answer: the names are as they should be, and so is what is given; the table grows and stays right; and each
    -- call that is noted has the fact, by the types that are known at the end.
    pub record Noted {A : Type 0} (holds : A → Type 0) (s : Typer) (p : A × Typer) : Type 0 where
      pub names : NamesAllow p.1
      pub fact : holds p.0
      pub table : p.1.table ≡ s.table
      pub types : Grows s.types p.1.types
      pub right : AreRight s.types → AreRight p.1.types
      pub calls : Grows p.1.types final → AreCallsOf s.table final s.calls → AreCallsOf s.table final p.1.calls

    -- if it is one
    abbrev pub Noting : {A : Type 0} → (A → Type 0) → Typer → Result (A × Typer) TypeError → Type 0
    Noting holds s (Ok p) = Noted holds s p
    Noting holds s (Err why) = Unit {0}

    -- From every place of the text, whether the scope of the next parameters is kept or not.
    pub record Notes {A : Type 0} (allowed : Entity → Type 0) (holds : A → Type 0) (step : Step A) : Type 0 where
      pub always : Always allowed step
      pub gives : (s : Typer) → NamesAllow s → Noting holds s (step s)

    -- nothing changes
    pub same_noted : {A : Type 0} → (holds : A → Type 0) (s : Typer) (it : A) → NamesAllow s → holds it → Noted holds s (it, s)
    same_noted holds s it names is =
        record { names = names; fact = is; table = refl; types = grows_self s.types; right = λ right. right; calls = λ grows are. are }

    -- of an answer that changes nothing
    pub kept_noting : {A : Type 0} → (holds : A → Type 0) (s : Typer) (given : Result A TypeError) → NamesAllow s → Met holds given
        → Noting holds s (kept s given)
    kept_noting holds s (Ok it) names met = same_noted holds s it names met
    kept_noting holds s (Err why) names met = tt

    -- the table grows, and stays right
    pub types_noting : {A : Type 0} → (s : Typer) (given : Result (A × TypeTable) TypeError) → Growing s.types given → Righting s.types given
        → NamesAllow s → Noting (λ it. Unit {0}) s (with_types s given)
    types_noting s (Ok p) grows rights names =
        record { names = names; fact = tt; table = refl; types = grows.0; right = rights; calls = λ grows are. are }
    types_noting s (Err why) grows rights names = tt

    -- one step after another
    noted_behind : {A B : Type 0} → (holds : A → Type 0) (holds' : B → Type 0) (s : Typer) (p : A × Typer) (q : B × Typer) → Noted holds s p
        → Noted holds' p.1 q → Noted holds' s q
    noted_behind holds holds' s p q before after =
        record {
          names = after.names;
          fact = after.fact;
          table = after.table ∙ before.table;
          types = grows_then s.types p.1.types q.1.types before.types after.types;
          right = λ right. after.right (before.right right);
          calls = λ grows are. subst (λ its. AreCallsOf its final q.1.calls) before.table
              (after.calls grows (subst (λ its. AreCallsOf its final p.1.calls) (sym before.table)
              (before.calls (grows_then p.1.types q.1.types final after.types grows) are)));
        }

    -- of an answer after another
    noting_behind : {A B : Type 0} → (holds : A → Type 0) (holds' : B → Type 0) (s : Typer) (p : A × Typer) (given : Result (B × Typer) TypeError)
        → Noted holds s p → Noting holds' p.1 given → Noting holds' s given
    noting_behind holds holds' s p (Ok q) before after = noted_behind holds holds' s p q before after
    noting_behind holds holds' s p (Err why) before after = tt

    -- by what the first one gives
    pub then_noting : {A B : Type 0} → (holds : A → Type 0) (holds' : B → Type 0) (next : A → Step B) (s : Typer)
        (given : Result (A × Typer) TypeError) → Noting holds s given
        → ((it : A) → holds it → (mid : Typer) → NamesAllow mid → Noting holds' mid (next it mid)) → Noting holds' s (then_with next given)
    then_noting holds holds' next s (Ok p) before after =
        noting_behind holds holds' s p (next p.0 p.1) before (after p.0 before.fact p.1 before.names)
    then_noting holds holds' next s (Err why) before after = tt

    -- what is not evaluated
    pub restored_noting : {A : Type 0} → (holds : A → Type 0) (s : Typer) (given : Result (A × Typer) TypeError)
        → Noting holds (record s { counts = false }) given → Noting holds s (restored s.counts given)
    restored_noting holds s (Ok p) is =
        record { names = is.names; fact = is.fact; table = is.table; types = is.types; right = is.right; calls = is.calls }
    restored_noting holds s (Err why) is = tt

    -- a scope that ends with its parameters, or is kept
    pub ending_noting : {A : Type 0} → (holds : A → Type 0) (keeps : Bool) (s : Typer) (given : Result (A × Typer) TypeError)
        → Noting holds (inside s) given → Noting holds s (ending keeps given)
    ending_noting holds true s (Ok p) is =
        record { names = is.names; fact = is.fact; table = is.table; types = is.types; right = is.right; calls = is.calls }
    ending_noting holds false s (Ok p) is =
        record {
          names = all_outside (λ it. AllowsName it.entity) p.1.names.level p.1.names.declarations is.names;
          fact = is.fact;
          table = is.table;
          types = is.types;
          right = is.right;
          calls = is.calls;
        }
    ending_noting holds true s (Err why) is = tt
    ending_noting holds false s (Err why) is = tt
