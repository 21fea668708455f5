-- What the report of a run that is right says of files that are known, if no fault rose.
use Rattle.std.proofs.Common.{◌≡◌, ◌⊎◌, ℕ, List, [], ◌∷◌, ◌++◌, refl, sym, subst, ap, ◌∙◌, inl, inr, Option, Some, Result, Ok, Err, arith}
use Rattle.hs_base.specs.Count.{IsSteady}
use Rattle.hs_base.specs.Files.{Counts, IsAnswer, Listing, Read}
use Rattle.hs_base.specs.Reads.{AreRight, Fits}
use Rattle.hs_base.specs.declared.errors.FileEnd.{FileEnd}
use Rattle.hs_base.specs.declared.errors.FileEnd.TheVariants as ends
use Rattle.hs_base.specs.declared.limit.Limit.{Limit}
use Rattle.hs_base.specs.declared.pos.Pos.{Pos}
use Rattle.hs_directives.specs.Preprocessing.{preprocessed}
use Rattle.hs_directives.specs.Reads.{EndsAs, IsReadAs, IsRefusedAs, RefusesFor}
use Rattle.hs_directives.specs.declared.error.ReadError.{ReadError}
use Rattle.hs_directives.specs.declared.error.ReadError.TheVariants as reading
use Rattle.hs_directives.specs.declared.source.Source.{Source}
use Rattle.hs_settings.specs.Listed.{AreAnsweredBy, IsAnsweredBy}
use Rattle.hs_source.specs.Source.{AreTyped, HasSyntaxAt, IsTooDeep, IsLimitOf}
use Rattle.hs_table.specs.declared.routine.Routine.{Routine}
use Rattle.hs_tree.specs.Trees.{TypedProgram}
use Rattle.hs_typing.specs.declared.program.ProgramError.{ProgramError}
use Rattle.hs_typing.specs.declared.program.ProgramError.TheVariants as program
use Rattle.hs_report.specs.Texts.{status_of}
use Rattle.hs_command.specs.Report.{IsNoProgram}
use Rattle.hs_report.specs.declared.report.Report.{Report}
use Rattle.hs_report.specs.declared.report.Report.TheVariants.{Accepted, Hazards, Refused, NoMain, Unbuilt, Usage, Missing, Unread, Limited, NoMemory}
use Rattle.hs_report.specs.declared.status.Status.{Status}
use Rattle.hs_report.specs.declared.status.Status.TheVariants as status
use Rattle.hs_command.proofs.Outcomes.{placed_refusal, placed_status, typed_status, status_of_reading, status_of_typing, no_both, no_program, same_error, same_why, no_syntax, not_deep, not_both, one_outcome}
use Rattle.hs_command.proofs.RightReads.{steady_first, steady_later, up}
use Rattle.hs_command.proofs.Units.{AreUnique}

-- ---- reads of files that are known

-- an answer that is right is that of the files, if no fault was counted
answered_one : (files : Listing) (name : List ℕ) (max : ℕ) (before now : Counts) (answer : Result (List ℕ) FileEnd)
    → IsSteady before.faults now.faults → IsAnswer (Some files) name max before now answer → IsAnsweredBy files name max answer
answered_one files name max before now (Ok text) steady right = right
answered_one files name max before now (Err ends.Missing) steady right = right.1 steady
answered_one files name max before now (Err ends.Failed) steady right = absurd (omega (arith, right steady.0, steady.1))
answered_one files name max before now (Err ends.TooLong) steady right = right
answered_one files name max before now (Err ends.NoMemory) steady right = tt

-- and so are all of them
pub told_answered : (files : Listing) (before now : Counts) (reads : List Read) → AreRight (Some files) before now reads
    → IsSteady before.faults now.faults → AreAnsweredBy files reads
told_answered files before now [] right steady = tt
told_answered files before now (read ∷ reads) right steady =
    let behind = up (Some files) read.now now reads right.3 in
    let steady' : IsSteady read.before.faults now.faults = subst (λ (it : Counts). IsSteady it.faults now.faults) (sym right.0) steady in (
      answered_one files read.name read.max read.before read.now read.answer
          (steady_first read.before.faults read.now.faults now.faults right.1.faults behind.faults steady') right.2,
      told_answered files read.now now reads right.3
          (steady_later read.before.faults read.now.faults now.faults right.1.faults behind.faults steady'),
    )

-- reads after others are right, from the counts that the others leave
pub right_behind : (told : Option Listing) (before now : Counts) (front rest : List Read) → AreRight told before now (front ++ rest)
    → (mid : Counts) × AreRight told before mid front × AreRight told mid now rest
right_behind told before now [] rest right = (before, refl, right)
right_behind told before now (read ∷ front) rest right =
    let behind = right_behind told read.now now front rest right.3 in (behind.0, (right.0, right.1, right.2, behind.1), behind.2)

-- ---- sources that come to no program

-- why they come to none
pub data IsNone (table : List Routine) (outcome : Result Source ReadError) : Type 0 where
  unread : (error : ReadError) → outcome ≡ Err error → IsNone table outcome
  syntax : (source : Source) (pos : Pos) → outcome ≡ Ok source → HasSyntaxAt source.units pos → IsNone table outcome
  deep : (source : Source) → outcome ≡ Ok source → IsTooDeep source.units → IsNone table outcome
  untyped : (source : Source) (why : ProgramError) → outcome ≡ Ok source → AreTyped table source.units (Err why) → IsNone table outcome

-- the status of that
abbrev pub status_for : {table : List Routine} {outcome : Result Source ReadError} → IsNone table outcome → Status
status_for (unread error same) = status_of_reading error
status_for (syntax source pos same has) = status.Refused
status_for (deep source same is) = status.Limited
status_for (untyped source why same are) = status_of_typing why

-- what a report says of the outcome: nothing if memory ran out, or else why it comes to no program
abbrev pub Agrees : List Routine → Report → Result Source ReadError → Type 0
Agrees table report outcome = (report ≡ NoMemory) ⊎ ((it : IsNone table outcome) × (status_of report ≡ status_for it))

module _ (table : List Routine) (files : Listing) (names : List (List ℕ)) (reads : List Read) (outcome : Result Source ReadError)
    (fits : Fits files reads) (is_read : preprocessed files names ≡ outcome) where
  -- sources as which they are read are the outcome's
  pub read_as : (source : Source) → IsReadAs reads names source → outcome ≡ Ok source
  read_as source read = sym is_read ∙ read.exact files fits

  -- and so is a refusal that the definition has
  refused_as : (error : ReadError) → IsRefusedAs reads names error
      → (RefusesFor (λ listing. preprocessed listing names) files error → preprocessed files names ≡ Err error) → outcome ≡ Err error
  refused_as error refused has = sym is_read ∙ has (refused.exact files fits)

  -- a limit that the units pass
  past : (source : Source) (limit : Limit) → outcome ≡ Ok source → IsLimitOf table source.units limit → Agrees table (Limited limit) outcome
  past source limit same (inl deeply) = inr (deep source same deeply.0, refl)
  past source limit same (inr are) = inr (untyped source (program.Limit limit) same are, refl)

  -- a report that is right agrees with the outcome, if no read failed
  pub agrees : (report : Report) → ((name : List ℕ) → EndsAs reads (reading.ReadFault name) → ⊥) → IsNoProgram table reads names report
      → Agrees table report outcome
  agrees Accepted no_fault is = absurd is
  agrees (Hazards count) no_fault is = absurd is
  agrees (Refused refusal) no_fault (inl is) =
      inr (
        unread is.0 (refused_as is.0 is.3
            (placed_refusal (λ listing. preprocessed listing names) files is.0 (refusal.fault, refusal.pos) is.1)),
        placed_status is.0 (refusal.fault, refusal.pos) is.1,
      )
  agrees (Refused refusal) no_fault (inr (inl (fault, name, is, file))) = inr (syntax is.0 refusal.pos (read_as is.0 is.1) is.2, refl)
  agrees (Refused refusal) no_fault (inr (inr (why, placed, is, file))) =
      inr (
        untyped is.0 (program.Refused why) (read_as is.0 is.1) is.2,
        typed_status why (refusal.fault, refusal.pos, refusal.name) placed,
      )
  agrees NoMain no_fault is = inr (untyped is.0 program.NoMain (read_as is.0 is.1) is.2, refl)
  agrees Unbuilt no_fault is = absurd is
  agrees Usage no_fault is = absurd is
  agrees (Missing name) no_fault is = inr (unread (reading.Missing name) (refused_as (reading.Missing name) is (λ same. same)), refl)
  agrees (Unread name) no_fault is = absurd (no_fault name is.ends)
  agrees (Limited limit) no_fault (inl is) = inr (unread (reading.Limit limit) (refused_as (reading.Limit limit) is (λ same. same)), refl)
  agrees (Limited limit) no_fault (inr is) = past is.0 limit (read_as is.0 is.1) is.2
  agrees NoMemory no_fault is = inl refl

module _ (unique : AreUnique) (table : List Routine) (outcome : Result Source ReadError) where
  -- what a report says and what is asked have one status
  pub one_status : (one other : IsNone table outcome) → status_for one ≡ status_for other
  one_status (unread e same) (unread e' too) = ap status_of_reading (same_error outcome e e' same too)
  one_status (unread e same) (syntax s pos too has) = absurd (no_both outcome e s same too)
  one_status (unread e same) (deep s too is) = absurd (no_both outcome e s same too)
  one_status (unread e same) (untyped s why too are) = absurd (no_both outcome e s same too)
  one_status (syntax s pos same has) (unread e too) = absurd (no_both outcome e s too same)
  one_status (syntax s pos same has) (syntax s' pos' too has') = refl
  one_status (syntax s pos same has) (deep s' too is) = absurd (not_both unique table outcome s s' pos same too has is)
  one_status (syntax s pos same has) (untyped s' why too are) = absurd (no_syntax unique table outcome s' s (Err why) pos too same are has)
  one_status (deep s same is) (unread e too) = absurd (no_both outcome e s too same)
  one_status (deep s same is) (syntax s' pos too has) = absurd (not_both unique table outcome s' s pos too same has is)
  one_status (deep s same is) (deep s' too is') = refl
  one_status (deep s same is) (untyped s' why too are) = absurd (not_deep unique table outcome s' s (Err why) too same are is)
  one_status (untyped s why same are) (unread e too) = absurd (no_both outcome e s too same)
  one_status (untyped s why same are) (syntax s' pos too has) = absurd (no_syntax unique table outcome s s' (Err why) pos same too are has)
  one_status (untyped s why same are) (deep s' too is) = absurd (not_deep unique table outcome s s' (Err why) same too are is)
  one_status (untyped s why same are) (untyped s' why' too are') =
      ap status_of_typing (same_why why why' (one_outcome unique table outcome s s' (Err why) (Err why') same too are are'))

  -- sources that come to no program are no typed program
  pub none_or_typed : (one : IsNone table outcome) (source : Source) (typed : TypedProgram) → outcome ≡ Ok source
      → AreTyped table source.units (Ok typed) → ⊥
  none_or_typed (unread e same) s typed too are = no_both outcome e s same too
  none_or_typed (syntax s pos same has) s' typed too are = no_syntax unique table outcome s' s (Ok typed) pos too same are has
  none_or_typed (deep s same is) s' typed too are = not_deep unique table outcome s' s (Ok typed) too same are is
  none_or_typed (untyped s why same are) s' typed too are' =
      no_program why typed (one_outcome unique table outcome s s' (Err why) (Ok typed) same too are are')
