-- What a report that is right says of the outcome of reading, if the listing is known and no fault rose; and that only one status fits it.
use Rattle.std.proofs.Common.{◌≡◌, ◌⊎◌, ℕ, suc, ◌<◌, List, [], ◌∷◌, refl, sym, subst, ap, ◌∙◌, inl, inr, arith, Option, Some, Result, Ok, Err, if◌then◌else◌, ◌==◌, false}
use Rattle.std.proofs.lemmas.Bool.Decides.{nat_tests}
use Rattle.hs_base.specs.Count.{HasRisen}
use Rattle.hs_base.specs.Files.{Listing}
use Rattle.hs_base.specs.Reads.{AreRight, Fits}
use Rattle.hs_base.specs.declared.limit.Limit.{Limit}
use Rattle.hs_base.specs.declared.pos.Pos.{Pos}
use Rattle.hs_tree.specs.Trees.{TypedProgram}
use Rattle.hs_tree.specs.declared.straight.tree.Straight.{Straight}
use Rattle.hs_meaning.specs.Straight.StaleUses.{HasStaleUses, IsCountOf, IsStaleUse, uses}
use Rattle.hs_directives.specs.Preprocessing.{preprocessed}
use Rattle.hs_directives.specs.Reads.{IsReadAs, IsRefusedAs, RefusesFor}
use Rattle.hs_directives.specs.declared.error.ReadError.{ReadError}
use Rattle.hs_directives.specs.declared.error.ReadError.TheVariants as reading
use Rattle.hs_directives.specs.declared.source.Source.{Source}
use Rattle.hs_tokens.specs.declared.token.SourceToken.{SourceToken}
use Rattle.hs_words.specs.Words.{IsCheck, IsNoCheck}
use Rattle.hs_table.specs.Tables.{built_in_table}
use Rattle.hs_table.specs.declared.routine.Routine.{Routine}
use Rattle.hs_typer.specs.declared.type_error.TypeError.{TypeError}
use Rattle.hs_typer.specs.declared.type_error.TypeError.TheVariants as typing
use Rattle.hs_typing.specs.declared.program.ProgramError.{ProgramError}
use Rattle.hs_typing.specs.declared.program.ProgramError.TheVariants as program
use Rattle.hs_checker.specs.Straight.Grammar.{IsStraight}
use Rattle.hs_source.specs.Source.{AreTyped, HaveProgram, HasSyntaxAt, IsTooDeep, IsLimitOf}
use Rattle.hs_checker.specs.Source.{IsTheProgram, SpellsNone}
use Rattle.hs_command.specs.Causes.{Asks, Spells}
use Rattle.hs_report.specs.Faults.{placed_by, typed_by}
use Rattle.hs_report.specs.Texts.{status_of}
use Rattle.hs_command.specs.Report.{Call, IsReport}
use Rattle.hs_report.specs.declared.fault.Fault.{Fault}
use Rattle.hs_report.specs.declared.report.Report.{Report}
use Rattle.hs_report.specs.declared.report.Report.TheVariants.{Accepted, Hazards, Refused, NoMain, Unbuilt, Usage, Missing, Unread, Limited, NoMemory}
use Rattle.hs_report.specs.declared.status.Status.{Status}
use Rattle.hs_report.specs.declared.status.Status.TheVariants as status
use Rattle.hs_command.proofs.RightReads.{told_fits, fault_rose}
use Rattle.hs_command.proofs.Units.{AreUnique, typed-no_syntax, typed-not_deep, syntax-not_deep, same_outcome}

-- What the outcome of reading comes to: it is refused by reading, or of its sources a unit is not in the grammar or nests too deeply, or
-- they are not typed, or they are a typed program that spells no straight one, or one that spells one with so many stale uses.
pub data Comes (table : List Routine) (Spelled : Source → Straight → Type 0) (outcome : Result Source ReadError) : Type 0 where
  unread : (error : ReadError) → outcome ≡ Err error → Comes table Spelled outcome
  syntax : (source : Source) (pos : Pos) → outcome ≡ Ok source → HasSyntaxAt source.units pos → Comes table Spelled outcome
  deep : (source : Source) → outcome ≡ Ok source → IsTooDeep source.units → Comes table Spelled outcome
  untyped : (source : Source) (why : ProgramError) → outcome ≡ Ok source → AreTyped table source.units (Err why) → Comes table Spelled outcome
  unbuilt : (source : Source) → outcome ≡ Ok source → HaveProgram table source.units → SpellsNone source → Comes table Spelled outcome
  counted : (source : Source) (tree : Straight) (count : ℕ) → outcome ≡ Ok source → HaveProgram table source.units → Spelled source tree
      → HasStaleUses tree count → Comes table Spelled outcome

-- the status of a refusal of reading
abbrev pub status_of_reading : ReadError → Status
status_of_reading (reading.Missing name) = status.Unread
status_of_reading (reading.ReadFault name) = status.Unread
status_of_reading (reading.Limit limit) = status.Limited
status_of_reading reading.NoMemory = status.NoMemory
status_of_reading _ = status.Refused

-- and of one of typing
abbrev pub status_of_typing : ProgramError → Status
status_of_typing (program.Refused typing.NoMemory) = status.NoMemory
status_of_typing (program.Refused _) = status.Refused
status_of_typing program.NoMain = status.Refused
status_of_typing (program.Limit limit) = status.Limited
status_of_typing program.NoMemory = status.NoMemory

-- the status that this is answered with
abbrev pub status_by : {table : List Routine} {Spelled : Source → Straight → Type 0} {outcome : Result Source ReadError} → Comes table Spelled outcome → Status
status_by (unread error same) = status_of_reading error
status_by (syntax source pos same has) = status.Refused
status_by (deep source same is) = status.Limited
status_by (untyped source why same are) = status_of_typing why
status_by (unbuilt source same have none) = status.Refused
status_by (counted source tree count same have spelled has) = if count == 0 then status.Done else status.Hazards

-- a refusal of reading at a place
pub placed_status : (error : ReadError) (place : Fault × Pos) → placed_by error ≡ Some place → status.Refused ≡ status_of_reading error
placed_status (reading.Scan kind pos) place placed = refl
placed_status (reading.Macro kind pos) place placed = refl
placed_status (reading.BadDirective pos) place placed = refl
placed_status (reading.OpenIf pos) place placed = refl
placed_status (reading.IncludeDepth pos) place placed = refl
placed_status (reading.BadCondition pos) place placed = refl
placed_status (reading.Missing name) place placed = absurd cc
placed_status (reading.ReadFault name) place placed = absurd cc
placed_status (reading.Limit limit) place placed = absurd cc
placed_status reading.NoMemory place placed = absurd cc

-- and of typing
pub typed_status : (why : TypeError) (place : Fault × Pos × Option (List ℕ)) → typed_by why ≡ Some place
    → status.Refused ≡ status_of_typing (program.Refused why)
typed_status (typing.Untyped at) place placed = refl
typed_status (typing.Undeclared at name) place placed = refl
typed_status (typing.UnknownRoutine at name) place placed = refl
typed_status (typing.Clash at name) place placed = refl
typed_status typing.NoMemory place placed = absurd cc

-- the status of a refusal of reading at a place
pub faulty_status : (error : ReadError) (place : Fault × Pos) → placed_by error ≡ Some place → status_of_reading error ≡ status.Refused
faulty_status error place placed = sym (placed_status error place placed)

-- a count above 0 is not 0
above-zero : (count : ℕ) → 0 < count → (count == 0) ≡ false
above-zero count above = grind (arith, nat_tests)

-- the status of a count above 0
pub hazards_status : (count : ℕ) → 0 < count → status.Hazards ≡ (if count == 0 then status.Done else status.Hazards)
hazards_status count above = rw (above-zero count above) refl

-- what a report says of the outcome: nothing, or what it comes to
abbrev pub Agrees : Report → Result Source ReadError → Type 0
Agrees report outcome = (report ≡ NoMemory) ⊎ ((it : Comes built_in_table IsTheProgram outcome) × (status_of report ≡ status_by it))

-- a refusal that has a place is the definition's
pub placed_refusal : (outcome : Listing → Result Source ReadError) (files : Listing) (error : ReadError) (place : Fault × Pos)
    → placed_by error ≡ Some place → RefusesFor outcome files error → outcome files ≡ Err error
placed_refusal outcome files (reading.Scan kind pos) place placed is = is
placed_refusal outcome files (reading.Macro kind pos) place placed is = is
placed_refusal outcome files (reading.BadDirective pos) place placed is = is
placed_refusal outcome files (reading.OpenIf pos) place placed is = is
placed_refusal outcome files (reading.IncludeDepth pos) place placed is = is
placed_refusal outcome files (reading.BadCondition pos) place placed is = is
placed_refusal outcome files (reading.Missing name) place placed is = is
placed_refusal outcome files (reading.Limit limit) place placed is = is
placed_refusal outcome files (reading.ReadFault name) place placed is = absurd cc
placed_refusal outcome files reading.NoMemory place placed is = absurd cc

module _ (call : Call) (outcome : Result Source ReadError) (asks : Asks call outcome) (right : AreRight call.told call.before call.now call.reads) where
  -- the words name the files that are asked for
  same_names : (names : List (List ℕ)) → IsCheck call.words names → names ≡ asks.names
  same_names names is_check = is_check.read ∙ sym asks.is_check.read

  -- reading them gives the outcome
  gives : (names : List (List ℕ)) → IsCheck call.words names → preprocessed asks.files names ≡ outcome
  gives names is_check = ap (preprocessed asks.files) (same_names names is_check) ∙ asks.is_read

  -- the listing is what the reads gave
  fits : Fits asks.files call.reads
  fits =
      told_fits asks.files call.before call.now call.reads
      (subst (λ (told : Option Listing). AreRight told call.before call.now call.reads) asks.is_told right) asks.is_steady

  -- sources as which they are read are the outcome's
  read_as : (names : List (List ℕ)) (source : Source) → IsCheck call.words names → IsReadAs call.reads names source → outcome ≡ Ok source
  read_as names source is_check read = sym (gives names is_check) ∙ read.exact asks.files fits

  -- and so is a refusal that the definition has
  refused_as : (names : List (List ℕ)) (error : ReadError) → IsCheck call.words names → IsRefusedAs call.reads names error
      → (RefusesFor (λ listing. preprocessed listing names) asks.files error → preprocessed asks.files names ≡ Err error) → outcome ≡ Err error
  refused_as names error is_check refused has = sym (gives names is_check) ∙ has (refused.exact asks.files fits)

  -- no fault rose
  no_fault : HasRisen call.before.faults call.now.faults → ⊥
  no_fault risen = absurd (omega (arith, risen asks.is_steady.0, asks.is_steady.1))

  -- the words are those of a check
  no_usage : IsNoCheck call.words → ⊥
  no_usage (inl other) = other asks.is_check.command
  no_usage (inr refused) = refused asks.is_check.taken

  -- a limit that the units pass
  past : (source : Source) (limit : Limit) → outcome ≡ Ok source → IsLimitOf built_in_table source.units limit → Agrees (Limited limit) outcome
  past source limit same (inl deeply) = inr (deep source same deeply.0, refl)
  past source limit same (inr are) = inr (untyped source (program.Limit limit) same are, refl)

  -- a report that is right agrees with the outcome
  pub agrees : (report : Report) → IsReport call.words call.movers call.reads report → Agrees report outcome
  agrees Accepted (names, is_check, is) =
      inr (counted is.0 is.3.0 0 (read_as names is.0 is_check is.1) is.2 is.3.1 is.3.2, refl)
  agrees (Hazards count) (names, is_check, (some, is)) =
      inr (counted is.0 is.3.0 count (read_as names is.0 is_check is.1) is.2 is.3.1 is.3.2, hazards_status count some)
  agrees (Refused refusal) (names, is_check, inl is) =
      inr (
        unread is.0 (refused_as names is.0 is_check is.3
            (placed_refusal (λ listing. preprocessed listing names) asks.files is.0 (refusal.fault, refusal.pos) is.1)),
        placed_status is.0 (refusal.fault, refusal.pos) is.1,
      )
  agrees (Refused refusal) (names, is_check, inr (inl (fault, name, is, file))) =
      inr (syntax is.0 refusal.pos (read_as names is.0 is_check is.1) is.2, refl)
  agrees (Refused refusal) (names, is_check, inr (inr (why, placed, is, file))) =
      inr (
        untyped is.0 (program.Refused why) (read_as names is.0 is_check is.1) is.2,
        typed_status why (refusal.fault, refusal.pos, refusal.name) placed,
      )
  agrees NoMain (names, is_check, is) = inr (untyped is.0 program.NoMain (read_as names is.0 is_check is.1) is.2, refl)
  agrees Unbuilt (names, is_check, is) = inr (unbuilt is.0 (read_as names is.0 is_check is.1) is.2 is.3, refl)
  agrees Usage is = absurd (no_usage is.0)
  agrees (Missing name) (names, is_check, is) = inr (unread (reading.Missing name) (refused_as names (reading.Missing name) is_check is (λ same. same)), refl)
  agrees (Unread name) (names, is_check, is) = absurd (no_fault (fault_rose call.told call.before call.now call.reads name right is.ends))
  agrees (Limited limit) (names, is_check, inl is) =
      inr (unread (reading.Limit limit) (refused_as names (reading.Limit limit) is_check is (λ same. same)), refl)
  agrees (Limited limit) (names, is_check, inr is) = past is.0 limit (read_as names is.0 is_check is.1) is.2
  agrees NoMemory is = inl refl

-- two counts of one list are equal
IsCountOf-unique : {A : Type 0} (P : A → Type 0) (xs : List A) (m n : ℕ) → IsCountOf P xs m → IsCountOf P xs n → m ≡ n
IsCountOf-unique P [] m n one other = one ∙ sym other
IsCountOf-unique P (x ∷ xs) m n (inl one) (inl other) = one.3 ∙ ap suc (IsCountOf-unique P xs one.0 other.0 one.2 other.2) ∙ sym other.3
IsCountOf-unique P (x ∷ xs) m n (inl one) (inr other) = absurd (other.0 one.1)
IsCountOf-unique P (x ∷ xs) m n (inr one) (inl other) = absurd (one.0 other.1)
IsCountOf-unique P (x ∷ xs) m n (inr one) (inr other) = IsCountOf-unique P xs m n one.1 other.1

-- one unit is one unit
same_unit : (one other : List SourceToken) → one ∷ [] ≡ other ∷ [] → one ≡ other
same_unit one other same = cc

-- the program that is spelled is the one of which a report speaks, and has its number of stale uses
same_count : (source : Source) (tree : Straight) (m n : ℕ) → Spells source tree → HasStaleUses tree m
    → (other : Straight) → IsTheProgram source other → HasStaleUses other n → m ≡ n
same_count source tree m n spells holds other program holds' =
    let unit = same_unit spells.0 program.0 (sym spells.1 ∙ program.1) in
    let same : tree ≡ other = program.2.1 tree (subst (λ (tokens : List SourceToken). IsStraight tokens tree) unit spells.2) in
    IsCountOf-unique IsStaleUse (uses other.steps) m n (subst (λ (t : Straight). HasStaleUses t m) same holds) holds'

-- ---- one status

-- sources of one outcome
pub same_source : (outcome : Result Source ReadError) (source other : Source) → outcome ≡ Ok source → outcome ≡ Ok other → source ≡ other
same_source outcome source other same too = cc

-- a refusal and sources
pub no_both : (outcome : Result Source ReadError) (error : ReadError) (source : Source) → outcome ≡ Err error → outcome ≡ Ok source → ⊥
no_both outcome error source same too = absurd cc

-- one refusal
pub same_error : (outcome : Result Source ReadError) (error other : ReadError) → outcome ≡ Err error → outcome ≡ Err other → error ≡ other
same_error outcome error other same too = cc

-- one refusal of typing
pub same_why : (why other : ProgramError) → ◌≡◌ {A = Result TypedProgram ProgramError} (Err why) (Err other) → why ≡ other
same_why why other same = cc

-- a refusal of typing and a program
pub no_program : (why : ProgramError) (it : TypedProgram) → ◌≡◌ {A = Result TypedProgram ProgramError} (Err why) (Ok it) → ⊥
no_program why it same = absurd cc

module _ (unique : AreUnique) (table : List Routine) (outcome : Result Source ReadError) where
  -- if typing the units of the sources has an outcome, the grammar does not refuse any unit of the same sources
  pub no_syntax : (source other : Source) (typed : Result TypedProgram ProgramError) (pos : Pos) → outcome ≡ Ok source → outcome ≡ Ok other
      → AreTyped table source.units typed → HasSyntaxAt other.units pos → ⊥
  no_syntax source other typed pos same too are has =
      typed-no_syntax table source.units typed pos are
      (subst (λ (it : Source). HasSyntaxAt it.units pos) (same_source outcome other source too same) has)

  pub not_deep : (source other : Source) (typed : Result TypedProgram ProgramError) → outcome ≡ Ok source → outcome ≡ Ok other
      → AreTyped table source.units typed → IsTooDeep other.units → ⊥
  not_deep source other typed same too are is =
      typed-not_deep table source.units typed are (subst (λ (it : Source). IsTooDeep it.units) (same_source outcome other source too same) is)

  -- and have no other outcome
  pub one_outcome : (source other : Source) (typed also : Result TypedProgram ProgramError) → outcome ≡ Ok source → outcome ≡ Ok other
      → AreTyped table source.units typed → AreTyped table other.units also → typed ≡ also
  one_outcome source other typed also same too are are' =
      same_outcome unique table source.units typed also are
      (subst (λ (it : Source). AreTyped table it.units also) (same_source outcome other source too same) are')

  -- a unit that the grammar refuses at a place does not nest too deeply
  pub not_both : (source other : Source) (pos : Pos) → outcome ≡ Ok source → outcome ≡ Ok other → HasSyntaxAt source.units pos → IsTooDeep other.units → ⊥
  not_both source other pos same too has is =
      syntax-not_deep source.units pos has (subst (λ (it : Source). IsTooDeep it.units) (same_source outcome other source too same) is)

  -- sources that spell a program do not spell none
  not_none : (source other : Source) (tree : Straight) → outcome ≡ Ok source → outcome ≡ Ok other → Spells source tree → SpellsNone other → ⊥
  not_none source other tree same too spells none =
      let it = subst (λ (it : Source). Spells it tree) (same_source outcome source other same too) spells in none it.0 tree it.1 it.2

  -- a program that is spelled, and is the only one, is spelled
  is_spelled : (source : Source) (tree : Straight) → IsTheProgram source tree → Spells source tree
  is_spelled source tree is = (is.0, is.1, is.2.0)

  -- the count of stale uses is known
  one_count : (source other : Source) (tree also : Straight) (m n : ℕ) → outcome ≡ Ok source → outcome ≡ Ok other
      → IsTheProgram source tree → Spells other also → HasStaleUses tree m → HasStaleUses also n → m ≡ n
  one_count source other tree also m n same too is spells has has' =
      let it = subst (λ (it : Source). Spells it also) (same_source outcome other source too same) spells in
      sym (same_count source also n m it has' tree is has)

  -- what a report says and what is asked have one status
  pub one_status : (one : Comes table IsTheProgram outcome) (other : Comes table Spells outcome) → status_by one ≡ status_by other
  one_status (unread e same) (unread e' too) = ap status_of_reading (same_error outcome e e' same too)
  one_status (unread e same) (syntax s pos too has) = absurd (no_both outcome e s same too)
  one_status (unread e same) (deep s too is) = absurd (no_both outcome e s same too)
  one_status (unread e same) (untyped s why too are) = absurd (no_both outcome e s same too)
  one_status (unread e same) (unbuilt s too have none) = absurd (no_both outcome e s same too)
  one_status (unread e same) (counted s tree n too have spells has) = absurd (no_both outcome e s same too)
  one_status (syntax s pos same has) (unread e too) = absurd (no_both outcome e s too same)
  one_status (syntax s pos same has) (syntax s' pos' too has') = refl
  one_status (syntax s pos same has) (deep s' too is) = absurd (not_both s s' pos same too has is)
  one_status (syntax s pos same has) (untyped s' why too are) = absurd (no_syntax s' s (Err why) pos too same are has)
  one_status (syntax s pos same has) (unbuilt s' too have none) = refl
  one_status (syntax s pos same has) (counted s' tree n too have spells uses) = absurd (no_syntax s' s (Ok have.0) pos too same have.1 has)
  one_status (deep s same is) (unread e too) = absurd (no_both outcome e s too same)
  one_status (deep s same is) (syntax s' pos too has) = absurd (not_both s' s pos too same has is)
  one_status (deep s same is) (deep s' too is') = refl
  one_status (deep s same is) (untyped s' why too are) = absurd (not_deep s' s (Err why) too same are is)
  one_status (deep s same is) (unbuilt s' too have none) = absurd (not_deep s' s (Ok have.0) too same have.1 is)
  one_status (deep s same is) (counted s' tree n too have spells uses) = absurd (not_deep s' s (Ok have.0) too same have.1 is)
  one_status (untyped s why same are) (unread e too) = absurd (no_both outcome e s too same)
  one_status (untyped s why same are) (syntax s' pos too has) = absurd (no_syntax s s' (Err why) pos same too are has)
  one_status (untyped s why same are) (deep s' too is) = absurd (not_deep s s' (Err why) same too are is)
  one_status (untyped s why same are) (untyped s' why' too are') =
      ap status_of_typing (same_why why why' (one_outcome s s' (Err why) (Err why') same too are are'))
  one_status (untyped s why same are) (unbuilt s' too have none) =
      absurd (no_program why have.0 (one_outcome s s' (Err why) (Ok have.0) same too are have.1))
  one_status (untyped s why same are) (counted s' tree n too have spells uses) =
      absurd (no_program why have.0 (one_outcome s s' (Err why) (Ok have.0) same too are have.1))
  one_status (unbuilt s same have none) (unread e too) = absurd (no_both outcome e s too same)
  one_status (unbuilt s same have none) (syntax s' pos too has) = refl
  one_status (unbuilt s same have none) (deep s' too is) = absurd (not_deep s s' (Ok have.0) same too have.1 is)
  one_status (unbuilt s same have none) (untyped s' why too are) =
      absurd (no_program why have.0 (one_outcome s' s (Err why) (Ok have.0) too same are have.1))
  one_status (unbuilt s same have none) (unbuilt s' too have' none') = refl
  one_status (unbuilt s same have none) (counted s' tree n too have' spells uses) = absurd (not_none s' s tree too same spells none)
  one_status (counted s tree n same have is uses) (unread e too) = absurd (no_both outcome e s too same)
  one_status (counted s tree n same have is uses) (syntax s' pos too has) = absurd (no_syntax s s' (Ok have.0) pos same too have.1 has)
  one_status (counted s tree n same have is uses) (deep s' too is') = absurd (not_deep s s' (Ok have.0) same too have.1 is')
  one_status (counted s tree n same have is uses) (untyped s' why too are) =
      absurd (no_program why have.0 (one_outcome s' s (Err why) (Ok have.0) too same are have.1))
  one_status (counted s tree n same have is uses) (unbuilt s' too have' none) = absurd (not_none s s' tree same too (is_spelled s tree is) none)
  one_status (counted s tree n same have is uses) (counted s' tree' n' too have' spells uses') =
      ap (λ (k : ℕ). if k == 0 then status.Done else status.Hazards) (one_count s s' tree tree' n n' same too is spells uses uses')
