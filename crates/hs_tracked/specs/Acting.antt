-- The machine runs each role as `Acts` says (own).
--     acts             a routine that is no restore
--     restores         one that is: NIL, or the byte is put on the block of the handle
--     reads            the byte that HGetState gives
use Rattle.std.proofs.Common.{◌≡◌, ◌⊎◌, inl, inr, ℕ, suc, ◌-◌, ◌+◌, ◌%◌, nat_le, Bool, true, false, not, ◌&&◌, ◌||◌, ◌==◌, List, ◌∷◌, length, slice_get, Option, Some, None, Result, Ok, refl, sym, ap, ◌∙◌, subst, arith, true≢false}
use Rattle.std.proofs.lemmas.Bool.{and_right, not_from_true}
use Rattle.std.proofs.lemmas.Bool.Decides.{nat_tests}
use Rattle.std.proofs.lemmas.Option.{same_Some}
use Rattle.hs_calls.specs.Calls.{Here, Wait, fixed_in, is_fixed, steady_in}
use Rattle.hs_chains.specs.Knowledge.{Knowledge, IsGiven}
use Rattle.hs_code.specs.Stacks.{Scope}
use Rattle.hs_code.specs.declared.function_code.Placed.{Placed}
use Rattle.hs_code.specs.declared.op.Op.TheVariants as op
use Rattle.hs_code_run.specs.Codes.{CodeProgram, code_program, scope_of}
use Rattle.hs_code_run.specs.Steps.{taken, below, holds}
use Rattle.hs_facts.specs.Changes.{Impact, IsRestore}
use Rattle.hs_facts.specs.Effects.{WholeCode}
use Rattle.hs_facts.specs.MustFacts.{MustFact, With, on_stack}
use Rattle.hs_facts.specs.Names.{role_in, role_at, taken as taken_by}
use Rattle.hs_facts.specs.Rounds.{HoldsIn}
use Rattle.hs_flow.specs.Given.{Given}
use Rattle.hs_flow.specs.Next.{marks_by, sets_state, unlocks_by, unmarks_by}
use Rattle.hs_flow.specs.Programs.{scope_at}
use Rattle.hs_heap.specs.Blocks.{Block, bit, by_standing, standing, state_of, with_purge_bit}
use Rattle.hs_heap.specs.Memory.{block_at}
use Rattle.hs_heap.specs.Shift.{is_loose, is_present}
use Rattle.hs_heap.specs.declared.cell.Pointer.TheVariants.{Nil, Handle}
use Rattle.hs_heap.specs.declared.presence.Presence.{Presence}
use Rattle.hs_heap.specs.declared.presence.Presence.TheVariants as presence
use Rattle.hs_heap.specs.declared.stop.HeapStop.{HeapStop}
use Rattle.hs_hiding.specs.Holding.{Cells, HoldsHandle, value_of}
use Rattle.hs_hiding.specs.Roles.{LeavesCells, changed_leaves}
use Rattle.hs_meaning.specs.Handles.{answer_by, answer_in, answer_of_block, changed_by}
use Rattle.hs_meaning.specs.Laws.Changes.{Left}
use Rattle.hs_meaning.specs.Machine.{Machine}
use Rattle.hs_meaning.specs.Operations as operation
use Rattle.hs_meaning.specs.Operations.{as_kind, is_plain}
use Rattle.hs_meaning.specs.Roles.{role_machine, role_stops, role_value}
use Rattle.hs_meaning.specs.Steps.{State}
use Rattle.hs_meaning.specs.Stops.{first_stop}
use Rattle.hs_meaning.specs.Values.{Value, pointer, state, pointer_in}
use Rattle.hs_meaning.specs.declared.outcome.Outcome.{Outcome}
use Rattle.hs_role_truth.specs.Arguments.{one_taken}
use Rattle.hs_role_truth.specs.Handled.{OneBlock}
use Rattle.hs_role_truth.specs.HandleRoles.{PutOn, put_on}
use Rattle.hs_role_truth.specs.Handles.{changed_is}
use Rattle.hs_role_truth.specs.QuietRoles.{done_role}
use Rattle.hs_role_truth.specs.RoleArguments.{One, get_state_argument, no_purge_argument, purge_argument}
use Rattle.hs_role_truth.specs.RoleFacts.{Runs, first_is, role_since}
use Rattle.hs_role_truth.specs.Touching.{Taken, changed_one, taken_handle}
use Rattle.hs_sound_heap.specs.Roles.{effects_of, marking, no_purge_since, nothing, purge_since, setting, state_since}
use Rattle.hs_sound_heap.specs.Since.{BlockSince, May, Since, is_marked, since_refl}
use Rattle.hs_table.specs.declared.role.Role.{Role}
use Rattle.hs_table.specs.declared.role.Role.TheVariants as role
use Rattle.hs_tracked.specs.Bytes.{has_mark}
use Rattle.hs_tracked.specs.Calling.{Acts, acts_nil, acts_one, acts_since}
use Rattle.hs_tracked.specs.Going.{IsAt}
use Rattle.hs_tracked.specs.Restoring.{Restores}
use Rattle.hs_tracked.specs.Right.{AreRight}
use Rattle.hs_tree.specs.Kinds.{number_kind}
use Rattle.hs_tree.specs.declared.function.BoundRoutine.{BoundRoutine}
use Rattle.hs_tree.specs.declared.function.Prototype.{Prototype}
use Rattle.hs_tree.specs.declared.head.Variable.{Variable}
use Rattle.hs_truth.specs.Good.{Good, is_old}
use Rattle.hs_truth.specs.Linked.{since_of}
use Rattle.hs_truth.specs.Owing.{steady_since}
use Rattle.hs_truth.specs.Places.{at_place}
use Rattle.hs_truth.specs.Truth.{AllTrue, ByteTrue}
use Rattle.hs_truth.specs.Values.{values_after}
use Rattle.hs_types.specs.declared.integer.Integer.{Integer}

module _ (whole : WholeCode) (known : Knowledge) (may : ℕ → May) (sets : ℕ → ℕ → Bool) (impact : Impact) (E : Outcome → State → Type 0)
    (ends : (outcome : Outcome) (s : State) → E outcome s) (here : Here) (ws : List Wait) (choices : List Bool) (its : Placed) (s : State)
    (good : Good (code_program whole.program whole.functions) may sets impact here s.machine ws) (deep : its.places ≡ length here.stack)
    (is_at : IsAt whole known here its) (right : AreRight whole known here s.machine) (p : ℕ) (is : its.op ≡ op.Routine p) (it : BoundRoutine)
    (found : slice_get whole.program.routines p ≡ Some it) (prototype : Prototype) (proto : it.prototype ≡ Some prototype)
    (held : holds (length prototype.parameters) here.stack ≡ true) (v : Value) (after : Machine)
    (ran : Runs (code_program whole.program whole.functions) may sets impact E ends here ws choices its s good is_at.there deep p is it found prototype proto
    held v after) where
  -- the program with its code
  abbrev program : CodeProgram
  program = code_program whole.program whole.functions

  -- what is known at the operation
  abbrev facts : Given
  facts = known.at here.fn here.at

  -- what the kinds of the operations depend on
  abbrev kinds : Scope
  kinds = scope_at whole here.fn

  -- how many arguments it takes
  abbrev count : ℕ
  count = length prototype.parameters

  -- the place of the first one
  abbrev first : ℕ
  first = length (below count here.stack)

  -- what lasts after it
  abbrev pub still_lasting : ℕ → Bool
  still_lasting = λ k. here.lasting k && steady_in s.machine after k

  -- the stack after it
  abbrev pub new_stack : List Value
  new_stack = v ∷ below count here.stack

  -- it acts so
  abbrev pub ItActs : Type 0
  ItActs = Acts whole known here s.machine after ws its is_at right still_lasting new_stack p is

  -- the place of its first argument, as the analysis knows it
  pub base_is : facts.places - taken_by kinds (op.Routine p) ≡ first
  base_is =
      ap (λ n. n - taken_by kinds (op.Routine p)) (is_at.deep ∙ sym deep)
      ∙ first_is program may sets impact E ends here ws choices its s good is_at.there deep p is it found prototype proto held

  pub role_is : (r : Role) → it.routine.role ≡ r → role_at kinds p ≡ Some r
  role_is r so = ap role_in found ∙ ap (λ r. Some r) so

  since_of_role : (r : Role) → it.routine.role ≡ r → Since (effects_of r) s.machine.blocks after.blocks
  since_of_role r so =
      subst (λ r. Since (effects_of r) s.machine.blocks after.blocks) so
      (role_since program may sets impact E ends here ws choices its s good is_at.there deep p is it found prototype proto held v after ran)

  pub values : (x : Variable) → value_of after x ≡ value_of s.machine x
  values = values_after program may sets impact here ws its (operation.routine p) count s.machine good v after ran refl

  -- what lasted still does, if nothing is unlocked
  lasts_since : (some : May) → Since some s.machine.blocks after.blocks → some.unlocks ≡ false → (n : ℕ) → here.lasting n ≡ true → still_lasting n ≡ true
  lasts_since some since none n lasted =
      ap (λ z. z && steady_in s.machine after n) lasted ∙ steady_since some s.machine after n since none (good.lasts n lasted)

  lasts_same : s.machine ≡ after → (n : ℕ) → here.lasting n ≡ true → still_lasting n ≡ true
  lasts_same same = lasts_since nothing (subst (λ m. Since nothing s.machine.blocks m.blocks) same (since_refl nothing s.machine.blocks)) refl

  -- ---- roles that mark and unmark nothing

  quiet : (r : Role) → it.routine.role ≡ r → (effects_of r).moves ≡ false → (effects_of r).marks ≡ false → unmarks_by (Some r) ≡ false
      → (unlocks_by facts.restores (Some r) ≡ false → (effects_of r).unlocks ≡ false) → ItActs
  quiet r so moves marks unmarks unlocks =
      acts_since whole known here s.machine after ws its is_at right still_lasting new_stack p is (effects_of r) moves marks
      (ap unmarks_by (role_is r so) ∙ unmarks) (since_of_role r so) values
      (λ none. lasts_since (effects_of r) (since_of_role r so) (unlocks (ap (unlocks_by facts.restores) (sym (role_is r so)) ∙ none)))

  -- ---- HPurge and HNoPurge

  bit_leaves : (z : Bool) (k : ℕ) (block : Block) → Cells k block.cells → LeavesCells k (with_purge_bit z block)
  bit_leaves z k block are = changed_leaves k (λ its. record its { purgeable = z }) block are are

  unmarked_now : (old new : Block) → with_purge_bit false old ≡ Ok new → is_marked new ≡ false
  unmarked_now old new acts = by_change (changed_is (λ b. record b { purgeable = false }) old new acts)
    where
      by_change : ((new ≡ record old { purgeable = false }) × (old.presence ≡ presence.Present)) ⊎ ((new ≡ old) × (old.presence ≡ presence.Emptied))
          → is_marked new ≡ false
      by_change (inl so) = ap is_marked so.0 ∙ and_right (is_present old.presence) false refl
      by_change (inr so) = ap is_marked so.0 ∙ ap (λ z. z && old.purgeable) (ap is_present so.1)

  module _ (r : Role) (so : it.routine.role ≡ r) (z : Bool) (some : May) (effects : (old new : Block) → with_purge_bit z old ≡ Ok new → BlockSince some old new)
      (moves : some.moves ≡ false) (marks : some.marks ≡ true → marks_by facts.restores (Some r) ≡ true)
      (unmarks : (old new : Block) → with_purge_bit z old ≡ Ok new → unmarks_by (Some r) ≡ true → is_marked new ≡ false)
      (unlocks : (effects_of r).unlocks ≡ false) (one : One s (with_purge_bit z) (taken count here.stack))
      (now : changed_by (with_purge_bit z) (pointer_in one.0) s.machine ≡ after) where
    argument : at_place (facts.places - taken_by kinds (op.Routine p)) here.stack ≡ Some one.0
    argument = ap (λ n. at_place n here.stack) base_is ∙ one_taken count here.stack one.0 held one.1

    lasts : unlocks_by facts.restores (role_at kinds p) ≡ false → (n : ℕ) → here.lasting n ≡ true → still_lasting n ≡ true
    lasts none = lasts_since (effects_of r) (since_of_role r so) unlocks

    with_bit : (one.0 ≡ pointer Nil) ⊎ Taken Block (with_purge_bit z) one.0 s.machine → ItActs
    with_bit (inl nil) =
        acts_nil whole known here s.machine after ws its is_at right still_lasting new_stack p is (argument ∙ ap (λ a. Some a) nil)
        (ap (λ q. changed_by (with_purge_bit z) (pointer_in q) s.machine) (sym nil) ∙ now) lasts
    with_bit (inr t) =
        acts_one whole known here s.machine after ws its is_at right still_lasting new_stack p is some t.n t.before t.new
        (argument ∙ ap (λ a. Some a) t.handle)
        (subst (λ m. OneBlock s.machine m t.n t.before t.new) (ap (λ q. changed_by (with_purge_bit z) (pointer_in q) s.machine) (sym t.handle) ∙ now)
        (changed_one (with_purge_bit z) s.machine t.n t.before t.new t.there t.acts (bit_leaves z)))
        (effects t.before t.new t.acts) moves (λ m. ap (marks_by facts.restores) (role_is r so) ∙ marks m)
        (λ u. unmarks t.before t.new t.acts (ap unmarks_by (sym (role_is r so)) ∙ u)) lasts

  pub done_as : (r : Role) → it.routine.role ≡ r → is_plain r ≡ false
      → (first_stop (role_stops r (taken count here.stack) s.machine) ≡ None)
      × (as_kind (number_kind program.setting.types prototype.result) (role_value r (taken count here.stack) s.machine) ≡ v)
      × (role_machine r (taken count here.stack) s.machine ≡ after)
  done_as r so other =
      done_role program may sets impact E ends here ws choices its s good is_at.there deep p is it found prototype proto held v after ran r so other

  purge : it.routine.role ≡ role.Purge → ItActs
  purge so = on (purge_argument s (taken count here.stack) (done_as role.Purge so refl).0)
    where
      on : One s (with_purge_bit true) (taken count here.stack) → ItActs
      on one =
          with_bit role.Purge so true marking (λ old new acts. subst (Left (BlockSince marking) old) acts (purge_since old)) refl (λ m. refl)
          (λ old new acts unmarks. absurd (true≢false (sym unmarks))) refl one
          (ap (λ vs. role_machine role.Purge vs s.machine) (sym one.1) ∙ (done_as role.Purge so refl).2)
          (taken_handle Block (with_purge_bit true) one.0 s.machine one.2)

  no_purge : it.routine.role ≡ role.NoPurge → ItActs
  no_purge so = on (no_purge_argument s (taken count here.stack) (done_as role.NoPurge so refl).0)
    where
      on : One s (with_purge_bit false) (taken count here.stack) → ItActs
      on one =
          with_bit role.NoPurge so false nothing (λ old new acts. subst (Left (BlockSince nothing) old) acts (no_purge_since old)) refl
          (λ m. absurd (true≢false (sym m))) (λ old new acts unmarks. unmarked_now old new acts) refl one
          (ap (λ vs. role_machine role.NoPurge vs s.machine) (sym one.1) ∙ (done_as role.NoPurge so refl).2)
          (taken_handle Block (with_purge_bit false) one.0 s.machine one.2)

  -- ---- HSetState that is no restore

  -- NIL, or the byte is put on the block of the handle
  abbrev IsPut : Type 0
  IsPut =
      ((a : Value) × (at_place first here.stack ≡ Some a) × (a ≡ pointer Nil) × (s.machine ≡ after))
      ⊎ PutOn program may sets impact E ends here ws choices its s good is_at.there deep p is it found prototype proto held v after ran

  put_so : it.routine.role ≡ role.SetState → IsPut
  put_so so = put_on program may sets impact E ends here ws choices its s good is_at.there deep p is it found prototype proto held v after ran so

  nil_acts : (a : Value) → at_place first here.stack ≡ Some a → a ≡ pointer Nil → s.machine ≡ after → ItActs
  nil_acts a there nil same =
      acts_nil whole known here s.machine after ws its is_at right still_lasting new_stack p is
      (ap (λ n. at_place n here.stack) base_is ∙ there ∙ ap (λ w. Some w) nil) same (λ none. lasts_same same)

  set_state : it.routine.role ≡ role.SetState → facts.restores ≡ false → ItActs
  set_state so other = by_put (put_so so)
    where
      by_put : IsPut → ItActs
      by_put (inl nil) = nil_acts nil.0 nil.1 nil.2 nil.3
      by_put (inr put) =
          acts_one whole known here s.machine after ws its is_at right still_lasting new_stack p is setting put.n put.before put.new
          (ap (λ n. at_place n here.stack) base_is ∙ put.handle) put.one
          (subst (Left (BlockSince setting) put.before) put.acts (state_since put.byte put.before)) refl
          (λ m. ap (marks_by facts.restores) (role_is role.SetState so) ∙ ap not other)
          (λ u. absurd (true≢false (sym u ∙ ap unmarks_by (role_is role.SetState so))))
          (λ none. absurd (true≢false (sym (ap (unlocks_by facts.restores) (role_is role.SetState so) ∙ ap not other) ∙ none)))

  -- ---- by the role

  -- A routine that is no restore acts so.
  pub acts : (sets_state (role_at kinds p) ≡ true → facts.restores ≡ false) → ItActs
  acts other = by_role it.routine.role refl
    where
      by_role : (r : Role) → it.routine.role ≡ r → ItActs
      by_role role.Purge so = purge so
      by_role role.NoPurge so = no_purge so
      by_role role.SetState so = set_state so (other (ap sets_state (role_is role.SetState so)))
      by_role role.Unlock so = quiet role.Unlock so refl refl refl (λ none. absurd (true≢false none))
      by_role role.Realloc so = quiet role.Realloc so refl refl refl (λ none. absurd (true≢false none))
      by_role role.GetSize so = quiet role.GetSize so refl refl refl (λ none. refl)
      by_role role.SetSize so = quiet role.SetSize so refl refl refl (λ none. refl)
      by_role role.Lock so = quiet role.Lock so refl refl refl (λ none. refl)
      by_role role.GetState so = quiet role.GetState so refl refl refl (λ none. refl)
      by_role role.Empty so = quiet role.Empty so refl refl refl (λ none. refl)
      by_role role.DisposeHandle so = quiet role.DisposeHandle so refl refl refl (λ none. refl)
      by_role role.NewHandle so = quiet role.NewHandle so refl refl refl (λ none. refl)
      by_role role.NewPtr so = quiet role.NewPtr so refl refl refl (λ none. refl)
      by_role role.DisposePtr so = quiet role.DisposePtr so refl refl refl (λ none. refl)
      by_role role.BlockMove so = quiet role.BlockMove so refl refl refl (λ none. refl)
      by_role role.Getchar so = quiet role.Getchar so refl refl refl (λ none. refl)
      by_role role.Putchar so = quiet role.Putchar so refl refl refl (λ none. refl)
      by_role role.Plain so = quiet role.Plain so refl refl refl (λ none. refl)

  -- ---- HSetState that is a restore

  -- the must facts before it, in the round from which they are true
  abbrev pub Before : MustFact → Type 0
  Before = HoldsIn (scope_of program here.function) here.function.code impact good.round here.at

  are : AllTrue Before here s.machine (since_of may sets here.fn ws)
  are = good.facts good.round (omega arith)

  module _ (put : PutOn program may sets impact E ends here ws choices its s good is_at.there deep p is it found prototype proto held v after ran)
      (read : IsRestore Before first (suc first)) where
    its_byte : ByteTrue Before here.lasting s.machine (on_stack (suc first)) put.byte (since_of may sets here.fn ws)
    its_byte = are.bytes (on_stack (suc first)) put.byte put.saved

    named : HoldsHandle s.machine read.0 put.n
    named = by_value (are.says (With first read.0) read.1)
      where
        by_value : (u : Value) × (at_place first here.stack ≡ Some u) × (value_of s.machine read.0 ≡ Some u) → HoldsHandle s.machine read.0 put.n
        by_value old = old.2 ∙ sym old.1 ∙ put.handle

    origin_is : its_byte.origin ≡ Some put.n
    origin_is = its_byte.read read.0 put.n read.2 named

    both_so : (a b : Bool) → a ≡ true → b ≡ true → (a && b) ≡ true
    both_so true b one other = other
    both_so false b one other = one

    old_same : (found : Option Block) → is_old found found ≡ true
    old_same None = refl
    old_same (Some b) = by_bit (is_present b.presence)
      where
        by_bit : (z : Bool) → (z || not z) ≡ true
        by_bit true = refl
        by_bit false = refl

    old_by : (a b : Bool) → (b ≡ true → a ≡ true) → (a || not b) ≡ true
    old_by true b each = refl
    old_by false true each = each refl
    old_by false false each = refl

    loose_of : (z : Bool) → not z ≡ true → z ≡ false
    loose_of true so = sym so
    loose_of false so = refl

    -- what lasted is locked by the byte
    of_change : ((put.new ≡ record put.before { locked = nat_le 128 put.byte; purgeable = nat_le 64 (put.byte % 128) })
        × (put.before.presence ≡ presence.Present))
        ⊎ ((put.new ≡ put.before) × (put.before.presence ≡ presence.Emptied)) → here.lasting put.n ≡ true → is_loose put.before ≡ false
        → (is_loose put.new ≡ false) × (is_present put.new.presence ≡ true → is_present put.before.presence ≡ true)
    of_change (inl so) lasted fixed = (
      ap is_loose so.0
          ∙ and_right (is_present put.before.presence) (not (nat_le 128 put.byte))
          (not_from_true (nat_le 128 put.byte) (its_byte.lasts put.n put.before origin_is lasted put.one.there (ap is_present so.1))),
      λ now. ap is_present so.1,
    )
    of_change (inr so) lasted fixed = (ap is_loose so.0 ∙ fixed, λ now. ap (λ (b : Block). is_present b.presence) (sym so.0) ∙ now)

    put_steady : here.lasting put.n ≡ true → steady_in s.machine after put.n ≡ true
    put_steady lasted =
        on (of_change (changed_is (λ b. record b { locked = nat_le 128 put.byte; purgeable = nat_le 64 (put.byte % 128) }) put.before put.new put.acts) lasted
        (loose_of (is_loose put.before) (ap is_fixed (sym put.one.there) ∙ good.lasts put.n lasted)))
      where
        on : (is_loose put.new ≡ false) × (is_present put.new.presence ≡ true → is_present put.before.presence ≡ true)
            → steady_in s.machine after put.n ≡ true
        on so =
            both_so (fixed_in after put.n) (is_old (block_at s.machine.blocks put.n) (block_at after.blocks put.n)) (ap is_fixed put.one.now ∙ ap not so.0)
            (ap (λ b. is_old b (block_at after.blocks put.n)) put.one.there ∙ ap (is_old (Some put.before)) put.one.now
            ∙ old_by (is_present put.before.presence) (is_present put.new.presence) so.1)

    other_steady : (k : ℕ) → (k ≡ put.n → ⊥) → here.lasting k ≡ true → steady_in s.machine after k ≡ true
    other_steady k other lasted =
        both_so (fixed_in after k) (is_old (block_at s.machine.blocks k) (block_at after.blocks k)) (ap is_fixed (put.one.others k other) ∙ good.lasts k lasted)
        (ap (is_old (block_at s.machine.blocks k)) (put.one.others k other) ∙ old_same (block_at s.machine.blocks k))

    put_lasts : (k : ℕ) → here.lasting k ≡ true → still_lasting k ≡ true
    put_lasts k lasted = ap (λ z. z && steady_in s.machine after k) lasted ∙ by_test (k == put.n) refl
      where
        are_one : (a b : ℕ) → (a == b) ≡ true → a ≡ b
        are_one a b so = grind (so, nat_tests, arith)

        are_apart : (a b : ℕ) → (a == b) ≡ false → a ≡ b → ⊥
        are_apart a b so same = absurd (grind (so, same, nat_tests, arith))

        by_test : (z : Bool) → (k == put.n) ≡ z → steady_in s.machine after k ≡ true
        by_test true so =
            subst (λ j. steady_in s.machine after j ≡ true) (sym (are_one k put.n so))
            (put_steady (subst (λ j. here.lasting j ≡ true) (are_one k put.n so) lasted))
        by_test false so = other_steady k (are_apart k put.n so) lasted

  module _ (given : IsGiven whole here.fn here.at (known.at here.fn here.at)) where
    -- it is a restore of the machine
    abbrev pub ItRestores : Type 0
    ItRestores = Restores whole known here s.machine after ws its is_at right still_lasting new_stack p is given deep

    -- A routine that is a restore: of NIL nothing is done, and else the byte is put on the block of the handle.
    pub restores : sets_state (role_at kinds p) ≡ true → facts.restores ≡ true
        → IsRestore Before (its.places - taken_by (scope_of program here.function) (op.Routine p))
        (suc (its.places - taken_by (scope_of program here.function) (op.Routine p))) → ItActs ⊎ ItRestores
    restores sets_one put_back read = by_role it.routine.role refl
      where
        first_now : its.places - taken_by (scope_of program here.function) (op.Routine p) ≡ first
        first_now = first_is program may sets impact E ends here ws choices its s good is_at.there deep p is it found prototype proto held

        by_put : IsPut → ItActs ⊎ ItRestores
        by_put (inl nil) = inl (nil_acts nil.0 nil.1 nil.2 nil.3)
        by_put (inr put) =
            inr (record {
              sets = sets_one;
              restores = put_back;
              n = put.n;
              byte = put.byte;
              old = put.before;
              new = put.new;
              handle = ap (λ n. at_place n here.stack) base_is ∙ put.handle;
              put = ap (λ n. at_place (suc n) here.stack) base_is ∙ put.saved;
              one = put.one;
              acts = put.acts;
              lasts = put_lasts put (subst (λ n. IsRestore Before n (suc n)) first_now read);
            })

        by_role : (r : Role) → it.routine.role ≡ r → ItActs ⊎ ItRestores
        by_role role.SetState so = by_put (put_so so)
        by_role other so = absurd (true≢false (sym sets_one ∙ ap sets_state (role_is other so)))

  -- ---- HGetState

  low_bit : (l q : Bool) → nat_le 64 ((bit 128 l + bit 64 q) % 128) ≡ true → q ≡ true
  low_bit l true so = refl
  low_bit true false so = so
  low_bit false false so = so

  as_state : (kind : Option Integer) (byte : ℕ) → as_kind kind (state byte) ≡ state byte
  as_state None byte = refl
  as_state (Some kind) byte = refl

  same_state : (a b : ℕ) → ◌≡◌ {A = Value} (state a) (state b) → a ≡ b
  same_state a b so = cc

  same_answer : (a b : ℕ) → ◌≡◌ {A = Result ℕ HeapStop} (Ok a) (Ok b) → a ≡ b
  same_answer a b so = cc

  no_bit : has_mark 0 ≡ true → ⊥
  no_bit so = cc

  -- a block whose state has the purgeable bit
  marked_state : (block : Block) (byte : ℕ) → state_of block ≡ Ok byte → has_mark byte ≡ true → is_marked block ≡ true
  marked_state block byte answers marked = by_presence block.presence refl answers
    where
      by_presence : (it : Presence) → block.presence ≡ it → by_standing (bit 128 block.locked + bit 64 block.purgeable) 0 (standing it) ≡ Ok byte
          → is_marked block ≡ true
      by_presence presence.Present so answer =
          ap (λ z. z && block.purgeable) (ap is_present so)
          ∙ low_bit block.locked block.purgeable
          (ap has_mark (same_answer (bit 128 block.locked + bit 64 block.purgeable) byte answer) ∙ marked)
      by_presence presence.Emptied so answer = absurd (no_bit (ap has_mark (same_answer 0 byte answer) ∙ marked))
      by_presence presence.Purged so answer = absurd cc
      by_presence presence.Disposed so answer = absurd cc

  -- A byte with the purgeable bit is of a handle of a purgeable block.
  pub reads : it.routine.role ≡ role.GetState → (byte : ℕ) → v ≡ state byte → has_mark byte ≡ true
      → (n : ℕ) × (at_place (its.places - taken_by kinds (op.Routine p)) here.stack ≡ Some (pointer (Handle n)))
      × ((block : Block) → block_at s.machine.blocks n ≡ Some block → is_marked block ≡ true)
  reads so byte is_byte marked = on (get_state_argument s (taken count here.stack) (done_as role.GetState so refl).0)
    where
      first_now : its.places - taken_by kinds (op.Routine p) ≡ first
      first_now = first_is program may sets impact E ends here ws choices its s good is_at.there deep p is it found prototype proto held

      on : One s state_of (taken count here.stack)
          → (n : ℕ) × (at_place (its.places - taken_by kinds (op.Routine p)) here.stack ≡ Some (pointer (Handle n)))
          × ((block : Block) → block_at s.machine.blocks n ≡ Some block → is_marked block ≡ true)
      on one = by_taken (taken_handle ℕ state_of one.0 s.machine one.2)
        where
          answer_is : answer_by state_of (pointer_in one.0) s.machine ≡ byte
          answer_is =
              same_state (answer_by state_of (pointer_in one.0) s.machine) byte
              (sym (as_state (number_kind program.setting.types prototype.result) (answer_by state_of (pointer_in one.0) s.machine))
              ∙ ap (λ vs. as_kind (number_kind program.setting.types prototype.result) (role_value role.GetState vs s.machine)) (sym one.1)
              ∙ (done_as role.GetState so refl).1 ∙ is_byte)

          by_taken : (one.0 ≡ pointer Nil) ⊎ Taken ℕ state_of one.0 s.machine
              → (n : ℕ) × (at_place (its.places - taken_by kinds (op.Routine p)) here.stack ≡ Some (pointer (Handle n)))
              × ((block : Block) → block_at s.machine.blocks n ≡ Some block → is_marked block ≡ true)
          by_taken (inl nil) =
              absurd (no_bit (ap has_mark (ap (λ a. answer_by state_of (pointer_in a) s.machine) (sym nil) ∙ answer_is) ∙ marked))
          by_taken (inr t) = (
            t.n,
            ap (λ n. at_place n here.stack) first_now ∙ one_taken count here.stack one.0 held one.1 ∙ ap (λ a. Some a) t.handle,
            λ block there.
                subst (λ b. is_marked b ≡ true) (same_Some t.before block (sym t.there ∙ there))
                (marked_state t.before t.new t.acts (ap has_mark new_is ∙ marked)),
          )
            where
              new_is : t.new ≡ byte
              new_is =
                  ap answer_in (sym t.acts) ∙ ap (answer_of_block state_of) (sym t.there)
                  ∙ ap (λ a. answer_by state_of (pointer_in a) s.machine) (sym t.handle) ∙ answer_is
