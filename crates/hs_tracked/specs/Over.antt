-- What a call leaves of the values of its caller: those that go over the call (own).
--     does callee        what the function may do, as effects on blocks
--     over_value         the rows `over_stays`; `over_fresh`, `over_fresh_stale`; `over_holds`, `over_unlocks`, `over_held_stale`; `over_outer_stale`,
--                        `over_loose_stale`; `over_marks`, `over_marks_purges`, `over_purges`
use Rattle.std.proofs.Common.{◌≡◌, ◌<◌, ◌⊎◌, inl, inr, ℕ, zero, suc, Bool, true, false, not, ◌&&◌, List, [], ◌∷◌, length, slice_get, Some, refl, sym, ap, ◌∙◌}
use Rattle.std.proofs.lemmas.Bool.{and_parts}
use Rattle.std.proofs.lemmas.Option.{none-some}
use Rattle.hs_calls.specs.Calls.{Here, Wait, resumed, fixed_in}
use Rattle.hs_chains.specs.Chains.{Spot as Mark, goes_over as chain_over}
use Rattle.hs_chains.specs.Knowledge.{Knowledge}
use Rattle.hs_code.specs.declared.function_code.Placed.{Placed}
use Rattle.hs_code.specs.declared.op.Op.TheVariants as op
use Rattle.hs_facts.specs.Effects.{WholeCode, ops_in}
use Rattle.hs_flow.specs.Among.{Among}
use Rattle.hs_flow.specs.Calls.{Callee, assigned, assigned_in, assigns_name, fresh_or_loose, goes_over, is_kept, is_slot_kept, over_of}
use Rattle.hs_flow.specs.Given.{Given, is_name_locked}
use Rattle.hs_flow.specs.Laws.Calling as rows
use Rattle.hs_flow.specs.Next.{at_slot}
use Rattle.hs_flow.specs.declared.fact.FactStatus.{FactStatus}
use Rattle.hs_flow.specs.declared.fact.FactStatus.TheVariants as status
use Rattle.hs_flow.specs.declared.fact.Slot as flow_slot
use Rattle.hs_flow.specs.declared.fact.Slot.TheVariants as slot
use Rattle.hs_heap.specs.Blocks.{Block}
use Rattle.hs_heap.specs.Memory.{block_at}
use Rattle.hs_heap.specs.declared.cell.Pointer.TheVariants.{Handle}
use Rattle.hs_hiding.specs.Holding.{value_of}
use Rattle.hs_meaning.specs.Machine.{Machine}
use Rattle.hs_meaning.specs.Values.{Value, pointer}
use Rattle.hs_must.specs.Answers.{names_in}
use Rattle.hs_sound_heap.specs.Since.{May, Since, IsThere, is_marked, is_purged}
use Rattle.hs_tracked.specs.Going.{IsAt}
use Rattle.hs_tracked.specs.Passing.{Brings, Passes, PointersPass, HandleStays, StaysCurrent, ClassesPass, goes_on, pass_value, fresh_backed, loose_backed}
use Rattle.hs_tracked.specs.Right.{AreRight, IsIn, named_fixed, locked_fixed, fixed_block}
use Rattle.hs_tracked.specs.Tracking.{Means, NameHolds, MeansHere, Backed, HasChain, Tracked}
use Rattle.hs_tree.specs.declared.head.Variable.{Variable}

-- what the function may do to blocks; of disposing nothing is asked
abbrev pub does : Callee → May
does callee = record { moves = callee.moves; purges = callee.purges; unlocks = callee.unlocks; marks = callee.marks; disposes = true }

-- what is held owes its callers what an outer pointer owes
pub outer_backed : (whole : WholeCode) (calls : List Mark) (ws : List Wait) (n : ℕ) → Backed whole status.Held calls ws n
    → Backed whole status.Outer calls ws n
outer_backed whole [] ws n backed = tt
outer_backed whole (c ∷ calls) [] n backed = tt
outer_backed whole (c ∷ calls) (w ∷ ws) n backed = backed

-- what is fresh in the caller, or loose if the function may assign the name
module _ (whole : WholeCode) (known : Knowledge) (callee : Callee) (w : Wait) (ws : List Wait)
    (names : (known.at w.here.fn w.here.at).names ≡ names_in whole w.here.fn) (after : Machine)
    (values : (x : Variable) → assigned callee x ≡ false → value_of after x ≡ value_of w.machine x) where
  -- the name still has the handle, unless the function may assign it
  means_by : (h n : ℕ) (lasting : ℕ → Bool) (z : Bool) → assigns_name callee (known.at w.here.fn w.here.at) h ≡ z
      → NameHolds (names_in whole w.here.fn) w.machine h n → Means (fresh_or_loose z h) (names_in whole w.here.fn) lasting after n
  means_by h n lasting true assigns holds = tt
  means_by h n lasting false assigns holds =
      (holds.0, holds.1, values holds.0 (sym (ap (assigned_in callee) (ap (λ its. slice_get its h) names ∙ holds.1)) ∙ assigns) ∙ holds.2)

  pub means_named : (h n : ℕ) (lasting : ℕ → Bool) → NameHolds (names_in whole w.here.fn) w.machine h n
      → Means (fresh_or_loose (assigns_name callee (known.at w.here.fn w.here.at) h) h) (names_in whole w.here.fn) lasting after n
  means_named h n lasting holds = means_by h n lasting (assigns_name callee (known.at w.here.fn w.here.at) h) refl holds

  backed_by : (h n : ℕ) (z : Bool) (inside : List Mark) → Backed whole (fresh_or_loose z h) inside ws n
  backed_by h n true inside = loose_backed whole inside ws n
  backed_by h n false inside = fresh_backed whole h inside ws n

  pub backed_named : (h n : ℕ) (inside : List Mark)
      → Backed whole (fresh_or_loose (assigns_name callee (known.at w.here.fn w.here.at) h) h) inside ws n
  backed_named h n inside = backed_by h n (assigns_name callee (known.at w.here.fn w.here.at) h) inside

module _ (whole : WholeCode) (known : Knowledge) (w : Wait) (ws : List Wait) (after : Machine) (value : Value) (lasting : ℕ → Bool) (its : Placed)
    (is_at : IsAt whole known w.here its) (calls : its.op ≡ op.Call w.called) (of_function : w.called < length whole.functions)
    (right : AreRight whole known w.here w.machine) (since : Since (does (known.of w.called)) w.machine.blocks after.blocks)
    (through : (known.of w.called).unlocks ≡ false → (n : ℕ) → fixed_in w.machine n ≡ true → lasting n ≡ true)
    (values : (x : Variable) → assigned (known.of w.called) x ≡ false → value_of after x ≡ value_of w.machine x) where
  -- what is known at the call
  abbrev facts : Given
  facts = known.at w.here.fn w.here.at

  -- and of the function
  abbrev callee : Callee
  callee = known.of w.called

  -- the call of the caller goes on
  abbrev pub next : Here
  next = resumed w value lasting

  there_after : (n : ℕ) (block : Block) → block_at w.machine.blocks n ≡ Some block → IsThere (does callee) block (block_at after.blocks n)
  there_after zero block there = absurd (none-some block there)
  there_after (suc i) block there = since i block there

  -- a fact that goes over the call carries each chain on
  pub leads_over : (of : flow_slot.Slot) (old new : FactStatus) → Among (over_of callee facts (at_slot old of)) (at_slot new of)
      → Brings whole known w.here next w.machine after ws of of old new
  leads_over of old new has n inside chain =
      chain_over n _ _ inside chain
      (record {
        callee = w.called;
        call = record {
          its = its;
          there = ap (λ code. slice_get (ops_in code) w.here.at) is_at.found ∙ is_at.there;
          calls = calls;
          of_function = of_function;
        };
        next = refl;
        same = refl;
        has = has;
      })

  module _ (of : flow_slot.Slot) (goes : goes_over callee facts of ≡ true) where
    -- ---- pointers

    -- the block is where it was, and purged only if it was
    abbrev IsStill : ℕ → Block → Type 0
    IsStill n block = (new : Block) × (block_at after.blocks n ≡ Some new) × (new.epoch ≡ block.epoch)
        × (is_purged new.presence ≡ true → is_purged block.presence ≡ true)

    -- no block moves
    unmoved : (n : ℕ) (block : Block) → block_at w.machine.blocks n ≡ Some block → callee.moves ≡ false → IsStill n block
    unmoved n block there none = by_there (there_after n block there)
      where
        by_there : IsThere (does callee) block (block_at after.blocks n) → IsStill n block
        by_there new = (new.block, new.there, new.since.epoch none, new.since.unpurged none)

    -- the block could not move, and nothing is unlocked
    fixed : (n : ℕ) (block : Block) → block_at w.machine.blocks n ≡ Some block → callee.unlocks ≡ false → fixed_in w.machine n ≡ true
        → IsStill n block
    fixed n block there none is = by_there (there_after n block there)
      where
        by_there : IsThere (does callee) block (block_at after.blocks n) → IsStill n block
        by_there new =
            let kept = new.since.fixed none (fixed_block w.machine n block there is) in
            (new.block, new.there, kept.1, kept.2)

    -- so the pointer stays current, with a status that is true of it and is brought
    stays : (old new : FactStatus) (n : ℕ) (block : Block) → IsStill n block → Among (over_of callee facts (at_slot old of)) (at_slot new of)
        → MeansHere whole new next after n → ((inside : List Mark) → Backed whole old inside ws n → Backed whole new inside ws n)
        → Brings whole known w.here next w.machine after ws of of old status.Stale
        ⊎ StaysCurrent whole known w.here next w.machine after ws of of old n block
    stays old new n block still has means backed =
        inr (record {
          block = still.0;
          there = still.1;
          epoch = still.2;
          alive = still.3;
          status = new;
          brings = leads_over of old new has;
          means = means;
          backed = backed;
        })

    stales : (old : FactStatus) (n : ℕ) (block : Block) → Among (over_of callee facts (at_slot old of)) (at_slot status.Stale of)
        → Brings whole known w.here next w.machine after ws of of old status.Stale
        ⊎ StaysCurrent whole known w.here next w.machine after ws of of old n block
    stales old n block has = inl (leads_over of old status.Stale has)

    by_name : (h n : ℕ) (block : Block) → block_at w.machine.blocks n ≡ Some block → NameHolds (names_in whole w.here.fn) w.machine h n
        → (moves unlocks lock : Bool) → callee.moves ≡ moves → callee.unlocks ≡ unlocks → facts.locked h ≡ lock
        → Brings whole known w.here next w.machine after ws of of (status.Fresh h) status.Stale
        ⊎ StaysCurrent whole known w.here next w.machine after ws of of (status.Fresh h) n block
    by_name h n block there holds moves unlocks lock may_move may_unlock is_locked = by_bits moves unlocks lock may_move may_unlock is_locked
      where
        still : IsStill n block → Brings whole known w.here next w.machine after ws of of (status.Fresh h) status.Stale
            ⊎ StaysCurrent whole known w.here next w.machine after ws of of (status.Fresh h) n block
        still is =
            stays (status.Fresh h) (fresh_or_loose (assigns_name callee facts h) h) n block is (rows.over_fresh callee facts of goes h)
            (means_named whole known callee w ws is_at.names after values h n next.lasting holds)
            (λ inside backed. backed_named whole known callee w ws is_at.names after values h n inside)

        stale : callee.moves ≡ true → is_kept callee facts h ≡ false
            → Brings whole known w.here next w.machine after ws of of (status.Fresh h) status.Stale
            ⊎ StaysCurrent whole known w.here next w.machine after ws of of (status.Fresh h) n block
        stale move unkept = stales (status.Fresh h) n block (rows.over_fresh_stale callee facts of goes h move unkept)

        by_bits : (moves unlocks lock : Bool) → callee.moves ≡ moves → callee.unlocks ≡ unlocks → facts.locked h ≡ lock
            → Brings whole known w.here next w.machine after ws of of (status.Fresh h) status.Stale
            ⊎ StaysCurrent whole known w.here next w.machine after ws of of (status.Fresh h) n block
        by_bits false unlocks lock move unlock is = still (unmoved n block there move)
        by_bits true true lock move unlock is = stale move (ap (λ b. not b && facts.locked h) unlock)
        by_bits true false false move unlock is = stale move (ap (λ b. not b && facts.locked h) unlock ∙ is)
        by_bits true false true move unlock is =
            still (fixed n block there unlock (named_fixed whole known w.here w.machine right h n is holds))

    by_held : (n : ℕ) (block : Block) → block_at w.machine.blocks n ≡ Some block → w.here.lasting n ≡ true → (moves unlocks : Bool)
        → callee.moves ≡ moves → callee.unlocks ≡ unlocks
        → Brings whole known w.here next w.machine after ws of of status.Held status.Stale
        ⊎ StaysCurrent whole known w.here next w.machine after ws of of status.Held n block
    by_held n block there lasted moves false move unlock =
        stays status.Held status.Held n block (fixed n block there unlock (right.lasts n lasted)) (rows.over_holds callee facts of goes unlock)
        (ap (λ b. b && lasting n) lasted ∙ through unlock n (right.lasts n lasted)) (λ inside backed. backed)
    by_held n block there lasted true true move unlock =
        stales status.Held n block (rows.over_held_stale callee facts of goes move unlock)
    by_held n block there lasted false true move unlock =
        stays status.Held status.Outer n block (unmoved n block there move) (rows.over_unlocks callee facts of goes unlock) tt
        (λ inside backed. outer_backed whole inside ws n backed)

    by_outer : (n : ℕ) (block : Block) → block_at w.machine.blocks n ≡ Some block → (moves : Bool) → callee.moves ≡ moves
        → Brings whole known w.here next w.machine after ws of of status.Outer status.Stale
        ⊎ StaysCurrent whole known w.here next w.machine after ws of of status.Outer n block
    by_outer n block there true move = stales status.Outer n block (rows.over_outer_stale callee facts of goes move)
    by_outer n block there false move =
        stays status.Outer status.Outer n block (unmoved n block there move) (rows.over_stays callee facts of goes status.Outer tt) tt
        (λ inside backed. backed)

    by_loose : (n : ℕ) (block : Block) → block_at w.machine.blocks n ≡ Some block → (moves : Bool) → callee.moves ≡ moves
        → Brings whole known w.here next w.machine after ws of of status.Loose status.Stale
        ⊎ StaysCurrent whole known w.here next w.machine after ws of of status.Loose n block
    by_loose n block there true move = stales status.Loose n block (rows.over_loose_stale callee facts of goes move)
    by_loose n block there false move =
        stays status.Loose status.Loose n block (unmoved n block there move) (rows.over_stays callee facts of goes status.Loose tt) tt
        (λ inside backed. backed)

    by_status : (old : FactStatus) (n : ℕ) (block : Block) → block_at w.machine.blocks n ≡ Some block → MeansHere whole old w.here w.machine n
        → Brings whole known w.here next w.machine after ws of of old status.Stale
        ⊎ StaysCurrent whole known w.here next w.machine after ws of of old n block
    by_status (status.Fresh h) n block there means = by_name h n block there means callee.moves callee.unlocks (facts.locked h) refl refl refl
    by_status status.Held n block there means = by_held n block there means callee.moves callee.unlocks refl refl
    by_status status.Outer n block there means = by_outer n block there callee.moves refl
    by_status status.Loose n block there means = by_loose n block there callee.moves refl
    by_status other n block there means = absurd means

    lasts : (old : FactStatus) → rows.Lasts callee facts of goes old → Brings whole known w.here next w.machine after ws of of old old
    lasts old is = leads_over of old old (rows.over_stays callee facts of goes old is)

    pointers : PointersPass whole known w.here next w.machine after ws of of
    pointers = record { stale = lasts status.Stale tt; current = by_status }

    -- ---- handles

    module _ (v : Value) (has : IsIn w.here w.machine of v) (n : ℕ) (handle : v ≡ pointer (Handle n)) (block : Block)
        (there : block_at w.machine.blocks n ≡ Some block) (new : IsThere (does callee) block (block_at after.blocks n)) where
      -- a chain brings Hollow
      abbrev Gone : Type 0
      Gone =
          Brings whole known w.here next w.machine after ws of of status.IsHandle status.Hollow
          ⊎ ((is_marked block ≡ true) × Brings whole known w.here next w.machine after ws of of status.Purgeable status.Hollow)
          ⊎ ((is_purged block.presence ≡ true) × Brings whole known w.here next w.machine after ws of of status.Hollow status.Hollow)

      -- locked all the time: so it was purged already
      was_gone : is_purged new.block.presence ≡ true → (not callee.unlocks && is_name_locked facts of) ≡ true → Gone
      was_gone gone kept =
          let both = and_parts (not callee.unlocks) (is_name_locked facts of) kept in
          inr (inr (
            (new.since.fixed (not_so callee.unlocks both.0)
                (fixed_block w.machine n block there (locked_fixed whole known w.here w.machine right is_at.names v n handle of has both.1))).2 gone,
            lasts status.Hollow tt,
          ))
        where
          not_so : (z : Bool) → not z ≡ true → z ≡ false
          not_so true is = sym is
          not_so false is = refl

      gone_by : is_purged new.block.presence ≡ true → (kept : Bool) → is_slot_kept callee facts of ≡ kept
          → (is_purged block.presence ≡ true) ⊎ ((callee.purges ≡ true) × ((is_marked block ≡ true) ⊎ (callee.marks ≡ true))) → Gone
      gone_by gone kept is (inl old) = inr (inr (old, lasts status.Hollow tt))
      gone_by gone true is (inr both) = was_gone gone is
      gone_by gone false is (inr (purges, inl marked)) =
          inr (inl (marked, leads_over of status.Purgeable status.Hollow (rows.over_purges callee facts of goes purges is)))
      gone_by gone false is (inr (purges, inr marks)) =
          inl (leads_over of status.IsHandle status.Hollow (rows.over_marks_purges callee facts of goes marks purges is))

      marked_by : is_marked new.block ≡ true → (z : Bool) → callee.marks ≡ z
          → Brings whole known w.here next w.machine after ws of of status.IsHandle status.Purgeable
          ⊎ ((is_marked block ≡ true) × Brings whole known w.here next w.machine after ws of of status.Purgeable status.Purgeable)
          ⊎ HasChain whole known next ws of status.Purgeable
      marked_by marked true marks = inl (leads_over of status.IsHandle status.Purgeable (rows.over_marks callee facts of goes marks))
      marked_by marked false marks = inr (inl (new.since.purgeable marks marked, lasts status.Purgeable tt))

      handle_stays : HandleStays whole known w.here next w.machine after ws of of n block
      handle_stays =
          record {
            block = new.block;
            there = new.there;
            marked = λ so. marked_by so callee.marks refl;
            gone = λ so. gone_by so (is_slot_kept callee facts of) refl (new.since.purged so);
          }

    passes : (v : Value) → IsIn w.here w.machine of v → Passes whole known w.here next w.machine after ws of of v
    passes v has =
        record {
          pointers = pointers;
          handle = λ n handle.
              record {
                is = lasts status.IsHandle tt;
                stays = λ block there. handle_stays v has n handle block there (there_after n block there);
              };
        }

  classes : ClassesPass whole known w.here next w.machine after ws
  classes class v = passes (slot.Class class) refl v tt

  -- A value that goes over the call.
  pub over_value : (of : flow_slot.Slot) → goes_over callee facts of ≡ true → (v : Value) → IsIn w.here w.machine of v
      → Tracked whole known w.here w.machine ws of v → Tracked whole known next after ws of v
  over_value of goes v has are = pass_value whole known w.here next w.machine after ws classes of of v (passes of goes v has) are

  -- Control comes back.
  pub over_reached : HasChain whole known w.here ws slot.Nothing status.Reached → HasChain whole known next ws slot.Nothing status.Reached
  over_reached has =
      goes_on whole known w.here next w.machine after ws slot.Nothing slot.Nothing status.Reached status.Reached
      (lasts slot.Nothing refl status.Reached tt) has
