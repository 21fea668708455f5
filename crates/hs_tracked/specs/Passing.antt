-- How an operation keeps values tracked: one record of what it keeps of a slot, and the law that a value then stays tracked (own).
--     same_spot, fresh_backed, loose_backed      what is known of a pointer
--     Leads                       each chain with the one fact goes on with the other fact
--     PointersPass, HandlePasses  what an operation keeps of pointers and of a handle that it leaves in a slot
--     Passes of to v              of a value
--     pass_value, pass_places, ..      the law
--     IsQuiet stay, quiet_passes  an operation that moves and marks nothing: each status stays as `stay` says
use Rattle.std.proofs.Common.{◌≡◌, ◌⊎◌, inl, inr, ℕ, suc, Bool, true, false, List, [], ◌∷◌, length, Option, Some, refl, sym, ap, ◌∙◌, subst}
use Rattle.std.specs.List.{AllByRecursion}
use Rattle.hs_calls.specs.Calls.{Here, Wait}
use Rattle.hs_chains.specs.Chains.{Chain, Spot as Mark}
use Rattle.hs_chains.specs.Knowledge.{Knowledge}
use Rattle.hs_facts.specs.Effects.{WholeCode}
use Rattle.hs_flow.specs.Next.{at_slot}
use Rattle.hs_flow.specs.declared.fact.Fact.{Fact}
use Rattle.hs_flow.specs.declared.fact.FactStatus.{FactStatus}
use Rattle.hs_flow.specs.declared.fact.FactStatus.TheVariants as status
use Rattle.hs_flow.specs.declared.fact.Slot as flow_slot
use Rattle.hs_flow.specs.declared.fact.Slot.TheVariants as slot
use Rattle.hs_heap.specs.Blocks.{Block}
use Rattle.hs_heap.specs.Memory.{block_at}
use Rattle.hs_heap.specs.declared.cell.Cell.{Cell}
use Rattle.hs_heap.specs.declared.cell.Cell.TheVariants.{Undefined, Byte, State, Part}
use Rattle.hs_heap.specs.declared.cell.Pointer.{Pointer}
use Rattle.hs_heap.specs.declared.cell.Pointer.TheVariants.{Nil, Fixed, Handle, Spot}
use Rattle.hs_heap.specs.declared.cell.Spot as spot
use Rattle.hs_meaning.specs.Machine.{Machine, Object}
use Rattle.hs_meaning.specs.Values.{Value, number, pointer, state, structure}
use Rattle.hs_sound_heap.specs.Since.{is_marked, is_purged}
use Rattle.hs_tracked.specs.Cells.{each_block, each_object}
use Rattle.hs_tracked.specs.Tracking.{mark_of, MeansHere, Backed, HasChain, Current, TrackedSpot, TrackedHandle, TrackedPointer, TrackedCell, TrackedCells, Tracked, TrackedPlaces}

-- ---- pointers and statuses

-- what is known of a pointer depends on its block and its epoch alone
pub same_spot : (whole : WholeCode) (known : Knowledge) (here : Here) (machine : Machine) (ws : List Wait) (of : flow_slot.Slot) (a b : spot.Spot)
    → a.block ≡ b.block → a.epoch ≡ b.epoch → TrackedSpot whole known here machine ws of a → TrackedSpot whole known here machine ws of b
same_spot whole known here machine ws of a b one_block one_epoch (inl stale) = inl stale
same_spot whole known here machine ws of a b one_block one_epoch (inr c) =
    inr (record {
      block = c.block;
      there = ap (block_at machine.blocks) (sym one_block) ∙ c.there;
      current = sym one_epoch ∙ c.current;
      alive = c.alive;
      status = c.status;
      has = c.has;
      means = subst (MeansHere whole c.status here machine) one_block c.means;
      backed = subst (Backed whole c.status c.has.calls ws) one_block c.backed;
    })

-- what is fresh owes its callers nothing
pub fresh_backed : (whole : WholeCode) (h : ℕ) (calls : List Mark) (ws : List Wait) (n : ℕ) → Backed whole (status.Fresh h) calls ws n
fresh_backed whole h [] ws n = tt
fresh_backed whole h (c ∷ calls) [] n = tt
fresh_backed whole h (c ∷ calls) (w ∷ ws) n = tt

-- nor what is loose
pub loose_backed : (whole : WholeCode) (calls : List Mark) (ws : List Wait) (n : ℕ) → Backed whole status.Loose calls ws n
loose_backed whole [] ws n = tt
loose_backed whole (c ∷ calls) [] n = tt
loose_backed whole (c ∷ calls) (w ∷ ws) n = tt

module _ (whole : WholeCode) (known : Knowledge) (here next : Here) (machine after : Machine) (ws : List Wait) where
  -- ---- what is kept

  -- each chain with the one fact goes on with the other, inside the same calls
  abbrev pub Leads : Fact → Fact → Type 0
  Leads from to = (n : ℕ) (calls : List Mark) → Chain whole known n (mark_of here from) calls → Chain whole known (suc n) (mark_of next to) calls

  module _ (of to : flow_slot.Slot) where
    -- from a status in the one slot to a status in the other
    abbrev pub Brings : FactStatus → FactStatus → Type 0
    Brings its new = Leads (at_slot its of) (at_slot new to)

    -- the pointer is still current, and its status is another or the same
    pub record StaysCurrent (its : FactStatus) (n : ℕ) (old : Block) : Type 0 where
      pub block : Block
      pub there : block_at after.blocks n ≡ Some block
      pub epoch : block.epoch ≡ old.epoch
      pub alive : is_purged block.presence ≡ true → is_purged old.presence ≡ true
      pub status : FactStatus
      pub brings : Brings its status
      pub means : MeansHere whole status next after n
      pub backed : (calls : List Mark) → Backed whole its calls ws n → Backed whole status calls ws n

    -- a stale pointer stays so; a current one becomes stale, or stays current
    pub record PointersPass : Type 0 where
      pub stale : Brings status.Stale status.Stale
      pub current : (its : FactStatus) (n : ℕ) (block : Block) → block_at machine.blocks n ≡ Some block → MeansHere whole its here machine n
          → Brings its status.Stale ⊎ StaysCurrent its n block

    -- The block of a handle is marked, or purged, only if a chain says so: one that goes on from a fact of the slot, or, of a block that is marked, another
    -- one.
    pub record HandleStays (n : ℕ) (old : Block) : Type 0 where
      pub block : Block
      pub there : block_at after.blocks n ≡ Some block
      pub marked : is_marked block ≡ true
          → Brings status.IsHandle status.Purgeable ⊎ ((is_marked old ≡ true) × Brings status.Purgeable status.Purgeable)
          ⊎ HasChain whole known next ws to status.Purgeable
      pub gone : is_purged block.presence ≡ true
          → Brings status.IsHandle status.Hollow ⊎ ((is_marked old ≡ true) × Brings status.Purgeable status.Hollow)
          ⊎ ((is_purged old.presence ≡ true) × Brings status.Hollow status.Hollow)

    -- a handle of the block
    pub record HandlePasses (n : ℕ) : Type 0 where
      pub is : Brings status.IsHandle status.IsHandle
      pub stays : (block : Block) → block_at machine.blocks n ≡ Some block → HandleStays n block

    -- a value: pointers, and the handle that it is
    pub record Passes (v : Value) : Type 0 where
      pub pointers : PointersPass
      pub handle : (n : ℕ) → v ≡ pointer (Handle n) → HandlePasses n

  -- the pointers of each class
  abbrev pub ClassesPass : Type 0
  ClassesPass = (class : ℕ) (v : Value) → Passes (slot.Class class) (slot.Class class) v

  -- ---- the law

  -- a chain goes on so
  abbrev pub goes_on : (of to : flow_slot.Slot) (its new : FactStatus) → Brings of to its new → HasChain whole known here ws of its
      → HasChain whole known next ws to new
  goes_on of to its new brings has =
      record { length = suc has.length; calls = has.calls; chain = brings has.length has.calls has.chain; same = has.same }

  module _ (of to : flow_slot.Slot) where
    not_gone : (a b : Bool) → (a ≡ true → b ≡ true) → b ≡ false → a ≡ false
    not_gone true b so is = absurd (cc (so refl))
    not_gone false b so is = refl

    pass_current : (its : spot.Spot) (c : Current whole known here machine ws of its)
        → Brings of to c.status status.Stale ⊎ StaysCurrent of to c.status its.block c.block → TrackedSpot whole known next after ws to its
    pass_current its c (inl brings) = inl (goes_on of to c.status status.Stale brings c.has)
    pass_current its c (inr stays) =
        inr (record {
          block = stays.block;
          there = stays.there;
          current = c.current ∙ sym stays.epoch;
          alive = not_gone (is_purged stays.block.presence) (is_purged c.block.presence) stays.alive c.alive;
          status = stays.status;
          has = goes_on of to c.status stays.status stays.brings c.has;
          means = stays.means;
          backed = stays.backed c.has.calls c.backed;
        })

    -- a pointer into a block
    pub pass_spot : PointersPass of to → (its : spot.Spot) → TrackedSpot whole known here machine ws of its → TrackedSpot whole known next after ws to its
    pass_spot pass its (inl stale) = inl (goes_on of to status.Stale status.Stale pass.stale stale)
    pass_spot pass its (inr c) = pass_current its c (pass.current c.status its.block c.block c.there c.means)

    -- a handle
    pub pass_handle : (n : ℕ) → HandlePasses of to n → TrackedHandle whole known here machine ws of n → TrackedHandle whole known next after ws to n
    pass_handle n pass h = on (pass.stays h.block h.there)
      where
        on : HandleStays of to n h.block → TrackedHandle whole known next after ws to n
        on stays =
            record {
              block = stays.block;
              there = stays.there;
              is = goes_on of to status.IsHandle status.IsHandle pass.is h.is;
              marked = λ so. marked (stays.marked so);
              gone = λ so. gone (stays.gone so);
            }
          where
            marked : Brings of to status.IsHandle status.Purgeable ⊎ ((is_marked h.block ≡ true) × Brings of to status.Purgeable status.Purgeable)
                ⊎ HasChain whole known next ws to status.Purgeable → HasChain whole known next ws to status.Purgeable
            marked (inl brings) = goes_on of to status.IsHandle status.Purgeable brings h.is
            marked (inr (inl both)) = goes_on of to status.Purgeable status.Purgeable both.1 (h.marked both.0)
            marked (inr (inr has)) = has

            gone : Brings of to status.IsHandle status.Hollow ⊎ ((is_marked h.block ≡ true) × Brings of to status.Purgeable status.Hollow)
                ⊎ ((is_purged h.block.presence ≡ true) × Brings of to status.Hollow status.Hollow) → HasChain whole known next ws to status.Hollow
            gone (inl brings) = goes_on of to status.IsHandle status.Hollow brings h.is
            gone (inr (inl both)) = goes_on of to status.Purgeable status.Hollow both.1 (h.marked both.0)
            gone (inr (inr both)) = goes_on of to status.Hollow status.Hollow both.1 (h.gone both.0)

    pub pass_pointer : (its : Pointer) → Passes of to (pointer its) → TrackedPointer whole known here machine ws of its
        → TrackedPointer whole known next after ws to its
    pass_pointer Nil pass is = tt
    pass_pointer (Fixed object at) pass is = tt
    pass_pointer (Handle n) pass is = pass_handle n (pass.handle n refl) is
    pass_pointer (Spot its) pass is = pass_spot pass.pointers its is

  module _ (classes : ClassesPass) where
    pub pass_cell : (cell : Cell) → TrackedCell whole known here machine ws cell → TrackedCell whole known next after ws cell
    pass_cell Undefined is = tt
    pass_cell (Byte byte) is = tt
    pass_cell (State byte) is = tt
    pass_cell (Part at its class) is = pass_pointer (slot.Class class) (slot.Class class) its (classes class (pointer its)) is

    pub pass_cells : (cells : List Cell) → TrackedCells whole known here machine ws cells → TrackedCells whole known next after ws cells
    pass_cells [] are = tt
    pass_cells (cell ∷ cells) are = (pass_cell cell are.0, pass_cells cells are.1)

    -- a value that an operation leaves in a slot
    pub pass_value : (of to : flow_slot.Slot) (v : Value) → Passes of to v → Tracked whole known here machine ws of v
        → Tracked whole known next after ws to v
    pass_value of to (number bits) pass is = tt
    pass_value of to (pointer its) pass is = pass_pointer of to its pass is
    pass_value of to (state byte) pass is = tt
    pass_value of to (structure cells) pass is = pass_cells cells is

    -- each place passes with its value
    abbrev pub PlacesPass : List Value → Type 0
    PlacesPass [] = Unit {0}
    PlacesPass (v ∷ rest) = Passes (slot.Place (length rest)) (slot.Place (length rest)) v × PlacesPass rest

    pub pass_places : (stack : List Value) → PlacesPass stack → TrackedPlaces whole known here machine ws stack
        → TrackedPlaces whole known next after ws stack
    pass_places [] pass are = tt
    pass_places (v ∷ rest) pass are =
        (pass_value (slot.Place (length rest)) (slot.Place (length rest)) v pass.0 are.0, pass_places rest pass.1 are.1)

    pub pass_blocks : (blocks : List Block) → AllByRecursion (λ block. TrackedCells whole known here machine ws block.cells) blocks
        → AllByRecursion (λ block. TrackedCells whole known next after ws block.cells) blocks
    pass_blocks = each_block (TrackedCell whole known here machine ws) (TrackedCell whole known next after ws) pass_cells

    pub pass_objects : (objects : List Object) → AllByRecursion (λ its. TrackedCells whole known here machine ws its.cells) objects
        → AllByRecursion (λ its. TrackedCells whole known next after ws its.cells) objects
    pass_objects = each_object (TrackedCell whole known here machine ws) (TrackedCell whole known next after ws) pass_cells

  -- ---- operations that move and mark nothing

  -- a block then: where it was, marked only if it was, and purged only if it was
  pub record Undisturbed (old : Block) (found : Option Block) : Type 0 where
    pub block : Block
    pub there : found ≡ Some block
    pub epoch : block.epoch ≡ old.epoch
    pub marked : is_marked block ≡ true → is_marked old ≡ true
    pub gone : is_purged block.presence ≡ true → is_purged old.presence ≡ true

  -- what blocks are, and what statuses mean and owe, if each status of a pointer becomes what `stay` says
  pub record IsQuiet (stay : FactStatus → FactStatus) : Type 0 where
    pub blocks : (n : ℕ) (block : Block) → block_at machine.blocks n ≡ Some block → Undisturbed block (block_at after.blocks n)
    pub plain : (stay status.IsHandle ≡ status.IsHandle) × (stay status.Purgeable ≡ status.Purgeable) × (stay status.Hollow ≡ status.Hollow)
        × (stay status.Stale ≡ status.Stale)
    pub means : (its : FactStatus) (n : ℕ) (block : Block) → block_at machine.blocks n ≡ Some block → MeansHere whole its here machine n
        → MeansHere whole (stay its) next after n
    pub backed : (its : FactStatus) (n : ℕ) (calls : List Mark) → Backed whole its calls ws n → Backed whole (stay its) calls ws n

  -- a value passes to a slot, if each of its statuses does
  pub quiet_passes : (stay : FactStatus → FactStatus) → IsQuiet stay → (of to : flow_slot.Slot)
      → ((its : FactStatus) → Brings of to its (stay its)) → (v : Value)
      → Passes of to v
  quiet_passes stay quiet of to each v =
      record {
        pointers =
            record {
              stale = as_it_was status.Stale quiet.plain.3;
              current = λ its n block there means. inr (still its n block means there (quiet.blocks n block there));
            };
        handle = λ n is.
            record {
              is = as_it_was status.IsHandle quiet.plain.0;
              stays = λ block there. handle n block (quiet.blocks n block there);
            };
      }
    where
      as_it_was : (its : FactStatus) → stay its ≡ its → Brings of to its its
      as_it_was its same = subst (Brings of to its) same (each its)

      still : (its : FactStatus) (n : ℕ) (block : Block) → MeansHere whole its here machine n → block_at machine.blocks n ≡ Some block
          → Undisturbed block (block_at after.blocks n) → StaysCurrent of to its n block
      still its n block means there u =
          record {
            block = u.block;
            there = u.there;
            epoch = u.epoch;
            alive = u.gone;
            status = stay its;
            brings = each its;
            means = quiet.means its n block there means;
            backed = λ calls backed. quiet.backed its n calls backed;
          }

      handle : (n : ℕ) (block : Block) → Undisturbed block (block_at after.blocks n) → HandleStays of to n block
      handle n block u =
          record {
            block = u.block;
            there = u.there;
            marked = λ so. inr (inl (u.marked so, as_it_was status.Purgeable quiet.plain.1));
            gone = λ so. inr (inr (u.gone so, as_it_was status.Hollow quiet.plain.2));
          }
