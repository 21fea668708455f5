-- The list of the blocks that a shift of all blocks visits: it has each block that is not disposed, so a pass over it does what one over all does.
use Rattle.std.proofs.Common.{◌≡◌, ◌==◌, ◌+◌, ◌&&◌, ◌||◌, ℕ, zero, suc, Bool, true, false, not, List, [], ◌∷◌, ◌++◌, length, Some, refl, sym, ap, subst, ◌∙◌, slice_get, slice_set, get_or, if◌then◌else◌, true≢false, eqb-true, eq-eqb, arith}
use Rattle.std.specs.List.{list_any, filter}
use Rattle.std.proofs.lemmas.List.Folds.{list_any-append}
use Rattle.std.proofs.lemmas.Map.Views.{any-filter_same}
use Rattle.std.proofs.lemmas.Option.{none-some, same_Some, slice_get_within}
use Rattle.std.proofs.Math.Bool.{or-true}
use Rattle.hs_heap.specs.Blocks.{Block, is_disposed, StaysDisposed}
use Rattle.hs_heap.specs.Memory.{IsListed}
use Rattle.hs_heap.specs.Shift.{is_present, is_loose, is_named}
use Rattle.hs_heap.specs.Passes.{purged, relocated, numbered, if_named, with_each, remains, remains_at, is_remaining, names_all, listed_for}
use Rattle.hs_heap.specs.declared.decision.Decision.{Decision}
use Rattle.hs_heap.specs.declared.decision.Which.{Which}
use Rattle.hs_heap.specs.declared.decision.Which.TheVariants.{All, These}
use Rattle.hs_heap.specs.declared.presence.Presence.{Presence}
use Rattle.hs_heap.specs.declared.presence.Presence.TheVariants.{Present, Emptied, Purged, Disposed}
use Rattle.hs_heap.proofs.Passing.{numbered_same, place_in}

-- a fact of the place of each block that is not disposed
abbrev OfRemaining : (ℕ → Type 0) → List Block → Type 0
OfRemaining P blocks = (place : ℕ) (block : Block) → slice_get blocks place ≡ Some block → is_disposed block.presence ≡ false → P place

-- ---- one block changes, or is new

-- a block that changes, and is disposed if it was
remaining_set : (P : ℕ → Type 0) (blocks : List Block) (place : ℕ) (old other new : Block) → old ≡ get_or blocks place other
    → StaysDisposed old new → OfRemaining P blocks → OfRemaining P (slice_set blocks place new)
remaining_set P [] place old other new is stays all at block found undisposed = absurd (none-some block found)
remaining_set P (first ∷ blocks) zero old other new is stays all zero block found undisposed =
    all zero first refl
    (subst (λ (it : Block). is_disposed it.presence ≡ false) is
    (stays (subst (λ (it : Block). is_disposed it.presence ≡ false) (sym (same_Some new block found)) undisposed)))
remaining_set P (first ∷ blocks) zero old other new is stays all (suc at) block found undisposed = all (suc at) block found undisposed
remaining_set P (first ∷ blocks) (suc place) old other new is stays all zero block found undisposed = all zero block found undisposed
remaining_set P (first ∷ blocks) (suc place) old other new is stays all (suc at) block found undisposed =
    remaining_set (λ there. P (suc there)) blocks place old other new is stays (λ there. all (suc there)) at block found undisposed

-- one block more
remaining_push : (P : ℕ → Type 0) (blocks : List Block) (new : Block) → P (length blocks) → OfRemaining P blocks → OfRemaining P (blocks ++ new ∷ [])
remaining_push P [] new here all zero block found undisposed = here
remaining_push P [] new here all (suc at) block found undisposed = absurd (none-some block found)
remaining_push P (first ∷ blocks) new here all zero block found undisposed = all zero block found undisposed
remaining_push P (first ∷ blocks) new here all (suc at) block found undisposed =
    remaining_push (λ there. P (suc there)) blocks new here (λ there. all (suc there)) at block found undisposed

-- the block at a place changes
pub listed_set : (blocks : List Block) (listed : List ℕ) (place : ℕ) (old other new : Block) → IsListed blocks listed
    → old ≡ get_or blocks place other → StaysDisposed old new → IsListed (slice_set blocks place new) listed
listed_set blocks listed place old other new all is stays =
    remaining_set (λ at. list_any (λ number. number == suc at) listed ≡ true) blocks place old other new is stays all

-- a number more in the list
listed_more : (blocks : List Block) (listed longer : List ℕ) (number : ℕ) → IsListed blocks listed → longer ≡ listed ++ number ∷ []
    → IsListed blocks longer
listed_more blocks listed longer number all is place block found undisposed =
    ap (list_any (λ n. n == suc place)) is
    ∙ list_any-append (λ n. n == suc place) listed (number ∷ [])
    ∙ ap (λ b. b || list_any (λ n. n == suc place) (number ∷ [])) (all place block found undisposed)

-- a block more, of that number
pub listed_push : (blocks rows : List Block) (listed longer : List ℕ) (number : ℕ) (new : Block) → IsListed blocks listed
    → longer ≡ listed ++ number ∷ [] → number ≡ length blocks + 1 → rows ≡ blocks ++ new ∷ [] → IsListed rows longer
listed_push blocks rows listed longer number new all is next pushed =
    subst (λ its. IsListed its longer) (sym pushed)
    (remaining_push (λ at. list_any (λ n. n == suc at) longer ≡ true) blocks new here (listed_more blocks listed longer number all is))
  where
    here : list_any (λ n. n == suc (length blocks)) longer ≡ true
    here =
        ap (list_any (λ n. n == suc (length blocks))) is
        ∙ list_any-append (λ n. n == suc (length blocks)) listed (number ∷ [])
        ∙ ap (λ b. list_any (λ n. n == suc (length blocks)) listed || (b || false)) (eq-eqb number (suc (length blocks)) (omega (arith, next)))
        ∙ or-true (list_any (λ n. n == suc (length blocks)) listed)

-- the numbers of disposed blocks are taken out
listed_filter : (blocks : List Block) (listed left : List ℕ) → IsListed blocks listed → left ≡ filter (is_remaining blocks) listed
    → IsListed blocks left
listed_filter blocks listed left all is place block found undisposed =
    ap (list_any (λ n. n == suc place)) is
    ∙ any-filter_same (λ n. n == suc place) (is_remaining blocks) true there listed
    ∙ all place block found undisposed
  where
    there : (number : ℕ) → (number == suc place) ≡ true → is_remaining blocks number ≡ true
    there number same =
        ap (is_remaining blocks) (eqb-true number (suc place) same)
        ∙ ap (remains_at blocks) (place_in place (length blocks) (slice_get_within blocks place block found))
        ∙ ap remains found
        ∙ ap not undisposed

-- so the list of a shift has each block that is not disposed
pub listed_left : (decision : Decision) (blocks : List Block) (listed left : List ℕ) → IsListed blocks listed
    → left ≡ listed_for decision blocks listed → IsListed blocks left
listed_left decision blocks listed left all = go (names_all decision)
  where
    go : (drops : Bool) → left ≡ (if drops then filter (is_remaining blocks) listed else listed) → IsListed blocks left
    go true is = listed_filter blocks listed left all is
    go false is = subst (IsListed blocks) (sym is) all

-- ---- a pass over the list

-- the change does nothing to a disposed block
abbrev pub LeavesDisposed : (Block → Block) → Type 0
LeavesDisposed change = (block : Block) → is_disposed block.presence ≡ true → change block ≡ block

-- such a block has no cells
disposed_absent : (it : Presence) → is_disposed it ≡ true → is_present it ≡ false
disposed_absent Present is = absurd (true≢false (sym is))
disposed_absent Emptied is = refl
disposed_absent Purged is = refl
disposed_absent Disposed is = refl

-- so it may not change
disposed_stays : (block : Block) → is_disposed block.presence ≡ true → is_loose block ≡ false
disposed_stays block is = ap (λ b. b && not block.locked) (disposed_absent block.presence is)

-- a purge does nothing to it
pub purged_leaves : LeavesDisposed purged
purged_leaves block is = rw (disposed_stays block is) refl

-- and neither does a move
pub relocated_leaves : LeavesDisposed relocated
relocated_leaves block is = rw (disposed_stays block is) refl

-- a pass over the list does what one over all blocks does
pub listed_all : (change : Block → Block) (blocks : List Block) (listed : List ℕ) → LeavesDisposed change → IsListed blocks listed
    → with_each true (These listed) change blocks ≡ with_each true All change blocks
listed_all change blocks listed leaves all =
    numbered_same (if_named true (These listed) change) (if_named true All change) 1 blocks
    (λ place number block found at. same place number block found at (is_disposed block.presence) refl)
  where
    either : (block : Block) (named : Bool) → change block ≡ block → (if named then change block else block) ≡ change block
    either block true is = refl
    either block false is = sym is

    same : (place number : ℕ) (block : Block) → slice_get blocks place ≡ Some block → number ≡ 1 + place → (gone : Bool)
        → is_disposed block.presence ≡ gone → if_named true (These listed) change number block ≡ change block
    same place number block found at true gone = either block (list_any (λ n. n == number) listed) (leaves block gone)
    same place number block found at false gone =
        ap (λ (b : Bool). if b then change block else block)
        (subst (λ it. list_any (λ n. n == it) listed ≡ true) (sym (omega (arith, at))) (all place block found gone))

-- the fact holds after a pass as well
remaining_numbered : (P : ℕ → Type 0) (change : ℕ → Block → Block)
    → ((number : ℕ) (block : Block) → StaysDisposed block (change number block))
    → (n : ℕ) (blocks : List Block) → OfRemaining P blocks → OfRemaining P (numbered change n blocks)
remaining_numbered P change stays n [] all place block found undisposed = absurd (none-some block found)
remaining_numbered P change stays n (first ∷ blocks) all zero block found undisposed =
    all zero first refl
    (stays n first (subst (λ (it : Block). is_disposed it.presence ≡ false) (sym (same_Some (change n first) block found)) undisposed))
remaining_numbered P change stays n (first ∷ blocks) all (suc place) block found undisposed =
    remaining_numbered (λ at. P (suc at)) change stays (suc n) blocks (λ at. all (suc at)) place block found undisposed

-- so the list has each block that is not disposed after a pass
pub listed_each : (may : Bool) (which : Which) (change : Block → Block) (blocks rows : List Block) (listed : List ℕ) → LeavesDisposed change
    → IsListed blocks listed → rows ≡ with_each may which change blocks → IsListed rows listed
listed_each may which change blocks rows listed leaves all is =
    subst (λ its. IsListed its listed) (sym is)
    (remaining_numbered (λ at. list_any (λ n. n == suc at) listed ≡ true) (if_named may which change)
    (λ number block. stays block (may && is_named which number)) 1 blocks all)
  where
    changes : (block : Block) (gone : Bool) → is_disposed block.presence ≡ gone → is_disposed (change block).presence ≡ false → gone ≡ false
    changes block true gone undisposed =
        sym (sym undisposed ∙ ap {A = Block} (λ it. is_disposed it.presence) (leaves block gone) ∙ gone)
    changes block false gone undisposed = refl

    stays : (block : Block) (named : Bool) → StaysDisposed block (if named then change block else block)
    stays block true undisposed = changes block (is_disposed block.presence) refl undisposed
    stays block false undisposed = undisposed

-- so it has each of them between the two passes of a shift
pub listed_purged : (purges : Bool) (decision : Decision) (blocks rows : List Block) (listed left : List ℕ) → IsListed blocks listed
    → left ≡ listed_for decision blocks listed → rows ≡ with_each purges decision.purges purged blocks → IsListed rows left
listed_purged purges decision blocks rows listed left all is passed =
    listed_each purges decision.purges purged blocks rows left purged_leaves (listed_left decision blocks listed left all is) passed
