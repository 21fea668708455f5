-- Offers that are compared with rows: what is asked of them holds while offers are taken.
use Rattle.std.proofs.Common.{◌≡◌, ◌≢◌, ◌<◌, ◌≤◌, ◌+◌, ◌⊎◌, inl, inr, ℕ, zero, suc, true, List, [], ◌∷◌, ◌++◌, Option, Some, None, IfSome, length, slice_get, refl, ap, sym, ◌∙◌, subst, arith, slice_index_or, take, append_assoc, append-nil}
use Rattle.std.proofs.lemmas.List.{take_more}
use Rattle.hs_search.proofs.Adding.{past_or}
use Rattle.hs_search.proofs.Listing.{get_either}
use Rattle.hs_search.proofs.Parting.{lower_linked}
use Rattle.hs_search.proofs.Passing.{waits_fresh}
use Rattle.hs_search.proofs.PuttingOff.{key_or}
use Rattle.hs_search.proofs.Setting.{set_get, set_length}
use Rattle.hs_search.specs.Bringing.{Book}
use Rattle.hs_search.specs.Choices.{Chooses, Choosing, none_chosen, one_chosen, IsChoice}
use Rattle.hs_search.specs.Graphs.{FlowGraph, Has}
use Rattle.hs_search.specs.Laws.Membership.{Has-left, Has-right, Has-either, Has-last}
use Rattle.hs_search.specs.Layout.{IsPlaced}
use Rattle.hs_search.specs.Links.{LinkedBy}
use Rattle.hs_search.specs.Rivals.{AreOffered, IsOffered}
use Rattle.hs_search.specs.Rounds.{Row}
use Rattle.hs_search.specs.Searching.{IsBetween, IsWaiting, Waits, key_of}
use Rattle.hs_search.specs.Storing.{IsAdded, IsListed, IsReplaced, Taking, none_taken, one_known, one_replaced, one_added, capped, capped_if, row_of, rows_of}
use Rattle.hs_search.specs.declared.lists.Item.{Item}
use Rattle.hs_search.specs.declared.reach.Reach.{Reach}

pub if_some : {A : Type 0} (o : Option A) (P Q : A → Type 0) → IfSome o P → ((x : A) → P x → Q x) → IfSome o Q
if_some None P Q is so = tt
if_some (Some x) P Q is so = so x is

-- ---- rows that are made and replaced

more_long : (xs : List (Item Reach)) (x : Item Reach) → length (xs ++ x ∷ []) ≡ suc (length xs)
more_long [] x = refl
more_long (y ∷ xs) x = ap (λ n. suc n) (more_long xs x)

offered_added : (entries : List (Item ℕ)) (room most : ℕ) (s : Reach) (old new : List (Item Reach)) → IsOffered entries old s → s.length ≤ most
    → IsAdded room most s old new → (o : Reach) → IsOffered entries old o → IsOffered entries new o
offered_added entries room most s old new first short added o is = subst (λ xs. IsOffered entries xs o) (sym added.more) (record {
  lower = λ n it at. lower n it (get_either old added.it n it at);
  known = λ n it at. known n it (get_either old added.it n it at);
  call = is.call;
  up = (let long = more_long old added.it in let up = is.up in omega arith);
  last = (let long = more_long old added.it in let last = is.last in omega arith);
  after = λ n it at same. after n it same (get_either old added.it n it at);
})
  where
    value : added.it.value ≡ s
    value = added.value ∙ step (past_or most s)
      where
        step : ((most < s.length) × (capped most s ≡ capped_if true most s)) ⊎ ((s.length ≤ most) × (capped most s ≡ s)) → capped most s ≡ s
        step (inl past) = absurd (let more = past.0 in omega arith)
        step (inr within) = within.1

    lower : (n : ℕ) (it : Item Reach) → (slice_get old n ≡ Some it) ⊎ ((n ≡ length old) × (added.it ≡ it))
        → (it.value.origin.up ≤ n) × (it.value.origin.last ≤ n)
    lower n it (inl at) = is.lower n it at
    lower n it (inr end_) =
        subst (λ (r : Reach). (r.origin.up ≤ n) × (r.origin.last ≤ n)) (sym value ∙ ap (λ (i : Item Reach). i.value) end_.1)
        (let place = end_.0 in let up = first.up in let last = first.last in (omega arith, omega arith))

    known : (n : ℕ) (it : Item Reach) → (slice_get old n ≡ Some it) ⊎ ((n ≡ length old) × (added.it ≡ it)) → it.value.call < length entries
    known n it (inl at) = is.known n it at
    known n it (inr end_) =
        subst (λ (r : Reach). r.call < length entries) (sym value ∙ ap (λ (i : Item Reach). i.value) end_.1) first.call

    after : (n : ℕ) (it : Item Reach) → it.value.length ≡ o.length → (slice_get old n ≡ Some it) ⊎ ((n ≡ length old) × (added.it ≡ it))
        → (o.origin.up ≤ n) × (o.origin.last ≤ n)
    after n it same (inl at) = is.after n it at same
    after n it same (inr end_) = (let place = end_.0 in let up = is.up in omega arith, let place = end_.0 in let last = is.last in omega arith)

offered_replaced : (entries : List (Item ℕ)) (s : Reach) (n : ℕ) (old new : List (Item Reach)) → IsOffered entries old s → IsReplaced s n old new
    → (o : Reach) → IsOffered entries old o → IsOffered entries new o
offered_replaced entries s n old new first replaced o is = subst (λ xs. IsOffered entries xs o) (sym replaced.more) (record {
  lower = λ m it at. lower m it (set_get old n m its it at);
  known = λ m it at. known m it (set_get old n m its it at);
  call = is.call;
  up = (let long = set_length old n its in let up = is.up in omega arith);
  last = (let long = set_length old n its in let last = is.last in omega arith);
  after = λ m it at same. after m it same (set_get old n m its it at);
})
  where
    its : Item Reach
    its = record replaced.row.it { value = s }

    lower : (m : ℕ) (it : Item Reach) → ((m ≡ n) × (its ≡ it)) ⊎ ((m ≢ n) × (slice_get old m ≡ Some it))
        → (it.value.origin.up ≤ m) × (it.value.origin.last ≤ m)
    lower m it (inl here) =
        subst (λ (i : Item Reach). (i.value.origin.up ≤ m) × (i.value.origin.last ≤ m)) here.1
        (subst (λ k. (s.origin.up ≤ k) × (s.origin.last ≤ k)) (sym here.0) (first.after n replaced.row.it replaced.row.there replaced.long))
    lower m it (inr other) = is.lower m it other.1

    known : (m : ℕ) (it : Item Reach) → ((m ≡ n) × (its ≡ it)) ⊎ ((m ≢ n) × (slice_get old m ≡ Some it)) → it.value.call < length entries
    known m it (inl here) = subst (λ (i : Item Reach). i.value.call < length entries) here.1 first.call
    known m it (inr other) = is.known m it other.1

    after : (m : ℕ) (it : Item Reach) → it.value.length ≡ o.length → ((m ≡ n) × (its ≡ it)) ⊎ ((m ≢ n) × (slice_get old m ≡ Some it))
        → (o.origin.up ≤ m) × (o.origin.last ≤ m)
    after m it same (inl here) =
        subst (λ k. (o.origin.up ≤ k) × (o.origin.last ≤ k)) (sym here.0)
        (is.after n replaced.row.it replaced.row.there (replaced.long ∙ ap (λ (i : Item Reach). i.value.length) here.1 ∙ same))
    after m it same (inr other) = is.after m it other.1 same

-- while several offers are taken
pub offered_taken : (entries : List (Item ℕ)) (room most : ℕ) (taken : List Reach) (old new : List (Item Reach)) → Taking room most taken old new
    → AreOffered entries most old (Has taken) → (o : Reach) → IsOffered entries old o → IsOffered entries new o
offered_taken entries room most _ _ _ (none_taken _) all o is = is
offered_taken entries room most _ old new (one_known taken s _ _ taking known) all o is =
    offered_taken entries room most taken old new taking (λ x has. all x (Has-left taken (s ∷ []) x has)) o is
offered_taken entries room most _ old new (one_replaced taken s _ mid _ taking replaced) all o is =
    let rest = offered_taken entries room most taken old mid taking (λ x has. all x (Has-left taken (s ∷ []) x has)) in
    offered_replaced entries s replaced.0 mid new (rest s (all s (Has-last taken s)).0) replaced.1 o (rest o is)
offered_taken entries room most _ old new (one_added taken s _ mid _ taking added) all o is =
    let rest = offered_taken entries room most taken old mid taking (λ x has. all x (Has-left taken (s ∷ []) x has)) in
    let own = all s (Has-last taken s) in
    offered_added entries room most s mid new (rest s own.0) own.1 added o (rest o is)

-- ---- the offers of a round

within_by : (graph : FlowGraph) (rows : List Row) (up last : ℕ) (row : Row) → LinkedBy graph rows up last row
    → (up ≤ length rows) × (last ≤ length rows)
within_by graph rows zero zero row is = (omega arith, omega arith)
within_by graph rows zero (suc last) row is = absurd is
within_by graph rows (suc up) zero row is = (row_in rows up is.0 is.1, omega arith)
  where
    row_in : (xs : List Row) (n : ℕ) (x : Row) → slice_get xs n ≡ Some x → suc n ≤ length xs
    row_in [] n x at = absurd cc
    row_in (y ∷ xs) zero x at = omega arith
    row_in (y ∷ xs) (suc n) x at = let rest = row_in xs n x at in omega arith
within_by graph rows (suc up) (suc last) row is = (row_in rows up is.0 is.2, row_in rows last is.1 is.3)
  where
    row_in : (xs : List Row) (n : ℕ) (x : Row) → slice_get xs n ≡ Some x → suc n ≤ length xs
    row_in [] n x at = absurd cc
    row_in (y ∷ xs) zero x at = omega arith
    row_in (y ∷ xs) (suc n) x at = let rest = row_in xs n x at in omega arith

rows_count : (entries : List (Item ℕ)) (rows : List (Item Reach)) → length (rows_of entries rows) ≡ length rows
rows_count entries [] = refl
rows_count entries (r ∷ rows) = ap (λ n. suc n) (rows_count entries rows)

-- they name rows that were made before, and are longer than all rows
pub waits_offered : (graph : FlowGraph) (room most next latest : ℕ) (rows : List (Item Reach)) (book : Book) (near : List Reach) (far : List (Item Reach))
    → next ≤ most → IsBetween graph room most next latest rows book near far → AreOffered book.entries most rows (Waits near far next)
waits_offered graph room most next latest rows book near far within between s waits = (
  record {
    lower = lower_linked graph most book.entries rows between.linked short;
    known = λ n it at. (between.laid_out.placed n it at).known;
    call = placed.known;
    up = subst (λ k. s.origin.up ≤ k) (rows_count book.entries rows) link.0;
    last = subst (λ k. s.origin.last ≤ k) (rows_count book.entries rows) link.1;
    after = λ n it at same. absurd (waits_fresh graph room most next latest rows book near far next (omega arith) between s waits long n it at same);
  },
  long,
)
  where
    short : (n : ℕ) (it : Item Reach) → slice_get rows n ≡ Some it → it.value.length ≤ most
    short n it at =
        let less = between.short (row_of book.entries it.value) (row_has rows n it at) in
        omega arith
      where
        row_has : (xs : List (Item Reach)) (n : ℕ) (it : Item Reach) → slice_get xs n ≡ Some it → Has (rows_of book.entries xs) (row_of book.entries it.value)
        row_has [] n it at = absurd cc
        row_has (x ∷ xs) zero it at = inl (let is : x ≡ it = cc in ap (λ (i : Item Reach). row_of book.entries i.value) is)
        row_has (x ∷ xs) (suc n) it at = inr (row_has xs n it at)

    placed : IsPlaced graph book.entries s
    placed = by waits
      where
        by : Has near s ⊎ IsListed far next s → IsPlaced graph book.entries s
        by (inl has) = between.near_placed s has
        by (inr listed) = subst (IsPlaced graph book.entries) listed.value (between.far_right listed.n listed.it listed.there).placed

    long : s.length ≤ most
    long = by waits
      where
        by : Has near s ⊎ IsListed far next s → s.length ≤ most
        by (inl has) = let is = between.near_long s has in omega arith
        by (inr listed) = step (key_or most s.length)
          where
            key : key_of most s.length ≡ next
            key =
                let its = between.far_right listed.n listed.it listed.there in
                sym (its.key ∙ ap (λ (r : Reach). key_of most r.length) listed.value) ∙ listed.own

            step : ((most < s.length) × (key_of most s.length ≡ suc most)) ⊎ ((s.length ≤ most) × (key_of most s.length ≡ s.length)) → s.length ≤ most
            step (inl past) = absurd (let it = past.1 in let is = key in omega arith)
            step (inr low) = low.0

    offered : Has near s ⊎ IsWaiting far next s
    offered = by waits
      where
        by : Has near s ⊎ IsListed far next s → Has near s ⊎ IsWaiting far next s
        by (inl has) = inl has
        by (inr listed) =
            inr (record { n = listed.n; it = listed.it; there = listed.there; later = (let own = listed.own in omega arith); value = listed.value })

    link : (s.origin.up ≤ length (rows_of book.entries rows)) × (s.origin.last ≤ length (rows_of book.entries rows))
    link =
        within_by graph (rows_of book.entries rows) s.origin.up s.origin.last (row_of book.entries s) (between.offers_linked s offered)

-- the rounds end at the most, or before
pub ended_within : (most next latest : ℕ) (near : List Reach) → (next ≡ suc most) ⊎ ((next ≤ most) × (near ≡ []) × (latest < next)) → next ≤ most + 1
ended_within most next latest near (inl is) = omega arith
ended_within most next latest near (inr early) = let low = early.0 in omega arith

-- ---- which row stays

pub if_both : {A : Type 0} (o : Option A) (P Q R : A → Type 0) → IfSome o P → IfSome o Q → ((x : A) → P x → Q x → R x) → IfSome o R
if_both None P Q R is also so = tt
if_both (Some x) P Q R is also so = so x is also

pub if_all : {A : Type 0} (o : Option A) (P : A → Type 0) → ((x : A) → P x) → IfSome o P
if_all None P so = tt
if_all (Some x) P so = so x

pub choosing_next : (entries : List (Item ℕ)) (room most : ℕ) (offers : List Reach) (n : ℕ) (d : Reach) (old mid new : List (Item Reach)) → n < length offers
    → Choosing entries room most (take n offers) old mid → Chooses entries room most (slice_index_or offers n d) mid new
    → Choosing entries room most (take (n + 1) offers) old new
choosing_next entries room most offers n d old mid new within choosing chooses =
    subst (λ os. Choosing entries room most os old new) (sym (take_more offers n d within))
    (one_chosen (take n offers) (slice_index_or offers n d) old mid new choosing chooses)

pub choosing_then : (entries : List (Item ℕ)) (room most : ℕ) (first second : List Reach) (old mid new : List (Item Reach))
    → Choosing entries room most first old mid → Choosing entries room most second mid new → Choosing entries room most (first ++ second) old new
choosing_then entries room most first _ old mid _ choosing (none_chosen _) =
    subst (λ xs. Choosing entries room most xs old mid) (sym (append-nil first)) choosing
choosing_then entries room most first _ old mid new choosing (one_chosen offers s _ inner _ more chooses) =
    subst (λ xs. Choosing entries room most xs old new) (append_assoc first offers (s ∷ []))
    (one_chosen (first ++ offers) s old inner new (choosing_then entries room most first offers old mid inner choosing more) chooses)

-- those of the last round, and those that are listed
pub choice_waits : (entries : List (Item ℕ)) (room most : ℕ) (near : List Reach) (far : List (Item Reach)) (key : ℕ) (old mid new : List (Item Reach))
    → Choosing entries room most near old mid → IsChoice entries room most (IsListed far key) mid new
    → IsChoice entries room most (Waits near far key) old new
choice_waits entries room most near far key old mid new first second = record {
  taken = near ++ second.taken;
  choosing = choosing_then entries room most near second.taken old mid new first second.choosing;
  each = λ s has. each s (Has-either near second.taken s has);
  all = λ s is. all s is;
}
  where
    each : (s : Reach) → Has near s ⊎ Has second.taken s → Has near s ⊎ IsListed far key s
    each s (inl has) = inl has
    each s (inr has) = inr (second.each s has)

    all : (s : Reach) → Has near s ⊎ IsListed far key s → Has (near ++ second.taken) s
    all s (inl has) = Has-left near second.taken s has
    all s (inr is) = Has-right near second.taken s (second.all s is)
