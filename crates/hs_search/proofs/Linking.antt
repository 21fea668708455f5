-- Links stay when rows and calls are added, and what a row offers has the right one.
use Rattle.std.proofs.Common.{◌≡◌, ◌<◌, ◌≤◌, ℕ, zero, suc, List, [], ◌∷◌, ◌++◌, inl, inr, ◌⊎◌, refl, ap, sym, ◌∙◌, Some, subst, arith, length, slice_get, take}
use Rattle.hs_search.proofs.Adding.{rows_more}
use Rattle.hs_search.proofs.Expansions.{row_kept, rows_at, rows_kept}
use Rattle.hs_search.proofs.Listing.{some_is}
use Rattle.hs_search.specs.Bringing.{origin_back, step_back, step_in, step_on}
use Rattle.hs_search.specs.Graphs.{FlowGraph, Has}
use Rattle.hs_search.specs.Layout.{Grows, IsPlaced}
use Rattle.hs_search.specs.Links.{AreLinked, HasLink, IsLinked, LinkedBy}
use Rattle.hs_search.specs.Rounds.{Row, entered_by, returned, stepped}
use Rattle.hs_search.specs.Storing.{node_of, row_of, rows_of}
use Rattle.hs_search.specs.declared.graph.Node.{Node}
use Rattle.hs_search.specs.declared.lists.Item.{Item}
use Rattle.hs_search.specs.declared.reach.Origin.{Origin}
use Rattle.hs_search.specs.declared.reach.Reach.{Reach}

-- ---- the rows that a link names

abbrev Stays : List Row → List Row → Type 0
Stays rows others = (k : ℕ) (x : Row) → slice_get rows k ≡ Some x → slice_get others k ≡ Some x

linked_in : (graph : FlowGraph) (rows others : List Row) (origin : Origin) (row : Row) → Stays rows others → IsLinked graph rows origin row
    → IsLinked graph others origin row
linked_in graph rows others origin row stays = by_cases origin.up origin.last
  where
    by_cases : (up last : ℕ) → LinkedBy graph rows up last row → LinkedBy graph others up last row
    by_cases zero zero is = is
    by_cases zero (suc last) is = absurd is
    by_cases (suc up) zero is = (is.0, stays up is.0 is.1, is.2)
    by_cases (suc up) (suc last) is = (is.0, is.1, stays up is.0 is.2, stays last is.1 is.3, is.4)

get_front : (rows more : List Row) (k : ℕ) (x : Row) → slice_get rows k ≡ Some x → slice_get (rows ++ more) k ≡ Some x
get_front [] more k x at = absurd cc
get_front (r ∷ rows) more zero x at = at
get_front (r ∷ rows) more (suc k) x at = get_front rows more k x at

get_take : (rows : List Row) (n k : ℕ) (x : Row) → k < n → slice_get rows k ≡ Some x → slice_get (take n rows) k ≡ Some x
get_take rows zero k x less at = absurd (omega arith)
get_take [] (suc n) k x less at = absurd cc
get_take (r ∷ rows) (suc n) zero x less at = at
get_take (r ∷ rows) (suc n) (suc k) x less at = get_take rows n k x (omega arith) at

row_within : (rows : List Row) (k : ℕ) (x : Row) → slice_get rows k ≡ Some x → k < length rows
row_within [] k x at = absurd cc
row_within (r ∷ rows) zero x at = omega arith
row_within (r ∷ rows) (suc k) x at = let rest = row_within rows k x at in omega arith

-- ---- calls and rows that are added

pub link_kept : (graph : FlowGraph) (rows : List Row) (old new : List (Item ℕ)) (s : Reach) → Grows old new → IsPlaced graph old s
    → HasLink graph rows old s → HasLink graph rows new s
link_kept graph rows old new s grows placed link = subst (IsLinked graph rows s.origin) (sym (row_kept old new grows s placed.known)) link

pub link_more : (graph : FlowGraph) (rows more : List Row) (entries : List (Item ℕ)) (s : Reach) → HasLink graph rows entries s
    → HasLink graph (rows ++ more) entries s
link_more graph rows more entries s link = linked_in graph rows (rows ++ more) s.origin (row_of entries s) (get_front rows more) link

-- the rows before a round are before those that it makes
link_before : (graph : FlowGraph) (rows more : List Row) (n : ℕ) (entries : List (Item ℕ)) (s : Reach) → length rows ≤ n → HasLink graph rows entries s
    → HasLink graph (take n (rows ++ more)) entries s
link_before graph rows more n entries s below link =
    linked_in graph rows (take n (rows ++ more)) s.origin (row_of entries s)
    (λ k x at. get_take (rows ++ more) n k x (let less = row_within rows k x at in omega arith) (get_front rows more k x at)) link

take_front : (rows more : List Row) (n k : ℕ) (x : Row) → slice_get (take n rows) k ≡ Some x → slice_get (take n (rows ++ more)) k ≡ Some x
take_front rows more zero k x at = absurd cc
take_front [] more (suc n) k x at = absurd cc
take_front (r ∷ rows) more (suc n) zero x at = at
take_front (r ∷ rows) more (suc n) (suc k) x at = take_front rows more n k x at

either_row : (old layer : List (Item Reach)) (n : ℕ) (it : Item Reach) → slice_get (old ++ layer) n ≡ Some it
    → (slice_get old n ≡ Some it) ⊎ ((length old ≤ n) × Has layer it)
either_row [] layer n it at = inr (omega arith, get_has layer n at)
  where
    get_has : (xs : List (Item Reach)) (n : ℕ) → slice_get xs n ≡ Some it → Has xs it
    get_has [] n at = absurd cc
    get_has (x ∷ xs) zero at = inl (some_is at)
    get_has (x ∷ xs) (suc n) at = inr (get_has xs n at)
either_row (x ∷ old) layer zero it at = inl at
either_row (x ∷ old) layer (suc n) it at = step (either_row old layer n it at)
  where
    step : (slice_get old n ≡ Some it) ⊎ ((length old ≤ n) × Has layer it) → (slice_get old n ≡ Some it) ⊎ ((suc (length old) ≤ suc n) × Has layer it)
    step (inl there) = inl there
    step (inr (below, has)) = inr (omega arith, has)

long_rows : (entries : List (Item ℕ)) (rows : List (Item Reach)) → length (rows_of entries rows) ≡ length rows
long_rows entries [] = refl
long_rows entries (it ∷ rows) = ap (λ n. suc n) (long_rows entries rows)

-- all rows are linked, with those that a round has made
pub linked_next : (graph : FlowGraph) (most : ℕ) (old new : List (Item ℕ)) (rows mid layer : List (Item Reach)) → mid ≡ rows ++ layer → Grows old new
    → ((n : ℕ) (it : Item Reach) → slice_get mid n ≡ Some it → IsPlaced graph old it.value) → AreLinked graph most old rows
    → ((it : Item Reach) → Has layer it → it.value.length ≤ most → HasLink graph (rows_of old rows) old it.value)
    → AreLinked graph most new mid
linked_next graph most old new rows mid layer more grows placed linked each n it at short =
    link_kept graph (take n (rows_of new mid)) old new it.value grows (placed n it at)
    (subst (λ rs. HasLink graph (take n rs) old it.value) (sym rows_are)
    (from (either_row rows layer n it (subst (λ xs. slice_get xs n ≡ Some it) more at))))
  where
    rows_are : rows_of new mid ≡ rows_of old rows ++ rows_of old layer
    rows_are = rows_kept graph old new grows mid placed ∙ ap (rows_of old) more ∙ rows_more old rows layer

    from : (slice_get rows n ≡ Some it) ⊎ ((length rows ≤ n) × Has layer it) → HasLink graph (take n (rows_of old rows ++ rows_of old layer)) old it.value
    from (inl there) =
        linked_in graph (take n (rows_of old rows)) (take n (rows_of old rows ++ rows_of old layer)) it.value.origin (row_of old it.value)
        (take_front (rows_of old rows) (rows_of old layer) n) (linked n it there short)
    from (inr (below, has)) =
        link_before graph (rows_of old rows) (rows_of old layer) n old it.value (subst (λ k. k ≤ n) (sym (long_rows old rows)) below) (each it has short)

-- ---- what a row offers

pub link_on : (graph : FlowGraph) (entries : List (Item ℕ)) (rows : List (Item Reach)) (number : ℕ) (it : Item Reach) (y : Node)
    → slice_get rows number ≡ Some it → Has (graph.steps (node_of entries it.value)) y
    → row_of entries (step_on (suc number) it.value y) ≡ stepped (row_of entries it.value) y
    → HasLink graph (rows_of entries rows) entries (step_on (suc number) it.value y)
link_on graph entries rows number it y there step is = (row_of entries it.value, rows_at entries rows number it there, inl (y, step, sym is))

pub link_in : (graph : FlowGraph) (entries : List (Item ℕ)) (rows : List (Item Reach)) (number : ℕ) (it : Item Reach) (call : ℕ) (b : Node)
    → slice_get rows number ≡ Some it → graph.enters (node_of entries it.value) ≡ Some b
    → row_of entries (step_in (suc number) it.value call b) ≡ entered_by (row_of entries it.value) b
    → HasLink graph (rows_of entries rows) entries (step_in (suc number) it.value call b)
link_in graph entries rows number it call b there enter is = (row_of entries it.value, rows_at entries rows number it there, inr (b, enter, sym is))

pub link_back : (graph : FlowGraph) (entries : List (Item ℕ)) (rows : List (Item Reach)) (up last : ℕ) (c e : Item Reach) (y : Node)
    → slice_get rows up ≡ Some c → slice_get rows last ≡ Some e
    → graph.enters (node_of entries c.value) ≡ Some (graph.entry (node_of entries e.value))
    → graph.leaves (node_of entries c.value) (node_of entries e.value) ≡ Some y
    → row_of entries (step_back (origin_back (suc up) (suc last)) c.value e.value y) ≡ returned (row_of entries c.value) (row_of entries e.value) y
    → HasLink graph (rows_of entries rows) entries (step_back (origin_back (suc up) (suc last)) c.value e.value y)
link_back graph entries rows up last c e y at_call at_end enter leave is =
    (row_of entries c.value, row_of entries e.value, rows_at entries rows up c at_call, rows_at entries rows last e at_end, (y, enter, leave, sym is))
