-- Rows are expanded, one after the other.
use Rattle.std.proofs.Common.{◌≡◌, ◌<◌, ◌≤◌, ℕ, suc, List, [], ◌∷◌, ◌++◌, inl, inr, ◌⊎◌, refl, ap, sym, ◌∙◌, Some, subst, length, slice_get, take, append_assoc, zero, arith}
use Rattle.std.proofs.lemmas.Bool.{cases_order}
use Rattle.hs_search.proofs.Listing.{some_is}
use Rattle.hs_search.proofs.Parting.{lower_by, take_there}
use Rattle.hs_search.proofs.Calling.{grows_none, node_kept, placed_kept}
use Rattle.hs_search.specs.Laws.Membership.{Has-left, Has-right, Has-either}
use Rattle.hs_search.proofs.Rounding.{AllBrought-none, AllBrought-next}
use Rattle.hs_search.specs.Bringing.{Book}
use Rattle.hs_search.specs.Graphs.{FlowGraph, Has}
use Rattle.hs_search.specs.Layout.{Grows, IsExpanded, IsLaidOut, IsPlaced}
use Rattle.hs_search.specs.Links.{HasLink, IsFrom, IsLinked, LinkedBy, OfLink}
use Rattle.hs_search.specs.Rounds.{Row, AllBrought, BroughtBy}
use Rattle.hs_search.specs.Searching.{HasExpanded, Stored}
use Rattle.hs_search.specs.Storing.{row_of, rows_of}
use Rattle.hs_search.specs.declared.graph.Node.{Node}
use Rattle.hs_search.specs.declared.lists.Item.{Item}
use Rattle.hs_search.specs.declared.reach.Reach.{Reach}

abbrev pub row_with : Node → ℕ → ℕ → Row
row_with node length level = record { node = node; length = length; level = level }

-- rows stay, when calls are added
pub row_kept : (old new : List (Item ℕ)) → Grows old new → (s : Reach) → s.call < length old → row_of new s ≡ row_of old s
row_kept old new grows s known = ap (λ (n : Node). row_with n s.length s.level) (node_kept old new grows s known)

pub rows_kept : (graph : FlowGraph) (old new : List (Item ℕ)) → Grows old new → (rows : List (Item Reach))
    → ((n : ℕ) (it : Item Reach) → slice_get rows n ≡ Some it → IsPlaced graph old it.value) → rows_of new rows ≡ rows_of old rows
rows_kept graph old new grows [] placed = refl
rows_kept graph old new grows (it ∷ rows) placed =
    ap (λ r. r ∷ rows_of new rows) (row_kept old new grows it.value (placed 0 it refl).known)
    ∙ ap (λ rs. row_of old it.value ∷ rs) (rows_kept graph old new grows rows (λ n its there. placed (suc n) its there))

pub grows_then : (old mid new : List (Item ℕ)) → Grows old mid → Grows mid new → Grows old new
grows_then old mid new first second =
    (first.0 ++ second.0, second.1 ∙ ap (λ es. es ++ second.0) first.1 ∙ append_assoc old first.0 second.0)

-- the row of a number
pub rows_at : (entries : List (Item ℕ)) (rows : List (Item Reach)) (n : ℕ) (it : Item Reach) → slice_get rows n ≡ Some it
    → slice_get (rows_of entries rows) n ≡ Some (row_of entries it.value)
rows_at entries [] n it there = absurd cc
rows_at entries (r ∷ rows) zero it there = ap (λ (i : Item Reach). Some (row_of entries i.value)) (some_is there)
rows_at entries (r ∷ rows) (suc n) it there = rows_at entries rows n it there

pub expanded_none : (graph : FlowGraph) (rows : List (Item Reach)) (first : ℕ) (book : Book) (near jumps : List Reach) → near ≡ [] → jumps ≡ []
    → IsLaidOut graph rows book first → HasExpanded graph rows first first book book near jumps
expanded_none graph rows first book near jumps no_near no_jumps laid = record {
  laid_out = laid;
  grows = grows_none book.entries;
  placed = λ s has. absurd (none s has);
  linked = λ s has. absurd (none s has);
  all = AllBrought-none graph (rows_of book.entries rows) first (Stored book.entries (Has (near ++ jumps))) (λ o its. none its.0 its.1);
  links = λ up last r is from. absurd (late up last (lower_by graph (rows_of book.entries rows) first up last r is) from);
  long = λ s has. absurd (none s (Has-left near jumps s has));
}
  where
    none : (s : Reach) → Has (near ++ jumps) s → ⊥
    none s has = subst (λ xs. Has xs s) (ap (λ ns. ns ++ jumps) no_near ∙ no_jumps) has

    late : (up last : ℕ) → (up ≤ first) × (last ≤ first) → IsFrom first up last → ⊥
    late up last low (inl more) = absurd (let up_low = low.0 in omega arith)
    late up last low (inr more) = absurd (let last_low = low.1 in omega arith)

-- a link to rows before a place
link_take : (graph : FlowGraph) (rows : List Row) (m n up last : ℕ) (r : Row) → LinkedBy graph (take m rows) up last r → up ≤ n → last ≤ n
    → LinkedBy graph (take n rows) up last r
link_take graph rows m n zero zero r is up_low last_low = is
link_take graph rows m n zero (suc last) r is up_low last_low = is
link_take graph rows m n (suc up) zero r (x, at, after) up_low last_low =
    (x, row_take rows n up x (omega arith) (take_there rows m up x at), after)
  where
    row_take : (xs : List Row) (n k : ℕ) (x : Row) → k < n → slice_get xs k ≡ Some x → slice_get (take n xs) k ≡ Some x
    row_take xs zero k x less at = absurd (omega arith)
    row_take [] (suc n) k x less at = absurd cc
    row_take (y ∷ xs) (suc n) zero x less at = at
    row_take (y ∷ xs) (suc n) (suc k) x less at = row_take xs n k x (omega arith) at
link_take graph rows m n (suc up) (suc last) r (c, e, at_c, at_e, back) up_low last_low =
    (c, e, row_take rows n up c (omega arith) (take_there rows m up c at_c), row_take rows n last e (omega arith) (take_there rows m last e at_e), back)
  where
    row_take : (xs : List Row) (n k : ℕ) (x : Row) → k < n → slice_get xs k ≡ Some x → slice_get (take n xs) k ≡ Some x
    row_take xs zero k x less at = absurd (omega arith)
    row_take [] (suc n) k x less at = absurd cc
    row_take (y ∷ xs) (suc n) zero x less at = at
    row_take (y ∷ xs) (suc n) (suc k) x less at = row_take xs n k x (omega arith) at

pub expanded_next : (graph : FlowGraph) (rows : List (Item Reach)) (first count : ℕ) (it : Item Reach) (old mid new : Book)
    (near near' jumps jumps' : List Reach) → first ≤ count → slice_get rows count ≡ Some it → HasExpanded graph rows first count old mid near jumps
    → IsExpanded graph rows count it mid new near near' jumps jumps' → HasExpanded graph rows first (suc count) old new near' jumps'
expanded_next graph rows first count it old mid new near near' jumps jumps' order there before step = record {
  laid_out = step.laid_out;
  grows = grows_then old.entries mid.entries new.entries before.grows step.grows;
  placed = λ s has. placed s (parts s has);
  linked = λ s has. linked s (parts s has);
  all = AllBrought-next graph (rows_of new.entries rows) first count (row_of new.entries it.value) (Stored new.entries (Has (near ++ jumps)))
      (Stored new.entries (Has (near' ++ jumps'))) order (subst (λ rs. AllBrought graph rs first count (Stored new.entries (Has (near ++ jumps))))
      (sym same_rows)
      (kept_all before.all)) (rows_at new.entries rows count it there) (λ o its. (its.0, wider its.0 its.1, its.2))
      (λ o its. from o its (parts its.0 its.1)) (λ o by. let its = step.brought o by in (its.0, newer its.0 its.1, its.2));
  links = λ up last r is from. links up last r is from (cases_order count up) (cases_order count last);
  long = λ s has. long s (Has-either near step.steps s (subst (λ ns. Has ns s) step.near_is has));
}
  where
    same_rows : rows_of new.entries rows ≡ rows_of mid.entries rows
    same_rows = rows_kept graph mid.entries new.entries step.grows rows before.laid_out.placed

    parts : (s : Reach) → Has (near' ++ jumps') s → Has (near ++ jumps) s ⊎ Has (step.steps ++ step.returns) s
    parts s has = outer (Has-either near' jumps' s has)
      where
        in_near : Has near s ⊎ Has step.steps s → Has (near ++ jumps) s ⊎ Has (step.steps ++ step.returns) s
        in_near (inl old_one) = inl (Has-left near jumps s old_one)
        in_near (inr new_one) = inr (Has-left step.steps step.returns s new_one)

        in_far : Has jumps s ⊎ Has step.returns s → Has (near ++ jumps) s ⊎ Has (step.steps ++ step.returns) s
        in_far (inl old_one) = inl (Has-right near jumps s old_one)
        in_far (inr new_one) = inr (Has-right step.steps step.returns s new_one)

        outer : Has near' s ⊎ Has jumps' s → Has (near ++ jumps) s ⊎ Has (step.steps ++ step.returns) s
        outer (inl n) = in_near (Has-either near step.steps s (subst (λ ns. Has ns s) step.near_is n))
        outer (inr j) = in_far (Has-either jumps step.returns s (subst (λ js. Has js s) step.jumps_is j))

    wider : (s : Reach) → Has (near ++ jumps) s → Has (near' ++ jumps') s
    wider s has = outer (Has-either near jumps s has)
      where
        outer : Has near s ⊎ Has jumps s → Has (near' ++ jumps') s
        outer (inl n) = Has-left near' jumps' s (subst (λ ns. Has ns s) (sym step.near_is) (Has-left near step.steps s n))
        outer (inr j) = Has-right near' jumps' s (subst (λ js. Has js s) (sym step.jumps_is) (Has-left jumps step.returns s j))

    newer : (s : Reach) → Has (step.steps ++ step.returns) s → Has (near' ++ jumps') s
    newer s has = outer (Has-either step.steps step.returns s has)
      where
        outer : Has step.steps s ⊎ Has step.returns s → Has (near' ++ jumps') s
        outer (inl n) = Has-left near' jumps' s (subst (λ ns. Has ns s) (sym step.near_is) (Has-right near step.steps s n))
        outer (inr j) = Has-right near' jumps' s (subst (λ js. Has js s) (sym step.jumps_is) (Has-right jumps step.returns s j))

    placed : (s : Reach) → Has (near ++ jumps) s ⊎ Has (step.steps ++ step.returns) s → IsPlaced graph new.entries s
    placed s (inl has) = placed_kept graph mid.entries new.entries step.grows s (before.placed s has)
    placed s (inr has) = step.placed s has

    linked : (s : Reach) → Has (near ++ jumps) s ⊎ Has (step.steps ++ step.returns) s → HasLink graph (rows_of new.entries rows) new.entries s
    linked s (inl has) =
        subst (λ rs. HasLink graph rs new.entries s) (sym same_rows)
        (subst (IsLinked graph (rows_of mid.entries rows) s.origin) (sym (row_kept mid.entries new.entries step.grows s (before.placed s has).known))
        (before.linked s has))
    linked s (inr has) = step.linked s has

    long : (s : Reach) → Has near s ⊎ Has step.steps s
        → (n : ℕ) × (its : Item Reach) × (first ≤ n) × (slice_get rows n ≡ Some its) × (s.length ≡ suc its.value.length)
    long s (inl has) = before.long s has
    long s (inr has) = (count, it, order, there, step.long s has)

    stays : (s : Reach) → Has (near ++ jumps) s → row_of new.entries s ≡ row_of mid.entries s
    stays s has = row_kept mid.entries new.entries step.grows s (before.placed s has).known

    kept_all : AllBrought graph (rows_of mid.entries rows) first count (Stored mid.entries (Has (near ++ jumps)))
        → AllBrought graph (rows_of mid.entries rows) first count (Stored new.entries (Has (near ++ jumps)))
    kept_all all = record {
      from = λ o its. all.from o (its.0, its.1, sym (stays its.0 its.1) ∙ its.2);
      brought = λ n x o low below at by. let its = all.brought n x o low below at by in (its.0, its.1, stays its.0 its.1 ∙ its.2);
    }

    from : (o : Row) → (its : Stored new.entries (Has (near' ++ jumps')) o) → Has (near ++ jumps) its.0 ⊎ Has (step.steps ++ step.returns) its.0
        → Stored new.entries (Has (near ++ jumps)) o ⊎ BroughtBy graph (take (suc count) (rows_of new.entries rows)) (row_of new.entries it.value) o
    from o its (inl has) = inl (its.0, has, its.2)
    from o its (inr has) = inr (subst (BroughtBy graph (take (suc count) (rows_of new.entries rows)) (row_of new.entries it.value)) its.2 (step.from its.0 has))

    links : (up last : ℕ) (r : Row) → LinkedBy graph (take (suc count) (rows_of new.entries rows)) up last r → IsFrom first up last
        → (count ≡ up) ⊎ (count < up) ⊎ (up < count) → (count ≡ last) ⊎ (count < last) ⊎ (last < count)
        → OfLink new.entries (Has (near' ++ jumps')) up last r
    links up last r is from up_order last_order = by up_order last_order
      where
        of_row : IsFrom count up last → OfLink new.entries (Has (near' ++ jumps')) up last r
        of_row late = let one = step.links up last r is late in (one.0, newer one.0 one.1, one.2, one.3, one.4)

        of_old : up ≤ count → last ≤ count → OfLink new.entries (Has (near' ++ jumps')) up last r
        of_old up_low last_low =
            let one = before.links up last r (subst (λ rs. LinkedBy graph (take count rs) up last r) same_rows
            (link_take graph (rows_of new.entries rows) (suc count) count up last r is up_low last_low)) from in
            (one.0, wider one.0 one.1, stays one.0 one.1 ∙ one.2, one.3, one.4)

        by : (count ≡ up) ⊎ (count < up) ⊎ (up < count) → (count ≡ last) ⊎ (count < last) ⊎ (last < count)
            → OfLink new.entries (Has (near' ++ jumps')) up last r
        by (inr (inl late)) other = of_row (inl late)
        by (inl low) (inr (inl late)) = of_row (inr late)
        by (inl low) (inl also) = of_old (omega arith) (omega arith)
        by (inl low) (inr (inr also)) = of_old (omega arith) (omega arith)
        by (inr (inr low)) (inr (inl late)) = of_row (inr late)
        by (inr (inr low)) (inl also) = of_old (omega arith) (omega arith)
        by (inr (inr low)) (inr (inr also)) = of_old (omega arith) (omega arith)
