-- The rounds of the search: offers are taken, and the rows that came of them make their own.
use Rattle.std.proofs.Common.{◌≡◌, ◌<◌, ◌≤◌, ℕ, zero, suc, List, [], ◌∷◌, ◌++◌, inl, inr, ◌⊎◌, refl, ap, sym, ◌∙◌, Some, subst, arith, take, length, slice_get}
use Rattle.std.proofs.lemmas.Bool.{cases_order}
use Rattle.hs_search.specs.Laws.Exactness.{call_longer}
use Rattle.hs_search.proofs.Listing.{some_is, get_there, take_left}
use Rattle.hs_search.specs.Laws.Membership.{Has-left, Has-either}
use Rattle.hs_search.specs.Graphs.{FlowGraph, Has, IsFramed}
use Rattle.hs_search.specs.Rounds.{Row, Known, Candidate, starts, goes, enters, leaves, IsNext, Built, nothing, round, Closed, stepped, entered_by, returned, first_row, IsReady, IsTaken, BroughtBy, by_step, by_call, as_caller, as_end, AllBrought}
use Rattle.hs_search.specs.declared.graph.Node.{Node}

-- what is known stays known
pub Known-more : (rows more : List Row) (node : Node) → Known rows node → Known (rows ++ more) node
Known-more rows more node known = (known.0, Has-left rows more known.0 known.1, known.2)

-- a candidate stays one
pub Candidate-more : (graph : FlowGraph) (rows more : List Row) → ((r : Row) → Has rows r → Has more r) → (o : Row) → Candidate graph rows o
    → Candidate graph more o
Candidate-more graph rows more also _ starts = starts
Candidate-more graph rows more also _ (goes y to has step) = goes y to (also y has) step
Candidate-more graph rows more also _ (enters y b has is) = enters y b (also y has) is
Candidate-more graph rows more also _ (leaves c e y at_call at_end enter leave) = leaves c e y (also c at_call) (also e at_end) enter leave

BroughtBy-more : (graph : FlowGraph) (rows more : List Row) → ((r : Row) → Has rows r → Has more r) → (x o : Row) → BroughtBy graph rows x o
    → BroughtBy graph more x o
BroughtBy-more graph rows more also x _ (by_step y step) = by_step y step
BroughtBy-more graph rows more also x _ (by_call b is) = by_call b is
BroughtBy-more graph rows more also x _ (as_caller e y has enter leave) = as_caller e y (also e has) enter leave
BroughtBy-more graph rows more also x _ (as_end c y has enter leave) = as_end c y (also c has) enter leave

-- what a row brings is a candidate
pub BroughtBy-candidate : (graph : FlowGraph) (rows : List Row) (x : Row) → Has rows x → (o : Row) → BroughtBy graph rows x o → Candidate graph rows o
BroughtBy-candidate graph rows x has _ (by_step y step) = goes x y has step
BroughtBy-candidate graph rows x has _ (by_call b is) = enters x b has is
BroughtBy-candidate graph rows x has _ (as_caller e y at_end enter leave) = leaves x e y has at_end enter leave
BroughtBy-candidate graph rows x has _ (as_end c y at_call enter leave) = leaves c x y at_call has enter leave

-- and longer than the row
pub BroughtBy-longer : (graph : FlowGraph) → IsFramed graph → (rows : List Row) → Built graph rows → (x : Row) → Has rows x → (o : Row)
    → BroughtBy graph rows x o
    → x.length < o.length
BroughtBy-longer graph framed rows built x has _ (by_step y step) = omega arith
BroughtBy-longer graph framed rows built x has _ (by_call b is) = omega arith
BroughtBy-longer graph framed rows built x has _ (as_caller e y at_end enter leave) = omega arith
BroughtBy-longer graph framed rows built x has _ (as_end c y at_call enter leave) = call_longer graph framed rows built c x at_call has enter

-- ---- one row more

last_or : (rows : List Row) (x y : Row) → Has (rows ++ x ∷ []) y → Has rows y ⊎ (x ≡ y)
last_or rows x y has = step (Has-either rows (x ∷ []) y has)
  where
    step : Has rows y ⊎ Has (x ∷ []) y → Has rows y ⊎ (x ≡ y)
    step (inl front) = inl front
    step (inr (inl is)) = inr is
    step (inr (inr none)) = absurd none

-- each candidate over one row more was one before, or the row brings it
new_or_old : (graph : FlowGraph) (rows : List Row) (x o : Row) → Candidate graph (rows ++ x ∷ []) o
    → Candidate graph rows o ⊎ BroughtBy graph (rows ++ x ∷ []) x o
new_or_old graph rows x _ starts = inl starts
new_or_old graph rows x _ (goes y to has step) = from (last_or rows x y has)
  where
    from : Has rows y ⊎ (x ≡ y) → Candidate graph rows (stepped y to) ⊎ BroughtBy graph (rows ++ x ∷ []) x (stepped y to)
    from (inl old) = inl (goes y to old step)
    from (inr is) = inr (subst (λ r. BroughtBy graph (rows ++ x ∷ []) x (stepped r to)) is (by_step to (subst (λ r. Has (graph.steps r.node) to)
        (sym is) step)))
new_or_old graph rows x _ (enters y b has call) = from (last_or rows x y has)
  where
    from : Has rows y ⊎ (x ≡ y) → Candidate graph rows (entered_by y b) ⊎ BroughtBy graph (rows ++ x ∷ []) x (entered_by y b)
    from (inl old) = inl (enters y b old call)
    from (inr is) = inr (subst (λ r. BroughtBy graph (rows ++ x ∷ []) x (entered_by r b)) is (by_call b (subst (λ r. graph.enters r.node ≡ Some b)
        (sym is) call)))
new_or_old graph rows x _ (leaves c e y at_call at_end enter leave) = from (last_or rows x c at_call) (last_or rows x e at_end)
  where
    from : Has rows c ⊎ (x ≡ c) → Has rows e ⊎ (x ≡ e) → Candidate graph rows (returned c e y) ⊎ BroughtBy graph (rows ++ x ∷ []) x (returned c e y)
    from (inl old) (inl old_end) = inl (leaves c e y old old_end enter leave)
    from (inl old) (inr same) = inr (subst (λ r. BroughtBy graph (rows ++ x ∷ []) x (returned c r y)) same
        (as_end c y at_call (subst (λ r. graph.enters c.node ≡ Some (graph.entry r.node)) (sym same) enter)
        (subst (λ r. graph.leaves c.node r.node ≡ Some y) (sym same) leave)))
    from (inr same) ends = inr (subst (λ r. BroughtBy graph (rows ++ x ∷ []) x (returned r e y)) same
        (as_caller e y at_end (subst (λ r. graph.enters r.node ≡ Some (graph.entry e.node)) (sym same) enter)
        (subst (λ r. graph.leaves r.node e.node ≡ Some y) (sym same) leave)))

-- ---- lists cut at a place

take_more : (rows : List Row) (n : ℕ) (x : Row) → slice_get rows n ≡ Some x → take (suc n) rows ≡ take n rows ++ x ∷ []
take_more [] n x there = absurd cc
take_more (r ∷ rows) zero x there = ap (λ y. y ∷ []) (some_is there)
take_more (r ∷ rows) (suc n) x there = ap (λ rs. r ∷ rs) (take_more rows n x there)

pub take_Has : (rows : List Row) (n : ℕ) (x : Row) → Has (take n rows) x → Has rows x
take_Has rows zero x has = absurd has
take_Has [] (suc n) x has = absurd has
take_Has (r ∷ rows) (suc n) x (inl is) = inl is
take_Has (r ∷ rows) (suc n) x (inr has) = inr (take_Has rows n x has)

pub get_Has : (rows : List Row) (n : ℕ) (x : Row) → slice_get rows n ≡ Some x → Has rows x
get_Has [] n x there = absurd cc
get_Has (r ∷ rows) zero x there = inl (some_is there)
get_Has (r ∷ rows) (suc n) x there = inr (get_Has rows n x there)

pub take_all : (rows : List Row) → take (length rows) rows ≡ rows
take_all [] = refl
take_all (r ∷ rows) = ap (λ rs. r ∷ rs) (take_all rows)

pub take_front_of : (n : ℕ) (rows more : List Row) → n ≤ length rows → take n (rows ++ more) ≡ take n rows
take_front_of = take_left

take_front : (rows more : List Row) → take (length rows) (rows ++ more) ≡ rows
take_front [] more = refl
take_front (r ∷ rows) more = ap (λ rs. r ∷ rs) (take_front rows more)

-- ---- rows bring their offers, one after the other

pub AllBrought-none : (graph : FlowGraph) (rows : List Row) (first : ℕ) (New : Row → Type 0) → ((o : Row) → ¬ New o) → AllBrought graph rows first first New
AllBrought-none graph rows first New none = record {
  from = λ o new. absurd (none o new);
  brought = λ n x o from below there by. absurd (omega arith);
}

pub AllBrought-next : (graph : FlowGraph) (rows : List Row) (first count : ℕ) (x : Row) (Old New : Row → Type 0) → first ≤ count
    → AllBrought graph rows first count Old → slice_get rows count ≡ Some x → ((o : Row) → Old o → New o)
    → ((o : Row) → New o → Old o ⊎ BroughtBy graph (take (suc count) rows) x o)
    → ((o : Row) → BroughtBy graph (take (suc count) rows) x o → New o) → AllBrought graph rows first (suc count) New
AllBrought-next graph rows first count x Old New order before there kept from brought = record {
  from = λ o new. of o (from o new);
  brought = λ n y o low below at by. all n y o low below at by (cases_order n count);
}
  where
    widen : (o : Row) → (n : ℕ) × (y : Row) × (first ≤ n) × (n < count) × (slice_get rows n ≡ Some y) × BroughtBy graph rows y o
        → (n : ℕ) × (y : Row) × (first ≤ n) × (n < suc count) × (slice_get rows n ≡ Some y) × BroughtBy graph rows y o
    widen o its = (its.0, its.1, its.2, (let below = its.3 in omega arith), its.4, its.5)

    of : (o : Row) → Old o ⊎ BroughtBy graph (take (suc count) rows) x o
        → (n : ℕ) × (y : Row) × (first ≤ n) × (n < suc count) × (slice_get rows n ≡ Some y) × BroughtBy graph rows y o
    of o (inl old) = widen o (before.from o old)
    of o (inr by) = (count, x, order, omega arith, there, BroughtBy-more graph (take (suc count) rows) rows (take_Has rows (suc count)) x o by)

    all : (n : ℕ) (y o : Row) → first ≤ n → n < suc count → slice_get rows n ≡ Some y → BroughtBy graph (take (suc n) rows) y o
        → (n ≡ count) ⊎ (n < count) ⊎ (count < n) → New o
    all n y o low below at by (inr (inl less)) = kept o (before.brought n y o low less at by)
    all n y o low below at by (inr (inr more)) = absurd (omega arith)
    all n y o low below at by (inl same) =
        let it : slice_get rows count ≡ Some y = subst (λ k. slice_get rows k ≡ Some y) same at in
        let is : y ≡ x = some_is (sym it ∙ there) in
        brought o (subst (λ k. BroughtBy graph (take (suc k) rows) x o) same (subst (λ r. BroughtBy graph (take (suc n) rows) r o) is by))

-- the candidates over the rows that have brought their offers
complete_one : (graph : FlowGraph) (rows : List Row) (n : ℕ) (x : Row) (Offers : Row → Type 0) → slice_get rows n ≡ Some x
    → ((o : Row) → Candidate graph (take n rows) o → Known rows o.node ⊎ Offers o)
    → ((o : Row) → BroughtBy graph (take (suc n) rows) x o → Offers o)
    → (o : Row) → Candidate graph (take (suc n) rows) o → Known rows o.node ⊎ Offers o
complete_one graph rows n x Offers there before brought o candidate =
    from (new_or_old graph (take n rows) x o (subst (λ rs. Candidate graph rs o) (take_more rows n x there) candidate))
  where
    from : Candidate graph (take n rows) o ⊎ BroughtBy graph (take n rows ++ x ∷ []) x o → Known rows o.node ⊎ Offers o
    from (inl old) = before o old
    from (inr by) = inr (brought o (subst (λ rs. BroughtBy graph rs x o) (sym (take_more rows n x there)) by))

pub AllBrought-complete : (graph : FlowGraph) (rows : List Row) (first count : ℕ) (Left New : Row → Type 0) → first ≤ count → count ≤ length rows
    → AllBrought graph rows first count New
    → ((o : Row) → Candidate graph (take first rows) o → Known rows o.node ⊎ Left o)
    → (o : Row) → Candidate graph (take count rows) o → Known rows o.node ⊎ (Left o ⊎ New o)
AllBrought-complete graph rows first count Left New order within all complete = upto count order (omega arith)
  where
    lifted : (o : Row) → Known rows o.node ⊎ Left o → Known rows o.node ⊎ (Left o ⊎ New o)
    lifted o (inl known) = inl known
    lifted o (inr left) = inr (inl left)

    start : (n : ℕ) → first ≡ n → (o : Row) → Candidate graph (take n rows) o → Known rows o.node ⊎ (Left o ⊎ New o)
    start n same o candidate = lifted o (complete o (subst (λ k. Candidate graph (take k rows) o) (sym same) candidate))

    one : (n : ℕ) → first ≤ n → n < count → ((o : Row) → Candidate graph (take n rows) o → Known rows o.node ⊎ (Left o ⊎ New o))
        → (o : Row) → Candidate graph (take (suc n) rows) o → Known rows o.node ⊎ (Left o ⊎ New o)
    one n from less before =
        let its = get_there rows n (omega arith) in
        complete_one graph rows n its.0 (λ o. Left o ⊎ New o) its.1 before (λ o by. inr (all.brought n its.0 o from less its.1 by))

    pick : (n : ℕ) → first ≤ suc n → suc n ≤ count → (first ≡ suc n) ⊎ (first < suc n) ⊎ (suc n < first)
        → (first ≤ n → (o : Row) → Candidate graph (take n rows) o → Known rows o.node ⊎ (Left o ⊎ New o))
        → (o : Row) → Candidate graph (take (suc n) rows) o → Known rows o.node ⊎ (Left o ⊎ New o)
    pick n from less (inl same) before = start (suc n) same
    pick n from less (inr (inl more)) before = one n (omega arith) (omega arith) (before (omega arith))
    pick n from less (inr (inr wrong)) before = absurd (omega arith)

    upto : (n : ℕ) → first ≤ n → n ≤ count → (o : Row) → Candidate graph (take n rows) o → Known rows o.node ⊎ (Left o ⊎ New o)
    upto zero from less = start zero (omega arith)
    upto (suc n) from less = pick n from less (cases_order first (suc n)) (λ inside. upto n inside (omega arith))

-- ---- a round

-- at the start there is one candidate
pub ready_first : (graph : FlowGraph) → IsReady graph 1 [] (λ o. first_row graph ≡ o)
ready_first graph = record {
  built = nothing;
  sound = λ o is. subst (Candidate graph []) is starts;
  complete = λ o candidate. one o candidate;
  later = λ o is. subst (λ (r : Row). 1 ≤ r.length) is (omega arith);
}
  where
    one : (o : Row) → Candidate graph [] o → Known [] o.node ⊎ (first_row graph ≡ o)
    one _ starts = inr refl
    one _ (goes y to has step) = absurd has
    one _ (enters y b has is) = absurd has
    one _ (leaves c e y at_call at_end enter leave) = absurd at_call

-- the offers may be said in another way
pub ready_same : (graph : FlowGraph) (next : ℕ) (rows : List Row) (Offers Others : Row → Type 0) → IsReady graph next rows Offers
    → ((o : Row) → Offers o → Others o) → ((o : Row) → Others o → Offers o) → IsReady graph next rows Others
ready_same graph next rows Offers Others ready there back = record {
  built = ready.built;
  sound = λ o is. ready.sound o (back o is);
  complete = λ o candidate. step o (ready.complete o candidate);
  later = λ o is. ready.later o (back o is);
}
  where
    step : (o : Row) → Known rows o.node ⊎ Offers o → Known rows o.node ⊎ Others o
    step o (inl known) = inl known
    step o (inr is) = inr (there o is)

-- the rows that were taken are built
pub taken_built : (graph : FlowGraph) (next : ℕ) (rows layer : List Row) (Offers Left : Row → Type 0) → IsReady graph next rows Offers
    → IsTaken next rows Offers layer Left → Built graph (rows ++ layer)
taken_built graph next rows layer Offers Left ready taken = round rows layer ready.built (λ row has. its row (taken.each row has))
  where
    least : (row : Row) → row.length ≡ next → (other : Row) → Known rows other.node ⊎ Offers other → Known rows other.node ⊎ (row.length ≤ other.length)
    least row long other (inl known) = inl known
    least row long other (inr has) = inr (let bound = ready.later other has in omega arith)

    its : (row : Row) → Offers row × (row.length ≡ next) × ¬ (Known rows row.node) → IsNext graph rows row
    its row all = record {
      candidate = ready.sound row all.0;
      outside = all.2;
      least = λ other candidate. least row all.1 other (ready.complete other candidate);
    }

-- behind so many rows, those of the layer
pub behind : (rows layer : List Row) (n : ℕ) (x : Row) → length rows ≤ n → slice_get (rows ++ layer) n ≡ Some x → Has layer x
behind [] layer n x from at = get_Has layer n x at
behind (r ∷ rows) layer zero x from at = absurd (omega arith)
behind (r ∷ rows) layer (suc n) x from at = behind rows layer n x (omega arith) at

pub longer : (rows layer : List Row) → length rows ≤ length (rows ++ layer)
longer [] layer = omega arith
longer (r ∷ rows) layer = let rest = longer rows layer in omega arith

-- the next round may begin, once they have brought their offers
pub ready_next : (graph : FlowGraph) → IsFramed graph → (next : ℕ) (rows layer : List Row) (Offers Left New : Row → Type 0) → IsReady graph next rows Offers
    → IsTaken next rows Offers layer Left → AllBrought graph (rows ++ layer) (length rows) (length (rows ++ layer)) New
    → IsReady graph (suc next) (rows ++ layer) (λ o. Left o ⊎ New o)
ready_next graph framed next rows layer Offers Left New ready taken all = record {
  built = built;
  sound = λ o is. sound o is;
  complete = λ o candidate. complete o (subst (λ rs. Candidate graph rs o) (sym (take_all (rows ++ layer))) candidate);
  later = λ o is. later o is;
}
  where
    built : Built graph (rows ++ layer)
    built = taken_built graph next rows layer Offers Left ready taken

    sound : (o : Row) → Left o ⊎ New o → Candidate graph (rows ++ layer) o
    sound o (inl left) = Candidate-more graph rows (rows ++ layer) (Has-left rows layer) o (ready.sound o (taken.from o left))
    sound o (inr new) =
        let its = all.from o new in
        BroughtBy-candidate graph (rows ++ layer) its.1 (get_Has (rows ++ layer) its.0 its.1 its.4) o its.5

    at_first : (o : Row) → Known rows o.node ⊎ Offers o → Known (rows ++ layer) o.node ⊎ Left o
    at_first o (inl known) = inl (Known-more rows layer o.node known)
    at_first o (inr has) = taken.kept o has

    complete : (o : Row) → Candidate graph (take (length (rows ++ layer)) (rows ++ layer)) o → Known (rows ++ layer) o.node ⊎ (Left o ⊎ New o)
    complete =
        AllBrought-complete graph (rows ++ layer) (length rows) (length (rows ++ layer)) Left New (longer rows layer) (omega arith) all
        (λ o candidate. at_first o (ready.complete o (subst (λ rs. Candidate graph rs o) (take_front rows layer) candidate)))

    later : (o : Row) → Left o ⊎ New o → suc next ≤ o.length
    later o (inl left) = let less = taken.later o left in omega arith
    later o (inr new) =
        let its = all.from o new in
        let long = (taken.each its.1 (behind rows layer its.0 its.1 its.2 its.4)).1 in
        let more = BroughtBy-longer graph framed (rows ++ layer) built its.1 (get_Has (rows ++ layer) its.0 its.1 its.4) o its.5 in
        omega arith

-- what is left is longer
pub ready_closed : (graph : FlowGraph) (most next : ℕ) (rows : List Row) (Offers : Row → Type 0) → IsReady graph next rows Offers
    → ((o : Row) → Offers o → most < o.length) → Closed graph most rows
ready_closed graph most next rows Offers ready past other candidate = step (ready.complete other candidate)
  where
    step : Known rows other.node ⊎ Offers other → Known rows other.node ⊎ (most < other.length)
    step (inl known) = inl known
    step (inr has) = inr (past other has)
