-- The bases and lengths of rows, and of an offer after them: two chains with as many entries are told apart.
use Rattle.std.proofs.Common.{◌≡◌, ◌≢◌, ◌<◌, ℕ, zero, suc, ◌+◌, Bool, true, false, List, [], ◌∷◌, inl, inr, ◌⊎◌, refl, ap, sym, ◌∙◌, Some, None, subst, arith, length, slice_get, take}
use Rattle.hs_search.proofs.Deciding.{under_size}
use Rattle.hs_search.proofs.Expansions.{rows_at}
use Rattle.hs_search.proofs.Listing.{get_within, some_is}
use Rattle.hs_search.proofs.Parting.{one_place, parted_joined, row_there, take_below, take_there}
use Rattle.hs_search.specs.Chains.{IsOnce}
use Rattle.hs_search.specs.Deciding.{Decides, IsDeadEnd, IsTree, Keeps}
use Rattle.hs_search.specs.Graphs.{FlowGraph, Has, IsFramed}
use Rattle.hs_search.specs.Judging.{link_by, link_of}
use Rattle.hs_search.specs.Laws.Exactness.{call_longer}
use Rattle.hs_search.specs.Laws.Nodes.{itself, same_is, same_node}
use Rattle.hs_search.specs.Links.{IsAfter, LinkedBy}
use Rattle.hs_search.specs.Meeting.{Under, before}
use Rattle.hs_search.specs.Meeting as meeting
use Rattle.hs_search.specs.Rivals.{IsJoined, IsRival, base_in, base_of, length_in, place_if, place_of, size_of}
use Rattle.hs_search.specs.Rounds.{Row, Built}
use Rattle.hs_search.specs.Searching.{nodes_in}
use Rattle.hs_search.specs.Storing.{node_of, row_of, rows_of}
use Rattle.hs_search.specs.declared.graph.Node.{Node}
use Rattle.hs_search.specs.declared.judging.Link.{Link}
use Rattle.hs_search.specs.declared.judging.Link.TheVariants as link
use Rattle.hs_search.specs.declared.lists.Item.{Item}
use Rattle.hs_search.specs.declared.reach.Reach.{Reach}

-- ---- places of nodes

get_has : {A : Type 0} → (xs : List A) (n : ℕ) (x : A) → slice_get xs n ≡ Some x → Has xs x
get_has [] n x there = absurd cc
get_has (y ∷ xs) zero x there = inl (some_is there)
get_has (y ∷ xs) (suc n) x there = inr (get_has xs n x there)

-- a node that is there once is at its place
place_own : (nodes : List Node) (n : ℕ) (x : Node) → IsOnce nodes → slice_get nodes n ≡ Some x → place_of nodes x ≡ suc n
place_own [] n x once there = absurd cc
place_own (y ∷ nodes) zero x once there =
    ap (λ b. place_if b (place_of nodes x)) (subst (λ z. same_node z x ≡ true) (sym (some_is there)) (itself x))
place_own (y ∷ nodes) (suc n) x once there = step (same_node y x) refl (place_own nodes n x once.1 there)
  where
    step : (b : Bool) → same_node y x ≡ b → place_of nodes x ≡ suc n → place_if b (place_of nodes x) ≡ suc (suc n)
    step true is rest = absurd (once.0 (subst (Has nodes) (sym (same_is y x is)) (get_has nodes n x there)))
    step false is rest = ap (place_if false) rest

node_at : (entries : List (Item ℕ)) (rows : List (Item Reach)) (n : ℕ) (it : Item Reach) → slice_get rows n ≡ Some it
    → slice_get (nodes_in (rows_of entries rows)) n ≡ Some (node_of entries it.value)
node_at entries [] n it there = absurd cc
node_at entries (r ∷ rows) zero it there = ap (λ (x : Item Reach). Some (node_of entries x.value)) (some_is there)
node_at entries (r ∷ rows) (suc n) it there = node_at entries rows n it there

some_node : {a b : Node} → Some a ≡ Some b → a ≡ b
some_node h = cc

-- ---- what the link of a row says

module _ (graph : FlowGraph) (framed : IsFramed graph) (entries : List (Item ℕ)) (rows all : List (Item Reach))
    (joined : IsJoined graph entries rows all) where
  abbrev node : Item Reach → Node
  node it = node_of entries it.value

  -- by which row or rows it was reached
  abbrev Shape : ℕ → Item Reach → ℕ → Link → Type 0
  Shape n it zero l = (l ≡ link.Entry) × (node it ≡ graph.start) × (it.value.length ≡ 1) × (it.value.level ≡ 0)
  Shape n it (suc up) link.Step =
      (x : Item Reach) × (slice_get all up ≡ Some x) × (up < n) × Has (graph.steps (node x)) (node it) × (it.value.length ≡ suc x.value.length)
  Shape n it (suc up) link.Entry =
      (x : Item Reach) × (slice_get all up ≡ Some x) × (up < n) × (graph.enters (node x) ≡ Some (node it)) × (it.value.length ≡ suc x.value.length)
      × (it.value.level ≡ 0)
  Shape n it (suc up) (link.Return end) =
      (c : Item Reach) × (e : Item Reach) × (last : ℕ) × (end ≡ suc last) × (slice_get all up ≡ Some c) × (slice_get all last ≡ Some e) × (up < n)
      × (last < n) × (graph.enters (node c) ≡ Some (graph.entry (node e))) × (graph.leaves (node c) (node e) ≡ Some (node it))
      × (it.value.length ≡ suc (suc (c.value.length + e.value.level)))

  found : (n k : ℕ) (x : Row) → slice_get (take n (rows_of entries all)) k ≡ Some x
      → (its : Item Reach) × (slice_get all k ≡ Some its) × (k < n) × (row_of entries its.value ≡ x)
  found n k x at =
      let its = row_there entries all k x (take_there (rows_of entries all) n k x at) in
      (its.0, its.1, take_below (rows_of entries all) n k x at, its.2)

  shape : (n : ℕ) (it : Item Reach) → slice_get all n ≡ Some it → Shape n it it.value.origin.up (link_of it.value)
  shape n it at = by it.value.origin.up it.value.origin.last it.value.level refl (joined.linked n it at)
    where
      after : (up level : ℕ) (x : Row) → it.value.level ≡ level → slice_get (take n (rows_of entries all)) up ≡ Some x
          → IsAfter graph x (row_of entries it.value) → Shape n it (suc up) (link_by 0 level)
      after up zero x is there (inl (y, step, made)) = absurd (let level : suc x.level ≡ 0 = ap (λ (r : Row). r.level) made ∙ is in cc)
      after up (suc level) x is there (inl (y, step, made)) =
          let its = found n up x there in (
            its.0,
            its.1,
            its.2,
            subst (λ (r : Row). Has (graph.steps r.node) (node it)) (sym its.3)
                (subst (Has (graph.steps x.node)) (ap (λ (r : Row). r.node) made) step),
            ap (λ (r : Row). r.length) (sym made) ∙ ap (λ (r : Row). suc r.length) (sym its.3),
          )
      after up zero x is there (inr (b, enter, made)) =
          let its = found n up x there in (
            its.0,
            its.1,
            its.2,
            subst (λ (r : Row). graph.enters r.node ≡ Some (node it)) (sym its.3) (enter ∙ ap (λ y. Some y) (ap (λ (r : Row). r.node) made)),
            ap (λ (r : Row). r.length) (sym made) ∙ ap (λ (r : Row). suc r.length) (sym its.3),
            is,
          )
      after up (suc level) x is there (inr (b, enter, made)) =
          absurd (let level : 0 ≡ suc level = ap (λ (r : Row). r.level) made ∙ is in cc)

      by : (up last level : ℕ) → it.value.level ≡ level → LinkedBy graph (take n (rows_of entries all)) up last (row_of entries it.value)
          → Shape n it up (link_by last level)
      by zero zero zero is linked = (refl, ap (λ (r : Row). r.node) (sym linked), ap (λ (r : Row). r.length) (sym linked), is)
      by zero zero (suc level) is linked = absurd (let wrong : 0 ≡ suc level = ap (λ (r : Row). r.level) linked ∙ is in cc)
      by zero (suc last) level is linked = absurd linked
      by (suc up) zero level is linked = after up level linked.0 is linked.1 linked.2
      by (suc up) (suc last) level is linked =
          let c = found n up linked.0 linked.2 in
          let e = found n last linked.1 linked.3 in
          let back = linked.4 in (
            c.0,
            e.0,
            last,
            refl,
            c.1,
            e.1,
            c.2,
            e.2,
            subst (λ (r : Row). graph.enters r.node ≡ Some (graph.entry (node e.0))) (sym c.3)
                (subst (λ (r : Row). graph.enters linked.0.node ≡ Some (graph.entry r.node)) (sym e.3) back.1),
            subst (λ (r : Row). graph.leaves r.node (node e.0) ≡ Some (node it)) (sym c.3)
                (subst (λ (r : Row). graph.leaves linked.0.node r.node ≡ Some (node it)) (sym e.3)
                (back.2 ∙ ap (λ y. Some y) (ap (λ (r : Row). r.node) back.3))),
            ap (λ (r : Row). r.length) (sym back.3) ∙ ap (λ (r : Row). suc (suc (r.length + linked.1.level))) (sym c.3)
                ∙ ap (λ (r : Row). suc (suc (c.0.value.length + r.level))) (sym e.3),
          )

  -- ---- rows without the offer

  -- the first row of a call
  in_rows : (n : ℕ) (it : Item Reach) → slice_get all n ≡ Some it → it.value.level ≡ 0 → slice_get rows n ≡ Some it
  in_rows n it at low = from (joined.inside n it at)
    where
      from : (slice_get rows n ≡ Some it) ⊎ ((n ≡ length rows) × IsRival entries rows it) → slice_get rows n ≡ Some it
      from (inl there) = there
      from (inr rival) = absurd (let high = rival.1.level in omega arith)

  -- and one before another one
  below : (n k : ℕ) (it its : Item Reach) → slice_get all n ≡ Some it → k < n → slice_get all k ≡ Some its → slice_get rows k ≡ Some its
  below n k it its at less at_its = from (joined.inside n it at) (joined.inside k its at_its)
    where
      from : (slice_get rows n ≡ Some it) ⊎ ((n ≡ length rows) × IsRival entries rows it)
          → (slice_get rows k ≡ Some its) ⊎ ((k ≡ length rows) × IsRival entries rows its) → slice_get rows k ≡ Some its
      from one (inl there) = there
      from (inl here) (inr late) = absurd (let within = get_within rows n it here in let is = late.0 in omega arith)
      from (inr last) (inr late) = absurd (let one = last.0 in let is = late.0 in omega arith)

  -- ---- lengths and bases

  size : ℕ → ℕ
  size n = size_of all n

  abbrev base : ℕ → ℕ
  base n = base_of graph entries rows all n

  size_is : (n : ℕ) (it : Item Reach) → slice_get all n ≡ Some it → size_of all (suc n) ≡ it.value.length
  size_is n it at = ap length_in at

  abbrev place : Node → ℕ
  place x = place_of (nodes_in (rows_of entries rows)) x

  base_is : (n : ℕ) (it : Item Reach) → slice_get all n ≡ Some it → base (suc n) ≡ place (graph.entry (node it))
  base_is n it at = ap (base_in graph entries rows) at

  -- of the first row of a call
  place_is : (n : ℕ) (it : Item Reach) → slice_get all n ≡ Some it → it.value.level ≡ 0 → place (node it) ≡ suc n
  place_is n it at low =
      place_own (nodes_in (rows_of entries rows)) n (node it) joined.once (node_at entries rows n it (in_rows n it at low))

  base_first : (n : ℕ) (it : Item Reach) → slice_get all n ≡ Some it → it.value.level ≡ 0 → graph.entry (node it) ≡ node it → base (suc n) ≡ suc n
  base_first n it at low own = base_is n it at ∙ ap place own ∙ place_is n it at low

  base_on : (n k : ℕ) (it its : Item Reach) → slice_get all n ≡ Some it → slice_get all k ≡ Some its → graph.entry (node it) ≡ graph.entry (node its)
      → base (suc n) ≡ base (suc k)
  base_on n k it its at at_its same = base_is n it at ∙ ap place same ∙ sym (base_is k its at_its)

  -- each row is longer than the one before it
  grows : (n : ℕ) (it : Item Reach) → slice_get all n ≡ Some it → size_of all it.value.origin.up < size_of all (suc n)
  grows n it at = by it.value.origin.up (link_of it.value) (shape n it at)
    where
      own : size_of all (suc n) ≡ it.value.length
      own = size_is n it at

      by : (up : ℕ) (l : Link) → Shape n it up l → size_of all up < size_of all (suc n)
      by zero l its = (let one = its.2 in let is = own in omega arith)
      by (suc up) link.Step its = (let x = size_is up its.0 its.1 in let more = its.4 in let is = own in omega arith)
      by (suc up) link.Entry its = (let x = size_is up its.0 its.1 in let more = its.4 in let is = own in omega arith)
      by (suc up) (link.Return end) its = (let c = size_is up its.0 its.4 in let more = its.10 in let is = own in omega arith)

  -- the base of a row is before it by links
  under_base : (f n : ℕ) (it : Item Reach) → n < f → slice_get all n ≡ Some it → Under all (base (suc n)) (suc n)
  under_base zero n it less at = absurd (omega arith)
  under_base (suc f) n it less at = by it.value.origin.up (link_of it.value) refl (shape n it at)
      (λ k its below there. under_base f k its (omega arith) there)
    where
      at_first : it.value.level ≡ 0 → graph.entry (node it) ≡ node it → Under all (base (suc n)) (suc n)
      at_first low own = subst (λ b. Under all b (suc n)) (sym (base_first n it at low own)) (meeting.itself (suc n))

      after : (up : ℕ) (its : Item Reach) → it.value.origin.up ≡ suc up → slice_get all up ≡ Some its → graph.entry (node it) ≡ graph.entry (node its)
          → Under all (base (suc up)) (suc up) → Under all (base (suc n)) (suc n)
      after up its is there same under =
          subst (λ b. Under all b (suc n)) (sym (base_on n up it its at there same))
          (before (base (suc up)) n it at (subst (Under all (base (suc up))) (sym is) under))

      by : (up : ℕ) (l : Link) → it.value.origin.up ≡ up → Shape n it up l
          → ((k : ℕ) (its : Item Reach) → k < n → slice_get all k ≡ Some its → Under all (base (suc k)) (suc k)) → Under all (base (suc n)) (suc n)
      by zero l is its rest =
          at_first its.3 (ap graph.entry its.1 ∙ framed.at_start ∙ sym its.1)
      by (suc up) link.Step is its rest =
          after up its.0 is its.1 (framed.by_step (node its.0) (node it) its.3) (rest up its.0 its.2 its.1)
      by (suc up) link.Entry is its rest = at_first its.5 (framed.by_call (node its.0) (node it) its.3)
      by (suc up) (link.Return end) is its rest =
          after up its.0 is its.4 (framed.by_return (node its.0) (node its.1) (node it) its.9) (rest up its.0 its.6 its.4)

  -- no row follows one at which a call ends
  dead_end : (c : Node) (last : ℕ) (e : Item Reach) (y : Node) → slice_get all last ≡ Some e → graph.leaves c (node e) ≡ Some y → IsDeadEnd all (suc last)
  dead_end c last e y at leave n it there up_is =
      by (link_of it.value) (subst (λ up. Shape n it up (link_of it.value)) up_is (shape n it there))
    where
      stops : (graph.steps (node e) ≡ []) × (graph.enters (node e) ≡ None)
      stops = framed.stops (node e) (framed.ended c (node e) y leave)

      none_here : {A : Type 0} → (x : A) → None ≡ Some x → ⊥
      none_here x is = cc

      by : (l : Link) → Shape n it (suc last) l → ⊥
      by link.Step its =
          subst (λ xs. Has xs (node it)) stops.0
          (subst (λ (x : Item Reach). Has (graph.steps (node x)) (node it)) (some_is (sym its.1 ∙ at)) its.3)
      by link.Entry its =
          none_here (node it) (sym stops.1 ∙ subst (λ (x : Item Reach). graph.enters (node x) ≡ Some (node it)) (some_is (sym its.1 ∙ at)) its.3)
      by (link.Return end) its =
          none_here (graph.entry (node its.1))
          (sym stops.1 ∙ subst (λ (x : Item Reach). graph.enters (node x) ≡ Some (graph.entry (node its.1))) (some_is (sym its.4 ∙ at)) its.8)

  -- ---- all of it

  module _ (built : Built graph (rows_of entries rows)) where
    row_has : (n : ℕ) (it : Item Reach) → slice_get rows n ≡ Some it → Has (rows_of entries rows) (row_of entries it.value)
    row_has n it at = get_has (rows_of entries rows) n (row_of entries it.value) (rows_at entries rows n it at)

    keeps : (n : ℕ) (it : Item Reach) → slice_get all n ≡ Some it → Keeps all base (size_of all) (suc n) it.value.origin.up (link_of it.value)
    keeps n it at = by it.value.origin.up (link_of it.value) (shape n it at)
      where
        by : (up : ℕ) (l : Link) → Shape n it up l → Keeps all base (size_of all) (suc n) up l
        by zero l its =
            subst (Keeps all base (size_of all) (suc n) zero) (sym its.0)
            (base_first n it at its.3 (ap graph.entry its.1 ∙ framed.at_start ∙ sym its.1))
        by (suc up) link.Step its = base_on n up it its.0 at its.1 (framed.by_step (node its.0) (node it) its.3)
        by (suc up) link.Entry its = base_first n it at its.5 (framed.by_call (node its.0) (node it) its.3)
        by (suc up) (link.Return end) its =
            subst (λ k. (base (suc n) ≡ base (suc up)) × IsDeadEnd all k × (size_of all k < size_of all (suc n)) × Under all (base k) k) (sym its.3) (
              base_on n up it its.0 at its.4 (framed.by_return (node its.0) (node its.1) (node it) its.9),
              dead_end (node its.0) its.2 its.1 (node it) its.5 its.9,
              (let own = size_is n it at in let e = size_is its.2 its.1 its.5 in let is = its.10 in
                  let less = call_longer graph framed (rows_of entries rows) built (row_of entries its.0.value) (row_of entries its.1.value)
                  (row_has up its.0 (below n up it its.0 at its.6 its.4)) (row_has its.2 its.1 (below n its.2 it its.1 at its.7 its.5)) its.8 in
                  omega arith),
              under_base (suc its.2) its.2 its.1 (omega arith) its.5,
            )

    link_last : (last level end : ℕ) → link_by last level ≡ link.Return end → last ≡ end
    link_last (suc last) level end is = cc
    link_last zero zero end is = absurd cc
    link_last zero (suc level) end is = absurd cc

    no_return : (end : ℕ) → link.Return end ≡ link.Entry → ⊥
    no_return end is = cc

    into : (n m end : ℕ) (it its : Item Reach) → slice_get all n ≡ Some it → slice_get all m ≡ Some its → link_of it.value ≡ link.Entry
        → link_of its.value ≡ link.Return end → it.value.origin.up ≡ its.value.origin.up → base end ≡ suc n
    into n m end it its at other enter back up_same =
        by its.value.origin.up
        (subst (λ up. Shape n it up link.Entry) up_same (subst (Shape n it it.value.origin.up) enter (shape n it at)))
        (subst (Shape m its its.value.origin.up) back (shape m its other))
      where
        by : (up : ℕ) → Shape n it up link.Entry → Shape m its up (link.Return end) → base end ≡ suc n
        by zero one two = absurd (no_return end two.0)
        by (suc up) one two =
            let called : graph.entry (node two.1) ≡ node it =
            some_node (sym two.8 ∙ ap (λ (x : Item Reach). graph.enters (node x)) (some_is (sym two.4 ∙ one.1)) ∙ one.3) in
            subst (λ k. base k ≡ suc n) (sym two.3) (base_is two.2 two.1 two.5 ∙ ap place called ∙ place_is n it at one.5)

    two : (n m end other : ℕ) (it its : Item Reach) → slice_get all n ≡ Some it → slice_get all m ≡ Some its → link_of it.value ≡ link.Return end
        → link_of its.value ≡ link.Return other → it.value.origin.up ≡ its.value.origin.up → n ≢ m → (end ≢ other) × (base end ≡ base other)
    two n m end other it its at there back back' up_same apart =
        by its.value.origin.up
        (subst (λ up. Shape n it up (link.Return end)) up_same (subst (Shape n it it.value.origin.up) back (shape n it at)))
        (subst (Shape m its its.value.origin.up) back' (shape m its there))
      where
        link_same : end ≡ other → it.value.origin ≡ its.value.origin
        link_same is = λ i. record {
          up = up_same i;
          last = (link_last it.value.origin.last it.value.level end back ∙ is ∙ sym (link_last its.value.origin.last its.value.level other back')) i;
        }

        one_row : node it ≡ node its → end ≡ other → ⊥
        one_row same is = from (joined.inside n it at) (joined.inside m its there)
          where
            from : (slice_get rows n ≡ Some it) ⊎ ((n ≡ length rows) × IsRival entries rows it)
                → (slice_get rows m ≡ Some its) ⊎ ((m ≡ length rows) × IsRival entries rows its) → ⊥
            from (inl here) (inl also) = apart (one_place entries rows joined.once n m it its here also same)
            from (inl here) (inr rival) = rival.1.other n it here same (link_same is)
            from (inr rival) (inl also) = rival.1.other m its also (sym same) (sym (link_same is))
            from (inr rival) (inr late) = apart (rival.0 ∙ sym late.0)

        by : (up : ℕ) → Shape n it up (link.Return end) → Shape m its up (link.Return other) → (end ≢ other) × (base end ≡ base other)
        by zero one row = absurd (no_return end one.0)
        by (suc up) one row =
            let caller : one.0 ≡ row.0 = some_is (sym one.4 ∙ row.4) in
            let called : graph.entry (node one.1) ≡ graph.entry (node row.1) =
            some_node (sym one.8 ∙ ap (λ (x : Item Reach). graph.enters (node x)) caller ∙ row.8) in (
              (λ is.
                  let last : one.2 ≡ row.2 = (let a = one.3 in let b = row.3 in omega arith) in
                  let end_same : one.1 ≡ row.1 = some_is (sym one.5 ∙ ap (slice_get all) last ∙ row.5) in
                  one_row (some_node (sym one.9 ∙ ap (λ (x : Item Reach). graph.leaves (node x) (node one.1)) caller
                  ∙ ap (λ (x : Item Reach). graph.leaves (node row.0) (node x)) end_same ∙ row.9)) is),
              ap base one.3 ∙ base_on one.2 row.2 one.1 row.1 one.5 row.5 called ∙ ap base (sym row.3),
            )

    pub tree_joined : IsTree all (base_of graph entries rows all) (size_of all)
    tree_joined = record { grows = grows; keeps = keeps; into = into; two = two }

    -- of two rows of one length neither is above the other
    under_same : (p q : ℕ) → Under all p q → size_of all p ≡ size_of all q → p ≡ q
    under_same _ _ (meeting.itself z) same = refl
    under_same p _ (before _ n it there under) same = absurd (
        let rest = under_size all (base_of graph entries rows all) (size_of all) tree_joined p it.value.origin.up under in
        let less = grows n it there in
        omega arith)

    pub decides_joined : (p q : ℕ) → p ≢ q → size_of all p ≡ size_of all q → Decides entries all p q
    decides_joined p q apart same = record {
      base = base_of graph entries rows all;
      size = size_of all;
      most = size_of all p;
      tree = tree_joined;
      parted = parted_joined graph framed entries rows all joined;
      clear = record {
        above = λ under. apart (under_same p q under same);
        below = λ under. apart (sym (under_same q p under (sym same)));
        left = inl refl;
        right = inl (sym same);
        left_most = omega arith;
        right_most = omega arith;
      };
    }
