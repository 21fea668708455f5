-- Rows that are linked: the rows of their links were made before, and two rows after one row differ in their first entries.
use Rattle.std.proofs.Common.{◌≡◌, ◌<◌, ◌≤◌, ℕ, zero, suc, List, [], ◌∷◌, inl, inr, refl, ap, sym, ◌∙◌, Some, None, subst, arith, slice_get, take, length, ◌⊎◌}
use Rattle.hs_search.proofs.Listing.{some_is}
use Rattle.hs_search.specs.Chains.{IsOnce}
use Rattle.hs_search.specs.Deciding.{AreParted}
use Rattle.hs_search.specs.Graphs.{FlowGraph, Has, IsFramed}
use Rattle.hs_search.specs.Judging.{call_of, entry_by, first_entry, inner_ends, link_by, link_of}
use Rattle.hs_search.specs.Laws.Nodes.{node_is}
use Rattle.hs_search.specs.Layout.{IsPlaced}
use Rattle.hs_search.specs.Links.{AreLinked, HasLink, IsAfter, LinkedBy}
use Rattle.hs_search.specs.Meeting.{AreLower}
use Rattle.hs_search.specs.Orders.{IsAlike}
use Rattle.hs_search.specs.Rivals.{IsJoined, IsRival}
use Rattle.hs_search.specs.Rounds.{Row}
use Rattle.hs_search.specs.Searching.{nodes_in}
use Rattle.hs_search.specs.Storing.{node_of, row_of, rows_of}
use Rattle.hs_search.specs.declared.graph.Node.{Node}
use Rattle.hs_search.specs.declared.judging.Link.{Link}
use Rattle.hs_search.specs.declared.judging.Link.TheVariants as link
use Rattle.hs_search.specs.declared.lists.Item.{Item}
use Rattle.hs_search.specs.declared.reach.Reach.{Reach}

-- ---- rows by place

pub take_below : (rows : List Row) (n k : ℕ) (x : Row) → slice_get (take n rows) k ≡ Some x → k < n
take_below rows zero k x at = absurd cc
take_below [] (suc n) k x at = absurd cc
take_below (r ∷ rows) (suc n) zero x at = omega arith
take_below (r ∷ rows) (suc n) (suc k) x at = let rest = take_below rows n k x at in omega arith

pub take_there : (rows : List Row) (n k : ℕ) (x : Row) → slice_get (take n rows) k ≡ Some x → slice_get rows k ≡ Some x
take_there rows zero k x at = absurd cc
take_there [] (suc n) k x at = absurd cc
take_there (r ∷ rows) (suc n) zero x at = at
take_there (r ∷ rows) (suc n) (suc k) x at = take_there rows n k x at

pub row_there : (entries : List (Item ℕ)) (rows : List (Item Reach)) (n : ℕ) (x : Row) → slice_get (rows_of entries rows) n ≡ Some x
    → (it : Item Reach) × (slice_get rows n ≡ Some it) × (row_of entries it.value ≡ x)
row_there entries [] n x at = absurd cc
row_there entries (r ∷ rows) zero x at = (r, refl, some_is at)
row_there entries (r ∷ rows) (suc n) x at = row_there entries rows n x at

has_node : (entries : List (Item ℕ)) (rows : List (Item Reach)) (n : ℕ) (it : Item Reach) → slice_get rows n ≡ Some it
    → Has (nodes_in (rows_of entries rows)) (node_of entries it.value)
has_node entries [] n it at = absurd cc
has_node entries (r ∷ rows) zero it at = inl (ap (λ (x : Item Reach). node_of entries x.value) (some_is at))
has_node entries (r ∷ rows) (suc n) it at = inr (has_node entries rows n it at)

-- a node has one row
pub one_place : (entries : List (Item ℕ)) (rows : List (Item Reach)) → IsOnce (nodes_in (rows_of entries rows)) → (n m : ℕ) (it its : Item Reach)
    → slice_get rows n ≡ Some it → slice_get rows m ≡ Some its → node_of entries it.value ≡ node_of entries its.value → n ≡ m
one_place entries [] once n m it its at other is = absurd cc
one_place entries (r ∷ rows) once zero zero it its at other is = refl
one_place entries (r ∷ rows) once zero (suc m) it its at other is =
    absurd (once.0 (subst (Has (nodes_in (rows_of entries rows)))
    (sym is ∙ ap (λ (x : Item Reach). node_of entries x.value) (sym (some_is at))) (has_node entries rows m its other)))
one_place entries (r ∷ rows) once (suc n) zero it its at other is =
    absurd (once.0 (subst (Has (nodes_in (rows_of entries rows)))
    (is ∙ ap (λ (x : Item Reach). node_of entries x.value) (sym (some_is other))) (has_node entries rows n it at)))
one_place entries (r ∷ rows) once (suc n) (suc m) it its at other is =
    ap (λ k. suc k) (one_place entries rows once.1 n m it its at other is)

-- ---- both rows of a link were made before

pub lower_by : (graph : FlowGraph) (rows : List Row) (n up last : ℕ) (row : Row) → LinkedBy graph (take n rows) up last row → (up ≤ n) × (last ≤ n)
lower_by graph rows n zero zero row is = (omega arith, omega arith)
lower_by graph rows n zero (suc last) row is = absurd is
lower_by graph rows n (suc up) zero row is = (let below = take_below rows n up is.0 is.1 in omega arith, omega arith)
lower_by graph rows n (suc up) (suc last) row is =
    (let below = take_below rows n up is.0 is.2 in omega arith, let below = take_below rows n last is.1 is.3 in omega arith)

-- of rows that all have lengths
pub lower_linked : (graph : FlowGraph) (most : ℕ) (entries : List (Item ℕ)) (rows : List (Item Reach)) → AreLinked graph most entries rows
    → ((n : ℕ) (it : Item Reach) → slice_get rows n ≡ Some it → it.value.length ≤ most) → AreLower rows
lower_linked graph most entries rows linked short n it there =
    lower_by graph (rows_of entries rows) n it.value.origin.up it.value.origin.last (row_of entries it.value) (linked n it there (short n it there))

-- ---- the first entry of a link

-- the first entry after the row before it
abbrev IsFirst : FlowGraph → List Row → ℕ → Link → Node → Node → Type 0
IsFirst graph rows zero l node first = (l ≡ link.Entry) × (node ≡ graph.start)
IsFirst graph rows (suc up) link.Step node first = (x : Row) × (slice_get rows up ≡ Some x) × Has (graph.steps x.node) node × (first ≡ node)
IsFirst graph rows (suc up) link.Entry node first = (x : Row) × (slice_get rows up ≡ Some x) × (graph.enters x.node ≡ Some node) × (first ≡ node)
IsFirst graph rows (suc up) (link.Return end) node first = (x : Row) × (slice_get rows up ≡ Some x) × (graph.enters x.node ≡ Some first)

first_of : (graph : FlowGraph) (entries : List (Item ℕ)) (rows : List (Item Reach))
    → ((n : ℕ) (it : Item Reach) → slice_get rows n ≡ Some it → IsPlaced graph entries it.value) → (n : ℕ) (it : Item Reach)
    → HasLink graph (take n (rows_of entries rows)) entries it.value
    → IsFirst graph (rows_of entries rows) it.value.origin.up (link_of it.value) (node_of entries it.value) (first_entry entries rows it.value)
first_of graph entries rows placed n it linked = by it.value.origin.up it.value.origin.last it.value.level refl linked
  where
    after : (up level : ℕ) (x : Row) → it.value.level ≡ level → slice_get (rows_of entries rows) up ≡ Some x → IsAfter graph x (row_of entries it.value)
        → IsFirst graph (rows_of entries rows) (suc up) (link_by 0 level) (node_of entries it.value) (node_of entries it.value)
    after up zero x is there (inl (y, step, made)) =
        absurd (let level : suc x.level ≡ 0 = ap (λ (r : Row). r.level) made ∙ is in cc)
    after up (suc level) x is there (inl (y, step, made)) =
        (x, there, subst (Has (graph.steps x.node)) (ap (λ (r : Row). r.node) made) step, refl)
    after up zero x is there (inr (b, enter, made)) = (x, there, enter ∙ ap (λ n. Some n) (ap (λ (r : Row). r.node) made), refl)
    after up (suc level) x is there (inr (b, enter, made)) =
        absurd (let level : 0 ≡ suc level = ap (λ (r : Row). r.level) made ∙ is in cc)

    by : (up last level : ℕ) → it.value.level ≡ level → LinkedBy graph (take n (rows_of entries rows)) up last (row_of entries it.value)
        → IsFirst graph (rows_of entries rows) up (link_by last level) (node_of entries it.value) (entry_by entries rows last it.value)
    by zero zero zero is linked = (refl, ap (λ (r : Row). r.node) (sym linked))
    by zero zero (suc level) is linked = absurd (let wrong : 0 ≡ suc level = ap (λ (r : Row). r.level) linked ∙ is in cc)
    by zero (suc last) level is linked = absurd linked
    by (suc up) zero level is linked = after up level linked.0 is (take_there (rows_of entries rows) n up linked.0 linked.1) linked.2
    by (suc up) (suc last) level is linked =
        let its = row_there entries rows last linked.1 (take_there (rows_of entries rows) n last linked.1 linked.3) in
        let call : graph.entry linked.1.node ≡ call_of entries (slice_get rows last) =
        ap (λ (r : Row). graph.entry r.node) (sym its.2) ∙ (placed last its.0 its.1).entry ∙ ap (call_of entries) (sym its.1) in (
          linked.0,
          take_there (rows_of entries rows) n up linked.0 linked.2,
          linked.4.1 ∙ ap (λ n. Some n) call,
        )

-- ---- two rows after one row

some_node : {a b : Node} → Some a ≡ Some b → a ≡ b
some_node h = cc

-- nodes of one call that are alike are one
one_node : (graph : FlowGraph) → IsFramed graph → (x y z : Node) → Has (graph.steps x) y → Has (graph.steps x) z → IsAlike y z → y ≡ z
one_node graph framed x y z one other alike =
    node_is y z alike.0 alike.1
    (sym (framed.own y) ∙ ap (λ (n : Node). n.fact) (framed.by_step x y one ∙ sym (framed.by_step x z other)) ∙ framed.own z)

no_ends : (x : ℕ × ℕ) → Some x ≡ None → ⊥
no_ends x is = cc

-- not a return
abbrev IsPlain : Link → Type 0
IsPlain link.Step = Unit {0}
IsPlain link.Entry = Unit {0}
IsPlain (link.Return end) = ⊥

-- they have one node, and are no returns, or their first entries are not alike
parts : (graph : FlowGraph) → IsFramed graph → (rows : List Row) (up p q : ℕ) (l r : Link) (node other first its_first : Node)
    → IsFirst graph rows up l node first → IsFirst graph rows up r other its_first → inner_ends l r p q ≡ None → IsAlike first its_first
    → (node ≡ other) × IsPlain l × IsPlain r
parts graph framed rows zero p q l r node other first its_first left right none alike =
    (left.1 ∙ sym right.1, subst IsPlain (sym left.0) tt, subst IsPlain (sym right.0) tt)
parts graph framed rows (suc up) p q link.Step link.Step node other first its_first left right none alike =
    let same : left.0 ≡ right.0 = some_is (sym left.1 ∙ right.1) in (
      one_node graph framed right.0.node node other (subst (λ (x : Row). Has (graph.steps x.node) node) same left.2) right.2
          (subst (λ n. IsAlike n other) left.3 (subst (IsAlike first) right.3 alike)),
      tt,
      tt,
    )
parts graph framed rows (suc up) p q link.Step link.Entry node other first its_first left right none alike =
    let same : left.0 ≡ right.0 = some_is (sym left.1 ∙ right.1) in
    absurd (framed.apart right.0.node node other (subst (λ (x : Row). Has (graph.steps x.node) node) same left.2) right.2
    (ap (λ (n : Node). n.at) (sym left.3) ∙ alike.0 ∙ ap (λ (n : Node). n.at) right.3))
parts graph framed rows (suc up) p q link.Step (link.Return e) node other first its_first left right none alike =
    let same : left.0 ≡ right.0 = some_is (sym left.1 ∙ right.1) in
    absurd (framed.apart right.0.node node its_first (subst (λ (x : Row). Has (graph.steps x.node) node) same left.2) right.2
    (ap (λ (n : Node). n.at) (sym left.3) ∙ alike.0))
parts graph framed rows (suc up) p q link.Entry link.Step node other first its_first left right none alike =
    let same : left.0 ≡ right.0 = some_is (sym left.1 ∙ right.1) in
    absurd (framed.apart right.0.node other node right.2 (subst (λ (x : Row). graph.enters x.node ≡ Some node) same left.2)
    (ap (λ (n : Node). n.at) (sym right.3) ∙ sym alike.0 ∙ ap (λ (n : Node). n.at) left.3))
parts graph framed rows (suc up) p q link.Entry link.Entry node other first its_first left right none alike =
    let same : left.0 ≡ right.0 = some_is (sym left.1 ∙ right.1) in
    (some_node (sym (subst (λ (x : Row). graph.enters x.node ≡ Some node) same left.2) ∙ right.2), tt, tt)
parts graph framed rows (suc up) p q link.Entry (link.Return e) node other first its_first left right none alike = absurd (no_ends (p, e) none)
parts graph framed rows (suc up) p q (link.Return e) link.Step node other first its_first left right none alike =
    let same : left.0 ≡ right.0 = some_is (sym left.1 ∙ right.1) in
    absurd (framed.apart right.0.node other first right.2 (subst (λ (x : Row). graph.enters x.node ≡ Some first) same left.2)
    (ap (λ (n : Node). n.at) (sym right.3) ∙ sym alike.0))
parts graph framed rows (suc up) p q (link.Return e) link.Entry node other first its_first left right none alike = absurd (no_ends (e, q) none)
parts graph framed rows (suc up) p q (link.Return e) (link.Return f) node other first its_first left right none alike = absurd (no_ends (e, f) none)

plain_last : (last level : ℕ) → IsPlain (link_by last level) → last ≡ 0
plain_last zero level plain = refl
plain_last (suc last) level plain = absurd plain

-- so the rows of the search, and an offer after them, part in entries that are not alike
pub parted_joined : (graph : FlowGraph) → IsFramed graph → (entries : List (Item ℕ)) (rows all : List (Item Reach)) → IsJoined graph entries rows all
    → AreParted entries all
parted_joined graph framed entries rows all joined n m p q it its at other two up_same none alike =
    by (joined.inside n it at) (joined.inside m its other)
  where
    same : (node_of entries it.value ≡ node_of entries its.value) × IsPlain (link_of it.value) × IsPlain (link_of its.value)
    same =
        parts graph framed (rows_of entries all) its.value.origin.up p q (link_of it.value) (link_of its.value) (node_of entries it.value)
        (node_of entries its.value) (first_entry entries all it.value) (first_entry entries all its.value)
        (subst (λ up. IsFirst graph (rows_of entries all) up (link_of it.value) (node_of entries it.value) (first_entry entries all it.value)) up_same
        (first_of graph entries all joined.placed n it (joined.linked n it at)))
        (first_of graph entries all joined.placed m its (joined.linked m its other)) none alike

    last_same : it.value.origin.last ≡ its.value.origin.last
    last_same =
        plain_last it.value.origin.last it.value.level same.1 ∙ sym (plain_last its.value.origin.last its.value.level same.2)

    link_same : it.value.origin ≡ its.value.origin
    link_same = λ i. record { up = up_same i; last = last_same i }

    by : (slice_get rows n ≡ Some it) ⊎ ((n ≡ length rows) × IsRival entries rows it)
        → (slice_get rows m ≡ Some its) ⊎ ((m ≡ length rows) × IsRival entries rows its) → ⊥
    by (inl here) (inl there) = two (one_place entries rows joined.once n m it its here there same.0)
    by (inl here) (inr rival) = rival.1.other n it here same.0 link_same
    by (inr rival) (inl there) = rival.1.other m its there (sym same.0) (sym link_same)
    by (inr rival) (inr other) = two (rival.0 ∙ sym other.0)
