-- Calls get numbers, and what was said of the others stays.
use Rattle.std.proofs.Common.{◌≡◌, ◌<◌, ◌≤◌, ℕ, List, [], ◌∷◌, ◌++◌, inl, inr, ◌⊎◌, refl, ap, sym, ◌∙◌, Option, Some, None, subst, arith, length, slice_get, append-nil}
use Rattle.hs_search.proofs.Listing.{get_within, get_there, get_left, get_end, get_either}
use Rattle.hs_search.specs.Laws.Nodes.{node_is}
use Rattle.hs_search.specs.Calling.{IsNumbered}
use Rattle.hs_search.specs.Graphs.{FlowGraph, IsFramed}
use Rattle.hs_search.specs.Layout.{Grows, IsCalls, IsPlaced}
use Rattle.hs_search.specs.Storing.{call_at, call_in, node_of}
use Rattle.hs_search.specs.declared.graph.Node.{Node}
use Rattle.hs_search.specs.declared.lists.Item.{Item}
use Rattle.hs_search.specs.declared.reach.Reach.{Reach}

-- a call begins with the fact with which it was entered
call_fact : (it : Option (Item ℕ)) → (call_in it).fact ≡ (call_in it).entered
call_fact None = refl
call_fact (Some it) = refl

-- a number that there is
pub call_kept : (old new : List (Item ℕ)) → Grows old new → (n : ℕ) → n < length old → call_at new n ≡ call_at old n
call_kept old new grows n within =
    let its = get_there old n within in
    ap call_in (subst (λ es. slice_get es n ≡ Some its.0) (sym grows.1) (get_left old grows.0 n its.0 its.1) ∙ sym its.1)

pub node_kept : (old new : List (Item ℕ)) → Grows old new → (reach : Reach) → reach.call < length old → node_of new reach ≡ node_of old reach
node_kept old new grows reach within =
    node_is (node_of new reach) (node_of old reach) refl refl (ap (λ (n : Node). n.entered) (call_kept old new grows reach.call within))

pub grows_long : (old new : List (Item ℕ)) → Grows old new → length old ≤ length new
grows_long old new grows = subst (λ es. length old ≤ length es) (sym grows.1) (longer old grows.0)
  where
    longer : (es later : List (Item ℕ)) → length es ≤ length (es ++ later)
    longer [] later = omega arith
    longer (e ∷ es) later = let rest = longer es later in omega arith

pub placed_kept : (graph : FlowGraph) (old new : List (Item ℕ)) → Grows old new → (reach : Reach) → IsPlaced graph old reach → IsPlaced graph new reach
placed_kept graph old new grows reach placed = record {
  known = (let long = grows_long old new grows in let known = placed.known in omega arith);
  entry = ap graph.entry (node_kept old new grows reach placed.known) ∙ placed.entry ∙ sym (call_kept old new grows reach.call placed.known);
  within = placed.within;
  level = placed.level;
}

-- what is stored is the node, if its call is the one that the graph says
pub node_made : (graph : FlowGraph) → IsFramed graph → (entries : List (Item ℕ)) (reach : Reach) (y : Node) → reach.at ≡ y.at → reach.fact ≡ y.fact
    → graph.entry y ≡ call_at entries reach.call → node_of entries reach ≡ y
node_made graph framed entries reach y at fact entry =
    node_is (node_of entries reach) y at fact
    (sym (call_fact (slice_get entries reach.call)) ∙ ap (λ (n : Node). n.fact) (sym entry) ∙ framed.own y)

pub placed_made : (graph : FlowGraph) → IsFramed graph → (entries : List (Item ℕ)) (reach : Reach) (y : Node) → reach.at ≡ y.at → reach.fact ≡ y.fact
    → graph.entry y ≡ call_at entries reach.call → reach.call < length entries → y.at < graph.count → reach.level ≤ reach.length
    → IsPlaced graph entries reach
placed_made graph framed entries reach y at fact entry known within level = record {
  known = known;
  entry = ap graph.entry (node_made graph framed entries reach y at fact entry) ∙ entry;
  within = subst (λ n. n < graph.count) (sym at) within;
  level = level;
}

-- ---- one call

pub grows_none : (entries : List (Item ℕ)) → Grows entries entries
grows_none entries = ([], sym (append-nil entries))

-- the call that begins with b has the number now
pub record IsNumberedRight (graph : FlowGraph) (b : Node) (n : ℕ) (old new : List (Item ℕ)) : Type 0 where
  pub grows : Grows old new
  pub calls : IsCalls graph new
  pub known : n < length new
  pub begins : call_at new n ≡ b

-- what an item of the key and fact of b stands for
item_begins : (graph : FlowGraph) → IsFramed graph → (b : Node) → graph.entry b ≡ b → (it : Item ℕ) → it.key ≡ b.at → it.value ≡ b.fact
    → call_in (Some it) ≡ b
item_begins graph framed b own it at fact =
    node_is (call_in (Some it)) b at fact (fact ∙ ap (λ (n : Node). n.fact) (sym own) ∙ framed.own b)

pub numbered_right : (graph : FlowGraph) → IsFramed graph → (b : Node) (n : ℕ) (old new : List (Item ℕ)) → graph.entry b ≡ b → IsCalls graph old
    → IsNumbered b n old new → IsNumberedRight graph b n old new
numbered_right graph framed b n old new own calls (inl same) =
    let begins : call_at old n ≡ b = ap call_in same.1.there ∙ item_begins graph framed b own same.1.it same.1.at same.1.fact in
    subst (λ es. IsNumberedRight graph b n old es) (sym same.0) (record {
      grows = grows_none old;
      calls = calls;
      known = get_within old n same.1.it same.1.there;
      begins = begins;
    })
numbered_right graph framed b n old new own calls (inr added) =
    subst (λ es. IsNumberedRight graph b n old es) (sym added.more) (subst (λ k. IsNumberedRight graph b k old (old ++ added.it ∷ [])) (sym added.last)
    (record {
      grows = grown;
      calls = record {
        own = λ k within. owns k within (get_there (old ++ added.it ∷ []) k within);
        once = λ k m k_within m_within same. one k m (get_there (old ++ added.it ∷ []) k k_within) (get_there (old ++ added.it ∷ []) m m_within) same;
      };
      known = get_within (old ++ added.it ∷ []) (length old) added.it (get_end old added.it);
      begins = at_end;
    }))
  where
    grown : Grows old (old ++ added.it ∷ [])
    grown = (added.it ∷ [], refl)

    at_end : call_at (old ++ added.it ∷ []) (length old) ≡ b
    at_end = ap call_in (get_end old added.it) ∙ item_begins graph framed b own added.it added.at added.fact

    -- an old one does not begin so
    other : (k : ℕ) (it : Item ℕ) → slice_get old k ≡ Some it → call_at (old ++ added.it ∷ []) k ≡ b → ⊥
    other k it there same =
        let begins : call_in (Some it) ≡ b = ap call_in (sym (get_left old (added.it ∷ []) k it there)) ∙ same in
        added.outside (k, record { it = it; there = there; at = ap (λ (m : Node). m.at) begins; fact = ap (λ (m : Node). m.fact) begins })

    owns : (k : ℕ) → k < length (old ++ added.it ∷ []) → (it : Item ℕ) × (slice_get (old ++ added.it ∷ []) k ≡ Some it)
        → graph.entry (call_at (old ++ added.it ∷ []) k) ≡ call_at (old ++ added.it ∷ []) k
    owns k within its = from (get_either old added.it k its.0 its.1)
      where
        from : (slice_get old k ≡ Some its.0) ⊎ ((k ≡ length old) × (added.it ≡ its.0))
            → graph.entry (call_at (old ++ added.it ∷ []) k) ≡ call_at (old ++ added.it ∷ []) k
        from (inl there) =
            let inside = get_within old k its.0 there in
            let kept = call_kept old (old ++ added.it ∷ []) grown k inside in
            ap graph.entry kept ∙ calls.own k inside ∙ sym kept
        from (inr last) =
            let is : call_at (old ++ added.it ∷ []) k ≡ b = ap (call_at (old ++ added.it ∷ [])) last.0 ∙ at_end in
            ap graph.entry is ∙ own ∙ sym is

    one : (k m : ℕ) → (it : Item ℕ) × (slice_get (old ++ added.it ∷ []) k ≡ Some it) → (it : Item ℕ) × (slice_get (old ++ added.it ∷ []) m ≡ Some it)
        → call_at (old ++ added.it ∷ []) k ≡ call_at (old ++ added.it ∷ []) m → k ≡ m
    one k m its others same = from (get_either old added.it k its.0 its.1) (get_either old added.it m others.0 others.1)
      where
        last_is : (j : ℕ) → j ≡ length old → call_at (old ++ added.it ∷ []) j ≡ b
        last_is j is = ap (call_at (old ++ added.it ∷ [])) is ∙ at_end

        from : (slice_get old k ≡ Some its.0) ⊎ ((k ≡ length old) × (added.it ≡ its.0))
            → (slice_get old m ≡ Some others.0) ⊎ ((m ≡ length old) × (added.it ≡ others.0)) → k ≡ m
        from (inl there) (inl others_there) =
            let k_in = get_within old k its.0 there in
            let m_in = get_within old m others.0 others_there in
            calls.once k m k_in m_in (sym (call_kept old (old ++ added.it ∷ []) grown k k_in) ∙ same ∙ call_kept old (old ++ added.it ∷ []) grown m m_in)
        from (inl there) (inr last) = absurd (other k its.0 there (same ∙ last_is m last.0))
        from (inr last) (inl others_there) = absurd (other m others.0 others_there (sym same ∙ last_is k last.0))
        from (inr last) (inr others_last) = last.0 ∙ sym others_last.0
