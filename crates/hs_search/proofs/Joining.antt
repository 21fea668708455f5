-- The rows of a round so far, with an offer to the node of one of them: they are joined, and the judging decides.
use Rattle.std.proofs.Common.{◌≡◌, ◌≢◌, ◌<◌, ◌≤◌, ◌⊎◌, inl, inr, ℕ, suc, List, [], ◌∷◌, ◌++◌, Some, length, slice_get, refl, ap, sym, ◌∙◌, subst, arith, append_assoc}
use Rattle.hs_search.proofs.Basing.{decides_joined}
use Rattle.hs_search.proofs.Calling.{grows_none}
use Rattle.hs_search.proofs.Linking.{linked_next}
use Rattle.hs_search.proofs.Listing.{get_either, get_end, get_left, get_within, some_is}
use Rattle.hs_search.proofs.Parting.{one_place}
use Rattle.hs_search.specs.Chains.{IsOnce}
use Rattle.hs_search.specs.Deciding.{Decides}
use Rattle.hs_search.specs.Graphs.{FlowGraph, Has, IsFramed}
use Rattle.hs_search.specs.Laws.Membership.{Has-either}
use Rattle.hs_search.specs.Layout.{IsPlaced}
use Rattle.hs_search.specs.Links.{AreLinked, HasLink}
use Rattle.hs_search.specs.Rivals.{IsJoined, IsRival, length_in, offer_item, with_offer}
use Rattle.hs_search.specs.Rounds.{Built}
use Rattle.hs_search.specs.Searching.{nodes_in}
use Rattle.hs_search.specs.Storing.{node_of, rows_of}
use Rattle.hs_search.specs.declared.lists.Item.{Item}
use Rattle.hs_search.specs.declared.reach.Reach.{Reach}

-- an offer of a round
pub record IsFitting (graph : FlowGraph) (entries : List (Item ℕ)) (most : ℕ) (old : List (Item Reach)) (s : Reach) : Type 0 where
  pub linked : HasLink graph (rows_of entries old) entries s
  pub placed : IsPlaced graph entries s
  pub short : s.length ≤ most

module _ (graph : FlowGraph) (framed : IsFramed graph) (entries : List (Item ℕ)) (most : ℕ) (old layer : List (Item Reach))
    (linked : AreLinked graph most entries old) (each : (it : Item Reach) → Has layer it → HasLink graph (rows_of entries old) entries it.value)
    (placed : (n : ℕ) (it : Item Reach) → slice_get (old ++ layer) n ≡ Some it → IsPlaced graph entries it.value)
    (once : IsOnce (nodes_in (rows_of entries (old ++ layer))))
    (short : (n : ℕ) (it : Item Reach) → slice_get (old ++ layer) n ≡ Some it → it.value.length ≤ most) where
  -- without an offer
  pub joined_rows : IsJoined graph entries (old ++ layer) (old ++ layer)
  joined_rows = record {
    once = once;
    placed = placed;
    linked = λ n it at. linked_next graph most entries entries old (old ++ layer) layer refl (grows_none entries) placed linked (λ its has low. each its has)
        n it at (short n it at);
    inside = λ n it at. inl at;
  }

  module _ (s : Reach) (fits : IsFitting graph entries most old s) (level : 0 < s.level) (n : ℕ) (it : Item Reach) (at : slice_get (old ++ layer) n ≡ Some it)
      (node : node_of entries it.value ≡ node_of entries s) (other : it.value.origin ≢ s.origin) where
    rival : IsRival entries (old ++ layer) (offer_item s)
    rival = record {
      level = level;
      other = λ k its at_its same.
          let place = one_place entries (old ++ layer) once k n its it at_its at (same ∙ sym node) in
          let is : it ≡ its = some_is (sym at ∙ ap (slice_get (old ++ layer)) (sym place) ∙ at_its) in
          subst (λ (i : Item Reach). i.value.origin ≢ s.origin) is other;
    }

    all_placed : (k : ℕ) (its : Item Reach) → slice_get ((old ++ layer) ++ offer_item s ∷ []) k ≡ Some its → IsPlaced graph entries its.value
    all_placed k its at_its = by (get_either (old ++ layer) (offer_item s) k its at_its)
      where
        by : (slice_get (old ++ layer) k ≡ Some its) ⊎ ((k ≡ length (old ++ layer)) × (offer_item s ≡ its)) → IsPlaced graph entries its.value
        by (inl there) = placed k its there
        by (inr last) = subst (λ (i : Item Reach). IsPlaced graph entries i.value) last.1 fits.placed

    all_short : (k : ℕ) (its : Item Reach) → slice_get ((old ++ layer) ++ offer_item s ∷ []) k ≡ Some its → its.value.length ≤ most
    all_short k its at_its = by (get_either (old ++ layer) (offer_item s) k its at_its)
      where
        by : (slice_get (old ++ layer) k ≡ Some its) ⊎ ((k ≡ length (old ++ layer)) × (offer_item s ≡ its)) → its.value.length ≤ most
        by (inl there) = short k its there
        by (inr last) = subst (λ (i : Item Reach). i.value.length ≤ most) last.1 fits.short

    all_each : (its : Item Reach) → Has layer its ⊎ Has (offer_item s ∷ []) its → HasLink graph (rows_of entries old) entries its.value
    all_each its (inl has) = each its has
    all_each its (inr (inl is)) = subst (λ (i : Item Reach). HasLink graph (rows_of entries old) entries i.value) is fits.linked
    all_each its (inr (inr no_more)) = absurd no_more

    -- with one
    pub joined_offer : IsJoined graph entries (old ++ layer) (with_offer (old ++ layer) (Some s))
    joined_offer = record {
      once = once;
      placed = all_placed;
      linked = λ k its at_its. linked_next graph most entries entries old ((old ++ layer) ++ offer_item s ∷ []) (layer ++ offer_item s ∷ [])
          (append_assoc old layer (offer_item s ∷ [])) (grows_none entries) all_placed linked
          (λ one has low. all_each one (Has-either layer (offer_item s ∷ []) one has)) k its at_its (all_short k its at_its);
      inside = λ k its at_its. inside k its (get_either (old ++ layer) (offer_item s) k its at_its);
    }
      where
        inside : (k : ℕ) (its : Item Reach) → (slice_get (old ++ layer) k ≡ Some its) ⊎ ((k ≡ length (old ++ layer)) × (offer_item s ≡ its))
            → (slice_get (old ++ layer) k ≡ Some its) ⊎ ((k ≡ length (old ++ layer)) × IsRival entries (old ++ layer) its)
        inside k its (inl there) = inl there
        inside k its (inr last) = inr (last.0, subst (IsRival entries (old ++ layer)) last.1 rival)

    -- so the judging decides
    pub decided_offer : Built graph (rows_of entries (old ++ layer)) → s.length ≡ it.value.length
        → Decides entries (with_offer (old ++ layer) (Some s)) (suc (length (old ++ layer))) (suc n)
    decided_offer built same =
        decides_joined graph framed entries (old ++ layer) (with_offer (old ++ layer) (Some s)) joined_offer built (suc (length (old ++ layer))) (suc n)
        (λ is. absurd (let within = get_within (old ++ layer) n it at in omega arith))
        (ap length_in (get_end (old ++ layer) (offer_item s)) ∙ same ∙ sym (ap length_in (get_left (old ++ layer) (offer_item s ∷ []) n it at)))
