-- The entries of one name, from a place on: each has the place of the next older one.
use Rattle.std.proofs.Common.{◌≡◌, ◌<◌, ◌≤◌, ◌+◌, ◌&&◌, ◌||◌, ℕ, zero, suc, Bool, true, false, not, List, [], ◌∷◌, ◌++◌, length, take, Option, None, Some, nat_eq, refl, sym, ap, ◌∙◌, subst, if◌then◌else◌, arith}
use Rattle.std.specs.Prelude.{slice_get}
use Rattle.std.specs.Cmp.Lexicographic.{pointwise, bytes_decides}
use Rattle.hs_linkage.specs.Chains.{onto, newest_first, externals_of, place, entry_at, IsChained}
use Rattle.hs_linkage.specs.Externals.{all_agree, agrees_in, type_of_entity, newest_external}
use Rattle.hs_linkage.specs.declared.externals.Entry.{Entry}
use Rattle.hs_typer.specs.declared.origins.Origins.{Origins}
use Rattle.hs_typer.specs.declared.typer.Entity.{Entity}
use Rattle.hs_types.specs.TypeTables.{TypeTable}
use Rattle.hs_types.specs.declared.row.TypeId.{TypeId}

-- the first entries, newest first
abbrev pub up_to : ℕ → List Entry → List Entry
up_to count entries = onto [] (take count entries)

-- those up to the next one
abbrev pub left : Option ℕ → List Entry → List Entry
left None entries = []
left (Some number) entries = up_to (suc number) entries

abbrev pub height : Option ℕ → ℕ
height None = 0
height (Some number) = suc number

-- an entry is in front of those before it
onto-at : (older entries : List Entry) (k : ℕ) (it : Entry) → slice_get entries k ≡ Some it
    → onto older (take (suc k) entries) ≡ it ∷ onto older (take k entries)
onto-at older [] k it at = absurd cc
onto-at older (first ∷ entries) zero it at = let same : first ≡ it = cc in ap (λ e. e ∷ older) same
onto-at older (first ∷ entries) (suc k) it at = onto-at (first ∷ older) entries k it at

pub onto-length : (older entries : List Entry) → length (onto older entries) ≡ length older + length entries
onto-length older [] = omega arith
onto-length older (entry ∷ entries) = omega (arith, onto-length (entry ∷ older) entries)

-- as many declarations as entries
external-length : (older : List Entry) → length (externals_of older) ≡ length older
external-length [] = refl
external-length (it ∷ older) = ap suc (external-length older)

none-before : (count : ℕ) → 0 + count ≡ count
none-before count = omega arith

pub entries-length : (entries : List Entry) → length (externals_of (newest_first entries)) ≡ length entries
entries-length entries = external-length (newest_first entries) ∙ onto-length [] entries ∙ none-before (length entries)

count-taken : (entries : List Entry) (k : ℕ) (it : Entry) → slice_get entries k ≡ Some it → length (take k entries) ≡ k
count-taken [] k it at = absurd cc
count-taken (first ∷ entries) zero it at = refl
count-taken (first ∷ entries) (suc k) it at = ap suc (count-taken entries k it at)

counted : (entries : List Entry) (k : ℕ) (it : Entry) → slice_get entries k ≡ Some it → length (up_to k entries) ≡ k
counted entries k it at = omega (arith, onto-length [] (take k entries), count-taken entries k it at)

-- a place is below the number of entries
below-if : (b : Bool) (name : List ℕ) (older : List Entry) (k : ℕ) → ((n : ℕ) → place name older ≡ Some n → n < length older)
    → (if b then Some (length older) else place name older) ≡ Some k → k < suc (length older)
below-if true name older k rest is = let same : length older ≡ k = cc in rw (← same) (omega arith)
below-if false name older k rest is = omega (arith, rest k is)

pub place-below : (name : List ℕ) (its : List Entry) (k : ℕ) → place name its ≡ Some k → k < length its
place-below name [] k is = absurd cc
place-below name (it ∷ older) k is = below-if (pointwise nat_eq it.external.name name) name older k (λ n. place-below name older n) is

-- an entry is at each place below the number of entries
there : (entries : List Entry) (k : ℕ) → k < length entries → (it : Entry) × (slice_get entries k ≡ Some it)
there [] k below = absurd (omega (arith, below))
there (first ∷ entries) zero below = (first, refl)
there (first ∷ entries) (suc k) below = there entries k (omega (arith, below))

past-none : (entries : List Entry) (k : ℕ) → slice_get entries k ≡ None → k < length entries → ⊥
past-none [] k none below = omega (arith, below)
past-none (it ∷ entries) zero none below = cc
past-none (it ∷ entries) (suc k) none below = past-none entries k none (omega (arith, below))

few-taken : (entries : List Entry) (k : ℕ) → length (take k entries) ≤ length entries
few-taken entries zero = omega arith
few-taken [] (suc k) = omega arith
few-taken (first ∷ entries) (suc k) = omega (arith, few-taken entries k)

all-taken : (entries : List Entry) → take (length entries) entries ≡ entries
all-taken [] = refl
all-taken (first ∷ entries) = ap (λ its. first ∷ its) (all-taken entries)

-- of the chain, the place of an older one is that of its name
chained-older : (older entries : List Entry) → IsChained (onto older entries) → IsChained older
chained-older older [] chained = chained
chained-older older (it ∷ entries) chained = (chained-older (it ∷ older) entries chained).1

chained-at : (older entries : List Entry) (k : ℕ) (it : Entry) → IsChained (onto older entries) → slice_get entries k ≡ Some it
    → it.older ≡ place it.external.name (onto older (take k entries))
chained-at older [] k it chained at = absurd cc
chained-at older (first ∷ entries) zero it chained at =
    let same : first ≡ it = cc in
    subst (λ (x : Entry). x.older ≡ place x.external.name older) same (chained-older (first ∷ older) entries chained).0
chained-at older (first ∷ entries) (suc k) it chained at = chained-at (first ∷ older) entries k it chained at

module _ (types : TypeTable) (o : Origins) (name : List ℕ) (id : TypeId) where
  abbrev decided : List Entry → Bool
  decided its = all_agree types o name id (externals_of its)

  -- The entries from that place on decide, and the place is that of the newest of them.
  Leads : List Entry → Option ℕ → List Entry → Type 0
  Leads entries next its = (next ≡ place name (left next entries)) × (decided (left next entries) ≡ decided its)

  here-if : (b : Bool) (count : ℕ) (other : Option ℕ) → b ≡ true → (if b then Some count else other) ≡ Some count
  here-if true count other same = refl
  here-if false count other same = absurd cc

  other-if : (b : Bool) (count : ℕ) (other : Option ℕ) → b ≡ false → (if b then Some count else other) ≡ other
  other-if true count other same = absurd cc
  other-if false count other same = refl

  passed-if : (b agreed rest : Bool) → b ≡ false → ((not b || agreed) && rest) ≡ rest
  passed-if true agreed rest same = absurd cc
  passed-if false agreed rest same = refl

  taken-if : (b agreed rest : Bool) → b ≡ true → ((not b || agreed) && rest) ≡ (agreed && rest)
  taken-if true agreed rest same = refl
  taken-if false agreed rest same = absurd cc

  leads-if : (b : Bool) (entries : List Entry) (k : ℕ) (it : Entry) (next : Option ℕ) → pointwise nat_eq it.external.name name ≡ b
      → slice_get entries k ≡ Some it → place name (up_to (suc k) entries) ≡ next
      → (place name (up_to k entries) ≡ next → Leads entries next (up_to k entries)) → Leads entries next (up_to (suc k) entries)
  unfolding Leads
  leads-if true entries k it next same at is rest =
      let here : place name (up_to (suc k) entries) ≡ Some k =
      ap (place name) (onto-at [] entries k it at)
      ∙ here-if (pointwise nat_eq it.external.name name) (length (up_to k entries)) (place name (up_to k entries)) same
      ∙ ap Some (counted entries k it at) in
      subst (λ n. (n ≡ place name (left n entries)) × (decided (left n entries) ≡ decided (up_to (suc k) entries))) (sym here ∙ is)
      (sym here, refl)
  leads-if false entries k it next same at is rest =
      let before : place name (up_to k entries) ≡ next =
      sym (other-if (pointwise nat_eq it.external.name name) (length (up_to k entries)) (place name (up_to k entries)) same)
      ∙ sym (ap (place name) (onto-at [] entries k it at)) ∙ is in
      let found = rest before in (
        found.0,
        found.1
            ∙ sym (passed-if (pointwise nat_eq it.external.name name) (agrees_in types o id (type_of_entity it.external.entity))
            (decided (up_to k entries)) same)
            ∙ sym (ap decided (onto-at [] entries k it at)),
      )

  leads : (entries : List Entry) (count : ℕ) (next : Option ℕ) → count ≤ length entries → place name (up_to count entries) ≡ next
      → Leads entries next (up_to count entries)
  unfolding Leads
  leads entries zero next few is =
      subst (λ n. (n ≡ place name (left n entries)) × (decided (left n entries) ≡ decided (up_to 0 entries))) is (refl, refl)
  leads entries (suc k) next few is =
      let found = there entries k (omega (arith, few)) in
      leads-if (pointwise nat_eq found.0.external.name name) entries k found.0 next refl found.1 is
      (λ before. leads entries k next (omega (arith, few)) before)

  -- the entry of a place that leads has the name
  named-if : (b : Bool) (entries : List Entry) (k : ℕ) (it : Entry) → pointwise nat_eq it.external.name name ≡ b
      → slice_get entries k ≡ Some it → Some k ≡ place name (up_to (suc k) entries) → pointwise nat_eq it.external.name name ≡ true
  named-if true entries k it same at is = same
  named-if false entries k it same at is =
      let older : place name (up_to k entries) ≡ Some k =
      sym (other-if (pointwise nat_eq it.external.name name) (length (up_to k entries)) (place name (up_to k entries)) same)
      ∙ sym (ap (place name) (onto-at [] entries k it at)) ∙ sym is in
      absurd (omega (arith, place-below name (up_to k entries) k older, counted entries k it at))

  -- if the entry of that place does not agree, nothing else counts
  pub chain-refused : (entries : List Entry) (next : Option ℕ) (it : Entry) (others : List Entry) → next ≡ place name (left next entries)
      → decided (left next entries) ≡ decided others → entry_at next entries ≡ Some it
      → agrees_in types o id (type_of_entity it.external.entity) ≡ false → decided others ≡ false
  chain-refused entries None it others is same at refused = absurd cc
  chain-refused entries (Some k) it others is same at refused =
      let named = named-if (pointwise nat_eq it.external.name name) entries k it refl at is in
      sym same ∙ ap decided (onto-at [] entries k it at)
      ∙ taken-if (pointwise nat_eq it.external.name name) (agrees_in types o id (type_of_entity it.external.entity)) (decided (up_to k entries)) named
      ∙ ap (λ b. b && decided (up_to k entries)) refused

  -- if it agrees, the older ones of the name decide
  pub chain-next : (entries : List Entry) (next : Option ℕ) (it : Entry) (others : List Entry) → IsChained (newest_first entries)
      → next ≡ place name (left next entries) → decided (left next entries) ≡ decided others → entry_at next entries ≡ Some it
      → agrees_in types o id (type_of_entity it.external.entity) ≡ true
      → (it.older ≡ place name (left it.older entries)) × (decided (left it.older entries) ≡ decided others)
  unfolding Leads
  chain-next entries None it others chained is same at agreed = absurd cc
  chain-next entries (Some k) it others chained is same at agreed =
      let named = named-if (pointwise nat_eq it.external.name name) entries k it refl at is in
      let text : it.external.name ≡ name = (bytes_decides it.external.name name).0 named in
      let older : place name (up_to k entries) ≡ it.older =
      sym (chained-at [] entries k it chained at ∙ ap (λ (text : List ℕ). place text (up_to k entries)) text) in
      let few : k ≤ length entries = omega (arith, counted entries k it at, onto-length [] (take k entries), few-taken entries k) in
      let found = leads entries k it.older few older in (
        found.0,
        found.1
            ∙ sym (ap (λ b. b && decided (up_to k entries)) agreed)
            ∙ sym (taken-if (pointwise nat_eq it.external.name name) (agrees_in types o id (type_of_entity it.external.entity))
            (decided (up_to k entries)) named)
            ∙ sym (ap decided (onto-at [] entries k it at)) ∙ same,
      )

  -- each is lower than the one before
  pub chain-lower : (entries : List Entry) (next : Option ℕ) (it : Entry) → IsChained (newest_first entries) → entry_at next entries ≡ Some it
      → height it.older < height next
  chain-lower entries None it chained at = absurd cc
  chain-lower entries (Some k) it chained at = lower it.older (chained-at [] entries k it chained at)
    where
      lower : (older : Option ℕ) → older ≡ place it.external.name (up_to k entries) → height older < suc k
      lower None is = omega arith
      lower (Some n) is = omega (arith, place-below it.external.name (up_to k entries) n (sym is), counted entries k it at)

  -- where no entry is left, all agreed
  pub chain-ended : (entries : List Entry) (next : Option ℕ) (others : List Entry) → next ≡ place name (left next entries)
      → decided (left next entries) ≡ decided others → entry_at next entries ≡ None → decided others ≡ true
  chain-ended entries None others is same at = sym same
  chain-ended entries (Some k) others is same at =
      absurd (past-none entries k at
      (omega (arith, place-below name (left (Some k) entries) k (sym is), onto-length [] (take (suc k) entries), few-taken entries (suc k))))

  -- the whole list leads to its newest entry of the name
  pub chain-begun : (entries : List Entry) (next : Option ℕ) → next ≡ place name (newest_first entries)
      → (next ≡ place name (left next entries)) × (decided (left next entries) ≡ decided (newest_first entries))
  unfolding Leads
  chain-begun entries next is =
      subst (λ its. (next ≡ place name (left next entries)) × (decided (left next entries) ≡ decided its)) (ap (onto []) (all-taken entries))
      (leads entries (length entries) next (omega arith) (ap (λ its. place name (onto [] its)) (all-taken entries) ∙ sym is))

-- the newest declaration of a name is at the place of the name
entity_in : Option Entry → Option Entity
entity_in None = None
entity_in (Some it) = Some it.external.entity

newest-if : (b : Bool) (entries : List Entry) (k : ℕ) (it : Entry) (name : List ℕ) → pointwise nat_eq it.external.name name ≡ b
    → slice_get entries k ≡ Some it
    → newest_external name (externals_of (up_to k entries)) ≡ entity_in (entry_at (place name (up_to k entries)) entries)
    → (if b then Some it.external.entity else newest_external name (externals_of (up_to k entries)))
    ≡ entity_in (entry_at (if b then Some (length (up_to k entries)) else place name (up_to k entries)) entries)
unfolding entity_in
newest-if true entries k it name same at rest = sym (ap (λ n. entity_in (slice_get entries n)) (counted entries k it at) ∙ ap entity_in at)
newest-if false entries k it name same at rest = rest

newest-taken : (entries : List Entry) (count : ℕ) (name : List ℕ) → count ≤ length entries
    → newest_external name (externals_of (up_to count entries)) ≡ entity_in (entry_at (place name (up_to count entries)) entries)
unfolding entity_in
newest-taken entries zero name few = refl
newest-taken entries (suc k) name few =
    let found = there entries k (omega (arith, few)) in
    ap (λ its. newest_external name (externals_of its)) (onto-at [] entries k found.0 found.1)
    ∙ newest-if (pointwise nat_eq found.0.external.name name) entries k found.0 name refl found.1 (newest-taken entries k name (omega (arith, few)))
    ∙ sym (ap (λ its. entity_in (entry_at (place name its) entries)) (onto-at [] entries k found.0 found.1))

pub newest-none : (entries : List Entry) (name : List ℕ) → entry_at (place name (newest_first entries)) entries ≡ None
    → newest_external name (externals_of (newest_first entries)) ≡ None
unfolding entity_in
newest-none entries name at =
    ap (λ its. newest_external name (externals_of (onto [] its))) (sym (all-taken entries))
    ∙ newest-taken entries (length entries) name (omega arith)
    ∙ ap (λ its. entity_in (entry_at (place name (onto [] its)) entries)) (all-taken entries) ∙ ap entity_in at

pub newest-some : (entries : List Entry) (name : List ℕ) (it : Entry) → entry_at (place name (newest_first entries)) entries ≡ Some it
    → newest_external name (externals_of (newest_first entries)) ≡ Some it.external.entity
unfolding entity_in
newest-some entries name it at =
    ap (λ its. newest_external name (externals_of (onto [] its))) (sym (all-taken entries))
    ∙ newest-taken entries (length entries) name (omega arith)
    ∙ ap (λ its. entity_in (entry_at (place name (onto [] its)) entries)) (all-taken entries) ∙ ap entity_in at

-- the newest entry is the last one
pub onto-push : (older entries : List Entry) (it : Entry) → onto older (entries ++ it ∷ []) ≡ it ∷ onto older entries
onto-push older [] it = refl
onto-push older (entry ∷ entries) it = onto-push (entry ∷ older) entries it
