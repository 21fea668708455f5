-- What is in lists that are filtered or mapped.
--     has_map, map_has              in a map
--     among_map, map_among          the same, as facts are among others
--     among_filter, filter_among    in what a test keeps
use Rattle.hs_flow.specs.Among.{Among}
use Rattle.hs_search.specs.Graphs.{Has}
use Rattle.std.proofs.Common.{◌≡◌, ◌∙◌, inl, inr, refl, sym, ap, Bool, true, false, List, [], ◌∷◌, cond, map}
use Rattle.std.specs.Prelude.{filter}

module _ {A B : Type 0} (f : A → B) where
  -- what a map has comes from an item
  pub map_has : (xs : List A) (y : B) → Has (map f xs) y → (x : A) × Has xs x × (f x ≡ y)
  map_has [] y has = absurd has
  map_has (x ∷ xs) y (inl is) = (x, inl refl, is)
  map_has (x ∷ xs) y (inr has) = let found = map_has xs y has in (found.0, inr found.1, found.2)

  -- and it has what comes from each item
  pub has_map : (xs : List A) (x : A) → Has xs x → Has (map f xs) (f x)
  has_map [] x has = absurd has
  has_map (z ∷ xs) x (inl is) = inl (ap f is)
  has_map (z ∷ xs) x (inr has) = inr (has_map xs x has)

  -- the same of what is among others
  pub map_among : (xs : List A) (y : B) → Among (map f xs) y → (x : A) × Among xs x × (y ≡ f x)
  map_among [] y among = absurd among
  map_among (x ∷ xs) y (inl is) = (x, inl refl, is)
  map_among (x ∷ xs) y (inr among) = let found = map_among xs y among in (found.0, inr found.1, found.2)

  pub among_map : (xs : List A) (x : A) → Among xs x → Among (map f xs) (f x)
  among_map [] x among = absurd among
  among_map (z ∷ xs) x (inl is) = inl (ap f is)
  among_map (z ∷ xs) x (inr among) = inr (among_map xs x among)

module _ {A : Type 0} where
  -- two words for one thing
  pub among_has : (xs : List A) (x : A) → Among xs x → Has xs x
  among_has [] x among = absurd among
  among_has (z ∷ xs) x (inl is) = inl (sym is)
  among_has (z ∷ xs) x (inr among) = inr (among_has xs x among)

  pub has_among : (xs : List A) (x : A) → Has xs x → Among xs x
  has_among [] x has = absurd has
  has_among (z ∷ xs) x (inl is) = inl (sym is)
  has_among (z ∷ xs) x (inr has) = inr (has_among xs x has)

  module _ (test : A → Bool) where
    -- what is kept was there, and has passed the test
    pub filter_among : (xs : List A) (x : A) → Among (filter test xs) x → Among xs x × (test x ≡ true)
    filter_among [] x among = absurd among
    filter_among (z ∷ xs) x among = by (test z) refl (filter_among xs x) among
      where
        by : (b : Bool) → test z ≡ b → (Among (filter test xs) x → Among xs x × (test x ≡ true)) → Among (cond b (z ∷ filter test xs) (filter test xs)) x
            → Among (z ∷ xs) x × (test x ≡ true)
        by true is later (inl same) = (inl same, ap test same ∙ is)
        by true is later (inr among) = let found = later among in (inr found.0, found.1)
        by false is later among = let found = later among in (inr found.0, found.1)

    -- and what passes the test is kept
    pub among_filter : (xs : List A) (x : A) → Among xs x → test x ≡ true → Among (filter test xs) x
    among_filter [] x among passes = absurd among
    among_filter (z ∷ xs) x among passes = by (test z) refl (λ among. among_filter xs x among passes) among
      where
        by : (b : Bool) → test z ≡ b → (Among xs x → Among (filter test xs) x) → Among (z ∷ xs) x → Among (cond b (z ∷ filter test xs) (filter test xs)) x
        by true is later (inl same) = inl same
        by true is later (inr among) = inr (later among)
        by false is later (inl same) = let bad : false ≡ true = sym is ∙ (ap test (sym same) ∙ passes) in absurd cc
        by false is later (inr among) = later among
