-- The brace at which a body begins: it is kept with the struct, and the first struct or enumeration is kept for it (own).
--     brace_traced                     the struct whose body has come gets its brace
--     firsts_traced                    something more is kept for a brace
--     nowhere_traced                   the body begins at no brace of a file
--     struct_first, struct_later, enumeration_first, enumeration_later      the first one at a brace, and a later one
use Rattle.std.proofs.Common.{◌≡◌, ◌≤◌, ◌⊎◌, inl, inr, ℕ, Bool, true, false, List, [], ◌∷◌, length, Option, Some, None, refl, sym, ap, subst, ◌∙◌, if◌then◌else◌, arith}
use Rattle.std.proofs.lemmas.Bool.Decides.{nat_tests}
use Rattle.std.specs.Prelude.{◌==◌, slice_get, slice_set}
use Rattle.indexmap.specs.IndexMap.{insert_entry}
use Rattle.hs_base.specs.Entries.{set_either, set_other, set_length}
use Rattle.hs_expressions.specs.Laws.Traced.{HasBodyIn, HasFirst, IsTraced, HasBrace, Traces}
use Rattle.hs_names.specs.Scopes.{Declared}
use Rattle.hs_tokens.specs.declared.place.Place.{Place}
use Rattle.hs_typer.specs.Origins.{same_brace, kept_for, first_at, begun_nowhere, met, tags_agree}
use Rattle.hs_typer.specs.Tags.{whole_at}
use Rattle.hs_typer.specs.declared.origins.Brace.{Brace}
use Rattle.hs_typer.specs.declared.origins.Origin.{Origin}
use Rattle.hs_typer.specs.declared.origins.Origins.{Origins}
use Rattle.hs_typer.specs.declared.typer.Tag.{Tag}
use Rattle.hs_typer.specs.declared.typer.Tag.TheVariants as tag
use Rattle.hs_types.specs.TypeTables.{TypeTable}
use Rattle.hs_types.specs.declared.body.Body.{Body}
use Rattle.hs_expressions.specs.Laws.Origins.{HasNoBrace}

-- ---- its brace

-- braces that a test tells to be one
pub same_braces : (a b : Brace) → same_brace a b ≡ true → a ≡ b
same_braces a b same =
    let files : a.file ≡ b.file = grind (arith, nat_tests, same) in
    let lines : a.line ≡ b.line = grind (arith, nat_tests, same) in
    let columns : a.col ≡ b.col = grind (arith, nat_tests, same) in
    let times : a.time ≡ b.time = grind (arith, nat_tests, same) in
    λ i. record { file = files i; line = lines i; col = columns i; time = times i }

-- each is the same as itself
brace_self : (a : Brace) → same_brace a a ≡ true
brace_self a = grind (arith, nat_tests)

module _ {A : Type 0} where
  -- the one that is put
  kept_if : (b : Bool) (it : A) (o : Option A) → b ≡ true → (if b then Some it else o) ≡ Some it
  kept_if true it o is = refl
  kept_if false it o is = absurd cc

  -- if nothing is kept, neither this one nor any after it is kept
  kept_none : (b : Bool) (it : A) (o : Option A) → (if b then Some it else o) ≡ None → (b ≡ false) × (o ≡ None)
  kept_none true it o is = absurd cc
  kept_none false it o is = (refl, is)

  -- is kept for its brace
  kept_here : (brace : Brace) (its : List (Brace × A)) (it : A) → kept_for brace its ≡ None
      → kept_for brace (insert_entry same_brace its brace it) ≡ Some it
  kept_here brace [] it none = kept_if (same_brace brace brace) it None (brace_self brace)
  kept_here brace (first ∷ rest) it none =
      let tests : (same_brace brace first.0 ≡ false) × (kept_for brace rest ≡ None)
      = kept_none (same_brace brace first.0) first.1 (kept_for brace rest) none in
      subst (λ b. kept_for brace (if b then (first.0, it) ∷ rest else first ∷ insert_entry same_brace rest brace it) ≡ Some it) (sym tests.0)
      (subst (λ b. (if b then Some first.1 else kept_for brace (insert_entry same_brace rest brace it)) ≡ Some it) (sym tests.0)
      (kept_here brace rest it tests.1))

  -- what is kept for another one stays
  kept_still : (brace other : Brace) (its : List (Brace × A)) (it old : A) → kept_for brace its ≡ None → kept_for other its ≡ Some old
      → kept_for other (insert_entry same_brace its brace it) ≡ Some old
  kept_still brace other [] it old none found = absurd cc
  kept_still brace other (first ∷ rest) it old none found =
      let tests : (same_brace brace first.0 ≡ false) × (kept_for brace rest ≡ None)
      = kept_none (same_brace brace first.0) first.1 (kept_for brace rest) none in
      subst (λ b. kept_for other (if b then (first.0, it) ∷ rest else first ∷ insert_entry same_brace rest brace it) ≡ Some old) (sym tests.0)
      (by_first (same_brace other first.0) found (λ behind. kept_still brace other rest it old tests.1 behind))
    where
      by_first : (b : Bool) → (if b then Some first.1 else kept_for other rest) ≡ Some old
          → (kept_for other rest ≡ Some old → kept_for other (insert_entry same_brace rest brace it) ≡ Some old)
          → (if b then Some first.1 else kept_for other (insert_entry same_brace rest brace it)) ≡ Some old
      by_first true found behind = found
      by_first false found behind = behind found

-- the origins of structs with it
module _ (base : ℕ) (structs : List (Option Body)) (o o' : Origins) (tags : List (Declared Tag)) (number : ℕ) (brace : Brace)
    (has : HasBodyIn structs number) (none : HasNoBrace o number) (first : HasFirst o' brace)
    (firsts : (other : Brace) → HasFirst o other → HasFirst o' other) (unit : o'.unit ≡ o.unit) (is : IsTraced base structs o tags) where
  -- with the same origins
  kept_traced : o'.structs ≡ o.structs → IsTraced base structs o' tags × Traces base structs o structs o'
  kept_traced same = (
    record {
      counted = ap length same ∙ is.counted;
      there = is.there;
      begun = λ k it other at known.
          let old : HasBodyIn structs k × HasFirst o other
          = is.begun k it other (subst (λ its. slice_get its k ≡ Some it) same at) known in
          (old.0, firsts other old.1);
      units = λ k it at from. is.units k it (subst (λ its. slice_get its k ≡ Some it) same at) from ∙ sym unit;
      owned = is.owned;
    },
    record {
      braces = λ k other has. (has.0, subst (λ its. slice_get its k ≡ Some has.0) (sym same) has.1, has.2);
      closed = λ k less. refl;
    },
  )

  -- with a brace more
  set_traced : (its : Origin) → slice_get o.structs number ≡ Some its
      → o'.structs ≡ slice_set o.structs number (record its { whole = true; brace = Some brace })
      → IsTraced base structs o' tags × Traces base structs o structs o'
  set_traced its there same = (
    record {
      counted = ap length same ∙ set_length o.structs number (record its { whole = true; brace = Some brace }) ∙ is.counted;
      there = is.there;
      begun = λ k it other at known. begun_by k it other known (either k it at);
      units = λ k it at from. units_by k it from (either k it at) ∙ sym unit;
      owned = is.owned;
    },
    record { braces = λ k other has. braces_by k other has (k == number) refl; closed = λ k less. refl },
  )
    where
      either : (k : ℕ) (it : Origin) → slice_get o'.structs k ≡ Some it
          → (slice_get o.structs k ≡ Some it) ⊎ ((k ≡ number) × (record its { whole = true; brace = Some brace } ≡ it))
      either k it at =
          set_either o.structs number (record its { whole = true; brace = Some brace }) k it (subst (λ all. slice_get all k ≡ Some it) same at)

      begun_by : (k : ℕ) (it : Origin) (other : Brace) → it.brace ≡ Some other
          → (slice_get o.structs k ≡ Some it) ⊎ ((k ≡ number) × (record its { whole = true; brace = Some brace } ≡ it)) → HasBodyIn structs k × HasFirst o' other
      begun_by k it other known (inl at) =
          let old : HasBodyIn structs k × HasFirst o other = is.begun k it other at known in (old.0, firsts other old.1)
      begun_by k it other known (inr new) =
          let one : Some brace ≡ Some other = ap (λ it. it.brace) new.1 ∙ known in
          let one_brace : brace ≡ other = cc in
          (subst (HasBodyIn structs) (sym new.0) has, subst (HasFirst o') one_brace first)

      units_by : (k : ℕ) (it : Origin) → base ≤ k
          → (slice_get o.structs k ≡ Some it) ⊎ ((k ≡ number) × (record its { whole = true; brace = Some brace } ≡ it)) → it.unit ≡ o.unit
      units_by k it from (inl at) = is.units k it at from
      units_by k it from (inr new) =
          sym (ap (λ it. it.unit) new.1) ∙ is.units number its there (subst (λ n. base ≤ n) new.0 from)

      braces_by : (k : ℕ) (other : Brace) → HasBrace o k other → (b : Bool) → (k == number) ≡ b → HasBrace o' k other
      braces_by k other old true one =
          absurd (none old.0 other (subst (λ n. slice_get o.structs n ≡ Some old.0) (grind (arith, nat_tests, one)) old.1) old.2)
      braces_by k other old false one = (
        old.0,
        subst (λ all. slice_get all k ≡ Some old.0) (sym same)
            (set_other o.structs number (record its { whole = true; brace = Some brace }) k (λ is. grind (arith, nat_tests, one, is)) ∙ old.1),
        old.2,
      )

  -- if it has an origin
  pub brace_traced : o'.structs ≡ whole_at (Some brace) (slice_get o.structs number) o.structs number
      → IsTraced base structs o' tags × Traces base structs o structs o'
  brace_traced same = by_origin (slice_get o.structs number) refl same
    where
      by_origin : (given : Option Origin) → slice_get o.structs number ≡ given → o'.structs ≡ whole_at (Some brace) given o.structs number
          → IsTraced base structs o' tags × Traces base structs o structs o'
      by_origin None there same = kept_traced same
      by_origin (Some its) there same = set_traced its there same

-- with more that is kept for braces
pub firsts_traced : (base : ℕ) (structs : List (Option Body)) (o o' : Origins) (tags : List (Declared Tag)) → o'.structs ≡ o.structs
    → o'.unit ≡ o.unit → ((other : Brace) → HasFirst o other → HasFirst o' other) → IsTraced base structs o tags
    → IsTraced base structs o' tags × Traces base structs o structs o'
firsts_traced base structs o o' tags same unit firsts is = (
  record {
    counted = ap length same ∙ is.counted;
    there = is.there;
    begun = λ k it other at known.
        let old : HasBodyIn structs k × HasFirst o other
        = is.begun k it other (subst (λ its. slice_get its k ≡ Some it) same at) known in
        (old.0, firsts other old.1);
    units = λ k it at from. is.units k it (subst (λ its. slice_get its k ≡ Some it) same at) from ∙ sym unit;
    owned = is.owned;
  },
  record {
    braces = λ k other has. (has.0, subst (λ its. slice_get its k ≡ Some has.0) (sym same) has.1, has.2);
    closed = λ k less. refl;
  },
)

-- a body that begins at no brace of a file
module _ (base : ℕ) (structs : List (Option Body)) (o : Origins) (tags : List (Declared Tag)) (number : ℕ) (none : HasNoBrace o number)
    (is : IsTraced base structs o tags) where
  -- with such a body
  abbrev nowhere : Option Origin → Origins
  nowhere given = record o { structs = whole_at None given o.structs number }

  -- of a struct that is there
  some_nowhere : (its : Origin) → slice_get o.structs number ≡ Some its
      → IsTraced base structs (nowhere (Some its)) tags × Traces base structs o structs (nowhere (Some its))
  some_nowhere its there = (
    record {
      counted = set_length o.structs number (record its { whole = true; brace = None }) ∙ is.counted;
      there = is.there;
      begun = λ k it other at known. begun_by k it other known (set_either o.structs number (record its { whole = true; brace = None }) k it at);
      units = λ k it at from. units_by k it from (set_either o.structs number (record its { whole = true; brace = None }) k it at);
      owned = is.owned;
    },
    record { braces = λ k other has. braces_by k other has (k == number) refl; closed = λ k less. refl },
  )
    where
      no_more : (brace : Brace) → None ≡ Some brace → ⊥
      no_more brace same = cc

      begun_by : (k : ℕ) (it : Origin) (other : Brace) → it.brace ≡ Some other
          → (slice_get o.structs k ≡ Some it) ⊎ ((k ≡ number) × (record its { whole = true; brace = None } ≡ it))
          → HasBodyIn structs k × HasFirst (nowhere (Some its)) other
      begun_by k it other known (inl at) = is.begun k it other at known
      begun_by k it other known (inr new) = absurd (no_more other (ap (λ it. it.brace) new.1 ∙ known))

      units_by : (k : ℕ) (it : Origin) → base ≤ k
          → (slice_get o.structs k ≡ Some it) ⊎ ((k ≡ number) × (record its { whole = true; brace = None } ≡ it)) → it.unit ≡ o.unit
      units_by k it from (inl at) = is.units k it at from
      units_by k it from (inr new) =
          sym (ap (λ it. it.unit) new.1) ∙ is.units number its there (subst (λ n. base ≤ n) new.0 from)

      braces_by : (k : ℕ) (other : Brace) → HasBrace o k other → (b : Bool) → (k == number) ≡ b → HasBrace (nowhere (Some its)) k other
      braces_by k other old true one =
          absurd (none old.0 other (subst (λ n. slice_get o.structs n ≡ Some old.0) (grind (arith, nat_tests, one)) old.1) old.2)
      braces_by k other old false one = (
        old.0,
        set_other o.structs number (record its { whole = true; brace = None }) k (λ is. grind (arith, nat_tests, one, is)) ∙ old.1,
        old.2,
      )

  -- or of none
  pub nowhere_traced : IsTraced base structs (begun_nowhere (tag.Struct number) o) tags
      × Traces base structs o structs (begun_nowhere (tag.Struct number) o)
  nowhere_traced = by_origin (slice_get o.structs number) refl
    where
      by_origin : (given : Option Origin) → slice_get o.structs number ≡ given
          → IsTraced base structs (nowhere given) tags × Traces base structs o structs (nowhere given)
      by_origin None there = firsts_traced base structs o (nowhere None) tags refl refl (λ other old. old) is
      by_origin (Some its) there = some_nowhere its there

-- ---- a struct or an enumeration at its brace

-- the first one of a struct is a struct
first_struct : (types : TypeTable) (o : Origins) (first : Tag) (number : ℕ) → tags_agree types o first (tag.Struct number) ≡ true
    → (one : ℕ) × (first ≡ tag.Struct one)
first_struct types o (tag.Struct one) number is = (one, refl)
first_struct types o (tag.Enumeration one) number is = absurd cc

module _ (base : ℕ) (structs : List (Option Body)) (o : Origins) (tags : List (Declared Tag)) (at : Place) (brace : Brace)
    (is : IsTraced base structs o tags) where
  -- a struct whose body comes first at its brace
  pub struct_first : (number : ℕ) → HasBodyIn structs number → HasNoBrace o number → kept_for brace o.firsts ≡ None
      → IsTraced base structs (first_at brace (tag.Struct number) (met at (tag.Struct number) brace o)) tags
      × Traces base structs o structs (first_at brace (tag.Struct number) (met at (tag.Struct number) brace o))
  struct_first number has none free =
      brace_traced base structs o (first_at brace (tag.Struct number) (met at (tag.Struct number) brace o)) tags number brace has none
      (number, kept_here brace o.firsts (tag.Struct number) free)
      (λ other old. (old.0, kept_still brace other o.firsts (tag.Struct number) (tag.Struct old.0) free old.1)) refl is refl

  -- or after another struct
  pub struct_later : (number : ℕ) → HasBodyIn structs number → HasNoBrace o number → (types : TypeTable) (o' : Origins) (first : Tag)
      → kept_for brace o.firsts ≡ Some first → tags_agree types o' first (tag.Struct number) ≡ true
      → IsTraced base structs (met at (tag.Struct number) brace o) tags × Traces base structs o structs (met at (tag.Struct number) brace o)
  struct_later number has none types o' first kept agree =
      let one : (one : ℕ) × (first ≡ tag.Struct one) = first_struct types o' first number agree in
      brace_traced base structs o (met at (tag.Struct number) brace o) tags number brace has none (one.0, kept ∙ ap Some one.1)
      (λ other old. old) refl is refl

  -- an enumeration
  pub enumeration_first : (number : ℕ) → kept_for brace o.firsts ≡ None
      → IsTraced base structs (first_at brace (tag.Enumeration number) (met at (tag.Enumeration number) brace o)) tags
      × Traces base structs o structs (first_at brace (tag.Enumeration number) (met at (tag.Enumeration number) brace o))
  enumeration_first number free =
      firsts_traced base structs o (first_at brace (tag.Enumeration number) (met at (tag.Enumeration number) brace o)) tags refl refl
      (λ other old. (old.0, kept_still brace other o.firsts (tag.Enumeration number) (tag.Struct old.0) free old.1)) is

  -- or a later one
  pub enumeration_later : (number : ℕ)
      → IsTraced base structs (met at (tag.Enumeration number) brace o) tags
      × Traces base structs o structs (met at (tag.Enumeration number) brace o)
  enumeration_later number = firsts_traced base structs o (met at (tag.Enumeration number) brace o) tags refl refl (λ other old. old) is
