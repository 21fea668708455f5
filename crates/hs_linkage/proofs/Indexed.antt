-- The indexes of definitions stay right as a definition comes.
use Rattle.std.proofs.Common.{◌≡◌, ◌&&◌, ℕ, suc, Bool, true, false, List, [], ◌∷◌, ◌++◌, length, Option, None, Some, nat_eq, refl, sym, ap, ◌∙◌, if◌then◌else◌, inl, inr}
use Rattle.std.specs.Cmp.Lexicographic.{pointwise}
use Rattle.std.proofs.lemmas.Bool.Decides.{eqb_tells}
use Rattle.hs_linkage.proofs.Linkages.{linkage_internal}
use Rattle.hs_linkage.specs.Indexes.{own_names, or_place, PutsFirst, Holds, defined_as, externals_by, is_static_number, linkage_of, IsIndexed}
use Rattle.hs_linkage.specs.Definitions.{later, first_place, is_definition_of, definitions_in, definition_of, text_of}
use Rattle.hs_linkage.specs.declared.definitions.Definition.{Definition}
use Rattle.hs_index.specs.Index.{at}
use Rattle.hs_syntax.specs.Trees as syntax
use Rattle.hs_syntax.specs.Trees.{ExternalDeclaration}
use Rattle.hs_typer.specs.Declarators.{word_of}

-- the first one, or the last one of a list that is one longer
or_last : Option ℕ → Bool → ℕ → Option ℕ
or_last (Some place) test number = Some place
or_last None true number = Some number
or_last None false number = None

module _ {A : Type 0} (test : A → Bool) where
  last-if : (b : Bool) → (if b then Some 0 else later None) ≡ or_last None b 0
  unfolding or_last
  last-if true = refl
  last-if false = refl

  later-last : (found : Option ℕ) (b : Bool) (number : ℕ) → later (or_last found b number) ≡ or_last (later found) b (suc number)
  unfolding or_last
  later-last None true number = refl
  later-last None false number = refl
  later-last (Some place) b number = refl

  first-if : (b last : Bool) (found all : Option ℕ) (number : ℕ) → all ≡ or_last found last number
      → (if b then Some 0 else later all) ≡ or_last (if b then Some 0 else later found) last (suc number)
  unfolding or_last
  first-if true last found all number is = refl
  first-if false last found all number is = ap later is ∙ later-last found last number

  first_place-last : (its : List A) (it : A) → first_place test (its ++ it ∷ []) ≡ or_last (first_place test its) (test it) (length its)
  first_place-last [] it = last-if (test it)
  first_place-last (first ∷ its) it =
      first-if (test first) (test it) (first_place test its) (first_place test (its ++ it ∷ [])) (length its) (first_place-last its it)

-- a name that is put, of which there may be one already
put-if : (same : Bool) (had first : Option ℕ) (number : ℕ) → had ≡ first
    → (if same then or_place had number else had) ≡ or_last first (same && true) number
unfolding or_last
put-if true None first number is = ap (λ found. or_last found true number) is
put-if true (Some place) first number is = ap (λ found. or_last found true number) is
put-if false None first number is = ap (λ found. or_last found false number) is
put-if false (Some place) first number is = ap (λ found. or_last found false number) is

-- another one
stays-if : (same : Bool) (first : Option ℕ) (number : ℕ) → first ≡ or_last first (same && false) number
unfolding or_last
stays-if true None number = refl
stays-if true (Some place) number = refl
stays-if false None number = refl
stays-if false (Some place) number = refl

external-put : (internal : Bool) (old new : List (List ℕ × ℕ)) (its : List Definition) (name : List ℕ) (unit : ℕ)
    → ((unit : ℕ) (text : List ℕ) → at text old ≡ first_place (is_definition_of false unit text) its)
    → Holds internal name (length its) old new
    → (other : ℕ) (text : List ℕ)
    → at text new ≡ first_place (is_definition_of false other text) (its ++ defined_as name unit internal ∷ [])
external-put true old new its name unit were same other text =
    ap (at text) same ∙ were other text
    ∙ stays-if (pointwise nat_eq name text) (first_place (is_definition_of false other text) its) (length its)
    ∙ sym (first_place-last (is_definition_of false other text) its (defined_as name unit true))
external-put false old new its name unit were puts other text =
    puts text
    ∙ put-if (pointwise nat_eq name text) (at text old) (first_place (is_definition_of false other text) its) (length its) (were other text)
    ∙ sym (first_place-last (is_definition_of false other text) its (defined_as name unit false))

own-put : (internal : Bool) (old new : List (List (List ℕ × ℕ))) (its : List Definition) (name : List ℕ) (unit : ℕ)
    → ((unit : ℕ) (text : List ℕ) → at text (own_names unit old) ≡ first_place (is_definition_of true unit text) its)
    → PutsFirst name (length its) (own_names unit old) (own_names unit new)
    → ((other : ℕ) → ¬ (other ≡ unit) → own_names other new ≡ own_names other old)
    → (other : ℕ) (text : List ℕ)
    → at text (own_names other new) ≡ first_place (is_definition_of true other text) (its ++ defined_as name unit internal ∷ [])
own-put internal old new its name unit were puts others other text = elim (eqb_tells unit other) [
  | inl same ↦
      ap (λ number. at text (own_names number new)) (sym same.1)
      ∙ puts text
      ∙ put-if (pointwise nat_eq name text) (at text (own_names unit old)) (first_place (is_definition_of true unit text) its) (length its) (were unit text)
      ∙ ap (λ number. or_last (first_place (is_definition_of true number text) its) (pointwise nat_eq name text && true) (length its)) same.1
      ∙ ap (λ b. or_last (first_place (is_definition_of true other text) its) (pointwise nat_eq name text && b) (length its)) (sym same.0)
      ∙ sym (first_place-last (is_definition_of true other text) its (defined_as name unit internal))
  | inr apart ↦
      ap (at text) (others other (λ same. apart.1 (sym same)))
      ∙ were other text
      ∙ stays-if (pointwise nat_eq name text) (first_place (is_definition_of true other text) its) (length its)
      ∙ ap (λ b. or_last (first_place (is_definition_of true other text) its) (pointwise nat_eq name text && b) (length its)) (sym apart.0)
      ∙ sym (first_place-last (is_definition_of true other text) its (defined_as name unit internal))
]

pub indexed-with : (internal : Bool) (externals externals' : List (List ℕ × ℕ)) (units units' : List (List (List ℕ × ℕ)))
    (its : List Definition) (name : List ℕ) (unit : ℕ) → IsIndexed externals units its → Holds internal name (length its) externals externals'
    → PutsFirst name (length its) (own_names unit units) (own_names unit units')
    → ((other : ℕ) → ¬ (other ≡ unit) → own_names other units' ≡ own_names other units)
    → IsIndexed externals' units' (its ++ defined_as name unit internal ∷ [])
indexed-with internal externals externals' units units' its name unit indexed holds puts others =
    record {
      external = external-put internal externals externals' its name unit indexed.external holds;
      own = own-put internal units units' its name unit indexed.own puts others;
    }

-- The linkage of names tells which definitions have internal linkage.
pub definitions_by_statics : (statics : List (List ℕ × ℕ)) (number : ℕ) (unit its : List ExternalDeclaration)
    → ((name : List ℕ) → at name statics ≡ linkage_of name unit) → externals_by statics number its ≡ definitions_in number unit its
definitions_by_statics statics number unit [] are = refl
definitions_by_statics statics number unit (syntax.function_definition words declarator body ∷ its) are =
    ap (λ b. defined_as (text_of (word_of declarator)) number b ∷ externals_by statics number its)
    (ap is_static_number (are (text_of (word_of declarator))) ∙ linkage_internal (text_of (word_of declarator)) unit)
    ∙ ap (λ rest. definition_of number unit (text_of (word_of declarator)) ∷ rest) (definitions_by_statics statics number unit its are)
definitions_by_statics statics number unit (syntax.declaration it ∷ its) are = definitions_by_statics statics number unit its are
