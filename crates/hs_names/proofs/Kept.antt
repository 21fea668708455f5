-- The index and the hidden places stay right when a declaration comes and when it goes.
use Rattle.std.proofs.Common.{◌≡◌, ◌<◌, ℕ, Bool, true, false, List, [], ◌∷◌, ◌++◌, length, length-append, Option, None, Some, nat_eq, refl, sym, ap, ◌∙◌, if◌then◌else◌, arith}
use Rattle.std.specs.Cmp.Lexicographic.{pointwise, bytes_decides}
use Rattle.hs_names.specs.Entries.{declaration, onto, declarations_of, place, Hides, IsKept}
use Rattle.hs_index.specs.Index.{at, Puts}
use Rattle.hs_names.specs.Scopes.{Declared}
use Rattle.hs_names.specs.declared.scopes.Entry.{Entry}
use Rattle.hs_names.proofs.Newest.{onto-push, onto-length}

module _ {E : Type 0} where
  hides-push : (older : List (Declared E)) (entries : List (Entry E)) (it : Entry E) → Hides older entries
      → it.hidden ≡ place it.name.items (onto older entries) → Hides older (entries ++ it ∷ [])
  hides-push older [] it hides hidden = (hidden, tt)
  hides-push older (entry ∷ entries) it hides hidden = (hides.0, hides-push (declaration entry ∷ older) entries it hides.1 hidden)

  hides-front : (older : List (Declared E)) (entries : List (Entry E)) (it : Entry E) → Hides older (entries ++ it ∷ []) → Hides older entries
  hides-front older [] it hides = tt
  hides-front older (entry ∷ entries) it hides = (hides.0, hides-front (declaration entry ∷ older) entries it hides.1)

  hides-last : (older : List (Declared E)) (entries : List (Entry E)) (it : Entry E) → Hides older (entries ++ it ∷ [])
      → it.hidden ≡ place it.name.items (onto older entries)
  hides-last older [] it hides = hides.0
  hides-last older (entry ∷ entries) it hides = hides-last (declaration entry ∷ older) entries it hides.1

  -- with a declaration more
  declared-if : (b : Bool) (count : ℕ) (older : List (Declared E)) (others new : Option ℕ) (text : List ℕ) → length older ≡ count
      → new ≡ (if b then Some count else others) → others ≡ place text older → new ≡ (if b then Some (length older) else place text older)
  declared-if true count older others new text counted is same = is ∙ ap Some (sym counted)
  declared-if false count older others new text counted is same = is ∙ same

  pub kept-declared : (old new : List (List ℕ × ℕ)) (entries : List (Entry E)) (it : Entry E) → IsKept old entries
      → Puts it.name.items (length entries) old new → it.hidden ≡ at it.name.items old → length entries < 4000000000
      → IsKept new (entries ++ it ∷ [])
  kept-declared old new entries it kept puts hidden few =
      record {
        index = λ text. rw (onto-push [] entries it)
            (declared-if (pointwise nat_eq it.name.items text) (length entries) (declarations_of entries) (at text old) (at text new) text
            (omega (arith, onto-length [] entries)) (puts text) (kept.index text));
        hidden = hides-push [] entries it kept.hidden (hidden ∙ kept.index it.name.items);
        few = omega (arith, few, length-append entries (it ∷ []));
      }

  -- without the newest one
  forgotten-if : (b : Bool) (name text : List ℕ) (count : ℕ) (older : List (Declared E)) (value others new : Option ℕ)
      → pointwise nat_eq name text ≡ b → value ≡ place name older → new ≡ (if b then value else others)
      → others ≡ (if b then Some count else place text older) → new ≡ place text older
  forgotten-if true name text count older value others new same hidden is was =
      is ∙ hidden ∙ ap (λ it. place it older) ((bytes_decides name text).0 same)
  forgotten-if false name text count older value others new differ hidden is was = is ∙ was

  pub kept-forgotten : (old new : List (List ℕ × ℕ)) (entries : List (Entry E)) (it : Entry E) → IsKept old (entries ++ it ∷ [])
      → ((text : List ℕ) → at text new ≡ (if pointwise nat_eq it.name.items text then it.hidden else at text old)) → IsKept new entries
  kept-forgotten old new entries it kept changes =
      record {
        index = λ text.
            forgotten-if (pointwise nat_eq it.name.items text) it.name.items text (length (declarations_of entries)) (declarations_of entries)
            it.hidden (at text old) (at text new) refl (hides-last [] entries it kept.hidden) (changes text)
            (kept.index text ∙ ap (place text) (onto-push [] entries it));
        hidden = hides-front [] entries it kept.hidden;
        few = omega (arith, kept.few, length-append entries (it ∷ []));
      }

  -- the newest declaration has a place
  placed-if : (b : Bool) (name : List ℕ) (older : List (Declared E)) → b ≡ true → (if b then Some (length older) else place name older) ≡ None → ⊥
  placed-if true name older same none = cc
  placed-if false name older same none = cc

  pub kept-placed : (old : List (List ℕ × ℕ)) (entries : List (Entry E)) (it : Entry E) → IsKept old (entries ++ it ∷ [])
      → at it.name.items old ≡ None → ⊥
  kept-placed old entries it kept none =
      placed-if (pointwise nat_eq it.name.items it.name.items) it.name.items (declarations_of entries) ((bytes_decides it.name.items it.name.items).1 refl)
      (sym (ap (place it.name.items) (onto-push [] entries it)) ∙ sym (kept.index it.name.items) ∙ none)
