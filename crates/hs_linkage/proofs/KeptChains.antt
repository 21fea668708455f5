-- The index and the places of older entries stay right when a declaration comes.
use Rattle.std.proofs.Common.{◌≡◌, ◌<◌, ℕ, Bool, true, false, List, [], ◌∷◌, ◌++◌, length, length-append, Option, Some, nat_eq, sym, ap, ◌∙◌, subst, if◌then◌else◌, arith}
use Rattle.std.specs.Cmp.Lexicographic.{pointwise}
use Rattle.hs_linkage.specs.Chains.{newest_first, place, IsChained, IsKept}
use Rattle.hs_linkage.specs.declared.externals.Entry.{Entry}
use Rattle.hs_linkage.proofs.Chained.{onto-push, onto-length}
use Rattle.hs_index.specs.Index.{at, Puts}

pushed-if : (b : Bool) (count : ℕ) (its : List Entry) (others new : Option ℕ) (text : List ℕ) → length its ≡ count
    → new ≡ (if b then Some count else others) → others ≡ place text its → new ≡ (if b then Some (length its) else place text its)
pushed-if true count its others new text counted is same = is ∙ ap Some (sym counted)
pushed-if false count its others new text counted is same = is ∙ same

pub kept-pushed : (old new : List (List ℕ × ℕ)) (entries : List Entry) (it : Entry) → IsKept old entries
    → Puts it.external.name (length entries) old new → it.older ≡ at it.external.name old → length entries < 4000000000
    → IsKept new (entries ++ it ∷ [])
kept-pushed old new entries it kept puts older few =
    record {
      index = λ text. pushed-if (pointwise nat_eq it.external.name text) (length entries) (newest_first entries) (at text old) (at text new) text
          (omega (arith, onto-length [] entries)) (puts text) (kept.index text)
          ∙ sym (ap (place text) (onto-push [] entries it));
      chained = subst IsChained (sym (onto-push [] entries it)) (older ∙ kept.index it.external.name, kept.chained);
      few = omega (arith, few, length-append entries (it ∷ []));
    }
