-- An index of fields stays right as the next field is put.
use Rattle.std.proofs.Common.{◌≡◌, ℕ, suc, ◌+◌, ◌<◌, length, drop, drop-cons, get_or, Bool, true, false, nat_eq, List, ◌∷◌, Option, Some, None, refl, sym, ap, subst, ◌∙◌, if◌then◌else◌}
use Rattle.std.specs.Prelude.{is_some}
use native.Mathlib.Numerals.{unary_clauses}
use Rattle.std.specs.Cmp.Lexicographic.{pointwise, bytes_decides}
use Rattle.hs_index.specs.Index.{at}
use Rattle.hs_types.specs.Members.{place_from, first_of, Completes, Gains}
use Rattle.hs_types.specs.declared.body.Field.{Field}

-- the name was put at its place, where there was none
put-if : (same : Bool) (name text : List ℕ) (place : ℕ) (old new later : Option ℕ) → pointwise nat_eq name text ≡ same
    → (same ≡ true → old ≡ None) → new ≡ (if same then Some place else old)
    → first_of new later ≡ first_of old (if same then Some place else later)
put-if true name text place old new later is absent put = rw put (rw (absent refl) refl)
put-if false name text place old new later is absent put = ap (λ it. first_of it later) put

-- the name has a place already
has-if : (same : Bool) (place : ℕ) (old later : Option ℕ) → (same ≡ true → is_some old ≡ true)
    → first_of old later ≡ first_of old (if same then Some place else later)
has-if same place (Some before) later has = refl
has-if true place None later has = let no : false ≡ true = has refl in absurd cc
has-if false place None later has = refl

gained-by : (had : Option ℕ) (name text : List ℕ) (place : ℕ) (old : List (List ℕ × ℕ)) (new later : Option ℕ) → at name old ≡ had
    → new ≡ (if is_some had then at text old else if pointwise nat_eq name text then Some place else at text old)
    → first_of new later ≡ first_of (at text old) (if pointwise nat_eq name text then Some place else later)
gained-by None name text place old new later had gains =
    put-if (pointwise nat_eq name text) name text place (at text old) new later refl
    (λ same. ap (λ it. at it old) (sym ((bytes_decides name text).0 same)) ∙ had) gains
gained-by (Some before) name text place old new later had gains =
    ap (λ it. first_of it later) gains
    ∙ has-if (pointwise nat_eq name text) place (at text old) later
    (λ same. ap is_some (ap (λ it. at it old) (sym ((bytes_decides name text).0 same)) ∙ had))

-- the next field is in the index
pub completes_gained : (old new : List (List ℕ × ℕ)) (place : ℕ) (field : Field) (rest fields : List Field)
    → Completes old place (field ∷ rest) fields → Gains field.name place old new → Completes new (suc place) rest fields
completes_gained old new place field rest fields completes gains text =
    gained-by (at field.name old) field.name text place old (at text new) (place_from text (suc place) rest) refl (gains text)
    ∙ completes text

-- the same, where the field is that of an index
pub completes_next : (old new : List (List ℕ × ℕ)) (place index : ℕ) (field : Field) (fields : List Field) → index < length fields
    → field ≡ get_or fields index field → Completes old place (drop index fields) fields → Gains field.name place old new
    → Completes new (place + 1) (drop (index + 1) fields) fields
completes_next old new place index field fields within is completes gains =
    let ahead : drop index fields ≡ field ∷ drop (suc index) fields =
    drop-cons fields index field within ∙ ap (λ (next : Field). next ∷ drop (suc index) fields) (sym is) in
    simp unary_clauses (completes_gained old new place field (drop (suc index) fields) fields
    (subst (λ rest. Completes old place rest fields) ahead completes) gains)
