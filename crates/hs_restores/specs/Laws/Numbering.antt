-- Numbers of variables that are marked.
--     number_listed            the number of a variable is its place in the list
--     distinct_listed          the list has no variable twice
--     is_listed                a variable is in the list exactly if it is marked
use Rattle.std.proofs.Common.{◌≡◌, ◌≢◌, ◌<◌, ◌≤◌, ◌⊎◌, inl, inr, ℕ, zero, suc, ◌+◌, nat_lt, Bool, true, false, ap, sym, subst, ◌∙◌, refl, arith, List, [], ◌∷◌, ◌++◌, length, slice_get, Some}
use Rattle.std.proofs.lemmas.Bool.{cases_lt}
use Rattle.std.proofs.lemmas.List.{append-nil, length-append}
use Rattle.hs_fact_rows.specs.Cells.{index_of}
use Rattle.hs_fact_rows.specs.Laws.Numbers.{some_one, same_number, same_numbers_not, same_itself, true_not_false, less_number, least_number}
use Rattle.hs_facts.specs.Names.{same_variable}
use Rattle.hs_restores.specs.Marks.{is_marked, variable_of, listed_from, listed, numbered, number_or, number_of}
use Rattle.hs_restores.specs.declared.numbers.Whose.{Whose}
use Rattle.hs_restores.specs.declared.numbers.Whose.TheVariants as whose
use Rattle.hs_tree.specs.declared.head.Variable.{Variable}
use Rattle.hs_tree.specs.declared.head.Variable.TheVariants as name

-- ---- variables that are not there

-- the variable is not in the list
abbrev pub IsAbsent : List Variable → Variable → Type 0
IsAbsent [] v = Unit {0}
IsAbsent (x ∷ rest) v = (same_variable x v ≡ false) × IsAbsent rest v

absent_index : (list : List Variable) (v : Variable) → IsAbsent list v → index_of list v ≡ length list
absent_index [] v a = refl
absent_index (x ∷ rest) v a = rw a.0 (ap (λ n. suc n) (absent_index rest v a.1))

absent_both : (list rest : List Variable) (v : Variable) → IsAbsent list v → IsAbsent rest v → IsAbsent (list ++ rest) v
absent_both [] rest v a b = b
absent_both (x ∷ list) rest v a b = (a.0, absent_both list rest v a.1 b)

index_behind : (list rest : List Variable) (v : Variable) → IsAbsent list v → index_of (list ++ rest) v ≡ length list + index_of rest v
index_behind [] rest v a = let same : index_of rest v ≡ 0 + index_of rest v = omega arith in same
index_behind (x ∷ list) rest v a =
    rw a.0 (let next = index_behind list rest v a.1 in omega (arith, next))

-- another one than each from that place on
abbrev IsOther : Whose → ℕ → Variable → Type 0
IsOther its place v = (k : ℕ) → same_variable (variable_of its (place + k)) v ≡ false

other_next : (its : Whose) (place : ℕ) (v : Variable) → IsOther its place v → IsOther its (suc place) v
other_next its place v other k =
    subst (λ n. same_variable (variable_of its n) v ≡ false) (let e : place + suc k ≡ suc place + k = omega arith in e) (other (suc k))

other_here : (its : Whose) (place : ℕ) (v : Variable) → IsOther its place v → same_variable (variable_of its place) v ≡ false
other_here its place v other = subst (λ n. same_variable (variable_of its n) v ≡ false) (let e : place + 0 ≡ place = omega arith in e) (other 0)

absent_listed : (its : Whose) (place : ℕ) (marks : List Bool) (v : Variable) → IsOther its place v → IsAbsent (listed_from its place marks) v
absent_listed its place [] v other = tt
absent_listed its place (true ∷ marks) v other =
    (other_here its place v other, absent_listed its (suc place) marks v (other_next its place v other))
absent_listed its place (false ∷ marks) v other = absent_listed its (suc place) marks v (other_next its place v other)

-- a later one is another
apart : (its : Whose) (a b : ℕ) → a ≢ b → same_variable (variable_of its a) (variable_of its b) ≡ false
apart whose.Local a b ne = same_numbers_not a b ne
apart whose.Global a b ne = same_numbers_not a b ne

other_later : (its : Whose) (place : ℕ) → IsOther its (suc place) (variable_of its place)
other_later its place k = apart its (suc place + k) place (λ e. omega (arith, e))

-- a variable of the program is not one of the function
other_global : (place : ℕ) → IsOther whose.Local 0 (name.Global place)
other_global place k = refl

other_local : (place : ℕ) → IsOther whose.Global 0 (name.Local place)
other_local place k = refl

-- ---- numbers

same_at : (its : Whose) (place : ℕ) → same_variable (variable_of its place) (variable_of its place) ≡ true
same_at its place = same_itself (variable_of its place)

moved_on : (its : Whose) (place k : ℕ) → variable_of its (place + suc k) ≡ variable_of its (suc place + k)
moved_on its place k = ap (variable_of its) (let e : place + suc k ≡ suc place + k = omega arith in e)

here_at : (its : Whose) (place : ℕ) → variable_of its (place + 0) ≡ variable_of its place
here_at its place = ap (variable_of its) (let e : place + 0 ≡ place = omega arith in e)

-- the number in the table is that of the first one and the place in the list
number_from : (its : Whose) (place first other : ℕ) (marks : List Bool) (rest : List Variable) (k : ℕ)
    → other ≡ first + (length (listed_from its place marks) + index_of rest (variable_of its (place + k)))
    → number_or other (slice_get (numbered first marks) k) ≡ first + index_of (listed_from its place marks ++ rest) (variable_of its (place + k))
number_from its place first other [] rest k e = omega (arith, e)
number_from its place first other (true ∷ marks) rest zero e =
    rw (here_at its place, same_at its place) (let same : first ≡ first + 0 = omega arith in same)
number_from its place first other (true ∷ marks) rest (suc k) e =
    rw (apart its place (place + suc k) (λ same. omega (arith, same)), moved_on its place k)
    (let begun = subst (λ (v : Variable). other ≡ first + (suc (length (listed_from its (suc place) marks)) + index_of rest v)) (moved_on its place k) e in
    let next = number_from its (suc place) (suc first) other marks rest k (omega (arith, begun)) in omega (arith, next))
number_from its place first other (false ∷ marks) rest zero e =
    e ∙ ap (λ n. first + n) (sym (index_behind (listed_from its (suc place) marks) rest (variable_of its (place + 0))
    (subst (IsAbsent (listed_from its (suc place) marks)) (sym (here_at its place))
    (absent_listed its (suc place) marks (variable_of its place) (other_later its place)))))
number_from its place first other (false ∷ marks) rest (suc k) e =
    rw (moved_on its place k) (number_from its (suc place) first other marks rest k
    (subst (λ (v : Variable). other ≡ first + (length (listed_from its (suc place) marks) + index_of rest v)) (moved_on its place k) e))

from_zero : (n : ℕ) → 0 + n ≡ n
from_zero n = omega arith

absent_local : (globals : List Bool) (place : ℕ) → index_of (listed_from whose.Global 0 globals) (name.Local place) ≡ length (listed_from whose.Global 0 globals)
absent_local globals place =
    absent_index (listed_from whose.Global 0 globals) (name.Local place) (absent_listed whose.Global 0 globals (name.Local place) (other_local place))

behind_locals : (locals globals : List Bool) (place : ℕ) → index_of (listed locals globals) (name.Global place)
    ≡ length (listed_from whose.Local 0 locals) + index_of (listed_from whose.Global 0 globals) (name.Global place)
behind_locals locals globals place =
    index_behind (listed_from whose.Local 0 locals) (listed_from whose.Global 0 globals) (name.Global place)
    (absent_listed whose.Local 0 locals (name.Global place) (other_global place))

length_listed : (locals globals : List Bool) → length (listed locals globals)
    ≡ length (listed_from whose.Local 0 locals) + length (listed_from whose.Global 0 globals)
length_listed locals globals = length-append (listed_from whose.Local 0 locals) (listed_from whose.Global 0 globals)

-- the number in the table is the place in the list
pub number_listed : (locals globals : List Bool) (v : Variable)
    → number_of (numbered 0 locals) (numbered (length (listed_from whose.Local 0 locals)) globals) (length (listed locals globals)) v
    ≡ index_of (listed locals globals) v
number_listed locals globals (name.Local place) =
    subst (λ n. number_or (length (listed locals globals)) (slice_get (numbered 0 locals) place) ≡ index_of (listed locals globals) (name.Local n))
    (from_zero place)
    (number_from whose.Local 0 0 (length (listed locals globals)) locals (listed_from whose.Global 0 globals) place
    (let both = length_listed locals globals in let none = absent_local globals (0 + place) in omega (arith, both, none))
    ∙ from_zero (index_of (listed locals globals) (name.Local (0 + place))))
number_listed locals globals (name.Global place) =
    let at : number_or (length (listed locals globals)) (slice_get (numbered (length (listed_from whose.Local 0 locals)) globals) place)
    ≡ length (listed_from whose.Local 0 locals) + index_of (listed_from whose.Global 0 globals ++ []) (name.Global (0 + place)) =
    number_from whose.Global 0 (length (listed_from whose.Local 0 locals)) (length (listed locals globals)) globals [] place
    (let both = length_listed locals globals in omega (arith, both)) in
    at
    ∙ ap (λ (list : List Variable). length (listed_from whose.Local 0 locals) + index_of list (name.Global (0 + place)))
    (append-nil (listed_from whose.Global 0 globals))
    ∙ ap (λ n. length (listed_from whose.Local 0 locals) + index_of (listed_from whose.Global 0 globals) (name.Global n)) (from_zero place)
    ∙ sym (behind_locals locals globals place)

-- ---- no variable twice

-- each one has its place as its number
abbrev pub IsDistinct : List Variable → Type 0
IsDistinct list = (i : ℕ) (x : Variable) → slice_get list i ≡ Some x → index_of list x ≡ i

absent_at : (list : List Variable) (v x : Variable) → IsAbsent list v → (i : ℕ) → slice_get list i ≡ Some x → same_variable v x ≡ false
absent_at [] v x a i there = absurd cc
absent_at (y ∷ rest) v x a zero there =
    subst (λ (it : Variable). same_variable v it ≡ false) (some_one y x there) (turned y v a.0)
  where
    turned : (a b : Variable) → same_variable a b ≡ false → same_variable b a ≡ false
    turned (name.Global a) (name.Global b) h = same_numbers_not b a (λ e. true_not_false (sym (same_number a b (sym e)) ∙ h))
    turned (name.Global a) (name.Local b) h = refl
    turned (name.Local a) (name.Global b) h = refl
    turned (name.Local a) (name.Local b) h = same_numbers_not b a (λ e. true_not_false (sym (same_number a b (sym e)) ∙ h))
absent_at (y ∷ rest) v x a (suc i) there = absent_at rest v x a.1 i there

distinct_more : (v : Variable) (list : List Variable) → IsAbsent list v → IsDistinct list → IsDistinct (v ∷ list)
distinct_more v list a d zero x there = rw (subst (λ (it : Variable). same_variable v it ≡ true) (some_one v x there) (same_itself v)) refl
distinct_more v list a d (suc i) x there = rw (absent_at list v x a i there) (ap (λ n. suc n) (d i x there))

distinct_from : (its : Whose) (place : ℕ) (marks : List Bool) (rest : List Variable)
    → ((k : ℕ) → IsAbsent rest (variable_of its (place + k))) → IsDistinct rest → IsDistinct (listed_from its place marks ++ rest)
distinct_from its place [] rest absent d = d
distinct_from its place (true ∷ marks) rest absent d =
    distinct_more (variable_of its place) (listed_from its (suc place) marks ++ rest)
    (absent_both (listed_from its (suc place) marks) rest (variable_of its place)
    (absent_listed its (suc place) marks (variable_of its place) (other_later its place))
    (subst (IsAbsent rest) (here_at its place) (absent 0)))
    (distinct_from its (suc place) marks rest (λ k. subst (IsAbsent rest) (moved_on its place k) (absent (suc k))) d)
distinct_from its place (false ∷ marks) rest absent d =
    distinct_from its (suc place) marks rest (λ k. subst (IsAbsent rest) (moved_on its place k) (absent (suc k))) d

distinct_none : IsDistinct []
distinct_none i x there = absurd cc

-- what is listed by marks is there once
pub distinct_listed : (locals globals : List Bool) → IsDistinct (listed locals globals)
distinct_listed locals globals =
    distinct_from whose.Local 0 locals (listed_from whose.Global 0 globals)
    (λ k. absent_listed whose.Global 0 globals (name.Local (0 + k)) (other_local (0 + k)))
    (subst IsDistinct (append-nil (listed_from whose.Global 0 globals)) (distinct_from whose.Global 0 globals [] (λ k. tt) distinct_none))

-- ---- what is listed

-- the mark of a variable
abbrev pub mark_of : List Bool → List Bool → Variable → Bool
mark_of locals globals (name.Local place) = is_marked locals place
mark_of locals globals (name.Global place) = is_marked globals place

-- in a list
abbrev pub is_in : List Variable → Variable → Bool
is_in list v = nat_lt (index_of list v) (length list)

-- both numbers are one more
pub less_next : (a b : ℕ) → nat_lt (suc a) (suc b) ≡ nat_lt a b
less_next a b = by_test (cases_lt a b)
  where
    by_test : (a < b) ⊎ (b ≤ a) → nat_lt (suc a) (suc b) ≡ nat_lt a b
    by_test (inl e) = less_number (suc a) (suc b) (omega (arith, e)) ∙ sym (less_number a b e)
    by_test (inr e) = least_number (suc a) (suc b) (omega (arith, e)) ∙ sym (least_number a b e)

is_in_more : (x : Variable) (list : List Variable) (v : Variable) → same_variable x v ≡ false → is_in (x ∷ list) v ≡ is_in list v
is_in_more x list v other = rw other (less_next (index_of list v) (length list))

is_in_first : (x : Variable) (list : List Variable) → is_in (x ∷ list) x ≡ true
is_in_first x list = rw (same_itself x) (less_number 0 (suc (length list)) (omega arith))

is_in_absent : (list : List Variable) (v : Variable) → IsAbsent list v → is_in list v ≡ false
is_in_absent list v a = least_number (index_of list v) (length list) (let same = absent_index list v a in omega (arith, same))

is_in_from : (its : Whose) (place : ℕ) (marks : List Bool) (rest : List Variable) (k : ℕ) → IsAbsent rest (variable_of its (place + k))
    → is_in (listed_from its place marks ++ rest) (variable_of its (place + k)) ≡ is_marked marks k
is_in_from its place [] rest k a = is_in_absent rest (variable_of its (place + k)) a
is_in_from its place (true ∷ marks) rest zero a =
    subst (λ (v : Variable). is_in (variable_of its place ∷ (listed_from its (suc place) marks ++ rest)) v ≡ true) (sym (here_at its place))
    (is_in_first (variable_of its place) (listed_from its (suc place) marks ++ rest))
is_in_from its place (true ∷ marks) rest (suc k) a =
    is_in_more (variable_of its place) (listed_from its (suc place) marks ++ rest) (variable_of its (place + suc k))
    (apart its place (place + suc k) (λ same. omega (arith, same)))
    ∙ ap (is_in (listed_from its (suc place) marks ++ rest)) (moved_on its place k)
    ∙ is_in_from its (suc place) marks rest k (subst (IsAbsent rest) (moved_on its place k) a)
is_in_from its place (false ∷ marks) rest zero a =
    is_in_absent (listed_from its (suc place) marks ++ rest) (variable_of its (place + 0))
    (absent_both (listed_from its (suc place) marks) rest (variable_of its (place + 0))
    (subst (IsAbsent (listed_from its (suc place) marks)) (sym (here_at its place))
    (absent_listed its (suc place) marks (variable_of its place) (other_later its place))) a)
is_in_from its place (false ∷ marks) rest (suc k) a =
    ap (is_in (listed_from its (suc place) marks ++ rest)) (moved_on its place k)
    ∙ is_in_from its (suc place) marks rest k (subst (IsAbsent rest) (moved_on its place k) a)

-- what comes after variables that are other ones
is_in_behind : (list rest : List Variable) (v : Variable) → IsAbsent list v → is_in (list ++ rest) v ≡ is_in rest v
is_in_behind [] rest v a = refl
is_in_behind (x ∷ list) rest v a = is_in_more x (list ++ rest) v a.0 ∙ is_in_behind list rest v a.1

-- a variable is in the list exactly if it is marked
pub is_listed : (locals globals : List Bool) (v : Variable) → is_in (listed locals globals) v ≡ mark_of locals globals v
is_listed locals globals (name.Local place) =
    subst (λ n. is_in (listed locals globals) (name.Local n) ≡ is_marked locals place) (from_zero place)
    (is_in_from whose.Local 0 locals (listed_from whose.Global 0 globals) place
    (absent_listed whose.Global 0 globals (name.Local (0 + place)) (other_local (0 + place))))
is_listed locals globals (name.Global place) =
    is_in_behind (listed_from whose.Local 0 locals) (listed_from whose.Global 0 globals) (name.Global place)
    (absent_listed whose.Local 0 locals (name.Global place) (other_global place))
    ∙ sym (ap (λ (list : List Variable). is_in list (name.Global place)) (append-nil (listed_from whose.Global 0 globals)))
    ∙ subst (λ n. is_in (listed_from whose.Global 0 globals ++ []) (name.Global n) ≡ is_marked globals place) (from_zero place)
    (is_in_from whose.Global 0 globals [] place tt)
