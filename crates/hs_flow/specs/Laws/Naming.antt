-- Names by their numbers, and the slots to which a state byte may be put back.
--     any_name_there, any_name_of                a name passes a test, and one that does
--     least_name_with, least_name_least          the least name of a place is a name of it, and the names before it are not
--     no_name_with                               a place without a least name has no name
--     restorable_global, restorable_local, restorable_place, restorable_class      each slot that may have a handle is there
use Rattle.std.proofs.Common.{◌≡◌, ◌<◌, ◌≤◌, ◌⊎◌, ℕ, zero, suc, ◌+◌, ◌||◌, Bool, true, false, inl, inr, refl, ap, sym, subst, ◌∙◌, arith, if◌then◌else◌, List, [], ◌∷◌, ◌++◌, length, slice_get, Some, None}
use Rattle.std.proofs.Math.Nat.{eq-or-lt_of_le}
use Rattle.hs_code.specs.Stacks.{Scope}
use Rattle.hs_flow.specs.Among.{Among, among_left, among_right, among_slot}
use Rattle.hs_flow.specs.Given.{Given, any_from, any_name, least_from, least_name}
use Rattle.hs_flow.specs.Restorable.{is_pointer_slot, pointer_globals, pointer_locals, places_below, classes_below, restorable}
use Rattle.hs_flow.specs.Slots.{slot_if}
use Rattle.hs_flow.specs.declared.fact.Slot.{Slot}
use Rattle.hs_flow.specs.declared.fact.Slot.TheVariants as slot
use Rattle.hs_tree.specs.declared.globals.Global.{Global}
use Rattle.hs_tree.specs.declared.head.Variable.{Variable}
use Rattle.hs_tree.specs.declared.head.Variable.TheVariants as name
use Rattle.hs_tree.specs.declared.head.VariableDecl.{VariableDecl}
use Rattle.hs_types.specs.TypeTables.{TypeTable}

-- ---- names that pass a test

any_there : (h : ℕ) (names : List Variable) (test : ℕ → Variable → Bool) (k : ℕ) (x : Variable) → slice_get names k ≡ Some x → test (h + k) x ≡ true
    → any_from h names test ≡ true
any_there h [] test k x there passes = cc
any_there h (it ∷ rest) test zero x there passes =
    let here : it ≡ x = cc in
    let number : h + 0 ≡ h = omega (arith) in
    let first : test h it ≡ true = subst (λ k. test k it ≡ true) number (subst (λ v. test (h + 0) v ≡ true) (sym here) passes) in
    ap (λ b. b || any_from (suc h) rest test) first
any_there h (it ∷ rest) test (suc k) x there passes =
    let number : h + suc k ≡ suc h + k = omega (arith) in
    let later : any_from (suc h) rest test ≡ true = any_there (suc h) rest test k x there (subst (λ n. test n x ≡ true) number passes) in
    ap (λ b. test h it || b) later ∙ or_true (test h it)
  where
    or_true : (b : Bool) → (b || true) ≡ true
    or_true true = refl
    or_true false = refl

pub any_name_there : (given : Given) (test : ℕ → Variable → Bool) (h : ℕ) (x : Variable) → slice_get given.names h ≡ Some x → test h x ≡ true
    → any_name given test ≡ true
any_name_there given test h x there passes =
    let number : h ≡ 0 + h = omega (arith) in
    any_there 0 given.names test h x there (subst (λ k. test k x ≡ true) number passes)

-- the name that passes
pub record IsPassed (names : List Variable) (test : ℕ → Variable → Bool) : Type 0 where
  pub number : ℕ
  pub name : Variable
  pub there : slice_get names number ≡ Some name
  pub passes : test number name ≡ true

any_of : (h : ℕ) (names : List Variable) (test : ℕ → Variable → Bool) → any_from h names test ≡ true → IsPassed names (λ k x. test (h + k) x)
any_of h [] test passes = cc
any_of h (it ∷ rest) test passes = by (test h it) refl passes (λ more. any_of (suc h) rest test more)
  where
    first : test h it ≡ true → IsPassed (it ∷ rest) (λ k x. test (h + k) x)
    first is =
        let number : h ≡ h + 0 = omega (arith) in
        record { number = 0; name = it; there = refl; passes = subst (λ k. test k it ≡ true) number is }

    later : IsPassed rest (λ k x. test (suc h + k) x) → IsPassed (it ∷ rest) (λ k x. test (h + k) x)
    later its =
        let number : suc h + its.number ≡ h + suc its.number = omega (arith) in
        record { number = suc its.number; name = its.name; there = its.there; passes = subst (λ k. test k its.name ≡ true) number its.passes }

    by : (b : Bool) → test h it ≡ b → (test h it || any_from (suc h) rest test) ≡ true
        → (any_from (suc h) rest test ≡ true → IsPassed rest (λ k x. test (suc h + k) x)) → IsPassed (it ∷ rest) (λ k x. test (h + k) x)
    by true is passed more = first is
    by false is passed more = later (more (sym (ap (λ b. b || any_from (suc h) rest test) is) ∙ passed))

pub any_name_of : (given : Given) (test : ℕ → Variable → Bool) → any_name given test ≡ true → IsPassed given.names test
any_name_of given test passes = from_first (any_of 0 given.names test passes)
  where
    from_first : IsPassed given.names (λ k x. test (0 + k) x) → IsPassed given.names test
    from_first its =
        let number : 0 + its.number ≡ its.number = omega (arith) in
        record { number = its.number; name = its.name; there = its.there; passes = subst (λ k. test k its.name ≡ true) number its.passes }

-- ---- the least name

least_of : (h : ℕ) (names : List Variable) (test : ℕ → Bool) (least : ℕ) → least_from h names test ≡ Some least
    → (test least ≡ true) × ((k : ℕ) → h ≤ k → k < least → test k ≡ false)
least_of h [] test least is = cc
least_of h (it ∷ rest) test least is = by (test h) refl is (λ more. least_of (suc h) rest test least more)
  where
    before : test h ≡ false → ((k : ℕ) → suc h ≤ k → k < least → test k ≡ false) → (k : ℕ) → h ≤ k → k < least → (h ≡ k) ⊎ (h < k)
        → test k ≡ false
    before is rest_before k from under (inl same) = subst (λ n. test n ≡ false) same is
    before is rest_before k from under (inr after) = rest_before k (omega (arith)) under

    by : (b : Bool) → test h ≡ b → (if test h then Some h else least_from (suc h) rest test) ≡ Some least
        → (least_from (suc h) rest test ≡ Some least → (test least ≡ true) × ((k : ℕ) → suc h ≤ k → k < least → test k ≡ false))
        → (test least ≡ true) × ((k : ℕ) → h ≤ k → k < least → test k ≡ false)
    by true is found more =
        let chosen : Some h ≡ Some least = sym (ap (λ b. if b then Some h else least_from (suc h) rest test) is) ∙ found in
        let same : h ≡ least = cc in
        (subst (λ n. test n ≡ true) same is, λ k from under. absurd (let never : least < least = omega (arith) in omega (arith)))
    by false is found more =
        let later : least_from (suc h) rest test ≡ Some least = sym (ap (λ b. if b then Some h else least_from (suc h) rest test) is) ∙ found in
        ((more later).0, λ k from under. before is (more later).1 k from under (eq-or-lt_of_le from))

pub least_name_with : (given : Given) (place h : ℕ) → least_name given place ≡ Some h → given.with place h ≡ true
least_name_with given place h is = (least_of 0 given.names (given.with place) h is).0

pub least_name_least : (given : Given) (place h k : ℕ) → least_name given place ≡ Some h → k < h → given.with place k ≡ false
least_name_least given place h k is under = (least_of 0 given.names (given.with place) h is).1 k (omega (arith)) under

none_of : (h : ℕ) (names : List Variable) (test : ℕ → Bool) → least_from h names test ≡ None → (k : ℕ) → h ≤ k → k < h + length names
    → test k ≡ false
none_of h [] test is k from under = absurd (omega (arith))
none_of h (it ∷ rest) test is k from under = by (test h) refl is (λ more after below. none_of (suc h) rest test more k after below)
  where
    after_first : (h ≡ k) ⊎ (h < k) → test h ≡ false → (h < k → test k ≡ false) → test k ≡ false
    after_first (inl same) is later = subst (λ n. test n ≡ false) same is
    after_first (inr after) is later = later after

    by : (b : Bool) → test h ≡ b → (if test h then Some h else least_from (suc h) rest test) ≡ None
        → (least_from (suc h) rest test ≡ None → suc h ≤ k → k < suc h + length rest → test k ≡ false) → test k ≡ false
    by true is found more =
        let chosen : Some h ≡ None = sym (ap (λ b. if b then Some h else least_from (suc h) rest test) is) ∙ found in cc
    by false is found more =
        let later : least_from (suc h) rest test ≡ None = sym (ap (λ b. if b then Some h else least_from (suc h) rest test) is) ∙ found in
        after_first (eq-or-lt_of_le from) is (λ after. more later (omega (arith)) (omega (arith)))

pub no_name_with : (given : Given) (place k : ℕ) → least_name given place ≡ None → k < length given.names → given.with place k ≡ false
no_name_with given place k is under = none_of 0 given.names (given.with place) is k (omega (arith)) (omega (arith))

-- ---- slots that may have a handle

globals_there : (types : TypeTable) (first : ℕ) (globals : List Global) (g : ℕ) (it : Global) → slice_get globals g ≡ Some it
    → is_pointer_slot types it.variable ≡ true → Among (pointer_globals types first globals) (slot.Variable (name.Global (first + g)))
globals_there types first [] g it there pointer = cc
globals_there types first (one ∷ rest) zero it there pointer =
    let here : one ≡ it = cc in
    let number : first ≡ first + 0 = omega (arith) in
    let is : is_pointer_slot types one.variable ≡ true = subst (λ v. is_pointer_slot types v.variable ≡ true) (sym here) pointer in
    subst (λ n. Among (pointer_globals types first (one ∷ rest)) (slot.Variable (name.Global n))) number
    (among_left (slot_if (is_pointer_slot types one.variable) (slot.Variable (name.Global first))) (pointer_globals types (suc first) rest)
    (slot.Variable (name.Global first)) (among_slot (is_pointer_slot types one.variable) (slot.Variable (name.Global first)) is))
globals_there types first (one ∷ rest) (suc g) it there pointer =
    let number : suc first + g ≡ first + suc g = omega (arith) in
    among_right (slot_if (is_pointer_slot types one.variable) (slot.Variable (name.Global first))) (pointer_globals types (suc first) rest)
    (slot.Variable (name.Global (first + suc g)))
    (subst (λ n. Among (pointer_globals types (suc first) rest) (slot.Variable (name.Global n))) number
    (globals_there types (suc first) rest g it there pointer))

locals_there : (types : TypeTable) (first : ℕ) (locals : List VariableDecl) (l : ℕ) (it : VariableDecl) → slice_get locals l ≡ Some it
    → is_pointer_slot types it ≡ true → Among (pointer_locals types first locals) (slot.Variable (name.Local (first + l)))
locals_there types first [] l it there pointer = cc
locals_there types first (one ∷ rest) zero it there pointer =
    let here : one ≡ it = cc in
    let number : first ≡ first + 0 = omega (arith) in
    let is : is_pointer_slot types one ≡ true = subst (λ v. is_pointer_slot types v ≡ true) (sym here) pointer in
    subst (λ n. Among (pointer_locals types first (one ∷ rest)) (slot.Variable (name.Local n))) number
    (among_left (slot_if (is_pointer_slot types one) (slot.Variable (name.Local first))) (pointer_locals types (suc first) rest)
    (slot.Variable (name.Local first)) (among_slot (is_pointer_slot types one) (slot.Variable (name.Local first)) is))
locals_there types first (one ∷ rest) (suc l) it there pointer =
    let number : suc first + l ≡ first + suc l = omega (arith) in
    among_right (slot_if (is_pointer_slot types one) (slot.Variable (name.Local first))) (pointer_locals types (suc first) rest)
    (slot.Variable (name.Local (first + suc l)))
    (subst (λ n. Among (pointer_locals types (suc first) rest) (slot.Variable (name.Local n))) number
    (locals_there types (suc first) rest l it there pointer))

places_there : (base place : ℕ) → place < base → Among (places_below base) (slot.Place place)
places_there zero place under = absurd (omega (arith))
places_there (suc base) place under = by (eq-or-lt_of_le (omega (arith))) (λ less. places_there base place less)
  where
    by : (place ≡ base) ⊎ (place < base) → (place < base → Among (places_below base) (slot.Place place)) → Among (places_below (suc base)) (slot.Place place)
    by (inl same) less = among_right (places_below base) (slot.Place base ∷ []) (slot.Place place) (inl (ap slot.Place same))
    by (inr under) less = among_left (places_below base) (slot.Place base ∷ []) (slot.Place place) (less under)

classes_there : (count class : ℕ) → class < count → Among (classes_below count) (slot.Class class)
classes_there zero class under = absurd (omega (arith))
classes_there (suc count) class under = by (eq-or-lt_of_le (omega (arith))) (λ less. classes_there count class less)
  where
    by : (class ≡ count) ⊎ (class < count) → (class < count → Among (classes_below count) (slot.Class class))
        → Among (classes_below (suc count)) (slot.Class class)
    by (inl same) less = among_right (classes_below count) (slot.Class count ∷ []) (slot.Class class) (inl (ap slot.Class same))
    by (inr under) less = among_left (classes_below count) (slot.Class count ∷ []) (slot.Class class) (less under)

module _ (scope : Scope) (classes base : ℕ) where
  -- the variables of the function
  abbrev locals : List Slot
  locals = pointer_locals scope.types 0 scope.variables

  -- the places and the classes
  abbrev others : List Slot
  others = places_below base ++ classes_below classes

  pub restorable_global : (g : ℕ) (it : Global) → slice_get scope.globals g ≡ Some it → is_pointer_slot scope.types it.variable ≡ true
      → Among (restorable scope classes base) (slot.Variable (name.Global g))
  restorable_global g it there pointer =
      let number : 0 + g ≡ g = omega (arith) in
      among_left (pointer_globals scope.types 0 scope.globals) (locals ++ others) (slot.Variable (name.Global g))
      (subst (λ n. Among (pointer_globals scope.types 0 scope.globals) (slot.Variable (name.Global n))) number
      (globals_there scope.types 0 scope.globals g it there pointer))

  pub restorable_local : (l : ℕ) (it : VariableDecl) → slice_get scope.variables l ≡ Some it → is_pointer_slot scope.types it ≡ true
      → Among (restorable scope classes base) (slot.Variable (name.Local l))
  restorable_local l it there pointer =
      let number : 0 + l ≡ l = omega (arith) in
      among_right (pointer_globals scope.types 0 scope.globals) (locals ++ others) (slot.Variable (name.Local l))
      (among_left locals others (slot.Variable (name.Local l))
      (subst (λ n. Among locals (slot.Variable (name.Local n))) number (locals_there scope.types 0 scope.variables l it there pointer)))

  pub restorable_place : (place : ℕ) → place < base → Among (restorable scope classes base) (slot.Place place)
  restorable_place place under =
      among_right (pointer_globals scope.types 0 scope.globals) (locals ++ others) (slot.Place place)
      (among_right locals others (slot.Place place)
      (among_left (places_below base) (classes_below classes) (slot.Place place) (places_there base place under)))

  pub restorable_class : (class : ℕ) → class < classes → Among (restorable scope classes base) (slot.Class class)
  restorable_class class under =
      among_right (pointer_globals scope.types 0 scope.globals) (locals ++ others) (slot.Class class)
      (among_right locals others (slot.Class class)
      (among_right (places_below base) (classes_below classes) (slot.Class class) (classes_there classes class under)))
