-- What writing a field does to the facts of a row.
--     number_in           a fact of the plan has a number below the total
--     field_turn          a field that is written has the names of its word, and no other fact changes
use Rattle.std.proofs.Common.{◌≡◌, ◌≢◌, ◌<◌, ◌≤◌, ◌⊎◌, ℕ, suc, ◌+◌, ◌-◌, ◌*◌, ◌==◌, nat_lt, Bool, true, false, not, ◌&&◌, ◌||◌, ap, sym, subst, ◌∙◌, refl, inl, inr, arith, if◌then◌else◌}
use Rattle.std.proofs.lemmas.Bool.{cases_eq, cases_lt}
use Rattle.std.proofs.lemmas.Nat.{row_fits, mul-le}
use Rattle.std.proofs.lemmas.Bool.Decides.{nat_tests}
use Rattle.hs_fact_rows.specs.Cells.{Cell, with_at, saved_at, saved_in, field_of, name_in, number, total, with_field, saved_field, IsIn}
use Rattle.hs_fact_rows.specs.Fields.{Writes}
use Rattle.hs_fact_rows.specs.Given.{Names, facts_in, popped, placed, named, slotted, without, one_name, Turns, Makes}
use Rattle.hs_fact_rows.specs.declared.plan.Plan.{Plan}
use Rattle.hs_rows.specs.Sets.{Sets, has, width, SameSize, KeepsOthers, KeepsRows}

pub same_is : (n : ℕ) → (n == n) ≡ true
same_is n = grind (arith, nat_tests)

pub other_is : (a b : ℕ) → a ≢ b → (a == b) ≡ false
other_is a b h = grind (arith, nat_tests)

pub less_is : (a b : ℕ) → a < b → nat_lt a b ≡ true
less_is a b h = grind (arith, nat_tests)

pub least_is : (a b : ℕ) → b ≤ a → nat_lt a b ≡ false
least_is a b h = grind (arith, nat_tests)

module _ (plan : Plan) where
  -- a name of the plan
  pub name_under : (cell : Cell) → IsIn plan cell → name_in plan cell < plan.names
  name_under (with_at place i) h = h.1
  name_under (saved_at place i) h = h.1
  name_under (saved_in slot i) h = h.1

  pub field_under : (cell : Cell) → IsIn plan cell → field_of plan cell < with_field plan plan.places
  field_under (with_at place i) h = let bound = h.0 in omega arith
  field_under (saved_at place i) h = let bound = h.0 in omega arith
  field_under (saved_in slot i) h = let bound = h.0 in omega arith

  -- the numbers of a field are before those of a later one
  pub before : (k k' i : ℕ) → k < k' → i < plan.names → k * plan.names + i < k' * plan.names
  before k k' i h within =
      let fits : k * plan.names + plan.names ≤ k' * plan.names = row_fits k plan.names k' plan.names h (omega arith) in
      omega arith

  pub number_in : (cell : Cell) → IsIn plan cell → number plan cell < total plan
  number_in cell h = before (field_of plan cell) (with_field plan plan.places) (name_in plan cell) (field_under cell h) (name_under cell h)

  pub field_in : (k : ℕ) → k < with_field plan plan.places → k * plan.names + plan.names ≤ total plan
  field_in k h = row_fits k plan.names (with_field plan plan.places) plan.names h (omega arith)

  -- the fields have their values
  abbrev pub with_field_of : ℕ → (ℕ → Bool) → Cell → Bool → Bool
  with_field_of k value cell before = if field_of plan cell == k then value (name_in plan cell) else before

  pub field_turn :
      (row k : ℕ) (value : ℕ → Bool) (old new : Sets) → Writes row (k * plan.names) plan.names value old new → total plan ≤ width old → row < old.count
      → Turns plan row (with_field_of k value) old new
  field_turn row k value old new w room inside = record {
    facts = λ cell is_in. by_field cell is_in (cases_eq (field_of plan cell) k);
    others = λ r b in_rows in_width other. w.outside r b in_rows in_width (inl other);
    size = w.size;
  }
    where
      apart : (cell : Cell) → IsIn plan cell → field_of plan cell ≢ k → (number plan cell < k * plan.names) ⊎ (k * plan.names + plan.names ≤ number plan cell)
      apart cell is_in ne = by_order (cases_lt (field_of plan cell) k)
        where
          by_order : (field_of plan cell < k) ⊎ (k ≤ field_of plan cell) → (number plan cell < k * plan.names)
              ⊎ (k * plan.names + plan.names ≤ number plan cell)
          by_order (inl h) = inl (before (field_of plan cell) k (name_in plan cell) h (name_under cell is_in))
          by_order (inr h) =
              let above : k < field_of plan cell = omega (arith, ne) in
              let fits : k * plan.names + plan.names ≤ field_of plan cell * plan.names = row_fits k plan.names (field_of plan cell) plan.names above
              (omega arith) in
              inr (omega arith)

      by_field : (cell : Cell) → IsIn plan cell → (field_of plan cell ≡ k) ⊎ (field_of plan cell ≡ k → ⊥)
          → facts_in plan new row cell ≡ with_field_of k value cell (facts_in plan old row cell)
      by_field cell is_in (inl e) =
          ap (λ m. has new row (m * plan.names + name_in plan cell)) e ∙ w.inside (name_in plan cell) (name_under cell is_in)
          ∙ sym (ap (λ b. if b then value (name_in plan cell) else facts_in plan old row cell) (ap (λ m. m == k) e ∙ same_is k))
      by_field cell is_in (inr ne) =
          w.outside row (number plan cell) inside (le_trans' (number_in cell is_in) room) (inr (apart cell is_in ne))
          ∙ sym (ap (λ b. if b then value (name_in plan cell) else facts_in plan old row cell) (other_is (field_of plan cell) k ne))
        where
          le_trans' : number plan cell < total plan → total plan ≤ width old → number plan cell < width old
          le_trans' h h' = omega arith

  -- ---- one after the other

  pub Turns-then :
      (row : ℕ) (first second : Cell → Bool → Bool) (old mid new : Sets) → Turns plan row first old mid → Turns plan row second mid new
      → Turns plan row (λ cell before. second cell (first cell before)) old new
  Turns-then row first second old mid new t u = record {
    facts = λ cell is_in. u.facts cell is_in ∙ ap (second cell) (t.facts cell is_in);
    others = λ r b in_rows in_width other.
        u.others r b (subst (λ m. r < m) (sym t.size.count) in_rows) (subst (λ m. b < 64 * m) (sym t.size.per) in_width) other ∙ t.others r b in_rows
        in_width other;
    size = record { count = u.size.count ∙ t.size.count; per = u.size.per ∙ t.size.per };
  }

  pub Turns-as :
      (row : ℕ) (first second : Cell → Bool → Bool) (old new : Sets) → Turns plan row first old new
      → ((cell : Cell) (before : Bool) → IsIn plan cell → first cell before ≡ second cell before) → Turns plan row second old new
  Turns-as row first second old new t same = record {
    facts = λ cell is_in. t.facts cell is_in ∙ same cell (facts_in plan old row cell) is_in;
    others = t.others;
    size = t.size;
  }

  pub Turns-none : (row : ℕ) (sets : Sets) → Turns plan row (λ cell before. before) sets sets
  Turns-none row sets = record { facts = λ cell _. refl; others = λ r b _ _ _. refl; size = record { count = refl; per = refl } }

  -- ---- a place, and a slot

  pub placed_turn : (place : ℕ) (with_names saved_names : Names) (cell : Cell) (before : Bool) → IsIn plan cell
      → with_field_of (saved_field plan place) saved_names cell (with_field_of (with_field plan place) with_names cell before)
      ≡ placed place with_names saved_names cell before
  placed_turn place with_names saved_names (with_at at i) before h =
      rw (other_is (with_field plan at) (saved_field plan place) (omega arith)) (by_place (cases_eq at place))
    where
      by_place : (at ≡ place) ⊎ (at ≡ place → ⊥)
          → (if with_field plan at == with_field plan place then with_names i else before) ≡ (if at == place then with_names i else before)
      by_place (inl e) = rw (e, same_is (with_field plan place), same_is place) refl
      by_place (inr ne) = rw (other_is (with_field plan at) (with_field plan place) (omega (arith, ne)), other_is at place ne) refl
  placed_turn place with_names saved_names (saved_at at i) before h =
      rw (other_is (saved_field plan at) (with_field plan place) (omega arith)) (by_place (cases_eq at place))
    where
      by_place : (at ≡ place) ⊎ (at ≡ place → ⊥)
          → (if saved_field plan at == saved_field plan place then saved_names i else before) ≡ (if at == place then saved_names i else before)
      by_place (inl e) = rw (e, same_is (saved_field plan place), same_is place) refl
      by_place (inr ne) = rw (other_is (saved_field plan at) (saved_field plan place) (omega (arith, ne)), other_is at place ne) refl
  placed_turn place with_names saved_names (saved_in slot i) before h =
      let bound = h.0 in
      rw (other_is slot (saved_field plan place) (omega (arith, bound)), other_is slot (with_field plan place) (omega (arith, bound))) refl

  -- a place that is not of the plan
  pub placed_none : (place : ℕ) (with_names saved_names : Names) → plan.places ≤ place → (cell : Cell) (before : Bool) → IsIn plan cell
      → before ≡ placed place with_names saved_names cell before
  placed_none place with_names saved_names far (with_at at i) before h = let bound = h.0 in rw (other_is at place (omega (arith, bound, far))) refl
  placed_none place with_names saved_names far (saved_at at i) before h = let bound = h.0 in rw (other_is at place (omega (arith, bound, far))) refl
  placed_none place with_names saved_names far (saved_in slot i) before h = refl

  pub slotted_turn : (slot : ℕ) (saved_names : Names) → slot ≤ plan.slots → (cell : Cell) (before : Bool) → IsIn plan cell
      → with_field_of slot saved_names cell before ≡ slotted (one_name slot) saved_names cell before
  slotted_turn slot saved_names within (with_at at i) before h = rw (other_is (with_field plan at) slot (omega (arith, within))) refl
  slotted_turn slot saved_names within (saved_at at i) before h = rw (other_is (saved_field plan at) slot (omega (arith, within))) refl
  slotted_turn slot saved_names within (saved_in at i) before h = refl

  -- ---- where fields begin

  pub with_first_in : (place : ℕ) → place ≤ plan.places → with_field plan place * plan.names ≤ total plan
  with_first_in place h = mul-le (with_field plan place) plan.names (with_field plan plan.places) plan.names (omega (arith, h)) (omega arith)

  pub with_in : (place : ℕ) → place < plan.places → with_field plan place * plan.names + plan.names ≤ total plan
  with_in place h = field_in (with_field plan place) (omega (arith, h))

  pub saved_first_in : (place : ℕ) → place < plan.places → saved_field plan place * plan.names + plan.names ≤ total plan
  saved_first_in place h = field_in (saved_field plan place) (omega (arith, h))

  pub slot_first_in : (slot : ℕ) → slot ≤ plan.slots → slot * plan.names + plan.names ≤ total plan
  slot_first_in slot h = field_in slot (omega (arith, h))

  -- ---- a row below a place

  pub start_made :
      (row from base : ℕ) (old mid new : Sets) → total plan ≤ width old → row < old.count → base < plan.places → KeepsRows row old mid → SameSize old mid
      → ((bit : ℕ) → bit < width old → has mid row bit ≡ has old from bit)
      → Writes row (with_field plan base * plan.names) (total plan - with_field plan base * plan.names) (λ i. false) mid new
      → Makes plan row from (λ facts cell. popped base cell (facts cell)) old new
  start_made row from base old mid new room inside in_plan kept size copied w = record {
    facts = λ cell is_in. by_cell cell is_in;
    others = λ r b in_rows in_width other.
        w.outside r b (subst (λ m. r < m) (sym size.count) in_rows) (subst (λ m. b < 64 * m) (sym size.per) in_width) (inl other) ∙ kept r b in_rows
        in_width other;
    size = record { count = w.size.count ∙ size.count; per = w.size.per ∙ size.per };
  }
    where
      low : (cell : Cell) → IsIn plan cell → field_of plan cell < with_field plan base → has new row (number plan cell) ≡ has old from (number plan cell)
      low cell is_in h =
          let bound = number_in cell is_in in
          let within : number plan cell < width old = omega arith in
          w.outside row (number plan cell) (subst (λ m. row < m) (sym size.count) inside) (subst (λ m. number plan cell < 64 * m) (sym size.per) within)
          (inr (inl (before (field_of plan cell) (with_field plan base) (name_in plan cell) h (name_under cell is_in))))
          ∙ copied (number plan cell) within

      high : (cell : Cell) → IsIn plan cell → with_field plan base ≤ field_of plan cell → has new row (number plan cell) ≡ false
      high cell is_in h =
          let bound = number_in cell is_in in
          let least : with_field plan base * plan.names ≤ field_of plan cell * plan.names =
          mul-le (with_field plan base) plan.names (field_of plan cell) plan.names h (omega arith) in
          let e : with_field plan base * plan.names + (number plan cell - with_field plan base * plan.names) ≡ number plan cell = omega arith in
          ap (has new row) (sym e) ∙ w.inside (number plan cell - with_field plan base * plan.names) (omega arith)

      by_cell : (cell : Cell) → IsIn plan cell → has new row (number plan cell) ≡ popped base cell (has old from (number plan cell))
      by_cell (with_at at i) is_in = by_order (cases_lt at base)
        where
          by_order : (at < base) ⊎ (base ≤ at) → has new row (number plan (with_at at i)) ≡ popped base (with_at at i) (has old from (number plan
              (with_at at i)))
          by_order (inl h) = low (with_at at i) is_in (omega (arith, h)) ∙ sym (ap (λ b. b && has old from (number plan (with_at at i))) (less_is at base h))
          by_order (inr h) = high (with_at at i) is_in (omega (arith, h)) ∙ sym (ap (λ b. b && has old from (number plan (with_at at i))) (least_is at base h))
      by_cell (saved_at at i) is_in = by_order (cases_lt at base)
        where
          by_order : (at < base) ⊎ (base ≤ at) → has new row (number plan (saved_at at i)) ≡ popped base (saved_at at i) (has old from (number plan
              (saved_at at i)))
          by_order (inl h) = low (saved_at at i) is_in (omega (arith, h)) ∙ sym (ap (λ b. b && has old from (number plan (saved_at at i))) (less_is at base h))
          by_order (inr h) = high (saved_at at i) is_in (omega (arith, h)) ∙ sym (ap (λ b. b && has old from (number plan (saved_at at i))) (least_is
              at base h))
      by_cell (saved_in slot i) is_in = let bound = is_in.0 in low (saved_in slot i) is_in (omega (arith, bound))

  pub start_whole :
      (row from base : ℕ) (old new : Sets) → total plan ≤ width old → plan.places ≤ base → KeepsRows row old new → SameSize old new
      → ((bit : ℕ) → bit < width old → has new row bit ≡ has old from bit) → Makes plan row from (λ facts cell. popped base cell (facts cell)) old new
  start_whole row from base old new room far kept size copied = record {
    facts = λ cell is_in. copied (number plan cell) (within cell is_in) ∙ sym (all_stay cell is_in);
    others = kept;
    size = size;
  }
    where
      within : (cell : Cell) → IsIn plan cell → number plan cell < width old
      within cell is_in = let bound = number_in cell is_in in omega arith

      all_stay : (cell : Cell) → IsIn plan cell → popped base cell (has old from (number plan cell)) ≡ has old from (number plan cell)
      all_stay (with_at at i) h = let bound = h.0 in ap (λ b. b && has old from (number plan (with_at at i))) (less_is at base (omega (arith, bound, far)))
      all_stay (saved_at at i) h = let bound = h.0 in ap (λ b. b && has old from (number plan (saved_at at i))) (less_is at base (omega (arith, bound, far)))
      all_stay (saved_in slot i) h = refl

  -- ---- one number

  -- the fact of that field and name has the value
  abbrev pub bit_of : ℕ → ℕ → Bool → Cell → Bool → Bool
  bit_of k name value cell before = if (field_of plan cell == k) && (name_in plan cell == name) then value else before

  pub bit_turn :
      (row k name : ℕ) (value : Bool) (old new : Sets) → KeepsOthers row (k * plan.names + name) old new → SameSize old new
      → has new row (k * plan.names + name) ≡ value → total plan ≤ width old → row < old.count → name < plan.names
      → Turns plan row (bit_of k name value) old new
  bit_turn row k name value old new keeps size is room inside in_names = record {
    facts = λ cell is_in. by_field cell is_in (cases_eq (field_of plan cell) k) (cases_eq (name_in plan cell) name);
    others = λ r b in_rows in_width other. keeps r b in_rows in_width (inl other);
    size = size;
  }
    where
      kept : (cell : Cell) → IsIn plan cell → number plan cell ≢ k * plan.names + name → has new row (number plan cell) ≡ has old row (number plan cell)
      kept cell is_in ne = let bound = number_in cell is_in in keeps row (number plan cell) inside (omega arith) (inr ne)

      other_number : (cell : Cell) → IsIn plan cell → field_of plan cell ≢ k → number plan cell ≢ k * plan.names + name
      other_number cell is_in ne e = by_order (cases_lt (field_of plan cell) k)
        where
          by_order : (field_of plan cell < k) ⊎ (k ≤ field_of plan cell) → ⊥
          by_order (inl h) = let fits = row_fits (field_of plan cell) plan.names k plan.names h (omega arith) in let small = name_under cell is_in in
              absurd (omega arith)
          by_order (inr h) =
              let fits = row_fits k plan.names (field_of plan cell) plan.names (omega (arith, ne, h)) (omega arith) in absurd (omega arith)

      by_field : (cell : Cell) → IsIn plan cell → (field_of plan cell ≡ k) ⊎ (field_of plan cell ≡ k → ⊥) → (name_in plan cell ≡ name)
          ⊎ (name_in plan cell ≡ name → ⊥)
          → facts_in plan new row cell ≡ bit_of k name value cell (facts_in plan old row cell)
      by_field cell is_in (inl e) (inl e') =
          ap (λ m. has new row (m * plan.names + name_in plan cell)) e ∙ ap (λ m. has new row (k * plan.names + m)) e' ∙ is
          ∙ sym (ap (λ b. if b then value else facts_in plan old row cell)
          (ap (λ b. b && (name_in plan cell == name)) (ap (λ m. m == k) e ∙ same_is k) ∙ ap (λ m. m == name) e' ∙ same_is name))
      by_field cell is_in (inl e) (inr ne) =
          kept cell is_in (λ h. ne (omega (arith, h, ap (λ m. m * plan.names) e)))
          ∙ sym (ap (λ b. if b then value else facts_in plan old row cell)
          (ap (λ b. b && (name_in plan cell == name)) (ap (λ m. m == k) e ∙ same_is k) ∙ other_is (name_in plan cell) name ne))
      by_field cell is_in (inr ne) h =
          kept cell is_in (other_number cell is_in ne)
          ∙ sym (ap (λ b. if b && (name_in plan cell == name) then value else facts_in plan old row cell) (other_is (field_of plan cell) k ne))

  pub named_turn : (place name : ℕ) (cell : Cell) (before : Bool) → IsIn plan cell
      → bit_of (with_field plan place) name true cell before ≡ named place name cell before
  named_turn place name (with_at at i) before h = by_place (cases_eq at place)
    where
      by_name : (b : Bool) → (if b then true else before) ≡ (b || before)
      by_name true = refl
      by_name false = refl

      by_place : (at ≡ place) ⊎ (at ≡ place → ⊥)
          → (if (with_field plan at == with_field plan place) && (i == name) then true else before) ≡ (((at == place) && (i == name)) || before)
      by_place (inl e) = rw (e, same_is (with_field plan place), same_is place) (by_name (i == name))
      by_place (inr ne) = rw (other_is (with_field plan at) (with_field plan place) (omega (arith, ne)), other_is at place ne) refl
  named_turn place name (saved_at at i) before h = rw (other_is (saved_field plan at) (with_field plan place) (omega arith)) refl
  named_turn place name (saved_in slot i) before h = let bound = h.0 in rw (other_is slot (with_field plan place) (omega (arith, bound))) refl

  pub named_none : (place name : ℕ) → plan.places ≤ place → (cell : Cell) (before : Bool) → IsIn plan cell → before ≡ named place name cell before
  named_none place name far (with_at at i) before h = let bound = h.0 in rw (other_is at place (omega (arith, bound, far))) refl
  named_none place name far (saved_at at i) before h = refl
  named_none place name far (saved_in slot i) before h = refl

  -- all facts of a name, in the fields before that one
  abbrev pub ended_below : ℕ → ℕ → Cell → Bool → Bool
  ended_below k name cell before = if nat_lt (field_of plan cell) k && (name_in plan cell == name) then false else before

  pub ended_none : (name : ℕ) (cell : Cell) (before : Bool) → IsIn plan cell → before ≡ ended_below 0 name cell before
  ended_none name cell before h = rw (least_is (field_of plan cell) 0 (omega arith)) refl

  pub ended_next : (k name : ℕ) (cell : Cell) (before : Bool) → IsIn plan cell
      → bit_of k name false cell (ended_below k name cell before) ≡ ended_below (suc k) name cell before
  ended_next k name cell before h = by_field (cases_eq (field_of plan cell) k) (cases_lt (field_of plan cell) k)
    where
      same_end : (b c : Bool) → (if c then false else before) ≡ (if c then false else (if false && c then false else before))
      same_end b c = refl

      by_field : (field_of plan cell ≡ k) ⊎ (field_of plan cell ≡ k → ⊥) → (field_of plan cell < k) ⊎ (k ≤ field_of plan cell)
          → bit_of k name false cell (ended_below k name cell before) ≡ ended_below (suc k) name cell before
      by_field (inl e) order =
          rw (e, same_is k, least_is k k (omega arith), less_is k (suc k) (omega arith)) refl
      by_field (inr ne) (inl l) =
          rw (other_is (field_of plan cell) k ne, less_is (field_of plan cell) k l, less_is (field_of plan cell) (suc k) (omega (arith, l))) refl
      by_field (inr ne) (inr l) =
          rw (other_is (field_of plan cell) k ne, least_is (field_of plan cell) k l, least_is (field_of plan cell) (suc k) (omega (arith, ne, l))) refl

  pub ended_all : (name : ℕ) (cell : Cell) (before : Bool) → IsIn plan cell
      → ended_below (with_field plan plan.places) name cell before ≡ without (one_name name) cell before
  ended_all name cell before h = rw (less_is (field_of plan cell) (with_field plan plan.places) (field_under cell h)) (by_cell cell)
    where
      by_name : (b : Bool) → (if b then false else before) ≡ (not b && before)
      by_name true = refl
      by_name false = refl

      by_cell : (cell : Cell) → (if name_in plan cell == name then false else before) ≡ without (one_name name) cell before
      by_cell (with_at at i) = by_name (i == name)
      by_cell (saved_at at i) = by_name (i == name)
      by_cell (saved_in slot i) = by_name (i == name)

  -- ---- what is written, by what the code calls

  with_room : (old mid : Sets) → SameSize old mid → total plan ≤ width old → total plan ≤ width mid
  with_room old mid size room = subst (λ m. total plan ≤ 64 * m) (sym size.per) room

  with_row : (row : ℕ) (old mid : Sets) → SameSize old mid → row < old.count → row < mid.count
  with_row row old mid size inside = subst (λ m. row < m) (sym size.count) inside

  pub place_turn :
      (row place first second : ℕ) (with_names saved_names : Names) (old mid new : Sets) → first ≡ with_field plan place * plan.names
      → second ≡ saved_field plan place * plan.names → Writes row first plan.names with_names old mid → Writes row second plan.names saved_names mid new
      → total plan ≤ width old → row < old.count → Turns plan row (placed place with_names saved_names) old new
  place_turn row place first second with_names saved_names old mid new is is' w w' room inside =
      let one = field_turn row (with_field plan place) with_names old mid (subst (λ m. Writes row m plan.names with_names old mid) is w) room inside in
      let two = field_turn row (saved_field plan place) saved_names mid new (subst (λ m. Writes row m plan.names saved_names mid new) is' w')
      (with_room old mid w.size room) (with_row row old mid w.size inside) in
      Turns-as row (λ cell before. with_field_of (saved_field plan place) saved_names cell (with_field_of (with_field plan place) with_names cell before))
      (placed place with_names saved_names) old new
      (Turns-then row (with_field_of (with_field plan place) with_names) (with_field_of (saved_field plan place) saved_names) old mid new one two)
      (placed_turn place with_names saved_names)

  pub slot_turn :
      (row slot first : ℕ) (saved_names : Names) (old new : Sets) → first ≡ slot * plan.names → Writes row first plan.names saved_names old new
      → total plan ≤ width old → row < old.count → slot ≤ plan.slots → Turns plan row (slotted (one_name slot) saved_names) old new
  slot_turn row slot first saved_names old new is w room inside within =
      Turns-as row (with_field_of slot saved_names) (slotted (one_name slot) saved_names) old new
      (field_turn row slot saved_names old new (subst (λ m. Writes row m plan.names saved_names old new) is w) room inside)
      (slotted_turn slot saved_names within)

  pub name_turn :
      (row place name first : ℕ) (old new : Sets) → first ≡ with_field plan place * plan.names → KeepsOthers row (first + name) old new → SameSize old new
      → has new row (first + name) ≡ true → total plan ≤ width old → row < old.count → name < plan.names → Turns plan row (named place name) old new
  name_turn row place name first old new is keeps size there room inside in_names =
      Turns-as row (bit_of (with_field plan place) name true) (named place name) old new
      (bit_turn row (with_field plan place) name true old new (subst (λ m. KeepsOthers row (m + name) old new) is keeps) size
      (subst (λ m. has new row (m + name) ≡ true) is there) room inside in_names)
      (named_turn place name)

  pub end_next :
      (row name k : ℕ) (old mid new : Sets) → Turns plan row (ended_below k name) old mid → KeepsOthers row (k * plan.names + name) mid new → SameSize mid new
      → has new row (k * plan.names + name) ≡ false → total plan ≤ width old → row < old.count → name < plan.names
      → Turns plan row (ended_below (suc k) name) old new
  end_next row name k old mid new t keeps size gone room inside in_names =
      Turns-as row (λ cell before. bit_of k name false cell (ended_below k name cell before)) (ended_below (suc k) name) old new
      (Turns-then row (ended_below k name) (bit_of k name false) old mid new t
      (bit_turn row k name false mid new keeps size gone (with_room old mid t.size room) (with_row row old mid t.size inside) in_names))
      (ended_next k name)

  pub start_made_at :
      (row from base first count : ℕ) (old mid new : Sets) → first ≡ with_field plan base * plan.names → count ≡ total plan → total plan ≤ width old
      → row < old.count → base < plan.places → KeepsRows row old mid → SameSize old mid → ((bit : ℕ) → bit < width old → has mid row bit ≡ has old from bit)
      → Writes row first (count - first) (λ i. false) mid new → Makes plan row from (λ facts cell. popped base cell (facts cell)) old new
  start_made_at row from base first count old mid new is is' room inside in_plan kept size copied w =
      start_made row from base old mid new room inside in_plan kept size copied
      (subst (λ m. Writes row m (total plan - m) (λ i. false) mid new) is (subst (λ m. Writes row first (m - first) (λ i. false) mid new) is' w))
