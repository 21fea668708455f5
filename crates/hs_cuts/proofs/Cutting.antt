-- Rows that are met one after the other, and what a visit of an operation does.
use Rattle.std.proofs.Common.{◌↔◌, ◌≡◌, ◌≢◌, ◌<◌, ◌≤◌, ◌⊎◌, ℕ, suc, ◌*◌, Bool, true, false, ◌&&◌, ◌||◌, ap, sym, subst, ◌∙◌, refl, inl, inr, arith, List, length, take, drop, ◌++◌, replicate, get_or, set, slice_get, Option, Some, None}
use Rattle.std.proofs.lemmas.Bool.{cases_eq}
use Rattle.std.proofs.lemmas.List.{get_or-set_same, get_or-set_other, get_or-replicate, length-set}
use Rattle.std.proofs.Math.Seq.{take-append_seam}
use Rattle.hs_code.specs.Following.{Follows, IsCase, IsAmong}
use Rattle.hs_code.specs.declared.function_code.Case.{Case}
use Rattle.hs_code.specs.declared.successors.Successors.{Successors}
use Rattle.hs_cuts.specs.Cuts.{Task, Made, IsCut, Cuts, uncut, cut, AgreesFrom, IsStanding, IsFull, IsSolved, Visit, Visited, Passed, ops}
use Rattle.hs_cuts.specs.Meeting.{Met, Flagged, SameRow, SeenCases, SeenBefore, Quiet, flag, target_in}
use Rattle.hs_rows.specs.Sets.{Sets, has, width, SameSize, KeepsRows}

true_not_false : {P : Type 0} → true ≡ false → P
true_not_false h = grind arith

both : (a b : Bool) → (a && b) ≡ true → (a ≡ true) × (b ≡ true)
both true b h = (refl, h)
both false b h = grind arith

both_true : (a b : Bool) → a ≡ true → b ≡ true → (a && b) ≡ true
both_true a b h k = rw h k

some_one : {A : Type 0} (a b : A) → Some a ≡ Some b → a ≡ b
some_one a b h = cc

module _ (total ops : ℕ) where
  -- ---- none, and one row

  pub Met-none : (mask : ℕ → Bool) (sets : Sets) (Seen : ℕ → Type 0) → ((r : ℕ) → r < ops → Seen r → ⊥) → Met total ops mask Seen sets sets
  Met-none mask sets Seen none = record {
    back = λ r b l h k. k;
    kept = λ r b l h k s. k;
    met = λ r b l h s k. absurd (none r l s);
    size = record { count = refl; per = refl };
    scratch = λ b h. refl;
  }

  pub Flagged-none : (sets : Sets) (flags : List Bool) → Flagged total ops sets sets flags flags false
  Flagged-none sets flags = record { told = λ r l. inr (refl, λ b h. refl); still = λ _. (refl, λ r l b h. refl); len = refl }

  pub Met-one :
      (old new : Sets) (next : ℕ) → next < ops → old.count ≡ suc ops → total ≤ width old
      → ((bit : ℕ) → bit < width old → has new next bit ≡ (has old next bit && has old ops bit)) → KeepsRows next old new → SameSize old new
      → Met total ops (has old ops) (λ r. r ≡ next) old new
  Met-one old new next within count room both_rows others size = record {
    back = λ r b l h k. back_at r b l h k (cases_eq r next);
    kept = λ r b l h k s. kept_at r b l h k s (cases_eq r next);
    met = λ r b l h s k. (both (has old next b) (has old ops b) (sym (here b h) ∙ subst (λ m. has new m b ≡ true) s k)).1;
    size = size;
    scratch = λ b h. others ops b (omega arith) (omega (arith, h, room)) (omega arith);
  }
    where
      here : (b : ℕ) → b < total → has new next b ≡ (has old next b && has old ops b)
      here b h = both_rows b (omega (arith, h, room))

      back_at : (r b : ℕ) → r < ops → b < total → has new r b ≡ true → (r ≡ next) ⊎ (r ≡ next → ⊥) → has old r b ≡ true
      back_at r b l h k (inl e) =
          subst (λ m. has old m b ≡ true) (sym e)
          (both (has old next b) (has old ops b) (sym (here b h) ∙ subst (λ m. has new m b ≡ true) e k)).0
      back_at r b l h k (inr ne) = sym (others r b (omega arith) (omega (arith, h, room)) ne) ∙ k

      kept_at : (r b : ℕ) → r < ops → b < total → has old r b ≡ true → (r ≡ next → has old ops b ≡ true) → (r ≡ next) ⊎ (r ≡ next → ⊥)
          → has new r b ≡ true
      kept_at r b l h k s (inl e) =
          subst (λ m. has new m b ≡ true) (sym e)
          (here b h ∙ both_true (has old next b) (has old ops b) (subst (λ m. has old m b ≡ true) e k) (s e))
      kept_at r b l h k s (inr ne) = others r b (omega arith) (omega (arith, h, room)) ne ∙ k

  pub Flagged-one :
      (old new : Sets) (next : ℕ) (flags : List Bool) → next < length flags → old.count ≡ suc ops → total ≤ width old → KeepsRows next old new
      → Flagged total ops old new flags (set flags next true) true
  Flagged-one old new next flags within count room others = record {
    told = λ r l. by_row r l (cases_eq r next);
    still = λ h. true_not_false h;
    len = length-set flags next true;
  }
    where
      by_row : (r : ℕ) → r < ops → (r ≡ next) ⊎ (r ≡ next → ⊥)
          → (get_or (set flags next true) r false ≡ true) ⊎ ((get_or (set flags next true) r false ≡ get_or flags r false) × SameRow total ops old new r)
      by_row r l (inl e) = inl (ap (λ m. get_or (set flags next true) m false) e ∙ get_or-set_same flags next true false within)
      by_row r l (inr ne) =
          inr (get_or-set_other flags next r true false ne, λ b h. others r b (omega arith) (omega (arith, h, room)) ne)

  pub Flagged-same :
      (old new : Sets) (next : ℕ) (flags : List Bool) → old.count ≡ suc ops → total ≤ width old → KeepsRows next old new
      → ((bit : ℕ) → bit < width old → has new next bit ≡ has old next bit) → Flagged total ops old new flags flags false
  Flagged-same old new next flags count room others same = record {
    told = λ r l. inr (refl, by_row r l (cases_eq r next));
    still = λ h. (refl, λ r l. by_row r l (cases_eq r next));
    len = refl;
  }
    where
      by_row : (r : ℕ) → r < ops → (r ≡ next) ⊎ (r ≡ next → ⊥) → SameRow total ops old new r
      by_row r l (inl e) b h =
          ap (λ m. has new m b) e ∙ same b (omega (arith, h, room)) ∙ ap (λ m. has old m b) (sym e)
      by_row r l (inr ne) b h = others r b (omega arith) (omega (arith, h, room)) ne

  -- ---- one after the other

  pub Met-then :
      (mask mask' : ℕ → Bool) (Seen Also : ℕ → Type 0) (old mid new : Sets) → ((b : ℕ) → b < total → mask' b ≡ mask b)
      → Met total ops mask Seen old mid → Met total ops mask' Also mid new → Met total ops mask (λ r. Seen r ⊎ Also r) old new
  Met-then mask mask' Seen Also old mid new same m n = record {
    back = λ r b l h k. m.back r b l h (n.back r b l h k);
    kept = λ r b l h k s. n.kept r b l h (m.kept r b l h k (λ seen. s (inl seen))) (λ also. same b h ∙ s (inr also));
    met = λ r b l h s k. by_seen r b l h k s;
    size = record { count = n.size.count ∙ m.size.count; per = n.size.per ∙ m.size.per };
    scratch = λ b h. n.scratch b h ∙ m.scratch b h;
  }
    where
      by_seen : (r b : ℕ) → r < ops → b < total → has new r b ≡ true → Seen r ⊎ Also r → mask b ≡ true
      by_seen r b l h k (inl s) = m.met r b l h s (n.back r b l h k)
      by_seen r b l h k (inr s) = sym (same b h) ∙ n.met r b l h s k

  pub Met-seen :
      (mask : ℕ → Bool) (Seen Also : ℕ → Type 0) (old new : Sets) → ((r : ℕ) → r < ops → Seen r → Also r) → ((r : ℕ) → r < ops → Also r → Seen r)
      → Met total ops mask Seen old new → Met total ops mask Also old new
  Met-seen mask Seen Also old new to from m = record {
    back = m.back;
    kept = λ r b l h k s. m.kept r b l h k (λ seen. s (to r l seen));
    met = λ r b l h s k. m.met r b l h (from r l s) k;
    size = m.size;
    scratch = m.scratch;
  }

  pub Flagged-then :
      (old mid new : Sets) (flags flags' flags'' : List Bool) (one two : Bool) → Flagged total ops old mid flags flags' one
      → Flagged total ops mid new flags' flags'' two → Flagged total ops old new flags flags'' (one || two)
  Flagged-then old mid new flags flags' flags'' one two f g = record {
    told = λ r l. by_first r l (g.told r l) (f.told r l);
    still = λ h. by_tests (neither one two h);
    len = g.len ∙ f.len;
  }
    where
      neither : (a b : Bool) → (a || b) ≡ false → (a ≡ false) × (b ≡ false)
      neither true b h = true_not_false h
      neither false b h = (refl, h)

      by_tests : (one ≡ false) × (two ≡ false) → (flags'' ≡ flags) × ((r : ℕ) → r < ops → SameRow total ops old new r)
      by_tests h =
          let first = f.still h.0 in
          let second = g.still h.1 in
          (second.0 ∙ first.0, λ r l b k. second.1 r l b k ∙ first.1 r l b k)

      by_first : (r : ℕ) → r < ops → (flag total ops flags'' r ≡ true) ⊎ ((flag total ops flags'' r ≡ flag total ops flags' r) × SameRow total ops mid new r)
          → (flag total ops flags' r ≡ true) ⊎ ((flag total ops flags' r ≡ flag total ops flags r) × SameRow total ops old mid r)
          → (flag total ops flags'' r ≡ true) ⊎ ((flag total ops flags'' r ≡ flag total ops flags r) × SameRow total ops old new r)
      by_first r l (inl h) k = inl h
      by_first r l (inr h) (inl k) = inl (h.0 ∙ k)
      by_first r l (inr h) (inr k) = inr (h.0 ∙ k.0, λ b m. h.1 b m ∙ k.1 b m)

  pub Flagged-from :
      (old mid new : Sets) (flags flags' : List Bool) (changed : Bool) → ((r : ℕ) → r < ops → SameRow total ops old mid r)
      → Flagged total ops mid new flags flags' changed → Flagged total ops old new flags flags' changed
  Flagged-from old mid new flags flags' changed same f = record {
    told = λ r l. by_told r l (f.told r l);
    still = λ h. ((f.still h).0, λ r l b m. (f.still h).1 r l b m ∙ same r l b m);
    len = f.len;
  }
    where
      by_told : (r : ℕ) → r < ops → (flag total ops flags' r ≡ true) ⊎ ((flag total ops flags' r ≡ flag total ops flags r) × SameRow total ops mid new r)
          → (flag total ops flags' r ≡ true) ⊎ ((flag total ops flags' r ≡ flag total ops flags r) × SameRow total ops old new r)
      by_told r l (inl h) = inl h
      by_told r l (inr h) = inr (h.0, λ b m. h.1 b m ∙ same r l b m)

-- ---- cases

module _ (cases : List Case) (first end : ℕ) where
  pub seen_none : (r : ℕ) → SeenBefore cases first end first r → ⊥
  seen_none r h = let low = h.1 in let high = h.2 in absurd (omega arith)

  pub seen_next : (place r : ℕ) (it : Option ℕ) → it ≡ target_in (slice_get cases place) → first ≤ place → place < end
      → SeenBefore cases first end place r ⊎ it ≡ Some r → SeenBefore cases first end (suc place) r
  seen_next place r it is low high (inl h) = (h.0, h.1, omega (arith, h.2), h.3, h.4)
  seen_next place r it is low high (inr h) = (place, low, omega arith, high, sym is ∙ h)

  pub seen_back : (place r : ℕ) (it : Option ℕ) → it ≡ target_in (slice_get cases place) → SeenBefore cases first end (suc place) r
      → SeenBefore cases first end place r ⊎ it ≡ Some r
  seen_back place r it is h = by_place (cases_eq h.0 place)
    where
      by_place : (h.0 ≡ place) ⊎ (h.0 ≡ place → ⊥) → SeenBefore cases first end place r ⊎ it ≡ Some r
      by_place (inl e) = inr (is ∙ ap (λ n. target_in (slice_get cases n)) (sym e) ∙ h.4)
      by_place (inr ne) = inl (h.0, h.1, omega (arith, ne, h.2), h.3, h.4)

  pub seen_all : (place r : ℕ) → SeenBefore cases first end place r → SeenCases cases first end r
  seen_all place r h = (h.0, h.1, h.3, h.4)

  pub all_seen : (place r : ℕ) → end ≤ place → SeenCases cases first end r → SeenBefore cases first end place r
  all_seen place r far h = (h.0, h.1, omega (arith, h.2, far), h.2, h.3)

-- rows of the same size have the same room
pub room_kept : (total : ℕ) (old new : Sets) → total ≤ width old → SameSize old new → total ≤ width new
room_kept total old new room size = subst (λ m. total ≤ 64 * m) (sym size.per) room

-- ---- a visit

module _ (task : Task) where
  -- what a call of `make` shows
  pub record MakesRow (at : ℕ) (old new : Sets) : Type 0 where
    pub made : (bits : ℕ → Bool) → ((b : ℕ) → b < task.total → bits b ≡ has old at b) → task.makes at bits (has new (ops task))
    pub others : KeepsRows (ops task) old new
    pub size : SameSize old new

  pub made_kept :
      (at : ℕ) (old mid : Sets) → MakesRow at old mid → old.count ≡ suc (ops task) → task.total ≤ width old → (r : ℕ) → r < ops task
      → SameRow task.total (ops task) old mid r
  made_kept at old mid m count room r l b h = m.others r b (omega arith) (omega (arith, h, room)) (omega arith)

  pub visit_cut :
      (at : ℕ) (Seen : ℕ → Type 0) (old mid new : Sets) → MakesRow at old mid → old.count ≡ suc (ops task) → task.total ≤ width old
      → Met task.total (ops task) (has mid (ops task)) Seen mid new → ((r : ℕ) → Seen r → Follows task.code at r) → IsCut task old new
  visit_cut at Seen old mid new made count room m follows = record {
    back = λ r b l h k. sym (made_kept at old mid made count room r l b h) ∙ m.back r b l h k;
    kept = λ r b l h k gives. m.kept r b l h (made_kept at old mid made count room r l b h ∙ k)
        (λ s. gives at (follows r s) (has mid (ops task)) made.made);
  }

  pub visit_agrees :
      (at : ℕ) (Seen : ℕ → Type 0) (old mid new : Sets) → MakesRow at old mid → Met task.total (ops task) (has mid (ops task)) Seen mid new
      → ((r : ℕ) → Follows task.code at r → Seen r) → (r b : ℕ) → r < ops task → b < task.total → Follows task.code at r → has new r b ≡ true
      → (made : ℕ → Bool) × Made task at (has old at) made × (made b ≡ true)
  visit_agrees at Seen old mid new made m seen r b l h f k = (has mid (ops task), made.made, m.met r b l h (seen r f) k)

  -- an operation makes the same from rows that are the same
  made_same : (from : ℕ) (old new : Sets) → SameRow task.total (ops task) old new from → (made : ℕ → Bool) → Made task from (has old from) made
      → Made task from (has new from) made
  made_same from old new same made m bits is = m bits (λ b h. is b h ∙ same b h)

  -- what stood still stands, and so does the operation that was visited
  pub stand_visit :
      (at : ℕ) (old new : Sets) (flags flags' : List Bool) (changed : Bool) → IsStanding task flags old → IsCut task old new
      → ((r b : ℕ) → r < ops task → b < task.total → Follows task.code at r → has new r b ≡ true
      → (made : ℕ → Bool) × Made task at (has old at) made × (made b ≡ true))
      → Flagged task.total (ops task) old new (set flags at false) flags' changed → IsStanding task flags' new
  stand_visit at old new flags flags' changed standing trimmed agrees f from l = by_told (f.told from l)
    where
      by_told : (get_or flags' from false ≡ true) ⊎ ((get_or flags' from false ≡ get_or (set flags at false) from false) × SameRow task.total (ops
          task) old new from)
          → (get_or flags' from false ≡ true) ⊎ AgreesFrom task new from
      by_told (inl h) = inl h
      by_told (inr h) = by_place (cases_eq from at)
        where
          still : AgreesFrom task old from → AgreesFrom task new from
          still all r b k m follows now =
              let its = all r b k m follows (trimmed.back r b k m now) in
              (its.0, made_same from old new h.1 its.0 its.1, its.2)

          by_old : from ≢ at → (get_or flags from false ≡ true) ⊎ AgreesFrom task old from → (get_or flags' from false ≡ true) ⊎ AgreesFrom task new from
          by_old ne (inl k) = inl (h.0 ∙ get_or-set_other flags at from false false ne ∙ k)
          by_old ne (inr k) = inr (still k)

          here : from ≡ at → AgreesFrom task new from
          here e r b k m follows now =
              let its = agrees r b k m (subst (λ n. Follows task.code n r) e follows) now in
              (its.0, made_same from old new h.1 its.0 (subst (λ n. Made task n (has old n) its.0) (sym e) its.1), its.2)

          by_place : (from ≡ at) ⊎ (from ≡ at → ⊥) → (get_or flags' from false ≡ true) ⊎ AgreesFrom task new from
          by_place (inl e) = inr (here e)
          by_place (inr ne) = by_old ne (standing from l)

  pub cut_none : (sets : Sets) → IsCut task sets sets
  cut_none sets = record { back = λ at b l h k. k; kept = λ at b l h k gives. k }

  -- ---- a pass

  pub quiet_next :
      (at : ℕ) (flags flags' : List Bool) (before now : Bool) → Quiet at flags before
      → (now ≡ false → (get_or flags' at false ≡ false) × ((r : ℕ) → r ≢ at → get_or flags' r false ≡ get_or flags r false))
      → Quiet (suc at) flags' (before || now)
  quiet_next at flags flags' true now q v h r l = true_not_false h
  quiet_next at flags flags' false now q v h r l = by_place (cases_eq r at)
    where
      by_place : (r ≡ at) ⊎ (r ≡ at → ⊥) → get_or flags' r false ≡ false
      by_place (inl e) = ap (λ n. get_or flags' n false) e ∙ (v h).0
      by_place (inr ne) = (v h).1 r ne ∙ q refl r (omega (arith, l, ne))

  -- ---- the operations that follow

  case_seen : (cases : List Case) (first end r : ℕ) → IsCase cases first end r → SeenCases cases first end r
  case_seen cases first end r h = (h.place, h.from, h.before, ap target_in h.there ∙ ap Some h.goes)

  seen_case : (cases : List Case) (first end r : ℕ) → SeenCases cases first end r → IsCase cases first end r
  seen_case cases first end r h = by_case (slice_get cases h.0) refl h.3
    where
      by_case : (it : Option Case) → slice_get cases h.0 ≡ it → target_in it ≡ Some r → IsCase cases first end r
      by_case None e k = absurd (none_some k)
        where
          none_some : {A : Type 0} {a : A} → None ≡ Some a → ⊥
          none_some k = grind arith
      by_case (Some its) e k = record { place = h.0; its = its; from = h.1; before = h.2; there = e; goes = some_one its.target r k }

  pub visit_done :
      (at : ℕ) (next : Successors) (old mid one two new : Sets) (flags f g h : List Bool) (a b c : Bool)
      → MakesRow at old mid → old.count ≡ suc (ops task) → task.total ≤ width old
      → Met task.total (ops task) (has mid (ops task)) (λ r. next.next ≡ Some r) mid one
      → Flagged task.total (ops task) mid one flags f a
      → Met task.total (ops task) (has one (ops task)) (λ r. next.jump ≡ Some r) one two
      → Flagged task.total (ops task) one two f g b
      → Met task.total (ops task) (has two (ops task)) (SeenCases task.code.cases next.cases.0 next.cases.1) two new
      → Flagged task.total (ops task) two new g h c
      → ((r : ℕ) → Follows task.code at r ↔ IsAmong next task.code.cases r) → Visit task at old new flags h ((a || b) || c)
  visit_done at next old mid one two new flags f g h a b c made count room m f1 n f2 o f3 exact =
      let mask = has mid (ops task) in
      let both_met = Met-then task.total (ops task) mask (has one (ops task)) (λ r. next.next ≡ Some r) (λ r. next.jump ≡ Some r) mid one
      two m.scratch m n in
      let all_met = Met-then task.total (ops task) mask (has two (ops task)) (λ r. next.next ≡ Some r ⊎ next.jump ≡ Some r)
      (SeenCases task.code.cases next.cases.0 next.cases.1) mid two new (λ b k. n.scratch b k ∙ m.scratch b k) both_met o in
      let flagged = Flagged-then task.total (ops task) mid two new flags g h (a || b) c
      (Flagged-then task.total (ops task) mid one two flags f g a b f1 f2) f3 in
      record {
        cut = visit_cut at (λ r. (next.next ≡ Some r ⊎ next.jump ≡ Some r)
            ⊎ SeenCases task.code.cases next.cases.0 next.cases.1 r) old mid new made count room all_met
            (λ r s. (exact r).1 (among r s));
        agrees = visit_agrees at (λ r. (next.next ≡ Some r ⊎ next.jump ≡ Some r)
            ⊎ SeenCases task.code.cases next.cases.0 next.cases.1 r) old mid new made all_met
            (λ r k. seen_of r ((exact r).0 k));
        flagged = Flagged-from task.total (ops task) old mid new flags h ((a || b) || c) (made_kept at old mid made count room) flagged;
        size = record { count = all_met.size.count ∙ made.size.count; per = all_met.size.per ∙ made.size.per };
      }
    where
      among : (r : ℕ) → (next.next ≡ Some r ⊎ next.jump ≡ Some r) ⊎ SeenCases task.code.cases next.cases.0 next.cases.1 r → IsAmong next task.code.cases r
      among r (inl (inl s)) = inl s
      among r (inl (inr s)) = inr (inl s)
      among r (inr s) = inr (inr (seen_case task.code.cases next.cases.0 next.cases.1 r s))

      seen_of : (r : ℕ) → IsAmong next task.code.cases r → (next.next ≡ Some r ⊎ next.jump ≡ Some r) ⊎ SeenCases task.code.cases next.cases.0 next.cases.1 r
      seen_of r (inl s) = inl (inl s)
      seen_of r (inr (inl s)) = inl (inr s)
      seen_of r (inr (inr s)) = inr (case_seen task.code.cases next.cases.0 next.cases.1 r s)

  pub visited_none :
      (at : ℕ) (sets : Sets) (flags : List Bool) → IsStanding task flags sets → get_or flags at false ≡ false → Visited task at sets sets flags flags false
  visited_none at sets flags standing off = record {
    cut = cut_none sets;
    standing = standing;
    quiet = λ _. (off, λ r ne. refl);
    size = record { count = refl; per = refl };
    len = refl;
  }

  pub visited_one :
      (at : ℕ) (old new : Sets) (flags flags' : List Bool) (changed : Bool) → at < length flags
      → IsStanding task flags old → Visit task at old new (set flags at false) flags' changed → Visited task at old new flags flags' changed
  visited_one at old new flags flags' changed within standing v = record {
    cut = v.cut;
    standing = stand_visit at old new flags flags' changed standing v.cut v.agrees v.flagged;
    quiet = λ h. let still = (v.flagged.still h).0 in (
      ap (λ (l : List Bool). get_or l at false) still ∙ get_or-set_same flags at false false within,
      λ r ne. ap (λ (l : List Bool). get_or l r false) still ∙ get_or-set_other flags at r false false ne,
    );
    size = v.size;
    len = v.flagged.len ∙ length-set flags at false;
  }

  pub passed_none : (sets : Sets) (flags : List Bool) → IsStanding task flags sets → Passed task 0 sets sets flags flags false
  passed_none sets flags standing = record {
    cuts = uncut sets;
    standing = standing;
    quiet = λ h r l. absurd (omega arith);
    size = record { count = refl; per = refl };
    len = refl;
  }

  pub passed_next :
      (count : ℕ) (old mid new : Sets) (flags f g : List Bool) (before now : Bool) → Passed task count old mid flags f before
      → Visited task count mid new f g now → Passed task (suc count) old new flags g (before || now)
  passed_next count old mid new flags f g before now p v = record {
    cuts = cut old mid new p.cuts v.cut;
    standing = v.standing;
    quiet = quiet_next count f g before now p.quiet v.quiet;
    size = record { count = v.size.count ∙ p.size.count; per = v.size.per ∙ p.size.per };
    len = v.len ∙ p.len;
  }

  pub cuts_then : (old mid new : Sets) → Cuts task old mid → Cuts task mid new → Cuts task old new
  cuts_then old mid new c (uncut sets) = c
  cuts_then old mid new c (cut first between last d e) = cut old between last (cuts_then old first between c d) e

  pub solved :
      (full mid sets : Sets) (flags f : List Bool) → IsFull task full → Cuts task full mid → Passed task (ops task) mid sets flags f false → IsSolved task sets
  solved full mid sets flags f is_full cuts p = record {
    full = full;
    is_full = is_full;
    cuts = cuts_then full mid sets cuts p.cuts;
    agrees = λ from l. by_flag from l (p.standing from l) (p.quiet refl from l);
  }
    where
      by_flag : (from : ℕ) → from < ops task → (get_or f from false ≡ true) ⊎ AgreesFrom task sets from → get_or f from false ≡ false
          → AgreesFrom task sets from
      by_flag from l (inl h) off = true_not_false (sym h ∙ off)
      by_flag from l (inr h) off = h

  pub full_of :
      (sets : Sets) → ((r b : ℕ) → 0 < r → r < ops task → b < task.total → has sets r b ≡ true) → ((b : ℕ) → 0 < ops task
      → b < task.total → has sets 0 b ≡ false)
      → IsFull task sets
  full_of sets all none = record { all = λ at b l ne h. all at b (omega arith) l h; none = none }

-- what is written over a whole list
pub written : {X : Type 0} (before after : List X) (long : ℕ) → long ≡ length after → take long (after ++ drop (length after) before) ≡ after
written before after long is = rw is (take-append_seam after (drop (length after) before))

pub all_flags : (count n from : ℕ) → count ≡ n → from < n → get_or (replicate count true) from false ≡ true
all_flags count n from is within = get_or-replicate count from true false (omega (arith, is, within))
