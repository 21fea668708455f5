-- The globals that operations mention, as they are marked one operation after the other.
use Rattle.std.proofs.Common.{◌≡◌, ◌<◌, ◌⊎◌, inl, inr, ℕ, ◌==◌, Bool, true, false, ◌||◌, List, [], ◌∷◌, length, fold, get_or, set, replicate, Option, Some, None, ap, sym, ◌∙◌, refl, arith}
use Rattle.std.proofs.Math.ListN.{length-set}
use Rattle.std.proofs.lemmas.Bool.{cases_eq}
use Rattle.std.proofs.lemmas.List.{get_or-set_same, get_or-set_other, get_or-replicate, length-replicate}
use Rattle.hs_code.specs.declared.function_code.Placed.{Placed}
use Rattle.hs_code.specs.declared.op.Op.{Op}
use Rattle.hs_code.specs.declared.op.Op.TheVariants as op
use Rattle.hs_fact_rows.specs.Laws.Numbers.{same_number, same_numbers_not}
use Rattle.hs_facts.specs.Names.{touches, mentions}
use Rattle.hs_restores.specs.Marks.{hits, one_names, touched_by, with_mark, with_op}
use Rattle.hs_tree.specs.declared.head.Variable.TheVariants as name

touches_hits : (g : ℕ) (its : Op) → touches g its ≡ hits g (touched_by its)
touches_hits g (op.Num bits) = refl
touches_hits g op.Nil = refl
touches_hits g (op.Address its) = refl
touches_hits g (op.Get (name.Global it)) = refl
touches_hits g (op.Get (name.Local it)) = refl
touches_hits g (op.Set (name.Global it)) = refl
touches_hits g (op.Set (name.Local it)) = refl
touches_hits g (op.Load its) = refl
touches_hits g (op.Store its) = refl
touches_hits g op.Drop = refl
touches_hits g op.Dup = refl
touches_hits g op.Tuck = refl
touches_hits g (op.Conv kind) = refl
touches_hits g (op.Unary its) = refl
touches_hits g (op.Binary its kind) = refl
touches_hits g op.IsNil = refl
touches_hits g (op.Compare its) = refl
touches_hits g (op.Difference size) = refl
touches_hits g (op.Offset bytes) = refl
touches_hits g (op.Step stride pointer_first) = refl
touches_hits g (op.Jump target) = refl
touches_hits g (op.Zero target) = refl
touches_hits g (op.Choose goal) = refl
touches_hits g (op.Shift place) = refl
touches_hits g (op.Routine place) = refl
touches_hits g (op.Call place) = refl
touches_hits g op.Return = refl
touches_hits g op.Turn = refl
touches_hits g op.Mark = refl
touches_hits g (op.Pick target) = refl
touches_hits g (op.Bring place) = refl

or_false : (a : Bool) → (a || false) ≡ a
or_false true = refl
or_false false = refl

or_true : (a : Bool) → (a || true) ≡ true
or_true true = refl
or_true false = refl

or_both : (a b c : Bool) → ((a || b) || c) ≡ (a || (b || c))
or_both true b c = refl
or_both false b c = refl

-- one more is marked
mark_one : (marks : List Bool) (touched : Option ℕ) (g : ℕ) → g < length marks
    → get_or (with_mark marks touched) g false ≡ (get_or marks g false || hits g touched)
mark_one marks None g below = sym (or_false (get_or marks g false))
mark_one marks (Some place) g below = by_test (cases_eq place g)
  where
    by_test : (place ≡ g) ⊎ (place ≡ g → ⊥) → get_or (set marks place true) g false ≡ (get_or marks g false || (place == g))
    by_test (inl e) =
        rw (same_number place g e, or_true (get_or marks g false), e) (get_or-set_same marks g true false below)
    by_test (inr ne) =
        rw (same_numbers_not place g ne, or_false (get_or marks g false)) (get_or-set_other marks place g true false (λ e. ne (sym e)))

mark_length : (marks : List Bool) (touched : Option ℕ) → length (with_mark marks touched) ≡ length marks
mark_length marks None = refl
mark_length marks (Some place) = length-set marks place true

module _ (place_by : Op → Option ℕ) where
  fold_marks : (marks : List Bool) (ops : List Placed) (g : ℕ) → g < length marks
      → get_or (fold (with_op place_by) marks ops) g false ≡ (get_or marks g false || one_names place_by ops g)
  fold_marks marks [] g below = sym (or_false (get_or marks g false))
  fold_marks marks (its ∷ ops) g below =
      fold_marks (with_op place_by marks its) ops g (let same = mark_length marks (place_by its.op) in omega (arith, same, below))
      ∙ ap (λ it. it || one_names place_by ops g) (mark_one marks (place_by its.op) g below)
      ∙ or_both (get_or marks g false) (hits g (place_by its.op)) (one_names place_by ops g)

  -- from no marks
  pub marks_named : (count : ℕ) (ops : List Placed) (g : ℕ) → g < count
      → get_or (fold (with_op place_by) (replicate count false) ops) g false ≡ one_names place_by ops g
  marks_named count ops g below =
      fold_marks (replicate count false) ops g (let same = length-replicate count false in omega (arith, same, below))
      ∙ ap (λ it. it || one_names place_by ops g) (get_or-replicate count g false false below)

touched_mentions : (ops : List Placed) (g : ℕ) → one_names touched_by ops g ≡ mentions ops g
touched_mentions [] g = refl
touched_mentions (its ∷ ops) g = ap (λ it. it || one_names touched_by ops g) (sym (touches_hits g its.op)) ∙ ap (λ it. touches g its.op || it) (touched_mentions ops g)

-- and so for the globals that are mentioned
pub marks_mentioned : (count : ℕ) (ops : List Placed) (g : ℕ) → g < count
    → get_or (fold (with_op touched_by) (replicate count false) ops) g false ≡ mentions ops g
marks_mentioned count ops g below = marks_named touched_by count ops g below ∙ touched_mentions ops g
