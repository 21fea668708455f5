-- How long code is, how many cases it has and where its labels are does not depend on where it jumps (own).
--     SameShape first second start     two pieces of code from one operation on are equally long and have the same labels
--     same_statement, same_block       the code of a statement, with other targets
--     past base cases                  the number of the case that follows these
--     cases_of_statement               it is the one that is counted
--     block_labels                     the labels of a block are those of its list
use Rattle.std.proofs.Common.{◌≡◌, ℕ, suc, Bool, List, [], ◌∷◌, ◌++◌, Option, Some, None, refl, sym, ap, ◌∙◌, append-nil}
use Rattle.hs_base.specs.declared.pos.Pos.{Pos}
use Rattle.hs_code.specs.declared.function_code.Case.{Case}
use Rattle.hs_code.specs.declared.op.Op.{Op}
use Rattle.hs_code.specs.declared.op.Op.TheVariants as op
use Rattle.hs_lowering.specs.Lowering.{Lowered, after}
use Rattle.hs_lowering.specs.Performing.{after_append}
use Rattle.hs_lowering.specs.Statements.{Written, Part, ◌then◌, nothing, closed, Counts, Targets, nowhere, one_piece, piece_for, pieces_for, cases_for, cases_of_list, cases_of_block, after_statement, after_block, after_list, placed_at, alone, given, labels_at, labels_code, cases_in, value_code, guarded_if, dropped_if, start_code, scalar_started, scalars_started, items_code, declarations_code, returned_code, statement_code, block_code, list_code}
use Rattle.hs_meaning.specs.Scalars.{Scalar, scalars_of}
use Rattle.hs_meaning.specs.Settings.{Setting}
use Rattle.hs_tree.specs.Trees as tree
use Rattle.hs_tree.specs.Trees.{RightValue, Starting, TypedItem, TypedDeclaration, TypedStatement, TypedBlock, TypedStatements, TypedFunction}
use Rattle.hs_tree.specs.declared.constant.Part as constant_part
use Rattle.hs_tree.specs.declared.head.Variable.{Variable}
use Rattle.hs_tree.specs.declared.statement.Label.{Label}
use Rattle.hs_tree.specs.declared.statement.Label.TheVariants as label
use Rattle.hs_types.specs.declared.row.TypeId.{TypeId}

-- ---- equally long

-- as many operations, and the same labels
abbrev pub SameShape : Written → Written → ℕ → Type 0
SameShape first second start = (after start first.ops ≡ after start second.ops) × (first.labels ≡ second.labels)

-- from every operation on
pub record SameParts (first second : Part) : Type 0 where
  pub at : (start : ℕ) → SameShape (first start) (second start) start

same_then : {f f' g g' : Part} → SameParts f f' → SameParts g g' → SameParts (f then g) (f' then g')
same_then {f = f} {f' = f'} {g = g} {g' = g'} is each =
    record {
      at = λ start. (
        after_append start (f start).ops (g (after start (f start).ops)).ops
            ∙ ap (λ m. after m (g m).ops) (is.at start).0
            ∙ (each.at (after start (f' start).ops)).0
            ∙ sym (after_append start (f' start).ops (g' (after start (f' start).ops)).ops),
        ap (λ its. its ++ (g (after start (f start).ops)).labels) (is.at start).1
            ∙ ap (λ m. (f' start).labels ++ (g m).labels) (is.at start).0
            ∙ ap (λ its. (f' start).labels ++ its) (each.at (after start (f' start).ops)).1,
      );
    }

same_part : (its : Part) → SameParts its its
same_part its = record { at = λ start. (refl, refl) }

same_alone : (piece : ℕ) (at : Pos) (its other : Op) → SameParts (alone piece at its) (alone piece at other)
same_alone piece at its other = record { at = λ start. (refl, refl) }

same_given : (piece : ℕ) (at : Pos) (value : Lowered) (its other : Op) → SameParts (given piece at value its) (given piece at value other)
same_given piece at value its other =
    record {
      at = λ start. (
        after_append start (value start 0) (placed_at piece at its 1 ∷ [])
            ∙ sym (after_append start (value start 0) (placed_at piece at other 1 ∷ [])),
        refl,
      );
    }

same_closed : {f g : Part} → SameParts f g → SameParts (λ start. closed (f start)) (λ start. closed (g start))
same_closed is = record { at = λ start. ((is.at start).0, refl) }

module _ (setting : Setting) (function : TypedFunction) where
  mutual
    -- with other targets
    pub same_statement : (it : TypedStatement) (counts : Counts) (targets others : Targets)
        → SameParts (statement_code setting function it counts targets) (statement_code setting function it counts others)
    same_statement (tree.block it) counts targets others = same_block it counts targets others
    same_statement (tree.expression at e) counts targets others = same_part _
    same_statement (tree.empty at) counts targets others = same_part _
    same_statement (tree.if_ at test first) counts targets others =
        record {
          at = λ start.
              (same_then (same_given counts.pieces at.pos (value_code setting function counts.pieces test) _ _)
              (same_then (same_statement first (one_piece counts) targets others)
              (same_alone (after_statement first (one_piece counts)).pieces at.pos op.Mark op.Mark))).at start;
        }
    same_statement (tree.if_else at test first second) counts targets others =
        record {
          at = λ start.
              (same_then (same_given counts.pieces at.pos (value_code setting function counts.pieces test) _ _)
              (same_then (same_statement first (one_piece counts) targets others)
              (same_then (same_alone (after_statement second (after_statement first (one_piece counts))).pieces at.pos _ _)
              (same_then (same_statement second (after_statement first (one_piece counts)) targets others)
              (same_alone (after_statement second (after_statement first (one_piece counts))).pieces at.pos op.Mark op.Mark))))).at start;
        }
    same_statement (tree.while_ at test body) counts targets others = same_part _
    same_statement (tree.do_ at body test) counts targets others = same_part _
    same_statement (tree.for_ at first test step body) counts targets others = same_part _
    same_statement (tree.switch_ at e it) counts targets others =
        record {
          at = λ start.
              (same_then (same_given counts.pieces at.pos (value_code setting function counts.pieces e) _ _)
              (same_then (same_block it (one_piece counts) _ _)
              (same_alone (after_block it (one_piece counts)).pieces at.pos op.Mark op.Mark))).at start;
        }
    same_statement (tree.break_ at) counts targets others = same_alone counts.pieces at.pos _ _
    same_statement (tree.continue_ at) counts targets others = same_alone counts.pieces at.pos _ _
    same_statement (tree.return_ at e) counts targets others = same_part _

    pub same_block : (it : TypedBlock) (counts : Counts) (targets others : Targets)
        → SameParts (block_code setting function it counts targets) (block_code setting function it counts others)
    same_block (tree.compound opening declarations list closing) counts targets others =
        same_then (same_alone counts.pieces opening.pos op.Mark op.Mark)
        (same_then (same_part (declarations_code setting function (one_piece counts) declarations))
        (same_then (same_list list (pieces_for declarations (one_piece counts)) targets others)
        (same_alone (after_list list (pieces_for declarations (one_piece counts))).pieces closing.pos op.Mark op.Mark)))

    pub same_list : (list : TypedStatements) (counts : Counts) (targets others : Targets)
        → SameParts (list_code setting function list counts targets) (list_code setting function list counts others)
    same_list tree.no_statements counts targets others = same_part _
    same_list (tree.more_statements labels it rest) counts targets others =
        same_then (same_part (λ start. record { ops = labels_code counts.pieces labels; cases = []; labels = labels_at labels start }))
        (same_then (same_closed (same_statement it (pieces_for labels counts) targets others))
        (same_list rest (after_statement it (pieces_for labels counts)) targets others))

-- ---- counts of cases

-- the number of the case that follows these
pub past : ℕ → List Case → ℕ
past base [] = base
past base (its ∷ rest) = past (suc base) rest

pub past_none : (base : ℕ) → past base [] ≡ base
unfolding past
past_none base = refl

pub past_more : (base : ℕ) (its : Case) (rest : List Case) → past base (its ∷ rest) ≡ past (suc base) rest
unfolding past
past_more base its rest = refl

pub past_append : (base : ℕ) (first second : List Case) → past base (first ++ second) ≡ past (past base first) second
unfolding past
past_append base [] second = refl
past_append base (its ∷ first) second = past_append (suc base) first second

-- ---- cases one after the other

at_count : (base other next : ℕ) (a : List Case) → base ≡ other → past base a ≡ next → past other a ≡ next
at_count base other next a same is = ap (λ n. past n a) (sym same) ∙ is

pub one_counted : (base next : ℕ) (a : List Case) → past base a ≡ next → past base (a ++ []) ≡ next
one_counted base next a is = ap (past base) (append-nil a) ∙ is

list_counted : (base mid next : ℕ) (a b : List Case) → past base a ≡ mid → past mid b ≡ next → past base (a ++ b) ≡ next
list_counted base mid next a b is so = past_append base a b ∙ ap (λ n. past n b) is ∙ so

two_counted : (base mid next : ℕ) (a b : List Case) → past base a ≡ mid → past mid b ≡ next → past base (a ++ (b ++ [])) ≡ next
two_counted base mid next a b is so = list_counted base mid next a (b ++ []) is (one_counted mid next b so)

switch_counted : (base mid next : ℕ) (a b : List Case) → past base a ≡ mid → past mid b ≡ next → past base ((a ++ []) ++ b) ≡ next
switch_counted base mid next a b is so = list_counted base mid next (a ++ []) b (one_counted base mid a is) so

block_counted : (base next : ℕ) (a b : List Case) → a ≡ [] → past base b ≡ next → past base (a ++ (b ++ [])) ≡ next
block_counted base next a b none is = ap (λ its. past base (its ++ (b ++ []))) none ∙ one_counted base next b is

for_counted : (base next : ℕ) (a b c d : List Case) → a ≡ [] → b ≡ [] → d ≡ [] → past base c ≡ next → past base (a ++ (b ++ (c ++ (d ++ [])))) ≡ next
for_counted base next a b c d first second third is =
    ap (λ its. past base (its ++ (b ++ (c ++ (d ++ []))))) first
    ∙ ap (λ its. past base (its ++ (c ++ (d ++ [])))) second
    ∙ ap (λ its. past base (c ++ (its ++ []))) third
    ∙ one_counted base next c is

-- operations that are no labels, and no switch
pub record IsPlain (its : Part) : Type 0 where
  pub cases : (start : ℕ) → (its start).cases ≡ []
  pub labels : (start : ℕ) → (its start).labels ≡ []

plain_then : {f g : Part} → IsPlain f → IsPlain g → IsPlain (f then g)
plain_then {f = f} {g = g} is so =
    record {
      cases = λ start. ap (λ its. its ++ (g (after start (f start).ops)).cases) (is.cases start) ∙ so.cases (after start (f start).ops);
      labels = λ start. ap (λ its. its ++ (g (after start (f start).ops)).labels) (is.labels start) ∙ so.labels (after start (f start).ops);
    }

plain_nothing : IsPlain nothing
plain_nothing = record { cases = λ start. refl; labels = λ start. refl }

plain_given : (piece : ℕ) (at : Pos) (value : Lowered) (its : Op) → IsPlain (given piece at value its)
plain_given piece at value its = record { cases = λ start. refl; labels = λ start. refl }

pub pieces_same : {A : Type 0} → (list : List A) (counts : Counts) → (pieces_for list counts).cases ≡ counts.cases
pieces_same [] counts = refl
pieces_same (it ∷ rest) counts = pieces_same rest (one_piece counts)

pub piece_same : {A : Type 0} → (it : Option A) (counts : Counts) → (piece_for it counts).cases ≡ counts.cases
piece_same None counts = refl
piece_same (Some it) counts = refl

module _ (setting : Setting) (function : TypedFunction) where
  plain_scalars : (piece : ℕ) (at : Pos) (in_slot : Bool) (variable : Variable) (parts : List constant_part.Part) (all : List Scalar)
      → IsPlain (scalars_started setting function piece at in_slot variable parts all)
  plain_scalars piece at in_slot variable parts [] = plain_nothing
  plain_scalars piece at in_slot variable parts (its ∷ rest) =
      plain_then (plain_given piece at (scalar_started setting function piece at in_slot variable parts its) op.Drop)
      (plain_scalars piece at in_slot variable parts rest)

  plain_start : (piece : ℕ) (at : Pos) (in_slot : Bool) (variable : Variable) (id : TypeId) (start : Starting)
      → IsPlain (start_code setting function piece at in_slot variable id start)
  plain_start piece at in_slot variable id (tree.value e) = record { cases = λ start. refl; labels = λ start. refl }
  plain_start piece at in_slot variable id (tree.parts its) = plain_scalars piece at in_slot variable its (scalars_of setting.types id)

  plain_items : (piece : ℕ) (items : List TypedItem) → IsPlain (items_code setting function piece items)
  plain_items piece [] = plain_nothing
  plain_items piece (item ∷ items) = plain_then (plain_start piece item.at.pos _ _ _ item.start) (plain_items piece items)

  pub plain_declarations : (counts : Counts) (all : List TypedDeclaration) → IsPlain (declarations_code setting function counts all)
  plain_declarations counts [] = plain_nothing
  plain_declarations counts (it ∷ rest) = plain_then (plain_items counts.pieces it.items) (plain_declarations (one_piece counts) rest)

  -- ---- the counts are those of the code

  pub plain_dropped : (piece : ℕ) (at : Pos) (e : Option RightValue) → IsPlain (dropped_if setting function piece at e)
  plain_dropped piece at None = plain_nothing
  plain_dropped piece at (Some e) = record { cases = λ start. refl; labels = λ start. refl }

  pub plain_guarded : (piece : ℕ) (at : Pos) (e : Option RightValue) (target : ℕ) → IsPlain (guarded_if setting function piece at e target)
  plain_guarded piece at None target = plain_nothing
  plain_guarded piece at (Some e) target = record { cases = λ start. refl; labels = λ start. refl }

  plain_returned : (piece : ℕ) (at : Pos) (e : Option RightValue) → IsPlain (returned_code setting function piece at e)
  plain_returned piece at None = record { cases = λ start. refl; labels = λ start. refl }
  plain_returned piece at (Some e) = record { cases = λ start. refl; labels = λ start. refl }

  -- the labels of a list give its cases
  labels_counted : (labels : List Label) (start count : ℕ) → past count (cases_in (labels_at labels start)) ≡ cases_for labels count
  unfolding past
  labels_counted [] start count = refl
  labels_counted (label.Case at bits ∷ rest) start count = labels_counted rest (suc start) (suc count)
  labels_counted (label.Default at ∷ rest) start count = labels_counted rest (suc start) count

  cases_append : (first second : List (Label × ℕ)) → cases_in (first ++ second) ≡ cases_in first ++ cases_in second
  cases_append [] second = refl
  cases_append ((label.Case at bits, target) ∷ rest) second = ap (λ its. record { bits = bits; target = target } ∷ its) (cases_append rest second)
  cases_append ((label.Default at, target) ∷ rest) second = cases_append rest second

  behind_labels : (labels : List Label) (rest : List (Label × ℕ)) (start count : ℕ)
      → past count (cases_in (labels_at labels start ++ rest)) ≡ past (cases_for labels count) (cases_in rest)
  behind_labels labels rest start count =
      ap (past count) (cases_append (labels_at labels start) rest) ∙ past_append count (cases_in (labels_at labels start)) (cases_in rest)
      ∙ ap (λ n. past n (cases_in rest)) (labels_counted labels start count)

  -- of a list of statements
  pub list_labels_counted : (list : TypedStatements) (counts : Counts) (targets : Targets) (start count : ℕ)
      → past count (cases_in (list_code setting function list counts targets start).labels) ≡ cases_of_list list count
  list_labels_counted tree.no_statements counts targets start count = past_none count
  list_labels_counted (tree.more_statements labels it rest) counts targets start count =
      behind_labels labels (list_code setting function rest (after_statement it (pieces_for labels counts)) targets
      (after (after start (labels_code counts.pieces labels))
      (statement_code setting function it (pieces_for labels counts) targets (after start (labels_code counts.pieces labels))).ops)).labels start count
      ∙ list_labels_counted rest (after_statement it (pieces_for labels counts)) targets
      (after (after start (labels_code counts.pieces labels))
      (statement_code setting function it (pieces_for labels counts) targets (after start (labels_code counts.pieces labels))).ops)
      (cases_for labels count)

  -- the labels of a block are those of its list, which comes after its declarations
  pub block_labels : (opening closing : _) (declarations : List TypedDeclaration) (list : TypedStatements) (counts : Counts) (targets : Targets)
      (start : ℕ) → (block_code setting function (tree.compound opening declarations list closing) counts targets start).labels
      ≡ (list_code setting function list (pieces_for declarations (one_piece counts)) targets
      (after (suc start) (declarations_code setting function (one_piece counts) declarations (suc start)).ops)).labels
  block_labels opening closing declarations list counts targets start =
      ap (λ its. its ++ ((list_code setting function list (pieces_for declarations (one_piece counts)) targets
      (after (suc start) (declarations_code setting function (one_piece counts) declarations (suc start)).ops)).labels ++ []))
      ((plain_declarations (one_piece counts) declarations).labels (suc start))
      ∙ append-nil _

  pub block_labels_counted : (it : TypedBlock) (counts : Counts) (targets : Targets) (start count : ℕ)
      → past count (cases_in (block_code setting function it counts targets start).labels) ≡ cases_of_block it count
  block_labels_counted (tree.compound opening declarations list closing) counts targets start count =
      ap (λ its. past count (cases_in its)) (block_labels opening closing declarations list counts targets start)
      ∙ list_labels_counted list (pieces_for declarations (one_piece counts)) targets _ count

  mutual
    -- a statement
    pub cases_of_statement : (it : TypedStatement) (counts : Counts) (targets : Targets) (start : ℕ)
        → past counts.cases (statement_code setting function it counts targets start).cases ≡ (after_statement it counts).cases
    cases_of_statement (tree.block it) counts targets start = cases_of_a_block it counts targets start
    cases_of_statement (tree.expression at e) counts targets start = past_none counts.cases
    cases_of_statement (tree.empty at) counts targets start = past_none counts.cases
    cases_of_statement (tree.if_ at test first) counts targets start = one_counted _ _ _ (cases_of_statement first (one_piece counts) targets _)
    cases_of_statement (tree.if_else at test first second) counts targets start =
        two_counted _ _ _ _ _ (cases_of_statement first (one_piece counts) targets _)
        (cases_of_statement second (after_statement first (one_piece counts)) targets _)
    cases_of_statement (tree.while_ at test body) counts targets start =
        one_counted _ _ _ (cases_of_statement body (one_piece (one_piece counts)) _ _)
    cases_of_statement (tree.do_ at body test) counts targets start = one_counted _ _ _ (cases_of_statement body (one_piece counts) _ _)
    cases_of_statement (tree.for_ at first test step body) counts targets start =
        for_counted counts.cases _ _ _ _ _ ((plain_dropped counts.pieces at.pos first).cases _)
        ((plain_guarded (suc (piece_for first counts).pieces) at.pos test _).cases _)
        ((plain_dropped (piece_for test (one_piece (piece_for first counts))).pieces at.pos step).cases _)
        (at_count _ _ _ _ (piece_same step (piece_for test (one_piece (piece_for first counts)))
        ∙ piece_same test (one_piece (piece_for first counts)) ∙ piece_same first counts)
        (cases_of_statement body (piece_for step (piece_for test (one_piece (piece_for first counts)))) _ _))
    cases_of_statement (tree.switch_ at e it) counts targets start =
        switch_counted _ _ _ _ _ (cases_of_a_block it (one_piece counts) _ _) (block_labels_counted it (one_piece counts) nowhere _ _)
    cases_of_statement (tree.break_ at) counts targets start = past_none counts.cases
    cases_of_statement (tree.continue_ at) counts targets start = past_none counts.cases
    cases_of_statement (tree.return_ at e) counts targets start =
        ap (past counts.cases) ((plain_returned counts.pieces at.pos e).cases start) ∙ past_none counts.cases

    pub cases_of_a_block : (it : TypedBlock) (counts : Counts) (targets : Targets) (start : ℕ)
        → past counts.cases (block_code setting function it counts targets start).cases ≡ (after_block it counts).cases
    cases_of_a_block (tree.compound opening declarations list closing) counts targets start =
        block_counted _ _ _ _ ((plain_declarations (one_piece counts) declarations).cases _)
        (at_count _ _ _ _ (pieces_same declarations (one_piece counts)) (cases_of_a_list list (pieces_for declarations (one_piece counts)) targets _))

    pub cases_of_a_list : (list : TypedStatements) (counts : Counts) (targets : Targets) (start : ℕ)
        → past counts.cases (list_code setting function list counts targets start).cases ≡ (after_list list counts).cases
    cases_of_a_list tree.no_statements counts targets start = past_none counts.cases
    cases_of_a_list (tree.more_statements labels it rest) counts targets start =
        list_counted _ _ _ _ _
        (at_count _ _ _ _ (pieces_same labels counts) (cases_of_statement it (pieces_for labels counts) targets _))
        (cases_of_a_list rest (after_statement it (pieces_for labels counts)) targets _)
