-- What typing gives has `break`, `continue` and labels where they may be (X3.159-1989 3.6.1 and 3.6.6).
--     stated_stands, block_stands         statements and blocks
--     body_stands                         the body of a function
use Rattle.std.proofs.Common.{◌≡◌, Bool, true, false, ◌&&◌, ◌||◌, List, [], ◌∷◌, ◌++◌, nat_eq, Option, Some, None, is_some, not, refl, sym, ap}
use Rattle.std.proofs.lemmas.Bool.{and_parts}
use Rattle.std.specs.List.{list_any}
use Rattle.indexmap.specs.IndexSet.{insert_key}
use Rattle.hs_base.specs.Tests.{not_false, or_true, both_true}
use Rattle.hs_fitting.specs.Works.{Always, AlwaysIf, passes_always, stops_always, then_always, next_always, tested_always, scoped_always}
use Rattle.hs_linkage.specs.Works.{knowing, unless}
use Rattle.hs_operand_types.specs.Constants.{constant_value}
use Rattle.hs_branches.specs.Branches.{valued, valued_if, condition, condition_if, switched, case_bits, case_label, default_label, labelled, all_labelled, no_cases, returned}
use Rattle.hs_statements.specs.Statements.{declared_all, looping, switching, switch_cases, stated, block_inside, all_stated, in_function, body_of}
use Rattle.hs_syntax.specs.Positions.{first_of}
use Rattle.hs_syntax.specs.Trees as syntax
use Rattle.hs_syntax.specs.Trees.{Expression, Labelling, Statement, Compound, Statements}
use Rattle.hs_tokens.specs.declared.place.Place.{Place}
use Rattle.hs_tree.specs.Fitting.{may_stand, block_may_stand, statements_may_stand, is_empty}
use Rattle.hs_tree.specs.RowLaws.{OneStatement, one_statement, statements_from}
use Rattle.hs_tree.specs.Trees as tree
use Rattle.hs_tree.specs.Trees.{TypedStatement}
use Rattle.hs_tree.specs.declared.statement.Label.{Label}
use Rattle.hs_tree.specs.declared.statement.Label.TheVariants as label
use Rattle.hs_typer.specs.declared.type_error.TypeError.TheVariants.{Untyped}
use Rattle.hs_types.specs.declared.integer.Integer.{Integer}
use Rattle.hs_types.specs.declared.row.TypeId.{TypeId}

-- a switch over numbers of that kind has its labels in a block where labels may be
abbrev pub MayLabel : Bool → Option Integer → Type 0
MayLabel here kind = is_some kind ≡ true → here ≡ true

-- a label is of a switch, whose kind stays
case_is : (kind its : Option Integer) (cases : _) (at : Place) (e : Expression)
    → AlwaysIf (case_label at e cases its) ((its ≡ kind) × (cases.kind ≡ kind)) (λ p. (is_some kind ≡ true) × (p.1.kind ≡ kind))
case_is kind None cases at e (same, is) = stops_always _ (Untyped at)
case_is kind (Some its) cases at e (same, is) =
    next_always (valued e)
    (λ value. next_always (knowing (λ m. case_bits at its (constant_value m.typer.types value)))
    (λ bits. next_always (unless (Untyped at) (λ m. list_any (nat_eq bits) cases.values))
    (λ done. passes_always _ (label.Case at bits, record cases { values = insert_key nat_eq cases.values bits }) (ap is_some (sym same), is))))

default_is : (kind its : Option Integer) (cases : _) (at : Place)
    → AlwaysIf (default_label at cases its) ((its ≡ kind) × (cases.kind ≡ kind)) (λ p. (is_some kind ≡ true) × (p.1.kind ≡ kind))
default_is kind None cases at (same, is) = stops_always _ (Untyped at)
default_is kind (Some its) cases at (same, is) =
    next_always (unless (Untyped at) (λ m. cases.default))
    (λ done. passes_always _ (label.Default at, record cases { default = true }) (ap is_some (sym same), is))

label_is : (kind : Option Integer) (cases : _) (it : Labelling)
    → AlwaysIf (labelled cases it) (cases.kind ≡ kind) (λ p. (is_some kind ≡ true) × (p.1.kind ≡ kind))
label_is kind cases (syntax.case_ at e) is = case_is kind cases.kind cases at e (is, is)
label_is kind cases (syntax.default_ at) is = default_is kind cases.kind cases at (is, is)

-- where they may be, any labels are
any_labels : (here : Bool) (labels : List Label) → here ≡ true → (here || is_empty labels) ≡ true
any_labels here labels may = rw may refl

-- labels are only where they may be
labels_are : (here : Bool) (kind : Option Integer) (done : List Label) (cases : _) (its : List Labelling)
    → AlwaysIf (all_labelled done cases its) (MayLabel here kind × (cases.kind ≡ kind) × ((here || is_empty done) ≡ true))
    (λ p. ((here || is_empty p.0) ≡ true) × (p.1.kind ≡ kind))
labels_are here kind done cases [] (may, is, before) = passes_always _ (done, cases) (before, is)
labels_are here kind done cases (it ∷ rest) (may, is, before) =
    then_always (label_is kind cases it is)
    (λ p its. labels_are here kind (done ++ p.0 ∷ []) p.1 rest (may, its.1, any_labels here (done ++ p.0 ∷ []) (may its.0)))

-- all are so
each : (one other last : Bool) → one ≡ true → other ≡ true → last ≡ true → (one && other && last) ≡ true
each one other last is too also = rw (is, too) also

-- statements that may be where they are, with one more after
more_stand : (here breaks loops : Bool) (done : List OneStatement) (labels : List Label) (it : TypedStatement)
    → statements_may_stand here breaks loops (statements_from done) ≡ true → (here || is_empty labels) ≡ true → may_stand breaks loops it ≡ true
    → statements_may_stand here breaks loops (statements_from (done ++ one_statement labels it ∷ [])) ≡ true
more_stand here breaks loops [] labels it before may stands = each (here || is_empty labels) (may_stand breaks loops it) true may stands refl
more_stand here breaks loops (one_statement others other ∷ done) labels it before may stands =
    let front = and_parts ((here || is_empty others) && may_stand breaks loops other) (statements_may_stand here breaks loops (statements_from done)) before in
    let first = and_parts (here || is_empty others) (may_stand breaks loops other) front.0 in
    each (here || is_empty others) (may_stand breaks loops other)
    (statements_may_stand here breaks loops (statements_from (done ++ one_statement labels it ∷ [])))
    first.0 first.1 (more_stand here breaks loops done labels it front.1 may stands)

-- no switch is around it
no_labels : MayLabel false None
no_labels is = absurd cc

mutual
  pub stated_stands : (at : _) (it : Statement) → Always (stated at it) (λ its. may_stand at.breaks at.loops its ≡ true)
  stated_stands at (syntax.block it) =
      then_always (scoped_always (block_stands false at no_cases it no_labels)) (λ its is. passes_always _ (tree.block its) is)
  stated_stands at (syntax.expression e) = next_always (valued e) (λ its. passes_always _ (tree.expression (first_of e) its) refl)
  stated_stands at (syntax.empty place) = passes_always _ (tree.empty place) refl
  stated_stands at (syntax.if_ place test taken) =
      next_always (condition place test)
      (λ c. then_always (stated_stands at taken) (λ a is. passes_always _ (tree.if_ place c a) is))
  stated_stands at (syntax.if_else place test taken otherwise) =
      next_always (condition place test)
      (λ c. then_always (stated_stands at taken)
      (λ a is. then_always (stated_stands at otherwise) (λ b is'. passes_always _ (tree.if_else place c a b) (both_true _ _ is is'))))
  stated_stands at (syntax.while_ place test body) =
      next_always (condition place test)
      (λ c. then_always (stated_stands (looping at) body) (λ a is. passes_always _ (tree.while_ place c a) is))
  stated_stands at (syntax.do_ place body test) =
      then_always (stated_stands (looping at) body)
      (λ a is. next_always (condition place test) (λ c. passes_always _ (tree.do_ place a c) is))
  stated_stands at (syntax.for_ place first test step body) =
      next_always (valued_if first)
      (λ i. next_always (condition_if place test)
      (λ c. next_always (valued_if step)
      (λ n. then_always (stated_stands (looping at) body) (λ a is. passes_always _ (tree.for_ place i c n a) is))))
  stated_stands at (syntax.switch_ place e it) =
      next_always (switched place e)
      (λ c. next_always (switch_cases c)
      (λ cases. then_always (scoped_always (block_stands true (switching at) cases it (λ is. refl)))
      (λ its is. passes_always _ (tree.switch_ place c its) is)))
  stated_stands at (syntax.break_ place) =
      tested_always (Untyped place) (not at.breaks) (λ may. passes_always _ (tree.break_ place) (not_false at.breaks may))
  stated_stands at (syntax.continue_ place) =
      tested_always (Untyped place) (not at.loops) (λ may. passes_always _ (tree.continue_ place) (not_false at.loops may))
  stated_stands at (syntax.return_ place e) =
      next_always (returned place at.result e) (λ its. passes_always _ (tree.return_ place its) refl)

  pub block_stands : (here : Bool) (at : _) (cases : _) (it : Compound)
      → AlwaysIf (block_inside at cases it) (MayLabel here cases.kind) (λ its. block_may_stand here at.breaks at.loops its ≡ true)
  block_stands here at cases (syntax.compound opening declarations its closing) may =
      next_always (declared_all opening [] declarations)
      (λ before. then_always (statements_stand here cases.kind at cases [] its (may, refl, refl))
      (λ after is. passes_always _ (tree.compound opening before (statements_from after) closing) is))

  statements_stand : (here : Bool) (kind : Option Integer) (at : _) (cases : _) (done : List OneStatement) (it : Statements)
      → AlwaysIf (all_stated at cases done it)
      (MayLabel here kind × (cases.kind ≡ kind) × (statements_may_stand here at.breaks at.loops (statements_from done) ≡ true))
      (λ its. statements_may_stand here at.breaks at.loops (statements_from its) ≡ true)
  statements_stand here kind at cases done syntax.no_statements (may, same, before) = passes_always _ done before
  statements_stand here kind at cases done (syntax.more_statements labels it rest) (may, same, before) =
      then_always (labels_are here kind [] cases labels (may, same, or_true here))
      (λ p its. then_always (stated_stands at it)
      (λ one is. statements_stand here kind at p.1 (done ++ one_statement p.0 one ∷ []) rest
      (may, its.1, more_stand here at.breaks at.loops done p.0 one before its.0 is)))

-- of a function, around whose body no loop and no switch is
pub body_stands : (id : TypeId) (it : Compound) → Always (body_of id it) (λ block. block_may_stand false false false block ≡ true)
body_stands id it = block_stands false (in_function id) no_cases it no_labels
