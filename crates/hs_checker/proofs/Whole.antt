-- From the parts of a straight program to the whole.
use Rattle.std.proofs.Common.{◌≡◌, true, not, List, [], ◌∷◌, ◌++◌, map, refl, sym, ap, subst, ◌∙◌, append_assoc}
use Rattle.std.specs.Prelude.{codes}
use Rattle.std.specs.List.{flat_map}
use Rattle.std.proofs.lemmas.Bool.{and_parts}
use Rattle.std.proofs.Math.Bool.{Bool-set}
use Rattle.hs_tokens.specs.declared.token.SourceToken.{SourceToken}
use Rattle.hs_tree.specs.declared.straight.tree.Variable.{Variable}
use Rattle.hs_tree.specs.declared.straight.tree.Step.{Step}
use Rattle.hs_tree.specs.declared.straight.tree.Straight.{Straight}
use Rattle.hs_tree.specs.Straight.Names.{reserved}
use Rattle.hs_tree.specs.Straight.Fine.{are_fine_names, are_fine_steps, is_fine}
use Rattle.hs_checker.specs.Straight.Grammar.{Piece, word, opening, closing, spelling, Spells}
use Rattle.hs_checker.specs.Straight.Rows.{EndsRow, declaration, begins_declaration, statement, begins_statement, AreDeclarations, NoDeclarations, AreSteps, NoSteps}
use Rattle.hs_checker.specs.Straight.Ends.{IsOpened, IsClosing}
use Rattle.hs_checker.proofs.Marks.{at_first}
use Rattle.hs_checker.proofs.Fine.{step_next, statement_begins}

-- ---- what follows each row

-- the steps and the end of `main`
pub body : List Variable → List Step → List Piece
body variables steps = flat_map (statement variables) steps ++ map word closing

-- a straight program: its beginning, its declarations, its body
pub parted : (variables : List Variable) (steps : List Step)
    → spelling variables steps ≡ map word opening ++ (flat_map declaration variables ++ body variables steps)
unfolding body
parted variables steps =
    append_assoc (map word opening ++ flat_map declaration variables) (flat_map (statement variables) steps) (map word closing)
    ∙ append_assoc (map word opening) (flat_map declaration variables) (flat_map (statement variables) steps ++ map word closing)

-- the end begins with `return`
steps_end : EndsRow begins_statement (map word closing)
steps_end tokens s = ap not (at_first (codes "return") (word (codes "return")) (word (codes "0") ∷ word (codes ";") ∷ word (codes "}") ∷ []) tokens s)

-- neither a step nor the end begins with `char`
declarations_end : (variables : List Variable) (steps : List Step) → are_fine_names [] variables ≡ true → are_fine_steps variables [] steps ≡ true
    → EndsRow begins_declaration (body variables steps)
unfolding body reserved
declarations_end variables [] named fine tokens s =
    at_first (codes "char") (word (codes "return")) (word (codes "0") ∷ word (codes ";") ∷ word (codes "}") ∷ []) tokens s
declarations_end variables (step ∷ steps) named fine tokens s =
    let behind = flat_map (statement variables) steps ++ map word closing in
    statement_begins variables named [] step behind tokens (codes "char") (step_next variables [] step steps fine) refl refl refl refl refl
    (subst (λ (p : List Piece). Spells p tokens) (append_assoc (statement variables step) (flat_map (statement variables) steps) (map word closing)) s)

-- ---- found

-- each part is spelled, so the whole is
pub whole : (tokens opened declared done : List SourceToken) (variables : List Variable) (steps : List Step) → IsOpened tokens opened
    → AreDeclarations opened variables declared → AreSteps variables declared steps done → IsClosing done
    → Spells (spelling variables steps) tokens
unfolding body
whole tokens opened declared done variables steps o d s e =
    subst (λ (p : List Piece). Spells p tokens) (sym (parted variables steps))
    ((o (flat_map declaration variables ++ body variables steps)).1 (d.spelled (body variables steps) (s.spelled (map word closing) e)))

-- ---- only, and none

module _ (tokens : List SourceToken) (variables : List Variable) (steps : List Step) (fine : is_fine variables steps ≡ true)
    (spelled : Spells (spelling variables steps) tokens) where
  names : are_fine_names [] variables ≡ true
  names = (and_parts (are_fine_names [] variables) (are_fine_steps variables [] steps) fine).0

  forms : are_fine_steps variables [] steps ≡ true
  forms = (and_parts (are_fine_names [] variables) (are_fine_steps variables [] steps) fine).1

  -- the parts of the other tree
  whole_parts : Spells (map word opening ++ (flat_map declaration variables ++ body variables steps)) tokens
  whole_parts = subst (λ (p : List Piece). Spells p tokens) (parted variables steps) spelled

  -- another tree would have declarations
  pub none_undeclared : (opened : List SourceToken) → IsOpened tokens opened → NoDeclarations opened → ⊥
  none_undeclared opened o fails = fails variables (body variables steps) names (declarations_end variables steps names forms)
      ((o (flat_map declaration variables ++ body variables steps)).0 whole_parts)

  module _ (opened declared : List SourceToken) (found : List Variable) (o : IsOpened tokens opened) (d : AreDeclarations opened found declared) where
    declarations_known : (variables ≡ found) × Spells (body variables steps) declared
    declarations_known = d.only variables (body variables steps) names (declarations_end variables steps names forms)
        ((o (flat_map declaration variables ++ body variables steps)).0 whole_parts)

    steps_left : Spells (flat_map (statement found) steps ++ map word closing) declared
    unfolding body
    steps_left = subst (λ (v : List Variable). Spells (flat_map (statement v) steps ++ map word closing) declared) declarations_known.0 declarations_known.1

    forms_found : are_fine_steps found [] steps ≡ true
    forms_found = subst (λ (v : List Variable). are_fine_steps v [] steps ≡ true) declarations_known.0 forms

    -- the statements are read
    pub none_broken : NoSteps found declared → ⊥
    none_broken fails = fails steps (map word closing) forms_found steps_end steps_left

    module _ (done : List SourceToken) (made : List Step) (s : AreSteps found declared made done) where
      steps_known : (steps ≡ made) × Spells (map word closing) done
      steps_known = s.only steps (map word closing) forms_found steps_end steps_left

      -- what is left closes the function
      pub none_unclosed : (IsClosing done → ⊥) → ⊥
      none_unclosed fails = fails steps_known.1

      -- what is read is the tree that was spelled
      pub same_variables : variables ≡ found
      same_variables = declarations_known.0

      pub same_steps : steps ≡ made
      same_steps = steps_known.0

-- ---- trees

-- the tree of these parts
made_of : (variables : List Variable) (steps : List Step) → is_fine variables steps ≡ true → Straight
made_of variables steps fine = record { variables = variables; steps = steps; fine = fine }

-- a test has one proof
made_same : (variables : List Variable) (steps : List Step) (fine also : is_fine variables steps ≡ true)
    → made_of variables steps fine ≡ made_of variables steps also
made_same variables steps fine also = ap (made_of variables steps) (Bool-set (is_fine variables steps) true fine also)

-- a tree is its variables and its steps
pub same_tree : (one other : Straight) → one.variables ≡ other.variables → one.steps ≡ other.steps → one ≡ other
unfolding made_of
same_tree one other variables steps =
    let by_steps : (also : is_fine one.variables other.steps ≡ true) → made_of one.variables one.steps one.fine ≡ made_of one.variables other.steps also =
    subst (λ (s : List Step). (also : is_fine one.variables s ≡ true) → made_of one.variables one.steps one.fine ≡ made_of one.variables s also)
    steps (made_same one.variables one.steps one.fine) in
    let both : (also : is_fine other.variables other.steps ≡ true) → made_of one.variables one.steps one.fine ≡ made_of other.variables other.steps also =
    subst (λ (v : List Variable). (also : is_fine v other.steps ≡ true) → made_of one.variables one.steps one.fine ≡ made_of v other.steps also)
    variables by_steps in
    both other.fine
