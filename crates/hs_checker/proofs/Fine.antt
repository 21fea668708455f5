-- The tests of names and steps: those of a list in text order, from those of its parts.
use Rattle.std.proofs.Common.{◌≡◌, ℕ, Bool, true, false, not, ◌&&◌, ◌||◌, List, [], ◌∷◌, ◌++◌, refl, sym, ap, subst, ◌∙◌, arith}
use Rattle.std.specs.Prelude.{codes}
use Rattle.std.specs.List.{list_any}
use Rattle.std.specs.Str.{bytes_eq}
use Rattle.std.proofs.lemmas.Bool.{and_parts, and_from}
use Rattle.std.proofs.lemmas.List.{length-append}
use Rattle.hs_base.specs.Tests.{and_again}
use Rattle.hs_tokens.specs.declared.token.SourceToken.{SourceToken}
use Rattle.hs_tree.specs.declared.straight.tree.Kind.TheVariants.{Handle, Pointer, Letter}
use Rattle.hs_tree.specs.declared.straight.tree.Variable.{Variable}
use Rattle.hs_tree.specs.declared.straight.tree.Expr.{Expr}
use Rattle.hs_tree.specs.declared.straight.tree.Expr.TheVariants as expr
use Rattle.hs_tree.specs.declared.straight.tree.Step.{Step}
use Rattle.hs_tree.specs.declared.straight.tree.Step.TheVariants as step
use Rattle.hs_tree.specs.Straight.Names.{reserved, is_name}
use Rattle.hs_tree.specs.Straight.Fine.{is_declared, assigns, was_assigned, is_readable, is_fine_expr, is_fine_step, are_fine_steps, is_fine_name, are_fine_names}
use Rattle.hs_checker.specs.Straight.Grammar.{Piece, word, step_spelling, Spells}
use Rattle.hs_checker.specs.Straight.Reading.{is_at, declaration_at, step_at}
use Rattle.hs_checker.specs.Straight.Rows.{declaration, begins_declaration, statement, begins_statement}
use Rattle.hs_checker.proofs.Declarations.{declaration_takes, declaration_again, declaration_begins}
use Rattle.hs_checker.proofs.Steps.{step_takes}
use Rattle.hs_checker.proofs.SpelledSteps.{step_again, step_begins}
use Rattle.hs_checker.proofs.Rows.{IsReader}
use Rattle.std.proofs.Common.{append_assoc}

-- those before and these, newest first
newest : {A : Type 0} → List A → List A → List A
newest before [] = before
newest before (part ∷ parts) = newest (part ∷ before) parts

regrouped : (a b c : Bool) → (b || (a || c)) ≡ ((a || b) || c)
regrouped true true c = refl
regrouped true false c = refl
regrouped false true c = refl
regrouped false false c = refl

or_none : (a : Bool) → (a || false) ≡ a
or_none true = refl
or_none false = refl

and_all : (a : Bool) → (a && true) ≡ a
and_all true = refl
and_all false = refl

-- a test of the earlier and the later, newest first
any_newest : {A : Type 0} (test : A → Bool) (before parts : List A) → list_any test (newest before parts) ≡ (list_any test parts || list_any test before)
unfolding newest
any_newest test before [] = refl
any_newest test before (part ∷ parts) = any_newest test (part ∷ before) parts ∙ regrouped (test part) (list_any test parts) (list_any test before)

-- a test of all does not depend on the order
any_order : {A : Type 0} (test : A → Bool) (parts : List A) → list_any test (newest [] parts) ≡ list_any test parts
any_order test parts = any_newest test [] parts ∙ or_none (list_any test parts)

-- ---- names

-- the names of two rows, one after the other
names_append : (earlier xs ys : List Variable) → are_fine_names earlier (xs ++ ys) ≡ (are_fine_names earlier xs && are_fine_names (newest earlier xs) ys)
unfolding newest
names_append earlier [] ys = refl
names_append earlier (x ∷ xs) ys =
    ap (λ (b : Bool). is_fine_name earlier x.name && b) (names_append (x ∷ earlier) xs ys)
    ∙ and_again (is_fine_name earlier x.name) (are_fine_names (x ∷ earlier) xs) (are_fine_names (newest (x ∷ earlier) xs) ys)

-- the order of the earlier names does not matter
name_order : (variables : List Variable) (name : List ℕ) → is_fine_name (newest [] variables) name ≡ is_fine_name variables name
name_order variables name = ap (λ (b : Bool). is_name name && not b) (any_order (λ variable. bytes_eq variable.name name) variables)

-- one more name
name_more : (variables : List Variable) (variable : Variable) → are_fine_names [] variables ≡ true → is_fine_name variables variable.name ≡ true
    → are_fine_names [] (variables ++ variable ∷ []) ≡ true
name_more variables variable all here =
    names_append [] variables (variable ∷ [])
    ∙ and_from (are_fine_names [] variables) (are_fine_names (newest [] variables) (variable ∷ [])) all
    (and_all (is_fine_name (newest [] variables) variable.name) ∙ name_order variables variable.name ∙ here)

-- the name after those done may follow them
name_next : (done : List Variable) (variable : Variable) (later : List Variable) → are_fine_names [] (done ++ (variable ∷ later)) ≡ true
    → is_fine_name done variable.name ≡ true
name_next done variable later all =
    let both = and_parts (are_fine_names [] done) (are_fine_names (newest [] done) (variable ∷ later)) (sym (names_append [] done (variable ∷ later)) ∙ all) in
    let here = and_parts (is_fine_name (newest [] done) variable.name) (are_fine_names (variable ∷ newest [] done) later) both.1 in
    sym (name_order done variable.name) ∙ here.0

-- the reader of declarations
pub declaration_reader : IsReader declaration (are_fine_names []) begins_declaration declaration_at
declaration_reader = record {
  fine = λ done tokens x all read. name_more done x.0 all (declaration_takes done tokens x read).fine;
  takes = λ done tokens x read. (declaration_takes done tokens x read).spelled;
  again = λ done variable later pieces tokens all spelled. declaration_again done variable pieces tokens (name_next done variable later all) spelled;
  begun = λ done variable later pieces tokens all spelled. declaration_begins variable pieces tokens spelled;
  some = λ variable. omega arith;
}

-- ---- steps

-- the steps of two rows, one after the other
steps_append : (variables : List Variable) (done xs ys : List Step)
    → are_fine_steps variables done (xs ++ ys) ≡ (are_fine_steps variables done xs && are_fine_steps variables (newest done xs) ys)
unfolding newest
steps_append variables done [] ys = refl
steps_append variables done (x ∷ xs) ys =
    ap (λ (b : Bool). is_fine_step variables done x && b) (steps_append variables (x ∷ done) xs ys)
    ∙ and_again (is_fine_step variables done x) (are_fine_steps variables (x ∷ done) xs) (are_fine_steps variables (newest (x ∷ done) xs) ys)

-- the order of the steps done does not matter: for a variable, an expression, a step
assigned_order : (done : List Step) (variable : ℕ) → was_assigned variable (newest [] done) ≡ was_assigned variable done
assigned_order done variable = any_order (assigns variable) done

expr_order : (variables : List Variable) (done : List Step) (value : Expr) → is_fine_expr variables (newest [] done) value ≡ is_fine_expr variables done value
expr_order variables done (expr.Letter pos letter) = ap (λ (b : Bool). is_declared Letter variables letter && b) (assigned_order done letter)
expr_order variables done (expr.Load pos pointer) = ap (λ (b : Bool). is_declared Pointer variables pointer && b) (assigned_order done pointer)
expr_order variables done (expr.Number number) = refl

step_order : (variables : List Variable) (done : List Step) (form : Step) → is_fine_step variables (newest [] done) form ≡ is_fine_step variables done form
step_order variables done (step.NewHandle handle size) = refl
step_order variables done (step.HLock pos handle) = ap (λ (b : Bool). is_declared Handle variables handle && b) (assigned_order done handle)
step_order variables done (step.HUnlock pos handle) = ap (λ (b : Bool). is_declared Handle variables handle && b) (assigned_order done handle)
step_order variables done (step.Derive pos pointer handle) =
    ap (λ (b : Bool). is_declared Pointer variables pointer && (is_declared Handle variables handle && b)) (assigned_order done handle)
step_order variables done (step.Set letter value) = ap (λ (b : Bool). is_declared Letter variables letter && b) (expr_order variables done value)
step_order variables done (step.Store pos pointer value) =
    ap (λ (b : Bool). (is_declared Pointer variables pointer && b) && is_fine_expr variables (newest [] done) value) (assigned_order done pointer)
    ∙ ap (λ (b : Bool). is_readable Pointer variables done pointer && b) (expr_order variables done value)
step_order variables done (step.Putchar value) = expr_order variables done value

-- one more step
step_more : (variables : List Variable) (steps : List Step) (form : Step) → are_fine_steps variables [] steps ≡ true
    → is_fine_step variables steps form ≡ true → are_fine_steps variables [] (steps ++ form ∷ []) ≡ true
step_more variables steps form all here =
    steps_append variables [] steps (form ∷ [])
    ∙ and_from (are_fine_steps variables [] steps) (are_fine_steps variables (newest [] steps) (form ∷ [])) all
    (and_all (is_fine_step variables (newest [] steps) form) ∙ step_order variables steps form ∙ here)

-- the step after those done may follow them
pub step_next : (variables : List Variable) (done : List Step) (form : Step) (later : List Step)
    → are_fine_steps variables [] (done ++ (form ∷ later)) ≡ true → is_fine_step variables done form ≡ true
step_next variables done form later all =
    let both = and_parts (are_fine_steps variables [] done) (are_fine_steps variables (newest [] done) (form ∷ later))
    (sym (steps_append variables [] done (form ∷ later)) ∙ all) in
    let here = and_parts (is_fine_step variables (newest [] done) form) (are_fine_steps variables (form ∷ newest [] done) later) both.1 in
    sym (step_order variables done form) ∙ here.0

-- a step, with its semicolon, begins with no word that is neither a name nor begins a form
pub statement_begins : (variables : List Variable) → are_fine_names [] variables ≡ true
    → (done : List Step) (form : Step) (pieces : List Piece) (tokens : List SourceToken) (text : List ℕ) → is_fine_step variables done form ≡ true
    → is_name text ≡ false → bytes_eq (codes "*") text ≡ false → bytes_eq (codes "HLock") text ≡ false → bytes_eq (codes "HUnlock") text ≡ false
    → bytes_eq (codes "putchar") text ≡ false
    → Spells (statement variables form ++ pieces) tokens → is_at text tokens ≡ false
statement_begins variables named done form pieces tokens text fine no_name no_star no_lock no_unlock no_putchar spelled =
    step_begins variables named done form (word (codes ";") ∷ pieces) tokens text fine no_name no_star no_lock no_unlock no_putchar
    (subst (λ (p : List Piece). Spells p tokens) (append_assoc (step_spelling variables form) (word (codes ";") ∷ []) pieces) spelled)

-- the reader of steps
pub step_reader : (variables : List Variable) → are_fine_names [] variables ≡ true
    → IsReader (statement variables) (are_fine_steps variables []) begins_statement (step_at variables)
unfolding reserved
step_reader variables named = record {
  fine = λ done tokens x all read. step_more variables done x.0 all (step_takes variables done tokens x read).fine;
  takes = λ done tokens x read. (step_takes variables done tokens x read).spelled;
  again = λ done form later pieces tokens all spelled. step_again variables named done form pieces tokens (step_next variables done form later all) spelled;
  begun = λ done form later pieces tokens all spelled.
      ap not (statement_begins variables named done form pieces tokens (codes "return") (step_next variables done form later all) refl refl refl refl
      refl spelled);
  some = λ form. omega (arith, length-append (step_spelling variables form) (word (codes ";") ∷ []));
}
