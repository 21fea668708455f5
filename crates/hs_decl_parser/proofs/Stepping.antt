-- What each function of the parser reads, in the names of what the others read.
--     initialiser_list, declaration_step, if_step, ..     one equation a case
--     initialisers_on, items_goes, ..                     the loops: what is left to read, one more entry, one that fails
use Rattle.std.proofs.Common.{◌≡◌, ℕ, Bool, true, false, List, [], ◌∷◌, ◌++◌, Option, Some, None, refl, ap, ◌∙◌}
use Rattle.std.specs.Prelude.{codes, if◌then◌else◌}
use Rattle.hs_base.specs.Options.{◌>>=◌}
use Rattle.hs_tokens.specs.declared.token.SourceToken.{SourceToken}
use Rattle.hs_syntax.specs.RowViews.{specification_from}
use Rattle.hs_syntax.specs.StatementViews.{OneStatement, one_statement, initialisers_from, statements_from}
use Rattle.hs_syntax.specs.Trees as tree
use Rattle.hs_syntax.specs.Trees.{Expression, Specified, Declared, Initialising, Declaring, Declaration, Labelling, Statement, Compound, ExternalDeclaration}
use Rattle.hs_tokens.specs.declared.place.Place.{Place}
use Rattle.hs_expr_parser.specs.Ahead.{place_of, is_punctuator, is_keyword, is_ahead, is_mark_ahead, mark_at, begins_specifier}
use Rattle.hs_expr_parser.specs.Reading.{Known, going_on}
use Rattle.hs_expr_parser.specs.Recursion.{Read}
use Rattle.hs_expr_parser.specs.Laws.Along.{stays}
use Rattle.hs_expr_parser.specs.Steps.{expression_at, assignment_at, conditional_at, some_specifiers_at, declarator_at}
use Rattle.hs_decl_parser.specs.Goals as goal
use Rattle.hs_decl_parser.specs.Reading.{Shorter, Controls, reading, braces_rule, starting_value, declared_rule, bare, inner_rule, statement_by, function_rule, specified_rule}
use Rattle.hs_decl_parser.specs.Steps.{braces_at, initialiser_at, initialisers_at, start_at, item_from, item_at, items_at, declared_at, declaration_at, declarations_at, inner_at, block_at, test_at, optional_at, if_at, while_at, do_at, controls_at, for_at, switch_at, ended_at, return_at, ended_expression_at, plain_at, statement_at, label_at, labels_at, labelled_at, statements_at, function_at, external_from, specified_at, external_at, else_at}
use Rattle.hs_decl_parser.specs.Words.{statement_word_of, keyword_at, begins_label}
use Rattle.hs_decl_parser.specs.declared.words.StatementWord.{StatementWord}
use Rattle.hs_decl_parser.specs.declared.words.StatementWord.TheVariants.{If, While, Do, For, Switch, Break, Continue, Return}
use Rattle.hs_decl_parser.proofs.Plain.{round}

-- what was found goes on
found_goes : {A B : Type 0} {found : Read A} (more : A → List SourceToken → B) (stop : B) (it : A) (rest : List SourceToken)
    → found ≡ Some (it, rest) → going_on found more stop ≡ more it rest
found_goes more stop it rest is = ap (λ found. going_on found more stop) is

-- ---- initialisers

pub braces_step : (known : Known) (at : Place) (rest : List SourceToken)
    → braces_at known at rest
    ≡ (initialisers_at known [] rest >>= (λ its. mark_at (codes "}") its.1 >>= (λ close. Some (tree.list at (initialisers_from its.0.0) its.0.1, close.1))))
unfolding braces_at initialisers_at
braces_step known at rest = λ i. braces_rule (round known i) at rest

pub initialiser_list : (known : Known) (tokens : List SourceToken) (brace : Place) (rest : List SourceToken) → mark_at (codes "{") tokens ≡ Some (brace, rest)
    → initialiser_at known tokens ≡ braces_at known brace rest
unfolding initialiser_at braces_at
initialiser_list known tokens brace rest is =
    found_goes (λ brace rest. braces_rule (reading known) brace rest) (starting_value known tokens) brace rest is

pub initialiser_value : (known : Known) (tokens : List SourceToken) → mark_at (codes "{") tokens ≡ None
    → initialiser_at known tokens ≡ (assignment_at known tokens >>= (λ e. Some (tree.value e.0, e.1)))
unfolding initialiser_at
initialiser_value known tokens is = stays (λ brace rest. braces_rule (reading known) brace rest) (starting_value known tokens) is

-- what is left after initialisers
unfoldable pub initialisers_on : Known → List Initialising → List SourceToken → Read (List Initialising × Bool)
initialisers_on known its rest =
    going_on (mark_at (codes ",") rest) (λ comma next. if is_mark_ahead (codes "}") next then Some ((its, true), next) else initialisers_at known its next)
    (Some ((its, false), rest))

pub initialisers_step : (known : Known) (earlier : List Initialising) (tokens : List SourceToken)
    → initialisers_at known earlier tokens ≡ (initialiser_at known tokens >>= (λ it. initialisers_on known (earlier ++ it.0 ∷ []) it.1))
unfolding initialisers_at initialiser_at initialisers_on
initialisers_step known earlier tokens =
    let more : Shorter → Initialising × List SourceToken → Read (List Initialising × Bool) =
    λ table it. going_on (mark_at (codes ",") it.1)
    (λ comma rest. if is_mark_ahead (codes "}") rest then Some ((earlier ++ it.0 ∷ [], true), rest) else table (goal.initialisers (earlier ++ it.0 ∷ [])) rest)
    (Some ((earlier ++ it.0 ∷ [], false), it.1)) in
    λ i. initialiser_at known tokens >>= more (round known i)

-- no comma follows
pub initialisers_end : (known : Known) (its : List Initialising) (rest : List SourceToken) → mark_at (codes ",") rest ≡ None
    → initialisers_on known its rest ≡ Some ((its, false), rest)
unfolding initialisers_on
initialisers_end known its rest is =
    stays (λ comma next. if is_mark_ahead (codes "}") next then Some ((its, true), next) else initialisers_at known its next)
    (Some ((its, false), rest)) is

-- a comma ends them
pub initialisers_close : (known : Known) (its : List Initialising) (rest : List SourceToken) (comma : Place) (next : List SourceToken)
    → mark_at (codes ",") rest ≡ Some (comma, next) → is_mark_ahead (codes "}") next ≡ true → initialisers_on known its rest ≡ Some ((its, true), next)
unfolding initialisers_on
initialisers_close known its rest comma next is ahead =
    found_goes (λ comma next. if is_mark_ahead (codes "}") next then Some ((its, true), next) else initialisers_at known its next)
    (Some ((its, false), rest)) comma next is
    ∙ ap (λ closed. if closed then Some ((its, true), next) else initialisers_at known its next) ahead

-- after a comma
initialisers_next : (known : Known) (its : List Initialising) (rest : List SourceToken) (comma : Place) (next : List SourceToken)
    → mark_at (codes ",") rest ≡ Some (comma, next) → is_mark_ahead (codes "}") next ≡ false
    → initialisers_on known its rest ≡ (initialiser_at known next >>= (λ it. initialisers_on known (its ++ it.0 ∷ []) it.1))
unfolding initialisers_on
initialisers_next known its rest comma next is ahead =
    found_goes (λ comma next. if is_mark_ahead (codes "}") next then Some ((its, true), next) else initialisers_at known its next)
    (Some ((its, false), rest)) comma next is
    ∙ ap (λ closed. if closed then Some ((its, true), next) else initialisers_at known its next) ahead
    ∙ initialisers_step known its next

-- one more
pub initialisers_goes : (known : Known) (its : List Initialising) (rest : List SourceToken) (comma : Place) (next : List SourceToken)
    (it : Initialising) (left : List SourceToken)
    → mark_at (codes ",") rest ≡ Some (comma, next) → is_mark_ahead (codes "}") next ≡ false → initialiser_at known next ≡ Some (it, left)
    → initialisers_on known its rest ≡ initialisers_on known (its ++ it ∷ []) left
initialisers_goes known its rest comma next it left is ahead read =
    initialisers_next known its rest comma next is ahead ∙ ap (λ found. found >>= (λ it. initialisers_on known (its ++ it.0 ∷ []) it.1)) read

-- one that fails
pub initialisers_fails : (known : Known) (its : List Initialising) (rest : List SourceToken) (comma : Place) (next : List SourceToken)
    → mark_at (codes ",") rest ≡ Some (comma, next) → is_mark_ahead (codes "}") next ≡ false → initialiser_at known next ≡ None
    → initialisers_on known its rest ≡ None
initialisers_fails known its rest comma next is ahead read =
    initialisers_next known its rest comma next is ahead ∙ ap (λ found. found >>= (λ it. initialisers_on known (its ++ it.0 ∷ []) it.1)) read

-- ---- declarators with what they start with

pub start_some : (known : Known) (tokens : List SourceToken) (equals : Place) (rest : List SourceToken) → mark_at (codes "=") tokens ≡ Some (equals, rest)
    → start_at known tokens ≡ (initialiser_at known rest >>= (λ it. Some (Some it.0, it.1)))
unfolding start_at initialiser_at
start_some known tokens equals rest is =
    let more : Shorter → List SourceToken → Read (Option Initialising) = λ table rest. table goal.initialiser rest >>= (λ it. Some (Some it.0, it.1)) in
    found_goes (λ equals rest. more (reading known) rest) (Some (None, tokens)) equals rest is ∙ (λ i. more (round known i) rest)

pub start_none : (known : Known) (tokens : List SourceToken) → mark_at (codes "=") tokens ≡ None → start_at known tokens ≡ Some (None, tokens)
unfolding start_at
start_none known tokens is = stays (λ equals rest. reading known goal.initialiser rest >>= (λ it. Some (Some it.0, it.1))) (Some (None, tokens)) is

pub item_from_step : (known : Known) (declared : Declared) (tokens : List SourceToken)
    → item_from known declared tokens ≡ (start_at known tokens >>= (λ start. Some (record { declarator = declared; initialiser = start.0 }, start.1)))
unfolding item_from start_at
item_from_step known declared tokens = refl

pub item_step : (known : Known) (tokens : List SourceToken)
    → item_at known tokens ≡ (declarator_at known false tokens >>= (λ declared. item_from known declared.0 declared.1))
unfolding item_at item_from
item_step known tokens = refl

items_step : (known : Known) (its : List Declaring) (tokens : List SourceToken)
    → items_at known its tokens
    ≡ going_on (mark_at (codes ",") tokens) (λ comma rest. item_at known rest >>= (λ it. items_at known (its ++ it.0 ∷ []) it.1)) (Some (its, tokens))
unfolding items_at item_at
items_step known its tokens =
    λ i. going_on (mark_at (codes ",") tokens) (λ comma rest. item_at known rest >>= (λ it. round known i (goal.items (its ++ it.0 ∷ [])) it.1))
    (Some (its, tokens))

-- no comma follows
pub items_end : (known : Known) (its : List Declaring) (tokens : List SourceToken) → mark_at (codes ",") tokens ≡ None
    → items_at known its tokens ≡ Some (its, tokens)
items_end known its tokens is =
    items_step known its tokens
    ∙ stays (λ comma rest. item_at known rest >>= (λ it. items_at known (its ++ it.0 ∷ []) it.1)) (Some (its, tokens)) is

-- after a comma
items_next : (known : Known) (its : List Declaring) (tokens : List SourceToken) (comma : Place) (next : List SourceToken)
    → mark_at (codes ",") tokens ≡ Some (comma, next)
    → items_at known its tokens ≡ (item_at known next >>= (λ it. items_at known (its ++ it.0 ∷ []) it.1))
items_next known its tokens comma next is =
    items_step known its tokens
    ∙ found_goes (λ comma rest. item_at known rest >>= (λ it. items_at known (its ++ it.0 ∷ []) it.1)) (Some (its, tokens)) comma next is

-- one more
pub items_goes : (known : Known) (its : List Declaring) (tokens : List SourceToken) (comma : Place) (next : List SourceToken) (it : Declaring)
    (left : List SourceToken)
    → mark_at (codes ",") tokens ≡ Some (comma, next) → item_at known next ≡ Some (it, left)
    → items_at known its tokens ≡ items_at known (its ++ it ∷ []) left
items_goes known its tokens comma next it left is read =
    items_next known its tokens comma next is ∙ ap (λ found. found >>= (λ it. items_at known (its ++ it.0 ∷ []) it.1)) read

-- one that fails
pub items_fails : (known : Known) (its : List Declaring) (tokens : List SourceToken) (comma : Place) (next : List SourceToken)
    → mark_at (codes ",") tokens ≡ Some (comma, next) → item_at known next ≡ None → items_at known its tokens ≡ None
items_fails known its tokens comma next is read =
    items_next known its tokens comma next is ∙ ap (λ found. found >>= (λ it. items_at known (its ++ it.0 ∷ []) it.1)) read

-- ---- declarations

pub declared_step : (known : Known) (specifiers : List Specified) (declared : Declared) (tokens : List SourceToken)
    → declared_at known specifiers declared tokens
    ≡ (item_from known declared tokens >>= (λ first. items_at known (first.0 ∷ []) first.1 >>= (λ its. mark_at (codes ";") its.1 >>= (λ end.
    Some (record { specifiers = specification_from specifiers; items = its.0 }, end.1)))))
unfolding declared_at item_from items_at
declared_step known specifiers declared tokens = refl

-- the rest of a declaration, after its specifiers
unfoldable pub declaration_on : Known → List Specified → List SourceToken → Read Declaration
declaration_on known its rest =
    going_on (mark_at (codes ";") rest) (λ end left. Some (bare its, left))
    (declarator_at known false rest >>= (λ declared. declared_at known its declared.0 declared.1))

pub declaration_step : (known : Known) (tokens : List SourceToken)
    → declaration_at known tokens ≡ (some_specifiers_at known tokens >>= (λ its. declaration_on known its.0 its.1))
unfolding declaration_at declaration_on declared_at
declaration_step known tokens = refl

pub declaration_bare : (known : Known) (its : List Specified) (rest : List SourceToken) (end : Place) (left : List SourceToken)
    → mark_at (codes ";") rest ≡ Some (end, left) → declaration_on known its rest ≡ Some (bare its, left)
unfolding declaration_on
declaration_bare known its rest end left is =
    found_goes (λ end left. Some (bare its, left)) (declarator_at known false rest >>= (λ declared. declared_at known its declared.0 declared.1)) end left is

pub declaration_declares : (known : Known) (its : List Specified) (rest : List SourceToken) → mark_at (codes ";") rest ≡ None
    → declaration_on known its rest ≡ (declarator_at known false rest >>= (λ declared. declared_at known its declared.0 declared.1))
unfolding declaration_on
declaration_declares known its rest is =
    stays (λ end left. Some (bare its, left)) (declarator_at known false rest >>= (λ declared. declared_at known its declared.0 declared.1)) is

declarations_step : (known : Known) (its : List Declaration) (tokens : List SourceToken)
    → declarations_at known its tokens
    ≡ (if is_ahead (begins_specifier known false) tokens then
    (declaration_at known tokens >>= (λ it. declarations_at known (its ++ it.0 ∷ []) it.1)) else Some (its, tokens))
unfolding declarations_at declaration_at
declarations_step known its tokens =
    λ i. if is_ahead (begins_specifier known false) tokens
    then (declaration_at known tokens >>= (λ it. round known i (goal.declarations (its ++ it.0 ∷ [])) it.1)) else Some (its, tokens)

-- no declaration follows
pub declarations_end : (known : Known) (its : List Declaration) (tokens : List SourceToken) → is_ahead (begins_specifier known false) tokens ≡ false
    → declarations_at known its tokens ≡ Some (its, tokens)
declarations_end known its tokens is =
    declarations_step known its tokens
    ∙ ap (λ begins. if begins then (declaration_at known tokens >>= (λ it. declarations_at known (its ++ it.0 ∷ []) it.1)) else Some (its, tokens)) is

-- one follows
declarations_next : (known : Known) (its : List Declaration) (tokens : List SourceToken) → is_ahead (begins_specifier known false) tokens ≡ true
    → declarations_at known its tokens ≡ (declaration_at known tokens >>= (λ it. declarations_at known (its ++ it.0 ∷ []) it.1))
declarations_next known its tokens is =
    declarations_step known its tokens
    ∙ ap (λ begins. if begins then (declaration_at known tokens >>= (λ it. declarations_at known (its ++ it.0 ∷ []) it.1)) else Some (its, tokens)) is

-- one more
pub declarations_goes : (known : Known) (its : List Declaration) (tokens : List SourceToken) (it : Declaration) (left : List SourceToken)
    → is_ahead (begins_specifier known false) tokens ≡ true → declaration_at known tokens ≡ Some (it, left)
    → declarations_at known its tokens ≡ declarations_at known (its ++ it ∷ []) left
declarations_goes known its tokens it left is read =
    declarations_next known its tokens is ∙ ap (λ found. found >>= (λ it. declarations_at known (its ++ it.0 ∷ []) it.1)) read

-- one that fails
pub declarations_fails : (known : Known) (its : List Declaration) (tokens : List SourceToken)
    → is_ahead (begins_specifier known false) tokens ≡ true → declaration_at known tokens ≡ None → declarations_at known its tokens ≡ None
declarations_fails known its tokens is read =
    declarations_next known its tokens is ∙ ap (λ found. found >>= (λ it. declarations_at known (its ++ it.0 ∷ []) it.1)) read

-- ---- compound statements

pub inner_step : (known : Known) (at : Place) (rest : List SourceToken)
    → inner_at known at rest
    ≡ (declarations_at known [] rest >>= (λ declarations.
    statements_at known [] declarations.1 >>= (λ statements. mark_at (codes "}") statements.1 >>= (λ close.
    Some (tree.compound at declarations.0 (statements_from statements.0) close.0, close.1)))))
unfolding inner_at declarations_at statements_at
inner_step known at rest = λ i. inner_rule (round known i) at rest

pub block_step : (known : Known) (tokens : List SourceToken)
    → block_at known tokens ≡ (mark_at (codes "{") tokens >>= (λ brace. inner_at known brace.0 brace.1))
unfolding block_at inner_at
block_step known tokens = refl

-- ---- the parts of statements

pub test_step : (known : Known) (tokens : List SourceToken)
    → test_at known tokens
    ≡ (mark_at (codes "(") tokens >>= (λ opening. expression_at known opening.1 >>= (λ e. mark_at (codes ")") e.1 >>= (λ close. Some (e.0, close.1)))))
unfolding test_at
test_step known tokens = refl

pub optional_none : (known : Known) (mark : List ℕ) (tokens : List SourceToken) (end : Place) (rest : List SourceToken) → mark_at mark tokens ≡ Some (end, rest)
    → optional_at known mark tokens ≡ Some (None, rest)
unfolding optional_at
optional_none known mark tokens end rest is =
    found_goes (λ end rest. Some (None, rest)) (expression_at known tokens >>= (λ e. mark_at mark e.1 >>= (λ end. Some (Some e.0, end.1)))) end rest is

pub optional_some : (known : Known) (mark : List ℕ) (tokens : List SourceToken) → mark_at mark tokens ≡ None
    → optional_at known mark tokens ≡ (expression_at known tokens >>= (λ e. mark_at mark e.1 >>= (λ end. Some (Some e.0, end.1))))
unfolding optional_at
optional_some known mark tokens is =
    stays (λ end rest. Some (None, rest)) (expression_at known tokens >>= (λ e. mark_at mark e.1 >>= (λ end. Some (Some e.0, end.1)))) is

pub controls_step : (known : Known) (tokens : List SourceToken)
    → controls_at known tokens
    ≡ (mark_at (codes "(") tokens >>= (λ opening. optional_at known (codes ";") opening.1 >>= (λ first. optional_at known (codes ";") first.1 >>= (λ test.
    optional_at known (codes ")") test.1 >>= (λ step. Some (record { first = first.0; test = test.0; step = step.0 }, step.1))))))
unfolding controls_at optional_at
controls_step known tokens = refl

-- ---- statements

-- what follows the first branch of an `if`
unfoldable pub if_on : Known → Place → Expression → Statement → List SourceToken → Read Statement
if_on known at test taken rest =
    going_on (keyword_at (codes "else") rest)
    (λ word others. statement_at known others >>= (λ otherwise. Some (tree.if_else at test taken otherwise.0, otherwise.1)))
    (Some (tree.if_ at test taken, rest))

pub if_step : (known : Known) (at : Place) (rest : List SourceToken)
    → if_at known at rest ≡ (test_at known rest >>= (λ test. statement_at known test.1 >>= (λ taken. if_on known at test.0 taken.0 taken.1)))
unfolding if_at test_at statement_at if_on
if_step known at rest =
    let more : Shorter → Expression × List SourceToken → Read Statement =
    λ table test. table goal.statement test.1 >>= (λ taken. going_on (keyword_at (codes "else") taken.1)
    (λ word others. table goal.statement others >>= (λ otherwise. Some (tree.if_else at test.0 taken.0 otherwise.0, otherwise.1)))
    (Some (tree.if_ at test.0 taken.0, taken.1))) in
    λ i. test_at known rest >>= more (round known i)

pub if_alone : (known : Known) (at : Place) (test : Expression) (taken : Statement) (rest : List SourceToken) → keyword_at (codes "else") rest ≡ None
    → if_on known at test taken rest ≡ Some (tree.if_ at test taken, rest)
unfolding if_on
if_alone known at test taken rest is =
    stays (λ word others. statement_at known others >>= (λ otherwise. Some (tree.if_else at test taken otherwise.0, otherwise.1)))
    (Some (tree.if_ at test taken, rest)) is

pub if_otherwise : (known : Known) (at : Place) (test : Expression) (taken : Statement) (rest : List SourceToken) (word : Place) (others : List SourceToken)
    → keyword_at (codes "else") rest ≡ Some (word, others)
    → if_on known at test taken rest ≡ else_at known at test taken others
unfolding if_on else_at
if_otherwise known at test taken rest word others is =
    found_goes (λ word others. statement_at known others >>= (λ otherwise. Some (tree.if_else at test taken otherwise.0, otherwise.1)))
    (Some (tree.if_ at test taken, rest))
    word others is

pub else_step : (known : Known) (at : Place) (test : Expression) (taken : Statement) (rest : List SourceToken)
    → else_at known at test taken rest ≡ (statement_at known rest >>= (λ otherwise. Some (tree.if_else at test taken otherwise.0, otherwise.1)))
unfolding else_at
else_step known at test taken rest = refl

pub while_step : (known : Known) (at : Place) (rest : List SourceToken)
    → while_at known at rest ≡ (test_at known rest >>= (λ test. statement_at known test.1 >>= (λ body. Some (tree.while_ at test.0 body.0, body.1))))
unfolding while_at test_at statement_at
while_step known at rest =
    let more : Shorter → Expression × List SourceToken → Read Statement =
    λ table test. table goal.statement test.1 >>= (λ body. Some (tree.while_ at test.0 body.0, body.1)) in
    λ i. test_at known rest >>= more (round known i)

pub do_step : (known : Known) (at : Place) (rest : List SourceToken)
    → do_at known at rest
    ≡ (statement_at known rest >>= (λ body. keyword_at (codes "while") body.1 >>=
    (λ word. test_at known word.1 >>= (λ test. mark_at (codes ";") test.1 >>= (λ end.
    Some (tree.do_ at body.0 test.0, end.1))))))
unfolding do_at test_at statement_at
do_step known at rest =
    let more : Statement × List SourceToken → Read Statement =
    λ body. keyword_at (codes "while") body.1 >>=
    (λ word. test_at known word.1 >>= (λ test. mark_at (codes ";") test.1 >>= (λ end. Some (tree.do_ at body.0 test.0, end.1)))) in
    λ i. round known i goal.statement rest >>= more

pub for_step : (known : Known) (at : Place) (rest : List SourceToken)
    → for_at known at rest
    ≡ (controls_at known rest >>= (λ its. statement_at known its.1 >>= (λ body. Some (tree.for_ at its.0.first its.0.test its.0.step body.0, body.1))))
unfolding for_at controls_at statement_at
for_step known at rest =
    let more : Shorter → Controls × List SourceToken → Read Statement =
    λ table its. table goal.statement its.1 >>= (λ body. Some (tree.for_ at its.0.first its.0.test its.0.step body.0, body.1)) in
    λ i. controls_at known rest >>= more (round known i)

pub switch_step : (known : Known) (at : Place) (rest : List SourceToken)
    → switch_at known at rest ≡ (test_at known rest >>= (λ e. block_at known e.1 >>= (λ body. Some (tree.switch_ at e.0 body.0, body.1))))
unfolding switch_at test_at block_at
switch_step known at rest = refl

pub ended_step : (it : Statement) (rest : List SourceToken) → ended_at it rest ≡ (mark_at (codes ";") rest >>= (λ end. Some (it, end.1)))
unfolding ended_at
ended_step it rest = refl

pub return_step : (known : Known) (at : Place) (rest : List SourceToken)
    → return_at known at rest ≡ (optional_at known (codes ";") rest >>= (λ e. Some (tree.return_ at e.0, e.1)))
unfolding return_at optional_at
return_step known at rest = refl

-- a block
plain_block : (known : Known) (source : SourceToken) (rest : List SourceToken) → is_punctuator (codes "{") source ≡ true
    → plain_at known source rest ≡ (inner_at known (place_of source) rest >>= (λ it. Some (tree.block it.0, it.1)))
unfolding plain_at inner_at
plain_block known source rest is =
    ap (λ brace. if brace then (inner_rule (reading known) (place_of source) rest >>= (λ it. Some (tree.block it.0, it.1)))
    else if is_punctuator (codes ";") source then Some (tree.empty (place_of source), rest)
    else (expression_at known (source ∷ rest) >>= (λ e. mark_at (codes ";") e.1 >>= (λ end. Some (tree.expression e.0, end.1))))) is

-- a statement that begins with no brace
plain_other : (known : Known) (source : SourceToken) (rest : List SourceToken) → is_punctuator (codes "{") source ≡ false
    → plain_at known source rest
    ≡ (if is_punctuator (codes ";") source then Some (tree.empty (place_of source), rest)
    else (expression_at known (source ∷ rest) >>= (λ e. mark_at (codes ";") e.1 >>= (λ end. Some (tree.expression e.0, end.1)))))
unfolding plain_at
plain_other known source rest is =
    ap (λ brace. if brace then (inner_rule (reading known) (place_of source) rest >>= (λ it. Some (tree.block it.0, it.1)))
    else if is_punctuator (codes ";") source then Some (tree.empty (place_of source), rest)
    else (expression_at known (source ∷ rest) >>= (λ e. mark_at (codes ";") e.1 >>= (λ end. Some (tree.expression e.0, end.1))))) is

-- a semicolon
plain_empty : (known : Known) (source : SourceToken) (rest : List SourceToken) → is_punctuator (codes "{") source ≡ false
    → is_punctuator (codes ";") source ≡ true → plain_at known source rest ≡ Some (tree.empty (place_of source), rest)
plain_empty known source rest brace is =
    plain_other known source rest brace
    ∙ ap (λ ends. if ends then Some (tree.empty (place_of source), rest)
    else (expression_at known (source ∷ rest) >>= (λ e. mark_at (codes ";") e.1 >>= (λ end. Some (tree.expression e.0, end.1))))) is

-- an expression
plain_expression : (known : Known) (source : SourceToken) (rest : List SourceToken) → is_punctuator (codes "{") source ≡ false
    → is_punctuator (codes ";") source ≡ false → plain_at known source rest ≡ ended_expression_at known (source ∷ rest)
unfolding ended_expression_at
plain_expression known source rest brace is =
    plain_other known source rest brace
    ∙ ap (λ ends. if ends then Some (tree.empty (place_of source), rest)
    else (expression_at known (source ∷ rest) >>= (λ e. mark_at (codes ";") e.1 >>= (λ end. Some (tree.expression e.0, end.1))))) is

pub ended_expression_step : (known : Known) (tokens : List SourceToken)
    → ended_expression_at known tokens ≡ (expression_at known tokens >>= (λ e. mark_at (codes ";") e.1 >>= (λ end. Some (tree.expression e.0, end.1))))
unfolding ended_expression_at
ended_expression_step known tokens = refl

pub statement_nothing : (known : Known) → statement_at known [] ≡ None
unfolding statement_at
statement_nothing known = refl

-- a statement, by the word that it begins with
unfoldable pub statement_on : Known → Option StatementWord → SourceToken → List SourceToken → Read Statement
statement_on known (Some If) source rest = if_at known (place_of source) rest
statement_on known (Some While) source rest = while_at known (place_of source) rest
statement_on known (Some Do) source rest = do_at known (place_of source) rest
statement_on known (Some For) source rest = for_at known (place_of source) rest
statement_on known (Some Switch) source rest = switch_at known (place_of source) rest
statement_on known (Some Break) source rest = ended_at (tree.break_ (place_of source)) rest
statement_on known (Some Continue) source rest = ended_at (tree.continue_ (place_of source)) rest
statement_on known (Some Return) source rest = return_at known (place_of source) rest
statement_on known None source rest = plain_at known source rest

statement_found : (known : Known) (word : Option StatementWord) (source : SourceToken) (rest : List SourceToken)
    → statement_by known (reading known) word source rest ≡ statement_on known word source rest
unfolding statement_on if_at while_at do_at for_at switch_at ended_at return_at plain_at
statement_found known (Some If) source rest = refl
statement_found known (Some While) source rest = refl
statement_found known (Some Do) source rest = refl
statement_found known (Some For) source rest = refl
statement_found known (Some Switch) source rest = refl
statement_found known (Some Break) source rest = refl
statement_found known (Some Continue) source rest = refl
statement_found known (Some Return) source rest = refl
statement_found known None source rest = refl

statement_step : (known : Known) (word : Option StatementWord) (source : SourceToken) (rest : List SourceToken) → statement_word_of source ≡ word
    → statement_at known (source ∷ rest) ≡ statement_on known word source rest
unfolding statement_at
statement_step known word source rest is =
    statement_found known (statement_word_of source) source rest ∙ ap (λ word. statement_on known word source rest) is

pub statement_if : (known : Known) (source : SourceToken) (rest : List SourceToken) → statement_word_of source ≡ Some If
    → statement_at known (source ∷ rest) ≡ if_at known (place_of source) rest
unfolding statement_on
statement_if known source rest is = statement_step known (Some If) source rest is

pub statement_while : (known : Known) (source : SourceToken) (rest : List SourceToken) → statement_word_of source ≡ Some While
    → statement_at known (source ∷ rest) ≡ while_at known (place_of source) rest
unfolding statement_on
statement_while known source rest is = statement_step known (Some While) source rest is

pub statement_do : (known : Known) (source : SourceToken) (rest : List SourceToken) → statement_word_of source ≡ Some Do
    → statement_at known (source ∷ rest) ≡ do_at known (place_of source) rest
unfolding statement_on
statement_do known source rest is = statement_step known (Some Do) source rest is

pub statement_for : (known : Known) (source : SourceToken) (rest : List SourceToken) → statement_word_of source ≡ Some For
    → statement_at known (source ∷ rest) ≡ for_at known (place_of source) rest
unfolding statement_on
statement_for known source rest is = statement_step known (Some For) source rest is

pub statement_switch : (known : Known) (source : SourceToken) (rest : List SourceToken) → statement_word_of source ≡ Some Switch
    → statement_at known (source ∷ rest) ≡ switch_at known (place_of source) rest
unfolding statement_on
statement_switch known source rest is = statement_step known (Some Switch) source rest is

pub statement_break : (known : Known) (source : SourceToken) (rest : List SourceToken) → statement_word_of source ≡ Some Break
    → statement_at known (source ∷ rest) ≡ ended_at (tree.break_ (place_of source)) rest
unfolding statement_on
statement_break known source rest is = statement_step known (Some Break) source rest is

pub statement_continue : (known : Known) (source : SourceToken) (rest : List SourceToken) → statement_word_of source ≡ Some Continue
    → statement_at known (source ∷ rest) ≡ ended_at (tree.continue_ (place_of source)) rest
unfolding statement_on
statement_continue known source rest is = statement_step known (Some Continue) source rest is

pub statement_return : (known : Known) (source : SourceToken) (rest : List SourceToken) → statement_word_of source ≡ Some Return
    → statement_at known (source ∷ rest) ≡ return_at known (place_of source) rest
unfolding statement_on
statement_return known source rest is = statement_step known (Some Return) source rest is

-- one that begins with no word of its own
statement_plain : (known : Known) (source : SourceToken) (rest : List SourceToken) → statement_word_of source ≡ None
    → statement_at known (source ∷ rest) ≡ plain_at known source rest
unfolding statement_on
statement_plain known source rest is = statement_step known None source rest is

pub statement_block : (known : Known) (source : SourceToken) (rest : List SourceToken) → statement_word_of source ≡ None
    → is_punctuator (codes "{") source ≡ true
    → statement_at known (source ∷ rest) ≡ (inner_at known (place_of source) rest >>= (λ it. Some (tree.block it.0, it.1)))
statement_block known source rest none is = statement_plain known source rest none ∙ plain_block known source rest is

pub statement_empty : (known : Known) (source : SourceToken) (rest : List SourceToken) → statement_word_of source ≡ None
    → is_punctuator (codes "{") source ≡ false → is_punctuator (codes ";") source ≡ true
    → statement_at known (source ∷ rest) ≡ Some (tree.empty (place_of source), rest)
statement_empty known source rest none brace is = statement_plain known source rest none ∙ plain_empty known source rest brace is

pub statement_expression : (known : Known) (source : SourceToken) (rest : List SourceToken) → statement_word_of source ≡ None
    → is_punctuator (codes "{") source ≡ false → is_punctuator (codes ";") source ≡ false
    → statement_at known (source ∷ rest) ≡ ended_expression_at known (source ∷ rest)
statement_expression known source rest none brace is = statement_plain known source rest none ∙ plain_expression known source rest brace is

-- ---- labels

pub label_case : (known : Known) (source : SourceToken) (rest : List SourceToken) → is_keyword (codes "case") source ≡ true
    → label_at known source rest ≡ (conditional_at known rest >>=
    (λ e. mark_at (codes ":") e.1 >>= (λ colon. Some (tree.case_ (place_of source) e.0, colon.1))))
unfolding label_at
label_case known source rest is =
    ap (λ it. if it then (conditional_at known rest >>= (λ e. mark_at (codes ":") e.1 >>= (λ colon. Some (tree.case_ (place_of source) e.0, colon.1))))
    else (mark_at (codes ":") rest >>= (λ colon. Some (tree.default_ (place_of source), colon.1)))) is

pub label_default : (known : Known) (source : SourceToken) (rest : List SourceToken) → is_keyword (codes "case") source ≡ false
    → label_at known source rest ≡ (mark_at (codes ":") rest >>= (λ colon. Some (tree.default_ (place_of source), colon.1)))
unfolding label_at
label_default known source rest is =
    ap (λ it. if it then (conditional_at known rest >>= (λ e. mark_at (codes ":") e.1 >>= (λ colon. Some (tree.case_ (place_of source) e.0, colon.1))))
    else (mark_at (codes ":") rest >>= (λ colon. Some (tree.default_ (place_of source), colon.1)))) is

pub labels_nothing : (known : Known) (its : List Labelling) → labels_at known its [] ≡ Some (its, [])
unfolding labels_at
labels_nothing known its = refl

labels_step : (known : Known) (its : List Labelling) (source : SourceToken) (rest : List SourceToken)
    → labels_at known its (source ∷ rest)
    ≡ (if begins_label source then (label_at known source rest >>= (λ it. labels_at known (its ++ it.0 ∷ []) it.1)) else Some (its, source ∷ rest))
unfolding labels_at label_at
labels_step known its source rest =
    λ i. if begins_label source then (label_at known source rest >>= (λ it. round known i (goal.labels (its ++ it.0 ∷ [])) it.1)) else Some (its, source ∷ rest)

-- no label follows
pub labels_end : (known : Known) (its : List Labelling) (source : SourceToken) (rest : List SourceToken) → begins_label source ≡ false
    → labels_at known its (source ∷ rest) ≡ Some (its, source ∷ rest)
labels_end known its source rest is =
    labels_step known its source rest
    ∙ ap (λ begins. if begins then (label_at known source rest >>= (λ it. labels_at known (its ++ it.0 ∷ []) it.1)) else Some (its, source ∷ rest)) is

-- one follows
labels_next : (known : Known) (its : List Labelling) (source : SourceToken) (rest : List SourceToken) → begins_label source ≡ true
    → labels_at known its (source ∷ rest) ≡ (label_at known source rest >>= (λ it. labels_at known (its ++ it.0 ∷ []) it.1))
labels_next known its source rest is =
    labels_step known its source rest
    ∙ ap (λ begins. if begins then (label_at known source rest >>= (λ it. labels_at known (its ++ it.0 ∷ []) it.1)) else Some (its, source ∷ rest)) is

-- one more
pub labels_goes : (known : Known) (its : List Labelling) (source : SourceToken) (rest : List SourceToken) (it : Labelling) (left : List SourceToken)
    → begins_label source ≡ true → label_at known source rest ≡ Some (it, left) → labels_at known its (source ∷ rest) ≡ labels_at known (its ++ it ∷ []) left
labels_goes known its source rest it left is read =
    labels_next known its source rest is ∙ ap (λ found. found >>= (λ it. labels_at known (its ++ it.0 ∷ []) it.1)) read

-- one that fails
pub labels_fails : (known : Known) (its : List Labelling) (source : SourceToken) (rest : List SourceToken)
    → begins_label source ≡ true → label_at known source rest ≡ None → labels_at known its (source ∷ rest) ≡ None
labels_fails known its source rest is read =
    labels_next known its source rest is ∙ ap (λ found. found >>= (λ it. labels_at known (its ++ it.0 ∷ []) it.1)) read

-- ---- labelled statements

pub labelled_step : (known : Known) (tokens : List SourceToken)
    → labelled_at known tokens ≡ (labels_at known [] tokens >>= (λ labels. statement_at known labels.1 >>= (λ it. Some (one_statement labels.0 it.0, it.1))))
unfolding labelled_at labels_at statement_at
labelled_step known tokens = refl

statements_step : (known : Known) (its : List OneStatement) (tokens : List SourceToken)
    → statements_at known its tokens
    ≡ (if is_mark_ahead (codes "}") tokens then Some (its, tokens) else (labelled_at known tokens >>= (λ it. statements_at known (its ++ it.0 ∷ []) it.1)))
unfolding statements_at labelled_at
statements_step known its tokens =
    λ i. if is_mark_ahead (codes "}") tokens then Some (its, tokens) else
    (labelled_at known tokens >>= (λ it. round known i (goal.statements (its ++ it.0 ∷ [])) it.1))

-- a `}` follows
pub statements_end : (known : Known) (its : List OneStatement) (tokens : List SourceToken) → is_mark_ahead (codes "}") tokens ≡ true
    → statements_at known its tokens ≡ Some (its, tokens)
statements_end known its tokens is =
    statements_step known its tokens
    ∙ ap (λ closed. if closed then Some (its, tokens) else (labelled_at known tokens >>= (λ it. statements_at known (its ++ it.0 ∷ []) it.1))) is

-- none does
statements_next : (known : Known) (its : List OneStatement) (tokens : List SourceToken) → is_mark_ahead (codes "}") tokens ≡ false
    → statements_at known its tokens ≡ (labelled_at known tokens >>= (λ it. statements_at known (its ++ it.0 ∷ []) it.1))
statements_next known its tokens is =
    statements_step known its tokens
    ∙ ap (λ closed. if closed then Some (its, tokens) else (labelled_at known tokens >>= (λ it. statements_at known (its ++ it.0 ∷ []) it.1))) is

-- one more
pub statements_goes : (known : Known) (its : List OneStatement) (tokens : List SourceToken) (it : OneStatement) (left : List SourceToken)
    → is_mark_ahead (codes "}") tokens ≡ false → labelled_at known tokens ≡ Some (it, left)
    → statements_at known its tokens ≡ statements_at known (its ++ it ∷ []) left
statements_goes known its tokens it left is read =
    statements_next known its tokens is ∙ ap (λ found. found >>= (λ it. statements_at known (its ++ it.0 ∷ []) it.1)) read

-- one that fails
pub statements_fails : (known : Known) (its : List OneStatement) (tokens : List SourceToken)
    → is_mark_ahead (codes "}") tokens ≡ false → labelled_at known tokens ≡ None → statements_at known its tokens ≡ None
statements_fails known its tokens is read =
    statements_next known its tokens is ∙ ap (λ found. found >>= (λ it. statements_at known (its ++ it.0 ∷ []) it.1)) read

-- ---- external declarations

pub function_step : (known : Known) (specifiers : List Specified) (declared : Declared) (tokens : List SourceToken)
    → function_at known specifiers declared tokens
    ≡ (block_at known tokens >>= (λ body. Some (tree.function_definition (specification_from specifiers) declared body.0, body.1)))
unfolding function_at block_at
function_step known specifiers declared tokens = refl

pub external_function : (known : Known) (specifiers : List Specified) (declared : Declared) (tokens : List SourceToken)
    → is_mark_ahead (codes "{") tokens ≡ true → external_from known specifiers declared tokens ≡ function_at known specifiers declared tokens
unfolding external_from function_at
external_function known specifiers declared tokens is =
    ap (λ brace. if brace then function_rule (reading known) specifiers declared tokens
    else (declared_rule known (reading known) specifiers declared tokens >>= (λ it. Some (tree.declaration it.0, it.1)))) is

pub external_declaration : (known : Known) (specifiers : List Specified) (declared : Declared) (tokens : List SourceToken)
    → is_mark_ahead (codes "{") tokens ≡ false
    → external_from known specifiers declared tokens ≡ (declared_at known specifiers declared tokens >>= (λ it. Some (tree.declaration it.0, it.1)))
unfolding external_from declared_at
external_declaration known specifiers declared tokens is =
    ap (λ brace. if brace then function_rule (reading known) specifiers declared tokens
    else (declared_rule known (reading known) specifiers declared tokens >>= (λ it. Some (tree.declaration it.0, it.1)))) is

-- what follows the specifiers of an external declaration
unfoldable pub specified_on : Known → List Specified → List SourceToken → Read ExternalDeclaration
specified_on known its rest =
    going_on (mark_at (codes ";") rest) (λ end left. Some (tree.declaration (bare its), left))
    (declarator_at known false rest >>= (λ declared. external_from known its declared.0 declared.1))

pub specified_step : (known : Known) (tokens : List SourceToken)
    → specified_at known tokens ≡ (some_specifiers_at known tokens >>= (λ its. specified_on known its.0 its.1))
unfolding specified_at specified_on external_from
specified_step known tokens = refl

pub specified_bare : (known : Known) (its : List Specified) (rest : List SourceToken) (end : Place) (left : List SourceToken)
    → mark_at (codes ";") rest ≡ Some (end, left) → specified_on known its rest ≡ Some (tree.declaration (bare its), left)
unfolding specified_on
specified_bare known its rest end left is =
    found_goes (λ end left. Some (tree.declaration (bare its), left))
    (declarator_at known false rest >>= (λ declared. external_from known its declared.0 declared.1)) end left is

pub specified_declares : (known : Known) (its : List Specified) (rest : List SourceToken) → mark_at (codes ";") rest ≡ None
    → specified_on known its rest ≡ (declarator_at known false rest >>= (λ declared. external_from known its declared.0 declared.1))
unfolding specified_on
specified_declares known its rest is =
    stays (λ end left. Some (tree.declaration (bare its), left))
    (declarator_at known false rest >>= (λ declared. external_from known its declared.0 declared.1)) is

pub external_specified : (known : Known) (tokens : List SourceToken) → is_ahead (begins_specifier known false) tokens ≡ true
    → external_at known tokens ≡ specified_at known tokens
unfolding external_at specified_at
external_specified known tokens is =
    ap (λ begins. if begins then specified_rule known (reading known) tokens
    else (declarator_at known false tokens >>= (λ declared. function_rule (reading known) [] declared.0 declared.1))) is

pub external_plain : (known : Known) (tokens : List SourceToken) → is_ahead (begins_specifier known false) tokens ≡ false
    → external_at known tokens ≡ (declarator_at known false tokens >>= (λ declared. function_at known [] declared.0 declared.1))
unfolding external_at function_at
external_plain known tokens is =
    ap (λ begins. if begins then specified_rule known (reading known) tokens
    else (declarator_at known false tokens >>= (λ declared. function_rule (reading known) [] declared.0 declared.1))) is
