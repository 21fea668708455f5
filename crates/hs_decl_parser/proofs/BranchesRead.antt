-- Statements with other statements in them are read.
--     if_all, if_else_all
--     while_all, do_all, for_all
--     compound_all                a compound statement
use Rattle.std.proofs.Common.{◌≡◌, Bool, true, false, List, [], ◌∷◌, ◌++◌, Option, Some, None, refl, ap, ◌∙◌}
use Rattle.std.specs.Prelude.{not, codes}
use Rattle.hs_base.specs.Options.{◌>>=◌}
use Rattle.hs_tokens.specs.declared.token.SourceToken.{SourceToken}
use Rattle.hs_tokens.specs.declared.token.TokenKind.TheVariants.{Identifier, Punctuator}
use Rattle.hs_syntax.specs.Forms.{Form, ◌⨾◌, when, mark, mark_at as mark_form, keyword, IsOf}
use Rattle.hs_syntax.specs.Grammar.{optional_form, test_form, statement_form, statements_form, declarations_form}
use Rattle.hs_syntax.specs.Phrases.{ends_open}
use Rattle.hs_syntax.specs.StatementViews.{OneStatement, statements_from}
use Rattle.hs_syntax.specs.Trees as tree
use Rattle.hs_syntax.specs.Trees.{Expression, Declaration, Statement, Compound, Statements}
use Rattle.hs_tokens.specs.declared.place.Place.{Place}
use Rattle.hs_expr_parser.specs.Ahead.{place_of, is_punctuator, is_keyword, is_mark_ahead, mark_at}
use Rattle.hs_expr_parser.specs.Recursion.{Read}
use Rattle.hs_expr_parser.specs.Reading.{Known, going_on}
use Rattle.hs_expr_parser.specs.Laws.Apart.{with_text, when_parts, one_token}
use Rattle.hs_expr_parser.specs.Laws.Enclosed.{headed}
use Rattle.hs_expr_parser.specs.Laws.Primaries.{mark_reads, behind}
use Rattle.hs_decl_parser.proofs.Deeper.{deeper, deeper_one}
use Rattle.hs_decl_parser.proofs.Expected.{Whole, statements_in, ReadsDeclarations, ReadsStatement, ReadsBlock, ReadsStatements}
use Rattle.hs_decl_parser.proofs.NotAhead.{end_no_expression, parens_no_expression}
use Rattle.hs_decl_parser.proofs.StatementsRead.{one_along, by_word, keyword_reads, keyword_missing}
use Rattle.hs_decl_parser.proofs.TestsRead.{test_reads, optional_then}
use Rattle.hs_decl_parser.specs.Goals as goal
use Rattle.hs_decl_parser.specs.Reading.{Shorter, block_rule, inner_rule, test_rule, optional_rule, Controls, controls_rule, if_rule, while_rule, do_rule, for_rule, declarations_rule, statement_rule, statements_rule}
use Rattle.hs_decl_parser.specs.Words.{keyword_at, is_else_ahead}
use Rattle.hs_decl_parser.specs.declared.words.StatementWord.TheVariants.{If, While, Do, For}

-- ---- branches

-- what is made of the statement after an `else`
abbrev made_if_else : Place → Expression → Statement → Statement × List SourceToken → Read Statement
made_if_else at test taken otherwise = Some (tree.if_else at test taken otherwise.0, otherwise.1)

-- what is read after the first statement, by whether an `else` is in front
abbrev if_by : Shorter → Place → Expression → Statement → List SourceToken → Read Place → Read Statement
if_by table at test taken tokens found =
    going_on found (λ word others. table goal.statement others >>= made_if_else at test taken) (Some (tree.if_ at test taken, tokens))

-- and so after what was read of it
abbrev if_then : Shorter → Place → Expression → Statement × List SourceToken → Read Statement
if_then table at test taken = if_by table at test taken.0 taken.1 (keyword_at (codes "else") taken.1)

-- what is read after the test
abbrev if_behind : Shorter → Place → Expression × List SourceToken → Read Statement
if_behind table at test = table goal.statement test.1 >>= if_then table at test.0

-- a test, and a statement with no `else` after it
if_reads : {known : Known} {table : Shorter} → Whole known table → (at it : Place) (test : Expression) (body : Statement)
    (tokens front left rest : List SourceToken) → it ≡ at → tokens ≡ front ++ left → IsOf (test_form known test) front
    → statement_rule known table left ≡ Some (body, rest) → is_else_ahead rest ≡ false → if_rule known table it tokens ≡ Some (tree.if_ at test body, rest)
if_reads {known = known} {table = table} whole at it test body tokens front left rest same whole' fits reads no_else =
    ap (if_rule known table it) whole'
    ∙ ap (λ found. found >>= if_behind table it) (test_reads known test front left fits)
    ∙ ap (λ found. found >>= if_then table it test) (whole.plain goal.statement left ∙ reads)
    ∙ ap (if_by table it test body rest) (keyword_missing (codes "else") rest no_else)
    ∙ ap (λ at. Some (tree.if_ at test body, rest)) same

-- without an `else`
pub if_all : {known : Known} {table : Shorter} → Whole known table → (at : Place) (test : Expression) (body : Statement) → ReadsStatement known table body
    → ReadsStatement known table (tree.if_ at test body)
if_all {known = known} {table = table} whole at test body reads front rest fits =
    let word = headed Identifier (codes "if") (Some at) (test_form known test ⨾ statement_form known body) front fits in
    let parts = behind (test_form known test) (statement_form known body) word.others word.fits in
    one_along (word.whole rest) (by_word known table If (tree.if_ at test body) word.source (word.others ++ rest) rest word.is (λ closed.
    if_reads whole at (place_of word.source) test body (word.others ++ rest) parts.front (parts.back ++ rest) rest word.at (parts.whole rest) parts.first
    ((reads parts.back rest parts.second).exact (λ open'. closed refl)) (closed refl)))

-- a statement that does not end open may have an `else` after it
never : (it : Bool) (rest : List SourceToken) → not it ≡ true → it ≡ true → is_else_ahead rest ≡ false
never true rest shut open' = absurd cc
never false rest shut open' = absurd cc

-- a test, and two statements
else_reads : {known : Known} {table : Shorter} → Whole known table → (at it : Place) (test : Expression) (taken otherwise : Statement) (else' : SourceToken)
    (tokens front middle last rest : List SourceToken) → it ≡ at → tokens ≡ front ++ middle → IsOf (test_form known test) front
    → statement_rule known table middle ≡ Some (taken, else' ∷ last) → else' ≡ with_text Identifier (codes "else") else'
    → statement_rule known table last ≡ Some (otherwise, rest) → if_rule known table it tokens ≡ Some (tree.if_else at test taken otherwise, rest)
else_reads {known = known} {table = table} whole at it test taken otherwise else' tokens front middle last rest same whole' fits reads is others =
    ap (if_rule known table it) whole'
    ∙ ap (λ found. found >>= if_behind table it) (test_reads known test front middle fits)
    ∙ ap (λ found. found >>= if_then table it test) (whole.plain goal.statement middle ∙ reads)
    ∙ ap (if_by table it test taken (else' ∷ last)) (keyword_reads (codes "else") else' last is)
    ∙ ap (λ found. found >>= made_if_else it test taken) (whole.plain goal.statement last ∙ others)
    ∙ ap (λ at. Some (tree.if_else at test taken otherwise, rest)) same

-- with one: the statement in front of it does not end open
pub if_else_all : {known : Known} {table : Shorter} → Whole known table → (at : Place) (test : Expression) (taken otherwise : Statement)
    → ReadsStatement known table taken → ReadsStatement known table otherwise → ReadsStatement known table (tree.if_else at test taken otherwise)
if_else_all {known = known} {table = table} whole at test taken otherwise reads others front rest fits =
    let one : Form = when (not (ends_open taken)) (statement_form known taken) in
    let two : Form = keyword (codes "else") ⨾ statement_form known otherwise in
    let word = headed Identifier (codes "if") (Some at) (test_form known test ⨾ one ⨾ two) front fits in
    let parts = behind (test_form known test) (one ⨾ two) word.others word.fits in
    let inside = behind one two parts.back parts.second in
    let shut = when_parts (not (ends_open taken)) (statement_form known taken) inside.front inside.first in
    let else' = headed Identifier (codes "else") None (statement_form known otherwise) inside.back inside.second in
    let last : List SourceToken = else'.others ++ rest in
    let middle : List SourceToken = inside.front ++ (else'.source ∷ last) in
    let same = deeper parts.front (word.others ++ rest) (parts.back ++ rest) middle (parts.whole rest)
    (deeper inside.front (parts.back ++ rest) (inside.back ++ rest) (else'.source ∷ last) (inside.whole rest) (else'.whole rest)) in
    one_along (word.whole rest) (by_word known table If (tree.if_else at test taken otherwise) word.source (word.others ++ rest) rest word.is (λ closed.
    else_reads whole at (place_of word.source) test taken otherwise else'.source (word.others ++ rest) parts.front middle last rest word.at same parts.first
    ((reads inside.front (else'.source ∷ last) shut.1).exact (never (ends_open taken) (else'.source ∷ last) shut.0)) else'.is
    ((others else'.others rest else'.fits).exact closed)))

-- ---- loops

-- what is made of the body of a loop
abbrev made_while : Place → Expression → Statement × List SourceToken → Read Statement
made_while at test body = Some (tree.while_ at test body.0, body.1)

-- what is read after its test
abbrev while_behind : Shorter → Place → Expression × List SourceToken → Read Statement
while_behind table at test = table goal.statement test.1 >>= made_while at test.0

-- a test, and a body
while_reads : {known : Known} {table : Shorter} → Whole known table → (at it : Place) (test : Expression) (body : Statement)
    (tokens front left rest : List SourceToken) → it ≡ at → tokens ≡ front ++ left → IsOf (test_form known test) front
    → statement_rule known table left ≡ Some (body, rest) → while_rule known table it tokens ≡ Some (tree.while_ at test body, rest)
while_reads {known = known} {table = table} whole at it test body tokens front left rest same whole' fits reads =
    ap (while_rule known table it) whole'
    ∙ ap (λ found. found >>= while_behind table it) (test_reads known test front left fits)
    ∙ ap (λ found. found >>= made_while it test) (whole.plain goal.statement left ∙ reads)
    ∙ ap (λ at. Some (tree.while_ at test body, rest)) same

-- with a test in front
pub while_all : {known : Known} {table : Shorter} → Whole known table → (at : Place) (test : Expression) (body : Statement) → ReadsStatement known table body
    → ReadsStatement known table (tree.while_ at test body)
while_all {known = known} {table = table} whole at test body reads front rest fits =
    let word = headed Identifier (codes "while") (Some at) (test_form known test ⨾ statement_form known body) front fits in
    let parts = behind (test_form known test) (statement_form known body) word.others word.fits in
    one_along (word.whole rest) (by_word known table While (tree.while_ at test body) word.source (word.others ++ rest) rest word.is (λ closed.
    while_reads whole at (place_of word.source) test body (word.others ++ rest) parts.front (parts.back ++ rest) rest word.at (parts.whole rest) parts.first
    ((reads parts.back rest parts.second).exact closed)))

-- what is made of the `;` of a loop
abbrev made_do : Place → Statement → Expression → Place × List SourceToken → Read Statement
made_do at body test end = Some (tree.do_ at body test, end.1)

-- what is read after its test
abbrev do_tested : Place → Statement → Expression × List SourceToken → Read Statement
do_tested at body test = mark_at (codes ";") test.1 >>= made_do at body test.0

-- after its `while`
abbrev do_then : Known → Place → Statement → Place × List SourceToken → Read Statement
do_then known at body word = test_rule known word.1 >>= do_tested at body

-- after its body
abbrev do_behind : Known → Place → Statement × List SourceToken → Read Statement
do_behind known at body = keyword_at (codes "while") body.1 >>= do_then known at body.0

-- a body, a test and a `;`
do_reads : {known : Known} {table : Shorter} → Whole known table → (at it : Place) (body : Statement) (test : Expression) (while' end : SourceToken)
    (tokens left front rest : List SourceToken) → it ≡ at → tokens ≡ left → statement_rule known table left ≡ Some (body, while' ∷ (front ++ (end ∷ rest)))
    → while' ≡ with_text Identifier (codes "while") while' → IsOf (test_form known test) front → end ≡ with_text Punctuator (codes ";") end
    → do_rule known table it tokens ≡ Some (tree.do_ at body test, rest)
do_reads {known = known} {table = table} whole at it body test while' end tokens left front rest same whole' reads is fits ends =
    ap (do_rule known table it) whole'
    ∙ ap (λ found. found >>= do_behind known it) (whole.plain goal.statement left ∙ reads)
    ∙ ap (λ found. found >>= do_then known it body) (keyword_reads (codes "while") while' (front ++ (end ∷ rest)) is)
    ∙ ap (λ found. found >>= do_tested it body) (test_reads known test front (end ∷ rest) fits)
    ∙ ap (λ found. found >>= made_do it body test) (mark_reads (codes ";") end rest ends)
    ∙ ap (λ at. Some (tree.do_ at body test, rest)) same

-- with a test after it
pub do_all : {known : Known} {table : Shorter} → Whole known table → (at : Place) (body : Statement) (test : Expression) → ReadsStatement known table body
    → ReadsStatement known table (tree.do_ at body test)
do_all {known = known} {table = table} whole at body test reads front rest fits =
    let ends : Form = test_form known test ⨾ mark (codes ";") in
    let word = headed Identifier (codes "do") (Some at) (statement_form known body ⨾ keyword (codes "while") ⨾ ends) front fits in
    let parts = behind (statement_form known body) (keyword (codes "while") ⨾ ends) word.others word.fits in
    let while' = headed Identifier (codes "while") None ends parts.back parts.second in
    let inside = behind (test_form known test) (mark (codes ";")) while'.others while'.fits in
    let end = one_token Punctuator (codes ";") None inside.back inside.second in
    let tested : List SourceToken = inside.front ++ (end.source ∷ rest) in
    let left : List SourceToken = while'.source ∷ tested in
    let same = deeper parts.front (word.others ++ rest) (parts.back ++ rest) left (parts.whole rest)
    (deeper (while'.source ∷ []) (parts.back ++ rest) (while'.others ++ rest) tested (while'.whole rest)
    (deeper_one inside.front (while'.others ++ rest) inside.back rest end.source (inside.whole rest) end.alone)) in
    one_along (word.whole rest) (by_word known table Do (tree.do_ at body test) word.source (word.others ++ rest) rest word.is (λ closed.
    do_reads whole at (place_of word.source) body test while'.source end.source (word.others ++ rest) (parts.front ++ left) inside.front rest word.at same
    ((reads parts.front left parts.first).exact (λ open'. ap (is_keyword (codes "else")) while'.is)) while'.is inside.first end.is))

-- what is made of the last of three expressions
abbrev made_controls : Option Expression → Option Expression → Option Expression × List SourceToken → Read Controls
made_controls first test step = Some (record { first = first; test = test; step = step.0 }, step.1)

-- what is read after the second
abbrev controls_then : Known → Option Expression → Option Expression × List SourceToken → Read Controls
controls_then known first test = optional_rule known (codes ")") test.1 >>= made_controls first test.0

-- after the first
abbrev controls_behind : Known → Option Expression × List SourceToken → Read Controls
controls_behind known first = optional_rule known (codes ";") first.1 >>= controls_then known first.0

-- after the `(`
abbrev controls_inside : Known → Place × List SourceToken → Read Controls
controls_inside known opening = optional_rule known (codes ";") opening.1 >>= controls_behind known

-- the three, and what follows them
record ControlsRead (known : Known) (first test step : Option Expression) (form : Form) (sources : List SourceToken) : Type 0 where
  others : List SourceToken
  reads : (rest : List SourceToken) → controls_rule known (sources ++ rest) ≡ Some (record { first = first; test = test; step = step }, others ++ rest)
  fits : IsOf form others

-- after a `(`
controls_by : (known : Known) (first test step : Option Expression) (opening : SourceToken) (tokens one two three rest : List SourceToken)
    → tokens ≡ opening ∷ one → opening ≡ with_text Punctuator (codes "(") opening → optional_rule known (codes ";") one ≡ Some (first, two)
    → optional_rule known (codes ";") two ≡ Some (test, three) → optional_rule known (codes ")") three ≡ Some (step, rest)
    → controls_rule known tokens ≡ Some (record { first = first; test = test; step = step }, rest)
controls_by known first test step opening tokens one two three rest same is reads next last =
    ap (controls_rule known) same
    ∙ ap (λ found. found >>= controls_inside known) (mark_reads (codes "(") opening one is)
    ∙ ap (λ found. found >>= controls_behind known) reads
    ∙ ap (λ found. found >>= controls_then known first) next
    ∙ ap (λ found. found >>= made_controls first test) last

-- if their tokens stand in front
controls_read : (known : Known) (first test step : Option Expression) (form : Form) (sources : List SourceToken)
    → IsOf (mark (codes "(") ⨾ optional_form known first ⨾ mark (codes ";") ⨾ optional_form known test ⨾ mark (codes ";")
    ⨾ optional_form known step ⨾ mark (codes ")") ⨾ form) sources → ControlsRead known first test step form sources
controls_read known first test step form sources fits =
    let three : Form = optional_form known step ⨾ mark (codes ")") ⨾ form in
    let two : Form = optional_form known test ⨾ mark (codes ";") ⨾ three in
    let opening = headed Punctuator (codes "(") None (optional_form known first ⨾ mark (codes ";") ⨾ two) sources fits in
    let one = optional_then known (codes ";") first two opening.others (λ source. refl) (end_no_expression known) opening.fits in
    let next = optional_then known (codes ";") test three one.others (λ source. refl) (end_no_expression known) one.fits in
    let last = optional_then known (codes ")") step form next.others (λ source. refl) (parens_no_expression known) next.fits in
    record {
      others = last.others;
      reads = λ rest.
          controls_by known first test step opening.source (sources ++ rest) (opening.others ++ rest) (one.others ++ rest) (next.others ++ rest)
          (last.others ++ rest) (opening.whole rest) opening.is (one.reads rest) (next.reads rest) (last.reads rest);
      fits = last.fits;
    }

-- what is made of the body
abbrev made_for : Place → Controls → Statement × List SourceToken → Read Statement
made_for at controls body = Some (tree.for_ at controls.first controls.test controls.step body.0, body.1)

-- what is read after the `)`
abbrev for_behind : Shorter → Place → Controls × List SourceToken → Read Statement
for_behind table at controls = table goal.statement controls.1 >>= made_for at controls.0

-- three expressions, and a body
for_reads : {known : Known} {table : Shorter} → Whole known table → (at it : Place) (first test step : Option Expression) (body : Statement)
    (tokens left rest : List SourceToken) → it ≡ at → controls_rule known tokens ≡ Some (record { first = first; test = test; step = step }, left)
    → statement_rule known table left ≡ Some (body, rest) → for_rule known table it tokens ≡ Some (tree.for_ at first test step body, rest)
for_reads {known = known} {table = table} whole at it first test step body tokens left rest same controls reads =
    let all : Controls = record { first = first; test = test; step = step } in
    ap (λ found. found >>= for_behind table it) controls
    ∙ ap (λ found. found >>= made_for it all) (whole.plain goal.statement left ∙ reads)
    ∙ ap (λ at. Some (tree.for_ at first test step body, rest)) same

-- with three expressions
pub for_all : {known : Known} {table : Shorter} → Whole known table → (at : Place) (first test step : Option Expression) (body : Statement)
    → ReadsStatement known table body → ReadsStatement known table (tree.for_ at first test step body)
for_all {known = known} {table = table} whole at first test step body reads front rest fits =
    let word = headed Identifier (codes "for") (Some at)
    (mark (codes "(") ⨾ optional_form known first ⨾ mark (codes ";") ⨾ optional_form known test ⨾ mark (codes ";")
    ⨾ optional_form known step ⨾ mark (codes ")") ⨾ statement_form known body) front fits in
    let controls = controls_read known first test step (statement_form known body) word.others word.fits in
    one_along (word.whole rest) (by_word known table For (tree.for_ at first test step body) word.source (word.others ++ rest) rest word.is (λ closed.
    for_reads whole at (place_of word.source) first test step body (word.others ++ rest) (controls.others ++ rest) rest word.at (controls.reads rest)
    ((reads controls.others rest controls.fits).exact closed)))

-- ---- compound statements

-- a list of statements is what its entries make
statements_again : (its : Statements) → statements_from (statements_in its) ≡ its
statements_again tree.no_statements = refl
statements_again (tree.more_statements labels it rest) = ap (tree.more_statements labels it) (statements_again rest)

-- what is made of the `}`
abbrev made_compound : Place → List Declaration → List OneStatement → Place × List SourceToken → Read Compound
made_compound at declarations statements close = Some (tree.compound at declarations (statements_from statements) close.0, close.1)

-- what is read after the statements
abbrev compound_then : Place → List Declaration → List OneStatement × List SourceToken → Read Compound
compound_then at declarations statements = mark_at (codes "}") statements.1 >>= made_compound at declarations statements.0

-- after the declarations
abbrev compound_behind : Shorter → Place → List Declaration × List SourceToken → Read Compound
compound_behind table at declarations = table (goal.statements []) declarations.1 >>= compound_then at declarations.0

-- after the `{`
abbrev compound_inside : Shorter → Place × List SourceToken → Read Compound
compound_inside table opening = inner_rule table opening.0 opening.1

-- after a `{`
compound_reads : {known : Known} {table : Shorter} → Whole known table → (at closing : Place) (declarations : List Declaration) (its : Statements)
    (brace close : SourceToken) (tokens inside left rest : List SourceToken) → place_of brace ≡ at → place_of close ≡ closing → tokens ≡ brace ∷ inside
    → brace ≡ with_text Punctuator (codes "{") brace → declarations_rule known table [] inside ≡ Some (declarations, left)
    → statements_rule known table [] left ≡ Some (statements_in its, close ∷ rest) → close ≡ with_text Punctuator (codes "}") close
    → block_rule table tokens ≡ Some (tree.compound at declarations its closing, rest)
compound_reads {known = known} {table = table} whole at closing declarations its brace close tokens inside left rest at' closing' same is reads others closed =
    let it = place_of brace in
    ap (block_rule table) same
    ∙ ap (λ found. found >>= compound_inside table) (mark_reads (codes "{") brace inside is)
    ∙ ap (λ found. found >>= compound_behind table it) (whole.plain (goal.declarations []) inside ∙ reads)
    ∙ ap (λ found. found >>= compound_then it declarations) (whole.plain (goal.statements []) left ∙ others)
    ∙ ap (λ found. found >>= made_compound it declarations (statements_in its)) (mark_reads (codes "}") close rest closed)
    ∙ (λ i. Some (tree.compound (at' i) declarations (statements_again its i) (closing' i), rest))

-- a `{` is in front
brace_ahead : (source : SourceToken) (tokens others : List SourceToken) → tokens ≡ source ∷ others → source ≡ with_text Punctuator (codes "{") source
    → is_mark_ahead (codes "{") tokens ≡ true
brace_ahead source tokens others same is = ap (is_mark_ahead (codes "{")) same ∙ ap (is_punctuator (codes "{")) is

-- declarations and statements in braces
pub compound_all : {known : Known} {table : Shorter} → Whole known table → (at : Place) (declarations : List Declaration) (its : Statements) (closing : Place)
    → ReadsDeclarations known table declarations → ReadsStatements known table its → ReadsBlock known table (tree.compound at declarations its closing)
compound_all {known = known} {table = table} whole at declarations its closing reads others front rest fits =
    let one : Form = declarations_form known declarations in
    let two : Form = statements_form known its ⨾ mark_form closing (codes "}") in
    let brace = headed Punctuator (codes "{") (Some at) (one ⨾ two) front fits in
    let parts = behind one two brace.others brace.fits in
    let inside = behind (statements_form known its) (mark_form closing (codes "}")) parts.back parts.second in
    let close = one_token Punctuator (codes "}") (Some closing) inside.back inside.second in
    let left : List SourceToken = inside.front ++ (close.source ∷ rest) in
    let tokens : List SourceToken = parts.front ++ left in
    let same = deeper (brace.source ∷ []) (front ++ rest) (brace.others ++ rest) tokens (brace.whole rest)
    (deeper parts.front (brace.others ++ rest) (parts.back ++ rest) left (parts.whole rest)
    (deeper_one inside.front (parts.back ++ rest) inside.back rest close.source (inside.whole rest) close.alone)) in
    let more = others [] inside.front (close.source ∷ rest) inside.first (ap (is_punctuator (codes "}")) close.is) in (
      compound_reads whole at closing declarations its brace.source close.source (front ++ rest) tokens left rest brace.at close.at same brace.is
          (reads [] parts.front left parts.first more.1) more.0 close.is,
      brace_ahead brace.source (front ++ rest) (brace.others ++ rest) (brace.whole rest) brace.is,
    )
