-- Statements are read: those that have no other statement in them, and a block.
--     one_along, by_word                               what is read of the same tokens; after a word
--     keyword_reads, keyword_missing                   a keyword in front, or none
--     block_all, expression_all, empty_all
--     switch_all, break_all, continue_all, return_all
use Rattle.std.proofs.Common.{◌≡◌, ℕ, true, false, List, [], ◌∷◌, ◌++◌, Option, Some, None, refl, ap, sym, ◌∙◌}
use Rattle.std.specs.Prelude.{codes}
use Rattle.std.specs.Str.{bytes_eq}
use Rattle.std.proofs.lemmas.Slice.Eq.{bytes_eq-Decides}
use Rattle.hs_base.specs.Options.{◌>>=◌}
use Rattle.hs_tokens.specs.declared.token.SourceToken.{SourceToken}
use Rattle.hs_tokens.specs.declared.token.TokenKind.TheVariants.{Identifier, Punctuator}
use Rattle.hs_syntax.specs.Forms.{◌⨾◌, mark, IsOf}
use Rattle.hs_syntax.specs.Grammar.{expression_form, optional_form, test_form, block_form}
use Rattle.hs_syntax.specs.Phrases.{ends_open}
use Rattle.hs_syntax.specs.Trees as tree
use Rattle.hs_syntax.specs.Trees.{Expression, Statement, Compound}
use Rattle.hs_tokens.specs.declared.place.Place.{Place}
use Rattle.hs_expr_parser.specs.Ahead.{place_of, is_punctuator, is_keyword, is_ahead, is_mark_ahead, mark_at, begins_specifier, is_below, joins}
use Rattle.hs_expr_parser.specs.Recursion.{Read}
use Rattle.hs_expr_parser.specs.Reading.{Known}
use Rattle.hs_expr_parser.specs.Steps.{expression_at}
use Rattle.hs_expr_parser.specs.Laws.Apart.{with_text, token_is, one_token}
use Rattle.hs_expr_parser.specs.Laws.Enclosed.{headed}
use Rattle.hs_expr_parser.specs.Laws.Phrases.{expression_reads}
use Rattle.hs_expr_parser.specs.Laws.Primaries.{closes, mark_reads, behind}
use Rattle.hs_decl_parser.proofs.Deeper.{deeper_one}
use Rattle.hs_decl_parser.proofs.Expected.{Whole, Starts, ReadsOne, ReadsStatement, ReadsBlock}
use Rattle.hs_decl_parser.proofs.NotAhead.{not_ahead, brace_no_expression, end_no_expression, no_statement_word, expression_starts_one, mark_starts, word_starts}
use Rattle.hs_decl_parser.proofs.TestsRead.{test_reads, optional_reads}
use Rattle.hs_decl_parser.specs.Reading.{Shorter, block_rule, test_rule, optional_rule, statement_by, statement_rule}
use Rattle.hs_decl_parser.specs.Words.{statement_text, statement_word_of, keyword_at, is_else_ahead, begins_label}
use Rattle.hs_decl_parser.specs.declared.words.StatementWord.{StatementWord}
use Rattle.hs_decl_parser.specs.declared.words.StatementWord.TheVariants.{If, While, Do, For, Switch, Break, Continue, Return}

-- ---- the same tokens, and words in front

-- the same tokens begin a statement
pub starts_along : {known : Known} {tokens others : List SourceToken} → tokens ≡ others → Starts known others → Starts known tokens
starts_along {known = known} same starts = record {
  undeclared = ap (is_ahead (begins_specifier known false)) same ∙ starts.undeclared;
  unlabelled = ap (is_ahead begins_label) same ∙ starts.unlabelled;
  no_else = ap is_else_ahead same ∙ starts.no_else;
  inside = ap (is_mark_ahead (codes "}")) same ∙ starts.inside;
}

-- and are read as it
pub one_along : {known : Known} {table : Shorter} {it : Statement} {tokens others rest : List SourceToken} → tokens ≡ others
    → ReadsOne known table it others rest → ReadsOne known table it tokens rest
one_along {known = known} {table = table} same one = record {
  starts = starts_along same one.starts;
  exact = λ closed. ap (statement_rule known table) same ∙ one.exact closed;
}

-- the word of a statement
word_found : (word : StatementWord) (source : SourceToken) → statement_word_of (with_text Identifier (statement_text word) source) ≡ Some word
word_found If source = refl
word_found While source = refl
word_found Do source = refl
word_found For source = refl
word_found Switch source = refl
word_found Break source = refl
word_found Continue source = refl
word_found Return source = refl

-- a statement after its word
pub by_word : (known : Known) (table : Shorter) (word : StatementWord) (it : Statement) (source : SourceToken) (others rest : List SourceToken)
    → source ≡ with_text Identifier (statement_text word) source
    → ((ends_open it ≡ true → is_else_ahead rest ≡ false) → statement_by known table (Some word) source others ≡ Some (it, rest))
    → ReadsOne known table it (source ∷ others) rest
by_word known table word it source others rest is reads = record {
  starts = word_starts known word source others is;
  exact = λ closed. ap (λ found. statement_by known table found source others) (ap statement_word_of is ∙ word_found word source) ∙ reads closed;
}

-- a keyword in front
pub keyword_reads : (text : List ℕ) (source : SourceToken) (rest : List SourceToken) → source ≡ with_text Identifier text source
    → keyword_at text (source ∷ rest) ≡ Some (place_of source, rest)
keyword_reads text source rest is =
    let same : bytes_eq text text ≡ true = (bytes_eq-Decides text text).1 refl in
    ap (λ (it : SourceToken). keyword_at text (it ∷ rest)) is ∙ rw same refl

-- one that is not in front is not read
pub keyword_missing : (text : List ℕ) (tokens : List SourceToken) → is_ahead (is_keyword text) tokens ≡ false → keyword_at text tokens ≡ None
keyword_missing text [] is = refl
keyword_missing text (source ∷ rest) is = rw is refl

-- ---- statements without a word

-- what is made of a compound statement
abbrev made_block : Compound × List SourceToken → Read Statement
made_block it = Some (tree.block it.0, it.1)

-- a compound statement
pub block_all : {known : Known} {table : Shorter} → Whole known table → (it : Compound) → ReadsBlock known table it → ReadsStatement known table (tree.block it)
block_all {known = known} {table = table} whole it reads front rest fits = by_block (front ++ rest) (reads front rest fits)
  where
    by_block : (tokens : List SourceToken) → (block_rule table tokens ≡ Some (it, rest)) × (is_mark_ahead (codes "{") tokens ≡ true)
        → ReadsOne known table (tree.block it) tokens rest
    by_block [] read = absurd (empty read.1)
      where
        empty : false ≡ true → ⊥
        empty is = cc
    by_block (source ∷ others) read =
        let is = token_is Punctuator (codes "{") source read.1 in
        record {
          starts = mark_starts known (codes "{") source others is refl;
          exact = λ closed.
              ap (λ (first : SourceToken). statement_rule known table (first ∷ others)) is
              ∙ ap (λ found. found >>= made_block) (ap (λ (first : SourceToken). block_rule table (first ∷ others)) (sym is) ∙ read.0);
        }

-- nothing is no expression
nothing_read : (known : Known) → expression_at known [] ≡ None
unfolding expression_at
nothing_read known = refl

-- an expression and a `;`
expression_by : (known : Known) (table : Shorter) (e : Expression) (end : SourceToken) (tokens rest : List SourceToken)
    → end ≡ with_text Punctuator (codes ";") end → expression_at known tokens ≡ Some (e, end ∷ rest)
    → statement_rule known table tokens ≡ Some (tree.expression e, rest)
expression_by known table e end [] rest is reads =
    let nothing : Read Expression = None in
    let wrong : nothing ≡ Some (e, end ∷ rest) = sym (nothing_read known) ∙ reads in
    absurd cc
expression_by known table e end (source ∷ others) rest is reads =
    let brace : is_punctuator (codes "{") source ≡ false =
    not_ahead (expression_at known) Punctuator (codes "{") e (source ∷ others) (end ∷ rest) (brace_no_expression known) reads in
    let mark : is_punctuator (codes ";") source ≡ false =
    not_ahead (expression_at known) Punctuator (codes ";") e (source ∷ others) (end ∷ rest) (end_no_expression known) reads in
    ap (λ found. statement_by known table found source others) (no_statement_word known e source others (end ∷ rest) reads (statement_word_of source) refl)
    ∙ rw brace (rw mark (closes (expression_at known (source ∷ others)) e (codes ";") end rest tree.expression reads is))

-- an expression
pub expression_all : {known : Known} {table : Shorter} → Whole known table → (e : Expression) → ReadsStatement known table (tree.expression e)
expression_all {known = known} {table = table} whole e front rest fits =
    let parts = behind (expression_form known e) (mark (codes ";")) front fits in
    let end = one_token Punctuator (codes ";") None parts.back parts.second in
    let same = deeper_one parts.front (front ++ rest) parts.back rest end.source (parts.whole rest) end.alone in
    let stopped = ap (λ it. is_below 0 (joins it)) end.is in
    one_along same (record {
      starts = expression_starts_one known e parts.front (end.source ∷ rest) parts.first stopped;
      exact = λ closed.
          expression_by known table e end.source (parts.front ++ (end.source ∷ rest)) rest end.is
          (expression_reads known e parts.front (end.source ∷ rest) parts.first stopped);
    })

-- a `;` alone
pub empty_all : {known : Known} {table : Shorter} → Whole known table → (at : Place) → ReadsStatement known table (tree.empty at)
empty_all {known = known} {table = table} whole at front rest fits =
    let one = one_token Punctuator (codes ";") (Some at) front fits in
    one_along (ap (λ its. its ++ rest) one.alone) (record {
      starts = mark_starts known (codes ";") one.source rest one.is refl;
      exact = λ closed.
          ap (λ (first : SourceToken). statement_rule known table (first ∷ rest)) one.is ∙ (λ i. Some (tree.empty (one.at i), rest));
    })

-- ---- statements of a word and few parts

-- what is made of the block of a switch
abbrev made_switch : Place → Expression → Compound × List SourceToken → Read Statement
made_switch at value body = Some (tree.switch_ at value body.0, body.1)

-- what is read after the value of a switch
abbrev switch_behind : Shorter → Place → Expression × List SourceToken → Read Statement
switch_behind table at value = block_rule table value.1 >>= made_switch at value.0

-- a switch
pub switch_all : {known : Known} {table : Shorter} → Whole known table → (at : Place) (e : Expression) (it : Compound) → ReadsBlock known table it
    → ReadsStatement known table (tree.switch_ at e it)
switch_all {known = known} {table = table} whole at e it reads front rest fits =
    let word = headed Identifier (codes "switch") (Some at) (test_form known e ⨾ block_form known it) front fits in
    let parts = behind (test_form known e) (block_form known it) word.others word.fits in
    let left : List SourceToken = parts.back ++ rest in
    one_along (word.whole rest) (by_word known table Switch (tree.switch_ at e it) word.source (word.others ++ rest) rest word.is (λ closed.
    ap (λ tokens. test_rule known tokens >>= switch_behind table (place_of word.source)) (parts.whole rest)
    ∙ ap (λ found. found >>= switch_behind table (place_of word.source)) (test_reads known e parts.front left parts.first)
    ∙ ap (λ found. found >>= made_switch (place_of word.source) e) (reads parts.back rest parts.second).0
    ∙ (λ i. Some (tree.switch_ (word.at i) e it, rest))))

-- what is made of a `;`
abbrev made_ended : Statement → Place × List SourceToken → Read Statement
made_ended it end = Some (it, end.1)

-- a `;` after a word
end_reads : (it : Statement) (front rest : List SourceToken) → IsOf (mark (codes ";")) front
    → (mark_at (codes ";") (front ++ rest) >>= made_ended it) ≡ Some (it, rest)
end_reads it front rest fits =
    let end = one_token Punctuator (codes ";") None front fits in
    ap (λ its. mark_at (codes ";") (its ++ rest) >>= made_ended it) end.alone
    ∙ ap (λ found. found >>= made_ended it) (mark_reads (codes ";") end.source rest end.is)

-- a break
pub break_all : {known : Known} {table : Shorter} → Whole known table → (at : Place) → ReadsStatement known table (tree.break_ at)
break_all {known = known} {table = table} whole at front rest fits =
    let word = headed Identifier (codes "break") (Some at) (mark (codes ";")) front fits in
    one_along (word.whole rest) (by_word known table Break (tree.break_ at) word.source (word.others ++ rest) rest word.is (λ closed.
    end_reads (tree.break_ (place_of word.source)) word.others rest word.fits ∙ (λ i. Some (tree.break_ (word.at i), rest))))

-- a continue
pub continue_all : {known : Known} {table : Shorter} → Whole known table → (at : Place) → ReadsStatement known table (tree.continue_ at)
continue_all {known = known} {table = table} whole at front rest fits =
    let word = headed Identifier (codes "continue") (Some at) (mark (codes ";")) front fits in
    one_along (word.whole rest) (by_word known table Continue (tree.continue_ at) word.source (word.others ++ rest) rest word.is (λ closed.
    end_reads (tree.continue_ (place_of word.source)) word.others rest word.fits ∙ (λ i. Some (tree.continue_ (word.at i), rest))))

-- what is made of what is returned
abbrev made_return : Place → Option Expression × List SourceToken → Read Statement
made_return at value = Some (tree.return_ at value.0, value.1)

-- a return
pub return_all : {known : Known} {table : Shorter} → Whole known table → (at : Place) (e : Option Expression) → ReadsStatement known table (tree.return_ at e)
return_all {known = known} {table = table} whole at e front rest fits =
    let word = headed Identifier (codes "return") (Some at) (optional_form known e ⨾ mark (codes ";")) front fits in
    let parts = behind (optional_form known e) (mark (codes ";")) word.others word.fits in
    let end = one_token Punctuator (codes ";") None parts.back parts.second in
    one_along (word.whole rest) (by_word known table Return (tree.return_ at e) word.source (word.others ++ rest) rest word.is (λ closed.
    ap (λ tokens. optional_rule known (codes ";") tokens >>= made_return (place_of word.source))
    (deeper_one parts.front (word.others ++ rest) parts.back rest end.source (parts.whole rest) end.alone)
    ∙ ap (λ found. found >>= made_return (place_of word.source))
    (optional_reads known (codes ";") e parts.front end.source rest (λ source. refl) (end_no_expression known) parts.first end.is)
    ∙ (λ i. Some (tree.return_ (word.at i) e, rest))))
