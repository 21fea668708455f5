-- Labels, and lists of statements with their labels, are read.
--     no_labels_all, case_label_all, default_label_all
--     no_statements_all, more_statements_all
use Rattle.std.proofs.Common.{◌≡◌, true, false, List, [], ◌∷◌, ◌++◌, Some, None, refl, ap, sym, ◌∙◌, append_assoc}
use Rattle.std.specs.Prelude.{codes}
use Rattle.std.proofs.lemmas.List.{append-nil}
use Rattle.hs_base.specs.Options.{◌>>=◌}
use Rattle.hs_tokens.specs.declared.token.SourceToken.{SourceToken}
use Rattle.hs_tokens.specs.declared.token.TokenKind.TheVariants.{Identifier, Punctuator}
use Rattle.hs_syntax.specs.Forms.{Form, ◌⨾◌, mark, IsOf}
use Rattle.hs_syntax.specs.Grammar.{expression_form, labels_form, statement_form, statements_form}
use Rattle.hs_syntax.specs.Phrases.{as_conditional}
use Rattle.hs_syntax.specs.StatementViews.{OneStatement, one_statement}
use Rattle.hs_syntax.specs.Trees as tree
use Rattle.hs_syntax.specs.Trees.{Expression, Labelling, Statement, Statements}
use Rattle.hs_tokens.specs.declared.place.Place.{Place}
use Rattle.hs_expr_parser.specs.Ahead.{place_of, is_keyword, is_ahead, is_mark_ahead, mark_at, begins_specifier, is_below, joins}
use Rattle.hs_expr_parser.specs.Recursion.{Read}
use Rattle.hs_expr_parser.specs.Reading.{Known}
use Rattle.hs_expr_parser.specs.Steps.{conditional_at}
use Rattle.hs_expr_parser.specs.Laws.Apart.{with_text, token_is}
use Rattle.hs_expr_parser.specs.Laws.Enclosed.{headed}
use Rattle.hs_expr_parser.specs.Laws.FirstTokens.{mark_no_specifier}
use Rattle.hs_expr_parser.specs.Laws.Phrases.{conditional_reads}
use Rattle.hs_expr_parser.specs.Laws.Primaries.{closing, closes, mark_reads, behind}
use Rattle.hs_decl_parser.proofs.Deeper.{deeper}
use Rattle.hs_decl_parser.proofs.Expected.{Whole, statements_in, ReadsLabels, ReadsStatement, ReadsStatements}
use Rattle.hs_decl_parser.proofs.NotAhead.{Unclosed, case_unclosed, default_unclosed}
use Rattle.hs_decl_parser.specs.Goals as goal
use Rattle.hs_decl_parser.specs.Reading.{Shorter, label_rule, labels_rule, statements_rule, statement_rule}
use Rattle.hs_decl_parser.specs.Words.{is_else_ahead, begins_label}

-- ---- labels

-- what is read after one more
abbrev labels_on : Shorter → List Labelling → Labelling × List SourceToken → Read (List Labelling)
labels_on table earlier it = table (goal.labels (earlier ++ it.0 ∷ [])) it.1

-- none
pub no_labels_all : (known : Known) (table : Shorter) → ReadsLabels known table []
no_labels_all known table earlier (source ∷ front) rest fits none = absurd fits.1
no_labels_all known table earlier [] rest fits none = stop rest none
  where
    stop : (tokens : List SourceToken) → is_ahead begins_label tokens ≡ false → labels_rule known table earlier tokens ≡ Some (earlier ++ [], tokens)
    stop [] none = ap (λ its. Some (its, [])) (sym (append-nil earlier))
    stop (source ∷ others) none = rw none (ap (λ its. Some (its, source ∷ others)) (sym (append-nil earlier)))

-- one more label, and others after it
one_label : {known : Known} {table : Shorter} → Whole known table → (it : Labelling) (its earlier : List Labelling) (source : SourceToken)
    (others back rest : List SourceToken) → ReadsLabels known table its → begins_label source ≡ true
    → label_rule known source others ≡ Some (it, back ++ rest) → IsOf (labels_form known its) back → is_ahead begins_label rest ≡ false
    → labels_rule known table earlier (source ∷ others) ≡ Some (earlier ++ it ∷ its, rest)
one_label {known = known} {table = table} whole it its earlier source others back rest more begins reads fits none =
    rw begins (ap (λ found. found >>= labels_on table earlier) reads
    ∙ whole.plain (goal.labels (earlier ++ it ∷ [])) (back ++ rest)
    ∙ more (earlier ++ it ∷ []) back rest fits none
    ∙ ap (λ all. Some (all, rest)) (append_assoc earlier (it ∷ []) its))

-- what is read after a `case`
abbrev case_behind : Known → Place → List SourceToken → Read Labelling
case_behind known at rest = conditional_at known rest >>= closing (tree.case_ at) (codes ":")

-- a case
case_reads : (known : Known) (at : Place) (e : Expression) (source colon : SourceToken) (others tokens left : List SourceToken) → place_of source ≡ at
    → source ≡ with_text Identifier (codes "case") source → others ≡ tokens → conditional_at known tokens ≡ Some (e, colon ∷ left)
    → colon ≡ with_text Punctuator (codes ":") colon → label_rule known source others ≡ Some (tree.case_ at e, left)
case_reads known at e source colon others tokens left at' is same reads colon_is =
    ap (λ it. label_rule known it others) is ∙ ap (case_behind known (place_of source)) same
    ∙ closes (conditional_at known tokens) e (codes ":") colon left (tree.case_ (place_of source)) reads colon_is
    ∙ (λ i. Some (tree.case_ (at' i) e, left))

-- a case in front
pub case_label_all : {known : Known} {table : Shorter} → Whole known table → (at : Place) (e : Expression) (rest : List Labelling)
    → ReadsLabels known table rest → ReadsLabels known table (tree.case_ at e ∷ rest)
case_label_all {known = known} {table = table} whole at e its more earlier front rest fits none =
    let form : Form = as_conditional e (expression_form known e) in
    let word = headed Identifier (codes "case") (Some at) (form ⨾ mark (codes ":") ⨾ labels_form known its) front fits in
    let parts = behind form (mark (codes ":") ⨾ labels_form known its) word.others word.fits in
    let colon = headed Punctuator (codes ":") None (labels_form known its) parts.back parts.second in
    let left : List SourceToken = colon.others ++ rest in
    let same = deeper parts.front (word.others ++ rest) (parts.back ++ rest) (colon.source ∷ left) (parts.whole rest) (colon.whole rest) in
    let value = conditional_reads known e parts.front (colon.source ∷ left) parts.first (ap (λ it. is_below 2 (joins it)) colon.is) in
    ap (labels_rule known table earlier) (word.whole rest)
    ∙ one_label whole (tree.case_ at e) its earlier word.source (word.others ++ rest) colon.others rest more (ap begins_label word.is)
    (case_reads known at e word.source colon.source (word.others ++ rest) (parts.front ++ (colon.source ∷ left)) left word.at word.is same value colon.is)
    colon.fits none

-- what is made of a `default` and a `:`
abbrev made_default : Place → Place × List SourceToken → Read Labelling
made_default at colon = Some (tree.default_ at, colon.1)

-- a default
default_reads : (known : Known) (at : Place) (source colon : SourceToken) (others left : List SourceToken) → place_of source ≡ at
    → source ≡ with_text Identifier (codes "default") source → others ≡ colon ∷ left → colon ≡ with_text Punctuator (codes ":") colon
    → label_rule known source others ≡ Some (tree.default_ at, left)
default_reads known at source colon others left at' is same colon_is =
    ap (λ it. label_rule known it others) is
    ∙ ap (λ tokens. mark_at (codes ":") tokens >>= made_default (place_of source)) same
    ∙ ap (λ found. found >>= made_default (place_of source)) (mark_reads (codes ":") colon left colon_is)
    ∙ (λ i. Some (tree.default_ (at' i), left))

-- a default in front
pub default_label_all : {known : Known} {table : Shorter} → Whole known table → (at : Place) (rest : List Labelling) → ReadsLabels known table rest
    → ReadsLabels known table (tree.default_ at ∷ rest)
default_label_all {known = known} {table = table} whole at its more earlier front rest fits none =
    let word = headed Identifier (codes "default") (Some at) (mark (codes ":") ⨾ labels_form known its) front fits in
    let colon = headed Punctuator (codes ":") None (labels_form known its) word.others word.fits in
    ap (labels_rule known table earlier) (word.whole rest)
    ∙ one_label whole (tree.default_ at) its earlier word.source (word.others ++ rest) colon.others rest more (ap begins_label word.is)
    (default_reads known at word.source colon.source (word.others ++ rest) (colon.others ++ rest) word.at word.is (colon.whole rest) colon.is) colon.fits none

-- the same of the same tokens
unclosed_along : (known : Known) (tokens others : List SourceToken) → tokens ≡ others → Unclosed known others → Unclosed known tokens
unclosed_along known tokens others same unclosed = record {
  undeclared = ap (is_ahead (begins_specifier known false)) same ∙ unclosed.undeclared;
  no_else = ap is_else_ahead same ∙ unclosed.no_else;
  inside = ap (is_mark_ahead (codes "}")) same ∙ unclosed.inside;
}

-- with labels in front too, no declaration, no `else` and no `}` stands there
labels_unclosed : (known : Known) (its : List Labelling) (front rest : List SourceToken) → IsOf (labels_form known its) front → Unclosed known rest
    → Unclosed known (front ++ rest)
labels_unclosed known [] [] rest fits unclosed = unclosed
labels_unclosed known [] (source ∷ front) rest fits unclosed = absurd fits.1
labels_unclosed known (tree.case_ at e ∷ its) front rest fits unclosed =
    let word = headed Identifier (codes "case") (Some at) (as_conditional e (expression_form known e) ⨾ mark (codes ":") ⨾ labels_form known its) front fits in
    unclosed_along known (front ++ rest) (word.source ∷ (word.others ++ rest)) (word.whole rest)
    (case_unclosed known word.source (word.others ++ rest) word.is)
labels_unclosed known (tree.default_ at ∷ its) front rest fits unclosed =
    let word = headed Identifier (codes "default") (Some at) (mark (codes ":") ⨾ labels_form known its) front fits in
    unclosed_along known (front ++ rest) (word.source ∷ (word.others ++ rest)) (word.whole rest)
    (default_unclosed known word.source (word.others ++ rest) word.is)

-- ---- statements with their labels

-- what is read after one more
abbrev statements_on : Shorter → List OneStatement → OneStatement × List SourceToken → Read (List OneStatement)
statements_on table earlier it = table (goal.statements (earlier ++ it.0 ∷ [])) it.1

-- what is made of a statement after its labels
abbrev made_labelled : List Labelling → Statement × List SourceToken → Read OneStatement
made_labelled labels it = Some (one_statement labels it.0, it.1)

-- what is read after labels
abbrev labelled_behind : Known → Shorter → List Labelling × List SourceToken → Read OneStatement
labelled_behind known table labels = statement_rule known table labels.1 >>= made_labelled labels.0

-- none
pub no_statements_all : (known : Known) (table : Shorter) → ReadsStatements known table tree.no_statements
no_statements_all known table earlier (source ∷ front) rest fits ends = absurd fits.1
no_statements_all known table earlier [] rest fits ends = (
  rw ends (ap (λ its. Some (its, rest)) (sym (append-nil earlier))),
  mark_no_specifier known false (codes "}") rest ends,
  no_else rest ends,
)
  where
    no_else : (tokens : List SourceToken) → is_mark_ahead (codes "}") tokens ≡ true → is_else_ahead tokens ≡ false
    no_else [] is = refl
    no_else (source ∷ others) is = ap (is_keyword (codes "else")) (token_is Punctuator (codes "}") source is)

-- one more with its labels
statements_by : {known : Known} {table : Shorter} → Whole known table → (labels : List Labelling) (it : Statement) (its earlier : List OneStatement)
    (whole' tokens middle left rest : List SourceToken) → whole' ≡ tokens → is_mark_ahead (codes "}") tokens ≡ false
    → labels_rule known table [] tokens ≡ Some (labels, middle) → statement_rule known table middle ≡ Some (it, left)
    → statements_rule known table (earlier ++ one_statement labels it ∷ []) left ≡ Some ((earlier ++ one_statement labels it ∷ []) ++ its, rest)
    → statements_rule known table earlier whole' ≡ Some (earlier ++ one_statement labels it ∷ its, rest)
statements_by {known = known} {table = table} whole labels it its earlier whole' tokens middle left rest same inside labelled reads others =
    ap (statements_rule known table earlier) same
    ∙ rw inside (ap (λ found. (found >>= labelled_behind known table) >>= statements_on table earlier) labelled
    ∙ ap (λ found. (found >>= made_labelled labels) >>= statements_on table earlier) reads
    ∙ whole.plain (goal.statements (earlier ++ one_statement labels it ∷ [])) left ∙ others
    ∙ ap (λ all. Some (all, rest)) (append_assoc earlier (one_statement labels it ∷ []) its))

-- one more in front
pub more_statements_all : {known : Known} {table : Shorter} → Whole known table → (labels : List Labelling) (it : Statement) (rest : Statements)
    → ReadsLabels known table labels → ReadsStatement known table it → ReadsStatements known table rest
    → ReadsStatements known table (tree.more_statements labels it rest)
more_statements_all {known = known} {table = table} whole labels it its labelled reads others earlier front rest fits ends =
    let parts = behind (labels_form known labels) (statement_form known it ⨾ statements_form known its) front fits in
    let inside = behind (statement_form known it) (statements_form known its) parts.back parts.second in
    let left : List SourceToken = inside.back ++ rest in
    let tokens : List SourceToken = inside.front ++ left in
    let same = deeper parts.front (front ++ rest) (parts.back ++ rest) tokens (parts.whole rest) (inside.whole rest) in
    let one = reads inside.front left inside.first in
    let more = others (earlier ++ one_statement labels it ∷ []) inside.back rest inside.second ends in
    let unclosed = labels_unclosed known labels parts.front tokens parts.first
    (record { undeclared = one.starts.undeclared; no_else = one.starts.no_else; inside = one.starts.inside }) in
    let all = unclosed_along known (front ++ rest) (parts.front ++ tokens) same unclosed in (
      statements_by whole labels it (statements_in its) earlier (front ++ rest) (parts.front ++ tokens) tokens left rest same unclosed.inside
          (labelled [] parts.front tokens parts.first one.starts.unlabelled) (one.exact (λ open'. more.2)) more.0,
      all.undeclared,
      all.no_else,
    )
