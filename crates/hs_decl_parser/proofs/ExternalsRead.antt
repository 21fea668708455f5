-- External declarations are read.
--     plain_function_all, function_all             a function, without specifiers and with them
--     external_bare_all, external_declared_all     a declaration, without declarators and with them
use Rattle.std.proofs.Common.{◌≡◌, true, false, List, [], ◌∷◌, ◌++◌, Some, refl, ap, ◌∙◌}
use Rattle.std.specs.Prelude.{codes}
use Rattle.hs_base.specs.Options.{◌>>=◌}
use Rattle.hs_tokens.specs.declared.token.SourceToken.{SourceToken}
use Rattle.hs_syntax.specs.Forms.{Form, ◌⨾◌, when, IsOf}
use Rattle.hs_syntax.specs.Grammar.{declarator_form, block_form}
use Rattle.hs_syntax.specs.Phrases.{begins_none, is_named, has_specifiers}
use Rattle.hs_syntax.specs.RowViews.{specification_from}
use Rattle.hs_syntax.specs.Trees as tree
use Rattle.hs_syntax.specs.Trees.{Specification, Specified, Declared, Declaring, Declaration, Compound, ExternalDeclaration}
use Rattle.hs_tokens.specs.declared.place.Place.{Place}
use Rattle.hs_expr_parser.specs.Ahead.{is_mark_ahead, mark_at}
use Rattle.hs_expr_parser.specs.Expected.{specifiers_in}
use Rattle.hs_expr_parser.specs.Recursion.{Read}
use Rattle.hs_expr_parser.specs.Reading.{Known, going_on}
use Rattle.hs_expr_parser.specs.Steps.{declarator_at}
use Rattle.hs_expr_parser.specs.Laws.Apart.{when_parts}
use Rattle.hs_expr_parser.specs.Laws.Entries.{specification_again}
use Rattle.hs_expr_parser.specs.Laws.FirstTokens.{mark_missing, mark_ender}
use Rattle.hs_expr_parser.specs.Laws.Phrases.{declarator_reads}
use Rattle.hs_expr_parser.specs.Laws.Primaries.{mark_reads, behind}
use Rattle.hs_decl_parser.proofs.DeclarationsRead.{has_pieces, has_more, none_first, specifies, bare_read, declarator_no_brace, declarator_no_end, declared_read}
use Rattle.hs_decl_parser.proofs.Expected.{Whole, ReadsItems, ReadsBlock, ReadsExternal}
use Rattle.hs_decl_parser.proofs.ItemsRead.{ReadsStart}
use Rattle.hs_decl_parser.specs.Reading.{Shorter, bare, block_rule, function_rule, external_behind}

-- ---- functions

-- a declarator, and a block
record FunctionRead (known : Known) (table : Shorter) (declared : Declared) (it : Compound) (tokens rest : List SourceToken) : Type 0 where
  back : List SourceToken
  declarator : declarator_at known false tokens ≡ Some (declared, back)
  body : block_rule table back ≡ Some (it, rest)
  brace : is_mark_ahead (codes "{") back ≡ true

-- the tokens of both
abbrev function_form : Known → Declared → Compound → Form
function_form known declared it = when (is_named declared) (declarator_form known false declared) ⨾ block_form known it

-- if they stand in front
function_read : (known : Known) (table : Shorter) (declared : Declared) (it : Compound) (front rest : List SourceToken) → ReadsBlock known table it
    → IsOf (function_form known declared it) front → FunctionRead known table declared it (front ++ rest) rest
function_read known table declared it front rest reads fits =
    let form : Form = declarator_form known false declared in
    let parts = behind (when (is_named declared) form) (block_form known it) front fits in
    let named = when_parts (is_named declared) form parts.front parts.first in
    let block = reads parts.back rest parts.second in
    record {
      back = parts.back ++ rest;
      declarator = ap (declarator_at known false) (parts.whole rest)
          ∙ declarator_reads known declared parts.front (parts.back ++ rest) named.1 named.0 (mark_ender (codes "{") (parts.back ++ rest) refl block.1);
      body = block.0;
      brace = block.1;
    }

-- a block has a piece
block_pieces : (known : Known) (it : Compound) → has_pieces (block_form known it).pieces ≡ true
block_pieces known (tree.compound at declarations its closing) = refl

-- so has a function
function_pieces : (known : Known) (declared : Declared) (it : Compound) → has_pieces (function_form known declared it).pieces ≡ true
function_pieces known declared it = has_more (declarator_form known false declared).pieces (block_form known it).pieces (block_pieces known it)

-- what is made of the block of a function
abbrev made_function : List Specified → Declared → Compound × List SourceToken → Read ExternalDeclaration
made_function specifiers declared body = Some (tree.function_definition (specification_from specifiers) declared body.0, body.1)

-- what is read after its declarator
abbrev function_behind : Shorter → List Specified → Declared × List SourceToken → Read ExternalDeclaration
function_behind table specifiers declared = function_rule table specifiers declared.0 declared.1

-- a function without specifiers
pub plain_function_all : {known : Known} {table : Shorter} → Whole known table → (declared : Declared) (it : Compound) → ReadsBlock known table it
    → ReadsExternal known table (tree.function_definition tree.no_specifiers declared it)
plain_function_all {known = known} {table = table} whole declared it reads front rest fits =
    let form : Form = function_form known declared it in
    let ends = when_parts (begins_none known false form.pieces) form front fits in
    let none = none_first known false form.pieces front rest (function_pieces known declared it) ends.0 ends.1.1 in
    let read = function_read known table declared it front rest reads ends.1 in
    rw none (ap (λ found. found >>= function_behind table []) read.declarator ∙ ap (λ found. found >>= made_function [] declared) read.body)

-- ---- after specifiers

-- what is read after a declarator
abbrev external_then : Known → Shorter → List Specified → Declared × List SourceToken → Read ExternalDeclaration
external_then known table its declared = external_behind known table its declared.0 declared.1

-- what is read after specifiers, by whether a `;` is in front
abbrev specified_by : Known → Shorter → List Specified → List SourceToken → Read Place → Read ExternalDeclaration
specified_by known table its tokens found =
    going_on found (λ end rest. Some (tree.declaration (bare its), rest)) (declarator_at known false tokens >>= external_then known table its)

-- and so after what was read of them
abbrev specified_then : Known → Shorter → List Specified × List SourceToken → Read ExternalDeclaration
specified_then known table its = specified_by known table its.0 its.1 (mark_at (codes ";") its.1)

-- a function with specifiers
pub function_all : {known : Known} {table : Shorter} → Whole known table → (its : Specification) (declared : Declared) (it : Compound)
    → has_specifiers its ≡ true → ReadsBlock known table it → ReadsExternal known table (tree.function_definition its declared it)
function_all {known = known} {table = table} whole its declared it has reads front rest fits =
    let form : Form = function_form known declared it in
    let read = specifies known its form front rest has (function_pieces known declared it)
    (λ back fits.
    let function = function_read known table declared it back rest reads fits in
    declarator_no_brace known declared (back ++ rest) function.back function.declarator) fits in
    let function = function_read known table declared it read.back rest reads read.fits in
    let tokens : List SourceToken = read.back ++ rest in
    let all : List Specified = specifiers_in its in
    rw read.begins (ap (λ found. found >>= specified_then known table) read.reads
    ∙ ap (specified_by known table all tokens) (mark_missing (codes ";") tokens (declarator_no_end known declared tokens function.back function.declarator))
    ∙ ap (λ found. found >>= external_then known table all) function.declarator
    ∙ rw function.brace (ap (λ found. found >>= made_function all declared) function.body)
    ∙ (λ i. Some (tree.function_definition (specification_again its i) declared it, rest)))

-- a declaration without declarators
pub external_bare_all : (known : Known) (table : Shorter) (its : Specification)
    → ReadsExternal known table (tree.declaration (record { specifiers = its; items = [] }))
external_bare_all known table its front rest fits =
    let read = bare_read known its front rest fits in
    rw read.begins (ap (λ found. found >>= specified_then known table) read.specifiers
    ∙ ap (specified_by known table (specifiers_in its) (read.end ∷ rest)) (mark_reads (codes ";") read.end rest read.is)
    ∙ (λ i. Some (tree.declaration (record { specifiers = specification_again its i; items = [] }), rest)))

-- what is made of a declaration
abbrev made_external : Declaration × List SourceToken → Read ExternalDeclaration
made_external it = Some (tree.declaration it.0, it.1)

-- one with declarators
pub external_declared_all : (known : Known) (table : Shorter) (specification : Specification) (it : Declaring) (its : List Declaring)
    → ReadsStart known table it.initialiser → ReadsItems known table its
    → ReadsExternal known table (tree.declaration (record { specifiers = specification; items = it ∷ its }))
external_declared_all known table specification it its starts others front rest fits =
    let read = declared_read known table specification it its starts others front rest fits in
    let all : List Specified = specifiers_in specification in
    let items = read.items in
    rw read.begins (ap (λ found. found >>= specified_then known table) read.specifiers
    ∙ ap (specified_by known table all read.behind')
    (mark_missing (codes ";") read.behind' (declarator_no_end known it.declarator read.behind' items.back items.declarator))
    ∙ ap (λ found. found >>= external_then known table all) items.declarator
    ∙ rw items.no_brace (ap (λ found. found >>= made_external) (items.declared all))
    ∙ (λ i. Some (tree.declaration (record { specifiers = specification_again specification i; items = it ∷ its }), rest)))
