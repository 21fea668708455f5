-- Declarations are read.
--     specifies                               specifiers up to the phrase after them
--     bare_read, declared_read                a declaration without declarators, and one with them
--     bare_all, declared_all
--     no_declarations_all, more_declarations_all
use Rattle.std.proofs.Common.{◌≡◌, Bool, true, false, List, [], ◌∷◌, ◌++◌, Some, None, refl, ap, sym, ◌∙◌, append_assoc}
use Rattle.std.specs.Prelude.{codes}
use Rattle.std.proofs.lemmas.List.{append-nil}
use Rattle.hs_base.specs.Options.{◌>>=◌}
use Rattle.hs_tokens.specs.declared.token.SourceToken.{SourceToken}
use Rattle.hs_tokens.specs.declared.token.TokenKind.TheVariants.{Punctuator}
use Rattle.hs_syntax.specs.Forms.{Piece, Form, ◌⨾◌, mark, Spells, IsOf}
use Rattle.hs_syntax.specs.Grammar.{specification_form, items_form, declaration_form, declarations_form}
use Rattle.hs_syntax.specs.Phrases.{is_typed, begins_none, ends_before, has_specifiers}
use Rattle.hs_syntax.specs.Trees.{Specification, Specified, Declared, Declaring, Declaration}
use Rattle.hs_tokens.specs.declared.place.Place.{Place}
use Rattle.hs_expr_parser.specs.Ahead.{is_punctuator, is_ahead, is_mark_ahead, mark_at, begins_specifier}
use Rattle.hs_expr_parser.specs.Expected.{specifiers_in}
use Rattle.hs_expr_parser.specs.Recursion.{Read}
use Rattle.hs_expr_parser.specs.Reading.{Known, going_on}
use Rattle.hs_expr_parser.specs.Steps.{some_specifiers_at, declarator_at}
use Rattle.hs_expr_parser.specs.Laws.Apart.{with_text, when_parts, one_token}
use Rattle.hs_expr_parser.specs.Laws.Entries.{specification_again}
use Rattle.hs_expr_parser.specs.Laws.FirstTokens.{mark_missing, none_begins}
use Rattle.hs_expr_parser.specs.Laws.Phrases.{specifiers_read}
use Rattle.hs_expr_parser.specs.Laws.Primaries.{mark_reads, behind}
use Rattle.hs_decl_parser.proofs.Expected.{Whole, ReadsItems, ReadsDeclaration, ReadsDeclarations}
use Rattle.hs_decl_parser.proofs.ItemsRead.{ReadsStart, ItemsRead, items_read}
use Rattle.hs_decl_parser.proofs.NotAhead.{not_ahead}
use Rattle.hs_decl_parser.specs.Goals as goal
use Rattle.hs_decl_parser.specs.Reading.{Shorter, bare, declared_rule, declarations_rule}

-- ---- specifiers

-- there is a piece
abbrev pub has_pieces : List Piece → Bool
has_pieces [] = false
has_pieces (piece ∷ pieces) = true

-- if one follows others, there is one
pub has_more : (pieces others : List Piece) → has_pieces others ≡ true → has_pieces (pieces ++ others) ≡ true
has_more [] others has = has
has_more (piece ∷ pieces) others has = refl

-- no specifier begins a phrase that follows specifiers
pub none_first : (known : Known) (typed : Bool) (pieces : List Piece) (front rest : List SourceToken) → has_pieces pieces ≡ true
    → begins_none known typed pieces ≡ true → Spells pieces front → is_ahead (begins_specifier known typed) (front ++ rest) ≡ false
none_first known typed [] front rest has is spells = absurd cc
none_first known typed (piece ∷ pieces) [] rest has is spells = absurd spells
none_first known typed (piece ∷ pieces) (source ∷ front) rest has is spells = none_begins known typed (piece ∷ pieces) (source ∷ front) [] is spells refl

-- specifiers, and a phrase after them
pub record Specifies (known : Known) (its : Specification) (form : Form) (sources rest : List SourceToken) : Type 0 where
  pub back : List SourceToken
  pub reads : some_specifiers_at known (sources ++ rest) ≡ Some (specifiers_in its, back ++ rest)
  pub begins : is_ahead (begins_specifier known false) (sources ++ rest) ≡ true
  pub fits : IsOf form back

-- they are read, if no `{` begins the phrase
pub specifies : (known : Known) (its : Specification) (form : Form) (sources rest : List SourceToken) → has_specifiers its ≡ true
    → has_pieces form.pieces ≡ true
    → ((back : List SourceToken) → IsOf form back → is_mark_ahead (codes "{") (back ++ rest) ≡ false)
    → IsOf (specification_form known false its ⨾ ends_before known its form) sources → Specifies known its form sources rest
specifies known its form sources rest has some no_brace fits =
    let parts = behind (specification_form known false its) (ends_before known its form) sources fits in
    let ends = when_parts (begins_none known (is_typed its) form.pieces) form parts.back parts.second in
    let read = specifiers_read known its parts.front (parts.back ++ rest) has parts.first
    (none_first known (is_typed its) form.pieces parts.back rest some ends.0 ends.1.1) (no_brace parts.back ends.1) in
    record {
      back = parts.back;
      reads = ap (some_specifiers_at known) (parts.whole rest) ∙ read.0;
      begins = ap (is_ahead (begins_specifier known false)) (parts.whole rest) ∙ read.1;
      fits = ends.1;
    }

-- ---- a declaration in two steps

-- its specifiers, and a `;`
pub record BareRead (known : Known) (its : Specification) (tokens rest : List SourceToken) : Type 0 where
  pub end : SourceToken
  pub is : end ≡ with_text Punctuator (codes ";") end
  pub specifiers : some_specifiers_at known tokens ≡ Some (specifiers_in its, end ∷ rest)
  pub begins : is_ahead (begins_specifier known false) tokens ≡ true

pub bare_read : (known : Known) (its : Specification) (front rest : List SourceToken)
    → IsOf (declaration_form known (record { specifiers = its; items = [] })) front → BareRead known its (front ++ rest) rest
bare_read known its front rest fits =
    let form : Form = items_form known [] ⨾ mark (codes ";") in
    let has = when_parts (has_specifiers its) (specification_form known false its ⨾ ends_before known its form) front fits in
    let read = specifies known its form front rest has.0 refl (λ back fits. no_brace back fits) has.1 in
    let end = one_token Punctuator (codes ";") None read.back read.fits in
    record {
      end = end.source;
      is = end.is;
      specifiers = read.reads ∙ ap (λ back. Some (specifiers_in its, back ++ rest)) end.alone;
      begins = read.begins;
    }
  where
    no_brace : (back : List SourceToken) → IsOf (mark (codes ";")) back → is_mark_ahead (codes "{") (back ++ rest) ≡ false
    no_brace back fits =
        let end = one_token Punctuator (codes ";") None back fits in
        ap (λ back. is_mark_ahead (codes "{") (back ++ rest)) end.alone ∙ ap (is_punctuator (codes "{")) end.is

-- a `{` begins no declarator
brace_no_declarator : (known : Known) (source : SourceToken) (others : List SourceToken)
    → declarator_at known false (with_text Punctuator (codes "{") source ∷ others) ≡ None
unfolding declarator_at
brace_no_declarator known source others = refl

-- nor does a `;`
end_no_declarator : (known : Known) (source : SourceToken) (others : List SourceToken)
    → declarator_at known false (with_text Punctuator (codes ";") source ∷ others) ≡ None
unfolding declarator_at
end_no_declarator known source others = refl

-- if a declarator is read, there is no `{`
pub declarator_no_brace : (known : Known) (it : Declared) (tokens rest : List SourceToken) → declarator_at known false tokens ≡ Some (it, rest)
    → is_mark_ahead (codes "{") tokens ≡ false
declarator_no_brace known it tokens rest is = not_ahead (declarator_at known false) Punctuator (codes "{") it tokens rest (brace_no_declarator known) is

-- and no `;`
pub declarator_no_end : (known : Known) (it : Declared) (tokens rest : List SourceToken) → declarator_at known false tokens ≡ Some (it, rest)
    → is_mark_ahead (codes ";") tokens ≡ false
declarator_no_end known it tokens rest is = not_ahead (declarator_at known false) Punctuator (codes ";") it tokens rest (end_no_declarator known) is

-- its specifiers, and its declarators
pub record DeclaredRead (known : Known) (table : Shorter) (specification : Specification) (it : Declaring) (its : List Declaring)
    (tokens rest : List SourceToken) : Type 0 where
  pub behind' : List SourceToken
  pub specifiers : some_specifiers_at known tokens ≡ Some (specifiers_in specification, behind')
  pub begins : is_ahead (begins_specifier known false) tokens ≡ true
  pub items : ItemsRead known table it its behind' rest

pub declared_read : (known : Known) (table : Shorter) (specification : Specification) (it : Declaring) (its : List Declaring)
    → ReadsStart known table it.initialiser → ReadsItems known table its → (front rest : List SourceToken)
    → IsOf (declaration_form known (record { specifiers = specification; items = it ∷ its })) front
    → DeclaredRead known table specification it its (front ++ rest) rest
declared_read known table specification it its starts others front rest fits =
    let form : Form = items_form known (it ∷ its) ⨾ mark (codes ";") in
    let has = when_parts (has_specifiers specification) (specification_form known false specification ⨾ ends_before known specification form) front fits in
    let read = specifies known specification form front rest has.0 (has_more (items_form known (it ∷ its)).pieces (mark (codes ";")).pieces refl)
    (λ back fits.
    let items = items_read known table it its starts others back rest fits in
    declarator_no_brace known it.declarator (back ++ rest) items.back items.declarator) has.1 in
    record {
      behind' = read.back ++ rest;
      specifiers = read.reads;
      begins = read.begins;
      items = items_read known table it its starts others read.back rest read.fits;
    }

-- ---- a declaration

-- what is read after specifiers, by whether a `;` is in front
abbrev declaration_by : Known → Shorter → List Specified → List SourceToken → Read Place → Read Declaration
declaration_by known table its tokens found =
    going_on found (λ end rest. Some (bare its, rest))
    (declarator_at known false tokens >>= (λ declared. declared_rule known table its declared.0 declared.1))

-- and so after what was read of them
abbrev declaration_then : Known → Shorter → List Specified × List SourceToken → Read Declaration
declaration_then known table its = declaration_by known table its.0 its.1 (mark_at (codes ";") its.1)

-- one without declarators
pub bare_all : (known : Known) (table : Shorter) (its : Specification) → ReadsDeclaration known table (record { specifiers = its; items = [] })
bare_all known table its front rest fits =
    let read = bare_read known its front rest fits in (
      ap (λ found. found >>= declaration_then known table) read.specifiers
          ∙ ap (declaration_by known table (specifiers_in its) (read.end ∷ rest)) (mark_reads (codes ";") read.end rest read.is)
          ∙ (λ i. Some (record { specifiers = specification_again its i; items = [] }, rest)),
      read.begins,
    )

-- one with declarators
pub declared_all : (known : Known) (table : Shorter) (specification : Specification) (it : Declaring) (its : List Declaring)
    → ReadsStart known table it.initialiser → ReadsItems known table its
    → ReadsDeclaration known table (record { specifiers = specification; items = it ∷ its })
declared_all known table specification it its starts others front rest fits =
    let read = declared_read known table specification it its starts others front rest fits in
    let all : List Specified = specifiers_in specification in
    let items = read.items in (
      ap (λ found. found >>= declaration_then known table) read.specifiers
          ∙ ap (declaration_by known table all read.behind')
          (mark_missing (codes ";") read.behind' (declarator_no_end known it.declarator read.behind' items.back items.declarator))
          ∙ ap (λ found. found >>= (λ declared. declared_rule known table all declared.0 declared.1)) items.declarator
          ∙ items.declared all
          ∙ (λ i. Some (record { specifiers = specification_again specification i; items = it ∷ its }, rest)),
      read.begins,
    )

-- ---- declarations

-- none
pub no_declarations_all : (known : Known) (table : Shorter) → ReadsDeclarations known table []
no_declarations_all known table earlier (source ∷ front) rest fits none = absurd fits.1
no_declarations_all known table earlier [] rest fits none = rw none (ap (λ its. Some (its, rest)) (sym (append-nil earlier)))

-- what is read after one more
abbrev declarations_on : Shorter → List Declaration → Declaration × List SourceToken → Read (List Declaration)
declarations_on table earlier it = table (goal.declarations (earlier ++ it.0 ∷ [])) it.1

-- one more in front
pub more_declarations_all : {known : Known} {table : Shorter} → Whole known table → (it : Declaration) (rest : List Declaration)
    → ReadsDeclaration known table it → ReadsDeclarations known table rest → ReadsDeclarations known table (it ∷ rest)
more_declarations_all {known = known} {table = table} whole it its reads others earlier front rest fits none =
    let parts = behind (declaration_form known it) (declarations_form known its) front fits in
    let left : List SourceToken = parts.back ++ rest in
    let read = reads parts.front left parts.first in
    ap (declarations_rule known table earlier) (parts.whole rest)
    ∙ rw read.1 (ap (λ found. found >>= declarations_on table earlier) read.0
    ∙ whole.plain (goal.declarations (earlier ++ it ∷ [])) left
    ∙ others (earlier ++ it ∷ []) parts.back rest parts.second none
    ∙ ap (λ all. Some (all, rest)) (append_assoc earlier (it ∷ []) its))
