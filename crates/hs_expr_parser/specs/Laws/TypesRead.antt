-- Type names and parameters are read.
--     some_read                              specifiers, at least one
--     typed_all                              a type name
--     no_parameters_all, more_parameters_all
use Rattle.std.proofs.Common.{◌≡◌, ℕ, true, false, List, [], ◌∷◌, ◌++◌, Some, None, refl, ap, ◌∙◌}
use Rattle.std.specs.Prelude.{◌&&◌, not, codes, if◌then◌else◌}
use Rattle.std.specs.Str.{bytes_eq}
use Rattle.std.proofs.lemmas.Bool.{and_parts}
use Rattle.hs_base.specs.Options.{◌>>=◌}
use Rattle.hs_tokens.specs.declared.token.SourceToken.{SourceToken}
use Rattle.hs_syntax.specs.Forms.{Form, ◌⨾◌, when, IsOf}
use Rattle.hs_syntax.specs.Grammar.{specification_form, declarator_form, parameters_form}
use Rattle.hs_syntax.specs.Names.{is_among}
use Rattle.hs_syntax.specs.Parts.{behind_comma}
use Rattle.hs_syntax.specs.Phrases.{is_typed, begins_none, ends_before, is_named, has_specifiers, has_parameters}
use Rattle.hs_syntax.specs.RowViews.{OneParameter, one_parameter, specification_from}
use Rattle.hs_syntax.specs.Trees as tree
use Rattle.hs_syntax.specs.Trees.{NamedType, Specified, Specification, Declared, Parameters}
use Rattle.hs_expr_parser.specs.Ahead.{is_punctuator, is_ahead, is_mark_ahead, begins_specifier}
use Rattle.hs_expr_parser.specs.Goals as goal
use Rattle.hs_expr_parser.specs.Recursion.{Read}
use Rattle.hs_expr_parser.specs.Reading.{Known, Shorter, some_specifiers_rule, declarator_rule, parameter_rule, parameters_rule}
use Rattle.hs_expr_parser.specs.Laws.Along.{Whole}
use Rattle.hs_expr_parser.specs.Laws.Apart.{when_parts}
use Rattle.hs_expr_parser.specs.Laws.Commas.{after_comma, entries_end, entries_more}
use Rattle.hs_expr_parser.specs.Laws.Entries.{specification_again}
use Rattle.hs_expr_parser.specs.Expected.{enders, specifiers_in, parameters_in, ReadsType, ReadsSpecification, ReadsDeclarator, ReadsParameters}
use Rattle.hs_expr_parser.specs.Laws.FirstTokens.{not_true, declarator_opens, declarator_no_mark, none_begins, mark_no_specifier, mark_no_mark, mark_ender}
use Rattle.hs_expr_parser.specs.Laws.Primaries.{behind}

-- specifiers, at least one, up to a token that begins none
pub some_read : (known : Known) (table : Shorter) (its : Specification) (front rest : List SourceToken) → ReadsSpecification known table its
    → has_specifiers its ≡ true
    → IsOf (specification_form known false its) front → is_ahead (begins_specifier known (is_typed its)) rest ≡ false → is_mark_ahead (codes "{") rest ≡ false
    → (some_specifiers_rule known table (front ++ rest) ≡ Some (specifiers_in its, rest)) × (is_ahead (begins_specifier known false) (front ++ rest) ≡ true)
some_read known table its front rest reads has fits ends ahead =
    let read = reads false [] front rest fits ends ahead in
    let begins = read.1 has in
    (rw begins read.0, begins)

-- specifiers and a declarator that may name nothing, up to a punctuator
pub record Specifies (known : Known) (table : Shorter) (its : Specification) (declared : Declared) (tokens rest : List SourceToken) : Type 0 where
  pub back : List SourceToken
  pub specifiers : some_specifiers_rule known table tokens ≡ Some (specifiers_in its, back)
  pub declarator : declarator_rule known table true back ≡ Some (declared, rest)
  pub begins : is_ahead (begins_specifier known false) tokens ≡ true

-- it is read if its tokens stand in front
specifies : (known : Known) (table : Shorter) (its : Specification) (declared : Declared) (text : List ℕ) (front rest : List SourceToken)
    → ReadsSpecification known table its → ReadsDeclarator known table declared → has_specifiers its ≡ true
    → IsOf (specification_form known false its ⨾ ends_before known its (declarator_form known true declared)) front
    → is_among enders text ≡ true → bytes_eq text (codes "{") ≡ false → is_mark_ahead text rest ≡ true
    → Specifies known table its declared (front ++ rest) rest
specifies known table its declared text front rest reads others has fits among apart ahead =
    let form : Form = declarator_form known true declared in
    let parts = behind (specification_form known false its) (ends_before known its form) front fits in
    let ends = when_parts (begins_none known (is_typed its) form.pieces) form parts.back parts.second in
    let none = none_begins known (is_typed its) form.pieces parts.back rest ends.0 ends.1.1 (mark_no_specifier known (is_typed its) text rest ahead) in
    let no_brace = declarator_no_mark (codes "{") form.pieces parts.back rest refl (declarator_opens known true declared ends.1.0) ends.1.1
    (mark_no_mark text (codes "{") rest apart ahead) in
    let some = some_read known table its parts.front (parts.back ++ rest) reads has parts.first none no_brace in
    record {
      back = parts.back ++ rest;
      specifiers = ap (some_specifiers_rule known table) (parts.whole rest) ∙ some.0;
      declarator = others true parts.back rest ends.1 refl (mark_ender text rest among ahead);
      begins = ap (is_ahead (begins_specifier known false)) (parts.whole rest) ∙ some.1;
    }

-- ---- type names

-- what is made of a declarator after specifiers
abbrev named_type : List Specified → Declared × List SourceToken → Read NamedType
named_type its declared = if is_named declared.0 then None else Some (tree.typed_as (specification_from its) declared.0, declared.1)

-- a type name after its specifiers
abbrev typed_behind : Known → Shorter → List Specified × List SourceToken → Read NamedType
typed_behind known table its = do
  declared ← declarator_rule known table true its.1
  named_type its.0 declared

-- a type name
pub typed_all : {known : Known} {table : Shorter} → Whole known table → (its : Specification) (declared : Declared) → ReadsSpecification known table its
    → ReadsDeclarator known table declared → ReadsType known table (tree.typed_as its declared)
typed_all {known = known} {table = table} whole its declared reads others front rest fits ahead =
    let parts = when_parts (has_specifiers its && not (is_named declared))
    (specification_form known false its ⨾ ends_before known its (declarator_form known true declared)) front fits in
    let tests = and_parts (has_specifiers its) (not (is_named declared)) parts.0 in
    let read = specifies known table its declared (codes ")") front rest reads others tests.0 parts.1 refl refl ahead in (
      ap (λ found. found >>= typed_behind known table) read.specifiers
          ∙ ap (λ found. found >>= named_type (specifiers_in its)) read.declarator
          ∙ rw (not_true (is_named declared) tests.1) (ap (λ all. Some (tree.typed_as all declared, rest)) (specification_again its)),
      read.begins,
    )

-- ---- parameters

-- none are not read
pub no_parameters_all : {known : Known} {table : Shorter} → Whole known table → ReadsParameters known table tree.no_parameters
no_parameters_all whole earlier front rest has fits ends = absurd cc

-- what is made of a declarator after specifiers
abbrev made_parameter : List Specified → Declared × List SourceToken → Read OneParameter
made_parameter its declared = Some (one_parameter (specification_from its) declared.0, declared.1)

-- a parameter after its specifiers
abbrev parameter_behind : Known → Shorter → List Specified × List SourceToken → Read OneParameter
parameter_behind known table its = do
  declared ← declarator_rule known table true its.1
  made_parameter its.0 declared

-- a parameter
parameter_reads : {known : Known} {table : Shorter} (its : Specification) (declared : Declared) (tokens rest : List SourceToken)
    → Specifies known table its declared tokens rest → parameter_rule known table tokens ≡ Some (one_parameter its declared, rest)
parameter_reads {known = known} {table = table} its declared tokens rest read =
    ap (λ found. found >>= parameter_behind known table) read.specifiers
    ∙ ap (λ found. found >>= made_parameter (specifiers_in its)) read.declarator
    ∙ ap (λ all. Some (one_parameter all declared, rest)) (specification_again its)

-- what is read after a comma
abbrev parameters_on : Shorter → List OneParameter → List SourceToken → Read (List OneParameter)
parameters_on table earlier tokens = table (goal.parameters earlier) tokens

-- one more in front
pub more_parameters_all : {known : Known} {table : Shorter} → Whole known table → (its : Specification) (declared : Declared) (rest : Parameters)
    → ReadsSpecification known table its → ReadsDeclarator known table declared → ReadsParameters known table rest
    → ReadsParameters known table (tree.more_parameters its declared rest)
more_parameters_all {known = known} {table = table} whole its declared all specified declarator others earlier front rest has fits ends =
    let entry : Form = specification_form known false its ⨾ ends_before known its (declarator_form known true declared) in
    let parts = behind (when (has_specifiers its) entry) (behind_comma (has_parameters all) (parameters_form known all)) front fits in
    let some = when_parts (has_specifiers its) entry parts.front parts.first in
    let read = on all others parts.front parts.back some.0 some.1 parts.second in
    (ap (parameters_rule known table earlier) (parts.whole rest) ∙ read.0, ap (is_ahead (begins_specifier known false)) (parts.whole rest) ∙ read.1)
  where
    on : (all : Parameters) → ReadsParameters known table all → (one two : List SourceToken) → has_specifiers its ≡ true
        → IsOf (specification_form known false its ⨾ ends_before known its (declarator_form known true declared)) one
        → IsOf (behind_comma (has_parameters all) (parameters_form known all)) two
        → (parameters_rule known table earlier (one ++ (two ++ rest)) ≡ Some (earlier ++ one_parameter its declared ∷ parameters_in all, rest))
        × (is_ahead (begins_specifier known false) (one ++ (two ++ rest)) ≡ true)
    on tree.no_parameters others one (source ∷ two) has first second = absurd second.1
    on tree.no_parameters others one [] has first second =
        let read = specifies known table its declared (codes ")") one rest specified declarator has first refl refl ends in (
          entries_end (parameters_on table) (parameter_rule known table (one ++ rest)) earlier (one_parameter its declared) rest
              (parameter_reads its declared (one ++ rest) rest read) (mark_no_mark (codes ")") (codes ",") rest refl ends),
          read.begins,
        )
    on (tree.more_parameters next it all) others one two has first second =
        let after = after_comma (parameters_form known (tree.more_parameters next it all)) two second in
        let behind' : List SourceToken = after.others ++ rest in
        let comma : is_mark_ahead (codes ",") (after.source ∷ behind') ≡ true = ap (is_punctuator (codes ",")) after.is in
        let read = specifies known table its declared (codes ",") one (after.source ∷ behind') specified declarator has first refl refl comma in
        let more = others (earlier ++ one_parameter its declared ∷ []) after.others rest refl after.fits ends in (
          ap (λ tokens. parameters_rule known table earlier (one ++ tokens)) (after.whole rest)
              ∙ entries_more (parameters_on table) (parameter_rule known table (one ++ (after.source ∷ behind'))) earlier
              (parameters_in (tree.more_parameters next it all)) (one_parameter its declared) after.source behind' rest
              (parameter_reads its declared (one ++ (after.source ∷ behind')) (after.source ∷ behind') read) after.is
              (whole.plain (goal.parameters (earlier ++ one_parameter its declared ∷ [])) behind' ∙ more.0),
          ap (λ tokens. is_ahead (begins_specifier known false) (one ++ tokens)) (after.whole rest) ∙ read.begins,
        )
