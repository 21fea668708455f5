-- Members of structs and enumeration constants are read.
--     no_members_all, more_members_all
--     no_constants_all, constant_all, valued_constant_all
use Rattle.std.proofs.Common.{◌≡◌, ◌≤◌, Bool, true, false, List, [], ◌∷◌, ◌++◌, Some, None, refl, ap, sym, ◌∙◌, subst, append_assoc, inl, inr}
use Rattle.std.specs.Prelude.{◌&&◌, ◌||◌, codes, if◌then◌else◌}
use Rattle.std.proofs.lemmas.Bool.{and_parts, cases_Bool}
use Rattle.hs_base.specs.Options.{◌>>=◌}
use Rattle.hs_tokens.specs.declared.token.SourceToken.{SourceToken}
use Rattle.hs_tokens.specs.declared.token.TokenKind.TheVariants.{Identifier, Punctuator}
use Rattle.hs_syntax.specs.Forms.{Piece, Form, ◌⨾◌, when, mark, word, IsOf}
use Rattle.hs_syntax.specs.Grammar.{expression_form, specification_form, members_form, constants_form, declarator_form, declarators_form}
use Rattle.hs_syntax.specs.Names.{is_name}
use Rattle.hs_syntax.specs.Parts.{identifier, comma_form, behind_comma}
use Rattle.hs_syntax.specs.Phrases.{as_conditional, rank, is_typed, begins_none, ends_before, is_named, has_specifiers, has_constants, has_declarators}
use Rattle.hs_syntax.specs.RowViews.{OneMember, one_member, OneConstant, plain_one, valued_one, specification_from, declarators_from}
use Rattle.hs_syntax.specs.Trees as tree
use Rattle.hs_syntax.specs.Trees.{Expression, Specified, Specification, Members, Constants, Declared, Declarators}
use Rattle.hs_syntax.specs.declared.word.Word.{Word}
use Rattle.hs_expr_parser.specs.Ahead.{is_punctuator, is_mark_ahead, mark_at, stops, is_below, joins}
use Rattle.hs_expr_parser.specs.Goals as goal
use Rattle.hs_expr_parser.specs.Recursion.{Read}
use Rattle.hs_expr_parser.specs.Reading.{Known, Shorter, going_on, member_rule_of, members_rule, constant_rule, constants_rule}
use Rattle.hs_expr_parser.specs.Laws.Along.{Whole}
use Rattle.hs_expr_parser.specs.Laws.Apart.{with_text, token_is, split, when_parts, one_token}
use Rattle.hs_expr_parser.specs.Laws.Commas.{after_comma}
use Rattle.hs_expr_parser.specs.Laws.Entries.{specification_again, declarators_again}
use Rattle.hs_expr_parser.specs.Expected.{specifiers_in, members_in, constants_in, declarators_in, ReadsSpecification, ReadsMembers, ReadsConstants, ReadsDeclarators}
use Rattle.hs_expr_parser.specs.Laws.Spelled.{is_behind}
use Rattle.hs_expr_parser.specs.Laws.FirstTokens.{or_true, grouped, word_more, declarator_opens, declarator_no_mark, none_begins, members_word, constants_word, word_no_mark, mark_missing, mark_no_specifier, mark_no_mark}
use Rattle.hs_expr_parser.specs.Laws.Primaries.{ReadsAll, closing, closes, mark_reads, name_reads, behind, ranked}
use Rattle.hs_expr_parser.specs.Laws.Ranks.{AllRead}
use Rattle.hs_expr_parser.specs.Laws.TypesRead.{some_read}

-- ---- members

-- none are not read
pub no_members_all : {known : Known} {table : Shorter} → Whole known table → ReadsMembers known table tree.no_members
no_members_all whole earlier front rest has fits ends = absurd cc

-- no `{` begins declarators
declarators_no_brace : (known : Known) (its : Declarators) (front rest : List SourceToken) → IsOf (declarators_form known its) front
    → is_mark_ahead (codes "{") rest ≡ false → is_mark_ahead (codes "{") (front ++ rest) ≡ false
declarators_no_brace known tree.no_declarators [] rest fits ahead = ahead
declarators_no_brace known tree.no_declarators (source ∷ front) rest fits ahead = absurd fits.1
declarators_no_brace known (tree.more_declarators it its) front rest fits ahead =
    let form : Form = declarator_form known false it in
    let parts = behind (when (is_named it) form) (behind_comma (has_declarators its) (declarators_form known its)) front fits in
    let named = when_parts (is_named it) form parts.front parts.first in
    ap (is_mark_ahead (codes "{")) (parts.whole rest)
    ∙ declarator_no_mark (codes "{") form.pieces parts.front (parts.back ++ rest) refl (declarator_opens known false it named.1.0) named.1.1
    (more its parts.back parts.second)
  where
    more : (its : Declarators) (two : List SourceToken) → IsOf (behind_comma (has_declarators its) (declarators_form known its)) two
        → is_mark_ahead (codes "{") (two ++ rest) ≡ false
    more tree.no_declarators [] second = ahead
    more tree.no_declarators (source ∷ two) second = absurd second.1
    more (tree.more_declarators next its) two second =
        let after = after_comma (declarators_form known (tree.more_declarators next its)) two second in
        ap (is_mark_ahead (codes "{")) (after.whole rest) ∙ ap (is_punctuator (codes "{")) after.is

-- if none begins, none begins in front
none_front : (known : Known) (typed : Bool) (pieces others : List Piece) → begins_none known typed (pieces ++ others) ≡ true
    → begins_none known typed pieces ≡ true
none_front known typed [] others is = refl
none_front known typed (piece ∷ pieces) others is = is

-- what is read after the specifiers of a member
abbrev member_behind : Shorter → List Specified × List SourceToken → Read OneMember
member_behind table its = table (goal.declarators []) its.1 >>= closing
    (λ declared. one_member (specification_from its.0) (declarators_from declared)) (codes ";")

-- members that are declared together
member_reads : {known : Known} {table : Shorter} → Whole known table → (its : Specification) (declared : Declarators) (front rest : List SourceToken)
    → ReadsSpecification known table its → ReadsDeclarators known table declared → has_specifiers its ≡ true → has_declarators declared ≡ true
    → IsOf (specification_form known false its ⨾ ends_before known its (declarators_form known declared ⨾ mark (codes ";"))) front
    → member_rule_of known table (front ++ rest) ≡ Some (one_member its declared, rest)
member_reads {known = known} {table = table} whole its declared front rest reads others has some fits =
    let form : Form = declarators_form known declared in
    let parts = behind (specification_form known false its) (ends_before known its (form ⨾ mark (codes ";"))) front fits in
    let ends = when_parts (begins_none known (is_typed its) (form ⨾ mark (codes ";")).pieces) (form ⨾ mark (codes ";")) parts.back parts.second in
    let inside = behind form (mark (codes ";")) parts.back ends.1 in
    let end = one_token Punctuator (codes ";") None inside.back inside.second in
    let tokens : List SourceToken = inside.front ++ (end.source ∷ rest) in
    let same : parts.back ++ rest ≡ tokens = inside.whole rest ∙ ap (λ it. inside.front ++ (it ++ rest)) end.alone in
    let is_end : is_mark_ahead (codes ";") (end.source ∷ rest) ≡ true = ap (is_punctuator (codes ";")) end.is in
    let none = none_begins known (is_typed its) form.pieces inside.front (end.source ∷ rest)
    (none_front known (is_typed its) form.pieces (mark (codes ";")).pieces ends.0) inside.first.1
    (mark_no_specifier known (is_typed its) (codes ";") (end.source ∷ rest) is_end) in
    let no_brace = declarators_no_brace known declared inside.front (end.source ∷ rest) inside.first
    (mark_no_mark (codes ";") (codes "{") (end.source ∷ rest) refl is_end) in
    let found = some_read known table its parts.front tokens reads has parts.first none no_brace in
    ap (member_rule_of known table) (parts.whole rest ∙ ap (λ it. parts.front ++ it) same)
    ∙ ap (λ its. its >>= member_behind table) found.0
    ∙ closes (table (goal.declarators []) tokens) (declarators_in declared) (codes ";") end.source rest
    (λ it. one_member (specification_from (specifiers_in its)) (declarators_from it))
    (whole.plain (goal.declarators []) tokens ∙ others [] inside.front (end.source ∷ rest) some inside.first is_end) end.is
    ∙ (λ i. Some (one_member (specification_again its i) (declarators_again declared i), rest))

-- more members, or none
abbrev members_then : Shorter → List OneMember → OneMember × List SourceToken → Read (List OneMember)
members_then table earlier it = if is_mark_ahead (codes "}") it.1 then Some (earlier ++ it.0 ∷ [], it.1) else table (goal.members (earlier ++ it.0 ∷ [])) it.1

-- one more in front
pub more_members_all : {known : Known} {table : Shorter} → Whole known table → (its : Specification) (declared : Declarators) (rest : Members)
    → ReadsSpecification known table its → ReadsDeclarators known table declared → ReadsMembers known table rest
    → ReadsMembers known table (tree.more_members its declared rest)
more_members_all {known = known} {table = table} whole its declared all specified declarators others earlier front rest has fits ends =
    let entry : Form = specification_form known false its ⨾ ends_before known its (declarators_form known declared ⨾ mark (codes ";")) in
    let parts = behind (when (has_specifiers its && has_declarators declared) entry) (members_form known all) front fits in
    let some = when_parts (has_specifiers its && has_declarators declared) entry parts.front parts.first in
    let tests = and_parts (has_specifiers its) (has_declarators declared) some.0 in
    ap (members_rule known table earlier) (parts.whole rest)
    ∙ ap (λ found. found >>= members_then table earlier)
    (member_reads whole its declared parts.front (parts.back ++ rest) specified declarators tests.0 tests.1 some.1)
    ∙ on all others parts.back parts.second
  where
    on : (all : Members) → ReadsMembers known table all → (back : List SourceToken) → IsOf (members_form known all) back
        → members_then table earlier (one_member its declared, back ++ rest) ≡ Some (earlier ++ one_member its declared ∷ members_in all, rest)
    on tree.no_members others (source ∷ back) second = absurd second.1
    on tree.no_members others [] second = rw ends refl
    on (tree.more_members next it all) others back second =
        let more : Members = tree.more_members next it all in
        let goes : is_mark_ahead (codes "}") (back ++ rest) ≡ false =
        word_no_mark (codes "}") (members_form known more).pieces back rest (members_word known more refl second.0) second.1 in
        rw goes (whole.plain (goal.members (earlier ++ one_member its declared ∷ [])) (back ++ rest)
        ∙ others (earlier ++ one_member its declared ∷ []) back rest refl second ends
        ∙ ap (λ its. Some (its, rest)) (append_assoc earlier (one_member its declared ∷ []) (members_in more)))

-- ---- enumeration constants

-- none are not read
pub no_constants_all : {known : Known} {table : Shorter} → Whole known table → ReadsConstants known table tree.no_constants
no_constants_all whole earlier comma front rest has fits ends = absurd cc

-- what may follow a constant
abbrev ends_constant : List SourceToken → Bool
ends_constant tokens = is_mark_ahead (codes ",") tokens || is_mark_ahead (codes "}") tokens

-- what follows a constant
abbrev constants_then : Shorter → List OneConstant → OneConstant × List SourceToken → Read (List OneConstant × Bool)
constants_then table earlier it =
    going_on (mark_at (codes ",") it.1) (λ comma rest. if is_mark_ahead (codes "}") rest then Some ((earlier ++ it.0 ∷ [], true), rest)
    else table (goal.constants (earlier ++ it.0 ∷ [])) rest)
    (Some ((earlier ++ it.0 ∷ [], false), it.1))

-- after a comma
abbrev behind_constant : Shorter → List OneConstant → List SourceToken → Read (List OneConstant × Bool)
behind_constant table all rest = if is_mark_ahead (codes "}") rest then Some ((all, true), rest) else table (goal.constants all) rest

-- if a comma follows
constants_comma : (table : Shorter) (earlier : List OneConstant) (it : OneConstant) (comma : SourceToken) (rest : List SourceToken)
    → comma ≡ with_text Punctuator (codes ",") comma → constants_then table earlier (it, comma ∷ rest) ≡ behind_constant table (earlier ++ it ∷ []) rest
constants_comma table earlier it comma rest is =
    ap (λ found. going_on found (λ comma rest. behind_constant table (earlier ++ it ∷ []) rest) (Some ((earlier ++ it ∷ [], false), comma ∷ rest)))
    (mark_reads (codes ",") comma rest is)

-- more constants after a comma
constants_more : {known : Known} {table : Shorter} → Whole known table → (it : OneConstant) (its : Constants) (earlier : List OneConstant) (comma : Bool)
    (two three rest : List SourceToken) → ReadsConstants known table its → has_constants its ≡ true → IsOf (mark (codes ",") ⨾ constants_form known its) two
    → IsOf (comma_form comma) three → is_mark_ahead (codes "}") rest ≡ true
    → (next : SourceToken) × (others : List SourceToken) × (two ++ (three ++ rest) ≡ next ∷ others) × (next ≡ with_text Punctuator (codes ",") next)
    × (constants_then table earlier (it, next ∷ others) ≡ Some ((earlier ++ it ∷ constants_in its, comma), rest))
constants_more {known = known} {table = table} whole it its earlier comma two three rest reads has second third ends =
    let form : Form = constants_form known its in
    let after = after_comma form two second in
    let all = is_behind form (comma_form comma) after.others three after.fits third in
    let same : after.others ++ (three ++ rest) ≡ (after.others ++ three) ++ rest = sym (append_assoc after.others three rest) in
    let tokens : List SourceToken = after.others ++ (three ++ rest) in
    let goes : is_mark_ahead (codes "}") tokens ≡ false =
    ap (is_mark_ahead (codes "}")) same
    ∙ word_no_mark (codes "}") (form ⨾ comma_form comma).pieces (after.others ++ three) rest
    (word_more form.pieces (comma_form comma).pieces (constants_word known its has)) all.1 in (
      after.source,
      tokens,
      after.whole (three ++ rest),
      after.is,
      constants_comma table earlier it after.source tokens after.is
          ∙ not_ended tokens goes
          ∙ ap (table (goal.constants (earlier ++ it ∷ []))) same
          ∙ whole.plain (goal.constants (earlier ++ it ∷ [])) ((after.others ++ three) ++ rest)
          ∙ reads (earlier ++ it ∷ []) comma (after.others ++ three) rest has all ends
          ∙ ap (λ its. Some ((its, comma), rest)) (append_assoc earlier (it ∷ []) (constants_in its)),
    )
  where
    not_ended : (tokens : List SourceToken) → is_mark_ahead (codes "}") tokens ≡ false
        → behind_constant table (earlier ++ it ∷ []) tokens ≡ table (goal.constants (earlier ++ it ∷ [])) tokens
    not_ended tokens is = rw is refl

-- a comma may follow a constant
comma_ends : (comma : SourceToken) (rest : List SourceToken) → comma ≡ with_text Punctuator (codes ",") comma → ends_constant (comma ∷ rest) ≡ true
comma_ends comma rest is = ap (λ (first : SourceToken). ends_constant (first ∷ rest)) is

-- a constant and what follows it
constants_on : {known : Known} {table : Shorter} → Whole known table → (it : OneConstant) (its : Constants) (earlier : List OneConstant) (comma : Bool)
    (one two three rest : List SourceToken) → ReadsConstants known table its
    → ((more : List SourceToken) → ends_constant more ≡ true → constant_rule table (one ++ more) ≡ Some (it, more))
    → IsOf (behind_comma (has_constants its) (constants_form known its)) two → IsOf (comma_form comma) three → is_mark_ahead (codes "}") rest ≡ true
    → constants_rule table earlier (one ++ (two ++ (three ++ rest))) ≡ Some ((earlier ++ it ∷ constants_in its, comma), rest)
constants_on {known = known} {table = table} whole it tree.no_constants earlier comma one (source ∷ two) three rest others reads second third ends =
    absurd second.1
constants_on {known = known} {table = table} whole it tree.no_constants earlier false one [] (source ∷ three) rest others reads second third ends =
    absurd third.1
constants_on {known = known} {table = table} whole it tree.no_constants earlier false one [] [] rest others reads second third ends =
    ap (λ found. found >>= constants_then table earlier) (reads rest (or_true (is_mark_ahead (codes ",") rest) (is_mark_ahead (codes "}") rest) ends))
    ∙ ap (λ found. going_on found (λ comma rest. behind_constant table (earlier ++ it ∷ []) rest) (Some ((earlier ++ it ∷ [], false), rest)))
    (mark_missing (codes ",") rest (mark_no_mark (codes "}") (codes ",") rest refl ends))
constants_on {known = known} {table = table} whole it tree.no_constants earlier true one [] three rest others reads second third ends =
    let comma = one_token Punctuator (codes ",") None three third in
    ap (λ its. constants_rule table earlier (one ++ (its ++ rest))) comma.alone
    ∙ ap (λ found. found >>= constants_then table earlier) (reads (comma.source ∷ rest) (comma_ends comma.source rest comma.is))
    ∙ constants_comma table earlier it comma.source rest comma.is ∙ rw ends refl
constants_on {known = known} {table = table} whole it (tree.constant next its) earlier comma one two three rest others reads second third ends =
    let found = constants_more whole it (tree.constant next its) earlier comma two three rest others refl second third ends in
    ap (λ tokens. constants_rule table earlier (one ++ tokens)) found.2
    ∙ ap (λ found. found >>= constants_then table earlier) (reads (found.0 ∷ found.1) (comma_ends found.0 found.1 found.3)) ∙ found.4
constants_on {known = known} {table = table} whole it (tree.valued_constant next e its) earlier comma one two three rest others reads second third ends =
    let found = constants_more whole it (tree.valued_constant next e its) earlier comma two three rest others refl second third ends in
    ap (λ tokens. constants_rule table earlier (one ++ tokens)) found.2
    ∙ ap (λ found. found >>= constants_then table earlier) (reads (found.0 ∷ found.1) (comma_ends found.0 found.1 found.3)) ∙ found.4

-- what is made of an expression after a name
abbrev valued : Word → Expression × List SourceToken → Read OneConstant
valued name e = Some (valued_one name e.0, e.1)

-- what follows a name
abbrev constant_behind : Shorter → Word × List SourceToken → Read OneConstant
constant_behind table name =
    going_on (mark_at (codes "=") name.1) (λ equals rest. table goal.conditional rest >>= valued name.0) (Some (plain_one name.0, name.1))

-- no `=` follows
no_equals : (tokens : List SourceToken) → ends_constant tokens ≡ true → is_mark_ahead (codes "=") tokens ≡ false
no_equals tokens is =
    elim (cases_Bool (is_mark_ahead (codes ",") tokens)) [
      | inl comma ↦ mark_no_mark (codes ",") (codes "=") tokens refl comma
      | inr other ↦ mark_no_mark (codes "}") (codes "=") tokens refl (ap (λ it. it || is_mark_ahead (codes "}") tokens) (sym other) ∙ is)
    ]

-- no conditional goes on there
constant_stops : (tokens : List SourceToken) → ends_constant tokens ≡ true → stops 2 tokens ≡ true
constant_stops [] is = refl
constant_stops (source ∷ rest) is =
    elim (cases_Bool (is_punctuator (codes ",") source)) [
      | inl comma ↦ ap (λ it. is_below 2 (joins it)) (token_is Punctuator (codes ",") source comma)
      | inr other ↦
          let brace : is_punctuator (codes "}") source ≡ true = ap (λ it. it || is_punctuator (codes "}") source) (sym other) ∙ is in
          ap (λ it. is_below 2 (joins it)) (token_is Punctuator (codes "}") source brace)
    ]

-- a name alone
plain_reads : (table : Shorter) (name : Word) (front more : List SourceToken) → IsOf (identifier name) front → ends_constant more ≡ true
    → constant_rule table (front ++ more) ≡ Some (plain_one name, more)
plain_reads table name front more fits ends =
    let named = when_parts (is_name name.text) (word Identifier name) front fits in
    let one = one_token Identifier name.text (Some name.place) front named.1 in
    ap (λ its. constant_rule table (its ++ more)) one.alone
    ∙ ap (λ found. found >>= constant_behind table) (name_reads name one.source more one.is one.at named.0)
    ∙ ap (λ found. going_on found (λ equals rest. table goal.conditional rest >>= valued name) (Some (plain_one name, more)))
    (mark_missing (codes "=") more (no_equals more ends))

-- a name in front of others
pub constant_all : {known : Known} {table : Shorter} → Whole known table → (name : Word) (rest : Constants) → ReadsConstants known table rest
    → ReadsConstants known table (tree.constant name rest)
constant_all {known = known} {table = table} whole name its others earlier comma front rest has fits ends =
    let more : Form = behind_comma (has_constants its) (constants_form known its) in
    let parts = behind (identifier name ⨾ more) (comma_form comma) front fits in
    let inside = behind (identifier name) more parts.front parts.first in
    ap (constants_rule table earlier) (parts.whole rest ∙ inside.whole (parts.back ++ rest))
    ∙ constants_on whole (plain_one name) its earlier comma inside.front inside.back parts.back rest others
    (λ left stop. plain_reads table name inside.front left inside.first stop) inside.second parts.second ends

-- a name with its value
valued_reads : {known : Known} {table : Shorter} → Whole known table → (name : Word) (e : Expression) (front value more : List SourceToken)
    → IsOf (identifier name ⨾ mark (codes "=")) front → 2 ≤ rank e → AllRead known table e (value ++ more) more → ends_constant more ≡ true
    → constant_rule table (front ++ (value ++ more)) ≡ Some (valued_one name e, more)
valued_reads {known = known} {table = table} whole name e front value more fits low all ends =
    let parts = split (identifier name) (mark (codes "=")) front fits in
    let named = when_parts (is_name name.text) (word Identifier name) parts.front parts.first in
    let one = one_token Identifier name.text (Some name.place) parts.front named.1 in
    let equals = one_token Punctuator (codes "=") None parts.back parts.second in
    let tokens : List SourceToken = value ++ more in
    ap (λ its. constant_rule table (its ++ tokens)) (parts.whole ∙ (λ i. one.alone i ++ equals.alone i))
    ∙ ap (λ found. found >>= constant_behind table) (name_reads name one.source (equals.source ∷ tokens) one.is one.at named.0)
    ∙ ap (λ found. going_on found (λ equals rest. table goal.conditional rest >>= valued name) (Some (plain_one name, equals.source ∷ tokens)))
    (mark_reads (codes "=") equals.source tokens equals.is)
    ∙ ap (λ found. found >>= valued name) (whole.plain goal.conditional tokens ∙ (all.conditional low).exact (constant_stops more ends))

-- tokens of four phrases, one after another
four_whole : (front one two three four inside last rest : List SourceToken)
    → ((rest : List SourceToken) → front ++ rest ≡ inside ++ (four ++ rest)) → ((rest : List SourceToken) → inside ++ rest ≡ one ++ (last ++ rest))
    → ((rest : List SourceToken) → last ++ rest ≡ two ++ (three ++ rest)) → front ++ rest ≡ one ++ (two ++ (three ++ (four ++ rest)))
four_whole front one two three four inside last rest whole first second =
    whole rest ∙ first (four ++ rest) ∙ ap (λ it. one ++ it) (second (four ++ rest))

-- the tokens of a name, of its value, of other constants and of a comma
valued_by : {known : Known} {table : Shorter} → Whole known table → (name : Word) (e : Expression) (its : Constants) (earlier : List OneConstant) (comma : Bool)
    (tokens one two three four rest : List SourceToken) → tokens ≡ one ++ (two ++ (three ++ (four ++ rest))) → IsOf (identifier name ⨾ mark (codes "=")) one
    → 2 ≤ rank e → ReadsAll known table e → IsOf (expression_form known e) two → ReadsConstants known table its
    → IsOf (behind_comma (has_constants its) (constants_form known its)) three → IsOf (comma_form comma) four → is_mark_ahead (codes "}") rest ≡ true
    → constants_rule table earlier tokens ≡ Some ((earlier ++ valued_one name e ∷ constants_in its, comma), rest)
valued_by {known = known} {table = table} whole name e its earlier comma tokens one two three four rest same first low reads second others third fourth ends =
    ap (constants_rule table earlier) (same ∙ sym (append_assoc one two (three ++ (four ++ rest))))
    ∙ constants_on whole (valued_one name e) its earlier comma (one ++ two) three four rest others
    (λ more stop. ap (constant_rule table) (append_assoc one two more) ∙ valued_reads whole name e one two more first low (reads two more second) stop)
    third fourth ends

-- a name with its value in front of others
pub valued_constant_all : {known : Known} {table : Shorter} → Whole known table → (name : Word) (e : Expression) (rest : Constants) → ReadsAll known table e
    → ReadsConstants known table rest → ReadsConstants known table (tree.valued_constant name e rest)
valued_constant_all {known = known} {table = table} whole name e its reads others earlier comma front rest has fits ends =
    let value : Form = as_conditional e (expression_form known e) in
    let more : Form = behind_comma (has_constants its) (constants_form known its) in
    let parts = behind (identifier name ⨾ mark (codes "=") ⨾ value ⨾ more) (comma_form comma) front fits in
    let regrouped = subst (λ (form : Form). IsOf form parts.front) (grouped (identifier name) (mark (codes "=")) (value ⨾ more)) parts.first in
    let inside = behind (identifier name ⨾ mark (codes "=")) (value ⨾ more) parts.front regrouped in
    let last = behind value more inside.back inside.second in
    let low = ranked 2 e (expression_form known e) last.front last.first in
    valued_by whole name e its earlier comma (front ++ rest) inside.front last.front last.back parts.back rest
    (four_whole front inside.front last.front last.back parts.back parts.front inside.back rest parts.whole inside.whole last.whole)
    inside.first low.0 reads low.1 others last.second parts.second ends
