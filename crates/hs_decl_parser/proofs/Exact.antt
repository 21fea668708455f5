-- What is read of a unit is the unit, and the only one of its tokens; if no external declaration is read, none stands in front.
--     external_begins, external_reads     an external declaration, both ways
--     Parsed tokens its rest              the external declarations so far, and the tokens after them
--     unit_only, stuck_none               the same tokens are one unit at most, and none if the reading is stuck
--     stuck_once                          the place at which it is stuck is one
use Rattle.std.proofs.Common.{◌≡◌, List, [], ◌∷◌, ◌++◌, length, take, drop, Some, None, refl, ap, sym, ◌∙◌, subst, append_assoc}
use Rattle.std.proofs.Math.Seq.{take-append_seam}
use Rattle.std.proofs.lemmas.List.{append-nil, take-append-drop}
use Rattle.hs_base.specs.declared.pos.Pos.{Pos}
use Rattle.hs_tokens.specs.declared.token.SourceToken.{SourceToken}
use Rattle.hs_syntax.specs.Forms.{Form, ◌⨾◌, Spells, IsOf}
use Rattle.hs_syntax.specs.Grammar.{external_form, unit_form, IsUnit}
use Rattle.hs_syntax.specs.Phrases.{made_by}
use Rattle.hs_syntax.specs.Trees.{ExternalDeclaration, TranslationUnit}
use Rattle.hs_expr_parser.specs.Reading.{Known}
use Rattle.hs_expr_parser.specs.Recursion.{Read}
use Rattle.hs_expr_parser.specs.Steps.{declarator_at}
use Rattle.hs_expr_parser.specs.Laws.Apart.{split}
use Rattle.hs_expr_parser.specs.Laws.Yields.{Yields}
use Rattle.hs_expr_parser.specs.Laws.Spelled.{Begins, is_behind, form_again, form_nothing}
use Rattle.hs_decl_parser.specs.Steps.{external_at}
use Rattle.hs_decl_parser.specs.Units.{names_of, BeginsNone, IsStuck}
use Rattle.hs_decl_parser.proofs.Complete.{all_external}
use Rattle.hs_decl_parser.proofs.Plain.{whole}
use Rattle.hs_decl_parser.proofs.Sound.{external_found}

-- ---- an external declaration

-- what is read stands in front
pub external_begins : (known : Known) (tokens : List SourceToken)
    → Yields (λ (it : ExternalDeclaration) rest. Begins (external_form known it) tokens rest) (external_at known tokens)
unfolding external_at
external_begins known tokens = external_found known tokens

-- what stands in front is read
pub external_reads : (known : Known) (it : ExternalDeclaration) (front rest : List SourceToken) → IsOf (external_form known it) front
    → external_at known (front ++ rest) ≡ Some (it, rest)
unfolding external_at
external_reads known it front rest fits = all_external (whole known) it front rest fits

-- nothing is read of nothing
external_nothing : (known : Known) → external_at known [] ≡ None
unfolding external_at declarator_at
external_nothing known = refl

-- something is not nothing
some_not_none : {A : Type 0} (it : A) → Some it ≡ None → ⊥
some_not_none it is = cc

-- it is more than no tokens
external_some : (known : Known) (it : ExternalDeclaration) → IsOf (external_form known it) [] → ⊥
external_some known it fits = some_not_none (it, []) (sym (external_reads known it [] [] fits) ∙ external_nothing known)

-- if nothing is read, none stands in front
pub external_none : (known : Known) (tokens : List SourceToken) → external_at known tokens ≡ None → BeginsNone known tokens
external_none known tokens is n it fits =
    some_not_none (it, drop n tokens)
    (sym (external_reads known it (take n tokens) (drop n tokens) fits) ∙ ap (external_at known) (take-append-drop n tokens) ∙ is)

-- ---- units

-- one more external declaration
more_form : (known : Known) (its : TranslationUnit) (it : ExternalDeclaration)
    → unit_form known (its ++ it ∷ []) ≡ (unit_form known its ⨾ external_form (known ++ names_of its) it)
more_form known [] it = form_nothing (external_form known it) ∙ ap (λ known. external_form known it) (sym (append-nil known))
more_form known (first ∷ rest) it =
    ap (λ form. external_form known first ⨾ form) (more_form (known ++ made_by first) rest it)
    ∙ sym (form_again (external_form known first) (unit_form (known ++ made_by first) rest) (external_form ((known ++ made_by first) ++ names_of rest) it))
    ∙ ap (λ others. (external_form known first ⨾ unit_form (known ++ made_by first) rest) ⨾ external_form others it)
    (append_assoc known (made_by first) (names_of rest))

-- the names of one more
pub names_more : (its : TranslationUnit) (it : ExternalDeclaration) → names_of (its ++ it ∷ []) ≡ names_of its ++ made_by it
names_more [] it = append-nil (made_by it)
names_more (first ∷ rest) it = ap (λ names. made_by first ++ names) (names_more rest it) ∙ sym (append_assoc (made_by first) (names_of rest) (made_by it))

-- the external declarations so far, and the tokens after them
pub record Parsed (tokens : List SourceToken) (its : TranslationUnit) (rest : List SourceToken) : Type 0 where
  pub front : List SourceToken
  pub whole : tokens ≡ front ++ rest
  pub is : IsUnit front its

-- one more
pub more_parsed : (tokens : List SourceToken) (its : TranslationUnit) (rest : List SourceToken) (it : ExternalDeclaration) (left : List SourceToken)
    → Parsed tokens its rest → external_at (names_of its) rest ≡ Some (it, left) → Parsed tokens (its ++ it ∷ []) left
more_parsed tokens its rest it left parsed read =
    let begins = (external_begins (names_of its) rest).holds it left read in
    record {
      front = parsed.front ++ begins.front;
      whole = parsed.whole ∙ ap (λ rest. parsed.front ++ rest) begins.whole ∙ sym (append_assoc parsed.front begins.front left);
      is = subst (λ (form : Form). IsOf form (parsed.front ++ begins.front)) (sym (more_form [] its it))
          (is_behind (unit_form [] its) (external_form (names_of its) it) parsed.front begins.front parsed.is begins.is);
    }

-- the first that is wrong
pub stuck_parsed : (tokens : List SourceToken) (its : TranslationUnit) (source : SourceToken) (rest : List SourceToken)
    → Parsed tokens its (source ∷ rest) → external_at (names_of its) (source ∷ rest) ≡ None → IsStuck tokens source.token.pos
stuck_parsed tokens its source rest parsed is = record {
  externals = its;
  front = parsed.front;
  source = source;
  rest = rest;
  whole = parsed.whole;
  before = parsed.is;
  none = external_none (names_of its) (source ∷ rest) is;
  place = refl;
}

-- ---- one unit at most

-- what was read, or this
abbrev tree_of : ExternalDeclaration → Read ExternalDeclaration → ExternalDeclaration
tree_of other None = other
tree_of other (Some it) = it.0

-- the tokens that are left
abbrev left_of : Read ExternalDeclaration → List SourceToken
left_of None = []
left_of (Some it) = it.1

-- no tokens
spells_nothing : (sources : List SourceToken) → Spells [] sources → sources ≡ []
spells_nothing [] is = refl
spells_nothing (source ∷ sources) is = absurd is

-- no unit of something has no tokens
unit_some : (known : Known) (it : ExternalDeclaration) (rest : TranslationUnit) (tokens : List SourceToken) → tokens ≡ []
    → IsOf (unit_form known (it ∷ rest)) tokens → ⊥
unit_some known it rest tokens none fits =
    let parts = split (external_form known it) (unit_form (known ++ made_by it) rest) tokens fits in
    let empty : parts.front ≡ [] = front_empty parts.front parts.back (sym parts.whole ∙ none) in
    external_some known it (subst (λ (sources : List SourceToken). IsOf (external_form known it) sources) empty parts.first)
  where
    front_empty : (front back : List SourceToken) → front ++ back ≡ [] → front ≡ []
    front_empty [] back is = refl
    front_empty (source ∷ front) back is = absurd cc

-- What stands in front of the same tokens is one external declaration, with the same tokens after it.
same_first : (known : Known) (it other : ExternalDeclaration) (front back front' back' : List SourceToken) → front ++ back ≡ front' ++ back'
    → IsOf (external_form known it) front → IsOf (external_form known other) front' → (it ≡ other) × (back ≡ back')
same_first known it other front back front' back' same fits also =
    let read : Some (it, back) ≡ Some (other, back') =
    sym (external_reads known it front back fits) ∙ ap (external_at known) same ∙ external_reads known other front' back' also in
    (ap (tree_of it) read, ap left_of read)

-- the same tokens are one unit at most
pub unit_only : (known : Known) (one other : TranslationUnit) (tokens : List SourceToken) → IsOf (unit_form known one) tokens
    → IsOf (unit_form known other) tokens → one ≡ other
unit_only known [] [] tokens fits also = refl
unit_only known [] (it ∷ rest) tokens fits also = absurd (unit_some known it rest tokens (spells_nothing tokens fits.1) also)
unit_only known (it ∷ rest) [] tokens fits also = absurd (unit_some known it rest tokens (spells_nothing tokens also.1) fits)
unit_only known (it ∷ rest) (that ∷ others) tokens fits also =
    let one = split (external_form known it) (unit_form (known ++ made_by it) rest) tokens fits in
    let other = split (external_form known that) (unit_form (known ++ made_by that) others) tokens also in
    let same = same_first known it that one.front one.back other.front other.back (sym one.whole ∙ other.whole) one.first other.first in
    let behind : IsOf (unit_form (known ++ made_by it) others) one.back =
    subst (λ (them : ExternalDeclaration × List SourceToken). IsOf (unit_form (known ++ made_by them.0) others) them.1)
    (λ i. (sym same.0 i, sym same.1 i)) other.second in
    λ i. same.0 i ∷ unit_only (known ++ made_by it) rest others one.back one.second behind i

-- something follows
not_nothing : (front : List SourceToken) (source : SourceToken) (rest : List SourceToken) → front ++ source ∷ rest ≡ [] → ⊥
not_nothing [] source rest is = cc
not_nothing (first ∷ front) source rest is = cc

-- an external declaration stands in front
stuck_first : (known : Known) (tokens : List SourceToken) (it : ExternalDeclaration) (front back : List SourceToken) → tokens ≡ front ++ back
    → IsOf (external_form known it) front → BeginsNone known tokens → ⊥
stuck_first known tokens it front back is fits none =
    none (length front) it (subst (λ (sources : List SourceToken). IsOf (external_form known it) sources)
    (sym (ap (take (length front)) is ∙ take-append_seam front back)) fits)

-- after external declarations, if none follows, no unit goes on
stuck_by : (known : Known) (its : TranslationUnit) (front : List SourceToken) (source : SourceToken) (rest : List SourceToken) (other : TranslationUnit)
    → IsOf (unit_form known its) front → BeginsNone (known ++ names_of its) (source ∷ rest) → (tokens : List SourceToken) → tokens ≡ front ++ source ∷ rest
    → IsOf (unit_form known other) tokens → ⊥
stuck_by known its front source rest [] fits none tokens is also =
    not_nothing front source rest (sym is ∙ spells_nothing tokens also.1)
stuck_by known [] front source rest (that ∷ others) fits none tokens is also =
    let other = split (external_form known that) (unit_form (known ++ made_by that) others) tokens also in
    let empty = spells_nothing front fits.1 in
    let same : source ∷ rest ≡ other.front ++ other.back = sym (is ∙ ap (λ front. front ++ source ∷ rest) empty) ∙ other.whole in
    stuck_first known (source ∷ rest) that other.front other.back same other.first
    (subst (λ (known : Known). BeginsNone known (source ∷ rest)) (append-nil known) none)
stuck_by known (it ∷ its) front source rest (that ∷ others) fits none tokens is also =
    let one = split (external_form known it) (unit_form (known ++ made_by it) its) front fits in
    let other = split (external_form known that) (unit_form (known ++ made_by that) others) tokens also in
    let whole : one.front ++ (one.back ++ source ∷ rest) ≡ other.front ++ other.back =
    sym (append_assoc one.front one.back (source ∷ rest)) ∙ sym (is ∙ ap (λ front. front ++ source ∷ rest) one.whole) ∙ other.whole in
    let same = same_first known it that one.front (one.back ++ source ∷ rest) other.front other.back whole one.first other.first in
    let behind : IsOf (unit_form (known ++ made_by it) others) other.back =
    subst (λ (them : ExternalDeclaration). IsOf (unit_form (known ++ made_by them) others) other.back) (sym same.0) other.second in
    stuck_by (known ++ made_by it) its one.back source rest others one.second
    (subst (λ (known : Known). BeginsNone known (source ∷ rest)) (sym (append_assoc known (made_by it) (names_of its))) none) other.back (sym same.1) behind

-- no unit has these tokens if the reading is stuck
pub stuck_none : (tokens : List SourceToken) (pos : Pos) → IsStuck tokens pos → (it : TranslationUnit) → IsUnit tokens it → ⊥
stuck_none tokens pos stuck it fits =
    stuck_by [] stuck.externals stuck.front stuck.source stuck.rest it stuck.before stuck.none tokens stuck.whole fits

-- the first tokens
same_head : (source source' : SourceToken) (rest rest' : List SourceToken) → source ∷ rest ≡ source' ∷ rest' → source ≡ source'
same_head source source' rest rest' is = cc

-- After external declarations, none follows at one token only.
once_by : (known : Known) (its its' : TranslationUnit) (front front' : List SourceToken) (source source' : SourceToken) (rest rest' : List SourceToken)
    → IsOf (unit_form known its) front → IsOf (unit_form known its') front' → BeginsNone (known ++ names_of its) (source ∷ rest)
    → BeginsNone (known ++ names_of its') (source' ∷ rest') → front ++ source ∷ rest ≡ front' ++ source' ∷ rest' → source ≡ source'
once_by known [] [] front front' source source' rest rest' fits also none none' same =
    same_head source source' rest rest'
    (sym (ap (λ front. front ++ source ∷ rest) (spells_nothing front fits.1)) ∙ same ∙ ap (λ front. front ++ source' ∷ rest') (spells_nothing front' also.1))
once_by known [] (that ∷ others) front front' source source' rest rest' fits also none none' same =
    let other = split (external_form known that) (unit_form (known ++ made_by that) others) front' also in
    let whole : source ∷ rest ≡ other.front ++ (other.back ++ source' ∷ rest') =
    sym (ap (λ front. front ++ source ∷ rest) (spells_nothing front fits.1)) ∙ same ∙ ap (λ front. front ++ source' ∷ rest') other.whole
    ∙ append_assoc other.front other.back (source' ∷ rest') in
    absurd (stuck_first known (source ∷ rest) that other.front (other.back ++ source' ∷ rest') whole other.first
    (subst (λ (known : Known). BeginsNone known (source ∷ rest)) (append-nil known) none))
once_by known (it ∷ its) [] front front' source source' rest rest' fits also none none' same =
    let one = split (external_form known it) (unit_form (known ++ made_by it) its) front fits in
    let whole : source' ∷ rest' ≡ one.front ++ (one.back ++ source ∷ rest) =
    sym (ap (λ front. front ++ source' ∷ rest') (spells_nothing front' also.1)) ∙ sym same ∙ ap (λ front. front ++ source ∷ rest) one.whole
    ∙ append_assoc one.front one.back (source ∷ rest) in
    absurd (stuck_first known (source' ∷ rest') it one.front (one.back ++ source ∷ rest) whole one.first
    (subst (λ (known : Known). BeginsNone known (source' ∷ rest')) (append-nil known) none'))
once_by known (it ∷ its) (that ∷ others) front front' source source' rest rest' fits also none none' same =
    let one = split (external_form known it) (unit_form (known ++ made_by it) its) front fits in
    let other = split (external_form known that) (unit_form (known ++ made_by that) others) front' also in
    let whole : one.front ++ (one.back ++ source ∷ rest) ≡ other.front ++ (other.back ++ source' ∷ rest') =
    sym (ap (λ front. front ++ source ∷ rest) one.whole ∙ append_assoc one.front one.back (source ∷ rest)) ∙ same
    ∙ ap (λ front. front ++ source' ∷ rest') other.whole ∙ append_assoc other.front other.back (source' ∷ rest') in
    let first = same_first known it that one.front (one.back ++ source ∷ rest) other.front (other.back ++ source' ∷ rest') whole one.first other.first in
    let behind : IsOf (unit_form (known ++ made_by it) others) other.back =
    subst (λ (them : ExternalDeclaration). IsOf (unit_form (known ++ made_by them) others) other.back) (sym first.0) other.second in
    let none'' : BeginsNone (known ++ (made_by it ++ names_of others)) (source' ∷ rest') =
    subst (λ (them : ExternalDeclaration). BeginsNone (known ++ (made_by them ++ names_of others)) (source' ∷ rest')) (sym first.0) none' in
    once_by (known ++ made_by it) its others one.back other.back source source' rest rest' one.second behind
    (subst (λ (known : Known). BeginsNone known (source ∷ rest)) (sym (append_assoc known (made_by it) (names_of its))) none)
    (subst (λ (known : Known). BeginsNone known (source' ∷ rest')) (sym (append_assoc known (made_by it) (names_of others))) none'') first.1

-- the place at which the reading is stuck is one
pub stuck_once : (tokens : List SourceToken) (one other : Pos) → IsStuck tokens one → IsStuck tokens other → one ≡ other
stuck_once tokens one other first second =
    first.place
    ∙ ap (λ source. source.token.pos)
    (once_by [] first.externals second.externals first.front second.front first.source second.source first.rest second.rest first.before second.before
    first.none second.none (sym first.whole ∙ second.whole))
    ∙ sym second.place
