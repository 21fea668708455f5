-- Units of the grammar have none that is not in it, and the first that is wrong is so in one way. Typing them comes to one outcome.
use Rattle.std.proofs.Common.{◌≡◌, List, [], ◌∷◌, ◌++◌, Result, sym, subst, ap, ap₂, ◌∙◌, refl}
use Rattle.hs_base.specs.declared.pos.Pos.{Pos}
use Rattle.hs_tokens.specs.declared.token.SourceToken.{SourceToken}
use Rattle.hs_syntax.specs.Grammar.{IsUnit}
use Rattle.hs_syntax.specs.Nesting.{IsShallow}
use Rattle.hs_syntax.specs.Trees.{TranslationUnit}
use Rattle.hs_decl_parser.specs.Units.{IsParsed, IsRefusedAt}
use Rattle.hs_table.specs.declared.routine.Routine.{Routine}
use Rattle.hs_tree.specs.Trees.{TypedProgram}
use Rattle.hs_typing.specs.Programs.{typed}
use Rattle.hs_typing.specs.declared.program.ProgramError.{ProgramError}
use Rattle.hs_source.specs.Laws.{are_parsed}
use Rattle.hs_source.specs.Source.{AreParsed, AreTrees, AreTyped, IsFirst, HasSyntaxAt, IsTooDeep}

-- units with the same front have the same first one and the same others
first_is : (one other : List SourceToken) (rest behind : List (List SourceToken)) → one ∷ rest ≡ other ∷ behind → one ≡ other
first_is one other rest behind same = cc

rest_is : (one other : List SourceToken) (rest behind : List (List SourceToken)) → one ∷ rest ≡ other ∷ behind → rest ≡ behind
rest_is one other rest behind same = cc

-- a unit that stands among units of the grammar is one
parsed_in : (before : List (List SourceToken)) (tokens : List SourceToken) (behind : List (List SourceToken))
    → AreParsed (before ++ tokens ∷ behind) → IsParsed tokens
parsed_in [] tokens behind all = all.0
parsed_in (first ∷ rest) tokens behind all = parsed_in rest tokens behind all.1

module _ (P Q : List SourceToken → Type 0) (no_p : (tokens : List SourceToken) → IsParsed tokens → P tokens → ⊥) where
  -- units of the grammar have none that is not
  no_first : (units : List (List SourceToken)) → AreParsed units → IsFirst units P → ⊥
  no_first units all first = no_p first.tokens (parsed_in first.before first.tokens first.behind (subst AreParsed first.whole all)) first.is

  -- the first that is not in the grammar is the same one
  module _ (no_q : (tokens : List SourceToken) → IsParsed tokens → Q tokens → ⊥) (apart : (tokens : List SourceToken) → P tokens → Q tokens → ⊥) where
    one_first : (before front : List (List SourceToken)) (one other : List SourceToken) (behind rest : List (List SourceToken))
        → before ++ one ∷ behind ≡ front ++ other ∷ rest → AreParsed before → AreParsed front → P one → Q other → ⊥
    one_first [] [] one other behind rest same parsed before p q = apart other (subst P (first_is one other behind rest same) p) q
    one_first [] (unit ∷ front) one other behind rest same parsed before p q =
        no_p unit before.0 (subst P (first_is one unit behind (front ++ other ∷ rest) same) p)
    one_first (unit ∷ units) [] one other behind rest same parsed before p q =
        no_q unit parsed.0 (subst Q (sym (first_is unit other (units ++ one ∷ behind) rest same)) q)
    one_first (unit ∷ units) (next ∷ front) one other behind rest same parsed before p q =
        one_first units front one other behind rest (rest_is unit next (units ++ one ∷ behind) (front ++ other ∷ rest) same) parsed.1 before.1 p q

    no_other : (units : List (List SourceToken)) → IsFirst units P → IsFirst units Q → ⊥
    no_other units first other =
        one_first first.before other.before first.tokens other.tokens first.behind other.behind (sym first.whole ∙ other.whole)
        first.parsed other.parsed first.is other.is

-- a unit that is refused at a place is not one
refused_is_none : (pos : Pos) (tokens : List SourceToken) → IsParsed tokens → IsRefusedAt tokens pos → ⊥
refused_is_none pos tokens parsed refused = refused.2 parsed.1.0 parsed.1.1

-- a unit that nests too deeply is not one
deep_is_none : (tokens : List SourceToken) → IsParsed tokens → (IsShallow tokens → ⊥) → ⊥
deep_is_none tokens parsed deep = deep parsed.0

-- if all units are of the grammar, none is refused at a place
parsed-no_syntax : (units : List (List SourceToken)) (pos : Pos) → AreParsed units → HasSyntaxAt units pos → ⊥
parsed-no_syntax units pos = no_first (λ tokens. IsRefusedAt tokens pos) IsParsed (refused_is_none pos) units

-- and none nests too deeply
parsed-not_deep : (units : List (List SourceToken)) → AreParsed units → IsTooDeep units → ⊥
parsed-not_deep units = no_first (λ tokens. IsShallow tokens → ⊥) IsParsed deep_is_none units

-- if the first that is wrong is refused at a place, it does not nest too deeply
pub syntax-not_deep : (units : List (List SourceToken)) (pos : Pos) → HasSyntaxAt units pos → IsTooDeep units → ⊥
syntax-not_deep units pos =
    no_other (λ tokens. IsRefusedAt tokens pos) (λ tokens. IsShallow tokens → ⊥) (refused_is_none pos) deep_is_none
    (λ tokens refused deep. deep refused.0) units

-- if units are typed, none of them is refused at a place
pub typed-no_syntax : (table : List Routine) (units : List (List SourceToken)) (outcome : Result TypedProgram ProgramError) (pos : Pos)
    → AreTyped table units outcome → HasSyntaxAt units pos → ⊥
typed-no_syntax table units outcome pos are = parsed-no_syntax units pos (are_parsed units are.0 are.1)

-- and none nests too deeply
pub typed-not_deep : (table : List Routine) (units : List (List SourceToken)) (outcome : Result TypedProgram ProgramError)
    → AreTyped table units outcome → IsTooDeep units → ⊥
typed-not_deep table units outcome are = parsed-not_deep units (are_parsed units are.0 are.1)

-- the grammar is not ambiguous
abbrev pub AreUnique : Type 0
AreUnique = (tokens : List SourceToken) (one other : TranslationUnit) → IsUnit tokens one → IsUnit tokens other → one ≡ other

module _ (unique : AreUnique) where
  -- so the trees of units are known
  same_trees : (units : List (List SourceToken)) (one other : List TranslationUnit) → AreTrees units one → AreTrees units other → one ≡ other
  same_trees [] [] [] are too = refl
  same_trees [] [] (tree ∷ trees) are too = absurd too
  same_trees [] (tree ∷ trees) other are too = absurd are
  same_trees (tokens ∷ units) [] other are too = absurd are
  same_trees (tokens ∷ units) (tree ∷ trees) [] are too = absurd too
  same_trees (tokens ∷ units) (tree ∷ trees) (tree' ∷ trees') are too =
      ap₂ (λ (t : TranslationUnit) (ts : List TranslationUnit). t ∷ ts) (unique tokens tree tree' are.1 too.1) (same_trees units trees trees' are.2 too.2)

  -- and what they come to
  pub same_outcome : (table : List Routine) (units : List (List SourceToken)) (one other : Result TypedProgram ProgramError)
      → AreTyped table units one → AreTyped table units other → one ≡ other
  same_outcome table units one other are too =
      sym are.2 ∙ ap (typed table) (same_trees units are.0 too.0 are.1 too.1) ∙ too.2
