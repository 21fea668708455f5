-- What `unit` answers.
--     depth                     the limit of nesting
--     names_of externals        the typedef names that external declarations make, in order
--     IsStuck tokens pos        after external declarations, none begins at that place
--     IsParsed, IsRefusedAt     the tokens are a unit that nests no more deeply than may be; they are not
use Rattle.std.specs.Prelude.{◌≡◌, ℕ, List, [], ◌∷◌, ◌++◌, take}
use Rattle.hs_base.specs.Limit.{number_of}
use Rattle.hs_base.specs.declared.limit.Limit.{Limit}
use Rattle.hs_base.specs.declared.limit.LimitKind.TheVariants.{Depth}
use Rattle.hs_base.specs.declared.pos.Pos.{Pos}
use Rattle.hs_tokens.specs.declared.token.SourceToken.{SourceToken}
use Rattle.hs_syntax.specs.Forms.{IsOf}
use Rattle.hs_syntax.specs.Grammar.{external_form, IsUnit}
use Rattle.hs_syntax.specs.Nesting.{IsShallow}
use Rattle.hs_syntax.specs.Phrases.{made_by}
use Rattle.hs_syntax.specs.Trees.{ExternalDeclaration, TranslationUnit}

-- the limit that a text passes which nests more deeply
abbrev pub depth : Limit
depth = record { kind = Depth; reached = number_of Depth }

-- the typedef names that external declarations make, in order
abbrev pub names_of : TranslationUnit → List (List ℕ)
names_of [] = []
names_of (it ∷ rest) = made_by it ++ names_of rest

-- no external declaration stands in front of the tokens, if these typedef names are known
abbrev pub BeginsNone : List (List ℕ) → List SourceToken → Type 0
BeginsNone known tokens = (n : ℕ) (it : ExternalDeclaration) → IsOf (external_form known it) (take n tokens) → ⊥

-- After external declarations, at that place, the tokens go on with none: the first external declaration that is wrong.
pub record IsStuck (tokens : List SourceToken) (pos : Pos) : Type 0 where
  pub externals : TranslationUnit
  pub front : List SourceToken
  pub source : SourceToken
  pub rest : List SourceToken
  pub whole : tokens ≡ front ++ source ∷ rest
  pub before : IsUnit front externals
  pub none : BeginsNone (names_of externals) (source ∷ rest)
  pub place : pos ≡ source.token.pos

-- the tokens are a unit, and nest no more deeply than may be
abbrev pub IsParsed : List SourceToken → Type 0
IsParsed tokens = IsShallow tokens × ((it : TranslationUnit) × IsUnit tokens it)

-- They nest no more deeply than may be, and are no unit: the first external declaration that is wrong begins at that place.
abbrev pub IsRefusedAt : List SourceToken → Pos → Type 0
IsRefusedAt tokens pos = IsShallow tokens × IsStuck tokens pos × ((it : TranslationUnit) → IsUnit tokens it → ⊥)
