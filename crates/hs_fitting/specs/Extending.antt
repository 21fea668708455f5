-- What is known of a program after a declaration or the body of a function extends what was known before it (`Moves`).
--     DeclarationsExtend, BodiesExtend        the laws
use Rattle.hs_declarations.specs.Declarations.{file_declared, block_declared}
use Rattle.hs_expressions.specs.Laws.{IsScoped}
use Rattle.hs_fitting.specs.Blocks.{block_declared_moved}
use Rattle.hs_fitting.specs.Declaring.{file_declared_moved}
use Rattle.hs_fitting.specs.Moving.{Moving}
use Rattle.hs_fitting.specs.Stating.{body_moved}
use Rattle.hs_linkage.specs.declared.translator.Translator.{Translator}
use Rattle.hs_statements.specs.Statements.{body_of}
use Rattle.hs_syntax.specs.Trees.{Compound, Declaration}
use Rattle.hs_tokens.specs.declared.place.Place.{Place}
use Rattle.hs_types.specs.declared.row.TypeId.{TypeId}

-- a declaration of file scope, and one of a block
abbrev pub DeclarationsExtend : Type 0
DeclarationsExtend = (other : Place) (it : Declaration) (m : Translator) → IsScoped m.typer
    → Moving m (file_declared other it m) × Moving m (block_declared other it m)

pub declarations_extend : DeclarationsExtend
declarations_extend other it m scoped = ((file_declared_moved other it).from m scoped, (block_declared_moved other it).from m scoped)

-- the body of a function that gives that type
abbrev pub BodiesExtend : Type 0
BodiesExtend = (id : TypeId) (it : Compound) (m : Translator) → IsScoped m.typer → Moving m (body_of id it m)

pub bodies_extend : BodiesExtend
bodies_extend id it m scoped = (body_moved id it).from m scoped
