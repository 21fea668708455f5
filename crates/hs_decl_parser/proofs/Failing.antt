-- What errors that are the same hold.
use Rattle.std.proofs.Common.{◌≡◌, Result, Err}
use Rattle.hs_base.specs.declared.pos.Pos.{Pos}
use Rattle.hs_decl_parser.specs.declared.parse_error.ParseError.{ParseError}
use Rattle.hs_decl_parser.specs.declared.parse_error.ParseError.TheVariants.{Syntax}

-- results with the same error
pub same_error : {A : Type 0} (one other : ParseError) → ◌≡◌ {A = Result A ParseError} (Err one) (Err other) → one ≡ other
same_error one other is = cc

-- results that are refused at the same place
pub same_place : {A : Type 0} (one other : Pos) → ◌≡◌ {A = Result A ParseError} (Err (Syntax one)) (Err (Syntax other)) → one ≡ other
same_place one other is = cc
