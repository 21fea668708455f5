use Rattle.std.proofs.Common.{◌≡◌, map, length}
use Rattle.hs_syntax.specs.Views.{view_external}
use Rattle.hs_decl_parser.specs.Units.{names_of}
use Rattle.hs_decl_parser.proofs.Exact.{Parsed}
use Rattle.hs_decl_parser.proofs.units.externals.Given as goal

-- the external declarations so far, and the typedef names that they make
abbrev pub invariant-externals : goal.invariant-externals
invariant-externals l = Parsed l.tokens (map view_external l.its.items) l.rest × (l.known ≡ names_of (map view_external l.its.items))

abbrev pub decreases-externals : goal.decreases-externals
decreases-externals l = length l.rest
