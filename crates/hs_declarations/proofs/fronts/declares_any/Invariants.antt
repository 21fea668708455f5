use Rattle.std.proofs.Common.{◌≡◌, drop}
use Rattle.hs_declarations.specs.Fronts.{declares_any}
use Rattle.hs_syntax.specs.Views.{specification_of}
use Rattle.hs_declarations.proofs.fronts.declares_any.Given as goal

-- the specifiers that are left decide
abbrev pub invariant-its : goal.invariant-its
invariant-its l = declares_any (specification_of (drop l.it-index l.its)) ≡ declares_any (specification_of l.its)
