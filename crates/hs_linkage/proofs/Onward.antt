-- Places, so many on.
use Rattle.std.proofs.Common.{◌≡◌, ℕ, suc, Option, None, Some, refl, ap, arith}
use Rattle.hs_linkage.specs.Indexes.{onward}
use Rattle.hs_linkage.specs.Definitions.{later}

pub onward_here : (number : ℕ) → onward number (Some 0) ≡ Some number
onward_here number = ap Some (omega arith)

pub onward_later : (number : ℕ) (found : Option ℕ) → onward number (later found) ≡ onward (suc number) found
onward_later number None = refl
onward_later number (Some place) = ap Some (omega arith)

pub onward_start : (found : Option ℕ) → onward 0 found ≡ found
onward_start None = refl
onward_start (Some place) = ap Some (omega arith)
