-- Answers of tests.
use Rattle.std.proofs.Common.{◌≡◌, Bool, true, false, not, refl}

pub not_true : {b : Bool} → not b ≡ true → b ≡ false
not_true {b = false} is = refl
not_true {b = true} is = absurd cc

pub not_false : {b : Bool} → not b ≡ false → b ≡ true
not_false {b = true} is = refl
not_false {b = false} is = absurd cc
