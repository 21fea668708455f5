use Rattle.std.proofs.Common.{◌≡◌, map, take}
use Rattle.std.specs.String.{string_bytes}
use Rattle.hs_words.proofs.values.copies.Given as goal

-- the names so far
abbrev pub invariant-values : goal.invariant-values
invariant-values l = map string_bytes l.names.items ≡ map (λ value. value.now) (take l.value-index l.values)
