-- What is kept for a brace is what the entries of the map have at it.
use Rattle.std.proofs.Common.{◌≡◌, List, [], ◌∷◌, refl}
use Rattle.std.specs.Map.{lookup}
use Rattle.hs_typer.specs.Origins.{same_brace, kept_for}
use Rattle.hs_typer.specs.declared.origins.Brace.{Brace}

pub kept_looked : {A : Type 0} → (brace : Brace) (its : List (Brace × A)) → lookup (same_brace brace) its ≡ kept_for brace its
kept_looked brace [] = refl
kept_looked brace (it ∷ rest) = rw (kept_looked brace rest) refl
