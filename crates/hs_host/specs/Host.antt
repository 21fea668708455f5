-- What a put to a writer of the system does, if it fails. Own to this project.
--     AppendsFront told told' piece   the known bytes grew by a front of the piece
use Rattle.std.specs.Prelude.{ℕ, List, Option}
use Rattle.std.specs.Io.KnownBytes.{Appends}
use Rattle.hs_base.specs.Sink.{IsFrontOf}

-- If the bytes of the writer are known, they grew by a front of the piece.
abbrev pub AppendsFront : Option (List ℕ) → Option (List ℕ) → List ℕ → Type 0
AppendsFront told told' piece = (front : List ℕ) × IsFrontOf front piece × Appends told told' front
