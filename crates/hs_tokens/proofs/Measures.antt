-- How far a measure has come: so many bytes after it, and what the rest has.
use Rattle.std.proofs.Common.{ℕ, ◌+◌, Option, Some, None}

-- so many bytes and those that are counted from there
abbrev pub further : ℕ → Option ℕ → Option ℕ
further len None = None
further len (Some more) = Some (len + more)
