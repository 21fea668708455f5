-- Files and a sink that are kept in memory. Own to this project.
--     counts_of files              the counts of files in memory
--     AnswersRead ..               what a read of files in memory answers
--     put_front ..                 the front of a piece that a put into a sink in memory writes
--     put_succeeds ..              whether that put succeeds
use Rattle.std.specs.Prelude.{◌≡◌, ℕ, ◌-◌, ◌/◌, ◌==◌, nat_lt, nat_le, min, Bool, false, List, length, Option, Some, None, Result, Err, IsOkUnless, if◌then◌else◌}
use Rattle.std.specs.Bool.{MatchBool}
use Rattle.std.specs.List.{list_any}
use Rattle.hs_base.specs.Count.{raised}
use Rattle.hs_base.specs.Files.{Listing, Counts, file_of}
use Rattle.hs_base.specs.declared.errors.FileEnd.{FileEnd}
use Rattle.hs_base.specs.declared.errors.FileEnd.TheVariants as end

-- the number is among them
abbrev pub is_among : List ℕ → ℕ → Bool
is_among numbers number = list_any (λ n. n == number) numbers

-- what a contract sees of files in memory
pub record MemoryFiles : Type 0 where
  pub listing : Listing
  -- the numbers, from 1, of the reads that fail
  pub failing : List ℕ
  pub reads : ℕ
  pub misses : ℕ
  pub faults : ℕ

-- its counts, as those of any files
abbrev pub counts_of : MemoryFiles → Counts
counts_of files = record { misses = files.misses; faults = files.faults }

-- an answer by the file alone: missing, too long, or its bytes unless memory runs out
abbrev pub AnswersFile : ℕ → Option (List ℕ) → Result Unit FileEnd → Type 0
AnswersFile max None result = result ≡ Err end.Missing
AnswersFile max (Some bytes) result = MatchBool (nat_lt max (length bytes)) (result ≡ Err end.TooLong) (IsOkUnless result end.NoMemory)

-- the read fails if its number says so, and else answers by the file
abbrev pub AnswersRead : MemoryFiles → List ℕ → ℕ → Result Unit FileEnd → Type 0
AnswersRead files name max result =
    MatchBool (is_among files.failing (raised files.reads))
    (result ≡ Err end.Failed)
    (AnswersFile max (file_of files.listing name) result)

-- what a contract sees of a sink in memory
pub record MemorySink : Type 0 where
  pub written : List ℕ
  -- how many bytes it may hold
  pub room : ℕ
  -- the numbers, from 1, of the puts that fail
  pub failing : List ℕ
  pub puts : ℕ
  pub faults : ℕ

-- the put is one that fails by its number
abbrev pub put_fails : MemorySink → Bool
put_fails sink = is_among sink.failing (raised sink.puts)

-- how many bytes a put may write: half of the piece, rounded down, if it fails by its number, and never more than fit
abbrev pub put_len : MemorySink → List ℕ → ℕ
put_len sink piece = min (if put_fails sink then length piece / 2 else length piece) (sink.room - length sink.written)

-- the put writes the whole piece
abbrev pub put_succeeds : MemorySink → List ℕ → Bool
put_succeeds sink piece = if put_fails sink then false else nat_le (length piece) (sink.room - length sink.written)
