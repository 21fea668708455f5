-- What a read means. Own to this project.
--     file_of files name           the bytes of the file of that name
--     Read                         a read that was made: what was asked for, what it gave, and the counts
--     IsRead told read             what each answer of a read says
--     counts_after counts answer   the counts after a read that counts nothing but what its answer says
use Rattle.std.specs.Prelude.{◌≡◌, ℕ, ◌<◌, ◌≤◌, List, [], ◌∷◌, length, Option, Some, None, Result, Ok, Err, IfSome, if◌then◌else◌}
use Rattle.std.specs.Str.{bytes_eq}
use Rattle.hs_base.specs.Count.{HasRisen, IsSteady, raised}
use Rattle.hs_base.specs.declared.errors.FileEnd.{FileEnd}
use Rattle.hs_base.specs.declared.errors.FileEnd.TheVariants.{Missing, Failed, TooLong, NoMemory}

-- names, and the bytes of the file of each
abbrev pub Listing : Type 0
Listing = List (List ℕ × List ℕ)

-- the file of that name, if it is listed
abbrev pub file_of : Listing → List ℕ → Option (List ℕ)
file_of [] name = None
file_of (file ∷ files) name = if bytes_eq file.0 name then Some file.1 else file_of files name

-- the counts of a `Files`: names that were not there, and failures of the outside
pub record Counts : Type 0 where
  pub misses : ℕ
  pub faults : ℕ

-- no count falls
pub record NeverFall (before now : Counts) : Type 0 where
  pub misses : before.misses ≤ now.misses
  pub faults : before.faults ≤ now.faults

-- A missing file counts one miss, a failure of the outside one fault, and nothing else is counted.
abbrev pub counts_after : {A : Type 0} → Counts → Result A FileEnd → Counts
counts_after counts (Ok _) = counts
counts_after counts (Err Missing) = record { misses = raised counts.misses; faults = counts.faults }
counts_after counts (Err Failed) = record { misses = counts.misses; faults = raised counts.faults }
counts_after counts (Err TooLong) = counts
counts_after counts (Err NoMemory) = counts

-- A read that was made: the name and the most bytes that were asked for, the bytes that it gave or why it gave none, and
-- the counts before it and after it.
pub record Read : Type 0 where
  pub name : List ℕ
  pub max : ℕ
  pub answer : Result (List ℕ) FileEnd
  pub before : Counts
  pub now : Counts

-- what a read returned: the bytes in its buffer, or why there are no bytes
abbrev pub answer_of : List ℕ → Result Unit FileEnd → Result (List ℕ) FileEnd
answer_of into (Ok _) = Ok into
answer_of into (Err end) = Err end

-- the read of a call
abbrev pub read_of : List ℕ → ℕ → List ℕ → Result Unit FileEnd → Counts → Counts → Read
read_of name max into result before now =
    record { name = name; max = max; answer = answer_of into result; before = before; now = now }

-- what each answer says, of a listing if one is known
abbrev pub IsAnswer : Option Listing → List ℕ → ℕ → Counts → Counts → Result (List ℕ) FileEnd → Type 0
-- they are the file's bytes, at most so many
IsAnswer told name max before now (Ok bytes) = (length bytes ≤ max) × IfSome told (λ files. file_of files name ≡ Some bytes)
-- no such file: a miss is counted, and unless the outside failed too, the name is not listed
IsAnswer told name max before now (Err Missing) =
    HasRisen before.misses now.misses
    × IfSome told (λ files. IsSteady before.faults now.faults → file_of files name ≡ None)
-- the outside failed: a fault is counted
IsAnswer told name max before now (Err Failed) = HasRisen before.faults now.faults
-- the file has more bytes
IsAnswer told name max before now (Err TooLong) =
    IfSome told (λ files. (bytes : List ℕ) × (file_of files name ≡ Some bytes) × (max < length bytes))
-- memory ran out
IsAnswer told name max before now (Err NoMemory) = Unit {0}

-- the read's answer is right
abbrev pub IsRead : Option Listing → Read → Type 0
IsRead told read = IsAnswer told read.name read.max read.before read.now read.answer
