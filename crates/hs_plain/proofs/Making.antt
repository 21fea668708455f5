-- Blocks that are made as results.
use Rattle.std.proofs.Common.{◌≡◌, refl, ap, sym, subst, ◌∙◌, ℕ, ◌+◌, pos, Bool, true, false, List, [], ◌∷◌, ◌++◌, length, drop, replicate, Some, Result, Ok, Err, slice_set, rules, arith, tests}
use native.Mathlib.Numerals.{unary_clauses}
use Rattle.std.proofs.lemmas.List.{append-nil, length-replicate}
use Rattle.std.proofs.Math.ListN.{drop_of_length-le}
use Rattle.hs_heap.specs.Blocks.{Block, new_block, place_for}
use Rattle.hs_heap.specs.Memory.{put_block}
use Rattle.hs_heap.specs.declared.cell.Cell.{Cell}
use Rattle.hs_heap.specs.declared.cell.Cell.TheVariants.{Undefined, Byte}
use Rattle.hs_heap.specs.declared.cell.Pointer.TheVariants.{Handle}
use Rattle.hs_heap.specs.BlockLaws.{block_at_last}
use Rattle.hs_meaning.specs.Accesses.{with_cells_from}
use Rattle.hs_meaning.specs.Handles.{handle_if, with_block}
use Rattle.hs_meaning.specs.Machine.{Machine, done, with_blocks}
use Rattle.hs_meaning.specs.Plain.{made_block}
use Rattle.hs_meaning.specs.Values.{pointer}
use Rattle.hs_plain.specs.Steps.{cleared_block, number_if}
use Rattle.hs_state.specs.Machines.{Does}
use Rattle.hs_values.specs.declared.halt.Halt.{Halt}
use Rattle.hs_values.specs.declared.halt.Halt.TheVariants.{Stopped, NoMemory}

-- another one there
pub last_set : {A : Type 0} (items : List A) (old new : A) → slice_set (items ++ old ∷ []) (length items) new ≡ items ++ new ∷ []
last_set [] old new = refl
last_set (first ∷ items) old new = ap (λ its. first ∷ its) (last_set items old new)

-- another one in its place
pub put_last : (blocks : List Block) (old new : Block) → put_block (blocks ++ old ∷ []) (length blocks + 1) new ≡ blocks ++ new ∷ []
put_last blocks old new = simp unary_clauses (last_set blocks old new)

-- all cells are replaced
pub all_cells : (old new : List Cell) → length new ≡ length old → with_cells_from (pos 0) new old ≡ new
all_cells old new same =
    let nothing : drop (0 + length new) old ≡ [] = drop_of_length-le old (omega arith)
    in ap (λ its. new ++ its) nothing ∙ append-nil new

-- all cells of a new block are inside it
pub inside_new : (block size : ℕ) → place_for (record { block = block; life = 0; epoch = 0; offset = pos 0 }) size (new_block size) ≡ Ok 0
inside_new block size = simp length-replicate (search (rules, tests))

-- zeros in a block that was just made
pub cleared : (size : ℕ) (machine : Machine)
    → cleared_block (length machine.blocks + 1) size (with_block true size machine) ≡ done (tt {0}) (made_block true size machine)
cleared size machine =
    let made = new_block size
    in let zeros = replicate size (Byte 0)
    in let all : with_cells_from (pos 0) zeros (replicate size Undefined) ≡ zeros =
    all_cells (replicate size Undefined) zeros (length-replicate size (Byte 0) ∙ sym (length-replicate size Undefined))
    in let put : put_block (machine.blocks ++ made ∷ []) (length machine.blocks + 1)
    (record made { cells = with_cells_from (pos 0) zeros (replicate size Undefined) })
    ≡ machine.blocks ++ record made { cells = zeros } ∷ [] =
    ap (λ its. put_block (machine.blocks ++ made ∷ []) (length machine.blocks + 1) (record made { cells = its })) all
    ∙ put_last machine.blocks made (record made { cells = zeros })
    in rw (block_at_last machine.blocks made, inside_new (length machine.blocks + 1) size) (ap (λ its. done (tt {0}) (with_blocks its machine)) put)

-- the block that was made is cleared
pub clears : (room : Bool) (size : ℕ) (machine made after : Machine) (block : ℕ) (result : Result (Unit {0}) Halt) → Some block ≡ number_if room machine
    → made ≡ with_block room size machine → Does (cleared_block block size made) after result
    → Does (done (tt {0}) (made_block room size machine)) after result
clears false size machine made after block result is there does = absurd cc
clears true size machine made after block result is there does =
    let number : block ≡ length machine.blocks + 1 = cc
    in subst (λ it. Does it after result)
    (ap (λ at. cleared_block at size made) number ∙ ap (cleared_block (length machine.blocks + 1) size) there ∙ cleared size machine) does

-- its handle
pub its_handle : (room : Bool) (machine : Machine) (block : ℕ) → Some block ≡ number_if room machine → pointer (Handle block) ≡ handle_if room machine
its_handle true machine block is = let number : block ≡ length machine.blocks + 1 = cc in ap (λ it. pointer (Handle it)) number
its_handle false machine block is = absurd cc

-- out of memory
pub no_stop : {A B : Type 0} (it : A) (other : B) (after elsewhere now : Machine) (why : Halt) → Does (done it after) now (Err why)
    → Does (done other elsewhere) now (Err why)
no_stop it other after elsewhere now (Stopped stop) does = absurd does
no_stop it other after elsewhere now NoMemory does = tt {0}
