-- The file is sought among those that were not looked at yet.
use Rattle.std.proofs.Common.{◌≡◌, map, drop}
use Rattle.std.specs.String.{string_bytes}
use Rattle.hs_base.specs.Files.{file_of}
use Rattle.hs_memory.proofs.mem_files.find_file.Given as goal

abbrev pub invariant-loop-file : goal.invariant-loop-file
invariant-loop-file l =
    file_of (map (λ file. (string_bytes file.0, file.1.items)) (drop l.file-index l.listing)) l.name
    ≡ file_of (map (λ file. (string_bytes file.0, file.1.items)) l.listing) l.name
