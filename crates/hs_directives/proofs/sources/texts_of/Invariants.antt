use Rattle.std.proofs.Common.{◌≡◌, ◌++◌, map}
use Rattle.hs_directives.proofs.sources.texts_of.Given as goal

-- those so far, and those ahead
abbrev pub invariant-files : goal.invariant-files
invariant-files l =
    (l.names.items ++ map (λ file. file.name) l.file-iterator.rest.items ≡ map (λ file. file.name) l.fn.files)
    × (l.texts.items ++ map (λ file. file.text) l.file-iterator.rest.items ≡ map (λ file. file.text) l.fn.files)
