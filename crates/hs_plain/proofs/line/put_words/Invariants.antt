use Rattle.std.proofs.Common.{◌≡◌, ◌++◌}
use Rattle.hs_meaning.specs.Plain.{words_of}
use Rattle.hs_plain.proofs.line.put_words.Given as goal

-- the words so far, in front of those that are left, are all
abbrev pub invariant-words : goal.invariant-words
invariant-words l =
    l.output.items ++ words_of l.types l.id-iterator.a.rest.now l.id-iterator.b.rest.now ≡ l.fn.output.items ++ words_of l.types l.ids l.values
