use Rattle.std.proofs.Common.{ap, length, ◌++◌, ◌∙◌, arith}
use Rattle.hs_plain.proofs.Filling.{put_more, cut, length_cut}
use Rattle.hs_plain.proofs.words.filling.Goals as goal

-- one word more
pub words-preserved : goal.words-preserved
words-preserved c =
    put_more _ _ _ _ _ c.words.invariant c.word_at.ensures
    (c.in_ok-extend_from_slice.ensures.items ∙ ap (λ its. c.words.cells.items ++ its) c.cells_of.ensures)

-- all words
pub returns-clause-cells : goal.returns-clause-cells
returns-clause-cells c = c.truncate.ensures.items ∙ cut _ _ _ _ c.words.invariant (omega arith)

-- are enough
pub returns-clause-all : goal.returns-clause-all
returns-clause-all c = ap length c.truncate.ensures.items ∙ length_cut _ _ _ _ c.words.invariant (omega arith)
