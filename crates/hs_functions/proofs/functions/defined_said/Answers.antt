use Rattle.hs_functions.proofs.functions.defined_said.Goals as goal

-- the name and the parameters are those of the declarator
pub returns : goal.returns
returns c =
    rw (c.in_ok-may_store.ensures, ← c.word_of-word.ensures, ← c.parameters_of-parameters.ensures) c.defined_by.ensures
