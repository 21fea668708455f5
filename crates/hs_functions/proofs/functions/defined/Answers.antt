use Rattle.hs_functions.proofs.functions.defined.Goals as goal

-- after the specifiers
pub returns : goal.returns
returns c =
    rw (← c.brace_of.ensures, ← c.first_place-at.ensures, c.in_ok-said.ensures, ← c.storage_place-stored.ensures) c.defined_said.ensures
