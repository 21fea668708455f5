use Rattle.hs_typing.proofs.program.whole.Goals as goal

-- what is asked of the parts is what a program keeps
pub invariant_of-result : goal.invariant_of-result
invariant_of-result c = record { fits = ∣ c.requires.fits ∣₁ }
