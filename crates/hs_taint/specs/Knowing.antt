-- What is known at an operation, as the tables answer it.
use Rattle.hs_chains.specs.Answering.{given_by}
use Rattle.hs_effects.specs.Calling.{whole_of}
use Rattle.hs_flow.specs.Given.{Given}
use Rattle.hs_taint.specs.declared.known.Known.{Known}

-- before the operation of `it`
abbrev pub given_at : Known → Given
given_at it = given_by (whole_of it.code.now) it.effects.now it.must.now it.function it.at
