-- What `answer` ensures, status by status.
use Rattle.hs_command.proofs.Calls.{headline_of, causes_of, nothing_read}
use Rattle.hs_command.proofs.command.run.Goals as goal

pub returns-clause-no_read : goal.returns-clause-no_read
returns-clause-no_read g c none =
    let made = c.answer.ensures.answered in nothing_read _ c.args.files.now c.answer.new.files _ c.answer.result made.1 made.2 none

pub returns-clause-headline : goal.returns-clause-headline
returns-clause-headline g c =
    let made = c.answer.ensures.answered in
    (made.0, made.1, headline_of _ c.answer.result c.safe_without_stale_uses.ensures made.2)

pub returns-clause-causes : goal.returns-clause-causes
returns-clause-causes g c =
    let made = c.answer.ensures.answered in (made.0, made.1, causes_of _ c.answer.result c.units_are_unambiguous.ensures made.2)
