use Rattle.std.proofs.Common.{Ok, Err, refl}
use Rattle.hs_directives.proofs.found.text_of.Goals as goal

-- the file's bytes
pub returns-in-Ok-clause-read : goal.returns-in-Ok-clause-read
returns-in-Ok-clause-read g c = record {
  answer = Ok c.read.new.into.items;
  led = record {
    led = c.in-Ok.ensures.one_read;
    listing_stays = c.in-Ok.ensures.listing_stays;
    before = refl;
    now = refl;
    never_fall = c.in-Ok.ensures.counts_stay_up;
    right = c.in-Ok.ensures.means;
  };
  answers = refl;
}

-- or why there are no bytes
pub returns-in-Err-clause-read : goal.returns-in-Err-clause-read
returns-in-Err-clause-read g c = record {
  answer = Err c.in-Err.end;
  led = record {
    led = c.in-Err.ensures.one_read;
    listing_stays = c.in-Err.ensures.listing_stays;
    before = refl;
    now = refl;
    never_fall = c.in-Err.ensures.counts_stay_up;
    right = c.in-Err.ensures.means;
  };
  answers = c.unread.ensures;
}
