-- The read that was made, which gave no text.
use Rattle.std.proofs.Common.{Err, refl}
use Rattle.hs_base.specs.Files.{read_of}
use Rattle.hs_settings.specs.Settings.{end_of}
use Rattle.hs_settings.proofs.reader.text.Goals as goal

pub returns-in-Err-clause-read : goal.returns-in-Err-clause-read
returns-in-Err-clause-read g c = (
  read_of c.args.name.now 4194304 c.read.new.into.items (Err c.in-Err.end) (g.F.Files.counts c.args.files.now) (g.F.Files.counts c.read.new.self),
  record {
    led = c.in-Err.ensures.one_read;
    listing_stays = c.in-Err.ensures.listing_stays;
    before = refl;
    now = refl;
    never_fall = c.in-Err.ensures.counts_stay_up;
    right = c.in-Err.ensures.means;
  },
  (refl, refl),
  (end_of c.args.name.now c.in-Err.end, refl, c.ended.ensures),
)
