-- What functions get from those that they call is what chains of calls lead to.
use Rattle.std.proofs.Common.{ℕ, ◌<◌, ◌↔◌, List, ap}
use Rattle.std.specs.Bool.{Decides}
use Rattle.std.specs.declared.alloc.Global.{Global}
use Rattle.std.specs.declared.vec.Vec.{Vec}
use Rattle.hs_code.specs.declared.op.Op.{Op}
use Rattle.hs_effects.proofs.Forms.{is_set}
use Rattle.hs_effects.specs.Calling.{AreCallers, Gets, itself, called}
use Rattle.hs_effects.specs.Owning.{Assigned, Owns, assigned_by}
use Rattle.hs_effects.specs.Working.{IsIn}
use Rattle.hs_facts.specs.Effects.{WholeCode, Assigns, Does, Leads, through}
use Rattle.hs_facts.specs.Effects as effects
use Rattle.hs_facts.specs.Laws.Effects.{Does-called}
use Rattle.hs_rows.specs.Sets.{Sets, has, width}

module _ (Has : ℕ → ℕ → Op → ℕ → Type 0) (whole : WholeCode) (rows : List (Vec ℕ Global)) (Own : ℕ → ℕ → Type 0) (right : AreCallers whole rows)
    (own : (f b : ℕ) → Own f b ↔ Owns Has whole f b) where
  pub gets_does : (f b : ℕ) → Gets rows Own f b → Does whole f (λ last at its. Has last at its b)
  gets_does f b (itself g d is) =
      let it = (own f b).0 is in
      record { last = f; leads = effects.itself f; at = it.at; its = it.its; there = it.there; so = it.has }
  gets_does f b (called c g d calls gets) =
      Does-called whole (λ last at its. Has last at its b) f g ((right g f).0 calls) (gets_does g b gets)

  along : (f last b : ℕ) → Leads whole f last → Own last b → Gets rows Own f b
  along f last b (effects.itself it) is = itself f b is
  along f last b (through it g end calls leads) is = called f g b ((right g f).1 calls) (along g last b leads is)

  pub does_gets : (f b : ℕ) → Does whole f (λ last at its. Has last at its b) → Gets rows Own f b
  does_gets f b does =
      along f does.last b does.leads ((own does.last b).1 (record { at = does.at; its = does.its; there = does.there; has = does.so }))

-- ---- assigned globals

to_set : (whole : WholeCode) (f g : ℕ) → Does whole f (λ last at its. Assigned last at its g) → Assigns whole f g
to_set whole f g does =
    record { last = does.last; leads = does.leads; at = does.at; its = does.its; there = does.there; so = is_set does.its.op g does.so }

from_set : (whole : WholeCode) (f g : ℕ) → Assigns whole f g → Does whole f (λ last at its. Assigned last at its g)
from_set whole f g does =
    record { last = does.last; leads = does.leads; at = does.at; its = does.its; there = does.there; so = ap assigned_by does.so }

pub assigns_exactly : (whole : WholeCode) (callers : List (Vec ℕ Global)) (own closed : Sets) → AreCallers whole callers
    → ((f b : ℕ) → IsIn own f b ↔ Owns Assigned whole f b) → ((f b : ℕ) → IsIn closed f b ↔ Gets callers (IsIn own) f b)
    → (f g : ℕ) → f < closed.count → g < width closed → Decides (has closed f g) (Assigns whole f g)
assigns_exactly whole callers own closed right owns gets f g below within = (
  (λ is. to_set whole f g (gets_does Assigned whole callers (IsIn own) right owns f g ((gets f g).0 (below, within, is)))),
  (λ assigns. ((gets f g).1 (does_gets Assigned whole callers (IsIn own) right owns f g (from_set whole f g assigns))).2),
)
