use Rattle.std.proofs.Common.{◌≡◌, ◌++◌, drop}
use Rattle.hs_facts.specs.Effects.{disposes, unlocks}
use Rattle.hs_must.specs.Changing.{changes_by, may}
use Rattle.hs_restores.specs.Stepping.{scope_in}
use Rattle.hs_tree.specs.Trees.{TypedFunction}
use Rattle.hs_must.proofs.changing.changes_by.Given as goal

-- those that are left come after what is done
abbrev pub invariant-ops : goal.invariant-ops
invariant-ops l =
    (function : TypedFunction)
    → l.changes.items ++ changes_by (scope_in l.maker.program.now function) l.maker.names.now l.maker.slots.now
    (may l.maker.effects.now l.maker.functions unlocks) (may l.maker.effects.now l.maker.functions disposes) (drop l.its-index l.ops)
    ≡ changes_by (scope_in l.maker.program.now function) l.maker.names.now l.maker.slots.now
    (may l.maker.effects.now l.maker.functions unlocks) (may l.maker.effects.now l.maker.functions disposes) l.ops
