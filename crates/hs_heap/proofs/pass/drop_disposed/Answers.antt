use Rattle.std.proofs.Common.{rules}
use Rattle.std.proofs.lemmas.Fn.{filter_same}
use Rattle.hs_heap.proofs.pass.drop_disposed.Goals as goal

pub returns-then-names_all : goal.returns-then-names_all
returns-then-names_all c =
    rw (← c.names_all.ensures, c.if-names_all.true) (filter_same _ _ _ (λ number b f' called. search rules) _ _ c.retain.ensures.filtered)
