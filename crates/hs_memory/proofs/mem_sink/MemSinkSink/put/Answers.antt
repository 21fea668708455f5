-- What a failing put wrote is a front of the piece.
use Rattle.std.proofs.Common.{◌≡◌, arith, sym, ap, take, drop}
use Rattle.std.proofs.lemmas.List.{take-append-drop}
use Rattle.hs_memory.specs.Memory.{MemorySink}
use Rattle.hs_memory.proofs.mem_sink.MemSinkSink.put.Goals as goal

pub returns-then-fails-2-clause-means : goal.returns-then-fails-2-clause-means
returns-then-fails-2-clause-means c =
    let faults : c.self.inside.faults ≡ c.args.self.now.faults = ap (λ (s : MemorySink). s.faults) c.self.view_is in
    let written : c.self.inside.bytes.items ≡ c.args.self.now.written = ap (λ (s : MemorySink). s.written) c.self.view_is in (
      (
        take c.min-len.result c.args.piece.now,
        (drop c.min-len.result c.args.piece.now, sym (take-append-drop c.min-len.result c.args.piece.now)),
        rw (← written) c.append.ensures.items,
      ),
      omega arith,
      λ below. omega arith,
    )
