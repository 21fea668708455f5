-- A flush keeps what the writer holds, also if it fails.
use Rattle.std.proofs.Common.{[], Result, Ok, Err, sym, append-nil}
use Rattle.std.proofs.KnownBytes.{Appends-kept}
use Rattle.std.specs.Prelude.{OnErr}
use Rattle.hs_host.proofs.host_sink.HostSink.send.Goals as goal

-- what is so whatever is answered
always : {A E P : Type 0} → (result : Result A E) → P → OnErr result P
always (Ok it) is = tt
always (Err why) is = is

pub returns-clause-front : goal.returns-clause-front
returns-clause-front g c =
    always c.flush.result
    (c.args.piece.now, ([], sym (append-nil c.args.piece.now)), Appends-kept _ _ _ _ c.in_ok-write_whole.ensures.whole c.flush.ensures.same_bytes)
