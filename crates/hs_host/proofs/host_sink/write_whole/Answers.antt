-- What a write takes moves from the rest to the front.
use Rattle.std.proofs.Common.{◌≡◌, ℕ, ◌-◌, List, ◌++◌, length, take, drop, sym, ap, ◌∙◌, append_assoc, take-append-drop}
use Rattle.std.proofs.lemmas.List.{take_rest}
use Rattle.std.proofs.KnownBytes.{Appends-trans, Appends-kept}
use Rattle.hs_host.proofs.host_sink.write_whole.Goals as goal
use Rattle.hs_host.proofs.host_sink.write_whole.Goals.{in-Ok, in-Err}

moved : (piece front rest : List ℕ) (n : ℕ) → piece ≡ front ++ rest → piece ≡ (front ++ take n rest) ++ take (length rest - n) (drop n rest)
moved piece front rest n split =
    split ∙ ap (λ l. front ++ l) (sym (take-append-drop n rest)) ∙ sym (append_assoc front (take n rest) (drop n rest))
    ∙ ap (λ l. (front ++ take n rest) ++ l) (sym (take_rest rest n))

pub loop-preserved : goal.loop-preserved
loop-preserved g c =
    let (front, split, appended) = c.loop.invariant in
    let rest = c.loop.rest.now in
    elim c.match-write.branch [
      | in-Ok w ↦
          rw w.rest-is (front ++ take w.in-Ok.len rest, moved _ front rest w.in-Ok.len split, Appends-trans _ _ _ _ _ appended w.in-Ok.ensures.bytes)
      | in-Err w ↦ rw w.rest-is (front, split, Appends-kept _ _ _ _ appended w.in-Err.ensures.bytes)
    ]
