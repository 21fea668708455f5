use Rattle.std.proofs.Common.{◌≡◌, ◌≤◌, ◌+◌, min, drop, length}
use Rattle.hs_meaning.specs.Machine.{bytes_where, is_automatic}
use Rattle.hs_meaning.specs.Objects.{objects_for}
use Rattle.hs_frames.proofs.room.room_for.Given as goal

-- What is counted, and what the variables that are left take, is all.
abbrev pub invariant-variables : goal.invariant-variables
invariant-variables l =
    record {
      bytes :
          min (l.bytes + bytes_where is_automatic (objects_for l.setting.types.now (drop l.variable-index l.variables))) 18446744073709551615
          ≡ min (bytes_where is_automatic (objects_for l.setting.types.now l.variables)) 18446744073709551615;
      count :
          l.count + length (objects_for l.setting.types.now (drop l.variable-index l.variables))
          ≡ length (objects_for l.setting.types.now l.variables);
      most : l.bytes ≤ 18446744073709551615;
      few : l.count ≤ l.variable-index;
    }
