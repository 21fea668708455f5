-- What `lower` answers of a program.
--     ops_limit                      the limit of operations
--     by_end why                     the end of a program whose emitting stopped so
--     Lowers result fact past        the code meets a fact; or the operations pass their limit, and why
use Rattle.std.specs.Prelude.{◌≡◌, Result, Ok, Err}
use Rattle.hs_base.specs.Limit.{number_of}
use Rattle.hs_base.specs.declared.limit.Limit as limit
use Rattle.hs_base.specs.declared.limit.LimitKind.TheVariants as kind
use Rattle.hs_lower.specs.declared.lower_end.LowerEnd.{LowerEnd}
use Rattle.hs_lower.specs.declared.lower_end.LowerEnd.TheVariants.{Limit, NoMemory}
use Rattle.hs_lower_expressions.specs.declared.emit_end.EmitEnd.{EmitEnd}
use Rattle.hs_lower_expressions.specs.declared.emit_end.EmitEnd.TheVariants as emit

-- more operations than code may have
abbrev pub ops_limit : limit.Limit
ops_limit = record { kind = kind.Ops; reached = number_of kind.Ops }

-- by why emitting stopped
abbrev pub by_end : EmitEnd → LowerEnd
by_end emit.Limit = Limit ops_limit
by_end emit.NoMemory = NoMemory

-- The code meets the fact, or its operations are too many. Without memory nothing is said.
abbrev pub Lowers : {A : Type 0} → Result A LowerEnd → (A → Type 0) → Type 0 → Type 0
Lowers (Ok it) fact past = fact it
Lowers (Err (Limit its)) fact past = (its ≡ ops_limit) × past
Lowers (Err NoMemory) fact past = Unit {0}
