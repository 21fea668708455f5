-- What a function of the code gives, beside what is read.
--     Gives view result read      it found what is read, or nothing if nothing is; or memory was refused
--     Seen view found read        the same if no memory is taken
use Rattle.std.specs.Prelude.{◌≡◌, Option, Some, None, Result, Ok, Err}
use Rattle.hs_expr_parser.specs.declared.parse_end.ParseEnd.{ParseEnd}
use Rattle.hs_expr_parser.specs.declared.parse_end.ParseEnd.TheVariants.{NotExpr, NoMemory}

-- the cause of an error
abbrev pub Fails : {Y : Type 0} → ParseEnd → Option Y → Type 0
Fails NotExpr read = read ≡ None
Fails NoMemory read = Unit {0}

abbrev pub Gives : {X Y : Type 0} → (X → Y) → Result X ParseEnd → Option Y → Type 0
Gives view (Ok x) read = read ≡ Some (view x)
Gives view (Err e) read = Fails e read
