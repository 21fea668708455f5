-- The scope of the parameters of a function that is being defined, inside what is known around it.
--     Inner m mid new                 from m, that scope was opened at mid, and new is inside it
--     begins_inner, inner_moves       at the type of the function, and after steps inside the scope
--     inner_named                     with the name of the function, which is known around the scope
--     inner_ends                      the scope ends
use Rattle.std.proofs.Common.{◌≡◌, ◌≤◌, ℕ, suc, ◌-◌, Bool, true, false, List, [], ◌∷◌, ◌++◌, refl, ap, ◌∙◌, if◌then◌else◌}
use Rattle.std.specs.Prelude.{◌==◌}
use Rattle.std.specs.List.{AllByRecursion}
use Rattle.hs_base.specs.Entries.{all_so}
use Rattle.hs_expressions.specs.Expressions.{enter, leave}
use Rattle.hs_expressions.specs.Laws.{HasMore, IsScoped}
use Rattle.hs_expressions.specs.Laws.Always.{Anything}
use Rattle.hs_expressions.specs.Laws.Reached.{IsAllowedAt, Reaches, is_other, is_same, more_one, outside_more, pred_suc, reaches_names, reaches_then, scoped_after}
use Rattle.hs_fitting.specs.Moves.{HasLocals, Moves, locals_then}
use Rattle.hs_fitting.specs.Stating.{entered_scoped, left_reaches, left_scoped}
use Rattle.hs_linkage.specs.declared.translator.Translator.{Translator}
use Rattle.hs_names.specs.Scopes.{Scoped, Declared, declared, declared_outside, entered, inside, outside}
use Rattle.hs_typer.specs.declared.typer.Entity.{Entity}
use Rattle.hs_typer.specs.declared.typer.Typer.{Typer}

pub record Inner (m : Translator) (mid : Typer) (new : Translator) : Type 0 where
  pub around : Reaches Anything m.typer mid
  pub inside : Reaches Anything (enter mid) new.typer
  pub closed : IsScoped mid
  pub scoped : IsScoped new.typer
  pub definitions : new.definitions ≡ m.definitions
  pub locals : HasLocals new.typer.types m.locals new.locals

-- after steps inside it
pub inner_moves : (m : Translator) (mid : Typer) (first second : Translator) → Inner m mid first → Moves first second → Inner m mid second
inner_moves m mid first second inner moves =
    record {
      around = inner.around;
      inside = reaches_then Anything (enter mid) first.typer second.typer inner.inside moves.typer;
      closed = inner.closed;
      scoped = moves.scoped;
      definitions = moves.definitions ∙ inner.definitions;
      locals = locals_then first.typer.types second.typer.types m.locals first.locals second.locals moves.typer.types inner.locals moves.locals;
    }

-- ---- a name around it

module _ {E : Type 0} where
  -- the declarations of the scope
  pub inside_more : (level : ℕ) (its old : List (Declared E)) → AllByRecursion (λ it. it.level ≡ suc level) its
      → AllByRecursion (λ it. it.level ≤ level) old → inside (suc level) (its ++ old) ≡ its
  inside_more level [] [] are old = refl
  inside_more level [] (it ∷ older) are old = other (it.level == suc level) (is_other it.level level (it.level == suc level) refl old.0)
    where
      other : (b : Bool) → b ≡ false → (if b then it ∷ inside (suc level) older else []) ≡ []
      other true is = absurd cc
      other false is = refl
  inside_more level (it ∷ its) old are is =
      same (it.level == suc level) (is_same it.level (suc level) (it.level == suc level) refl are.0)
      ∙ ap (λ rest. it ∷ rest) (inside_more level its old are.1 is)
    where
      same : (b : Bool) → b ≡ true → (if b then it ∷ inside (suc level) (its ++ old) else []) ≡ it ∷ inside (suc level) (its ++ old)
      same true is = refl
      same false is = absurd cc

  -- a name that is declared around them
  abbrev pub around_with : List ℕ → E → ℕ → ℕ → List (Declared E) → List (Declared E) → Scoped E
  around_with name it level outer its old =
      record { declarations = its ++ record { name = name; entity = it; level = outer } ∷ old; level = suc level }

  abbrev pub parts_with : List ℕ → E → ℕ → List (Declared E) → List (Declared E) → ℕ → Scoped E
  parts_with name it level its old outer = around_with name it level outer its old

  pub declared_around : (name : List ℕ) (it : E) (level : ℕ) (its old : List (Declared E)) → AllByRecursion (λ it. it.level ≡ suc level) its
      → AllByRecursion (λ it. it.level ≤ level) old
      → declared_outside name it (record { declarations = its ++ old; level = suc level }) ≡ around_with name it level level its old
  declared_around name it level its old are is =
      ap (λ found. around_with name it level (suc level - 1) found (outside (suc level) (its ++ old))) (inside_more level its old are is)
      ∙ ap (λ found. around_with name it level (suc level - 1) its found) (outside_more level its old are is)
      ∙ ap (parts_with name it level its old) (pred_suc level)

-- what is known inside it
abbrev pub named_inside : (name : List ℕ) (it : Entity) (mid new : Scoped Entity) → AllByRecursion (λ it. it.level ≤ mid.level) mid.declarations
    → HasMore (IsAllowedAt Anything (suc mid.level)) (entered mid) new
    → HasMore (IsAllowedAt Anything (suc mid.level)) (entered (declared name it mid)) (declared_outside name it new)
named_inside name it mid new closed inside = (
  inside.0,
  inside.1,
  ap (declared_outside name it) inside.2
      ∙ declared_around name it mid.level inside.0 mid.declarations
      (all_so (IsAllowedAt Anything (suc mid.level)) (λ it. it.level ≡ suc mid.level) (λ it holds. holds.0) inside.0 inside.1) closed,
)

abbrev pub with_name : List ℕ → Entity → Typer → Typer
with_name name it mid = record mid { names = declared name it mid.names }

abbrev pub with_name_outside : List ℕ → Entity → Translator → Translator
with_name_outside name it m = record m { typer = record m.typer { names = declared_outside name it m.typer.names } }

-- around it
named_around : (name : List ℕ) (it : Entity) (mid : Typer) → Reaches Anything mid (with_name name it mid)
named_around name it mid =
    reaches_names Anything mid (declared name it mid.names) (more_one (IsAllowedAt Anything mid.names.level) name it mid.names (refl, tt))

named_in : (name : List ℕ) (it : Entity) (mid new : Typer) → IsScoped mid → Reaches Anything (enter mid) new
    → Reaches Anything (enter (with_name name it mid)) (record new { names = declared_outside name it new.names })
named_in name it mid new closed inside =
    record {
      types = inside.types;
      names = named_inside name it mid.names new.names closed.names inside.names;
      tags = inside.tags;
      literals = inside.literals;
      taken = inside.taken;
      calls = inside.calls;
      table = inside.table;
      counts = inside.counts;
      keeps = inside.keeps;
      unit = inside.unit;
      traced = inside.traced;
    }

pub inner_named : (name : List ℕ) (it : Entity) (m : Translator) (mid : Typer) (new : Translator) → Inner m mid new
    → Inner m (with_name name it mid) (with_name_outside name it new)
inner_named name it m mid new inner =
    let around = named_around name it mid in
    let closed = scoped_after Anything mid (with_name name it mid) around inner.closed in
    let inside = named_in name it mid new.typer inner.closed inner.inside in
    record {
      around = reaches_then Anything m.typer mid (with_name name it mid) inner.around around;
      inside = inside;
      closed = closed;
      scoped = scoped_after Anything (enter (with_name name it mid)) (record new.typer { names = declared_outside name it new.typer.names }) inside
          (entered_scoped (with_name name it mid) closed);
      definitions = inner.definitions;
      locals = inner.locals;
    }

-- ---- its end

pub inner_left : (m : Translator) (mid : Typer) (new : Translator) → Inner m mid new → Reaches Anything m.typer (leave new.typer)
inner_left m mid new inner =
    reaches_then Anything m.typer mid (leave new.typer) inner.around (left_reaches mid new.typer inner.closed inner.inside)

pub inner_closed : (m : Translator) (mid : Typer) (new : Translator) → Inner m mid new → IsScoped (leave new.typer)
inner_closed m mid new inner = left_scoped mid new.typer inner.closed inner.inside
