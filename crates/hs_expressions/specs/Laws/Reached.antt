-- What is known grows, step by step: the relation of the laws, for declarations of any sort.
--     IsAllowedAt allowed level it         a declaration of that level, of an allowed sort
--     Reaches allowed old new              what was known is still known, and new names are of an allowed sort
--     reaches_self, reaches_then           by no step, and by one after another
--     scoped_after                         no declaration is of a scope inside the innermost one
use Rattle.std.proofs.Common.{◌≡◌, ◌≤◌, ℕ, suc, ◌-◌, Bool, true, false, List, [], ◌∷◌, ◌++◌, refl, ap, sym, subst, ◌∙◌, if◌then◌else◌, arith}
use Rattle.std.specs.Prelude.{◌==◌}
use Rattle.std.specs.List.{AllByRecursion}
use Rattle.std.proofs.lemmas.Bool.Decides.{nat_tests}
use Rattle.std.proofs.lemmas.List.{append_assoc, append-nil}
use native.Mathlib.Numerals.{unary_clauses}
use Rattle.hs_base.specs.Entries.{all_appended, all_so}
use Rattle.hs_expressions.specs.Laws.Grown.{GrowsPlainly}
use Rattle.hs_expressions.specs.Laws.Traced.{TracedTo, traced_self, traced_then, traced_same}
use Rattle.hs_expressions.specs.Laws.{HasMore, IsTagAt, IsPrefix, AreOutside, IsScoped}
use Rattle.hs_typer.specs.declared.marks.Tentative.{Tentative}
use Rattle.hs_typer.specs.declared.origins.Origins.{Origins}
use Rattle.hs_typer.specs.declared.typer.Entity.{Entity}
use Rattle.hs_typer.specs.declared.typer.RoutineCall.{RoutineCall}
use Rattle.hs_typer.specs.declared.typer.Tag.{Tag}
use Rattle.hs_typer.specs.declared.typer.Taken.{Taken}
use Rattle.hs_typer.specs.declared.typer.Typer.{Typer}
use Rattle.hs_names.specs.Scopes.{Scoped, Declared, declared, entered, left, outside}
use Rattle.hs_types.specs.Growing.{grows_self, grows_then}
use Rattle.hs_types.specs.TypeTables.{TypeTable, Grows}

-- more at the end, by none and by some after others
pub prefix_self : {A : Type 0} → (xs : List A) → IsPrefix xs xs
prefix_self xs = ([], sym (append-nil xs))

pub prefix_then : {A : Type 0} → (first second third : List A) → IsPrefix first second → IsPrefix second third → IsPrefix first third
prefix_then first second third before after =
    (before.0 ++ after.0, after.1 ∙ ap (λ its. its ++ after.0) before.1 ∙ append_assoc first before.0 after.0)

-- one more, if it counts
pub prefix_if : {A : Type 0} → (b : Bool) (xs ys : List A) → IsPrefix xs (if b then xs ++ ys else xs)
prefix_if true xs ys = (ys, refl)
prefix_if false xs ys = prefix_self xs

-- numbers of levels
same_at_most : (n m : ℕ) → n ≡ m → n ≤ m
same_at_most n m same = omega (arith, same)

pub is_other : (n m : ℕ) (b : Bool) → (n == suc m) ≡ b → n ≤ m → b ≡ false
is_other n m false is at_most = refl
is_other n m true is at_most = absurd (grind (arith, nat_tests, is, at_most))

pub is_same : (n m : ℕ) (b : Bool) → (n == m) ≡ b → n ≡ m → b ≡ true
is_same n m true is same = refl
is_same n m false is same = absurd (grind (arith, nat_tests, is, same))

pub pred_suc : (n : ℕ) → suc n - 1 ≡ n
pred_suc n = simp unary_clauses refl

module _ {E : Type 0} where
  -- the declarations before those of a scope
  abbrev with_more : List (Declared E) → Scoped E → Scoped E
  with_more more old = record { declarations = more ++ old.declarations; level = old.level }

  abbrev with_declarations : ℕ → List (Declared E) → Scoped E
  with_declarations level its = record { declarations = its; level = level }

  -- by none
  pub more_self : (Holds : Declared E → Type 0) (scopes : Scoped E) → HasMore Holds scopes scopes
  more_self Holds scopes = ([], tt, refl)

  -- by one
  pub more_one : (Holds : Declared E → Type 0) (name : List ℕ) (it : E) (scopes : Scoped E)
      → Holds (record { name = name; entity = it; level = scopes.level }) → HasMore Holds scopes (declared name it scopes)
  more_one Holds name it scopes holds = (record { name = name; entity = it; level = scopes.level } ∷ [], (holds, tt), refl)

  -- by some and others
  pub more_then : (Holds : ℕ → Declared E → Type 0) (first second third : Scoped E) → HasMore (Holds first.level) first second
      → HasMore (Holds second.level) second third → HasMore (Holds first.level) first third
  more_then Holds first second third before after =
      let level : second.level ≡ first.level = ap (λ its. its.level) before.2 in (
        after.0 ++ before.0,
        all_appended (Holds first.level) after.0 before.0 (subst (λ n. AllByRecursion (Holds n) after.0) level after.1) before.1,
        after.2
            ∙ ap (with_more after.0) before.2
            ∙ sym (ap (with_declarations first.level) (append_assoc after.0 before.0 first.declarations)),
      )

  -- They are of the scopes that there are.
  pub more_outside : (Holds : Declared E → Type 0) (first second : Scoped E) → ((it : Declared E) → Holds it → it.level ≡ first.level)
      → HasMore Holds first second → AreOutside first → AreOutside second
  more_outside Holds first second at more are =
      subst AreOutside (sym more.2)
      (all_appended (λ it. it.level ≤ first.level) more.0 first.declarations
      (all_so Holds (λ it. it.level ≤ first.level) (λ it holds. same_at_most it.level first.level (at it holds)) more.0 more.1) are)

  -- A scope that ends takes its declarations with it.
  pub outside_more : (level : ℕ) (more old : List (Declared E)) → AllByRecursion (λ it. it.level ≡ suc level) more
      → AllByRecursion (λ it. it.level ≤ level) old → outside (suc level) (more ++ old) ≡ old
  outside_more level [] [] are old = refl
  outside_more level [] (it ∷ older) are old = other (it.level == suc level) (is_other it.level level (it.level == suc level) refl old.0)
    where
      other : (b : Bool) → b ≡ false → (if b then outside (suc level) older else it ∷ older) ≡ it ∷ older
      other true is = absurd cc
      other false is = refl
  outside_more level (it ∷ more) old are is =
      same (it.level == suc level) (is_same it.level (suc level) (it.level == suc level) refl are.0)
      ∙ outside_more level more old are.1 is
    where
      same : (b : Bool) → b ≡ true → (if b then outside (suc level) (more ++ old) else it ∷ (more ++ old)) ≡ outside (suc level) (more ++ old)
      same true is = refl
      same false is = absurd cc

  pub left_entered : (Holds : Declared E → Type 0) (scopes new : Scoped E) → ((it : Declared E) → Holds it → it.level ≡ suc scopes.level)
      → HasMore Holds (entered scopes) new → AreOutside scopes → left new ≡ scopes
  left_entered Holds scopes new at more are =
      ap left more.2
      ∙ ap (λ its. with_declarations (suc scopes.level - 1) its)
      (outside_more scopes.level more.0 scopes.declarations (all_so Holds (λ it. it.level ≡ suc scopes.level) at more.0 more.1) are)
      ∙ ap (λ n. with_declarations n scopes.declarations) (pred_suc scopes.level)

-- a declaration of that level, of an allowed sort
abbrev pub IsAllowedAt : (Entity → Type 0) → ℕ → Declared Entity → Type 0
IsAllowedAt allowed level it = (it.level ≡ level) × allowed it.entity

-- What was known is still known, and what is new is of the innermost scope and of an allowed sort.
pub record Reaches (allowed : Entity → Type 0) (old new : Typer) : Type 0 where
  pub types : Grows old.types new.types
  pub names : HasMore (IsAllowedAt allowed old.names.level) old.names new.names
  pub tags : HasMore (IsTagAt old.tags.level) old.tags new.tags
  pub literals : IsPrefix old.literals new.literals
  pub taken : IsPrefix old.taken new.taken
  pub calls : IsPrefix old.calls new.calls
  pub table : new.table ≡ old.table
  pub counts : new.counts ≡ old.counts
  pub keeps : new.keeps ≡ old.keeps
  pub unit : new.origins.unit ≡ old.origins.unit
  pub traced : TracedTo old new

module _ (allowed : Entity → Type 0) where
  -- by no step
  pub reaches_self : (s : Typer) → Reaches allowed s s
  reaches_self s =
      record {
        types = grows_self s.types;
        names = more_self (IsAllowedAt allowed s.names.level) s.names;
        tags = more_self (IsTagAt s.tags.level) s.tags;
        literals = prefix_self s.literals;
        taken = prefix_self s.taken;
        calls = prefix_self s.calls;
        table = refl;
        counts = refl;
        keeps = refl;
        unit = refl;
        traced = traced_self s;
      }

  -- by one step after another
  pub reaches_then : (first second third : Typer) → Reaches allowed first second → Reaches allowed second third → Reaches allowed first third
  reaches_then first second third before after =
      record {
        types = grows_then first.types second.types third.types before.types after.types;
        names = more_then (IsAllowedAt allowed) first.names second.names third.names before.names after.names;
        tags = more_then IsTagAt first.tags second.tags third.tags before.tags after.tags;
        literals = prefix_then first.literals second.literals third.literals before.literals after.literals;
        taken = prefix_then first.taken second.taken third.taken before.taken after.taken;
        calls = prefix_then first.calls second.calls third.calls before.calls after.calls;
        table = after.table ∙ before.table;
        counts = after.counts ∙ before.counts;
        keeps = after.keeps ∙ before.keeps;
        unit = after.unit ∙ before.unit;
        traced = traced_then first second third before.traced after.traced;
      }

  -- with other bodies that have begun
  pub reaches_begun : (old new : Typer) (its : List ℕ) → Reaches allowed old new → Reaches allowed old (record new { begun = its })
  reaches_begun old new its reached =
      record {
        types = reached.types;
        names = reached.names;
        tags = reached.tags;
        literals = reached.literals;
        taken = reached.taken;
        calls = reached.calls;
        table = reached.table;
        counts = reached.counts;
        keeps = reached.keeps;
        unit = reached.unit;
        traced = reached.traced;
      }

  -- with other objects whose types are not complete
  pub reaches_tentatives : (old new : Typer) (its : List Tentative) → Reaches allowed old new
      → Reaches allowed old (record new { tentatives = its })
  reaches_tentatives old new its reached =
      record {
        types = reached.types;
        names = reached.names;
        tags = reached.tags;
        literals = reached.literals;
        taken = reached.taken;
        calls = reached.calls;
        table = reached.table;
        counts = reached.counts;
        keeps = reached.keeps;
        unit = reached.unit;
        traced = reached.traced;
      }

  -- with other bodies that are open
  pub reaches_bodies : (old new : Typer) (its : List ℕ) → Reaches allowed old new → Reaches allowed old (record new { open_bodies = its })
  reaches_bodies old new its reached =
      record {
        types = reached.types;
        names = reached.names;
        tags = reached.tags;
        literals = reached.literals;
        taken = reached.taken;
        calls = reached.calls;
        table = reached.table;
        counts = reached.counts;
        keeps = reached.keeps;
        unit = reached.unit;
        traced = reached.traced;
      }

  -- with more types, names and tags, and with other origins
  pub reaches_named : (s : Typer) (types : TypeTable) (names : Scoped Entity) (tags : Scoped Tag) (origins : Origins) → Grows s.types types
      → HasMore (IsAllowedAt allowed s.names.level) s.names names → HasMore (IsTagAt s.tags.level) s.tags tags → origins.unit ≡ s.origins.unit
      → TracedTo s (record s { types = types; names = names; tags = tags; origins = origins })
      → Reaches allowed s (record s { types = types; names = names; tags = tags; origins = origins })
  reaches_named s types names tags origins grows more more' same traced =
      record {
        types = grows;
        names = more;
        tags = more';
        literals = prefix_self s.literals;
        taken = prefix_self s.taken;
        calls = prefix_self s.calls;
        table = refl;
        counts = refl;
        keeps = refl;
        unit = same;
        traced = traced;
      }

  -- with more names alone
  pub reaches_names : (s : Typer) (names : Scoped Entity) → HasMore (IsAllowedAt allowed s.names.level) s.names names
      → Reaches allowed s (record s { names = names })
  reaches_names s names more =
      reaches_named s s.types names s.tags s.origins (grows_self s.types) more (more_self (IsTagAt s.tags.level) s.tags) refl (traced_self s)

  -- with more types alone
  pub reaches_types : (s : Typer) (types : TypeTable) → GrowsPlainly s.types types → Reaches allowed s (record s { types = types })
  reaches_types s types grows =
      reaches_named s types s.names s.tags s.origins grows.0 (more_self (IsAllowedAt allowed s.names.level) s.names)
      (more_self (IsTagAt s.tags.level) s.tags) refl (traced_same s (record s { types = types }) grows.1 refl refl)

  -- with more types, and more that is noted
  pub reaches_noted : (s : Typer) (types : TypeTable) (literals : List (List ℕ)) (taken : List Taken) (calls : List RoutineCall)
      → GrowsPlainly s.types types → IsPrefix s.literals literals → IsPrefix s.taken taken → IsPrefix s.calls calls
      → Reaches allowed s (record s { types = types; literals = literals; taken = taken; calls = calls })
  reaches_noted s types literals taken calls grows more more' more'' =
      record {
        types = grows.0;
        names = more_self (IsAllowedAt allowed s.names.level) s.names;
        tags = more_self (IsTagAt s.tags.level) s.tags;
        literals = more;
        taken = more';
        calls = more'';
        table = refl;
        counts = refl;
        keeps = refl;
        unit = refl;
        traced = traced_same s (record s { types = types; literals = literals; taken = taken; calls = calls }) grows.1 refl refl;
      }

  -- after what was reached, with more types and with other origins
  pub reaches_further : (old new : Typer) (types : TypeTable) (origins : Origins) → Reaches allowed old new → Grows new.types types
      → origins.unit ≡ new.origins.unit → TracedTo old (record new { types = types; origins = origins })
      → Reaches allowed old (record new { types = types; origins = origins })
  reaches_further old new types origins reached grows same traced =
      record {
        types = grows_then old.types new.types types reached.types grows;
        names = reached.names;
        tags = reached.tags;
        literals = reached.literals;
        taken = reached.taken;
        calls = reached.calls;
        table = reached.table;
        counts = reached.counts;
        keeps = reached.keeps;
        unit = same ∙ reached.unit;
        traced = traced;
      }

  -- The scopes are those that there were.
  pub scoped_after : (old new : Typer) → Reaches allowed old new → IsScoped old → IsScoped new
  scoped_after old new reached scoped =
      record {
        names = more_outside (IsAllowedAt allowed old.names.level) old.names new.names (λ it holds. holds.0) reached.names scoped.names;
        tags = more_outside (IsTagAt old.tags.level) old.tags new.tags (λ it holds. holds) reached.tags scoped.tags;
        closed = reached.keeps ∙ scoped.closed;
      }

-- names of an allowed sort are of any sort that has those
pub reaches_wider : (allowed wider : Entity → Type 0) → ((it : Entity) → allowed it → wider it) → (old new : Typer) → Reaches allowed old new
    → Reaches wider old new
reaches_wider allowed wider so old new reached =
    record {
      types = reached.types;
      names = (
        reached.names.0,
        all_so (IsAllowedAt allowed old.names.level) (IsAllowedAt wider old.names.level) (λ it holds. (holds.0, so it.entity holds.1))
            reached.names.0 reached.names.1,
        reached.names.2,
      );
      tags = reached.tags;
      literals = reached.literals;
      taken = reached.taken;
      calls = reached.calls;
      table = reached.table;
      counts = reached.counts;
      keeps = reached.keeps;
      unit = reached.unit;
      traced = reached.traced;
    }
