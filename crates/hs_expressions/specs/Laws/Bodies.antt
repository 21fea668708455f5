-- The body of a struct: it begins, its members come, and then the struct is complete, at its brace.
--     opened_owned                 a struct whose body begins is of this unit
--     completed_reaches            it gets its body, after what was reached from where it began
--     body_always                  all of it
use Rattle.std.proofs.Common.{◌≡◌, ◌≤◌, ℕ, Bool, true, false, List, [], ◌∷◌, Option, Some, None, Result, Ok, Err, refl, subst, if◌then◌else◌}
use Rattle.std.specs.Cmp.Lexicographic.{pointwise}
use Rattle.std.specs.List.{AllByRecursion}
use Rattle.std.specs.Prelude.{◌==◌, ◌-◌, ◌&&◌, not, nat_eq, length, take, slice_get}
use Rattle.hs_expressions.specs.Laws.{IsScoped}
use Rattle.hs_expressions.specs.Laws.Always.{Reaching, Always, reaching_then}
use Rattle.hs_expressions.specs.Laws.Grown.{GrowsTo, completed_grows}
use Rattle.hs_expressions.specs.Laws.Leaves.{opened_struct_always, met_unit}
use Rattle.hs_expressions.specs.Laws.Braces.{struct_first, struct_later, nowhere_traced}
use Rattle.hs_expressions.specs.Laws.Origins.{HasNoBrace, traced_body}
use Rattle.hs_expressions.specs.Laws.Reached.{Reaches, reaches_bodies, reaches_further, scoped_after}
use Rattle.hs_expressions.specs.Laws.Traced.{HasBodyIn, IsOwnTag, IsTraced, IsTracedAt, Traces, TracesTo, traces_then}
use Rattle.hs_names.specs.Scopes.{Declared, newest, entity_at, find_here}
use Rattle.hs_syntax.specs.declared.word.Word.{Word}
use Rattle.hs_tokens.specs.declared.place.Place.{Place}
use Rattle.hs_typer.specs.Origins.{brace_of, kept_for, times_at, first_at, first_name, is_plain, begun_nowhere, joined, met, closed, tags_agree}
use Rattle.hs_typer.specs.Specifiers.{has_open_body, begun_struct_as, begun_struct, body_opened, opened_struct, body_closed, with_body_in, struct_with_body, completed_struct}
use Rattle.hs_typer.specs.Steps.{Step, then_with, ◌>>=◌, ◌>>◌}
use Rattle.hs_typer.specs.declared.origins.Brace.{Brace}
use Rattle.hs_typer.specs.declared.origins.Origins.{Origins}
use Rattle.hs_typer.specs.declared.type_error.TypeError.{TypeError}
use Rattle.hs_typer.specs.declared.type_error.TypeError.TheVariants.{Clash, Untyped}
use Rattle.hs_typer.specs.declared.typer.Entity.{Entity}
use Rattle.hs_typer.specs.declared.typer.Tag.{Tag}
use Rattle.hs_typer.specs.declared.typer.Tag.TheVariants as tag
use Rattle.hs_typer.specs.declared.typer.Typer.{Typer}
use Rattle.hs_types.specs.TypeTables.{Grows, awaits_body, measured, laid_if, with_laid, with_body}
use Rattle.hs_types.specs.declared.body.Body.{Body}
use Rattle.hs_types.specs.declared.body.Member.{Member}
use Rattle.hs_types.specs.declared.types.TypeEnd.{TypeEnd}
use Rattle.hs_types.specs.declared.types.TypeEnd.TheVariants as end

-- ---- the struct whose body begins

-- a struct of this unit
abbrev pub IsOwned : Typer → ℕ → Type 0
IsOwned s number = (base : ℕ) → IsTracedAt base s → base ≤ number

-- of an answer
abbrev pub Owning : Typer → Result (ℕ × Typer) TypeError → Type 0
Owning s (Ok p) = IsOwned s p.0
Owning s (Err why) = Unit {0}

-- what is found among tags of this unit is one
abbrev IsOwnIf : ℕ → Option Tag → Type 0
IsOwnIf base None = Unit {0}
IsOwnIf base (Some it) = IsOwnTag base it

-- if it is of that level
owned_at : (base level : ℕ) (o : Option (Declared Tag)) → ((it : Declared Tag) → o ≡ Some it → IsOwnTag base it.entity)
    → IsOwnIf base (entity_at level o)
owned_at base level None own = tt
owned_at base level (Some it) own = by_level (it.level == level)
  where
    by_level : (b : Bool) → IsOwnIf base (if b then Some it.entity else None)
    by_level true = own it refl
    by_level false = tt

-- the newest one of a name
newest_owned : (base : ℕ) (name : List ℕ) (its : List (Declared Tag)) → AllByRecursion (λ it. IsOwnTag base it.entity) its
    → (it : Declared Tag) → newest name its ≡ Some it → IsOwnTag base it.entity
newest_owned base name [] own it found = absurd cc
newest_owned base name (first ∷ older) own it found =
    by_name (pointwise nat_eq first.name name) found (λ same. newest_owned base name older own.1 it same)
  where
    by_name : (b : Bool) → (if b then Some first else newest name older) ≡ Some it → (newest name older ≡ Some it → IsOwnTag base it.entity)
        → IsOwnTag base it.entity
    by_name true same behind = let one : first ≡ it = cc in subst (λ it. IsOwnTag base it.entity) one own.0
    by_name false same behind = behind same

-- by what the tag means in this scope
begun_by : (word : Word) (o : Option Tag) (s : Typer) → ((base : ℕ) → IsTracedAt base s → IsOwnIf base o) → Owning s (begun_struct_as word o s)
begun_by word None s own = λ base is. is.there
begun_by word (Some (tag.Struct number)) s own = by_test (awaits_body (slice_get s.types.structs number) && not (has_open_body number s))
  where
    by_test : (b : Bool) → Owning s (if b then Ok (number, s) else Err (Untyped word.place))
    by_test true = own
    by_test false = tt
begun_by word (Some (tag.Enumeration number)) s own = tt

-- A struct whose body can begin is of this unit.
pub begun_owned : (o : Option Word) (s : Typer) → Owning s (begun_struct o s)
begun_owned None s = λ base is. is.there
begun_owned (Some word) s =
    begun_by word (find_here word.text s.tags) s
    (λ base is. owned_at base s.tags.level (newest word.text s.tags.declarations)
    (λ it found. newest_owned base word.text s.tags.declarations is.owned it found))

-- and so is one whose body begins
opened_then : (s : Typer) (given : Result (ℕ × Typer) TypeError) → Owning s given → Owning s (then_with body_opened given)
opened_then s (Ok p) own = own
opened_then s (Err why) own = tt

pub opened_owned : (o : Option Word) (s : Typer) → Owning s (opened_struct o s)
opened_owned o s = opened_then s (begun_struct o s) (begun_owned o s)

-- ---- its body

-- what awaits a body is there
awaits_it : (its : Option (Option Body)) → awaits_body its ≡ true → its ≡ Some None
awaits_it None awaits = absurd cc
awaits_it (Some None) awaits = refl
awaits_it (Some (Some it)) awaits = absurd cc

module _ (allowed : Entity → Type 0) (old s : Typer) (reached : Reaches allowed old s) (number : ℕ) (owned : IsOwned old number) (body : Body)
    (waits : slice_get s.types.structs number ≡ Some None) (grows : Grows s.types (with_body number body s.types)) where
  -- with its body
  abbrev whole : Typer
  whole = record s { types = with_body number body s.types }

  -- what is so then
  abbrev IsWhole : ℕ → Type 0
  IsWhole base =
      IsTracedAt base whole × TracesTo base old whole × HasBodyIn whole.types.structs number × HasNoBrace s.origins number

  -- with the body, origins are as they should be
  whole_traced : (base : ℕ) → IsTracedAt base old → IsWhole base
  whole_traced base is =
      let one : IsTracedAt base s × TracesTo base old s = reached.traced base is in
      let two = traced_body base s.types.structs s.origins s.tags.declarations number body (owned base is) waits one.0 in (
        two.0,
        traces_then base old.types.structs s.types.structs whole.types.structs old.origins s.origins s.origins one.1 two.1,
        two.2,
        two.3,
      )

  -- and then its brace
  with_origins : (origins : Origins) → origins.unit ≡ s.origins.unit
      → ((base : ℕ) → IsWhole base → IsTraced base whole.types.structs origins s.tags.declarations
      × Traces base whole.types.structs s.origins whole.types.structs origins)
      → Reaches allowed old (record whole { origins = origins })
  with_origins origins unit traced =
      reaches_further allowed old s (with_body number body s.types) origins reached grows unit
      (λ base is.
      let one : IsWhole base = whole_traced base is in
      let two = traced base one in (
        two.0,
        traces_then base old.types.structs whole.types.structs whole.types.structs old.origins s.origins origins one.1 two.1,
      ))

  -- at no brace of a file
  plain_whole : Reaches allowed old (record whole { origins = begun_nowhere (tag.Struct number) s.origins })
  plain_whole =
      with_origins (begun_nowhere (tag.Struct number) s.origins) refl
      (λ base one. nowhere_traced base whole.types.structs s.origins s.tags.declarations number one.3 one.0)

  -- the first one at the brace, or one with the first
  joined_whole : (at : Place) (brace : Brace) (o : Option Tag) → kept_for brace s.origins.firsts ≡ o
      → Reaching allowed old (joined at (tag.Struct number) brace o whole)
  joined_whole at brace None free =
      with_origins (first_at brace (tag.Struct number) (met at (tag.Struct number) brace s.origins)) (met_unit at (tag.Struct number) brace s.origins)
      (λ base one. struct_first base whole.types.structs s.origins s.tags.declarations at brace one.0 number one.2 one.3 free)
  joined_whole at brace (Some first) kept =
      by_test (tags_agree whole.types (met at (tag.Struct number) brace s.origins) first (tag.Struct number)) refl
    where
      by_test : (b : Bool) → tags_agree whole.types (met at (tag.Struct number) brace s.origins) first (tag.Struct number) ≡ b
          → Reaching {A = Unit {0}} allowed old
          (if b
          then Ok (tt, record whole { origins = met at (tag.Struct number) brace s.origins })
          else Err (Clash at (first_name whole.types (tag.Struct number))))
      by_test true agree =
          with_origins (met at (tag.Struct number) brace s.origins) (met_unit at (tag.Struct number) brace s.origins)
          (λ base one. struct_later base whole.types.structs s.origins s.tags.declarations at brace one.0 number one.2 one.3 whole.types
          (met at (tag.Struct number) brace s.origins) first kept agree)
      by_test false agree = tt

  -- with a brace or without
  closed_whole : (at : Place) → Reaching allowed old (closed at (tag.Struct number) whole)
  closed_whole at = by_test (is_plain at.origin)
    where
      by_test : (b : Bool) → Reaching {A = Unit {0}} allowed old
          (if b then joined at (tag.Struct number) (brace_of at (times_at at s.origins))
          (kept_for (brace_of at (times_at at s.origins)) s.origins.firsts) whole
          else Ok (tt, record whole { origins = begun_nowhere (tag.Struct number) s.origins }))
      by_test true = joined_whole at (brace_of at (times_at at s.origins)) (kept_for (brace_of at (times_at at s.origins)) s.origins.firsts) refl
      by_test false = plain_whole

-- It gets its body, if it waits for it.
body_reaches : (allowed : Entity → Type 0) (old s : Typer) → Reaches allowed old s → (first : Place) (word : Option Word) (brace : Place)
    (number : ℕ) → IsOwned old number → (members : List Member)
    → Reaching allowed old ((struct_with_body first word number members >> closed brace (tag.Struct number)) s)
body_reaches allowed old s reached first word brace number owned members =
    by_test (awaits_body (slice_get s.types.structs number)) refl (completed_grows number members s.types)
  where
    by_body : (given : Result Body TypeEnd) → slice_get s.types.structs number ≡ Some None → GrowsTo s.types (with_laid number s.types given)
        → Reaching allowed old (then_with (λ it. closed brace (tag.Struct number)) (with_body_in s first word (with_laid number s.types given)))
    by_body (Ok body) waits grows = closed_whole allowed old s reached number owned body waits grows brace
    by_body (Err why) waits grows = tt

    by_test : (b : Bool) → awaits_body (slice_get s.types.structs number) ≡ b
        → GrowsTo s.types (if b then with_laid number s.types (laid_if (measured s.types members)) else Err end.Redefined)
        → Reaching allowed old
        (then_with (λ it. closed brace (tag.Struct number))
        (with_body_in s first word (if b then with_laid number s.types (laid_if (measured s.types members)) else Err end.Redefined)))
    by_test true awaits grows = by_body (laid_if (measured s.types members)) (awaits_it (slice_get s.types.structs number) awaits) grows
    by_test false awaits grows = tt

-- and its body is open no more
completed_reaches : (allowed : Entity → Type 0) (old s : Typer) → Reaches allowed old s → (first : Place) (word : Option Word) (brace : Place)
    (number : ℕ) → IsOwned old number → (members : List Member) → Reaching allowed old (completed_struct first word brace number members s)
completed_reaches allowed old s reached =
    body_reaches allowed old (body_closed s) (reaches_bodies allowed old s (take (length s.open_bodies - 1) s.open_bodies) reached)

-- ---- all of it

module _ {allowed : Entity → Type 0} where
  -- an answer after what was reached
  next_reaches : {A B : Type 0} → (old : Typer) (next : A → Step B) (given : Result (A × Typer) TypeError) → IsScoped old
      → Reaching allowed old given → ((it : A) → Always allowed (next it)) → Reaching allowed old (then_with next given)
  next_reaches old next (Ok p) scoped before after =
      reaching_then allowed old p.1 (next p.0 p.1) before ((after p.0).from p.1 (scoped_after allowed old p.1 before scoped))
  next_reaches old next (Err why) scoped before after = tt

  -- the members, and the body
  members_reach : {A : Type 0} → (old : Typer) (first : Place) (word : Option Word) (brace : Place) (number : ℕ) (next : Step A)
      (given : Result (List Member × Typer) TypeError) → IsScoped old → IsOwned old number → Reaching allowed old given → Always allowed next
      → Reaching allowed old (then_with (λ its. completed_struct first word brace number its >> next) given)
  members_reach old first word brace number next (Ok q) scoped owned before after =
      next_reaches old (λ it. next) (completed_struct first word brace number q.0 q.1) scoped
      (completed_reaches allowed old q.1 before first word brace number owned q.0) (λ it. after)
  members_reach old first word brace number next (Err why) scoped owned before after = tt

  -- A struct with its body, and what comes after it.
  pub body_always : {A : Type 0} → (first : Place) (word : Option Word) (brace : Place) (members : Step (List Member)) (next : ℕ → Step A)
      → Always allowed members → ((number : ℕ) → Always allowed (next number))
      → Always allowed (opened_struct word >>= (λ number. members >>= (λ its. completed_struct first word brace number its >> next number)))
  body_always first word brace members next are after =
      record {
        from = λ s scoped.
            opened s scoped (opened_struct word s) ((opened_struct_always {allowed = allowed} word).from s scoped) (opened_owned word s);
      }
    where
      opened : (s : Typer) → IsScoped s → (given : Result (ℕ × Typer) TypeError) → Reaching allowed s given → Owning s given
          → Reaching allowed s
          (then_with (λ number. members >>= (λ its. completed_struct first word brace number its >> next number)) given)
      opened s scoped (Ok p) before owned =
          members_reach s first word brace p.0 (next p.0) (members p.1) scoped owned
          (reaching_then allowed s p.1 (members p.1) before (are.from p.1 (scoped_after allowed s p.1 before scoped))) (after p.0)
      opened s scoped (Err why) before owned = tt
