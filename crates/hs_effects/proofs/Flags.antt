-- The effects of single operations are those of the definition.
use Rattle.std.proofs.Common.{◌≡◌, ◌⊎◌, inl, inr, Bool, true, false, not, ◌||◌, ◌&&◌, List, Option, Some, None, refl, sym, ◌∙◌}
use Rattle.std.specs.List.{slice_get}
use Rattle.hs_code.specs.declared.op.Op.{Op}
use Rattle.hs_code.specs.declared.op.Op.TheVariants as op
use Rattle.hs_effects.specs.Effecting.{flag, effects_of_role, effects_of_role_in, effects_of_shift_in, effects_of_op}
use Rattle.hs_facts.specs.Effects.{Effect, moves, purges, unlocks, marks, bits, disposes, role_has, change_has, shift_has, OpHas}
use Rattle.hs_facts.specs.Names.{role_in}
use Rattle.hs_table.specs.declared.role.Role.{Role}
use Rattle.hs_table.specs.declared.role.Role.TheVariants as role
use Rattle.hs_tree.specs.declared.function.BoundRoutine.{BoundRoutine}

by_role : (restores : Bool) (its : Role) (effect : Effect)
    → flag (effects_of_role restores its) effect ≡ (role_has (Some its) effect || (change_has (Some its) effect && not restores))
by_role restores role.NewHandle moves = refl
by_role restores role.NewHandle purges = refl
by_role restores role.NewHandle unlocks = refl
by_role restores role.NewHandle marks = refl
by_role restores role.NewHandle bits = refl
by_role restores role.NewHandle disposes = refl
by_role restores role.DisposeHandle moves = refl
by_role restores role.DisposeHandle purges = refl
by_role restores role.DisposeHandle unlocks = refl
by_role restores role.DisposeHandle marks = refl
by_role restores role.DisposeHandle bits = refl
by_role restores role.DisposeHandle disposes = refl
by_role restores role.GetSize moves = refl
by_role restores role.GetSize purges = refl
by_role restores role.GetSize unlocks = refl
by_role restores role.GetSize marks = refl
by_role restores role.GetSize bits = refl
by_role restores role.GetSize disposes = refl
by_role restores role.SetSize moves = refl
by_role restores role.SetSize purges = refl
by_role restores role.SetSize unlocks = refl
by_role restores role.SetSize marks = refl
by_role restores role.SetSize bits = refl
by_role restores role.SetSize disposes = refl
by_role restores role.Lock moves = refl
by_role restores role.Lock purges = refl
by_role restores role.Lock unlocks = refl
by_role restores role.Lock marks = refl
by_role restores role.Lock bits = refl
by_role restores role.Lock disposes = refl
by_role restores role.Unlock moves = refl
by_role restores role.Unlock purges = refl
by_role restores role.Unlock unlocks = refl
by_role restores role.Unlock marks = refl
by_role restores role.Unlock bits = refl
by_role restores role.Unlock disposes = refl
by_role restores role.Purge moves = refl
by_role restores role.Purge purges = refl
by_role restores role.Purge unlocks = refl
by_role restores role.Purge marks = refl
by_role restores role.Purge bits = refl
by_role restores role.Purge disposes = refl
by_role restores role.NoPurge moves = refl
by_role restores role.NoPurge purges = refl
by_role restores role.NoPurge unlocks = refl
by_role restores role.NoPurge marks = refl
by_role restores role.NoPurge bits = refl
by_role restores role.NoPurge disposes = refl
by_role restores role.GetState moves = refl
by_role restores role.GetState purges = refl
by_role restores role.GetState unlocks = refl
by_role restores role.GetState marks = refl
by_role restores role.GetState bits = refl
by_role restores role.GetState disposes = refl
by_role restores role.SetState moves = refl
by_role restores role.SetState purges = refl
by_role restores role.SetState unlocks = refl
by_role restores role.SetState marks = refl
by_role restores role.SetState bits = refl
by_role restores role.SetState disposes = refl
by_role restores role.Empty moves = refl
by_role restores role.Empty purges = refl
by_role restores role.Empty unlocks = refl
by_role restores role.Empty marks = refl
by_role restores role.Empty bits = refl
by_role restores role.Empty disposes = refl
by_role restores role.Realloc moves = refl
by_role restores role.Realloc purges = refl
by_role restores role.Realloc unlocks = refl
by_role restores role.Realloc marks = refl
by_role restores role.Realloc bits = refl
by_role restores role.Realloc disposes = refl
by_role restores role.NewPtr moves = refl
by_role restores role.NewPtr purges = refl
by_role restores role.NewPtr unlocks = refl
by_role restores role.NewPtr marks = refl
by_role restores role.NewPtr bits = refl
by_role restores role.NewPtr disposes = refl
by_role restores role.DisposePtr moves = refl
by_role restores role.DisposePtr purges = refl
by_role restores role.DisposePtr unlocks = refl
by_role restores role.DisposePtr marks = refl
by_role restores role.DisposePtr bits = refl
by_role restores role.DisposePtr disposes = refl
by_role restores role.BlockMove moves = refl
by_role restores role.BlockMove purges = refl
by_role restores role.BlockMove unlocks = refl
by_role restores role.BlockMove marks = refl
by_role restores role.BlockMove bits = refl
by_role restores role.BlockMove disposes = refl
by_role restores role.Getchar moves = refl
by_role restores role.Getchar purges = refl
by_role restores role.Getchar unlocks = refl
by_role restores role.Getchar marks = refl
by_role restores role.Getchar bits = refl
by_role restores role.Getchar disposes = refl
by_role restores role.Putchar moves = refl
by_role restores role.Putchar purges = refl
by_role restores role.Putchar unlocks = refl
by_role restores role.Putchar marks = refl
by_role restores role.Putchar bits = refl
by_role restores role.Putchar disposes = refl
by_role restores role.Plain moves = refl
by_role restores role.Plain purges = refl
by_role restores role.Plain unlocks = refl
by_role restores role.Plain marks = refl
by_role restores role.Plain bits = refl
by_role restores role.Plain disposes = refl

by_routine : (restores : Bool) (it : Option BoundRoutine) (effect : Effect)
    → flag (effects_of_role_in restores it) effect ≡ (role_has (role_in it) effect || (change_has (role_in it) effect && not restores))
by_routine restores (Some it) effect = by_role restores it.routine.role effect
by_routine restores None moves = refl
by_routine restores None purges = refl
by_routine restores None unlocks = refl
by_routine restores None marks = refl
by_routine restores None bits = refl
by_routine restores None disposes = refl

by_shift : (it : Option BoundRoutine) (effect : Effect) → flag (effects_of_shift_in it) effect ≡ shift_has it effect
by_shift None moves = refl
by_shift None purges = refl
by_shift None unlocks = refl
by_shift None marks = refl
by_shift None bits = refl
by_shift None disposes = refl
by_shift (Some it) moves = refl
by_shift (Some it) purges = refl
by_shift (Some it) unlocks = refl
by_shift (Some it) marks = refl
by_shift (Some it) bits = refl
by_shift (Some it) disposes = refl

-- a test of two parts
forward : (has changes restores : Bool) → (has || (changes && not restores)) ≡ true → (has ≡ true) ⊎ ((changes ≡ true) × ¬ (restores ≡ true))
forward true changes restores is = inl refl
forward false true false is = inr (refl, λ both. cc)
forward false true true is = absurd cc
forward false false restores is = absurd cc

backward : (has changes restores : Bool) → (has ≡ true) ⊎ ((changes ≡ true) × ¬ (restores ≡ true)) → (has || (changes && not restores)) ≡ true
backward true changes restores is = refl
backward false changes restores (inl is) = absurd cc
backward false true false (inr is) = refl
backward false true true (inr is) = absurd (is.1 refl)
backward false false restores (inr is) = absurd (let both : false ≡ true = is.0 in cc)

no_flag : (effect : Effect) → flag (record { moves = false; purges = false; unlocks = false; marks = false; bits = false; disposes = false }) effect ≡ true → ⊥
no_flag moves is = cc
no_flag purges is = cc
no_flag unlocks is = cc
no_flag marks is = cc
no_flag bits is = cc
no_flag disposes is = cc

pub flag_has : (routines : List BoundRoutine) (restores : Bool) (its : Op) (effect : Effect) → flag (effects_of_op routines restores its) effect ≡ true
    → OpHas routines (restores ≡ true) its effect
flag_has routines restores (op.Num word) effect is = no_flag effect is
flag_has routines restores op.Nil effect is = no_flag effect is
flag_has routines restores (op.Address its) effect is = no_flag effect is
flag_has routines restores (op.Get v) effect is = no_flag effect is
flag_has routines restores (op.Set v) effect is = no_flag effect is
flag_has routines restores (op.Load its) effect is = no_flag effect is
flag_has routines restores (op.Store its) effect is = no_flag effect is
flag_has routines restores op.Drop effect is = no_flag effect is
flag_has routines restores op.Dup effect is = no_flag effect is
flag_has routines restores op.Tuck effect is = no_flag effect is
flag_has routines restores (op.Conv kind) effect is = no_flag effect is
flag_has routines restores (op.Unary its) effect is = no_flag effect is
flag_has routines restores (op.Binary its kind) effect is = no_flag effect is
flag_has routines restores op.IsNil effect is = no_flag effect is
flag_has routines restores (op.Compare its) effect is = no_flag effect is
flag_has routines restores (op.Difference size) effect is = no_flag effect is
flag_has routines restores (op.Offset bytes) effect is = no_flag effect is
flag_has routines restores (op.Step stride pointer_first) effect is = no_flag effect is
flag_has routines restores (op.Jump target) effect is = no_flag effect is
flag_has routines restores (op.Zero target) effect is = no_flag effect is
flag_has routines restores (op.Choose goal) effect is = no_flag effect is
flag_has routines restores (op.Shift place) effect is = sym (by_shift (slice_get routines place) effect) ∙ is
flag_has routines restores (op.Routine place) effect is =
    forward (role_has (role_in (slice_get routines place)) effect) (change_has (role_in (slice_get routines place)) effect) restores
    (sym (by_routine restores (slice_get routines place) effect) ∙ is)
flag_has routines restores (op.Call f) effect is = no_flag effect is
flag_has routines restores op.Return effect is = no_flag effect is
flag_has routines restores op.Turn effect is = no_flag effect is
flag_has routines restores op.Mark effect is = no_flag effect is
flag_has routines restores (op.Pick target) effect is = no_flag effect is
flag_has routines restores (op.Bring place) effect is = no_flag effect is

pub has_flag : (routines : List BoundRoutine) (restores : Bool) (its : Op) (effect : Effect) → OpHas routines (restores ≡ true) its effect
    → flag (effects_of_op routines restores its) effect ≡ true
has_flag routines restores (op.Num word) effect has = absurd has
has_flag routines restores op.Nil effect has = absurd has
has_flag routines restores (op.Address its) effect has = absurd has
has_flag routines restores (op.Get v) effect has = absurd has
has_flag routines restores (op.Set v) effect has = absurd has
has_flag routines restores (op.Load its) effect has = absurd has
has_flag routines restores (op.Store its) effect has = absurd has
has_flag routines restores op.Drop effect has = absurd has
has_flag routines restores op.Dup effect has = absurd has
has_flag routines restores op.Tuck effect has = absurd has
has_flag routines restores (op.Conv kind) effect has = absurd has
has_flag routines restores (op.Unary its) effect has = absurd has
has_flag routines restores (op.Binary its kind) effect has = absurd has
has_flag routines restores op.IsNil effect has = absurd has
has_flag routines restores (op.Compare its) effect has = absurd has
has_flag routines restores (op.Difference size) effect has = absurd has
has_flag routines restores (op.Offset bytes) effect has = absurd has
has_flag routines restores (op.Step stride pointer_first) effect has = absurd has
has_flag routines restores (op.Jump target) effect has = absurd has
has_flag routines restores (op.Zero target) effect has = absurd has
has_flag routines restores (op.Choose goal) effect has = absurd has
has_flag routines restores (op.Shift place) effect has = by_shift (slice_get routines place) effect ∙ has
has_flag routines restores (op.Routine place) effect has =
    by_routine restores (slice_get routines place) effect
    ∙ backward (role_has (role_in (slice_get routines place)) effect) (change_has (role_in (slice_get routines place)) effect) restores has
has_flag routines restores (op.Call f) effect has = absurd has
has_flag routines restores op.Return effect has = absurd has
has_flag routines restores op.Turn effect has = absurd has
has_flag routines restores op.Mark effect has = absurd has
has_flag routines restores (op.Pick target) effect has = absurd has
has_flag routines restores (op.Bring place) effect has = absurd has
