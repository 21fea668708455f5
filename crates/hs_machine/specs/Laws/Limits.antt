-- Where a mover tells its decisions, a run ends within its limits, or it passes the limit of output first, or that of its script: one of the three, and
-- no other. So each answer is given exactly if its cause is.
--     within_or_output, within_or_script, output_or_script       no two of them
use Rattle.std.proofs.Common.{◌≡◌, ◌≤◌, ◌+◌, ◌⊎◌, inl, inr, ℕ, List, [], ◌∷◌, ◌++◌, length, slice_get, Option, Some, None, refl, sym, ap, ◌∙◌, subst, arith, append_assoc}
use Rattle.std.proofs.lemmas.List.{length-append}
use Rattle.hs_code_run.specs.Codes.{CodeFunction, CodeProgram, Point}
use Rattle.hs_code_run.specs.Laws.OneWay.{never, same_went}
use Rattle.hs_code_run.specs.Laws.Outputs.{RunsOn}
use Rattle.hs_code_run.specs.Runs as run
use Rattle.hs_code_run.specs.Runs.{Comes, ComesWith, begun}
use Rattle.hs_heap.specs.declared.decision.Decision.{Decision}
use Rattle.hs_machine.specs.Laws.Scripts.{AreFronts, ends_in_one_way, same_front, told_together}
use Rattle.hs_machine.specs.Laws.Ways.{TakesOne, both_reached, comes_after, comes_on_so, decision_is_taken, reaches_on}
use Rattle.hs_machine.specs.Reaching.{Reaches, here, onward}
use Rattle.hs_machine.specs.Recording.{IsTold, size_of}
use Rattle.hs_machine.specs.Transcripts.{EndsWithin, HasMuchOutput, PassesOutput, PassesScript, ReachesWith, RunsTo, comes_under, most_output, reaches_under, on_the_way, at_the_end}
use Rattle.hs_meaning.specs.Machine.{Machine}
use Rattle.hs_meaning.specs.Runs.{starting}
use Rattle.hs_meaning.specs.Steps.{State}
use Rattle.hs_meaning.specs.declared.input.Input.{Input}
use Rattle.hs_meaning.specs.declared.outcome.Outcome.{Outcome}

-- ---- sizes

size_of-append : (one other : List Decision) → size_of (one ++ other) ≡ size_of one + size_of other
size_of-append [] other = omega arith
size_of-append (first ∷ rest) other = omega (arith, size_of-append rest other)

-- what was put out stays, so there is no less of it
longer : (s t : State) → RunsOn s t → length s.machine.output ≤ length t.machine.output
longer s t on = omega (arith, ap length on.machine.1, length-append s.machine.output on.machine.0)

module _ (program : CodeProgram) (input : Input) (turns : ℕ) where
  -- ---- one run under one schedule

  both_there : (schedule : List Decision) (a b : Point) (x y : State) → reaches_under program input turns schedule a x
      → reaches_under program input turns schedule b y → Reaches program a x b y ⊎ Reaches program b y a x
  both_there schedule a b x y first second = go (slice_get program.functions program.main) first second
    where
      go : (main : Option CodeFunction) → ReachesWith program input turns main schedule a x → ReachesWith program input turns main schedule b y
          → Reaches program a x b y ⊎ Reaches program b y a x
      go None first second = absurd first
      go (Some function) first second =
          both_reached program (begun program [] function (starting program.setting input schedule turns)) a b x y first second

  then_ends : (schedule : List Decision) (a : Point) (x after : State) (outcome : Outcome) → reaches_under program input turns schedule a x
      → comes_under program input turns schedule outcome after → Comes program a x outcome after
  then_ends schedule a x after outcome first last = go (slice_get program.functions program.main) first last
    where
      go : (main : Option CodeFunction) → ReachesWith program input turns main schedule a x
          → ComesWith program input schedule [] turns main outcome after → Comes program a x outcome after
      go None first last = absurd first
      go (Some function) first last =
          comes_after program (begun program [] function (starting program.setting input schedule turns)) a x after outcome first last

  -- ---- output

  -- a run that ends with few bytes never had many
  no_flood : (one other : List Decision) → AreFronts one other → (outcome : Outcome) (after : Machine) (left : ℕ)
      → RunsTo program (reaches_under program input turns) (comes_under program input turns) one outcome after left
      → length after.output ≤ most_output
      → HasMuchOutput program (reaches_under program input turns) (comes_under program input turns) other → ⊥
  no_flood one other fronts outcome after left runs few (on_the_way point machine still reached much) =
      absurd (omega (arith, few, much, longer now ends (comes_on_so program point now ends outcome later)))
    where
      now : State
      now = record { machine = machine; schedule = fronts.others; turns = still }

      ends : State
      ends = record { machine = after; schedule = fronts.rest; turns = left }

      later : Comes program point now outcome ends
      later =
          then_ends (other ++ fronts.others) point now ends outcome (reached fronts.others)
          (subst (λ (l : List Decision). comes_under program input turns l outcome ends) fronts.same (runs fronts.rest))
  no_flood one other fronts outcome after left runs few (at_the_end ended last still ends much) =
      absurd (omega (arith, few, much, ap (λ (s : State). length s.machine.output) both.1))
    where
      first : State
      first = record { machine = after; schedule = fronts.rest; turns = left }

      second : State
      second = record { machine = last; schedule = fronts.others; turns = still }

      both : (outcome ≡ ended) × (first ≡ second)
      both =
          ends_in_one_way program input turns (other ++ fronts.others) outcome ended first second
          (subst (λ (l : List Decision). comes_under program input turns l outcome first) fronts.same (runs fronts.rest)) (ends fronts.others)

  -- ---- decisions

  -- after an operation that asks for a decision, the run has taken it
  module _ (point : Point) (machine : Machine) (left : ℕ) (next : Decision) (rest : List Decision) where
    -- where it asks
    abbrev asking : State
    asking = record { machine = machine; schedule = next ∷ rest; turns = left }

    after_it : (taken : TakesOne program point asking) (after : State) → RunsOn taken.after after
        → (more : List Decision) × (rest ≡ more ++ after.schedule)
    after_it taken after on = (on.schedule.0, sym taken.schedule ∙ on.schedule.1)

    -- at its end
    taken_at_the_end : (taken : TakesOne program point asking) (after : State) (outcome : Outcome) → Comes program point asking outcome after
        → (more : List Decision) × (rest ≡ more ++ after.schedule)
    taken_at_the_end taken after outcome (run.halted _ _ _ _ is) = absurd (never outcome taken.next after taken.after (sym is ∙ taken.steps))
    taken_at_the_end taken after outcome (run.onward _ later _ t _ _ is comes) =
        let both = same_went later taken.next t taken.after (sym is ∙ taken.steps) in
        after_it taken after (subst (λ (s : State). RunsOn s after) both.1 (comes_on_so program later t after outcome comes))

    -- or at a later point, which is there with other output
    taken_on_the_way : (taken : TakesOne program point asking) (a : Point) (after : State) → Reaches program point asking a after
        → (asking ≡ after) ⊎ ((more : List Decision) × (rest ≡ more ++ after.schedule))
    taken_on_the_way taken a after (here _ _) = inl refl
    taken_on_the_way taken a after (onward _ later _ _ t _ is reaches) =
        let both = same_went later taken.next t taken.after (sym is ∙ taken.steps) in
        inr (after_it taken after (subst (λ (s : State). RunsOn s after) both.1 (reaches_on program later a t after reaches)))

  -- a script that goes on behind a decision has a greater size
  much_longer : (script one rest schedule more : List Decision) (next : Decision) → (script ++ next ∷ []) ++ rest ≡ one ++ schedule
      → rest ≡ more ++ schedule → size_of (script ++ next ∷ []) ≤ size_of one
  much_longer script one rest schedule more next same is =
      omega (arith, ap size_of one_is, size_of-append (script ++ next ∷ []) more)
    where
      one_is : one ≡ (script ++ next ∷ []) ++ more
      one_is =
          same_front one ((script ++ next ∷ []) ++ more) schedule
          (sym same
          ∙ ap (λ (l : List Decision). (script ++ next ∷ []) ++ l) is
          ∙ sym (append_assoc (script ++ next ∷ []) more schedule))

  -- ---- what a mover told

  module _ (told : List Decision) where
    -- it ends within its limits, and passes that of output
    pub within_or_output : EndsWithin program (reaches_under program input turns) (comes_under program input turns) (Some told)
        → PassesOutput program (reaches_under program input turns) (comes_under program input turns) (Some told) → ⊥
    within_or_output ends passes =
        no_flood ends.script passes.script (told_together told ends.script passes.script ends.is_told passes.is_told) ends.outcome ends.after ends.left
        ends.run ends.few_bytes passes.much

    -- what a run of the script asks for, if it has too many decisions
    module _ (passes : PassesScript program (reaches_under program input turns) (comes_under program input turns) (Some told)) where
      -- with that decision
      abbrev whole : List Decision
      whole = passes.script ++ passes.next ∷ []

      -- where it asks for it
      abbrev there : List Decision → State
      there rest = record { machine = passes.machine; schedule = passes.next ∷ rest; turns = passes.left }

      reached : (rest : List Decision) → reaches_under program input turns (whole ++ rest) passes.point (there rest)
      reached rest =
          subst (λ (l : List Decision). reaches_under program input turns l passes.point (there rest))
          (sym (append_assoc passes.script (passes.next ∷ []) rest)) (passes.reached (passes.next ∷ rest))

      takes : (rest : List Decision) → TakesOne program passes.point (there rest)
      takes rest = decision_is_taken program passes.point (there rest) passes.asks

      -- a run that ends has taken them all
      ends_longer : (one : List Decision) → IsTold (Some told) one → (outcome : Outcome) (after : Machine) (left : ℕ)
          → RunsTo program (reaches_under program input turns) (comes_under program input turns) one outcome after left → size_of whole ≤ size_of one
      ends_longer one is outcome after left runs =
          much_longer passes.script one fronts.rest fronts.others behind.0 passes.next fronts.same behind.1
        where
          fronts : AreFronts whole one
          fronts = told_together told whole one passes.is_told is

          ends : State
          ends = record { machine = after; schedule = fronts.others; turns = left }

          behind : (more : List Decision) × (fronts.rest ≡ more ++ fronts.others)
          behind =
              taken_at_the_end passes.point passes.machine passes.left passes.next fronts.rest (takes fronts.rest) ends outcome
              (then_ends (whole ++ fronts.rest) passes.point (there fronts.rest) ends outcome (reached fronts.rest)
              (subst (λ (l : List Decision). comes_under program input turns l outcome ends) (sym fronts.same) (runs fronts.others)))

      -- it ends within its limits, and passes that of its script
      pub within_or_script : EndsWithin program (reaches_under program input turns) (comes_under program input turns) (Some told) → ⊥
      within_or_script ends =
          absurd (omega (arith, passes.much, ends.few_decisions, ends_longer ends.script ends.is_told ends.outcome ends.after ends.left ends.run))

      -- it passes the limit of output, and that of its script
      pub output_or_script : PassesOutput program (reaches_under program input turns) (comes_under program input turns) (Some told) → ⊥
      output_or_script floods = by_much floods.much
        where
          by_much : HasMuchOutput program (reaches_under program input turns) (comes_under program input turns) floods.script → ⊥
          by_much (at_the_end outcome after left runs much) =
              absurd (omega (arith, passes.much, floods.few, ends_longer floods.script floods.is_told outcome after left runs))
          by_much (on_the_way point machine left met much) =
              by_order
              (both_there (whole ++ fronts.rest) passes.point point (there fronts.rest) flooded (reached fronts.rest)
              (subst (λ (l : List Decision). reaches_under program input turns l point flooded) (sym fronts.same) (met fronts.others)))
            where
              fronts : AreFronts whole floods.script
              fronts = told_together told whole floods.script passes.is_told floods.is_told

              flooded : State
              flooded = record { machine = machine; schedule = fronts.others; turns = left }

              by_taken : (there fronts.rest ≡ flooded) ⊎ ((more : List Decision) × (fronts.rest ≡ more ++ fronts.others)) → ⊥
              by_taken (inl same) = absurd (omega (arith, passes.few, much, ap (λ (s : State). length s.machine.output) same))
              by_taken (inr behind) =
                  absurd (omega (
                    arith,
                    passes.much,
                    floods.few,
                    much_longer passes.script floods.script fronts.rest fronts.others behind.0 passes.next fronts.same behind.1,
                  ))

              by_order : Reaches program passes.point (there fronts.rest) point flooded ⊎ Reaches program point flooded passes.point (there fronts.rest) → ⊥
              by_order (inl on) =
                  by_taken (taken_on_the_way passes.point passes.machine passes.left passes.next fronts.rest (takes fronts.rest) point flooded on)
              by_order (inr on) =
                  absurd (omega (
                    arith,
                    passes.few,
                    much,
                    longer flooded (there fronts.rest) (reaches_on program point passes.point flooded (there fronts.rest) on),
                  ))
