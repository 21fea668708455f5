-- The command that is built is `check_command`.
use Rattle.std.proofs.Common.{◌≡◌, ap, ap₂, map, refl, subst, true, ◌∙◌}
use Rattle.std.specs.Prelude.{IfOk}
use Rattle.std.specs.String.{string_bytes}
use Rattle.std.proofs.lemmas.Result.{IfOk-weaker}
use Rattle.clap.specs.Words.{App, FailsBy, app_of, fault_of, found_of, matches_of, rows_of, is_simple, is_simple_and_free, with_rule}
use Rattle.hs_words.specs.Words.{check_command}
use Rattle.hs_words.proofs.check.check_matches.Goals as goal

-- the command is simple, and its argument has no rule on another
is_free : is_simple_and_free check_command ≡ true
is_free = refl

is_plain : is_simple check_command ≡ true
is_plain = refl

-- the command that was built is the one that is stated
built : (c : goal.After-try_get_matches_from) → app_of c.in_ok-command.command ≡ check_command
built c = c.in_ok-command.ensures ∙ ap₂ with_rule c.new.ensures.app c.file.ensures.rule

pub returns-clause-faults : goal.returns-clause-faults
returns-clause-faults c =
    subst (λ (app : App). FailsBy (fault_of app (map string_bytes c.args.words.now)) c.try_get_matches_from.result) (built c)
    (c.try_get_matches_from.ensures.kinds (ap is_simple_and_free (built c) ∙ is_free))

pub returns-clause-matches : goal.returns-clause-matches
returns-clause-matches c =
    subst (λ (app : App). IfOk c.try_get_matches_from.result
    (λ matches. rows_of (found_of matches) ≡ matches_of app (map string_bytes c.args.words.now)))
    (built c)
    (IfOk-weaker c.try_get_matches_from.result _ _ (λ matches is. (is (ap is_simple (built c) ∙ is_plain)).0) c.try_get_matches_from.ensures.matches)
