use Rattle.hs_meaning.proofs.laws.only_what_may_move_is_moved.Goals as goal
use Rattle.hs_meaning.specs.Laws.Shifts.{decisions_keep_others, names_count, nothing_moves_past_the_end}

pub returns-clause-others_stay : goal.returns-clause-others_stay
returns-clause-others_stay c = decisions_keep_others

pub returns-clause-any_list_is_a_schedule : goal.returns-clause-any_list_is_a_schedule
returns-clause-any_list_is_a_schedule c = names_count

pub returns-clause-nothing_past_the_end : goal.returns-clause-nothing_past_the_end
returns-clause-nothing_past_the_end c = nothing_moves_past_the_end
