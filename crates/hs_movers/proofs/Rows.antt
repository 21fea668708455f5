-- The states of the generator on worked examples, computed apart from this program with whole numbers of any size.
use Rattle.std.proofs.Common.{◌≡◌, refl}
use Rattle.hs_movers.specs.Seeds.{next_state}

-- the first three states from the seed 0
first_from_0 : next_state 0 ≡ 1442695040888963407
unfolding next_state
first_from_0 = refl

second_from_0 : next_state 1442695040888963407 ≡ 1876011003808476466
unfolding next_state
second_from_0 = refl

third_from_0 : next_state 1876011003808476466 ≡ 11166244414315200793
unfolding next_state
third_from_0 = refl

-- and from the seed 7
first_from_7 : next_state 7 ≡ 9098160460397411210
unfolding next_state
first_from_7 = refl

second_from_7 : next_state 9098160460397411210 ≡ 17628806926561717905
unfolding next_state
second_from_7 = refl

third_from_7 : next_state 17628806926561717905 ≡ 16723372171710603212
unfolding next_state
third_from_7 = refl
