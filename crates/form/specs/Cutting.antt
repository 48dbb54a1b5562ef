-- What each list of cuts keeps: a driver's demands are cut by it in turn, so each piece has to have a byte.
use Rattle.std.specs.Prelude.{◌≡◌, ℕ, ◌-◌, ◌≤◌, ◌<◌, List, ◌++◌, length, get_or, take, replicate}

-- at most 64, and none of them is 0
pub record Cutting (cuts : List ℕ) : Type 0 where
  pub few : length cuts ≤ 64
  pub some : (i : ℕ) → i < length cuts → 0 < get_or cuts i 0

-- a list of cuts in its room for 64, with 0 in the places behind them
abbrev pub in_room : List ℕ → List ℕ
in_room cuts = cuts ++ replicate (64 - length cuts) 0

-- the first `count` numbers of an array are cuts, and it is their room: 0 behind them. So the list of them gives the count and the array back
pub record Laid (count : ℕ) (sizes : List ℕ) : Type 0 where
  pub cutting : Cutting (take count sizes)
  pub counted : length (take count sizes) ≡ count
  pub blank : in_room (take count sizes) ≡ sizes
