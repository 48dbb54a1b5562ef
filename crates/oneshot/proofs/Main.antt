-- The file to open first: the one-shot walk and the walk by calls are two ways to one answer. The theorems are about the very definitions that the
-- contracts of `walk`, and of `start`, `feed` and `end_of_input`, cite.
use Prim.Native.Nat.{ℕ, ◌*◌, ◌≤◌}
use mathlib.Core.List.{List}
use mathlib.Core.Path.{◌≡◌}
use lib.ListN.{length}
use Rattle.streaming.specs.declared.FlatHeader.{FlatHeader}
use Rattle.streaming.specs.declared.ObjectRecord.{ObjectRecord}
use Rattle.account.specs.Statement.{Call, Honest}
use Rattle.account.specs.Runs.{run, Past}
use Rattle.rules.specs.Header.{map_size}
use Rattle.rules.specs.Source.{Of}
use Rattle.stands.proofs.Fitness.{begun, flat_walker}
use Rattle.survey.specs.Survey.{survey_of}
use Rattle.oneshot.specs.OneShot.{with_room}
use Rattle.oneshot.proofs.TwoWays as Two
use Rattle.oneshot.proofs.WholeCase as Case

-- For a header that Start takes, a source of its length and a list with room: what a caller reads from the answer and the list, sections and then
-- objects, is what every run that has taken all it is asked for has committed, record by record, and the ending is the run's. Cuts, refused calls and
-- the order of arrival have no say.
pub two_ways : (h : FlatHeader) (src : List ℕ) → Of h src → (list : List ObjectRecord) → (survey_of h src).count ≤ length list
    → (cs : List Call) → Honest flat_walker src (begun h) cs → Past src (flat_walker.request (run flat_walker (begun h) cs)) → Two.SameWalk h src list cs
two_ways = Two.same_walk

-- A map of S bytes needs at most S/2 places, for every header and every source;
pub half_the_map : (h : FlatHeader) (src : List ℕ) → 2 * (survey_of h src).count ≤ map_size h
half_the_map = Two.half_the_map

-- so a list of half the map's size is never too small.
pub half_is_enough : (h : FlatHeader) (src : List ℕ) (places : ℕ) → map_size h ≤ 2 * places → with_room places (survey_of h src) ≡ survey_of h src
half_is_enough = Two.half_is_enough

-- Document 01's whole case, with one place, with two and with none.
pub whole_case : Case.WholeCase
whole_case = Case.whole_case
