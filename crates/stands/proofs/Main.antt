-- The file to open first: a committed record stands. Each theorem is about the very definitions that the contracts of `start`, `request`, `feed` and
-- `end_of_input` cite, for every header that Start takes, every source of its length and every list of calls: accepted pieces carry the source's
-- bytes at the place asked, cuts are free, and refused calls may fall anywhere.
use Prim.Native.Nat.{ℕ, ◌+◌, ◌*◌, ◌/◌, ◌≤◌}
use mathlib.Core.List.{List, []}
use mathlib.Core.Logic.{◌⊎◌}
use mathlib.Core.Path.{◌≡◌, ap, ◌∙◌}
use native.Mathlib.Omega.{arith}
use lib.ListN.{length}
use Rattle.streaming.specs.Choose.{when◌then◌else◌}
use Rattle.streaming.specs.Record.{objects_in, committed_in}
use Rattle.streaming.specs.declared.FlatHeader.{FlatHeader}
use Rattle.streaming.specs.declared.Fault.{Fault}
use Rattle.account.specs.Account.{records_in, says_at, broken}
use Rattle.account.specs.Statement.{Call, takes, Walker, HonestCall, Honest, Meets}
use Rattle.account.specs.Runs.{run, bytes, committed, Past, Whole, Front, Repeats, Alike}
use Rattle.account.proofs.Main as A
use Rattle.rules.specs.Source.{Of}
use Rattle.rules.specs.Header.{locator_of, map_size}
use Rattle.rules.specs.Rules.{rules}
use Rattle.rules.specs.PlainList.{Listing, plain_list}
use Rattle.rules.proofs.Main as R
use Rattle.stands.proofs.Fitness.{begun, flat_walker}
use Rattle.stands.proofs.Meets.{flat_meets}
use Rattle.stands.proofs.Fronts.{front_objects}

-- ---- the walk meets the rules

-- Call by call, the walk asks and answers what the rules' account says, the end of input too. The test of fitness is in it: 19 never comes.
pub meets : Meets Of rules flat_walker
meets = flat_meets

module _ (h : FlatHeader) where
  -- ---- demand 3

  -- What has been committed at any moment begins the rules' record list, for every source of that length that agrees with the bytes taken so far.
  pub stands : (cs : List Call) (src : List ℕ) → Of h src → Honest flat_walker src (begun h) cs → Front (committed flat_walker (begun h) cs) (records_in (rules h src))
  stands = A.every_source Of rules (λ h src of. R.rules_tidy h src) flat_walker meets h

  module _ (src : List ℕ) (of : Of h src) where
    -- The call that takes a record's last byte, asked for that record, commits it if the rules do; no other call commits anything.
    pub last_byte : (cs : List Call) → Honest flat_walker src (begun h) cs → (c : Call) → HonestCall flat_walker src (run flat_walker (begun h) cs) c
        → committed_in (flat_walker.feed (run flat_walker (begun h) cs) c).0
        ≡ when takes (flat_walker.request (run flat_walker (begun h) cs)) c
        then committed_in (says_at (bytes flat_walker (begun h) cs + length c.piece) (rules h src)) else []
    last_byte = A.last_byte_commits Of rules (λ h src of. R.rules_tidy h src) flat_walker meets h src of

    -- A run that has taken all it is asked for, as far as the source holds it, has the whole list and the rules' own ending.
    pub whole : (cs : List Call) → Honest flat_walker src (begun h) cs → Past src (flat_walker.request (run flat_walker (begun h) cs))
        → Whole flat_walker (rules h src) (begun h) cs
    whole = A.whole_run Of rules (λ h src of. R.rules_tidy h src) flat_walker meets h src of

    -- What the user tells the shop: two runs over one source that differ in cuts, refused calls and order of arrival commit the same records in the
    -- same order, the one list a front of the other.
    pub arrival_has_no_say : (cs ds : List Call) → Honest flat_walker src (begun h) cs → Honest flat_walker src (begun h) ds
        → Front (committed flat_walker (begun h) cs) (committed flat_walker (begun h) ds) ⊎ Front (committed flat_walker (begun h) ds) (committed flat_walker (begun h) cs)
    arrival_has_no_say = A.one_begins_other Of rules (λ h src of. R.rules_tidy h src) flat_walker meets h src of

    -- The map's order decides: in every run the records come in the order of the plain list, both sections and then the map's entries one by one. So of
    -- two records of one handle the later one in the map is the later one in every run.
    pub map_order_decides : (cs : List Call) → Honest flat_walker src (begun h) cs → Front (committed flat_walker (begun h) cs) (plain_list h src).records
    map_order_decides cs honest =
        let f = stands cs src of honest in
        record { rest = f.rest; whole_is = f.whole_is ∙ ap (λ (l : Listing). l.records) (R.agree h src of) }

    -- ---- demand 1

    -- A map of S bytes leads to at most S/2 object records, in any run.
    pub half_the_map : (cs : List Call) → Honest flat_walker src (begun h) cs → 2 * objects_in (committed flat_walker (begun h) cs) ≤ map_size h
    half_the_map cs honest = omega (arith, front_objects (stands cs src of honest), R.half_the_map h src of)

    -- The bytes of a run, the piece at fault whole, are at most both sections once, the map twice, and the source once for every two bytes of the map;
    pub bytes_bound : (cs : List Call) → Honest flat_walker src (begun h) cs
        → bytes flat_walker (begun h) cs ≤ (locator_of h 0).size + (locator_of h 1).size + 2 * map_size h + map_size h / 2 * h.length
    bytes_bound cs honest =
        let b = A.bounded Of rules (λ h src of. R.rules_tidy h src) flat_walker meets h src of cs honest in omega (arith, b.at_most, R.bytes_bound h src)

    -- Behind a fault every call, whatever it brings, is answered by that fault.
    pub fault_repeats : (cs : List Call) → Honest flat_walker src (begun h) cs → (f : Fault) → flat_walker.request (run flat_walker (begun h) cs) ≡ broken f
        → (ds : List Call) → Repeats flat_walker f (run flat_walker (run flat_walker (begun h) cs) ds)
    fault_repeats = A.fault_repeats Of rules (λ h src of. R.rules_tidy h src) flat_walker meets h src of

    -- ---- uniqueness

    -- Any walker at all that meets the statement asks and answers as ours does, call by call.
    pub only_one : (W : Walker FlatHeader) → Meets Of rules W → (cs : List Call) → Honest flat_walker src (begun h) cs
        → Alike flat_walker W (begun h) (W.start h) cs
    only_one W other = A.unique Of rules flat_walker W meets other h src of
