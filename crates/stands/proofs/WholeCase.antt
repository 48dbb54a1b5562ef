-- The whole case through the walk by calls, computed to its end and cut in two ways: the premises of the theorems are met, and all three records come.
use Rattle.std.specs.Prelude.{Ok, None}
use Prim.Native.Nat.{ℕ, zero, suc}
use mathlib.Core.Bool.{false≢true}
use mathlib.Core.List.{List, [], ◌∷◌}
use mathlib.Core.Path.{◌≡◌, refl, ap}
use lib.ListN.{length, take, drop}
use Rattle.streaming.specs.declared.Part.TheVariants.{HeaderVars, Classes}
use Rattle.streaming.specs.declared.FlatWalker.{FlatWalker}
use Rattle.account.specs.Statement.{Call, part, Honest}
use Rattle.account.specs.Runs.{run, bytes, committed}
use Rattle.rules.proofs.Cases.{whole_header, whole, S, O}
use Rattle.stands.proofs.EveryStep.{every_step}
use Rattle.stands.proofs.Fitness.{begun, flat_walker}

-- ---- calls that bring the bytes of the whole case

-- so many of its bytes at a place, offered there
abbrev pub at : (offset n : ℕ) → Call
at offset n = record { offset = offset; piece = part whole offset n }

-- calls by their places and sizes
abbrev cuts : List (ℕ × ℕ) → List Call
cuts [] = []
cuts (p ∷ ps) = at p.0 p.1 ∷ cuts ps

take_its_length : (n : ℕ) (bs : List ℕ) → take n bs ≡ take (length (take n bs)) bs
take_its_length zero bs = refl
take_its_length (suc n) [] = refl
take_its_length (suc n) (b ∷ bs) = ap (λ l. b ∷ l) (take_its_length n bs)

honest-cuts : (ps : List (ℕ × ℕ)) (s : FlatWalker) → Honest flat_walker whole s (cuts ps)
honest-cuts [] s = tt
honest-cuts (p ∷ ps) s = (λ e. take_its_length p.1 (drop p.0 whole), honest-cuts ps (flat_walker.feed s (at p.0 p.1)).1)

-- ---- two lists of calls

-- behind the first sentinel: the size, checksum and sentinel of the header variables; the classes; the first chunk, and its entry byte by byte; the
-- object; the last chunk
abbrev behind_sentinel : List (ℕ × ℕ)
behind_sentinel =
    (86, 4) ∷ (90, 2) ∷ (92, 16) ∷ (108, 16) ∷ (124, 4) ∷ (128, 2) ∷ (130, 16)
    ∷ (153, 2) ∷ (155, 3) ∷ (158, 2) ∷ (155, 1) ∷ (156, 1) ∷ (157, 1)
    ∷ (146, 2) ∷ (148, 3) ∷ (151, 2) ∷ (160, 2) ∷ (162, 2) ∷ []

-- each demand whole
abbrev pub whole_demands : List Call
whole_demands = cuts ((70, 16) ∷ behind_sentinel)

-- the first sentinel in two pieces, and between them a call at a place that is no longer asked for, with other bytes: it is refused
abbrev pub cut_elsewhere : List Call
cut_elsewhere = at 70 5 ∷ record { offset = 70; piece = 1 ∷ 2 ∷ [] } ∷ cuts ((75, 11) ∷ behind_sentinel)

-- ---- both are honest

pub honest-whole : Honest flat_walker whole (begun whole_header) whole_demands
honest-whole = honest-cuts ((70, 16) ∷ behind_sentinel) (begun whole_header)

pub honest_cut : Honest flat_walker whole (begun whole_header) cut_elsewhere
unfolding every_step
honest_cut = (λ e. refl, (λ e. absurd (false≢true e), honest-cuts ((75, 11) ∷ behind_sentinel) (run flat_walker (begun whole_header) (at 70 5 ∷ []))))

-- ---- and both come to the whole end

-- the three records, nothing left to ask for, and 97 bytes taken
pub record AllOf (cs : List Call) : Type 0 where
  pub records : committed flat_walker (begun whole_header) cs ≡ S HeaderVars 70 0 ∷ S Classes 108 0 ∷ O 5 146 3 0 ∷ []
  pub request : flat_walker.request (run flat_walker (begun whole_header) cs) ≡ Ok None
  pub end_of_input : flat_walker.end_of_input (run flat_walker (begun whole_header) cs) ≡ Ok tt
  pub taken : bytes flat_walker (begun whole_header) cs ≡ 97

pub all_of_whole : AllOf whole_demands
unfolding every_step
all_of_whole = record { records = refl; request = refl; end_of_input = refl; taken = refl }

pub all_of_cut : AllOf cut_elsewhere
unfolding every_step
all_of_cut = record { records = refl; request = refl; end_of_input = refl; taken = refl }
