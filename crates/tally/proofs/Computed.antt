-- Tallies that are computed: document 01's whole case cut in two ways, faults, repeats, and a count at the top.
use Rattle.std.specs.Prelude.{Ok, Option, Some, None}
use Prim.Native.Nat.{ℕ, ◌-◌, ◌^◌}
use mathlib.Core.List.{List, [], ◌∷◌}
use mathlib.Core.Path.{◌≡◌, refl}
use lib.ListN.{length, set}
use Rattle.streaming.specs.Choose.{when◌then◌else◌}
use Rattle.streaming.specs.declared.FlatHeader.{FlatHeader}
use Rattle.streaming.specs.declared.Step.TheVariants as step
use Rattle.streaming.specs.declared.Part.TheVariants as part
use Rattle.account.specs.Account.{framing, payload}
use Rattle.account.specs.Statement.{Call}
use Rattle.account.specs.Statement as S
use Rattle.rules.proofs.Cases.{locator, header_with, whole_header, whole}
use Rattle.stands.proofs.EveryStep.{every_step}
use Rattle.stands.proofs.Fitness.{begun}
use Rattle.stands.proofs.WholeCase.{whole_demands, cut_elsewhere}
use Rattle.tally.specs.declared.Tally.{Tally}
use Rattle.tally.specs.History.{Heard, heard, total, open_payload, handles_of, handles_in, repeats}
use Rattle.tally.specs.Tally.{last_of, tally_of}
use Rattle.tally.specs.Run.{heard_in}

-- the five counts, in the order of the driver's line, and the last handle
abbrev counts : (bytes framing payload objects repeats : ℕ) → Option ℕ → Tally
counts b f p o r l = record { bytes = b; framing = f; payload = p; objects = o; repeats = r; last = l }

-- ---- the whole case

pub record WholeCase : Type 0 where
  pub wholly : tally_of (heard_in (begun whole_header) whole_demands) ≡ counts 97 94 3 1 0 (Some 5)
  -- the first sentinel in two pieces, and a refused call between them
  pub cut : tally_of (heard_in (begun whole_header) cut_elsewhere) ≡ counts 97 94 3 1 0 (Some 5)

pub whole_case_lem : WholeCase
unfolding every_step heard_in tally_of total handles_in handles_of repeats last_of
whole_case_lem = record { wholly = refl; cut = refl }

-- ---- faults

-- the same places and lengths, with the bytes of another source
abbrev over : List ℕ → List Call → List Call
over src [] = []
over src (c ∷ cs) = record { offset = c.offset; piece = S.part src c.offset (length c.piece) } ∷ over src cs

abbrev at : (offset n : ℕ) → Call
at offset n = record { offset = offset; piece = S.part whole offset n }

-- the third byte of the first sentinel is another
abbrev wrong_sentinel : List ℕ
wrong_sentinel = set whole 72 0

-- the object's checksum is another
abbrev wrong_object : List ℕ
wrong_object = set whole 151 0

-- the header variables' locator is too short by one byte
abbrev short_section : FlatHeader
short_section = header_with (locator 0 70 37) (locator 1 108 38) (locator 2 153 11) 164

pub record Faulty : Type 0 where
  -- the piece at fault is framing, whole; what comes behind it is only told the fault again
  pub wholly : tally_of (heard_in (begun whole_header) (over wrong_sentinel whole_demands)) ≡ counts 16 16 0 0 0 None
  pub cut : tally_of (heard_in (begun whole_header) (over wrong_sentinel cut_elsewhere)) ≡ counts 5 5 0 0 0 None
  -- an object that fails at its checksum leaves its payload in hand
  pub object : tally_of (heard_in (begun whole_header) (over wrong_object whole_demands)) ≡ counts 93 90 3 0 0 None
  pub in_hand : open_payload 0 (heard_in (begun whole_header) (over wrong_object whole_demands)) ≡ 3
  -- a fault that is found on entering is held before the first call, which takes nothing
  pub entering : tally_of (heard_in (begun short_section) (at 70 16 ∷ [])) ≡ counts 0 0 0 0 0 None

pub faulty : Faulty
unfolding every_step heard_in tally_of total open_payload handles_in handles_of repeats last_of
faulty = record { wholly = refl; cut = refl; object = refl; in_hand = refl; entering = refl }

-- ---- repeats

-- the last piece of an object of this handle, which follows three bytes of its data
abbrev object : ℕ → List Heard → List Heard
object handle hs =
    heard None (payload part.Object) 3
    ∷ heard None (Ok (step.Object (record { handle = handle; offset = 146; size = 3; type_code = 0 }))) 2 ∷ hs

-- the object just before has the same handle, once; an object between them is not passed over, and the first is no repeat, of handle 0 neither
pub record Repeated : Type 0 where
  pub twice : tally_of (object 5 (object 5 (object 7 (object 5 [])))) ≡ counts 20 8 12 4 1 (Some 5)
  pub zero : tally_of (object 0 (object 0 [])) ≡ counts 10 4 6 2 1 (Some 0)

pub repeating : Repeated
unfolding tally_of total handles_in handles_of repeats last_of when◌then◌else◌
repeating = record { twice = refl; zero = refl }

-- ---- at the top

-- a count that would pass 2^64 - 1 stays there, and the others go on
pub record Stopped : Type 0 where
  pub bytes : tally_of (heard None framing (2 ^ 64 - 1) ∷ heard None (payload part.Object) 5 ∷ [])
      ≡ counts (2 ^ 64 - 1) (2 ^ 64 - 1) 5 0 0 None

pub stopped : Stopped
unfolding tally_of total handles_in handles_of repeats last_of
stopped = record { bytes = refl }
