use Rattle.std.proofs.Common.{ℕ, zero, suc, ◌≡◌, List, refl, add-one}
use Rattle.crc.specs.Crc.{crc_of}
use Rattle.crc_speed.specs.Times.{crc_times}
use Rattle.crc_speed.proofs.crc8_lent.Goals as goal

-- once more at the end
once_more : (n seed : ℕ) (bytes : List ℕ) → crc_of (crc_times n seed bytes) bytes ≡ crc_times (suc n) seed bytes
unfolding crc_times
once_more zero seed bytes = refl
once_more (suc n) seed bytes = once_more n (crc_of seed bytes) bytes

pub loop-init : goal.loop-init
unfolding crc_times
loop-init c = refl

pub loop-preserved : goal.loop-preserved
loop-preserved c = rw (add-one, ← once_more, ← c.loop.invariant) c.by_eight-crc.ensures
