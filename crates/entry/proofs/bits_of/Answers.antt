-- `bits_of` meets its contract: a mask of the low bits is a remainder.
use lib.Bits.{and_mask}
use Rattle.streaming.specs.Choose.{when◌then◌else◌}
use Rattle.entry.specs.Entry.{bits_of}
use Rattle.entry.proofs.bits_of.Goals as goal

pub returns-then-is_last-field : goal.returns-then-is_last-field
unfolding bits_of when◌then◌else◌
returns-then-is_last-field c = rw (← c.is_last.ensures, c.if-is_last-field.true) (and_mask c.args.byte 6)

pub returns : goal.returns
unfolding bits_of when◌then◌else◌
returns c = rw (← c.is_last.ensures, c.if-is_last-field.false) (and_mask c.args.byte 7)
