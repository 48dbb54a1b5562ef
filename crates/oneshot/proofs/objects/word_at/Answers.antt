-- `word_at` meets its contract.
use Rattle.oneshot.proofs.Reading.{little_two}
use Rattle.oneshot.proofs.objects.word_at.Goals as goal

pub returns : goal.returns
returns c = rw (little_two _ _, ← c.byte_at-2.ensures, ← c.byte_at.ensures) c.le16.ensures
