-- `with_room` meets its contract.
use borrow.Author.Tests.{le-leb, lt-leb}
use Rattle.streaming.specs.Choose.{when◌then◌else◌}
use Rattle.oneshot.specs.OneShot.{with_room}
use Rattle.oneshot.proofs.with_room.Goals as goal

pub returns-then-w-places-clause-answer : goal.returns-then-w-places-clause-answer
unfolding with_room when◌then◌else◌
returns-then-w-places-clause-answer c = rw (le-leb c.args.w.count c.args.places c.if-w-places.true)

pub returns-clause-answer : goal.returns-clause-answer
unfolding with_room when◌then◌else◌
returns-clause-answer c = rw (lt-leb c.args.w.count c.args.places c.if-w-places.false)
