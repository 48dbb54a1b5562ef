-- `walk` meets its contract: the loop overwrites the front of the list by the records of its steps, and these are the rules' objects.
use Prim.Native.Nat.{◌≤◌}
use mathlib.Core.Path.{◌≡◌, ap, ◌∙◌}
use lib.ListN.{length, take}
use lib.Seq.{length-take-le}
use native.Mathlib.Omega.{arith}
use Rattle.survey.specs.Survey.{survey_of}
use Rattle.survey.specs.declared.Walked.{Walked}
use Rattle.oneshot.specs.Cursor.{first_cursor, record_of}
use Rattle.oneshot.specs.OneShot.{with_room}
use Rattle.oneshot.proofs.Over.{over_take}
use Rattle.oneshot.proofs.Filling.{filled}
use Rattle.oneshot.proofs.walk.Goals as goal

pub returns : goal.returns
returns c =
    let n = c.answer_of-w.result.count in
    let fits : n ≤ length c.args.list.now = c.answer_of-w.ensures.fits in
    let front : length (take n c.args.list.now) ≡ n = length-take-le n c.args.list.now fits in
    let all : c.loop-place.place-index ≡ n = omega (arith, front) in
    let answered : n ≡ (with_room (length c.args.list.now) (survey_of c.args.h c.args.src.now)).count = ap (λ (w : Walked). w.count) c.answer_of-w.ensures.answer in
    let steps = record_of c.args.src.now (first_cursor c.args.h) in
    (c.answer_of-w.ensures.answer, rw (c.loop-place.invariant.front_is, all) (over_take steps n c.args.list.now n (omega arith) fits ∙ rw answered (filled c.args.h c.args.src.now c.args.list.now)))
