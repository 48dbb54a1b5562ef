-- `walk` meets its contract. The invariant: the state in hand is that of the driver's calls so far over this source, whose tally is kept. The measure:
-- the bytes that the rules still allow.
use mathlib.Core.Path.{◌∙◌}
use Rattle.driving.proofs.Chosen.{turning_first, turning_after}
use Rattle.driving.proofs.Runs.{none_yet, one_more, nearer, ran_whole}
use Rattle.driving.proofs.Driven.{next_found, piece_next, all_past}
use Rattle.driving.proofs.walk.Goals as goal

pub loop-piece-init : goal.loop-piece-init
loop-piece-init g c =
    (none_yet c.args.h c.args.source.now c.args.cuts.now c.args.begun c.blank-tally.result c.requires.1 c.blank-tally.ensures, turning_first c.args.cuts.now)

pub take-taken-requires : goal.take-taken-requires
take-taken-requires g c =
    (piece_next c.args.h c.args.source.now c.args.cuts.now c.requires.0 c.loop-piece.state c.loop-piece.turn c.loop-piece.invariant.1 c.request.result c.request.ensures
    c.choose.result c.choose.ensures c.in-Some.piece c.in-Some.is).1.inside

pub loop-piece-smaller : goal.loop-piece-smaller
loop-piece-smaller g c =
    let p = piece_next c.args.h c.args.source.now c.args.cuts.now c.requires.0 c.loop-piece.state c.loop-piece.turn c.loop-piece.invariant.1 c.request.result c.request.ensures
    c.choose.result c.choose.ensures c.in-Some.piece c.in-Some.is in
    nearer c.args.h c.args.source.now c.args.cuts.now c.requires.0 c.loop-piece.turn c.loop-piece.state c.loop-piece.tally c.loop-piece.invariant.0 c.in-Some.piece.offset c.in-Some.piece.len p.0 p.1
    c.turn_after-turn.result c.take-taken.result.state c.take-taken.result.tally c.turn_after-turn.ensures c.take-taken.ensures.state c.take-taken.ensures.continues

pub loop-piece-preserved : goal.loop-piece-preserved
loop-piece-preserved g c =
    let p = piece_next c.args.h c.args.source.now c.args.cuts.now c.requires.0 c.loop-piece.state c.loop-piece.turn c.loop-piece.invariant.1 c.request.result c.request.ensures
    c.choose.result c.choose.ensures c.in-Some.piece c.in-Some.is in (
      one_more c.args.h c.args.source.now c.args.cuts.now c.requires.0 c.loop-piece.turn c.loop-piece.state c.loop-piece.tally c.loop-piece.invariant.0 c.in-Some.piece.offset c.in-Some.piece.len p.0 p.1
          c.turn_after-turn.result c.take-taken.result.state c.take-taken.result.tally c.turn_after-turn.ensures c.take-taken.ensures.state c.take-taken.ensures.continues,
      turning_after c.args.cuts.now c.loop-piece.turn c.turn_after-turn.result c.requires.0.cutting c.turn_after-turn.ensures,
    )

pub returns : goal.returns
returns g c =
    let over = next_found c.args.h c.args.source.now c.args.cuts.now c.requires.0 c.loop-piece.state c.loop-piece.turn c.loop-piece.invariant.1 c.request.result c.request.ensures
    c.choose.result c.choose.ensures in
    let past = all_past c.args.h c.args.source.now c.args.cuts.now c.requires.0 c.loop-piece.state c.loop-piece.turn c.loop-piece.invariant.1 c.request.result c.request.ensures
    c.choose.result c.choose.ensures c.in_default.is in
    ran_whole c.args.h c.args.source.now c.args.cuts.now c.requires.0 c.loop-piece.turn c.loop-piece.state c.loop-piece.tally c.end_of_input.result c.loop-piece.invariant.0 (over ∙ c.in_default.is) past
    c.end_of_input.ensures
