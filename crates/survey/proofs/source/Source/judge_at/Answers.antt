-- `judge_at` meets its contract.
use Prim.Native.Nat.{◌+◌, min}
use mathlib.Core.Path.{◌≡◌, sym, ◌∙◌}
use native.Mathlib.Nat.{add-sub_cancel_left}
use Rattle.account.specs.Statement.{part}
use Rattle.records.specs.Answer.{head_of}
use Rattle.rules.specs.Header.{is_r2000}
use Rattle.rules.specs.Object.{object_computed, object_stored}
use Rattle.rules.specs.Prologue.{prologue_of}
use Rattle.survey.proofs.AtLocation.{other_crc, by_prologue}
use Rattle.survey.proofs.source.Source.judge_at.Goals as goal

pub returns-then-stored-computed : goal.returns-then-stored-computed
unfolding object_computed object_stored
returns-then-stored-computed c =
    other_crc c.args.self.now.header c.args.self.now.bytes.now c.args.to.handle c.args.to.location c.args.field c.args.size _ _ c.sum_at-computed.ensures c.le16_at-stored.ensures c.if-stored-computed.true

pub returns : goal.returns
unfolding object_computed object_stored
returns c =
    let p : c.prologue-head.result ≡ head_of (prologue_of (is_r2000 c.args.self.now.header) (part c.args.self.now.bytes.now (c.args.to.location + c.args.field) (min c.args.size 16)))
    = rw (← c.format_of-format.ensures, ← c.kept_of.ensures) (simp add-sub_cancel_left at c.prologue-head.ensures) in
    c.judge_head.ensures _ p
    ∙ sym (by_prologue c.args.self.now.header c.args.self.now.bytes.now c.args.to.handle c.args.to.location c.args.field c.args.size _ _ c.sum_at-computed.ensures c.le16_at-stored.ensures c.if-stored-computed.false)
