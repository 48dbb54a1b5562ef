-- `record_at` meets its contract.
-- ---- the size, by its words
use Prim.Native.Nat.{ℕ, ◌+◌, ◌-◌, ◌*◌, ◌%◌, ◌≤◌, ◌<◌}
use mathlib.Core.Logic.{inl, inr}
use native.Mathlib.Omega.{arith}
use mathlib.Core.Bool.{Bool}
use mathlib.Core.List.{List}
use mathlib.Core.Path.{◌≡◌, sym, ap, ◌∙◌}
use lib.ListN.{length, take, drop, drop_of_length-le}
use borrow.Author.Tests.{lt-ltb, le-ltb}
use Rattle.streaming.specs.Choose.{when◌then◌else◌}
use Rattle.streaming.specs.declared.ObjectRecord.{ObjectRecord}
use Rattle.octets.specs.Octets.{little_endian}
use Rattle.std.specs.Prelude.{Option, None}
use Rattle.account.specs.Statement.{part}
use Rattle.rules.specs.Prologue.{prologue_of}
use Rattle.rules.specs.Object.{sized, unending, size_of_words, size_at}
use Rattle.records.specs.Answer.{head_of}
use Rattle.records.specs.declared.Opening.{Opening}
use Rattle.oneshot.specs.Cursor.{blank, record_of_head, sized_at, record_at}
use Rattle.oneshot.proofs.Reading.{all-behind, part-on, words_at, head_none}
use Rattle.oneshot.proofs.objects.record_at.Goals as goal

module _ (r2000 : Bool) (src : List ℕ) (handle location : ℕ) where
  record_is : (field_bytes size : ℕ) (head : Option Opening) (r : ObjectRecord) → size_at src location ≡ sized field_bytes size
      → head ≡ head_of (prologue_of r2000 (take 16 (part src (location + field_bytes) size))) → r ≡ record_of_head handle location size head
      → r ≡ record_at r2000 src handle location
  unfolding record_at
  record_is field_bytes size head r e h g =
      g ∙ ap (record_of_head handle location size) h ∙ sym (ap (sized_at r2000 src handle location) e)

  blank-is : size_at src location ≡ unending → (r : ObjectRecord) → r ≡ blank → r ≡ record_at r2000 src handle location
  unfolding record_at
  blank-is e r g = g ∙ sym (ap (sized_at r2000 src handle location) e)

module _ (src : List ℕ) (location first : ℕ) (f : first ≡ little_endian (part src location 2)) where
  one_word : first < 0x8000 → size_at src location ≡ sized 2 first
  unfolding size_of_words when◌then◌else◌
  one_word h = words_at src location ∙ rw (← f, lt-ltb first 0x8000 h)

  module _ (second : ℕ) (s : second ≡ little_endian (part src (location + 2) 2)) (h : 0x8000 ≤ first) where
    two_words_lem : second < 0x8000 → size_at src location ≡ sized 4 (first % 0x8000 + 0x8000 * second)
    unfolding size_of_words when◌then◌else◌
    two_words_lem k = words_at src location ∙ rw (← f, ← s, le-ltb first 0x8000 h, lt-ltb second 0x8000 k)

    no_size : 0x8000 ≤ second → size_at src location ≡ unending
    unfolding size_of_words when◌then◌else◌
    no_size k = words_at src location ∙ rw (← f, ← s, le-ltb first 0x8000 h, le-ltb second 0x8000 k)

-- ---- where the source has ended

module _ (src : List ℕ) (location : ℕ) (past : length src ≤ location) where
  no_word : 0 ≡ little_endian (part src location 2)
  unfolding little_endian
  no_word = rw (drop_of_length-le src past)

  nothing_there : (r2000 : Bool) (handle : ℕ) (r : ObjectRecord) → r ≡ blank → r ≡ record_at r2000 src handle location
  nothing_there r2000 handle r g =
      record_is r2000 src handle location 2 0 None r (one_word src location 0 no_word (omega arith))
      (sym (ap head_of (head_none r2000 src (location + 2) 0 (omega arith)))) g

-- ---- the bytes from the location on

module _ (src object : List ℕ) (location : ℕ) (here : object ≡ take (length src - location) (drop location src)) where
  part-here : (m n : ℕ) → part object m n ≡ part src (location + m) n
  part-here m n = rw (here, all-behind src location) (part-on src location m n)

  first-here : part object 0 2 ≡ part src location 2
  first-here = let z : location + 0 ≡ location = omega arith in rw (part-here 0 2, z)

pub returns-in_default : goal.returns-in_default
returns-in_default c =
    let past : length c.args.src.now ≤ c.args.to.location = (elim c.in_default.ensures.lookup.0 [ inl h ↦ omega arith | inr h ↦ omega arith ]) in
    nothing_there c.args.src.now c.args.to.location past c.args.r2000 c.args.to.handle _ c.blank.ensures

pub returns-then-first-lt32768 : goal.returns-then-first-lt32768
returns-then-first-lt32768 c =
    let here = c.in-Some.ensures.lookup.0.2 in
    let first = rw (first-here c.args.src.now c.in-Some.object.now c.args.to.location here) at c.word_at-first.ensures in
    let head = rw (part-here c.args.src.now c.in-Some.object.now c.args.to.location here 2 c.from-size.result) at c.head_at.ensures in
    record_is c.args.r2000 c.args.src.now c.args.to.handle c.args.to.location 2 _ c.head_at.result c.record_of_head.result
    (rw c.from-size.ensures (one_word c.args.src.now c.args.to.location c.word_at-first.result first c.if-first-lt32768.true)) head c.record_of_head.ensures

pub returns-then-second-lt32768 : goal.returns-then-second-lt32768
returns-then-second-lt32768 c =
    let here = c.in-Some.ensures.lookup.0.2 in
    let first = rw (first-here c.args.src.now c.in-Some.object.now c.args.to.location here) at c.word_at-first.ensures in
    let second = rw (part-here c.args.src.now c.in-Some.object.now c.args.to.location here 2 2) at c.word_at-second.ensures in
    let head = rw (part-here c.args.src.now c.in-Some.object.now c.args.to.location here 4 _) at c.head_at-then-second-lt32768.ensures in
    record_is c.args.r2000 c.args.src.now c.args.to.handle c.args.to.location 4 _ c.head_at-then-second-lt32768.result c.record_of_head-then-second-lt32768.result
    (rw (c.from.ensures, c.from-then-second-lt32768.ensures) (two_words_lem c.args.src.now c.args.to.location c.word_at-first.result first c.word_at-second.result second
    c.if-first-lt32768.false c.if-second-lt32768.true))
    head c.record_of_head-then-second-lt32768.ensures

pub returns : goal.returns
returns c =
    let here = c.in-Some.ensures.lookup.0.2 in
    let first = rw (first-here c.args.src.now c.in-Some.object.now c.args.to.location here) at c.word_at-first.ensures in
    let second = rw (part-here c.args.src.now c.in-Some.object.now c.args.to.location here 2 2) at c.word_at-second.ensures in
    blank-is c.args.r2000 c.args.src.now c.args.to.handle c.args.to.location
    (no_size c.args.src.now c.args.to.location c.word_at-first.result first c.word_at-second.result second c.if-first-lt32768.false c.if-second-lt32768.false)
    c.blank-2.result c.blank-2.ensures
