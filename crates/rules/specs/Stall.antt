-- How a source can stall a walk: at its end, before or inside the second size word of an object. Nothing else is asked for that it does not have.
use Rattle.std.specs.Prelude.{ℕ, ◌+◌, true, false, List, ◌≡◌, length}
use Rattle.streaming.specs.declared.FlatHeader.{FlatHeader}
use Rattle.rules.specs.Object.{is_last, may_start, first_word}

-- a demand at a place for so many bytes is for what is left of such a word
pub record Stall (h : FlatHeader) (src : List ℕ) (at left : ℕ) : Type 0 where
  pub location : ℕ
  pub entered : may_start h location ≡ true
  pub goes_on : is_last (first_word src location) ≡ false
  pub at_end : at ≡ length src
  pub word_end : at + left ≡ location + 4
