-- What the rules are about: a header that Start takes, and a whole source of that header.
use Rattle.std.specs.Prelude.{ℕ, List, ◌≡◌, length}
use Rattle.std.proofs.Math.Option.{none}
use Rattle.streaming.specs.declared.FlatHeader.{FlatHeader}
use Rattle.rules.specs.Header.{start_refusal}

pub record Of (h : FlatHeader) (src : List ℕ) : Type 0 where
  pub starts : start_refusal h ≡ none
  pub whole : length src ≡ h.length
