-- Laws of `stands`: what a section shows that stands, and what makes one stand.
use Rattle.std.proofs.Common.{◌≡◌, ℕ, ◌+◌, ◌≤◌, true, List, length}
use Rattle.std.proofs.lemmas.Bool.{and_parts, le-leb, leb-true}
use Rattle.form.specs.Form.{count_at, behind, stands}

-- what a section shows that stands
pub record Standing (s : List ℕ) (at size least most : ℕ) : Type 0 where
  pub counted : at + 4 ≤ length s
  pub at_least : least ≤ count_at s at
  pub at_most : count_at s at ≤ most
  pub held : behind s at size ≤ length s

module _ (s : List ℕ) (at size least most : ℕ) where
  pub standing : Standing s at size least most → stands s at size least most ≡ true
  unfolding stands
  standing h =
      rw (le-leb (at + 4) (length s) h.counted, le-leb least (count_at s at) h.at_least, le-leb (count_at s at) most h.at_most, le-leb (behind s at size) (length s) h.held)

  pub stands_shows : stands s at size least most ≡ true → Standing s at size least most
  unfolding stands
  stands_shows e =
      let room = and_parts _ _ e in
      let enough = and_parts _ _ room.1 in
      let few = and_parts _ _ enough.1 in
      record {
        counted = leb-true _ _ room.0;
        at_least = leb-true _ _ enough.0;
        at_most = leb-true _ _ few.0;
        held = leb-true _ _ few.1;
      }
