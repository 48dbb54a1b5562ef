-- Laws of the piece that is chosen: it is taken by whoever asked, it lies in the source, and where there is none the source has nothing of what is asked.
use Rattle.std.specs.Prelude.{if◌then◌else◌, Option, Ok, Err, Some, None}
use Prim.Native.Nat.{ℕ, ◌+◌, ◌-◌, ◌≤◌, ◌<◌, min}
use mathlib.Core.Bool.{Bool, true, false}
use mathlib.Core.List.{List}
use mathlib.Core.Path.{◌≡◌, refl, sym, ap}
use lib.ListN.{length, get_or, length-take, length-drop}
use lib.Dec.{eqb, ltb}
use native.Mathlib.Omega.{arith}
use borrow.Author.Tests.{lt-ltb, le-leb, eq-eqb, ltb-true, ltb-false, eqb-false}
use Rattle.streaming.specs.declared.Request.{Request}
use Rattle.streaming.specs.Answers.{Asked}
use Rattle.account.specs.Statement.{takes, part}
use Rattle.account.specs.Runs.{Past}
use Rattle.form.specs.declared.Cuts.{Cuts}
use Rattle.form.specs.Cutting.{Cutting}
use Rattle.driving.specs.Pieces.{cut_to, turn_after, next_by}
use Rattle.driving.specs.Ran.{piece_at}
use Rattle.driving.specs.declared.pieces.Piece.{Piece}

-- ---- turns

-- the turn is that of a cut, where there are cuts
pub record Turning (c : Cuts) (turn : ℕ) : Type 0 where
  pub below : turn < 64
  pub round : 0 < length c → turn < length c

pub turning_first : (c : Cuts) → Turning c 0
turning_first c = record { below = omega arith; round = λ h. h }

pub turning_after : (c : Cuts) (turn r : ℕ) → Cutting c → r ≡ turn_after c turn → Turning c r
unfolding turn_after
turning_after c turn r cutting e = split (ltb (turn + 1) (length c)) refl
  where
    split : (b : Bool) → ltb (turn + 1) (length c) ≡ b → Turning c r
    split true v =
        let k : turn + 1 < length c = ltb-true (turn + 1) (length c) v in
        let m : r ≡ turn + 1 = rw v at e in
        record { below = omega (arith, cutting.few); round = λ h. omega arith }
    split false v =
        let m : r ≡ 0 = rw v at e in
        record { below = omega arith; round = λ h. omega arith }

-- ---- sizes

pub cut_some : (c : Cuts) (turn demand : ℕ) → Cutting c → Turning c turn → 0 < demand → (0 < cut_to c turn demand) × (cut_to c turn demand ≤ demand)
unfolding cut_to
cut_some c turn demand cutting turning some = split (eqb (length c) 0) refl
  where
    split : (b : Bool) → eqb (length c) 0 ≡ b
        → (0 < (if b then demand else min (get_or c turn 0) demand)) × ((if b then demand else min (get_or c turn 0) demand) ≤ demand)
    split true v = (some, omega arith)
    split false v =
        let n = eqb-false (length c) 0 v in
        let k : 0 < length c = omega arith in
        let s : 0 < get_or c turn 0 = cutting.some turn (turning.round k) in
        (omega arith, omega arith)

-- ---- the piece

-- a piece that the walk takes, and that the source has
pub record Chosen (src : List ℕ) (q : Asked) (offset len : ℕ) : Type 0 where
  pub inside : offset + len ≤ length src
  pub some : 0 < len
  pub long : length (part src offset len) ≡ len
  pub taken : takes q (piece_at src offset len) ≡ true

module _ (src : List ℕ) (c : Cuts) (turn : ℕ) (cutting : Cutting c) (turning : Turning c turn) where
  chosen_of : (r : Request) (offset len : ℕ) → 0 < r.len → r.offset < length src → r.offset ≡ offset
      → min (cut_to c turn r.len) (length src - r.offset) ≡ len → Chosen src (Ok (Some r)) offset len
  chosen_of r offset len some here e k =
      let cut = cut_some c turn r.len cutting turning some in
      let p : 0 < len = omega (arith, cut.0) in
      let m : len ≤ r.len = omega (arith, cut.1) in
      let inside : offset + len ≤ length src = omega arith in
      let long : length (part src offset len) ≡ len = simp (length-take, length-drop) (omega arith) in
      record {
        inside = inside;
        some = p;
        long = long;
        taken = rw (long, eq-eqb offset r.offset (sym e), lt-ltb 0 len p, le-leb len r.len m);
      }

  pub chosen : (q : Asked) (n : ℕ) (p : Piece) → ((r : Request) → q ≡ Ok (Some r) → 0 < r.len) → length src ≡ n
      → Some p ≡ next_by q n c turn → Chosen src q p.offset p.len
  chosen (Ok None) n p some whole e = absurd (let z : ◌≡◌ {A = ℕ} 0 1 = cc in omega arith)
  chosen (Err x) n p some whole e = absurd (let z : ◌≡◌ {A = ℕ} 0 1 = cc in omega arith)
  chosen (Ok (Some r)) n p some whole e = split (ltb r.offset n) refl
    where
      split : (b : Bool) → ltb r.offset n ≡ b → Chosen src (Ok (Some r)) p.offset p.len
      split true v =
          let h = ltb-true r.offset n v in
          let told : ◌≡◌ {A = Option Piece} (Some p) (Some (record { offset = r.offset; len = min (cut_to c turn r.len) (n - r.offset) })) = rw v at e in
          let same : ◌≡◌ {A = Piece} p (record { offset = r.offset; len = min (cut_to c turn r.len) (n - r.offset) }) = cc in
          let o : r.offset ≡ p.offset = sym (ap (λ (x : Piece). x.offset) same) in
          let k : min (cut_to c turn r.len) (n - r.offset) ≡ p.len = sym (ap (λ (x : Piece). x.len) same) in
          chosen_of r p.offset p.len (some r refl) (omega arith) o (rw whole k)
      split false v =
          let told : ◌≡◌ {A = Option Piece} (Some p) None = rw v at e in
          absurd (let z : ◌≡◌ {A = ℕ} 0 1 = cc in omega arith)

  -- where there is none, the source has nothing of what is asked for
  pub past : (q : Asked) (n : ℕ) → length src ≡ n → None ≡ next_by q n c turn → Past src q
  past (Ok None) n whole e = tt
  past (Err x) n whole e = tt
  past (Ok (Some r)) n whole e = split (ltb r.offset n) refl
    where
      split : (b : Bool) → ltb r.offset n ≡ b → length src ≤ r.offset
      split true v =
          let told : ◌≡◌ {A = Option Piece} None (Some (record { offset = r.offset; len = min (cut_to c turn r.len) (n - r.offset) })) = rw v at e in
          absurd (let z : ◌≡◌ {A = ℕ} 0 1 = cc in omega arith)
      split false v = omega (arith, ltb-false r.offset n v)
