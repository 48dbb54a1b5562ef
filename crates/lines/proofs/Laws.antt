-- Laws of decimal text and of lines: the fewest digits are the text, and a line grows by one number.
use Prim.Native.Nat.{ℕ, zero, suc, ◌+◌, ◌*◌, ◌-◌, ◌/◌, ◌%◌, ◌^◌, ◌≤◌, ◌<◌}
use mathlib.Core.Path.{◌≡◌, refl, sym, ap}
use mathlib.Core.List.{List, [], ◌∷◌, ◌++◌, append_assoc, append-nil}
use lib.ListN.{length, take, get_or}
use lib.Seq.{take-suc}
use native.Mathlib.Nat.{pow-succ', mod-eq_of_lt, mod-lt, one-le-pow}
use native.Mathlib.Numerals.{add-one}
use native.Mathlib.Omega.{arith}
use borrow.Author.Tests.{lt-ltb, le-ltb}
use Rattle.io.specs.Digits.{hex_digit_ascii, last_digits, IsDigitCount}
use Rattle.streaming.specs.Choose.{when◌then◌else◌}
use Rattle.streaming.specs.declared.Fault.{Fault}
use Rattle.streaming.specs.declared.StreamError.TheVariants as error
use Rattle.lines.specs.Line.{digits_in, decimal_of, spaced, fault_line, refusal_line}

-- ---- decimal text

glyph_digit : (n : ℕ) → hex_digit_ascii (n % 10) ≡ 48 + n % 10
glyph_digit n = rw (lt-ltb (n % 10) 10 (mod-lt n (omega arith)))

least : (k n : ℕ) → IsDigitCount 10 1 n (suc (suc k)) → 10 ^ suc k ≤ n
least k n f = let e : suc (suc k) - 1 ≡ suc k = omega arith in rw e at (f.2 (omega arith))

pub few_digits : (k n steps : ℕ) → n ≤ steps → IsDigitCount 10 1 n (suc k) → last_digits 10 (suc k) n ≡ digits_in steps n
unfolding digits_in when◌then◌else◌
few_digits zero n zero h f = let e : n % 10 ≡ n = mod-eq_of_lt (omega arith) in rw (glyph_digit n, e)
few_digits zero n (suc steps) h f = let e : n % 10 ≡ n = mod-eq_of_lt f.1 in rw (lt-ltb n 10 f.1, glyph_digit n, e)
few_digits (suc k) n zero h f = let l : 10 ^ suc k ≤ n = least k n f in absurd (omega (arith, one-le-pow (suc k) 10 (omega arith)))
few_digits (suc k) n (suc steps) h f =
    let p : 1 ≤ 10 ^ k = one-le-pow k 10 (omega arith) in
    let e : 10 ^ suc k ≡ 10 * 10 ^ k = pow-succ' 10 k in
    let l : 10 * 10 ^ k ≤ n = omega (arith, least k n f) in
    let u : n < 10 * 10 ^ suc k = omega (arith, pow-succ' 10 (suc k), f.1) in
    let g : IsDigitCount 10 1 (n / 10) (suc k) = (omega arith, omega arith, λ m. before k l m) in
    rw (le-ltb n 10 (omega arith), glyph_digit n)
    (ap (λ (ds : List ℕ). ds ++ ((48 + n % 10) ∷ [])) (few_digits k (n / 10) steps (omega arith) g))
  where
    before : (k : ℕ) → 10 * 10 ^ k ≤ n → 1 < suc k → 10 ^ (suc k - 1) ≤ n / 10
    before k l m = let e : suc k - 1 ≡ k = omega arith in rw e (omega arith)

-- what `io::decimal` puts is the text
pub text_of : (n k : ℕ) → IsDigitCount 10 1 n k → last_digits 10 k n ≡ decimal_of n
unfolding decimal_of
text_of n zero f = absurd (omega (arith, f.0))
text_of n (suc k) f = few_digits k n n (omega arith) f

-- ---- one number more

pub spaced-more : (ns : List ℕ) (n : ℕ) → spaced (ns ++ (n ∷ [])) ≡ spaced ns ++ 32 ∷ decimal_of n
spaced-more [] n = ap (λ (l : List ℕ). 32 ∷ l) (append-nil (decimal_of n))
spaced-more (m ∷ ns) n = rw (spaced-more ns n) (ap (λ (l : List ℕ). 32 ∷ l) (sym (append_assoc (decimal_of m) (spaced ns) (32 ∷ decimal_of n))))

pub spaced_next : (ns : List ℕ) (i : ℕ) → i < length ns → spaced (take (i + 1) ns) ≡ spaced (take i ns) ++ 32 ∷ decimal_of (get_or ns i 0)
spaced_next ns i h = rw (add-one, take-suc ns i 0 h) (spaced-more (take i ns) (get_or ns i 0))

-- ---- the line of a fault

-- the line of a refusal that is a fault is the fault's own
pub fault_said : (f : Fault) → refusal_line (error.Fault f) ≡ fault_line f
fault_said f = refl
