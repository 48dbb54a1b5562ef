-- What an input in the form gives to whoever walks it: the source's bytes end with the input, and no cut is 0.
use Rattle.std.proofs.Common.{◌≡◌, ℕ, ◌+◌, true, false, Bool, if◌then◌else◌, List, Some, None, refl, arith}
use Rattle.form.specs.Form.{count_at, cuts_at, is_form, header_in, cuts_in, form_in, form_of, Given}
use Rattle.form.specs.declared.Form.{Form}
use Rattle.form.proofs.Sections.{stands_shows}
use Rattle.form.proofs.Zeros.{cutting_first}
use Rattle.form.proofs.Reading.{Parts, form_parts}

module _ (s : List ℕ) where
  of_parts : Parts s → Given s (form_in s)
  unfolding form_in header_in cuts_in
  of_parts p =
      record {
        short = p.few;
        source = omega (arith, p.ends);
        cuts = cutting_first s (cuts_at s + 4) (count_at s (cuts_at s)) _ refl p.some (stands_shows _ _ _ _ _ p.cuts).at_most;
      }

  pub given : (f : Form) → Some f ≡ form_of s → Given s f
  unfolding form_of
  given f e = split (is_form s) refl e
    where
      split : (b : Bool) → is_form s ≡ b → Some f ≡ (if b then Some (form_in s) else None) → Given s f
      split true v e = let k : f ≡ form_in s = cc in rw k (of_parts (form_parts s v))
      split false v e = absurd (let z : ◌≡◌ {A = ℕ} 0 1 = cc in omega arith)
