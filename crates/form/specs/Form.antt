-- The driver's input form (document 01, "Driver"): four sections in order, each behind its count of four bytes; and what an input in that form says.
use Rattle.std.specs.Prelude.{ℕ, zero, suc, ◌+◌, ◌*◌, ◌≤◌, Bool, true, ◌&&◌, List, [], ◌∷◌, ◌++◌, ◌≡◌, Option, Some, None, if◌then◌else◌, length, take, drop, get_or, eqb, ltb, leb}
use Rattle.streaming.specs.declared.Locator.{Locator}
use Rattle.streaming.specs.declared.FlatHeader.{FlatHeader}
use Rattle.octets.specs.Octets.{little_endian}
use Rattle.form.specs.Cutting.{Cutting}
use Rattle.form.specs.declared.Shape.{Shape}
use Rattle.form.specs.declared.Section.{Section}
use Rattle.form.specs.declared.Cuts.{Cuts}
use Rattle.form.specs.declared.Form.{Form}

-- the number in n bytes at a place, lowest byte first
abbrev pub number_at : List ℕ → (at n : ℕ) → ℕ
number_at s at n = little_endian (take n (drop at s))

-- ---- sections

-- how many items the section at a place has, and the place behind it
abbrev pub count_at : List ℕ → (at : ℕ) → ℕ
count_at s at = number_at s at 4

abbrev pub behind : List ℕ → (at size : ℕ) → ℕ
behind s at size = at + 4 + size * count_at s at

-- a section stands there: its count, `least` to `most`, and so many items of `size` bytes
unfoldable pub stands : List ℕ → (at size least most : ℕ) → Bool
stands s at size least most = leb (at + 4) (length s) && (leb least (count_at s at) && (leb (count_at s at) most && leb (behind s at size) (length s)))

-- one stands there, and this is its count, where its items begin and where it ends
pub record Found (s : List ℕ) (at : ℕ) (shape : Shape) (x : Section) : Type 0 where
  pub stood : stands s at shape.size shape.least shape.most ≡ true
  pub count : x.count ≡ count_at s at
  pub items : x.items ≡ at + 4
  pub end : x.end ≡ behind s at shape.size
  pub at_most : x.count ≤ shape.most
  pub within : x.end ≤ length s

-- locators are at 0, 9 bytes each; then the magic, then the cuts, 2 bytes each, then the source
abbrev pub magic_at : List ℕ → ℕ
magic_at s = behind s 0 9

abbrev pub cuts_at : List ℕ → ℕ
cuts_at s = behind s (magic_at s) 1

abbrev pub source_at : List ℕ → ℕ
source_at s = behind s (cuts_at s) 2

-- ---- cuts

-- the cut of an index, in a section whose items begin at a place
abbrev pub cut_in : List ℕ → (at i : ℕ) → ℕ
cut_in s at i = number_at s (at + 2 * i) 2

-- none of the first n is 0
unfoldable pub none_zero : List ℕ → (at n : ℕ) → Bool
none_zero s at zero = true
none_zero s at (suc n) = none_zero s at n && ltb 0 (cut_in s at n)

-- the first n
unfoldable pub first_cuts : List ℕ → (at n : ℕ) → List ℕ
first_cuts s at zero = []
first_cuts s at (suc n) = first_cuts s at n ++ (cut_in s at n ∷ [])

-- ---- the form

-- 0 to 6 locators, 6 bytes of magic, 0 to 64 cuts that are not 0, a source; nothing behind it, and at most 60,000 bytes in all
unfoldable pub is_form : List ℕ → Bool
is_form s = leb (length s) 60000 && (stands s 0 9 0 6 && (stands s (magic_at s) 1 6 6 && (stands s (cuts_at s) 2 0 64 && (
    none_zero s (cuts_at s + 4) (count_at s (cuts_at s)) && (stands s (source_at s) 1 0 60000 && eqb (behind s (source_at s) 1) (length s))))))

-- ---- what it says

-- a locator, 9 bytes: number, offset, size
abbrev pub locator_at : List ℕ → (at : ℕ) → Locator
locator_at s at = record { number = get_or s at 0; offset = number_at s (at + 1) 4; size = number_at s (at + 5) 4 }

abbrev pub blank_locator : Locator
blank_locator = record { number = 0; offset = 0; size = 0 }

-- the locator of an index; those behind the counted ones are blank
unfoldable pub locator_in : List ℕ → (i : ℕ) → Locator
locator_in s i = if ltb i (count_at s 0) then locator_at s (4 + 9 * i) else blank_locator

-- the six of them
abbrev pub locators_in : List ℕ → List Locator
locators_in s = locator_in s 0 ∷ locator_in s 1 ∷ locator_in s 2 ∷ locator_in s 3 ∷ locator_in s 4 ∷ locator_in s 5 ∷ []

-- the header that it hands over; its length is the source's
unfoldable pub header_in : List ℕ → FlatHeader
header_in s = record {
  magic = take 6 (drop (magic_at s + 4) s);
  count = count_at s 0;
  locators = locators_in s;
  length = count_at s (source_at s);
}

-- the cuts, which contracts see as the list of them
unfoldable pub cuts_in : List ℕ → Cuts
cuts_in s = first_cuts s (cuts_at s + 4) (count_at s (cuts_at s))

-- the source's bytes begin behind its count
unfoldable pub form_in : List ℕ → Form
form_in s = record { header = header_in s; cuts = cuts_in s; source = source_at s + 4 }

-- an input that is not in the form says nothing
unfoldable pub form_of : List ℕ → Option Form
form_of s = if is_form s then Some (form_in s) else None

-- ---- what it gives to whoever walks it

-- the source's bytes are the rest of the input, which is a short one
pub record Given (s : List ℕ) (f : Form) : Type 0 where
  pub short : length s ≤ 60000
  pub source : f.source + f.header.length ≡ length s
  pub cuts : Cutting f.cuts
