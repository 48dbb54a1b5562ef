-- What document 01 says is easy to get wrong, and more of that kind, each as a case that the rules get right. By computation.
use Rattle.std.specs.Prelude.{Ok, None}
use Prim.Native.Nat.{ℕ}
use mathlib.Core.List.{List, [], ◌∷◌, ◌++◌}
use mathlib.Core.Path.{◌≡◌, refl}
use lib.ListN.{replicate}
use Rattle.streaming.specs.declared.FlatHeader.{FlatHeader}
use Rattle.streaming.specs.declared.Part.TheVariants.{HeaderVars, Classes}
use Rattle.streaming.specs.declared.Fault.TheVariants as fault
use Rattle.account.specs.Account.{broken}
use Rattle.rules.specs.Section.{start_sentinel, end_sentinel}
use Rattle.rules.specs.Rules.{rules}
use Rattle.rules.specs.PlainList.{told}
use Rattle.rules.proofs.EveryRule.{every_rule}
use Rattle.rules.proofs.Cases.{locator, header_with, S, O, empty_section, front, sections_and, last_chunk, first_object, first_chunk}

-- a map at 153 behind the whole case's front and object
abbrev map_of : (chunks : List ℕ) → List ℕ
map_of chunks = front ++ first_object ++ chunks

abbrev map_header : (map_bytes length : ℕ) → FlatHeader
map_header m n = header_with (locator 0 70 38) (locator 1 108 38) (locator 2 153 m) n

-- 70 zeros; header variables whose data is an object, at 90; empty classes, at 115; and a map at 153
abbrev in_vars : List ℕ
in_vars =
    replicate 70 0 ++ start_sentinel HeaderVars ++ (0x07 ∷ 0x00 ∷ 0x00 ∷ 0x00 ∷ []) ++ first_object ++ (0x26 ∷ 0x7B ∷ []) ++ end_sentinel HeaderVars
    ++ empty_section Classes ++ (0x00 ∷ 0x05 ∷ 0x05 ∷ 0xDA ∷ 0x00 ∷ 0x7C ∷ 0x4A ∷ []) ++ last_chunk

abbrev in_vars_header : FlatHeader
in_vars_header = header_with (locator 0 70 45) (locator 1 115 38) (locator 2 153 11) 164

-- the same front, the same object with its size in two words, and a map at 155
abbrev two_words : List ℕ
two_words = front ++ (0x03 ∷ 0x80 ∷ 0x00 ∷ 0x00 ∷ 0x80 ∷ 0x41 ∷ 0x40 ∷ 0xDD ∷ 0x44 ∷ []) ++ first_chunk ++ last_chunk

abbrev two_words_header : FlatHeader
two_words_header = header_with (locator 0 70 38) (locator 1 108 38) (locator 2 155 11) 166

-- the same front, an object of an R2000 drawing, and a map at 158 with the handle 47
abbrev r2000 : List ℕ
r2000 =
    front ++ (0x08 ∷ 0x00 ∷ 0x44 ∷ 0xC0 ∷ 0x00 ∷ 0x00 ∷ 0x00 ∷ 0x00 ∷ 0x4B ∷ 0xC0 ∷ 0x76 ∷ 0x79 ∷ [])
    ++ (0x00 ∷ 0x05 ∷ 0x2F ∷ 0x92 ∷ 0x01 ∷ 0x74 ∷ 0x9C ∷ []) ++ last_chunk

abbrev r2000_header : (last_of_magic : ℕ) → FlatHeader
r2000_header b = record {
  magic = 0x41 ∷ 0x43 ∷ 0x31 ∷ 0x30 ∷ 0x31 ∷ b ∷ [];
  count = 3;
  locators = locator 0 70 38 ∷ locator 1 108 38 ∷ locator 2 158 11 ∷ [];
  length = 169;
}

pub record EasyToGetWrong : Type 0 where
  -- handle and location restart in the next chunk: the same entry leads to the same object
  pub restart : told (rules (map_header 18 171) (map_of (first_chunk ++ first_chunk ++ last_chunk)))
      ≡ record { records = sections_and (O 5 146 3 0 ∷ O 5 146 3 0 ∷ []); ending = Ok None }
  -- deltas of zero are allowed: a handle comes twice
  pub twice : told (rules (map_header 13 166) (map_of ((0x00 ∷ 0x07 ∷ 0x05 ∷ 0x92 ∷ 0x01 ∷ 0x00 ∷ 0x00 ∷ 0x03 ∷ 0x71 ∷ []) ++ last_chunk)))
      ≡ record { records = sections_and (O 5 146 3 0 ∷ O 5 146 3 0 ∷ []); ending = Ok None }
  -- the map's end alone does not end the walk: 10 at the chunk that is missing
  pub no_last_chunk : told (rules (map_header 7 160) (map_of first_chunk))
      ≡ record { records = sections_and (O 5 146 3 0 ∷ []); ending = broken (fault.MapChunk 160) }
  -- and neither does a chunk of size 2 before the map's end
  pub last-chunk-early : told (rules (map_header 8 161) (map_of (last_chunk ++ last_chunk)))
      ≡ record { records = sections_and []; ending = broken (fault.MapChunk 153) }
  -- an object may lie inside the header variables
  pub inside_vars : told (rules in_vars_header in_vars)
      ≡ record { records = S HeaderVars 70 7 ∷ S Classes 115 0 ∷ O 5 90 3 0 ∷ []; ending = Ok None }
  -- two words for a small size are allowed
  pub two_words_lem : told (rules two_words_header two_words) ≡ record { records = sections_and (O 5 146 3 0 ∷ []); ending = Ok None }
  -- nine bytes make a delta, a tenth is refused
  pub nine_bytes_lem : told (rules (map_header 19 172)
      (map_of ((0x00 ∷ 0x0D ∷ 0x85 ∷ 0x80 ∷ 0x80 ∷ 0x80 ∷ 0x80 ∷ 0x80 ∷ 0x80 ∷ 0x80 ∷ 0x00 ∷ 0x92 ∷ 0x01 ∷ 0xE4 ∷ 0x21 ∷ []) ++ last_chunk)))
      ≡ record { records = sections_and (O 5 146 3 0 ∷ []); ending = Ok None }
  pub tenth_byte : told (rules (map_header 20 173)
      (map_of ((0x00 ∷ 0x0E ∷ 0x80 ∷ 0x80 ∷ 0x80 ∷ 0x80 ∷ 0x80 ∷ 0x80 ∷ 0x80 ∷ 0x80 ∷ 0x80 ∷ 0x00 ∷ 0x00 ∷ 0x00 ∷ 0x6A ∷ 0xA4 ∷ []) ++ last_chunk)))
      ≡ record { records = sections_and []; ending = broken (fault.MapEntry 164) }
  -- a chunk of size 3 has no whole entry
  pub size_three : told (rules (map_header 9 162) (map_of ((0x00 ∷ 0x03 ∷ 0x05 ∷ 0x0F ∷ 0xC1 ∷ []) ++ last_chunk)))
      ≡ record { records = sections_and []; ending = broken (fault.MapEntry 155) }
  -- the magic AC1015 and no other means R2000
  pub ac1015 : told (rules (r2000_header 0x35) r2000) ≡ record { records = sections_and (O 47 146 8 19 ∷ []); ending = Ok None }
  pub ac1014 : told (rules (r2000_header 0x34) r2000) ≡ record { records = sections_and []; ending = broken (fault.ObjectHandle 47 0) }

pub easy_to_get_wrong : EasyToGetWrong
unfolding every_rule
easy_to_get_wrong = record {
  restart = refl;
  twice = refl;
  no_last_chunk = refl;
  last-chunk-early = refl;
  inside_vars = refl;
  two_words_lem = refl;
  nine_bytes_lem = refl;
  tenth_byte = refl;
  size_three = refl;
  ac1015 = refl;
  ac1014 = refl;
}
