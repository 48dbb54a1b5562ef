-- A number as decimal text, and a line of output.
use Rattle.std.specs.Prelude.{ℕ, zero, suc, ◌+◌, ◌/◌, ◌%◌, List, [], ◌∷◌, ◌++◌, take, ltb}
use Rattle.streaming.specs.Choose.{when◌then◌else◌}
use Rattle.streaming.specs.Numbers.{part_number, number_of, fields_of, fault_number, fault_fields}
use Rattle.streaming.specs.declared.SectionRecord.{SectionRecord}
use Rattle.streaming.specs.declared.ObjectRecord.{ObjectRecord}
use Rattle.streaming.specs.declared.Fault.{Fault}
use Rattle.streaming.specs.declared.StreamError.{StreamError}
use Rattle.lines.specs.declared.Line.{Line}

-- the digits of n: those of n / 10, and then its last one; 48 is the code of the digit 0
unfoldable pub digits_in : (steps n : ℕ) → List ℕ
digits_in zero n = (48 + n) ∷ []
digits_in (suc steps) n = when ltb n 10 then ((48 + n) ∷ []) else (digits_in steps (n / 10) ++ ((48 + n % 10) ∷ []))

-- each step leaves a smaller number, so n steps are enough
unfoldable pub decimal_of : ℕ → List ℕ
decimal_of n = digits_in n n

-- each number after a space, whose code is 32
abbrev pub spaced : List ℕ → List ℕ
spaced [] = []
spaced (n ∷ ns) = 32 ∷ decimal_of n ++ spaced ns

-- the letter, the numbers and a newline, whose code is 10
unfoldable pub line_of : (letter : ℕ) → List ℕ → List ℕ
line_of letter numbers = letter ∷ spaced numbers ++ (10 ∷ [])

-- the text of a line
abbrev pub text_of : Line → List ℕ
text_of l = line_of l.letter (take l.count l.numbers)

-- the line of a section, `S` part data_offset size, and of an object, `O` handle offset size type
abbrev pub section_line : SectionRecord → List ℕ
section_line r = line_of 83 (part_number r.part ∷ r.data_offset ∷ r.size ∷ [])

abbrev pub object_line : ObjectRecord → List ℕ
object_line r = line_of 79 (r.handle ∷ r.offset ∷ r.size ∷ r.type_code ∷ [])

-- the line of a refusal: `X`, whose code is 88, its number and its values
abbrev pub fault_line : Fault → List ℕ
fault_line f = line_of 88 (fault_number f ∷ fault_fields f)

abbrev pub refusal_line : StreamError → List ℕ
refusal_line e = line_of 88 (number_of e ∷ fields_of e)
