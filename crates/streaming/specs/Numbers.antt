-- Document 01's number and values of each refusal, and the number of each part: what programs print and documents cite.
use Rattle.std.specs.Prelude.{ℕ, List, [], ◌∷◌}
use Rattle.streaming.specs.declared.Part.{Part}
use Rattle.streaming.specs.declared.Part.TheVariants as part
use Rattle.streaming.specs.declared.Fault.{Fault}
use Rattle.streaming.specs.declared.Fault.TheVariants as fault
use Rattle.streaming.specs.declared.StreamError.{StreamError}
use Rattle.streaming.specs.declared.StreamError.TheVariants as error

-- the header variables are part 0, the classes part 1, an object part 2
abbrev pub part_number : Part → ℕ
part_number part.HeaderVars = 0
part_number part.Classes = 1
part_number part.Object = 2

-- a fault of the drawing: 7 to 17
abbrev pub fault_number : Fault → ℕ
fault_number (fault.SectionSize part) = 7
fault_number (fault.SectionSentinel part) = 8
fault_number (fault.SectionCrc part expected actual) = 9
fault_number (fault.MapChunk chunk) = 10
fault_number (fault.MapCrc chunk expected actual) = 11
fault_number (fault.MapEntry place) = 12
fault_number (fault.ObjectRange handle offset) = 13
fault_number (fault.ObjectSize handle) = 14
fault_number (fault.ObjectCrc handle expected actual) = 15
fault_number (fault.ObjectHeader handle) = 16
fault_number (fault.ObjectHandle in_map in_record) = 17

-- of two checksums, the expected one is computed and the actual one stored
abbrev pub fault_fields : Fault → List ℕ
fault_fields (fault.SectionSize part) = part ∷ []
fault_fields (fault.SectionSentinel part) = part ∷ []
fault_fields (fault.SectionCrc part expected actual) = part ∷ expected ∷ actual ∷ []
fault_fields (fault.MapChunk chunk) = chunk ∷ []
fault_fields (fault.MapCrc chunk expected actual) = chunk ∷ expected ∷ actual ∷ []
fault_fields (fault.MapEntry place) = place ∷ []
fault_fields (fault.ObjectRange handle offset) = handle ∷ offset ∷ []
fault_fields (fault.ObjectSize handle) = handle ∷ []
fault_fields (fault.ObjectCrc handle expected actual) = handle ∷ expected ∷ actual ∷ []
fault_fields (fault.ObjectHeader handle) = handle ∷ []
fault_fields (fault.ObjectHandle in_map in_record) = in_map ∷ in_record ∷ []

abbrev pub number_of : StreamError → ℕ
number_of (error.LocatorCount count) = 1
number_of (error.LocatorRange number) = 2
number_of error.Finished = 3
number_of (error.WrongOffset expected actual) = 4
number_of (error.InvalidFeed maximum actual) = 5
number_of (error.Truncated offset needed) = 6
number_of (error.Fault f) = fault_number f
number_of (error.NoRoom needed) = 18
number_of error.BadState = 19

abbrev pub fields_of : StreamError → List ℕ
fields_of (error.LocatorCount count) = count ∷ []
fields_of (error.LocatorRange number) = number ∷ []
fields_of error.Finished = []
fields_of (error.WrongOffset expected actual) = expected ∷ actual ∷ []
fields_of (error.InvalidFeed maximum actual) = maximum ∷ actual ∷ []
fields_of (error.Truncated offset needed) = offset ∷ needed ∷ []
fields_of (error.Fault f) = fault_fields f
fields_of (error.NoRoom needed) = needed ∷ []
fields_of error.BadState = []
