-- States made from a state: the same but for some of its fields. A record is written out whole only here.
use Rattle.std.specs.Prelude.{ℕ, List, Ok, Err, Some}
use Rattle.streaming.specs.declared.Step.{Step}
use Rattle.streaming.specs.declared.Step.TheVariants as step
use Rattle.streaming.specs.declared.Fault.{Fault}
use Rattle.streaming.specs.declared.StreamError.{StreamError}
use Rattle.streaming.specs.declared.StreamError.TheVariants as error
use Rattle.streaming.specs.declared.Stage.{Stage}
use Rattle.streaming.specs.declared.MapCursor.{MapCursor}
use Rattle.streaming.specs.declared.FlatWalker.{FlatWalker}
use Rattle.streaming.specs.declared.Fed.{Fed}

-- ---- parts of a state

-- the unit in hand: how much of it is done, its size, its checksum so far, and the bytes of a partial number
abbrev pub in_unit : FlatWalker → Stage → (done size crc : ℕ) → (field : List ℕ) → FlatWalker
in_unit s stage done size crc field = record {
  header = s.header;
  stage = stage;
  done = done;
  size = size;
  crc = crc;
  field = field;
  head = s.head;
  object = s.object;
  ms_len = s.ms_len;
  words = s.words;
  map = s.map;
  failure = s.failure;
}

-- the object in hand: the first bytes of its data, its location, the bytes of its size field and its size words
abbrev pub with_object : FlatWalker → (head : List ℕ) → (object ms_len words : ℕ) → FlatWalker
with_object s head object ms_len words = record {
  header = s.header;
  stage = s.stage;
  done = s.done;
  size = s.size;
  crc = s.crc;
  field = s.field;
  head = head;
  object = object;
  ms_len = ms_len;
  words = words;
  map = s.map;
  failure = s.failure;
}

abbrev pub with_map : FlatWalker → MapCursor → FlatWalker
with_map s map = record {
  header = s.header;
  stage = s.stage;
  done = s.done;
  size = s.size;
  crc = s.crc;
  field = s.field;
  head = s.head;
  object = s.object;
  ms_len = s.ms_len;
  words = s.words;
  map = map;
  failure = s.failure;
}

abbrev pub failing : FlatWalker → Fault → FlatWalker
failing s f = record {
  header = s.header;
  stage = s.stage;
  done = s.done;
  size = s.size;
  crc = s.crc;
  field = s.field;
  head = s.head;
  object = s.object;
  ms_len = s.ms_len;
  words = s.words;
  map = s.map;
  failure = Some f;
}

-- ---- the map's cursor

-- at a chunk whose size is not known yet
abbrev pub at_chunk : (chunk : ℕ) → MapCursor
at_chunk chunk = record { chunk = chunk; len = 0; at = 0; handle = 0; loc = 0; mc = 0; shift = 0; field = 0 }

-- at an entry of a chunk: its next byte, the handle and the location so far, and the bits of the delta in hand
abbrev pub at_entry : (chunk len at handle loc mc shift field : ℕ) → MapCursor
at_entry chunk len at handle loc mc shift field = record { chunk = chunk; len = len; at = at; handle = handle; loc = loc; mc = mc; shift = shift; field = field }

-- ---- answers

abbrev pub stepped : Step → FlatWalker → Fed
stepped step s = record { answer = Ok step; state = s }

-- the unit in hand goes on, and nothing of it is payload
abbrev pub goes_on : FlatWalker → (done size crc : ℕ) → (field : List ℕ) → Fed
goes_on s done size crc field = stepped step.Framing (in_unit s s.stage done size crc field)

-- a refused call leaves the state as it was
abbrev pub refused_by : StreamError → FlatWalker → Fed
refused_by e s = record { answer = Err e; state = s }

-- a fault is answered and held
abbrev pub fell : Fault → FlatWalker → Fed
fell f s = record { answer = Err (error.Fault f); state = failing s f }
