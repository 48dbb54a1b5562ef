-- What the rules and the plain list say of a header and a source, in numbers: for checks of the definitions against the Rust's answers.
use Rattle.std.specs.Prelude.{Ok, Err, Some, None}
use Prim.Native.Nat.{ℕ}
use mathlib.Core.List.{List, [], ◌∷◌, map}
use mathlib.Core.Option.{Option, none, some}
use Rattle.streaming.specs.Numbers.{part_number, number_of, fields_of}
use Rattle.streaming.specs.Record.{Record, section, object}
use Rattle.streaming.specs.declared.FlatHeader.{FlatHeader}
use Rattle.streaming.specs.declared.StreamError.{StreamError}
use Rattle.streaming.specs.Answers.{Asked}
use Rattle.account.specs.Account.{records_in, ending_of, bytes_taken, payload_taken}
use Rattle.rules.specs.Header.{start_refusal}
use Rattle.rules.specs.Rules.{rules}
use Rattle.rules.specs.PlainList.{plain_list, require, section_then, verdict_then, sized_then, lacks_second_word, object_then, entries_then, checked_chunk_then, chunk_then, chunks_from}
use Rattle.rules.proofs.EveryRule.{every_rule}

-- the driver's line of a record, 0 for `S` and 1 for `O`, and of an ending
abbrev pub line_of : Record → List ℕ
line_of (section r) = 0 ∷ part_number r.part ∷ r.data_offset ∷ r.size ∷ []
line_of (object r) = 1 ∷ r.handle ∷ r.offset ∷ r.size ∷ r.type_code ∷ []

abbrev pub end_of : Asked → List ℕ
end_of (Ok None) = 0 ∷ []
end_of (Ok (Some r)) = 6 ∷ r.offset ∷ r.len ∷ []
end_of (Err e) = number_of e ∷ fields_of e

-- records, ending, bytes and payload by the account; records and ending by the plain list
pub record Fact : Type 0 where
  pub records : List (List ℕ)
  pub ending : List ℕ
  pub bytes : ℕ
  pub payload : ℕ
  pub plain_records : List (List ℕ)
  pub plain_ending : List ℕ

-- a start refusal tells nothing but itself
abbrev pub fact_of : Option StreamError → FlatHeader → List ℕ → Fact
fact_of (some e) h src = record {
  records = [];
  ending = number_of e ∷ fields_of e;
  bytes = 0;
  payload = 0;
  plain_records = [];
  plain_ending = number_of e ∷ fields_of e;
}
fact_of none h src = record {
  records = map line_of (records_in (rules h src));
  ending = end_of (ending_of (rules h src));
  bytes = bytes_taken (rules h src);
  payload = payload_taken (rules h src);
  plain_records = map line_of (plain_list h src).records;
  plain_ending = end_of (plain_list h src).ending;
}

abbrev pub fact : FlatHeader → List ℕ → Fact
fact h src = fact_of (start_refusal h) h src

-- what the Rust answered; the two accounts of the records are the same
abbrev pub answered : (records : List (List ℕ)) (ending : List ℕ) (bytes payload : ℕ) → Fact
answered records ending bytes payload = record {
  records = records;
  ending = ending;
  bytes = bytes;
  payload = payload;
  plain_records = records;
  plain_ending = ending;
}

-- opens every rule and the plain list
unfoldable pub every_fact : Unit {0}
unfolding every_rule require section_then verdict_then sized_then lacks_second_word object_then entries_then checked_chunk_then chunk_then chunks_from plain_list
every_fact = tt
