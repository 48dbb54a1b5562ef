-- One name that opens every rule, for what is proved by computing: `unfolding every_rule`.
use Rattle.streaming.specs.Choose.{when◌then◌else◌}
use Rattle.crc.specs.Crc.{polynomial_if, step, steps, crc_byte, crc_of}
use Rattle.account.specs.Account.{records_in, ending_of, bytes_taken, payload_taken}
use Rattle.account.specs.Asking.{span, one_by_one, spell}
use Rattle.octets.specs.Octets.{little_endian, big_endian, same}
use Rattle.rules.specs.Header.{first_of, locator_of, map_end, is_r2000, is_outside, start_refusal}
use Rattle.rules.specs.Section.{sentinels, section_size, section_computed, section_stored, section_record}
use Rattle.rules.specs.Section.{ask_section_end, section_crc_turn, ask_section_data, section_size_turn, ask_section}
use Rattle.rules.specs.Entry.{groups_of, handle_delta, magnitude, is_back, location_delta, moved, entry_at, with_location, with_handle, followed, entries_from}
use Rattle.rules.specs.Prologue.{bit_at, bits_at, reading, reading_handle, behind_type, reading_type, prologue_of}
use Rattle.rules.specs.Object.{size_of_words, may_start, may_end, size_at, object_computed, object_stored, object_record, named, verdict}
use Rattle.rules.specs.Object.{verdict_turn, ask_object_data, object_size_turn, ask_object, object_turn}
use Rattle.rules.specs.Map.{chunk_size, chunk_computed, chunk_stored, chunk_entries, chunk_fits, ask_entries, chunk_turn, chunk_crc_turn, chunk_size_turn, ask_chunks}
use Rattle.rules.specs.Rules.{rules}

unfoldable pub every_rule : Unit {0}
unfolding
    when◌then◌else◌ little_endian big_endian same polynomial_if step steps crc_byte crc_of
    records_in ending_of bytes_taken payload_taken span one_by_one spell
    first_of locator_of map_end is_r2000 is_outside start_refusal
    sentinels section_size section_computed section_stored section_record ask_section_end section_crc_turn ask_section_data section_size_turn ask_section
    groups_of handle_delta magnitude is_back location_delta moved entry_at with_location with_handle followed entries_from
    bit_at bits_at reading reading_handle behind_type reading_type prologue_of
    size_of_words may_start may_end size_at object_computed object_stored object_record named verdict
    verdict_turn ask_object_data object_size_turn ask_object object_turn
    chunk_size chunk_computed chunk_stored chunk_entries chunk_fits ask_entries chunk_turn chunk_crc_turn chunk_size_turn ask_chunks
    rules
every_rule = tt
