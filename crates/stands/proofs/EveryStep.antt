-- One name that opens every step of the walk, and every rule, for what is proved by computing: `unfolding every_step`.
use Rattle.rules.proofs.EveryRule.{every_rule}
use Rattle.section.specs.Section.{enter_section, section_end, request_section, settle_section_size, settle_section_crc, settle_section}
use Rattle.section.specs.Section.{feed_section_start, feed_section_size, feed_section_data, feed_section_crc, feed_section_end, feed_section}
use Rattle.section.specs.Fit.{section_done, fit_section}
use Rattle.chunk.specs.Chunk.{enter_chunk, chunk_end, request_chunk, settle_chunk_size, settle_chunk, settle_chunk_crc}
use Rattle.chunk.specs.Chunk.{feed_chunk_size, feed_chunk_entries, feed_chunk_crc, feed_chunk}
use Rattle.chunk.specs.Fit.{no_object, no_entry, chunk_done, fit_chunk, in_chunk}
use Rattle.entry.specs.Entry.{request_entry, bits_of, moved_by, settle_location, settle_handle, more_groups, settle_group, feed_entry}
use Rattle.entry.specs.Fit.{at_byte, fit_entry}
use Rattle.object.specs.Object.{enter_object, leave_object, object_end, request_object, settle_object_size, settle_word, settle_verdict, settle_object_crc}
use Rattle.object.specs.Object.{feed_word, feed_object_data, feed_object_crc, feed_object}
use Rattle.object.specs.Fit.{behind_entry, object_done, object_consistent, size_in_words, fit_object}
use Rattle.flat.specs.Fit.{fit_of}
use Rattle.flat.specs.Flat.{begun_of, request_of, end_of, feed_of}

unfoldable pub every_step : Unit {0}
unfolding
    every_rule
    enter_section section_end request_section settle_section_size settle_section_crc settle_section
    feed_section_start feed_section_size feed_section_data feed_section_crc feed_section_end feed_section section_done fit_section
    enter_chunk chunk_end request_chunk settle_chunk_size settle_chunk settle_chunk_crc
    feed_chunk_size feed_chunk_entries feed_chunk_crc feed_chunk no_object no_entry chunk_done fit_chunk in_chunk
    request_entry bits_of moved_by settle_location settle_handle more_groups settle_group feed_entry at_byte fit_entry
    enter_object leave_object object_end request_object settle_object_size settle_word settle_verdict settle_object_crc
    feed_word feed_object_data feed_object_crc feed_object behind_entry object_done object_consistent size_in_words fit_object
    fit_of begun_of request_of end_of feed_of
every_step = tt
