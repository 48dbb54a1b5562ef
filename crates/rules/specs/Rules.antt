-- The rules: the account that a header and a whole source of its length give. Both sections in turn, then the map and its objects.
use Rattle.std.specs.Prelude.{ℕ, List}
use Rattle.streaming.specs.Record.{Record}
use Rattle.streaming.specs.Numbers.{part_number}
use Rattle.streaming.specs.declared.Part.{Part}
use Rattle.streaming.specs.declared.Part.TheVariants.{HeaderVars, Classes}
use Rattle.streaming.specs.declared.FlatHeader.{FlatHeader}
use Rattle.streaming.specs.Answers.{Asked}
use Rattle.account.specs.Account.{Account, records_in, ending_of}
use Rattle.rules.specs.Header.{locator_of, map_start, map_size}
use Rattle.rules.specs.Section.{ask_section}
use Rattle.rules.specs.Map.{ask_chunks}

module _ (h : FlatHeader) (src : List ℕ) where
  -- a section's locator has its part's number
  abbrev pub ask_part : Part → Account → Account
  ask_part p next = ask_section src p (locator_of h (part_number p)).offset (locator_of h (part_number p)).size next

  unfoldable pub rules : Account
  rules = ask_part HeaderVars (ask_part Classes (ask_chunks h src (map_size h) (map_start h)))

  abbrev pub records : List Record
  records = records_in rules

  abbrev pub ending : Asked
  ending = ending_of rules
