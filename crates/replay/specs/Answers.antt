-- What each answer of the walk prints, and what an operation does with the walk that is in hand.
use Rattle.std.specs.Prelude.{ℕ, Bool, true, false, List, [], ◌∷◌, get_or, eqb, Result, Ok, Err, Option, Some, None, option_map, if◌then◌else◌}
use Rattle.std.specs.Result.{result_ok}
use Rattle.std.specs.Option.{option_map_or}
use Rattle.streaming.specs.Numbers.{part_number}
use Rattle.streaming.specs.declared.Step.{Step}
use Rattle.streaming.specs.declared.Step.TheVariants as step
use Rattle.streaming.specs.declared.StreamError.{StreamError}
use Rattle.streaming.specs.Answers.{Answer, Asked, Ended}
use Rattle.streaming.specs.declared.Fed.{Fed}
use Rattle.streaming.specs.declared.FlatWalker.{FlatWalker}
use Rattle.lines.specs.Line.{line_of, section_line, object_line, refusal_line}
use Rattle.flat.specs.Fit.{fit_of, consistent_of}
use Rattle.flat.specs.Flat.{start_of, request_of, end_of, feed_of}
use Rattle.replay.specs.Parse.{bytes_at, number_at, header_in, state_in}

-- ---- lines

-- `F`, `P part`, a section, an object, `Z`
abbrev pub step_line : Step → List ℕ
step_line step.Framing = line_of 70 []
step_line (step.Payload part) = line_of 80 (part_number part ∷ [])
step_line (step.Section r) = section_line r
step_line (step.Object r) = object_line r
step_line step.Finished = line_of 90 []

abbrev pub fed_line : Answer → List ℕ
fed_line (Ok s) = step_line s
fed_line (Err e) = refusal_line e

-- `D offset len`, `N`
abbrev pub asked_line : Asked → List ℕ
asked_line (Ok (Some r)) = line_of 68 (r.offset ∷ r.len ∷ [])
asked_line (Ok None) = line_of 78 []
asked_line (Err e) = refusal_line e

-- `N`
abbrev pub ended_line : Ended → List ℕ
ended_line (Ok tt) = line_of 78 []
ended_line (Err e) = refusal_line e

-- `W`
abbrev pub start_line : Result FlatWalker StreamError → List ℕ
start_line (Ok s) = line_of 87 []
start_line (Err e) = refusal_line e

-- `1`, `0`
abbrev pub yes_line : Bool → List ℕ
yes_line true = line_of 49 []
yes_line false = line_of 48 []

-- ---- operations

-- what `F` feeds: an offset, a count and as many bytes
unfoldable pub fed_by : FlatWalker → List ℕ → Fed
fed_by state s = feed_of state (number_at s 1 8) (bytes_at s 13 (number_at s 9 4))

-- what leaves the walk as it is: `R`, `N`, `C`, and else `T`
unfoldable pub ask_line : FlatWalker → (letter : ℕ) → List ℕ
ask_line state letter =
    if eqb letter 82 then asked_line (request_of state) else
    (if eqb letter 78 then ended_line (end_of state) else
    (if eqb letter 67 then yes_line (consistent_of state) else yes_line (fit_of state)))

-- `F`, and the others while a walk is in hand
abbrev pub walk_line : FlatWalker → List ℕ → List ℕ
walk_line state s = if eqb (get_or s 0 0) 70 then fed_line (fed_by state s).answer else ask_line state (get_or s 0 0)

-- `H` and `W` are always answered, the others only while a walk is in hand: else `-`
unfoldable pub answer_line : Option FlatWalker → List ℕ → List ℕ
answer_line hand s =
    if eqb (get_or s 0 0) 72 then start_line (start_of (header_in s)) else
    (if eqb (get_or s 0 0) 87 then line_of 87 [] else option_map_or (λ state. walk_line state s) hand (line_of 45 []))

-- the walk in hand once a header was given: the one that it begins, or none
abbrev pub hand_of : Result FlatWalker StreamError → Option FlatWalker
hand_of = result_ok

-- `F` goes on with the walk, the others leave it as it is
abbrev pub walk_after : FlatWalker → List ℕ → FlatWalker
walk_after state s = if eqb (get_or s 0 0) 70 then (fed_by state s).state else state

-- `H` and `W` change the walk that is in hand
unfoldable pub hand_after : Option FlatWalker → List ℕ → Option FlatWalker
hand_after hand s =
    if eqb (get_or s 0 0) 72 then hand_of (start_of (header_in s)) else
    (if eqb (get_or s 0 0) 87 then Some (state_in s) else option_map (λ state. walk_after state s) hand)
