-- Which piece the driver brings next: the least of cut, demand and what the source has.
use Rattle.std.specs.Prelude.{ℕ, ◌+◌, ◌-◌, min, length, get_or, eqb, ltb, if◌then◌else◌, Option, Ok, Err, Some, None}
use Rattle.streaming.specs.Answers.{Asked}
use Rattle.form.specs.declared.Cuts.{Cuts}
use Rattle.driving.specs.declared.pieces.Piece.{Piece}

-- no cuts means whole demands
unfoldable pub cut_to : Cuts → (turn demand : ℕ) → ℕ
cut_to c turn demand = if eqb (length c) 0 then demand else min (get_or c turn 0) demand

-- cuts go round: behind the last one comes the first
unfoldable pub turn_after : Cuts → (turn : ℕ) → ℕ
turn_after c turn = if ltb (turn + 1) (length c) then turn + 1 else 0

-- by what is asked for, over a source of so many bytes: nothing where no byte is asked for, or the source has none at the place
abbrev pub next_by : Asked → (bytes : ℕ) → Cuts → (turn : ℕ) → Option Piece
next_by (Ok (Some r)) bytes c turn =
    if ltb r.offset bytes then Some (record { offset = r.offset; len = min (cut_to c turn r.len) (bytes - r.offset) }) else None
next_by (Ok None) bytes c turn = None
next_by (Err e) bytes c turn = None
