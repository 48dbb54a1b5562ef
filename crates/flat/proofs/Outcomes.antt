-- What an accepted piece leaves as it was, and how it may be refused: the header stays, and only a fault refuses it, which is held.
use Rattle.std.specs.Prelude.{Ok, Err, Some}
use Prim.Native.Nat.{ℕ}
use mathlib.Core.Bool.{Bool}
use mathlib.Core.List.{List}
use mathlib.Core.Option.{Option, none, some}
use mathlib.Core.Path.{◌≡◌, refl}
use lib.ListN.{get_or}
use Rattle.streaming.specs.Choose.{when◌then◌else◌}
use Rattle.streaming.specs.State.{stepped, fell}
use Rattle.streaming.specs.declared.FlatHeader.{FlatHeader}
use Rattle.streaming.specs.declared.Step.{Step}
use Rattle.streaming.specs.declared.Fault.{Fault}
use Rattle.streaming.specs.declared.StreamError.TheVariants as error
use Rattle.streaming.specs.Answers.{Answer}
use Rattle.streaming.specs.declared.Stage.{Stage}
use Rattle.streaming.specs.declared.Stage.TheVariants as stage
use Rattle.streaming.specs.declared.FlatWalker.{FlatWalker}
use Rattle.streaming.specs.declared.Fed.{Fed}
use Rattle.streaming.proofs.Choose.{in_both}
use Rattle.rules.specs.Header.{map_start}
use Rattle.rules.specs.Object.{Verdict, holds, fails}
use Rattle.section.specs.Section.{enter_section, enter_next, settle_section_size, settle_section_crc, settle_section, feed_section_start, feed_section_size, feed_section_data, feed_section_crc, feed_section_end, feed_section}
use Rattle.chunk.specs.Chunk.{enter_chunk, settle_chunk_size, settle_chunk, settle_chunk_crc, feed_chunk_size, feed_chunk_entries, feed_chunk_crc, feed_chunk}
use Rattle.entry.specs.Entry.{settle_location, settle_handle, more_groups, settle_group, feed_entry}
use Rattle.object.specs.Object.{enter_object, leave_object, settle_object_size, settle_word, settle_verdict, settle_object_crc, feed_word, feed_object_data, feed_object_crc, feed_object}
use Rattle.flat.specs.Flat.{feed_at}

-- a step, or a fault that the next state holds
abbrev pub StepOrFault : Answer → FlatWalker → Type 0
StepOrFault (Ok x) t = Unit {0}
StepOrFault (Err e) t = (f : Fault) × (e ≡ error.Fault f) × (t.failure ≡ Some f)

-- the outcome of a piece, under a header
pub record Outcome (h : FlatHeader) (r : Fed) : Type 0 where
  pub header : r.state.header ≡ h
  pub told : StepOrFault r.answer r.state

module _ {h : FlatHeader} where
  steps : {x : Step} {t : FlatWalker} → t.header ≡ h → Outcome h (stepped x t)
  steps e = record { header = e; told = tt }

  falls : {f : Fault} (t : FlatWalker) → t.header ≡ h → Outcome h (fell f t)
  falls {f} t e = record { header = e; told = (f, refl, refl) }

  either : (t : Bool) {a b : Fed} → Outcome h a → Outcome h b → Outcome h (when t then a else b)
  either t p q = in_both (Outcome h) t (λ e. p) (λ e. q)

-- ---- what is entered

enter_chunk_lem : (s : FlatWalker) (chunk : ℕ) → (enter_chunk s chunk).header ≡ s.header
unfolding enter_chunk
enter_chunk_lem s chunk = in_both (λ (t : FlatWalker). t.header ≡ s.header) _ (λ e. refl) (λ e. refl)

enter_section_lem : (s : FlatWalker) (g : Stage) → (enter_section s g).header ≡ s.header
unfolding enter_section
enter_section_lem s g = in_both (λ (t : FlatWalker). t.header ≡ s.header) _ (λ e. refl) (λ e. refl)

enter_next_lem : (g : Stage) (s : FlatWalker) → (enter_next g s).header ≡ s.header
enter_next_lem stage.Vars s = enter_section_lem s stage.Classes
enter_next_lem stage.Classes s = enter_chunk_lem s (map_start s.header)
enter_next_lem stage.Chunk s = refl
enter_next_lem stage.Entry s = refl
enter_next_lem stage.Object s = refl
enter_next_lem stage.Done s = refl

enter_object_lem : (s : FlatWalker) (location : ℕ) → Outcome s.header (enter_object s location)
unfolding enter_object
enter_object_lem s location = either _ (steps refl) (falls s refl)

leave_object_lem : (s : FlatWalker) → (leave_object s).header ≡ s.header
unfolding leave_object
leave_object_lem s = in_both (λ (t : FlatWalker). t.header ≡ s.header) _ (λ e. enter_chunk_lem s _) (λ e. refl)

-- ---- by the stage

-- sentinel, size, data, checksum, sentinel
section : (s : FlatWalker) (piece : List ℕ) → Outcome s.header (feed_section s piece)
unfolding feed_section feed_section_start feed_section_size feed_section_data feed_section_crc feed_section_end settle_section_size settle_section_crc settle_section
section s piece =
    either _ (either _ (steps refl) (falls s refl))
    (either _ (either _ (either _ (steps refl) (falls s refl)) (steps refl))
    (either _ (steps refl)
    (either _ (either _ (either _ (steps refl) (falls s refl)) (steps refl))
    (either _ (either _ (steps (enter_next_lem s.stage s)) (steps refl)) (falls s refl)))))

-- size, entries, checksum
chunk : (s : FlatWalker) (piece : List ℕ) → Outcome s.header (feed_chunk s piece)
unfolding feed_chunk feed_chunk_size feed_chunk_entries feed_chunk_crc settle_chunk_size settle_chunk_crc settle_chunk
chunk s piece =
    either _ (either _ (either _ (steps refl) (falls s refl)) (steps refl))
    (either _ (steps refl)
    (either _ (either _ (either _ (either _ (steps refl) (falls s refl)) (steps refl)) (falls s refl)) (steps refl)))

location : (s : FlatWalker) (l : Option ℕ) → Outcome s.header (settle_location s l)
unfolding settle_location
location s none = falls s refl
location s (some l) = enter_object_lem _ l

-- handle, location, or more bytes of either
entry : (s : FlatWalker) (byte : ℕ) → Outcome s.header (feed_entry s byte)
unfolding feed_entry settle_group settle_handle more_groups
entry s byte =
    either _ (either _ (either _ (either _ (steps refl) (falls s refl)) (location s _)) (either _ (falls s refl) (steps refl))) (falls s refl)

verdict : (s : FlatWalker) (field : List ℕ) (v : Verdict) → Outcome s.header (settle_verdict s field v)
unfolding settle_verdict
verdict s field (holds r) = steps (leave_object_lem _)
verdict s field (fails f) = falls s refl

-- size words, data, checksum
object : (s : FlatWalker) (piece : List ℕ) → Outcome s.header (feed_object s piece)
unfolding feed_object feed_word feed_object_data feed_object_crc settle_word settle_object_size settle_object_crc
object s piece =
    either _ (either _ (either _ (either _ (either _ (steps refl) (falls s refl)) (falls s refl)) (either _ (steps refl) (falls s refl))) (steps refl))
    (either _ (steps refl)
    (either _ (either _ (verdict s _ _) (falls s refl)) (steps refl)))

-- nothing is accepted when the walk is done
pub outcome_at : (g : Stage) (s : FlatWalker) (piece : List ℕ) → (g ≡ stage.Done → ⊥) → Outcome s.header (feed_at g s piece)
outcome_at stage.Vars s piece more = section s piece
outcome_at stage.Classes s piece more = section s piece
outcome_at stage.Chunk s piece more = chunk s piece
outcome_at stage.Entry s piece more = entry s (get_or piece 0 0)
outcome_at stage.Object s piece more = object s piece
outcome_at stage.Done s piece more = absurd (more refl)
