-- One induction over the rules: what each demand and each turn keeps, their account has.
use Rattle.std.specs.Prelude.{Ok, None}
use Prim.Native.Nat.{ℕ, zero, suc, ◌+◌, ◌-◌}
use mathlib.Core.List.{List, [], ◌∷◌}
use mathlib.Core.Option.{Option, none, some}
use mathlib.Core.Path.{◌≡◌, refl, sym, ap}
use native.Mathlib.Omega.{arith}
use lib.ListN.{length, take}
use Rattle.streaming.specs.Record.{section, object}
use Rattle.streaming.specs.declared.Part.{Part}
use Rattle.streaming.specs.declared.Part.TheVariants.{HeaderVars, Classes, Object}
use Rattle.streaming.specs.declared.SectionRecord.{SectionRecord}
use Rattle.streaming.specs.declared.ObjectRecord.{ObjectRecord}
use Rattle.streaming.specs.declared.FlatHeader.{FlatHeader}
use Rattle.streaming.specs.declared.Step.TheVariants as step
use Rattle.streaming.specs.declared.Fault.{Fault}
use Rattle.streaming.proofs.Choose.{in_both}
use Rattle.account.specs.Statement.{part}
use Rattle.account.specs.Account.{Account, over, framing, payload, finished, broken}
use Rattle.account.specs.Asking.{Turn, go, bad, span, passing, one_by_one, spell}
use Rattle.rules.specs.Header.{map_start, map_size, is_r2000}
use Rattle.rules.specs.Section.{start_sentinel, end_sentinel, section_size, section_record}
use Rattle.rules.specs.Section.{ask_section_end, section_crc_turn, ask_section_data, section_size_turn, ask_section}
use Rattle.rules.specs.Entry.{Entry, leads, refused}
use Rattle.rules.specs.Prologue.{Prologue, prologue_of}
use Rattle.rules.specs.Object.{Size, sized, unending, Verdict, holds, fails, size_at}
use Rattle.rules.specs.Object.{object_record, named, verdict, verdict_turn, ask_object_data, object_size_turn, ask_object, object_turn}
use Rattle.rules.specs.Map.{chunk_size, chunk_entries, ask_entries, chunk_turn, chunk_crc_turn, chunk_size_turn, ask_chunks}
use Rattle.rules.specs.Rules.{rules}
use Rattle.rules.specs.LastByte.{field_bytes_of, last_byte_of}
use Rattle.rules.proofs.Section.{IsSection, vars, classes, length-start, length_end}
use Rattle.rules.proofs.Entry.{Within}
use Rattle.rules.proofs.Map.{chunk-within}

-- A property of accounts, where so much payload was taken of the unit in hand, and one of turns that are taken at a place.
pub record Kept (src : List ℕ) (P : (taken : ℕ) → Account → Type 0) (Q : (at taken : ℕ) → Turn → Type 0) : Type 0 where
  -- ends
  pub stopped : (taken : ℕ) (f : Fault) → P taken (over (broken f))
  pub failing : (at taken : ℕ) (f : Fault) → Q at taken (bad f)
  pub finishing : (at : ℕ) → Q at 0 (go finished (over (Ok None)))
  -- turns that go on: a commit stands at its record's last byte, and all of the record's data was taken
  pub going : (at taken : ℕ) (a : Account) → P taken a → Q at taken (go framing a)
  pub sections : (r : SectionRecord) (at : ℕ) (a : Account) → at ≡ last_byte_of src (section r) → P 0 a → Q at r.size (go (Ok (step.Section r)) a)
  pub objects : (r : ObjectRecord) (at : ℕ) (a : Account) → at ≡ last_byte_of src (object r) → P 0 a → Q at r.size (go (Ok (step.Object r)) a)
  -- demands
  pub spans : (at n end taken : ℕ) (t : Turn) → at + n ≡ end → Q end taken t → P taken (span src at (suc n) framing t)
  pub passes : (at n taken : ℕ) (a : Account) → P taken a → P taken (passing src at n framing a)
  pub pays : (p : Part) (at n : ℕ) (a : Account) → P n a → P 0 (passing src at n (payload p) a)
  pub spells : (at n end taken : ℕ) (ws : List ℕ) (f : Fault) (t : Turn) → length ws ≡ suc n → at + n ≡ end → Q end taken t → P taken (spell src at ws f t)
  pub goes_one_by_one : (at n taken : ℕ) (t : Turn) → ((end : ℕ) → Q end taken t) → P taken (one_by_one src at (suc n) t)

module _ (src : List ℕ) (P : (taken : ℕ) → Account → Type 0) (Q : (at taken : ℕ) → Turn → Type 0) (kept : Kept src P Q) where
  -- ---- a section

  module _ (p : Part) (is : IsSection p) (start total : ℕ) (next : Account) (c : P 0 next) where
    section_turn : (size : ℕ) → Q (start + 37 + size) size (go (Ok (step.Section (section_record p start size))) next)
    unfolding last_byte_of section_record
    section_turn size = kept.sections (section_record p start size) (start + 37 + size) next (omega arith) c

    data_keeps : (size : ℕ) → P 0 (ask_section_data src p start next size)
    unfolding ask_section_data section_crc_turn ask_section_end
    data_keeps size =
        kept.pays p _ size _ (kept.spans _ 1 (start + 21 + size) size _ (omega arith)
        (in_both (Q (start + 21 + size) size) _
        (λ e. kept.going _ size _ (kept.spells _ 15 (start + 37 + size) size (end_sentinel p) _ _ (length_end is) (omega arith) (section_turn size)))
        (λ e. kept.failing _ size _)))

    section_keeps : P 0 (ask_section src p start total next)
    unfolding ask_section section_size_turn
    section_keeps =
        in_both (P 0) _
        (λ e. kept.spells _ 15 (start + 15) 0 (start_sentinel p) _ _ (length-start is) refl (kept.going _ 0 _ (kept.spans _ 3 (start + 19) 0 _ (omega arith)
        (in_both (Q (start + 19) 0) _
        (λ f. kept.going _ 0 _ (data_keeps (section_size src start)))
        (λ f. kept.failing _ 0 _)))))
        (λ e. kept.stopped 0 _)

  -- ---- an object

  module _ (h : FlatHeader) (handle location : ℕ) (next : Account) (c : P 0 next) where
    -- a verdict on an object of so many bytes that ends at a place
    abbrev Ends : (at size : ℕ) → Verdict → Type 0
    Ends at size (holds r) = (at ≡ last_byte_of src (object r)) × (r.size ≡ size)
    Ends at size (fails f) = Unit {0}

    module _ (n size : ℕ) (field : size_at src location ≡ sized n size) where
      named-ends : (o : Option Prologue) → Ends (location + n + size + 1) size (named handle location size o)
      unfolding named last_byte_of object_record
      named-ends none = tt
      named-ends (some p) =
          in_both (Ends (location + n + size + 1) size) _
          (λ e. (sym (ap (λ s. location + field_bytes_of s + size + 1) field), refl)) (λ e. tt)

      verdict-ends : Ends (location + n + size + 1) size (verdict h src handle location n size)
      unfolding verdict
      verdict-ends =
          in_both (Ends (location + n + size + 1) size) _
          (λ e. named-ends (prologue_of (is_r2000 h) (take 16 (part src (location + n) size)))) (λ e. tt)

    verdict_turn_lem : (at size : ℕ) (v : Verdict) → Ends at size v → Q at size (verdict_turn next v)
    unfolding verdict_turn
    verdict_turn_lem at size (holds r) e = rw (← e.1) (kept.objects r at next e.0 c)
    verdict_turn_lem at size (fails f) e = kept.failing at size f

    size_turn_lem : (at : ℕ) (s : Size) → size_at src location ≡ s → Q at 0 (object_size_turn h src handle location next s)
    unfolding object_size_turn ask_object_data
    size_turn_lem at unending e = kept.failing at 0 _
    size_turn_lem at (sized n size) e =
        in_both (Q at 0) _
        (λ f. in_both (Q at 0) _
        (λ g. kept.going at 0 _ (kept.pays Object _ size _ (kept.spans _ 1 (location + n + size + 1) size _ (omega arith)
        (verdict_turn_lem _ size (verdict h src handle location n size) (verdict-ends n size e)))))
        (λ g. kept.failing at 0 _))
        (λ f. kept.failing at 0 _)

    object_turn_lem : (at : ℕ) → Q at 0 (object_turn h src handle location next)
    unfolding object_turn ask_object
    object_turn_lem at =
        in_both (Q at 0) _
        (λ e. kept.going at 0 _ (kept.spans _ 1 (location + 1) 0 _ (omega arith)
        (in_both (Q (location + 1) 0) _
        (λ f. size_turn_lem _ (size_at src location) refl)
        (λ f. kept.going _ 0 _ (kept.spans _ 1 (location + 3) 0 _ (omega arith) (size_turn_lem _ (size_at src location) refl))))))
        (λ e. kept.failing at 0 _)

  -- ---- the map

  module _ (h : FlatHeader) where
    entries_keep : (es : List Entry) (room at : ℕ) (next : Account) → Within room es → P 0 next → P 0 (ask_entries h src es at next)
    unfolding ask_entries
    entries_keep [] room at next w c = c
    entries_keep (leads zero handle location ∷ more) room at next w c = absurd (omega (arith, w.0))
    entries_keep (leads (suc n) handle location ∷ more) room at next w c =
        kept.goes_one_by_one at n 0 _ (object_turn_lem h handle location _ (entries_keep more (room - suc n) (at + suc n) next w.2 c))
    entries_keep (refused zero ∷ more) room at next w c = absurd (omega (arith, w.0))
    entries_keep (refused (suc n) ∷ more) room at next w c = kept.goes_one_by_one at n 0 _ (λ end. kept.failing end 0 _)

    chunk_turn_lem : (at chunk size : ℕ) (next : Account) → P 0 next → Q at 0 (chunk_turn h src chunk size next)
    unfolding chunk_turn
    chunk_turn_lem at chunk size next c =
        in_both (Q at 0) _
        (λ e. in_both (Q at 0) _ (λ f. kept.finishing at) (λ f. kept.failing at 0 _))
        (λ e. let w = chunk-within src chunk size in kept.going at 0 _ (entries_keep (chunk_entries src chunk size) w.0 (chunk + 2) next w.2 c))

    chunks_keep : (k chunk : ℕ) → P 0 (ask_chunks h src k chunk)
    unfolding ask_chunks chunk_size_turn chunk_crc_turn
    chunks_keep zero chunk = kept.stopped 0 _
    chunks_keep (suc k) chunk =
        let size = chunk_size src chunk in
        in_both (P 0) _
        (λ e. kept.spans _ 1 (chunk + 1) 0 _ (omega arith)
        (in_both (Q (chunk + 1) 0) _
        (λ f. kept.going _ 0 _ (kept.passes _ (size - 2) 0 _ (kept.spans _ 1 (chunk + size + 1) 0 _ (omega arith)
        (in_both (Q (chunk + size + 1) 0) _
        (λ g. chunk_turn_lem _ chunk size _ (chunks_keep k (chunk + size + 2)))
        (λ g. kept.failing _ 0 _)))))
        (λ f. kept.failing _ 0 _)))
        (λ e. kept.stopped 0 _)

    pub rules_keep : P 0 (rules h src)
    unfolding rules
    rules_keep = section_keeps HeaderVars vars _ _ _ (section_keeps Classes classes _ _ _ (chunks_keep (map_size h) (map_start h)))
