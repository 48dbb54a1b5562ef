-- What is demanded is never 0 bytes, and never lies outside: a section's in its locator, a chunk's and an entry's in the map, and an object's in the source.
use Rattle.std.specs.Prelude.{Ok, Some}
use Prim.Native.Nat.{ℕ, ◌+◌, ◌≤◌, ◌<◌}
use mathlib.Core.Bool.{Bool, true, false}
use mathlib.Core.Option.{Option, none, some}
use mathlib.Core.Path.{◌≡◌, refl, subst}
use native.Mathlib.Omega.{arith}
use lib.Dec.{ltb, eqb}
use borrow.Author.Tests.{ltb-true, ltb-false, eqb-true, eqb-false}
use Rattle.streaming.specs.Choose.{when◌then◌else◌}
use Rattle.streaming.specs.Numbers.{part_number}
use Rattle.streaming.specs.declared.StreamError.{StreamError}
use Rattle.streaming.specs.declared.Request.{Request}
use Rattle.streaming.specs.Answers.{Asked}
use Rattle.streaming.specs.declared.Stage.{Stage}
use Rattle.streaming.specs.declared.Stage.TheVariants as stage
use Rattle.streaming.specs.declared.FlatWalker.{FlatWalker}
use Rattle.streaming.proofs.Cases.{shown}
use Rattle.streaming.proofs.Choose.{in_both}
use Rattle.rules.specs.Header.{map_start, map_end, locator_of}
use Rattle.rules.proofs.Header.{Started, started}
use Rattle.rules.specs.Section.{frame}
use Rattle.rules.specs.Object.{may_start, may_end}
use Rattle.section.specs.Section.{part_of, section_of, section_end, request_section}
use Rattle.section.specs.Fit.{fit_section, FitSection}
use Rattle.chunk.specs.Chunk.{chunk_end, request_chunk}
use Rattle.chunk.specs.Fit.{fit_chunk, FitChunk}
use Rattle.chunk.proofs.Fitness.{fit_chunk_shows}
use Rattle.entry.specs.Entry.{request_entry}
use Rattle.entry.specs.Fit.{fit_entry}
use Rattle.entry.proofs.Fitness.{fit_entry_shows}
use Rattle.object.specs.Object.{object_end, request_object}
use Rattle.object.specs.Fit.{fit_object, FitObject}
use Rattle.flat.specs.Fit.{is_taken, fit_at}
use Rattle.flat.specs.Flat.{request_at, request_of}
use Rattle.section.proofs.Fitness.{fit_section_shows}
use Rattle.object.proofs.Fitness.{fit_object_shows}
use Rattle.flat.proofs.Demanded.{apart, demanded}
use Rattle.flat.proofs.KeepingCalls.{fit_taken, fit_stage}

-- a second size word is in hand: it may lie behind the source, and is told as missing then
abbrev pub SecondWord : FlatWalker → Type 0
SecondWord s = (s.ms_len ≡ 0) × (s.words ≡ 1)

-- where a stage's demand lies
abbrev pub InPlace : Stage → FlatWalker → Request → Type 0
InPlace stage.Vars s r = r.offset + r.len ≤ (section_of s).offset + (section_of s).size
InPlace stage.Classes s r = r.offset + r.len ≤ (section_of s).offset + (section_of s).size
InPlace stage.Chunk s r = (map_start s.header ≤ r.offset) × (r.offset + r.len ≤ map_end s.header)
InPlace stage.Entry s r = (map_start s.header ≤ r.offset) × (r.offset + r.len ≤ map_end s.header)
InPlace stage.Object s r = (SecondWord s → ⊥) → r.offset + r.len ≤ s.header.length
InPlace stage.Done s r = ⊥

pub record Proper (g : Stage) (s : FlatWalker) (r : Request) : Type 0 where
  pub some : 0 < r.len
  pub place : InPlace g s r

-- ---- by the stage

-- the demand ends behind what is done
record Ends (done end total : ℕ) : Type 0 where
  more : done < end
  most : end ≤ total

section-ends : (s : FlatWalker) → FitSection s → Ends s.done (section_end s.done s.size) (section_of s).size
unfolding section_end
section-ends s f =
    let framed = f.framed in
    let inside = f.inside in
    in_both (λ (e : ℕ). Ends s.done e (section_of s).size) (ltb s.done 16)
    (λ a. record { more = ltb-true _ _ a; most = omega arith })
    (λ a. in_both (λ (e : ℕ). Ends s.done e (section_of s).size) (ltb s.done 20)
    (λ b. record { more = ltb-true _ _ b; most = omega arith })
    (λ b.
    let whole : frame + s.size ≡ (section_of s).size = f.late (ltb-false s.done 20 b) in
    in_both (λ (e : ℕ). Ends s.done e (section_of s).size) (ltb s.done (20 + s.size))
    (λ c. record { more = ltb-true _ _ c; most = omega arith })
    (λ c. in_both (λ (e : ℕ). Ends s.done e (section_of s).size) (ltb s.done (22 + s.size))
    (λ d. record { more = ltb-true _ _ d; most = omega arith })
    (λ d. record { more = omega arith; most = omega arith }))))

chunk-ends : (s : FlatWalker) → FitChunk s → Ends s.done (chunk_end s.done s.size) (s.size + 2)
unfolding chunk_end
chunk-ends s f =
    in_both (λ (e : ℕ). Ends s.done e (s.size + 2)) (ltb s.done 2)
    (λ a. record { more = ltb-true _ _ a; most = omega arith })
    (λ a. in_both (λ (e : ℕ). Ends s.done e (s.size + 2)) (ltb s.done s.size)
    (λ b. record { more = ltb-true _ _ b; most = omega arith })
    (λ b. record { more = f.within; most = omega arith }))

object-ends : (s : FlatWalker) → FitObject s → (s.ms_len ≡ 0 → ⊥)
    → Ends s.done (object_end s.done s.size s.ms_len) (s.ms_len + s.size + 2)
unfolding object_end
object-ends s f known =
    in_both (λ (e : ℕ). Ends s.done e (s.ms_len + s.size + 2)) (eqb s.ms_len 0)
    (λ a. absurd (known (eqb-true _ _ a)))
    (λ a. in_both (λ (e : ℕ). Ends s.done e (s.ms_len + s.size + 2)) (ltb s.done (s.ms_len + s.size))
    (λ b. record { more = ltb-true _ _ b; most = omega arith })
    (λ b. record { more = f.inside known; most = omega arith }))

-- an object that may start has its first word in the source, and one that may end all of it
starts-inside : (s : FlatWalker) → may_start s.header s.object ≡ true → s.object + 2 ≤ s.header.length
unfolding may_start
starts-inside s e = search shown

ends-inside : (s : FlatWalker) (end : ℕ) → may_end s.header s.object end ≡ true → end ≤ s.header.length
unfolding may_end
ends-inside s end e = search shown

module _ (s : FlatWalker) (f : FitObject s) where
  object-some : s.done < object_end s.done s.size s.ms_len
  unfolding object_end when◌then◌else◌
  object-some = split (eqb s.ms_len 0) refl
    where
      split : (b : Bool) → eqb s.ms_len 0 ≡ b → s.done < object_end s.done s.size s.ms_len
      split true e = rw e (omega arith)
      split false e = (object-ends s f (eqb-false _ _ e)).more

  object-inside : (SecondWord s → ⊥) → s.object + object_end s.done s.size s.ms_len ≤ s.header.length
  unfolding object_end when◌then◌else◌
  object-inside other = split (eqb s.ms_len 0) refl
    where
      split : (b : Bool) → eqb s.ms_len 0 ≡ b → s.object + object_end s.done s.size s.ms_len ≤ s.header.length
      split true e =
          let none : s.ms_len ≡ 0 = eqb-true _ _ e in
          let few = f.few_words none in
          let high = f.word_high none in
          let not_one : s.words ≡ 1 → ⊥ = λ one. other (none, one) in
          let inside = starts-inside s f.starts in
          rw e (omega arith)
      split false e =
          let known = eqb-false s.ms_len 0 e in
          let ends = object-ends s f known in
          let inside = ends-inside s (s.object + s.ms_len + s.size + 2) (f.ends known) in
          omega arith

module _ (s : FlatWalker) where
  section_proper : fit_section s ≡ true
      → (0 < (request_section s).len) × ((request_section s).offset + (request_section s).len ≤ (section_of s).offset + (section_of s).size)
  unfolding request_section
  section_proper fit = let e = section-ends s (fit_section_shows s fit) in (omega arith, omega arith)

  chunk_proper : fit_chunk s ≡ true → Proper stage.Chunk s (request_chunk s)
  unfolding request_chunk
  chunk_proper fit =
      let f = fit_chunk_shows s fit in
      let e = chunk-ends s f in
      record { some = omega arith; place = (omega arith, omega arith) }

  entry_proper : fit_entry s ≡ true → Proper stage.Entry s (request_entry s)
  unfolding request_entry
  entry_proper fit = let f = fit_entry_shows s fit in record { some = omega arith; place = (omega arith, omega arith) }

  object_proper : fit_object s ≡ true → Proper stage.Object s (request_object s)
  unfolding request_object
  object_proper fit =
      let f = fit_object_shows s fit in
      let more = object-some s f in
      record { some = omega arith; place = λ other. let inside = object-inside s f other in omega arith }

-- a demand is the stage's own
the_same : {a r : Request} → ◌≡◌ {A = Asked} (Ok (Some a)) (Ok (Some r)) → a ≡ r
the_same q = cc

by_stage : (g : Stage) (s : FlatWalker) (r : Request) → fit_at g s ≡ true → request_at g s ≡ Ok (Some r) → Proper g s r
by_stage stage.Vars s r fit q =
    let p = section_proper s fit in
    subst (λ (x : Request). Proper stage.Vars s x) (the_same q) (record { some = p.0; place = p.1 })
by_stage stage.Classes s r fit q =
    let p = section_proper s fit in
    subst (λ (x : Request). Proper stage.Classes s x) (the_same q) (record { some = p.0; place = p.1 })
by_stage stage.Chunk s r fit q = subst (λ (x : Request). Proper stage.Chunk s x) (the_same q) (chunk_proper s fit)
by_stage stage.Entry s r fit q = subst (λ (x : Request). Proper stage.Entry s x) (the_same q) (entry_proper s fit)
by_stage stage.Object s r fit q = subst (λ (x : Request). Proper stage.Object s x) (the_same q) (object_proper s fit)
by_stage stage.Done s r fit q = apart (cc)

-- ---- every demand

pub demand_proper : (s : FlatWalker) (r : Request) → request_of s ≡ Ok (Some r) → Proper s.stage s r
demand_proper s r q = let d = demanded s r q in by_stage s.stage s r (fit_stage s d.fit) d.asks

-- ---- and lies in the source

taken_starts : (o : Option StreamError) → is_taken o ≡ true → o ≡ none
taken_starts none e = refl
taken_starts (some x) e = apart (cc)

-- where the section of a stage ends
abbrev end_at : FlatWalker → Stage → ℕ
end_at s g = (locator_of s.header (part_number (part_of g))).offset + (locator_of s.header (part_number (part_of g))).size

-- the sections and the map are where Start found them
in_source : (g : Stage) (s : FlatWalker) (r : Request) → s.stage ≡ g → Started s.header → (g ≡ stage.Object → SecondWord s → ⊥)
    → InPlace g s r → r.offset + r.len ≤ s.header.length
unfolding map_end
in_source stage.Vars s r e h other p = omega (arith, h.vars, subst (λ (g : Stage). r.offset + r.len ≤ end_at s g) e p)
in_source stage.Classes s r e h other p = omega (arith, h.classes, subst (λ (g : Stage). r.offset + r.len ≤ end_at s g) e p)
in_source stage.Chunk s r e h other p = omega (arith, h.map)
in_source stage.Entry s r e h other p = omega (arith, h.map)
in_source stage.Object s r e h other p = p (other refl)
in_source stage.Done s r e h other p = absurd p

pub demand_in_source : (s : FlatWalker) (r : Request) → request_of s ≡ Ok (Some r) → (s.stage ≡ stage.Object → SecondWord s → ⊥)
    → r.offset + r.len ≤ s.header.length
demand_in_source s r q other =
    let taken = fit_taken s (demanded s r q).fit in
    in_source s.stage s r refl (started s.header (taken_starts _ taken)) other (demand_proper s r q).place
