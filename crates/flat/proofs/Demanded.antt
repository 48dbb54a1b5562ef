-- What a demand tells of the state: no failure is held, the state is fit, and its stage demands the same.
use Rattle.std.specs.Prelude.{Ok, Some, None}
use mathlib.Core.Bool.{Bool, true, false}
use mathlib.Core.Path.{◌≡◌, refl, ap}
use native.Mathlib.Omega.{arith}
use Prim.Native.Nat.{ℕ}
use Rattle.streaming.specs.Choose.{when◌then◌else◌}
use Rattle.streaming.specs.declared.Request.{Request}
use Rattle.streaming.specs.Answers.{Failure}
use Rattle.streaming.specs.declared.FlatWalker.{FlatWalker}
use Rattle.flat.specs.Fit.{is_sound, fit_of}
use Rattle.flat.specs.Flat.{request_at, asked_if, request_in, request_of}

-- two numbers that differ are equal nowhere: for a case that can't be, by `apart (cc)`
pub apart : {A : Type 0} → ◌≡◌ {A = ℕ} 0 1 → A
apart z = absurd (omega arith)

pub record Demanded (s : FlatWalker) (r : Request) : Type 0 where
  pub sound : is_sound s.failure ≡ true
  pub fit : fit_of s ≡ true
  pub asks : request_at s.stage s ≡ Ok (Some r)

pub demanded : (s : FlatWalker) (r : Request) → request_of s ≡ Ok (Some r) → Demanded s r
unfolding request_of when◌then◌else◌
demanded s r = by_failure s.failure refl
  where
    by_fit : is_sound s.failure ≡ true → (b : Bool) → fit_of s ≡ b → asked_if b (request_at s.stage s) ≡ Ok (Some r) → Demanded s r
    by_fit k true e q = record { sound = k; fit = e; asks = q }
    by_fit k false e q = apart (cc)

    by_failure : (f : Failure) → s.failure ≡ f → request_in f s ≡ Ok (Some r) → Demanded s r
    by_failure None e q = by_fit (ap is_sound e) (fit_of s) refl q
    by_failure (Some f) e q = apart (cc)
