-- The payload of a run: the sizes of what it committed, and what was taken of the unit still open or failed.
use Rattle.std.specs.Prelude.{Ok, None}
use Prim.Native.Nat.{ℕ, zero, suc, ◌+◌}
use mathlib.Core.List.{List}
use mathlib.Core.Path.{◌≡◌, refl, sym, ap, ◌∙◌, subst}
use native.Mathlib.Omega.{arith}
use Rattle.streaming.specs.declared.FlatHeader.{FlatHeader}
use Rattle.account.specs.Account.{Account, ask, over, ask_of, passed, payload_taken}
use Rattle.account.specs.Statement.{Call, Honest}
use Rattle.account.specs.Runs.{run, bytes, committed, Past}
use Rattle.account.proofs.Main.{committed-within}
use Rattle.account.proofs.Does.{asks, does_run, meets_does}
use Rattle.rules.specs.Source.{Of}
use Rattle.rules.specs.Rules.{rules}
use Rattle.rules.specs.Payload.{sizes_of, payload_within}
use Rattle.rules.proofs.Main.{rules_tidy, payload_so_far, payload_in_all}
use Rattle.flat.specs.Flat.{request_of}
use Rattle.flat.proofs.Demanded.{apart}
use Rattle.stands.proofs.Fitness.{begun, flat_walker}
use Rattle.stands.proofs.Main.{meets, whole}
use Rattle.tally.specs.History.{payload_in, open_payload}
use Rattle.tally.specs.Run.{heard_in}
use Rattle.tally.proofs.Even.{rules_even}
use Rattle.tally.proofs.Pieces.{Paid, run_paid}

-- ---- an account that is at its end holds no more payload

within_all : (n : ℕ) (a : Account) → payload_within n a + payload_taken (passed n a) ≡ payload_taken a
unfolding payload_within payload_taken
within_all zero a = omega arith
within_all (suc n) (ask at left says rest) = omega (arith, within_all n rest)
within_all (suc n) (over q) = refl

none_left : (a : Account) → ask_of a ≡ Ok None → payload_taken a ≡ 0
unfolding payload_taken
none_left (ask at left says rest) e = apart (cc)
none_left (over q) e = refl

-- ---- a run

module _ (h : FlatHeader) (src : List ℕ) (of : Of h src) (cs : List Call) (honest : Honest flat_walker src (begun h) cs) where
  paying : Paid cs (begun h) (rules h src)
  paying = run_paid cs (begun h) (rules_tidy h src) (rules_even h src) (meets_does Of rules flat_walker meets h src of) honest

  pub payload_so_far_heard : payload_in (heard_in (begun h) cs) ≡ sizes_of (committed flat_walker (begun h) cs) + open_payload 0 (heard_in (begun h) cs)
  payload_so_far_heard =
      let n = bytes flat_walker (begun h) cs in
      let sizes = ap sizes_of (committed-within Of rules (λ h src of. rules_tidy h src) flat_walker meets h src of cs honest) in
      omega (arith, paying.heard, paying.hand 0, payload_so_far h src n, sizes)

  pub payload_in_all_heard : request_of (run flat_walker (begun h) cs) ≡ Ok None
      → payload_in (heard_in (begun h) cs) ≡ sizes_of (committed flat_walker (begun h) cs)
  payload_in_all_heard e =
      let n = bytes flat_walker (begun h) cs in
      let doing = does_run flat_walker cs (begun h) (rules h src) (meets_does Of rules flat_walker meets h src of) honest in
      let w = whole h src of cs honest (subst (Past src) (sym e) tt) in
      let left = none_left (passed n (rules h src)) (sym (asks flat_walker _ _ doing).request ∙ e) in
      let all = payload_in_all h src (sym w.request ∙ e) in
      omega (arith, paying.heard, within_all n (rules h src), left, all, ap sizes_of w.records)
