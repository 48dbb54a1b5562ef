-- The test of fitness never fails in a run: the walk by calls does as the walker over the machine without the test, and so meets what that one meets.
use Rattle.std.specs.Prelude.{Ok, Err, Some, None}
use mathlib.Core.Bool.{Bool, true, false, ◌&&◌}
use mathlib.Core.Path.{◌≡◌, refl, ap, subst, ◌∙◌}
use lib.ListN.{length}
use lib.Dec.{ltb, leb, eqb}
use Rattle.streaming.specs.Choose.{when◌then◌else◌}
use Rattle.streaming.specs.declared.FlatHeader.{FlatHeader}
use Rattle.streaming.specs.Answers.{Asked, Answer, Failure}
use Rattle.streaming.specs.declared.FlatWalker.{FlatWalker}
use Rattle.account.specs.Statement.{Call, takes, refusal, ended_by, Walker, Meets}
use Rattle.account.proofs.Walking.{fed, walker_of}
use Rattle.account.proofs.Carried.{SameWhere, meets_over}
use Rattle.rules.specs.Source.{Of}
use Rattle.rules.specs.Rules.{rules}
use Rattle.flat.specs.Fit.{is_sound}
use Rattle.flat.specs.Flat.{begun_of, request_in, request_of, end_of, offered, feed_of}
use Rattle.flat.proofs.Keeping.{Keeps}
use Rattle.flat.proofs.KeepingCalls.{keeps_feed, keeps_start}
use Rattle.stands.proofs.Bare.{bare_in, bare_request, bare_feed, outcome, bare}

-- ---- the two walkers

-- the header variables are entered
abbrev pub begun : FlatHeader → FlatWalker
begun = begun_of

abbrev pub flat_feed : FlatWalker → Call → Answer × FlatWalker
flat_feed s c = outcome (feed_of s c.offset c.piece)

-- the walk by calls, as a walker
abbrev pub flat_walker : Walker FlatHeader
flat_walker = record { State = FlatWalker; start = begun; request = request_of; feed = flat_feed; end_of_input = end_of }

-- ---- they do alike in a state that is fit or holds a failure

pub same-request : (s : FlatWalker) → Keeps s → request_of s ≡ bare_request s
unfolding request_of bare_request when◌then◌else◌
same-request s kept = by_failure s.failure refl
  where
    by_failure : (f : Failure) → s.failure ≡ f → request_in f s ≡ bare_in f s
    by_failure None e = rw (kept (ap is_sound e))
    by_failure (Some f) e = refl

-- by what is asked for
offered_taken : (q : Asked) (s : FlatWalker) (c : Call)
    → outcome (offered q s c.offset c.piece) ≡ when takes q c then bare_feed s c.piece else (Err (refusal q c), s)
unfolding bare_feed when◌then◌else◌
offered_taken (Ok None) s c = refl
offered_taken (Err e) s c = refl
offered_taken (Ok (Some r)) s c = split (eqb c.offset r.offset) refl (ltb 0 (length c.piece) && leb (length c.piece) r.len) refl
  where
    split : (a : Bool) → eqb c.offset r.offset ≡ a → (b : Bool) → (ltb 0 (length c.piece) && leb (length c.piece) r.len) ≡ b
        → outcome (offered (Ok (Some r)) s c.offset c.piece)
        ≡ when takes (Ok (Some r)) c then bare_feed s c.piece else (Err (refusal (Ok (Some r)) c), s)
    split true e true k = rw (e, k)
    split true e false k = rw (e, k)
    split false e b k = rw e

pub same-feed : (s : FlatWalker) (c : Call) → Keeps s → flat_feed s c ≡ fed bare begun s c
unfolding feed_of
same-feed s c kept = ap (λ (q : Asked). outcome (offered q s c.offset c.piece)) (same-request s kept) ∙ offered_taken (bare_request s) s c

pub same_where : SameWhere (walker_of bare begun) request_of flat_feed end_of Keeps
unfolding end_of
same_where =
    record {
      keeps = λ s c kept. subst (λ (o : Answer × FlatWalker). Keeps o.1) (same-feed s c kept) (keeps_feed s c.offset c.piece kept);
      requests = same-request;
      feeds = same-feed;
      ends = λ s kept. ap ended_by (same-request s kept);
    }

-- ---- what the one meets, the other meets

pub meets_flat : Meets Of rules (walker_of bare begun) → Meets Of rules flat_walker
meets_flat meets = meets_over (walker_of bare begun) request_of flat_feed end_of same_where Of rules (λ h src of. keeps_start h of.starts) meets
