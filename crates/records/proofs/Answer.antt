-- What an answer of `prologue` tells of the rules' prologue.
use mathlib.Core.Path.{◌≡◌, refl}
use mathlib.Core.Option.{none, some}
use mathlib.Core.Option as rules
use Rattle.std.specs.Prelude.{Option, Some, None}
use Rattle.rules.specs.Prologue.{Prologue}
use Rattle.records.specs.Answer.{head_of}
use Rattle.records.specs.declared.Opening.{Opening}

pub nothing_is : (p : rules.Option Prologue) {r : Option Opening} → r ≡ head_of p → r ≡ None → p ≡ none
nothing_is none e q = refl
nothing_is (some p) e q = absurd cc

pub opening_is : (p : rules.Option Prologue) {r : Option Opening} {o : Opening} → r ≡ head_of p → r ≡ Some o
    → p ≡ some (record { type = o.type_code; handle = o.handle })
opening_is none e q = absurd cc
opening_is (some p) {o = o} e q =
    let same : o ≡ record { type_code = p.type; handle = p.handle } = cc in
    rw same
