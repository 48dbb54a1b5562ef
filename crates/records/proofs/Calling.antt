-- The call of a proved function whose contract says which value it returns, as a rule for the walks by hand.
--     calls        what the function asks stands first; behind the call stand there what the value x owns and the tokens
--     calls_plain  what it asks is had for nothing, as where its arguments are numbers and enums; behind the call nothing more is left
use mathlib.Core.Path.{◌≡◌, refl, sym, ap, subst}
use mathlib.Core.List.{List, [], ◌∷◌}
use seplogic.Ra.Ura.{Ura}
use mir.Syntax.{Callee, Place, Opd as Operand, Body, seq, call}
use mir.Val.{Val}
use base.Logic.{ent, emp, via, snd∗, ex_e, id⊢}
use prog.Wp.{Env, Calls, Loops}
use types.Logic.{Logic, sem}
use sound.WpLaws.{FmC}
use contract.Monad.{fact}
use types.Kit.{Item, ‵, raw, ◌⊛◌, some, later, ◌$◌, Post, Seq, runs, lands, move, drop, use0, use1, split, rewrite, pick, await}
use types.Run.{Opds}
use denote.Laws.{Is, Tells, shows}
use denote.RattleType.{RattleType}
use denote.Signature.{type_at}
use denote.Steps.{only, peeks, heard}
use denote.Triple.Statement.{Contract, Triple}
use denote.Triple.Call.{calls_at}
use denote.Triple.Entry.{alive}
use denote.Triple.Spec.{triple_of}
use denote.Triple.Clauses.{Ended, Clauses, Lasts, at_exit, lasts, ensured, closing}

module _ {M : Type 1} {𝓤 : Ura M} (𝓛 : Logic 𝓤) (T : Ended) (c : Clauses 𝓤 T) where
  abbrev pub contract_of : Contract 𝓤
  contract_of = triple_of 𝓛 T.signature (closing 𝓛 T c)

  module _ (y : contract_of.Ghost) where
    -- the result's type
    abbrev pub Row : RattleType
    Row = type_at T.signature.result y.0.0

    -- the contract says that the result is x
    abbrev pub Says : Row.Denot → Type 1
    Says x = (r : Row.Denot) (ws : Lasts T y.0.0 y.0.3) → ent 𝓤 ((c y.0.0 y.0.3).ensures y.1 r (at_exit T y.0.0 y.0.3 ws)) (fact 𝓤 (r ≡ x))

    abbrev pub Tokens : Item 𝓤
    Tokens = raw (alive 𝓛 T.signature y.0.0 y.0.1)

module _ {M : Type 1} {𝓤 : Ura M} {𝓛 : Logic 𝓤} {K : Type 0} {Γ : List (Item 𝓤)} {E : Env 𝓤 𝓛.H} {C : Calls 𝓤 𝓛.H} {f : Callee} {xs : List Operand} {Λ : Loops 𝓤 𝓛.H} {q : Post 𝓤 𝓛.H} {d : Place} {behind : Body} where
  open 𝓛 use {H}

  pub calls : K → FmC 𝓤 H 𝓛.laws C → (T : Ended) (c : Clauses 𝓤 T) → Triple 𝓤 (C f) (contract_of 𝓛 T c) → (y : (contract_of 𝓛 T c).Ghost)
      → (value : (Row 𝓛 T c y).Denot → Val) → Tells (Row 𝓛 T c y) (Is (Row 𝓛 T c y)) (λ r. value r ∷ []) → (x : (Row 𝓛 T c y).Denot) → Says 𝓛 T c y x
      → Opds K 𝓛 (raw ((contract_of 𝓛 T c).pre y) ∷ Γ) E xs ((contract_of 𝓛 T c).args y)
      → (Is (Row 𝓛 T c y) x (value x ∷ []) → Seq K 𝓛 (‵ ((Row 𝓛 T c y).own_val x (value x ∷ [])) ∷ Tokens 𝓛 T c y ∷ Γ) (lands C Λ E d (value x) behind q))
      → Seq K 𝓛 (raw ((contract_of 𝓛 T c).pre y) ∷ Γ) (runs C Λ E (seq (call f xs d) behind) q)
  calls t fm T c known y value tells x said os k =
      let R : RattleType = Row 𝓛 T c y in
      calls_at t fm (contract_of 𝓛 T c) known y os (λ v.
      use1 𝓛 (later (some (λ (r : R.Denot). (Tokens 𝓛 T c y ⊛ ‵ (R.own_val r (v ∷ []))) ⊛ raw (ensured 𝓛 T c y.0.0 y.0.3 y.1 r)))) (id⊢ 𝓤 _) $ await t tt $ pick t (λ r.
      split t $ move t (1 ∷ []) $ use1 𝓛 (raw (fact 𝓤 (r ≡ x))) (ex_e 𝓤 _ (λ ws. via 𝓤 _ (snd∗ 𝓤 (sem 𝓛 (lasts T y.0.0 y.0.3 ws)) _) (said r ws))) $ heard t (r ≡ x) (λ e. split t $ move t (1 ∷ []) $
      rewrite t 0 (λ (z : R.Denot). ‵ (R.own_val z (v ∷ []))) e refl $ peeks t R (Is R) (shows 𝓛 R) x (v ∷ []) (λ is.
      subst (λ (w : Val). Is R x (w ∷ []) → Seq K 𝓛 (‵ (R.own_val x (w ∷ [])) ∷ Tokens 𝓛 T c y ∷ Γ) (lands C Λ E d w behind q)) (sym (ap only (tells x (v ∷ []) is))) k is))))

  pub calls_plain : K → FmC 𝓤 H 𝓛.laws C → (T : Ended) (c : Clauses 𝓤 T) → Triple 𝓤 (C f) (contract_of 𝓛 T c) → (y : (contract_of 𝓛 T c).Ghost) → ent 𝓤 (emp 𝓤) ((contract_of 𝓛 T c).pre y)
      → (value : (Row 𝓛 T c y).Denot → Val) → Tells (Row 𝓛 T c y) (Is (Row 𝓛 T c y)) (λ r. value r ∷ []) → (x : (Row 𝓛 T c y).Denot) → Says 𝓛 T c y x
      → Opds K 𝓛 (raw ((contract_of 𝓛 T c).pre y) ∷ Γ) E xs ((contract_of 𝓛 T c).args y)
      → (Is (Row 𝓛 T c y) x (value x ∷ []) → Seq K 𝓛 Γ (lands C Λ E d (value x) behind q)) → Seq K 𝓛 Γ (runs C Λ E (seq (call f xs d) behind) q)
  calls_plain t fm T c known y asked value tells x said os k =
      use0 𝓛 (raw ((contract_of 𝓛 T c).pre y)) asked $ calls t fm T c known y value tells x said os (λ is. drop t $ drop t $ k is)
