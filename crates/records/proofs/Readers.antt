-- What the walks by hand share of the reader's type: its machine value, that it is typed, and that what it owns can be had twice.
use mathlib.Core.List.{[], ◌∷◌}
use lib.Dec.{T as Holds}
use seplogic.Ra.Ura.{Ura}
use mir.Syntax.{named, erased}
use mir.Val.{Val, WT, has_ty}
use base.Logic.{ent, sep}
use base.Fml.{Lft, Fml}
use types.Logic.{Logic, sem}
use contract.Lifetimes.{Lfts}
use denote.RattleType.{RattleType}
use denote.Laws.{Is, Tells}
use denote.Ref.{NamedLft}
use denote.Signature.{named_lft}
use denote.Struct.Declared.{Declared}
use denote.Struct.Laws as LL
use Rattle.records.specs.declared.BitReader.{BitReader}
use Rattle.records.specs.contracts.BitReader as R
use Rattle.records.proofs.BitReader.TheLaws as R'

-- the type, over a signature's one lifetime, and its laws
abbrev pub D : Lfts 1 → Declared
D κs = R.the_type (named_lft 1 0 tt κs)

abbrev pub L : (κs : Lfts 1) → LL.Laws (D κs)
L κs = R'.the_laws (named_lft 1 0 tt κs)

abbrev pub Reader : Lfts 1 → RattleType
Reader κs = R.the_row (named_lft 1 0 tt κs)

abbrev pub reader_val : BitReader → Val
reader_val = R'.lowered

abbrev pub IsReader : Lft → BitReader → Type 0
IsReader κ r = Is (Reader (κ, tt)) r (reader_val r ∷ [])

abbrev pub Own : Lft → BitReader → Fml
Own κ r = (Reader (κ, tt)).own_val r (reader_val r ∷ [])

pub reader_tells : (κs : Lfts 1) → Tells (Reader κs) (Is (Reader κs)) (λ r. reader_val r ∷ [])
reader_tells κs = LL.tells (D κs) (L κs)

module _ {M : Type 1} {𝓤 : Ura M} (𝓛 : Logic 𝓤) (κ : Lft) (r : BitReader) where
  pub twice : ent 𝓤 (sem 𝓛 (Own κ r)) (sep 𝓤 (sem 𝓛 (Own κ r)) (sem 𝓛 (Own κ r)))
  twice = (LL.copy (D (κ, tt)) (R'.the_copy (named_lft 1 0 tt (κ, tt))) 𝓛).twice r (reader_val r ∷ [])

  pub reader_typed : IsReader κ r → Holds (has_ty (R'.mir (named 0)) (reader_val r)) × WT (reader_val r)
  reader_typed is = ((LL.lawful (D (κ, tt)) (L (κ, tt)) 𝓛).typed r _ is).0

  -- in a local of a body the lifetime is erased
  abbrev local : NamedLft
  local = record { mir = erased; lft = κ }

  pub local_typed : IsReader κ r → Holds (has_ty (R'.mir erased) (reader_val r)) × WT (reader_val r)
  local_typed is = ((LL.lawful (R.the_type local) (R'.the_laws local) 𝓛).typed r _ is).0
