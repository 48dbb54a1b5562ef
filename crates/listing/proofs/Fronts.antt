-- The front of a local array is lent as a `&mut [T]` for a call, and comes home: for any T of one machine value, as a declared struct. Nothing of the crate is in it.
--     lends-front   the array's cell at the local l, and what xs ++ ys owns  ⊢ ⇛ ∃ γ. what the `&κ mut [T]` on xs owns, the lender's part, and ys in memory behind xs
--     front-home    [†κ], the lender's part, the slice's last elements zs, and ys  ⊢ ⇛ ∃ u. the array's cell at l, with the value u, and what the array zs ++ ys owns at u
use mathlib.Core.Path.{◌≡◌, refl, sym, ◌∙◌, ap, subst}
use Prim.Native.Nat.{ℕ, ◌+◌}
use mathlib.Core.List.{List, [], ◌∷◌, ◌++◌}
use lib.ListN.{length, length-append}
use seplogic.Ra.Ura.{Ura}
use base.Fraction.{full_share}
use mir.Syntax.{Lifetime, ty_array}
use mir.Val.{Val}
use base.Logic.{ent, sep, ex}
use base.Fml.{Lft, GName, Fml, fsep, fat, fdead, flent}
use types.Logic.{Logic, sem}
use types.Kit.{‵, ◌⊛◌, some, later, ◌$◌, ◌∵◌, !, qed, move, drop, use1, use2, use3, split, pick, rewrite, fsplit, fjoin, fpick, fpack, feq_l, feq_i, frame, await, updating, now as at_once, show, done}
use types.SemTy.{cells, Arr}
use types.Share.{arr_parts}
use denote.RattleType.{RattleType}
use denote.Memory.{cell_at, lone, mem, shares, part_at, part_of}
use denote.Array.{Array, array_val, shape, each}
use denote.ArrayMemory.{Single, Array-apart, Array-whole}
use denote.Slice.{slice_val, MutSlice, Room, finally}
use denote.Lend.{Held, lends_slice, slice_back}
use denote.Index.{row, whole_in, whole_out}
use borrow.Table.Elements.{at, cut_app, join_app}

module _ {M : Type 1} {𝓤 : Ura M} (𝓛 : Logic 𝓤) (R : RattleType) (n l : ℕ) (κ : Lft) (k : ℕ) (ys : List R.Denot) where
  -- the elements behind the first k
  open 𝓛 use {H, A}

  abbrev pub Behind : Fml
  Behind = cells (mem R) ys l (at 0 (mem R).size k)

  abbrev Given_out : Lifetime → List R.Denot → GName → Fml
  Given_out ℓ xs γ = (MutSlice ℓ κ R).own_val (record { ref_ptr = (l, 0); ghost_name = γ; now = xs }) (slice_val (l, 0) k ∷ [])

  pub lends_front : Single R.mir → (ℓ : Lifetime) (xs : List R.Denot) (u : Val) → length xs ≡ k → Room R k
      → ent 𝓤 (sep 𝓤 (sem 𝓛 (fat full_share (ty_array (lone R.mir) n) l 0 u)) (sem 𝓛 ((Array R n).own_val (xs ++ ys) (u ∷ []))))
      (H.⇛ (ex 𝓤 (λ (γ : GName). sep 𝓤 (sep 𝓤 (sem 𝓛 (Given_out ℓ xs γ)) (sem 𝓛 (flent κ (Held R k l 0 γ)))) (sem 𝓛 Behind))))
  unfolding part_of
  lends_front s ℓ xs u e room =
      qed 𝓛 (‵ (fat full_share (ty_array (lone R.mir) n) l 0 u) ∷ ‵ ((Array R n).own_val (xs ++ ys) (u ∷ [])) ∷ []) ∵ updating ! $
      use1 𝓛 (‵ (cell_at full_share (ty_array (lone R.mir) n ∷ []) (u ∷ []) l 0)) (𝓛.laws.at_raw full_share (ty_array (lone R.mir) n) l 0 u) $ fjoin ! $
      fpack ! (List Val) (λ vs. fsep (cell_at full_share (ty_array (lone R.mir) n ∷ []) vs l 0) ((Array R n).own_val (xs ++ ys) vs)) (u ∷ []) $
      use1 𝓛 (‵ ((arr_parts (shares R) n).part full_share (xs ++ ys) l 0)) (Array-apart 𝓛 R full_share s n (xs ++ ys) l 0) $ fsplit ! $ drop ! $
      use1 𝓛 (‵ (cells (mem R) (xs ++ ys) l 0)) (whole_in 𝓛 R (xs ++ ys) l 0) $
      use1 𝓛 (‵ (cells (mem R) xs l 0) ⊛ ‵ (cells (mem R) ys l (at 0 (mem R).size (length xs)))) (cut_app 𝓛 (mem R) xs ys l 0) $ split ! $
      use1 𝓛 (later (some (λ (γ : GName). ‵ ((MutSlice ℓ κ R).own_val (record { ref_ptr = (l, 0); ghost_name = γ; now = xs }) (slice_val (l, 0) (length xs) ∷ [])) ⊛ ‵ (flent κ (Held R (length xs) l 0 γ))))) (lends_slice 𝓛 R ℓ κ xs l 0 (subst (Room R) (sym e) room)) $
      await ! tt $ pick ! (λ γ. split ! $ at_once ! $ show ! (λ (γ' : GName). sep 𝓤 (sep 𝓤 (sem 𝓛 (Given_out ℓ xs γ')) (sem 𝓛 (flent κ (Held R k l 0 γ')))) (sem 𝓛 Behind)) γ $
      rewrite ! 0 (λ (m : ℕ). ‵ ((MutSlice ℓ κ R).own_val (record { ref_ptr = (l, 0); ghost_name = γ; now = xs }) (slice_val (l, 0) m ∷ []))) e refl $ rewrite ! 1 (λ (m : ℕ). ‵ (flent κ (Held R m l 0 γ))) e refl $
      rewrite ! 2 (λ (m : ℕ). ‵ (cells (mem R) ys l (at 0 (mem R).size m))) e refl $ fjoin ! $ done !)

  pub front_home : k + length ys ≡ n → (γ : GName) (zs : List R.Denot)
      → ent 𝓤 (sep 𝓤 (A.dead κ) (sep 𝓤 (A.lent κ (Held R k l 0 γ)) (sep 𝓤 (sem 𝓛 (finally R γ zs)) (sem 𝓛 Behind))))
      (H.⇛ (ex 𝓤 (λ (u : Val). sep 𝓤 (sem 𝓛 (fat full_share (ty_array (lone R.mir) n) l 0 u)) (sem 𝓛 ((Array R n).own_val (zs ++ ys) (u ∷ []))))))
  unfolding part_of
  front_home len γ zs =
      qed 𝓛 (‵ (fdead κ) ∷ ‵ (flent κ (Held R k l 0 γ)) ∷ ‵ (finally R γ zs) ∷ ‵ Behind ∷ []) ∵ updating ! $
      use3 𝓛 (later (‵ ((Arr (mem R) k).own_at zs l 0))) (slice_back 𝓛 R κ γ zs k l 0) $ await ! tt $ fsplit ! $ feq_l ! (λ e.
      rewrite ! 1 (λ (m : ℕ). ‵ (cells (mem R) ys l (at 0 (mem R).size m))) (sym e) refl $
      use2 𝓛 (‵ (cells (mem R) (zs ++ ys) l 0)) (join_app 𝓛 (mem R) zs ys l 0) $ use1 𝓛 (‵ (row R full_share (zs ++ ys) l 0)) (whole_out 𝓛 R (zs ++ ys) l 0) $
      feq_i ! ℕ (length (zs ++ ys)) n (length-append zs ys ∙ ap (λ (m : ℕ). m + length ys) e ∙ len) $ fjoin ! $
      use1 𝓛 (‵ (part_at (Array R n) full_share (zs ++ ys) l 0)) (Array-whole 𝓛 R full_share n (zs ++ ys) l 0) $
      fpick ! (λ vs. fsplit ! $ move ! (1 ∷ []) $ fpick ! (λ us. fsplit ! $ fsplit ! $ feq_l ! (λ same. feq_l ! (λ long.
      -- [what each element owns; the array's cell at vs]
      move ! (1 ∷ []) $ rewrite ! 0 (λ (ws : List Val). ‵ (cell_at full_share (ty_array (lone R.mir) n ∷ []) ws l 0)) same refl $
      use1 𝓛 (‵ (fat full_share (ty_array (lone R.mir) n) l 0 (array_val us))) (𝓛.laws.raw_at full_share (ty_array (lone R.mir) n) l 0 (array_val us)) $
      at_once ! $ show ! (λ (u : Val). sep 𝓤 (sem 𝓛 (fat full_share (ty_array (lone R.mir) n) l 0 u)) (sem 𝓛 ((Array R n).own_val (zs ++ ys) (u ∷ [])))) (array_val us) $ frame ! $
      feq_i ! ℕ (length (zs ++ ys)) n long $ feq_i ! (List Val) (array_val us ∷ []) (array_val us ∷ []) refl $ fjoin ! $ fjoin ! $
      fpack ! (List Val) (λ ws. fsep (shape n (zs ++ ys) (array_val us ∷ []) ws) (each R.Denot R.own_val (zs ++ ys) ws)) us $ done !)))))
