-- An input in the form, by its parts; and what is read of it.
use Rattle.std.proofs.Common.{◌≡◌, ℕ, ◌+◌, ◌≤◌, true, false, Bool, if◌then◌else◌, List, length, take, drop, Some, None, refl, sym, ◌∙◌}
use Rattle.std.specs.Option.{is_some}
use Rattle.std.proofs.lemmas.Bool.{and_parts, both_ways, false_from_ne_true, le-leb, leb-true, eq-eqb, eqb-true}
use Rattle.streaming.specs.declared.Locator.{Locator}
use Rattle.form.specs.Form.{count_at, behind, stands, Found, magic_at, cuts_at, source_at, none_zero, first_cuts, is_form, locators_in, header_in, cuts_in, form_in, form_of}
use Rattle.form.specs.declared.TheConstants.{LOCATORS, MAGIC, CUTS, SOURCE}
use Rattle.form.specs.declared.Section.{Section}
use Rattle.form.specs.declared.Cuts.{Cuts}
use Rattle.form.specs.declared.Form.{Form}

-- each section stands, none of the cuts is 0, and the source ends where the input does
pub record Parts (s : List ℕ) : Type 0 where
  pub few : length s ≤ 60000
  pub locators : stands s 0 9 0 6 ≡ true
  pub magic : stands s (magic_at s) 1 6 6 ≡ true
  pub cuts : stands s (cuts_at s) 2 0 64 ≡ true
  pub some : none_zero s (cuts_at s + 4) (count_at s (cuts_at s)) ≡ true
  pub source : stands s (source_at s) 1 0 60000 ≡ true
  pub ends : behind s (source_at s) 1 ≡ length s

module _ (s : List ℕ) where
  pub form_parts : is_form s ≡ true → Parts s
  unfolding is_form
  form_parts e =
      let p1 = and_parts _ _ e in
      let p2 = and_parts _ _ p1.1 in
      let p3 = and_parts _ _ p2.1 in
      let p4 = and_parts _ _ p3.1 in
      let p5 = and_parts _ _ p4.1 in
      let p6 = and_parts _ _ p5.1 in
      record {
        few = leb-true _ _ p1.0;
        locators = p2.0;
        magic = p3.0;
        cuts = p4.0;
        some = p5.0;
        source = p6.0;
        ends = eqb-true _ _ p6.1;
      }

  parts_form : Parts s → is_form s ≡ true
  unfolding is_form
  parts_form p =
      rw (le-leb (length s) 60000 p.few, p.locators, p.magic, p.cuts, p.some, p.source, eq-eqb (behind s (source_at s) 1) (length s) p.ends)

  -- an input that lacks a part says nothing
  pub says_nothing : (Parts s → ⊥) → None ≡ form_of s
  unfolding form_of
  says_nothing h = rw (false_from_ne_true (is_form s) (λ e. h (form_parts e)))

  pub says : Parts s → (f : Form) → f ≡ form_in s → Some f ≡ form_of s
  unfolding form_of
  says p f e = rw (parts_form p, e)

  -- something is said exactly by an input in the form
  pub is_said : is_some (form_of s) ≡ is_form s
  unfolding form_of
  is_said = split (is_form s)
    where
      split : (b : Bool) → is_some (if b then Some (form_in s) else None) ≡ b
      split true = refl
      split false = refl

-- ---- section by section

module _ (s : List ℕ) (l : Section) (locators : Found s 0 LOCATORS l) where
  pub no_magic : stands s l.end 1 6 6 ≡ false → None ≡ form_of s
  no_magic z = says_nothing s (λ p. both_ways _ (rw locators.end at z) p.magic)

  module _ (m : Section) (magic : Found s l.end MAGIC m) where
    cuts_place : m.end ≡ cuts_at s
    cuts_place = rw locators.end at magic.end

    pub no_cuts : stands s m.end 2 0 64 ≡ false → None ≡ form_of s
    no_cuts z = says_nothing s (λ p. both_ways _ (rw cuts_place at z) p.cuts)

    module _ (k : Section) (cuts : Found s m.end CUTS k) where
      source_place : k.end ≡ source_at s
      source_place = rw cuts_place at cuts.end

      cuts_from : (k.items ≡ cuts_at s + 4) × (k.count ≡ count_at s (cuts_at s))
      cuts_from = (rw cuts_place at cuts.items, rw cuts_place at cuts.count)

      pub a_zero : none_zero s k.items k.count ≡ false → None ≡ form_of s
      a_zero z = says_nothing s (λ p. both_ways _ (rw (cuts_from.0, cuts_from.1) at z) p.some)

      pub no_source : stands s k.end 1 0 60000 ≡ false → None ≡ form_of s
      no_source z = says_nothing s (λ p. both_ways _ (rw source_place at z) p.source)

      module _ (n : Section) (source : Found s k.end SOURCE n) where
        ends_at : n.end ≡ behind s (source_at s) 1
        ends_at = rw source_place at source.end

        pub more_behind : (n.end ≡ length s → ⊥) → None ≡ form_of s
        more_behind h = says_nothing s (λ p. h (ends_at ∙ p.ends))

        -- what is said, of its parts
        pub said : (sizes : Cuts) (bytes : List ℕ) (list : List Locator) → length s ≤ 60000 → none_zero s k.items k.count ≡ true → n.end ≡ length s
            → sizes ≡ first_cuts s k.items k.count → bytes ≡ take 6 (drop m.items s) → list ≡ locators_in s
            → Some (record { header = record { magic = bytes; count = l.count; locators = list; length = n.count }; cuts = sizes; source = n.items }) ≡ form_of s
        unfolding form_in header_in cuts_in
        said sizes bytes list few some whole es eb el =
            says s
            (record {
              few = few;
              locators = locators.stood;
              magic = rw locators.end at magic.stood;
              cuts = rw cuts_place at cuts.stood;
              some = rw (cuts_from.0, cuts_from.1) at some;
              source = rw source_place at source.stood;
              ends = sym ends_at ∙ whole;
            })
            _
            (rw (es, eb, el, cuts_from.0, cuts_from.1, magic.items, locators.end, locators.count, source.count, source.items, source_place))
