-- The claims on one 2-block. Assumes nothing.
use mathlib.Core.Path.{◌≡◌, refl, sym, ◌∙◌}
use mathlib.Core.Bool.{Bool, true, false, not, ◌&&◌, cond, true≢false}
use mathlib.Core.Logic.{◌⊎◌, inl, inr}
use lib.Ieee.{Float, Format, neg, sub, mul, eq, le, ne}
use borrow.Author.Tests.{not-true, not-false}
use Rattle.model.specs.Root.{sqrt}
use Rattle.model.specs.Arith.{zero_of, one_of, half_of, four_of, eps_of, abs, fmax}
use Rattle.model.specs.Schur22.{real, complex, Block, unlike_signs, bcmin_of, z_of, shift_of, apart, turned, splits, split, split_if, close, full, is_standard, standard, eigenvalues_of, lahqr_schur22}
use Rattle.model.specs.Values.{imag_size, as_it_stands, standardised_first}
use Rattle.laws_exchange.proofs.Parts.{both_true}
use Rattle.laws_values.specs.Blocks.{Standard, AsItCame, Levelled, ReadingsOfBlocks}
use Rattle.laws_values.proofs.Numbers.{mul_sym, zero-is_zero, equal_bits}

-- ---- tests

is_not : (x y : Float) → ne x y ≡ true → eq x y ≡ false
unfolding ne
is_not x y h = not-true (eq x y) h

is : (x y : Float) → ne x y ≡ false → eq x y ≡ true
unfolding ne
is x y h = not-false (eq x y) h

differs : (x y : Float) → eq x y ≡ false → ne x y ≡ true
unfolding ne
differs x y h = rw h

-- ---- the pair of a block with c not zero

same_size : (f : Format) (b c : Float) → imag_size f b c ≡ imag_size f c b
unfolding imag_size
same_size f b c = mul_sym f (sqrt f (abs b)) (sqrt f (abs c))

pair_left : (f : Format) (x : Block) → ne x.c (zero_of f) ≡ true → eigenvalues_of f x ≡ complex x.a x.d (imag_size f x.c x.b)
unfolding eigenvalues_of imag_size
pair_left f x h = rw (h, mul_sym f (sqrt f (abs x.b)) (sqrt f (abs x.c)))

module _ (f : Format) (a b c d : Float) where
  of-standard : Standard f a b c d → standardised_first f a b c d ≡ complex a d (imag_size f c b)
  unfolding standardised_first lahqr_schur22 standard is_standard
  of-standard h = rw (is_not c (zero_of f) h.lower, is_not b (zero_of f) h.upper, h.level, h.apart) (pair_left f _ h.lower)

  same-pair : Standard f a b c d → a ≡ d → standardised_first f a b c d ≡ as_it_stands f a b c d
  unfolding as_it_stands
  same-pair h e = of-standard h ∙ rw (sym e)

  exchanged : ne c (zero_of f) ≡ true → eq b (zero_of f) ≡ true → standardised_first f a b c d ≡ real d a
  unfolding standardised_first lahqr_schur22 standard eigenvalues_of
  exchanged h e = rw (is_not c (zero_of f) h, e, zero-is_zero f)

-- ---- what standardising leaves

-- one sign or a zero: of two that do not split, where c is not zero
unlike_beside : (f : Format) (b c : Float) → ne c (zero_of f) ≡ true → splits f b c ≡ false → (eq b (zero_of f) ≡ true) ⊎ (unlike_signs f b c ≡ true)
unfolding splits
unlike_beside f b c h s = go (ne b (zero_of f)) refl (unlike_signs f b c) refl (rw h at s)
  where
    go : (p : Bool) → ne b (zero_of f) ≡ p → (q : Bool) → unlike_signs f b c ≡ q → (p && not q) ≡ false → (eq b (zero_of f) ≡ true) ⊎ (unlike_signs f b c ≡ true)
    go false e q g i = inl (is b (zero_of f) e)
    go true e true g i = inr g
    go true e false g i = absurd (true≢false i)

split-left : (f : Format) (x : Block) → x.a ≡ x.d → ne (split_if f x).c (zero_of f) ≡ true → Levelled f (split_if f x)
unfolding split_if split
split-left f x e h = go (splits f x.b x.c) refl h
  where
    go : (p : Bool) → splits f x.b x.c ≡ p → ne (cond p (split f x) x).c (zero_of f) ≡ true → Levelled f (cond p (split f x) x)
    go true s h = absurd (true≢false (sym h ∙ zero-is_zero f))
    go false s h = record { mean = e; beside = unlike_beside f x.b x.c h s }

-- of two blocks of which the first has c zero
second-left : (f : Format) (p : Bool) (x y : Block) → ne x.c (zero_of f) ≡ false → (ne y.c (zero_of f) ≡ true → Levelled f y) → ne (cond p x y).c (zero_of f) ≡ true → Levelled f (cond p x y)
second-left f true x y e g h = absurd (true≢false (sym h ∙ e))
second-left f false x y e g h = g h

module _ (f : Format) (a b c d : Float) where
  close-left : ne (close f a b c d).c (zero_of f) ≡ true → Levelled f (close f a b c d)
  unfolding close turned
  close-left h = split-left f _ refl h

  full-left : ne (full f a b c d).c (zero_of f) ≡ true → Levelled f (full f a b c d)
  unfolding full apart
  full-left h =
      let p = mul f (sub f a d) (half_of f) in
      let bcmax = fmax (abs b) (abs c) in
      let bcmin = bcmin_of f b c in
      let scale = fmax (abs p) bcmax in
      let z = z_of f p scale bcmax bcmin in
      second-left f (le (mul f (four_of f) (eps_of f)) z) (apart f b c d (shift_of f p scale z) bcmax bcmin) (close f a b c d) (zero-is_zero f) close-left h

  left : ne (standard f a b c d).c (zero_of f) ≡ true → AsItCame f a b c d (standard f a b c d) ⊎ Levelled f (standard f a b c d)
  unfolding standard is_standard
  left h = go (eq c (zero_of f)) refl (eq b (zero_of f)) refl (eq a d && unlike_signs f b c) refl h
    where
      kept : Block
      kept = record { a = a; b = b; c = c; d = d; cs = one_of f; sn = zero_of f }

      go : (p : Bool) → eq c (zero_of f) ≡ p → (q : Bool) → eq b (zero_of f) ≡ q → (r : Bool) → (eq a d && unlike_signs f b c) ≡ r
          → let x = cond p kept (cond q (record { a = d; b = neg c; c = zero_of f; d = a; cs = zero_of f; sn = one_of f }) (cond r kept (full f a b c d))) in
          ne x.c (zero_of f) ≡ true → AsItCame f a b c d x ⊎ Levelled f x
      go true e q g r i h = absurd (true≢false (sym e ∙ is_not c (zero_of f) h))
      go false e true g r i h = absurd (true≢false (sym h ∙ zero-is_zero f))
      go false e false g true i h =
          let k = both_true (eq a d) (unlike_signs f b c) i in
          inl (record { is_standard = record { level = k.0; apart = k.1; upper = differs b (zero_of f) g; lower = h }; kept = (refl, refl, refl, refl) })
      go false e false g false i h = inr (full-left h)

  -- the block that is left, as a block again
  module _ (h : ne (standard f a b c d).c (zero_of f) ≡ true) (g : ne (standard f a b c d).b (zero_of f) ≡ true) (l : eq (standard f a b c d).a (standard f a b c d).d ≡ true) where
    beside : AsItCame f a b c d (standard f a b c d) ⊎ Levelled f (standard f a b c d) → unlike_signs f (standard f a b c d).b (standard f a b c d).c ≡ true
    beside (inl k) = rw (k.kept.1, k.kept.2) k.is_standard.apart
    beside (inr k) = go k.beside
      where
        go : (eq (standard f a b c d).b (zero_of f) ≡ true) ⊎ (unlike_signs f (standard f a b c d).b (standard f a b c d).c ≡ true) → unlike_signs f (standard f a b c d).b (standard f a b c d).c ≡ true
        go (inl e) = absurd (true≢false (sym e ∙ is_not _ (zero_of f) g))
        go (inr u) = u

    again : standardised_first f (standard f a b c d).a (standard f a b c d).b (standard f a b c d).c (standard f a b c d).d ≡ (lahqr_schur22 f a b c d).eigenvalues
    unfolding lahqr_schur22
    again = of-standard f _ _ _ _ (record { level = l; apart = beside (left h); upper = g; lower = h }) ∙ sym (pair_left f (standard f a b c d) h)

pub readings_of_blocks : ReadingsOfBlocks
readings_of_blocks =
    record {
      size = same_size;
      of_standard = of-standard;
      same = same-pair;
      equal = equal_bits;
      exchanged = exchanged;
      left = left;
      again = again;
    }
