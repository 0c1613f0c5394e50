-- The claim: dlanv2's exchange meets a rotated block only. In every other case c is zero, or b is not. Assumes nothing.
use mathlib.Core.Path.{◌≡◌, refl}
use mathlib.Core.Bool.{Bool, true, false, not, ◌&&◌, cond}
use lib.Ieee.{Float, Format, binary32, binary64, neg, sub, mul, le, eq, ne, of_bits}
use Rattle.model.specs.Arith.{zero_of, half_of, four_of, eps_of, abs, fmax}
use Rattle.model.specs.Schur22.{Block, unlike_signs, bcmin_of, z_of, shift_of, apart, splits, split, split_if, close, full, is_standard, standard}
use Rattle.model.specs.Stopping.{exchanged_b}
use Rattle.laws_stopping.specs.Standard.{end_of, close_also, full_also, standard_also, ExchangeIsDlanv2}

zero-is_zero : (f : Format) → ne (zero_of f) (zero_of f) ≡ false
unfolding ne eq of_bits
zero-is_zero binary32 = refl
zero-is_zero binary64 = refl

never : (b : Bool) → (b && false) ≡ false
never true = refl
never false = refl

-- both sides take the same branch
both : (f : Format) (b : Bool) (x y z w : Block) → (b ≡ true → exchanged_b f x ≡ z) → (b ≡ false → exchanged_b f y ≡ w) → exchanged_b f (cond b x y) ≡ cond b z w
both f true x y z w h k = h refl
both f false x y z w h k = k refl

module _ (f : Format) where
  -- where c is zero, or b is not, nothing is exchanged
  none-c : (x : Block) → ne x.c (zero_of f) ≡ false → exchanged_b f x ≡ x
  unfolding exchanged_b
  none-c x e = rw (e, never (eq x.b (zero_of f)))

  none-b : (x : Block) → eq x.b (zero_of f) ≡ false → exchanged_b f x ≡ x
  unfolding exchanged_b
  none-b x e = rw e

  -- a rotated block: one that splits has c zero then
  end_is : (x : Block) → exchanged_b f (split_if f x) ≡ end_of f x
  unfolding exchanged_b end_of split_if splits split ne
  end_is x = go (eq x.b (zero_of f)) (eq x.c (zero_of f)) (unlike_signs f x.b x.c) refl refl
    where
      go : (p q s : Bool) → eq x.b (zero_of f) ≡ p → eq x.c (zero_of f) ≡ q
          → exchanged_b f (cond (not q && (not p && not s)) (split f x) x)
          ≡ cond (p && not q) (record { a = x.a; b = neg x.c; c = zero_of f; d = x.d; cs = neg x.sn; sn = x.cs }) (cond (not q && (not p && not s)) (split f x) x)
      go p true s e h = rw (h, never p, never (eq x.b (zero_of f)))
      go true false s e h = rw (e, h)
      go false false true e h = none-b x e
      go false false false e h = none-c (split f x) (zero-is_zero f)

  module _ (a b c d : Float) where
    close-is : exchanged_b f (close f a b c d) ≡ close_also f a b c d
    unfolding close close_also
    close-is = end_is _

    apart-is : (z bcmax bcmin : Float) → exchanged_b f (apart f b c d z bcmax bcmin) ≡ apart f b c d z bcmax bcmin
    unfolding apart
    apart-is z bcmax bcmin = none-c (apart f b c d z bcmax bcmin) (zero-is_zero f)

    full_is : exchanged_b f (full f a b c d) ≡ full_also f a b c d
    unfolding full full_also
    full_is =
        let p = mul f (sub f a d) (half_of f) in
        let bcmax = fmax (abs b) (abs c) in
        let scale = fmax (abs p) bcmax in
        let z = z_of f p scale bcmax (bcmin_of f b c) in
        both f (le (mul f (four_of f) (eps_of f)) z) _ _ _ _ (λ _. apart-is (shift_of f p scale z) bcmax (bcmin_of f b c)) (λ _. close-is)

    standard-is : exchanged_b f (standard f a b c d) ≡ standard_also f a b c d
    unfolding standard standard_also ne
    standard-is =
        both f (eq c (zero_of f)) _ _ _ _ (λ e. none-c _ (rw e))
        (λ _. both f (eq b (zero_of f)) _ _ _ _ (λ _. none-c _ (zero-is_zero f)) (λ e. both f (is_standard f a b c d) _ _ _ _ (λ _. none-b _ e) (λ _. full_is)))

pub exchange_is_dlanv2 : ExchangeIsDlanv2
exchange_is_dlanv2 f a b c d = standard-is f a b c d
