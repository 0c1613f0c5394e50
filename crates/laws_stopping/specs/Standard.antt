-- The claim: dlanv2's exchange, added after lahqr_schur22, is met by a block that it has rotated and by no other, so it is lahqr_schur22 with the end of dlanv2. Definitions only: proofs/Standard.antt proves it. Assumes nothing.
use Rattle.std.specs.Prelude.{◌≡◌, ◌&&◌, cond, Float}
use Rattle.std.specs.Float.{Format}
use Rattle.std.specs.Float.Ieee.{neg, add, sub, mul, le, eq, ne}
use Rattle.model.specs.Root.{sqrt}
use Rattle.model.specs.Arith.{zero_of, one_of, half_of, four_of, eps_of, abs, abs2, mul_pow2, fmax}
use Rattle.model.specs.Schur22.{Block, bcmin_of, z_of, shift_of, apart, rescaled, cs_of, sn_of, turned, split_if, is_standard, standard}
use Rattle.model.specs.Stopping.{exchanged_b}

-- ---- lahqr_schur22 with dlanv2's end

-- After the rotation dlanv2 has IF( C.NE.ZERO ) THEN IF( B.NE.ZERO ) THEN .. ELSE B = -C, C = ZERO, TEMP = CS, CS = -SN, SN = TEMP. Where b is not zero it goes on as lahqr_schur22 does
unfoldable pub end_of : Format → Block → Block
end_of f x =
    cond (eq x.b (zero_of f) && ne x.c (zero_of f)) (record { a = x.a; b = neg x.c; c = zero_of f; d = x.d; cs = neg x.sn; sn = x.cs })
    (split_if f x)

-- complex, or real and close: the diagonal is made equal, and then that end
unfoldable pub close_also : Format → Float → Float → Float → Float → Block
close_also f a b c d =
    let s = rescaled f 20 (record { sigma = add f b c; temp = sub f a d }) in
    let tau = sqrt f (add f (abs2 f s.sigma) (abs2 f s.temp)) in
    let cs = cs_of f s.sigma tau in
    end_of f (turned f a b c d cs (sn_of f s.sigma (mul_pow2 f s.temp (half_of f)) tau cs))

-- b and c not zero
unfoldable pub full_also : Format → Float → Float → Float → Float → Block
full_also f a b c d =
    let p = mul f (sub f a d) (half_of f) in
    let bcmax = fmax (abs b) (abs c) in
    let bcmin = bcmin_of f b c in
    let scale = fmax (abs p) bcmax in
    let z = z_of f p scale bcmax bcmin in
    cond (le (mul f (four_of f) (eps_of f)) z) (apart f b c d (shift_of f p scale z) bcmax bcmin) (close_also f a b c d)

unfoldable pub standard_also : Format → Float → Float → Float → Float → Block
standard_also f a b c d =
    cond (eq c (zero_of f)) (record { a = a; b = b; c = c; d = d; cs = one_of f; sn = zero_of f })
    (cond (eq b (zero_of f)) (record { a = d; b = neg c; c = zero_of f; d = a; cs = zero_of f; sn = one_of f })
    (cond (is_standard f a b c d) (record { a = a; b = b; c = c; d = d; cs = one_of f; sn = zero_of f }) (full_also f a b c d)))

-- ---- the claim, of any four numbers

abbrev pub ExchangeIsDlanv2 : Type 0
ExchangeIsDlanv2 = (f : Format) (a b c d : Float) → exchanged_b f (standard f a b c d) ≡ standard_also f a b c d
