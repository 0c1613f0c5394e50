-- `digits::whole::Radicand::whole_root` meets its contract. With s the root of d, and (d - s * s) * 2 ^ 27 parted into q times 2 * s and u, d * 2 ^ 54 is the square of r = s * 2 ^ 27 + q, less q * q, and
-- u * 2 ^ 27 more. So r is the root's whole part, or one too high. Assumes nothing.
use mathlib.Core.Path.{◌≡◌}
use Prim.Native.Nat.{ℕ, suc, ◌+◌, ◌-◌, ◌*◌, ◌/◌, ◌%◌, ◌^◌, ◌≤◌, ◌<◌}
use native.Mathlib.Nat.{mul-le-mul, div-le_of_le-mul, div-add-mod', mod-lt}
use native.Mathlib.Omega.{arith}
use Rattle.model.specs.Root.{root}
use Rattle.digits.specs.declared.whole.Radicand.{Radicand}
use Rattle.laws.specs.RootNearest.{IsRoot}
use Rattle.laws.proofs.WholeRoot.{root_is, root_unique, le_root, root_lt}
use Rattle.digits.proofs.Short.{above_zero}
use Rattle.digits.proofs.whole.Radicand.whole_root.Goals as goal

-- what the division gives, and the bounds that keep each step within 64 bits
record Parted (d s q u : ℕ) : Type 0 where
  least : 2 ^ 26 ≤ s
  most : s < 2 ^ 27
  little : q ≤ 2 ^ 27
  less : u < s * 2
  parts : q * (s * 2) + u ≡ (d - s * s) * 2 ^ 27
  low : s * s ≤ d
  left : d - s * s ≤ 2 * s
  high : d < 2 ^ 54

parted : (d s : ℕ) → 2 ^ 52 ≤ d → d < 2 ^ 54 → IsRoot d s → Parted d s ((d - s * s) * 2 ^ 27 / (s * 2)) ((d - s * s) * 2 ^ 27 % (s * 2))
parted d s lo hi h =
    let a = le_root d s h (2 ^ 26) lo in
    record {
      least = a;
      most = root_lt d s h (2 ^ 27) hi;
      little = div-le_of_le-mul (s * 2) (omega arith);
      less = mod-lt ((d - s * s) * 2 ^ 27) (omega arith);
      parts = div-add-mod' ((d - s * s) * 2 ^ 27) (s * 2);
      low = h.0;
      left = omega (arith, h.1);
      high = hi;
    }

module _ (d s q u : ℕ) (p : Parted d s q u) where
  kept : q * q ≤ u * 2 ^ 27 → s * 2 ^ 27 + q ≡ root (d * 2 ^ 54)
  kept t = root_unique (d * 2 ^ 54) (s * 2 ^ 27 + q) (omega arith, omega arith)

  lowered : (r : ℕ) → u * 2 ^ 27 < q * q → suc r ≡ s * 2 ^ 27 + q → r ≡ root (d * 2 ^ 54)
  lowered r t e =
      let x : q * q ≤ 2 ^ 27 * 2 ^ 27 = mul-le-mul p.little p.little in
      let z = above_zero (u * 2 ^ 27) q t in
      let y : suc r * suc r ≡ (s * 2 ^ 27 + q) * (s * 2 ^ 27 + q) = rw e in
      root_unique (d * 2 ^ 54) r (omega arith, omega arith)

-- what the root of d is parted into
parts : (d : Radicand) {s : ℕ} → s ≡ root d.digits → Parted d.digits s ((d.digits - s * s) * 2 ^ 27 / (s * 2)) ((d.digits - s * s) * 2 ^ 27 % (s * 2))
parts d {s} e = parted d.digits s d.least d.most (rw e (root_is d.digits))

pub returns-then-q-u : goal.returns-then-q-u
returns-then-q-u c = kept _ _ _ _ (parts c.args.self c.small_root-s.ensures.is) c.if-q-u.true

pub returns-else-q-u : goal.returns-else-q-u
returns-else-q-u c = let p = parts c.args.self c.small_root-s.ensures.is in lowered _ _ _ _ p _ c.if-q-u.false (omega arith)
