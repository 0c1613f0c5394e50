-- Two numbers of two limbs, by the order of their limbs. Assumes nothing.
use Rattle.std.proofs.Common.{◌≡◌, ℕ, ◌<◌, Less, Equal, Greater, arith}
use Rattle.std.specs.declared.cmp.Ordering.{Ordering}
use Rattle.std.specs.Ordering.{MatchOrdering, ordering_then, nat_cmp}
use Rattle.std.specs.Cmp.{ranks}
use Rattle.modulus.specs.declared.limbs.Wide.{Wide}
use Rattle.modulus.specs.Modulus.{wide}

abbrev Ranks : ℕ → ℕ → Ordering → Type 0
Ranks x y o = MatchOrdering o (x < y) (x ≡ y) (y < x)

both : (t n : Wide) (a b : Ordering) → Ranks t.high n.high a → Ranks t.low n.low b → Ranks (wide t.high t.low) (wide n.high n.low) (ordering_then a b)
both t n Less b p q = omega (arith, p, t.short)
both t n Greater b p q = omega (arith, p, n.short)
both t n Equal Less p q = omega (arith, p, q)
both t n Equal Equal p q = omega (arith, p, q)
both t n Equal Greater p q = omega (arith, p, q)

pub by_limbs : (t n : Wide) (o : Ordering) → o ≡ ordering_then (nat_cmp t.high n.high) (nat_cmp t.low n.low) → Ranks (wide t.high t.low) (wide n.high n.low) o
by_limbs t n o e =
    rw e (both t n (nat_cmp t.high n.high) (nat_cmp t.low n.low) (ranks t.high n.high) (ranks t.low n.low))
