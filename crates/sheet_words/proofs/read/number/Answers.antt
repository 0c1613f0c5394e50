-- `sheet_words::read::number` meets its contract. Assumes nothing.
use Rattle.std.proofs.Common.{rules, ◌≡◌, ℕ, List, get_or, zero, suc, Bool, true, false, ltb, refl, ltb-false, lt-ltb, ◌+◌, ◌-◌, ◌*◌, ◌^◌, ◌≤◌, ◌<◌, ◌∙◌, arith, add-one, lt_of_lt_of_le}
use Rattle.std.proofs.lemmas.Bool.{le-ltb}
use native.Mathlib.Nat.{pow-le-pow_right}
use Rattle.model.specs.Text.{number_at}
use Rattle.sheet_words.proofs.read.number.Goals as goal

-- one digit more is ten times more
grow : (i v d : ℕ) → v < 10 ^ i → d ≤ 9 → v * 10 + d < 10 ^ (i + 1)
grow i v d h g = rw (add-one i) (omega arith)

small : (i v : ℕ) → i ≤ 4 → v < 10 ^ i → v < 10000
small i v h g = lt_of_lt_of_le g (pow-le-pow_right {n = 10} (omega arith) {i = i} {j = 4} h)

-- where no digit stands, or none may follow, the number ends
stop : (s : List ℕ) (v p k : ℕ) → (0 < k → 48 ≤ get_or s p 0 → 57 < get_or s p 0) → record { value = v; next = p } ≡ number_at s k v p
unfolding number_at
stop s v p zero h = refl
stop s v p (suc k) h = by (ltb (get_or s p 0) 48) refl
  where
    by : (b : Bool) → ltb (get_or s p 0) 48 ≡ b → record { value = v; next = p } ≡ number_at s (suc k) v p
    by true e = rw e
    by false e = rw (e, lt-ltb 57 (get_or s p 0) (h (omega arith) (ltb-false (get_or s p 0) 48 e)))

-- where one stands, it goes on
on : (s : List ℕ) (v p k : ℕ) → 0 < k → 48 ≤ get_or s p 0 → get_or s p 0 ≤ 57 → number_at s (k - 1) (v * 10 + (get_or s p 0 - 48)) (p + 1) ≡ number_at s k v p
unfolding number_at
on s v p zero l h g = absurd (omega arith)
on s v p (suc k) l h g =
    let e : suc k - 1 ≡ k = omega arith in
    rw (e, le-ltb (get_or s p 0) 48 h, le-ltb 57 (get_or s p 0) g)

pub returns-then-not-is_ascii_digit : goal.returns-then-not-is_ascii_digit
returns-then-not-is_ascii_digit c =
    let b = rw c.copied.ensures at c.unwrap_or-b.ensures ∙ c.get.ensures.lookup.4 (omega arith) 0 in
    (stop _ _ _ _ (λ l h. omega (arith, b, c.if-not-is_ascii_digit.ensures.cases)) ∙ c.loop-next.invariant.1, small _ _ (omega arith) c.loop-next.invariant.0, search rules)

pub loop-next-preserved : goal.loop-next-preserved
loop-next-preserved c =
    let i : c.loop-next.next + 1 - c.args.at ≡ c.loop-next.next - c.args.at + 1 = omega arith in
    let k : c.args.at + 4 - (c.loop-next.next + 1) ≡ c.args.at + 4 - c.loop-next.next - 1 = omega arith in
    let b = rw c.copied.ensures at c.unwrap_or-b.ensures ∙ c.get.ensures.lookup.4 (omega arith) 0 in
    let d = c.if-not-is_ascii_digit.ensures.cases in
    (rw i (grow _ _ _ c.loop-next.invariant.0 (omega (arith, d))), rw (k, b) (on _ _ _ _ (omega arith) (omega (arith, b, d)) (omega (arith, b, d))) ∙ c.loop-next.invariant.1)

pub returns : goal.returns
returns c =
    let n : c.loop-next.next ≡ c.args.at + 4 = omega arith in
    (rw (← n) (stop _ _ _ _ (λ l. absurd (omega arith)) ∙ c.loop-next.invariant.1), small _ _ (omega arith) c.loop-next.invariant.0, search rules)
