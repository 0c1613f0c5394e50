-- The digits that are written are those of the definitions. Assumes nothing.
use Rattle.std.proofs.Common.{◌≡◌, ℕ, zero, suc, ◌-◌, ◌*◌, length, drop, set, append_assoc, add-one, ◌/◌, ◌%◌, ◌^◌, ◌≤◌, ◌<◌, Bool, true, false, ltb, List, ◌++◌, refl, arith, div-lt_iff_lt-mul, lt-ltb, ltb-true, ltb-false}
use Rattle.std.proofs.lemmas.Fmt.{decimal_digit, decimal_step}
use Rattle.std.proofs.lemmas.List.{drop-set}
use Rattle.std.specs.Fmt as Fmt
use Rattle.model.specs.Text.{glyph, decimal_in, hex_in}

-- what is printed in decimal is the decimal, where it has at most so many digits
pub decimal_is : (j n : ℕ) → n < 10 ^ suc j → n < 2 ^ 64 → Fmt.decimal n ≡ decimal_in (suc j) n
unfolding decimal_in
decimal_is zero n h g = rw (lt-ltb n 10 (omega arith), decimal_digit n (omega arith))
decimal_is (suc j) n h g = by (λ q. decimal_is j (n / 10) q (omega arith)) (ltb n 10) refl
  where
    by : (n / 10 < 10 ^ suc j → Fmt.decimal (n / 10) ≡ decimal_in (suc j) (n / 10)) → (b : Bool) → ltb n 10 ≡ b → Fmt.decimal n ≡ decimal_in (suc (suc j)) n
    by shorter true e = rw e (decimal_digit n (ltb-true n 10 e))
    by shorter false e =
        let p : n < 10 ^ suc j * 10 = omega arith in
        let q : n / 10 < 10 ^ suc j = (div-lt_iff_lt-mul {k = 10} {x = n} {y = 10 ^ suc j} (omega arith)).1 p in
        rw (e, decimal_step n (ltb-false n 10 e) g, shorter q)

-- one digit more, before those that are written
pub hex_next : (ds : List ℕ) (i w d : ℕ) → 0 < i → i ≤ length ds → d ≡ glyph (w % 16)
    → hex_in (i - 1) (w / 16) ++ drop (i - 1) (set ds (i - 1) d) ≡ hex_in i w ++ drop i ds
unfolding hex_in
hex_next ds zero w d h g e = absurd (omega arith)
hex_next ds (suc i) w d h g e =
    let k : suc i - 1 ≡ i = omega arith in
    rw (k, drop-set ds i d (omega arith), append_assoc, e, add-one i)

-- no digit is left
pub hex_done : (ds : List ℕ) (i w : ℕ) (all : List ℕ) → i ≤ 0 → hex_in i w ++ drop i ds ≡ all → ds ≡ all
unfolding hex_in
hex_done ds zero w all h e = e
hex_done ds (suc i) w all h e = absurd (omega arith)
