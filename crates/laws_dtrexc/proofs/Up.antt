-- Going up: a time round label 20 is a step of ours, and the loops agree. Assumes nothing.
use Prim.Native.Nat.{ℕ, zero, suc, ◌+◌, ◌-◌, ◌≤◌, ◌<◌}
use native.Mathlib.Omega.{arith}
use mathlib.Core.Path.{◌≡◌, refl, ap, ◌∙◌}
use mathlib.Core.Logic.{◌⊎◌, inl, inr}
use mathlib.Core.Bool.{Bool, true, false, ◌&&◌, ◌||◌, cond}
use mathlib.Core.List.{List}
use lib.Dec.{eqb, ltb, leb}
use lib.Ieee.{Float, Format}
use borrow.Author.Tests.{eqb-true, eqb-false, ltb-true, leb-true}
use Rattle.model.specs.Form.{zero_below, nonzero_below}
use Rattle.model.specs.Swaps.{Change}
use Rattle.model.specs.Move.{Moving, size_above, exchanging, arrived, landed_whole, up_whole, up_past_two, up_apart, up_step, up_by}
use Rattle.laws_dtrexc.specs.Dtrexc.{Variables, Control, goes, ◌>>=◌, call_or_return, ilst_here, to_row, breaks, above, above3_past2, above3, label20}
use Rattle.laws_dtrexc.specs.Choice.{ours}
use Rattle.laws_dtrexc.proofs.Quiet.{quiet_11, quiet_21}
use Rattle.laws_dtrexc.proofs.Kept.{up_step_lem, up_by_lem, Nbf, nbf-more, nbf-put, nbf_kind, Listed, listed_more, Over, over_more, over_put, over_land}
use Rattle.laws_dtrexc.proofs.Seen.{seen, dec, calls_on, goes_on_lem, turns_back, zero-at, next-above, row_at, breaks-at, ltb_next}
use Rattle.laws_dtrexc.proofs.Agree.{Quiet, quiet_more, Same, Stopped, Agrees, over_now}

module _ (f : Format) (ld n : ℕ) (t : List Float) (goal : ℕ) where
  -- the block above, which has room there, and what its exchange declines
  next_of : Moving → ℕ
  next_of m = size_above f ld m.change.form m.here

  dec_of : Moving → ℕ
  dec_of m = dec f ld n (m.here - next_of m) (next_of m) m.nbf m

  -- 2, with two rows above, or 1
  sizes : (m : Moving) → ((next_of m ≡ 2) × (2 ≤ m.here)) ⊎ (next_of m ≡ 1)
  unfolding next_of size_above
  sizes m = go (leb 2 m.here) (nonzero_below f ld m.change.form (m.here - 2)) refl
    where
      go : (a b : Bool) → leb 2 m.here ≡ a → ((◌≡◌ {A = ℕ} (cond (a && b) 2 1) 2) × (2 ≤ m.here)) ⊎ (◌≡◌ {A = ℕ} (cond (a && b) 2 1) 1)
      go true true e = inl (refl, leb-true 2 m.here e)
      go true false e = inr refl
      go false b e = inr refl

  fits : (m : Moving) → 0 < m.here → next_of m ≤ m.here
  fits m l = elim (sizes m) [ inl e ↦ omega (arith, e.0, e.1) | inr e ↦ omega arith ]

  -- ---- one row or a 2-block

  above-is : (m : Moving) (c : Control (List Float)) → call_or_return (ours f ld n) (m.here + 1 - next_of m) (next_of m) m.nbf (seen 0 goal m) ≡ c
      → above (ours f ld n) (seen 0 goal m) ≡ (c >>= (λ w. goes (breaks (ours f ld n) (to_row (w.HERE - next_of m) w))))
  unfolding above next_of
  above-is m c e = rw (next-above f ld n m.change.form m.here, e)

  whole_same : (m : Moving) → Quiet m → 0 < m.here → dec_of m ≡ 0 → Same goal (above (ours f ld n) (seen 0 goal m)) (up_whole f ld n m)
  unfolding up_whole next_of dec_of exchanging landed_whole
  whole_same m q p d =
      let k = next_of m in
      let l = fits m p in
      record {
        is = above-is m _ (goes_on_lem f ld n 0 goal (m.here + 1 - k) (m.here - k) k m.nbf m (omega arith) d) ∙ ap goes (breaks-at f ld n goal (m.here + 1 - k) (m.here - k) (exchanging f ld n (m.here - k) k m.nbf m) (omega arith));
        quiet = quiet_more f ld n (m.here - k) k m.nbf m q d;
      }

  whole-stopped : (m : Moving) → Listed f ld n t m → Quiet m → 0 < m.here → eqb (dec_of m) 0 ≡ false → Stopped f ld n t (above (ours f ld n) (seen 0 goal m)) (up_whole f ld n m)
  unfolding up_whole next_of dec_of ilst_here
  whole-stopped m h q p e =
      let k = next_of m in
      let l = fits m p in
      let d : 0 < dec_of m = omega (arith, eqb-false (dec_of m) 0 e) in
      record {
        w = ilst_here (seen (dec_of m) goal (exchanging f ld n (m.here - k) k m.nbf m));
        is = above-is m _ (turns_back f ld n 0 goal (m.here + 1 - k) (m.here - k) k m.nbf m (omega arith) e);
        info = d;
        l = (exchanging f ld n (m.here - k) k m.nbf m).exchanges;
        calls = refl;
        form = ap (λ (c : Change). c.form) (listed_more f ld n t (m.here - k) k m.nbf m h);
        over = over_land f ld n t _ _ _ (over_now f ld n t (m.here - k) k m.nbf m h q d);
      }

  whole : (m : Moving) → Listed f ld n t m → Quiet m → 0 < m.here → Agrees f ld n t goal (above (ours f ld n) (seen 0 goal m)) (up_whole f ld n m)
  whole m h q p = go (eqb (dec_of m) 0) refl
    where
      go : (b : Bool) → eqb (dec_of m) 0 ≡ b → Agrees f ld n t goal (above (ours f ld n) (seen 0 goal m)) (up_whole f ld n m)
      go true e = inl (whole_same m q p (eqb-true (dec_of m) 0 e))
      go false e = inr (whole-stopped m h q p e)

  -- ---- two rows: single rows never decline

  past_split : (m : Moving) → Quiet m → 2 ≤ m.here → zero_below f ld m.change.form (m.here - 1) ≡ true → Same goal (above3_past2 (ours f ld n) (seen 0 goal m)) (up_past_two f ld n m)
  unfolding above3_past2 up_past_two exchanging arrived
  past_split m q p e =
      let h = m.here in
      let a = exchanging f ld n h 1 1 m in
      let b = exchanging f ld n (h - 1) 1 1 a in
      let d = quiet_11 f ld n h m.change.form in
      let d₂ = quiet_11 f ld n (h - 1) a.change.form in
      record {
        is =
            rw (zero-at f ld n m.change.form (h + 1) (h + 1 - 1) (h - 1) (omega arith) (omega arith), e, calls_on f ld n 0 goal (h + 1) h 1 1 m refl d, calls_on f ld n 0 goal (h + 1 - 1) (h - 1) 1 1 a (omega arith) d₂)
            (ap goes (row_at f ld n goal (h + 1 - 2) (h - 2) b (omega arith)));
        quiet = rw e (quiet_more f ld n (h - 1) 1 1 a (quiet_more f ld n h 1 1 m q d) d₂);
      }

  past_whole : (m : Moving) → Quiet m → 2 ≤ m.here → zero_below f ld m.change.form (m.here - 1) ≡ false → Same goal (above3_past2 (ours f ld n) (seen 0 goal m)) (up_past_two f ld n m)
  unfolding above3_past2 up_past_two exchanging arrived
  past_whole m q p e =
      let h = m.here in
      let a = exchanging f ld n (h - 1) 2 1 m in
      let d = quiet_21 f ld n (h - 1) m.change.form in
      record {
        is =
            rw (zero-at f ld n m.change.form (h + 1) (h + 1 - 1) (h - 1) (omega arith) (omega arith), e, goes_on_lem f ld n 0 goal (h + 1 - 1) (h - 1) 2 1 m (omega arith) d)
            (ap goes (row_at f ld n goal (h + 1 - 2) (h - 2) a (omega arith)));
        quiet = rw e (quiet_more f ld n (h - 1) 2 1 m q d);
      }

  past : (m : Moving) → Quiet m → 2 ≤ m.here → Same goal (above3_past2 (ours f ld n) (seen 0 goal m)) (up_past_two f ld n m)
  past m q p = go (zero_below f ld m.change.form (m.here - 1)) refl
    where
      go : (b : Bool) → zero_below f ld m.change.form (m.here - 1) ≡ b → Same goal (above3_past2 (ours f ld n) (seen 0 goal m)) (up_past_two f ld n m)
      go true e = past_split m q p e
      go false e = past_whole m q p e

  apart-one : (m : Moving) → Quiet m → 0 < m.here → next_of m ≡ 1 → Same goal (above3 (ours f ld n) (seen 0 goal m)) (up_apart f ld n m)
  unfolding above3 up_apart exchanging arrived next_of
  apart-one m q p e =
      let h = m.here in
      let a = exchanging f ld n (h - 1) 1 1 m in
      let b = exchanging f ld n h 1 1 a in
      let d = quiet_11 f ld n (h - 1) m.change.form in
      let d₂ = quiet_11 f ld n h a.change.form in
      record {
        is =
            rw (next-above f ld n m.change.form h, e, goes_on_lem f ld n 0 goal (h + 1 - 1) (h - 1) 1 1 m (omega arith) d, calls_on f ld n 0 goal (h + 1) h 1 1 a refl d₂)
            (ap goes (row_at f ld n goal (h + 1 - 1) (h - 1) b (omega arith)));
        quiet = rw e (quiet_more f ld n h 1 1 a (quiet_more f ld n (h - 1) 1 1 m q d) d₂);
      }

  apart-two : (m : Moving) → Quiet m → 2 ≤ m.here → next_of m ≡ 2 → Same goal (above3 (ours f ld n) (seen 0 goal m)) (up_apart f ld n m)
  unfolding above3 up_apart next_of exchanging
  apart-two m q p e =
      let h = m.here in
      let d = quiet_21 f ld n (h - 2) m.change.form in
      let s = past (exchanging f ld n (h - 2) 2 1 m) (quiet_more f ld n (h - 2) 2 1 m q d) p in
      record { is = rw (next-above f ld n m.change.form h, e, goes_on_lem f ld n 0 goal (h + 1 - 2) (h - 2) 2 1 m (omega arith) d) s.is; quiet = rw e s.quiet }

  apart : (m : Moving) → Quiet m → 0 < m.here → Same goal (above3 (ours f ld n) (seen 0 goal m)) (up_apart f ld n m)
  apart m q p = elim (sizes m) [ inl e ↦ apart-two m q e.1 e.0 | inr e ↦ apart-one m q p e ]

  -- ---- once round, and the loop

  abbrev round : Variables (List Float) → Control (List Float)
  round v = cond (eqb v.NBF 1 || eqb v.NBF 2) (above (ours f ld n) v) (above3 (ours f ld n) v)

  once : (m : Moving) → Listed f ld n t m → Nbf m → Quiet m → 0 < m.here → Agrees f ld n t goal (round (seen 0 goal m)) (up_step f ld n m)
  unfolding up_step
  once m h k q p = elim (nbf_kind m k) [ inl e ↦ rw (e.0, e.1) (inl (apart m q p)) | inr e ↦ rw (e.0, e.1) (whole m h q p) ]

  -- there
  stays : (k : ℕ) (m : Moving) → ltb goal m.here ≡ false → up_by k f ld n goal m ≡ m
  unfolding up_by
  stays zero m e = refl
  stays (suc k) m e = rw e

  -- after a time round: to the label, or there
  after : (k : ℕ) (m : Moving) → (ltb goal m.here ≡ true → Agrees f ld n t goal (label20 (ours f ld n) k (seen 0 goal m)) (up_by k f ld n goal m)) → Quiet m
      → Agrees f ld n t goal (cond (ltb (goal + 1) (m.here + 1)) (label20 (ours f ld n) k (seen 0 goal m)) (goes (seen 0 goal m))) (up_by k f ld n goal m)
  after k m again q = rw (ltb_next goal m.here) (go (ltb goal m.here) refl)
    where
      go : (b : Bool) → ltb goal m.here ≡ b → Agrees f ld n t goal (cond b (label20 (ours f ld n) k (seen 0 goal m)) (goes (seen 0 goal m))) (up_by k f ld n goal m)
      go true e = again e
      go false e = rw (stays k m e) (inl (record { is = refl; quiet = q }))

  pub loop : (k : ℕ) (m : Moving) → Listed f ld n t m → Nbf m → Quiet m → ltb goal m.here ≡ true → Agrees f ld n t goal (label20 (ours f ld n) k (seen 0 goal m)) (up_by k f ld n goal m)
  unfolding label20 up_by
  loop zero m h j q l = inl (record { is = refl; quiet = q })
  loop (suc k) m h j q l =
      let s = up_step f ld n m in
      let h₂ = up_step_lem f ld n (Listed f ld n t) (listed_more f ld n t) (λ row b x o. o) m h in
      let j₂ = up_step_lem f ld n Nbf (nbf-more f ld n) nbf-put m j in
      let p = ltb-true goal m.here l in
      rw l (elim (once m h j q (omega arith)) [
        | inl a ↦ rw a.is (after k s (λ e. loop k s h₂ j₂ a.quiet e) a.quiet)
        | inr a ↦ rw a.is (inr (record { w = a.w; is = refl; info = a.info; l = a.l; calls = a.calls; form = a.form; over = up_by_lem f ld n (Over f ld n t a.l) (over_more f ld n t a.l) (over_put f ld n t a.l) k goal s a.over }))
      ])
