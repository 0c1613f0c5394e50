-- Going down: a time round label 10 is a step of ours, and the loops agree. Assumes nothing.
use Prim.Native.Nat.{ℕ, zero, suc, ◌+◌, ◌<◌}
use native.Mathlib.Omega.{arith}
use mathlib.Core.Path.{◌≡◌, refl, ap, ◌∙◌}
use mathlib.Core.Logic.{inl, inr}
use mathlib.Core.Bool.{Bool, true, false, ◌||◌, cond}
use mathlib.Core.List.{List}
use lib.Dec.{eqb, ltb}
use lib.Ieee.{Float, Format}
use borrow.Author.Tests.{eqb-true, eqb-false}
use Rattle.model.specs.Form.{zero_below, two_block}
use Rattle.model.specs.Swaps.{Change}
use Rattle.model.specs.Move.{Moving, size_at, exchanging, arrived, landed_whole, down_whole, down_past_two, down_apart, down_step, down_by}
use Rattle.laws_dtrexc.specs.Dtrexc.{Variables, Control, goes, ◌>>=◌, call_or_return, ilst_here, to_row, breaks, below, below3_past2, below3, label10}
use Rattle.laws_dtrexc.specs.Choice.{ours}
use Rattle.laws_dtrexc.proofs.Quiet.{quiet_11, quiet_12}
use Rattle.laws_dtrexc.proofs.Kept.{down_step_lem, down_by_lem, Nbf, nbf-more, nbf-put, nbf_kind, Listed, listed_more, Over, over_more, over_put, over_land}
use Rattle.laws_dtrexc.proofs.Seen.{seen, dec, calls_on, goes_on_lem, turns_back, zero-at, next-below, row_at, breaks-at, ltb_next}
use Rattle.laws_dtrexc.proofs.Agree.{Quiet, quiet_more, Same, Stopped, Agrees, over_now}

module _ (f : Format) (ld n : ℕ) (t : List Float) (goal : ℕ) where
  -- ---- one row or a 2-block

  -- the block below, and what its exchange declines
  next_of : Moving → ℕ
  next_of m = size_at f ld n m.change.form (m.here + m.nbf)

  dec_of : Moving → ℕ
  dec_of m = dec f ld n m.here m.nbf (next_of m) m

  below-is : (m : Moving) (c : Control (List Float)) → call_or_return (ours f ld n) (m.here + 1) m.nbf (next_of m) (seen 0 goal m) ≡ c
      → below (ours f ld n) n (seen 0 goal m) ≡ (c >>= (λ w. goes (breaks (ours f ld n) (to_row (w.HERE + next_of m) w))))
  unfolding below next_of
  below-is m c e = rw (next-below f ld n m.change.form (m.here + 1 + m.nbf + 1) (m.here + 1 + m.nbf) (m.here + m.nbf) (omega arith) (omega arith), e)

  whole_same : (m : Moving) → Quiet m → dec_of m ≡ 0 → Same goal (below (ours f ld n) n (seen 0 goal m)) (down_whole f ld n m)
  unfolding down_whole next_of dec_of exchanging landed_whole
  whole_same m q d =
      let k = next_of m in
      record {
        is = below-is m _ (goes_on_lem f ld n 0 goal (m.here + 1) m.here m.nbf k m refl d) ∙ ap goes (breaks-at f ld n goal (m.here + 1 + k) (m.here + k) (exchanging f ld n m.here m.nbf k m) (omega arith));
        quiet = quiet_more f ld n m.here m.nbf k m q d;
      }

  whole-stopped : (m : Moving) → Listed f ld n t m → Quiet m → eqb (dec_of m) 0 ≡ false → Stopped f ld n t (below (ours f ld n) n (seen 0 goal m)) (down_whole f ld n m)
  unfolding down_whole next_of dec_of ilst_here
  whole-stopped m h q e =
      let k = next_of m in
      let d : 0 < dec_of m = omega (arith, eqb-false (dec_of m) 0 e) in
      record {
        w = ilst_here (seen (dec_of m) goal (exchanging f ld n m.here m.nbf k m));
        is = below-is m _ (turns_back f ld n 0 goal (m.here + 1) m.here m.nbf k m refl e);
        info = d;
        l = (exchanging f ld n m.here m.nbf k m).exchanges;
        calls = refl;
        form = ap (λ (c : Change). c.form) (listed_more f ld n t m.here m.nbf k m h);
        over = over_land f ld n t _ _ _ (over_now f ld n t m.here m.nbf k m h q d);
      }

  whole : (m : Moving) → Listed f ld n t m → Quiet m → Agrees f ld n t goal (below (ours f ld n) n (seen 0 goal m)) (down_whole f ld n m)
  whole m h q = go (eqb (dec_of m) 0) refl
    where
      go : (b : Bool) → eqb (dec_of m) 0 ≡ b → Agrees f ld n t goal (below (ours f ld n) n (seen 0 goal m)) (down_whole f ld n m)
      go true e = inl (whole_same m q (eqb-true (dec_of m) 0 e))
      go false e = inr (whole-stopped m h q e)

  -- ---- two rows: single rows never decline

  past_split : (m : Moving) → Quiet m → zero_below f ld m.change.form (m.here + 1) ≡ true → Same goal (below3_past2 (ours f ld n) n (seen 0 goal m)) (down_past_two f ld n m)
  unfolding below3_past2 down_past_two exchanging arrived
  past_split m q e =
      let h = m.here in
      let a = exchanging f ld n h 1 1 m in
      let b = exchanging f ld n (h + 1) 1 1 a in
      let d = quiet_11 f ld n h m.change.form in
      let d₂ = quiet_11 f ld n (h + 1) a.change.form in
      record {
        is =
            rw (zero-at f ld n m.change.form (h + 1 + 2) (h + 1 + 1) (h + 1) (omega arith) (omega arith), e, calls_on f ld n 0 goal (h + 1) h 1 1 m refl d, calls_on f ld n 0 goal (h + 1 + 1) (h + 1) 1 1 a refl d₂)
            (ap goes (row_at f ld n goal (h + 1 + 2) (h + 2) b (omega arith)));
        quiet = rw e (quiet_more f ld n (h + 1) 1 1 a (quiet_more f ld n h 1 1 m q d) d₂);
      }

  past_whole : (m : Moving) → Quiet m → zero_below f ld m.change.form (m.here + 1) ≡ false → Same goal (below3_past2 (ours f ld n) n (seen 0 goal m)) (down_past_two f ld n m)
  unfolding below3_past2 down_past_two exchanging arrived
  past_whole m q e =
      let h = m.here in
      let a = exchanging f ld n h 1 2 m in
      let d = quiet_12 f ld n h m.change.form in
      record {
        is =
            rw (zero-at f ld n m.change.form (h + 1 + 2) (h + 1 + 1) (h + 1) (omega arith) (omega arith), e, goes_on_lem f ld n 0 goal (h + 1) h 1 2 m refl d)
            (ap goes (row_at f ld n goal (h + 1 + 2) (h + 2) a (omega arith)));
        quiet = rw e (quiet_more f ld n h 1 2 m q d);
      }

  past : (m : Moving) → Quiet m → Same goal (below3_past2 (ours f ld n) n (seen 0 goal m)) (down_past_two f ld n m)
  past m q = go (zero_below f ld m.change.form (m.here + 1)) refl
    where
      go : (b : Bool) → zero_below f ld m.change.form (m.here + 1) ≡ b → Same goal (below3_past2 (ours f ld n) n (seen 0 goal m)) (down_past_two f ld n m)
      go true e = past_split m q e
      go false e = past_whole m q e

  apart-one : (m : Moving) → Quiet m → size_at f ld n m.change.form (m.here + 2) ≡ 1 → Same goal (below3 (ours f ld n) n (seen 0 goal m)) (down_apart f ld n m)
  unfolding below3 down_apart exchanging arrived
  apart-one m q e =
      let h = m.here in
      let a = exchanging f ld n (h + 1) 1 1 m in
      let b = exchanging f ld n h 1 1 a in
      let d = quiet_11 f ld n (h + 1) m.change.form in
      let d₂ = quiet_11 f ld n h a.change.form in
      record {
        is =
            rw (next-below f ld n m.change.form (h + 1 + 3) (h + 1 + 2) (h + 2) (omega arith) (omega arith), e, goes_on_lem f ld n 0 goal (h + 1 + 1) (h + 1) 1 1 m refl d, calls_on f ld n 0 goal (h + 1) h 1 1 a refl d₂)
            (ap goes (row_at f ld n goal (h + 1 + 1) (h + 1) b refl));
        quiet = rw e (quiet_more f ld n h 1 1 a (quiet_more f ld n (h + 1) 1 1 m q d) d₂);
      }

  apart-two : (m : Moving) → Quiet m → size_at f ld n m.change.form (m.here + 2) ≡ 2 → Same goal (below3 (ours f ld n) n (seen 0 goal m)) (down_apart f ld n m)
  unfolding below3 down_apart
  apart-two m q e =
      let h = m.here in
      let d = quiet_12 f ld n (h + 1) m.change.form in
      let s = past (exchanging f ld n (h + 1) 1 2 m) (quiet_more f ld n (h + 1) 1 2 m q d) in
      record {
        is = rw (next-below f ld n m.change.form (h + 1 + 3) (h + 1 + 2) (h + 2) (omega arith) (omega arith), e, goes_on_lem f ld n 0 goal (h + 1 + 1) (h + 1) 1 2 m refl d) s.is;
        quiet = rw e s.quiet;
      }

  apart : (m : Moving) → Quiet m → Same goal (below3 (ours f ld n) n (seen 0 goal m)) (down_apart f ld n m)
  unfolding size_at
  apart m q = go (two_block f ld n m.change.form (m.here + 2)) refl
    where
      go : (b : Bool) → two_block f ld n m.change.form (m.here + 2) ≡ b → Same goal (below3 (ours f ld n) n (seen 0 goal m)) (down_apart f ld n m)
      go true e = apart-two m q (rw e)
      go false e = apart-one m q (rw e)

  -- ---- once round, and the loop

  abbrev round : Variables (List Float) → Control (List Float)
  round v = cond (eqb v.NBF 1 || eqb v.NBF 2) (below (ours f ld n) n v) (below3 (ours f ld n) n v)

  once : (m : Moving) → Listed f ld n t m → Nbf m → Quiet m → Agrees f ld n t goal (round (seen 0 goal m)) (down_step f ld n m)
  unfolding down_step
  once m h k q = elim (nbf_kind m k) [ inl e ↦ rw (e.0, e.1) (inl (apart m q)) | inr e ↦ rw (e.0, e.1) (whole m h q) ]

  -- there
  stays : (k : ℕ) (m : Moving) → ltb m.here goal ≡ false → down_by k f ld n goal m ≡ m
  unfolding down_by
  stays zero m e = refl
  stays (suc k) m e = rw e

  -- after a time round: to the label, or there
  after : (k : ℕ) (m : Moving) → (ltb m.here goal ≡ true → Agrees f ld n t goal (label10 (ours f ld n) n k (seen 0 goal m)) (down_by k f ld n goal m)) → Quiet m
      → Agrees f ld n t goal (cond (ltb (m.here + 1) (goal + 1)) (label10 (ours f ld n) n k (seen 0 goal m)) (goes (seen 0 goal m))) (down_by k f ld n goal m)
  after k m again q = rw (ltb_next m.here goal) (go (ltb m.here goal) refl)
    where
      go : (b : Bool) → ltb m.here goal ≡ b → Agrees f ld n t goal (cond b (label10 (ours f ld n) n k (seen 0 goal m)) (goes (seen 0 goal m))) (down_by k f ld n goal m)
      go true e = again e
      go false e = rw (stays k m e) (inl (record { is = refl; quiet = q }))

  pub loop : (k : ℕ) (m : Moving) → Listed f ld n t m → Nbf m → Quiet m → ltb m.here goal ≡ true → Agrees f ld n t goal (label10 (ours f ld n) n k (seen 0 goal m)) (down_by k f ld n goal m)
  unfolding label10 down_by
  loop zero m h j q l = inl (record { is = refl; quiet = q })
  loop (suc k) m h j q l =
      let s = down_step f ld n m in
      let h₂ = down_step_lem f ld n (Listed f ld n t) (listed_more f ld n t) (λ row b x o. o) m h in
      let j₂ = down_step_lem f ld n Nbf (nbf-more f ld n) nbf-put m j in
      rw l (elim (once m h j q) [
        | inl a ↦ rw a.is (after k s (λ e. loop k s h₂ j₂ a.quiet e) a.quiet)
        | inr a ↦ rw a.is (inr (record { w = a.w; is = refl; info = a.info; l = a.l; calls = a.calls; form = a.form; over = down_by_lem f ld n (Over f ld n t a.l) (over_more f ld n t a.l) (over_put f ld n t a.l) k goal s a.over }))
      ])
