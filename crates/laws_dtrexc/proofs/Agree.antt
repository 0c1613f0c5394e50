-- How dtrexc and a move stand to each other on the way: nothing has declined and they are the same, or one has declined, dtrexc has returned, and its calls are ours up to there. Assumes nothing.
use Prim.Native.Nat.{ℕ, ◌<◌}
use native.Mathlib.Omega.{arith}
use mathlib.Core.Path.{◌≡◌, sym, ◌∙◌}
use mathlib.Core.Logic.{◌⊎◌}
use mathlib.Core.List.{List, map}
use lib.Ieee.{Float, Format}
use Rattle.model.specs.Swaps.{declined_of, unchanged}
use Rattle.model.specs.Exchange.{exchange}
use Rattle.laws.proofs.Runs.{declined_then}
use Rattle.model.specs.Move.{Exchange, Moving, exchanging}
use Rattle.laws_dtrexc.specs.Dtrexc.{Variables, Control, goes, returns}
use Rattle.laws_dtrexc.specs.Choice.{as_call, made}
use Rattle.laws_dtrexc.proofs.Lists.{until_more}
use Rattle.laws_dtrexc.proofs.Kept.{Listed, listed_more, counted, Over}
use Rattle.laws_dtrexc.proofs.Seen.{seen, dec}

-- nothing has declined
abbrev pub Quiet : Moving → Type 0
Quiet m = declined_of m.change ≡ 0

module _ (f : Format) (ld n : ℕ) where
  pub quiet_more : (j n1 n2 : ℕ) (m : Moving) → Quiet m → dec f ld n j n1 n2 m ≡ 0 → Quiet (exchanging f ld n j n1 n2 m)
  unfolding exchanging
  quiet_more j n1 n2 m q d = let e = declined_then m.change (exchange f ld n j n1 n2) in omega arith

-- the same
pub record Same (goal : ℕ) (c : Control (List Float)) (m : Moving) : Type 0 where
  pub is : c ≡ goes (seen 0 goal m)
  pub quiet : Quiet m

module _ (f : Format) (ld n : ℕ) (t : List Float) where
  -- one has declined
  pub record Stopped (c : Control (List Float)) (m : Moving) : Type 0 where
    pub w : Variables (List Float)
    pub is : c ≡ returns w
    pub info : 0 < w.INFO
    pub l : List Exchange
    pub calls : w.calls ≡ map as_call l
    pub form : w.T ≡ (made f ld n (unchanged t) l).form
    pub over : Over f ld n t l m

  abbrev pub Agrees : ℕ → Control (List Float) → Moving → Type 0
  Agrees goal c m = Same goal c m ⊎ Stopped c m

  -- the first decline
  pub over_now : (j n1 n2 : ℕ) (m : Moving) → Listed f ld n t m → Quiet m → 0 < dec f ld n j n1 n2 m → Over f ld n t (exchanging f ld n j n1 n2 m).exchanges (exchanging f ld n j n1 n2 m)
  unfolding exchanging
  over_now j n1 n2 m h q d =
      let c = counted f ld n t m h in
      let e = declined_then m.change (exchange f ld n j n1 n2) in
      record { listed = listed_more f ld n t j n1 n2 m h; some = omega arith; until = until_more f ld n t m.exchanges _ (sym c ∙ q) }
