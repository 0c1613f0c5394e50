-- `linalg::jacobi::Numbers::signed` meets its contract: a scale with the other sign gives the root with the other sign. Assumes nothing.
use mathlib.Core.Path.{◌≡◌, refl, sym, ap, ◌∙◌}
use lib.Ieee.{Float, binary64, neg, mul}
use Rattle.model.specs.Jacobi.{rotg_scale, rotg_norm, rotg_signed}
use Rattle.arith.proofs.Negated.{mul_neg}
use Rattle.linalg.proofs.jacobi.Numbers.signed.Goals.{then-larger, else-larger}
use Rattle.linalg.proofs.jacobi.Numbers.signed.Goals as goal

pub returns : goal.returns
unfolding rotg_norm rotg_signed
returns c =
    let root = c.sqrt-root.result in
    let norm : mul binary64 c.scale-scl.result root ≡ rotg_norm binary64 c.args.self.p c.args.self.q = rw (c.sqrt-root.ensures, c.abs2.ensures, c.abs2-2.ensures, c.scale-scl.ensures) refl in
    elim c.if-larger.branch [
      | then-larger w ↦ rw (w.side-is, ← c.larger.ensures, w.if-larger.true) norm
      | else-larger w ↦ rw (w.side-is, ← c.larger.ensures, w.if-larger.false) (mul_neg binary64 c.scale-scl.result root ∙ ap neg norm)
    ]
