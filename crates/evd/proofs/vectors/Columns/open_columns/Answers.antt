-- `evd::vectors::Columns::open_columns` meets its contract. Assumes nothing.
use mathlib.Core.Path.{◌≡◌, ◌∙◌}
use Prim.Native.Nat.{◌+◌, ◌≤◌}
use native.Mathlib.Nat.{zero-add}
use native.Mathlib.Omega.{arith}
use borrow.Author.Rules.{rules}
use lib.ListN.{length}
use lib.Ieee.{binary64, neg, mul}
use Rattle.model.specs.Vectors.{open_columns}
use Rattle.evd.proofs.Part.{scaled_back}
use Rattle.evd.specs.View.{start}
use Rattle.evd.proofs.vectors.Columns.open_columns.Goals as goal

pub returns : goal.returns
unfolding open_columns
returns c =
    let m = c.args.self.now in
    let own = c.start_of-own.result in
    let f = c.fill.ensures (mul binary64 (neg own.upper)) (λ x y h. search rules) in
    let g = c.fill-2.ensures (mul binary64 (neg own.lower)) (λ x y h. search rules) in
    let left = c.place-left.ensures in
    let right = c.place-right.ensures in
    let beside : c.place-right.result ≡ c.place-left.result + m.s.ld = omega (arith, left.0, right.0) in
    let few : c.args.j ≤ m.s.ld = omega (arith, m.s.fits, c.requires.1) in
    let there : c.place-right.result + c.args.j ≤ length m.t.now = omega (arith, right.1, m.holds, few) in
    let here : c.place-right.result + c.args.j ≤ length c.start_block.new.v = omega (arith, right.1, few, c.start_block.auto.v, c.requires.0) in
    let size = c.imag_size-q.ensures ∙ rw (c.get-c.ensures, c.get-b.ensures) in (
      size,
      scaled_back m.s.ld m.t.now c.start_block.new.v _ _ (start own) c.place-left.result c.place-right.result c.args.j beside few there here f g
          ∙ rw (c.start_block.ensures, c.start_of-own.ensures, size, c.get-b.ensures, c.get-c.ensures, left.0 ∙ zero-add _),
    )
