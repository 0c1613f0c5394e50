-- `form::deep::any_of_first` meets its contract. Assumes nothing.
use native.Mathlib.Omega.{arith}
use lib.Lanes.{chunk}
use lib.Ieee.{Float, binary64, ne, of_bits}
use mir.Syntax.{w64}
use Rattle.std.proofs.lemmas.Simd.{bitmask_splat, length-chunk}
use Rattle.form.proofs.Some.{seen_at_once}
use Rattle.form.proofs.deep.any_of_first.Goals as goal

pub returns : goal.returns
returns g c =
    let x = c.args.xs.now in
    let n = g.row.N in
    rw (bitmask_splat w64 ne (chunk 0 n x) n (of_bits binary64 0) (length-chunk 0 n x (let h = c.requires.0 in omega arith)) c.requires.1) (seen_at_once (λ (v : Float). ne v (of_bits binary64 0)) x n c.requires.0)
