-- One reflection after another is the pair of model's Columns. Assumes nothing.
use mathlib.Core.Path.{◌≡◌, refl}
use mathlib.Core.List.{List}
use lib.ListN.{length}
use lib.Ieee.{Float, nan, sub}
use Rattle.std.proofs.lemmas.List.FromFn.{fill_by_all}
use Rattle.model.specs.Form.{at}
use Rattle.model.specs.Columns.{reflect_pair, reflect_triple, reflect_quad, reflect3, reflect4}
use Rattle.swaps.specs.Kernels.{reflected3, reflected4}
use Rattle.swaps.specs.Lines.{each}
use Rattle.swaps.specs.Reflects.{reflects_from}
use Rattle.swaps.specs.View.{reflection3, reflection4}
use Rattle.swaps.specs.declared.kernels.Reflectors.{Reflectors}

pub twice3 : (r : Reflectors 2 1) (x : List Float) → length x ≡ 3 → reflects_from 1 1 r.second.tau r.second.v (reflects_from 2 0 r.first.tau r.first.v x) ≡ reflected3 (reflection3 r) x
unfolding reflect_pair reflect_triple reflect3 sub
twice3 r x h = let e : x ≡ each 3 (at x) = fill_by_all (at x) x 3 nan h (λ k l. refl) in rw e (refl {a = reflected3 (reflection3 r) (each 3 (at x))})

pub twice4 : (r : Reflectors 3 2) (x : List Float) → length x ≡ 4 → reflects_from 2 1 r.second.tau r.second.v (reflects_from 3 0 r.first.tau r.first.v x) ≡ reflected4 (reflection4 r) x
unfolding reflect_triple reflect_quad reflect4 sub
twice4 r x h = let e : x ≡ each 4 (at x) = fill_by_all (at x) x 4 nan h (λ k l. refl) in rw e (refl {a = reflected4 (reflection4 r) (each 4 (at x))})
