-- `swaps::kernels::Reflector::reflect` meets its contract. Assumes nothing.
use Rattle.std.proofs.Common.{◌≡◌, ◌+◌, drop}
use Rattle.swaps.specs.Reflects.{product_of, less_of}
use Rattle.swaps.proofs.kernels.Reflector.reflect.Given as goal

abbrev pub invariant-loop-m : goal.invariant-loop-m
invariant-loop-m g l = l.sum ≡ product_of l.m l.from l.self.v l.x

abbrev pub invariant-loop-m-2 : goal.invariant-loop-m-2
invariant-loop-m-2 g l = l.tail ≡ drop (l.from + 1) (less_of l.m l.from l.k l.self.v l.fn.x)
