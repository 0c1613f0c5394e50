-- `bits::fill::fill` meets its contract. Assumes nothing.
use Rattle.std.proofs.Common.{◌≡◌, ℕ, List, ◌++◌, map, length, get_or, take, drop, set, ◌+◌, ◌<◌, ◌∙◌, ap, arith, add-one, suc, append_assoc}
use Rattle.std.proofs.lemmas.List.{map_more, length-map, length-take-le}
use Rattle.std.proofs.Math.Seq.{drop-cons, set-append_seam}
use Rattle.bits.proofs.fill.fill.Goals as goal

-- one element more
filled : {X Y : Type 0} (h : X → Y) (xs : List X) (o : List Y) (i : ℕ) (x : X) (y : Y) → i < length xs → length xs ≡ length o → y ≡ h (get_or xs i x)
    → set (map h (take i xs) ++ drop i o) i y ≡ map h (take (i + 1) xs) ++ drop (i + 1) o
filled h xs o i x y l e is =
    let done = map h (take i xs) in
    let n : length done ≡ i = length-map (take i xs) h ∙ length-take-le i xs (omega arith) in
    rw (drop-cons o i (h x) (omega arith), map_more h xs i x l, is, append_assoc, add-one i)
    (rw n at (set-append_seam done (get_or o i (h x)) (drop (suc i) o) (h (get_or xs i x))))

pub loop-i-preserved : goal.loop-i-preserved
loop-i-preserved g c h p =
    let i = c.loop-i.i in
    let x = c.index-from-i.result in
    rw (c.loop-i.invariant h p)
    (filled h c.args.from.now c.args.to.now i x _ c.loop-i-test.true c.requires.1 (p _ _ c.f.ensures ∙ ap h c.index-from-i.is))
