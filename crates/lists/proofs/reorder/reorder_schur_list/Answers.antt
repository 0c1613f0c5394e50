-- `lists::reorder::reorder_schur_list` meets its contract. Assumes nothing.
use mathlib.Core.Path.{refl, ◌∙◌}
use native.Mathlib.Nat.{div-add-mod'}
use native.Mathlib.Omega.{arith}
use lib.ListN.{length}
use Rattle.lists.proofs.Known.{known_first, known_on}
use Rattle.lists.proofs.Turns.{odd, too_many, too_short, turned_away, accepted, two_more, none_more, one_pair}
use Rattle.lists.proofs.reorder.reorder_schur_list.Goals.{then-moves-ne0-via-then-moves-ne0, then-moves-ne0-via-else-moves-ne0+then-pairs-gt64, then-moves-ne0-via-else-moves-ne0+else-pairs-gt64+then-results-pairs}
use Rattle.lists.proofs.reorder.reorder_schur_list.Goals as goal

pub returns-then-moves-ne0 : goal.returns-then-moves-ne0
returns-then-moves-ne0 c =
    turned_away _ _ _ _ _ _
    (elim c.then-moves-ne0.branch [
      | then-moves-ne0-via-then-moves-ne0 w ↦ odd _ _ w.if-moves-ne0.true
      | then-moves-ne0-via-else-moves-ne0+then-pairs-gt64 w ↦ too_many _ _ w.if-moves-ne0.false w.if-pairs-gt64.true
      | then-moves-ne0-via-else-moves-ne0+else-pairs-gt64+then-results-pairs w ↦ too_short _ _ w.if-moves-ne0.false w.if-pairs-gt64.false w.if-results-pairs.true
    ])

pub loop-from-init : goal.loop-from-init
loop-from-init c =
    let d = div-add-mod' (length c.args.moves.now) 2 in
    let e = c.if-moves-ne0.false in
    let f = c.if-results-pairs.false in
    (omega (arith, d, e, f), known_first c.accepted-form.ensures.line c.accepted-form.ensures.shape, refl)

pub loop-from-preserved : goal.loop-from-preserved
loop-from-preserved c =
    let i = c.loop-from.invariant in
    let s = c.in-Some.ensures.cases in
    let e = c.next-r.ensures c.args.n c.args.ld i.1 in
    let k = c.write.auto.results in
    (omega (arith, i.0, s.2, k), known_on c.next-r.result _ _ i.1 e c.next-r.auto.t c.next-r.auto.u, one_pair _ _ _ _ _ _ _ c.next-r.result _ _ _ _ (two_more _ (omega (arith, s.2)) s.0 s.1) e (c.write.ensures _ _) ∙ i.2)

pub returns : goal.returns
returns c = none_more _ _ _ _ _ c.in_default.ensures.cases ∙ c.loop-from.invariant.2 ∙ accepted _ _ _ _ _ _ c.if-moves-ne0.false c.if-pairs-gt64.false c.if-results-pairs.false
