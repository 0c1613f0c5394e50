-- The rule on lists of moves covers lists of moves at once: such a list is the single moves of its pairs, each with the factor as the one before left it. Assumes nothing.
use mathlib.Core.Path.{◌≡◌, refl, ap, ap₂, ◌∙◌}
use Prim.Native.Nat.{ℕ, ◌+◌}
use mathlib.Core.Bool.{false, cond}
use mathlib.Core.List.{List, [], ◌∷◌, ◌++◌}
use lib.Dec.{eqb}
use lib.ListN.{length}
use lib.Ieee.{Float, Format}
use Rattle.model.specs.Lists.{Pair, pairs, list_line, Listed, one_more, in_turn, list_call}
use Rattle.model.specs.Move.{move_call}
use Rattle.laws_moves.specs.Lists as moves
use Rattle.laws_moves.specs.Lists.{Move, Fed, fed_of}
use Rattle.laws_moves.proofs.Lists.{lists_of_moves}
use Rattle.laws_stride.proofs.Tests.{branch}
use Rattle.laws_stride.proofs.Strides.{rows-beyond}
use Rattle.laws_lists.specs.Rule.{Call, single, a_list, form_called, form_after, fed_pairs, fed_call, fed, ListsOfCalls}

-- ---- one list of single moves after another

moves_after : (f : Format) (ld n : ℕ) (p q : List Move) (t : List Float) → moves.form_after f ld n (p ++ q) t ≡ moves.form_after f ld n q (moves.form_after f ld n p t)
unfolding moves.form_after
moves_after f ld n [] q t = refl
moves_after f ld n (m ∷ p) q t = moves_after f ld n p q (moves.form_moved f ld n m t)

fed_after : (p q : List Move) → moves.fed (p ++ q) ≡ moves.fed p ++ moves.fed q
unfolding moves.fed
fed_after [] q = refl
fed_after (m ∷ p) q = ap (λ (x : List Fed). fed_of m ∷ x) (fed_after p q)

module _ (f : Format) (ld n : ℕ) where
  -- ---- a list of moves at once

  in_pairs : List Pair → List Float → List Float → List Move
  in_pairs [] t u = []
  in_pairs (q ∷ qs) t u = let m = move_call f ld n t u q.from q.to in record { stops = false; from = q.from; to = q.to; factor = u } ∷ in_pairs qs m.form m.factor

  pairs_after : (qs : List Pair) (p : ℕ) (s : Listed) → moves.form_after f ld n (in_pairs qs s.form s.factor) s.form ≡ (in_turn f ld n qs p s).form
  unfolding in_pairs moves.form_after moves.form_moved in_turn one_more
  pairs_after [] p s = refl
  pairs_after (q ∷ qs) p s = pairs_after qs (p + 4) (one_more f ld n q p s)

  -- a call leaves the factor as long as it was
  pairs_fed : (qs : List Pair) (t u : List Float) → moves.fed (in_pairs qs t u) ≡ fed_pairs (length u) qs
  unfolding in_pairs moves.fed fed_pairs
  pairs_fed [] t u = refl
  pairs_fed (q ∷ qs) t u =
      let m = move_call f ld n t u q.from q.to in
      ap (λ (x : List Fed). record { from = q.from; to = q.to; factor_length = length u } ∷ x)
      (pairs_fed qs m.form m.factor ∙ ap (λ (k : ℕ). fed_pairs k qs) (rows-beyond.move_factor f ld n t u q.from q.to).size)

  -- ---- any call

  in_moves : Call → List Float → List Move
  in_moves (single m) t = m ∷ []
  in_moves (a_list ms u rs) t = cond (eqb (list_line ms rs) 0) (in_pairs (pairs ms) t u) []

  one_after : (c : Call) (t : List Float) → moves.form_after f ld n (in_moves c t) t ≡ form_called f ld n c t
  unfolding in_moves moves.form_after form_called list_call
  one_after (single m) t = refl
  one_after (a_list ms u rs) t = branch (λ (x : List Move) (y : Listed). moves.form_after f ld n x t ≡ y.form) (eqb (list_line ms rs) 0) refl (λ _. pairs_after (pairs ms) 0 _) (λ _. refl)

  one_fed : (c : Call) (t : List Float) → moves.fed (in_moves c t) ≡ fed_call c
  unfolding in_moves moves.fed fed_call
  one_fed (single m) t = refl
  one_fed (a_list ms u rs) t = branch (λ (x : List Move) (y : List Fed). moves.fed x ≡ y) (eqb (list_line ms rs) 0) refl (λ _. pairs_fed (pairs ms) t u) (λ _. refl)

  -- ---- lists of calls

  all_moves : List Call → List Float → List Move
  all_moves [] t = []
  all_moves (c ∷ cs) t = in_moves c t ++ all_moves cs (form_called f ld n c t)

  all_after : (cs : List Call) (t : List Float) → moves.form_after f ld n (all_moves cs t) t ≡ form_after f ld n cs t
  unfolding all_moves moves.form_after form_after
  all_after [] t = refl
  all_after (c ∷ cs) t =
      let e = form_called f ld n c t in
      moves_after f ld n (in_moves c t) (all_moves cs e) t ∙ ap (moves.form_after f ld n (all_moves cs e)) (one_after c t) ∙ all_after cs e

  all_fed : (cs : List Call) (t : List Float) → moves.fed (all_moves cs t) ≡ fed cs
  unfolding all_moves moves.fed fed
  all_fed [] t = refl
  all_fed (c ∷ cs) t = let e = form_called f ld n c t in fed_after (in_moves c t) (all_moves cs e) ∙ ap₂ ◌++◌ (one_fed c t) (all_fed cs e)

pub lists_of_calls : ListsOfCalls
lists_of_calls f ld md n a b p q ha hb same different numbers =
    rw (← all_fed f ld n p a, ← all_fed f md n q b, ← all_after f ld n p a, ← all_after f md n q b)
    (lists_of_moves f ld md n a b (all_moves f ld n p a) (all_moves f md n q b) ha hb same different numbers)
