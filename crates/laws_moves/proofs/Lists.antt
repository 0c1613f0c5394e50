-- The rule on lists of moves of either kind: after a list, the number in row i of the diagonal is the first form's, in the row that the row list has at i. Both directions follow, and the rule of 01's move alone. Assumes nothing.
use mathlib.Core.Path.{◌≡◌, refl, sym, ap, ◌∙◌}
use Prim.Native.Nat.{ℕ, ◌<◌}
use native.Mathlib.Nat.{zero-add}
use native.Mathlib.Decide.{ℕ_discrete}
use native.Mathlib.Omega.{arith}
use mathlib.Core.Bool.{false}
use mathlib.Core.List.{List, [], ◌∷◌}
use lib.ListN.{get_or}
use lib.Seq.{ext_get_or}
use lib.Ieee.{Float, Format, to_bits}
use Rattle.laws_moves.specs.Lists.{Move, form_moved, form_after, fed, count_from, rows_after, row_list, Triangular, bits_at, PairwiseDifferentBits, ListsOfMoves, PlainMove, form_after_moves, fed_moves, ListsOfOneKind}
use Rattle.laws_moves.proofs.Upper.{upper}
use Rattle.laws_moves.proofs.Rows.{Tracks, count-length, count_at}
use Rattle.laws_moves.proofs.Move.{call_tracks}

list_tracks : (f : Format) (ld n : ℕ) (p : List Move) (a t : List Float) (rs : List ℕ) → Tracks f ld n a t rs → Tracks f ld n a (form_after f ld n p t) (rows_after ld n (fed p) rs)
unfolding form_after rows_after fed
list_tracks f ld n [] a t rs k = k
list_tracks f ld n (m ∷ p) a t rs k = list_tracks f ld n p a _ _ (call_tracks f ld n m a t rs k)

pub begins : (f : Format) (ld n : ℕ) (a : List Float) → Triangular f ld n a → Tracks f ld n a a (count_from n 0)
begins f ld n a h = record { upper = upper f ld n a h; size = count-length n 0; inside = λ i l. rw (itself i l) l; row = λ i l. rw (itself i l) }
  where
    itself : (i : ℕ) → i < n → get_or (count_from n 0) i 0 ≡ i
    itself i l = count_at n 0 i l ∙ zero-add i

pub diagonal_after : (f : Format) (ld n : ℕ) (p : List Move) (a : List Float) → Triangular f ld n a → Tracks f ld n a (form_after f ld n p a) (row_list ld n (fed p))
unfolding row_list
diagonal_after f ld n p a h = list_tracks f ld n p a a (count_from n 0) (begins f ld n a h)

same_row : (f : Format) (ld n : ℕ) (a : List Float) → PairwiseDifferentBits f ld n a → (i j : ℕ) → i < n → j < n → bits_at f ld a i ≡ bits_at f ld a j → i ≡ j
same_row f ld n a different i j g h e = elim (ℕ_discrete i j) [ yes p ↦ p | no p ↦ absurd (different i j g h (omega arith) e) ]

-- The proof needs no number of the diagonal to be other than a NaN: a move copies them as they are. The claim asks for it since a NaN's bits are not settled.
pub lists_of_moves : ListsOfMoves
lists_of_moves f ld md n a b p q ha hb same different _ = (
  λ ends. ext_get_or 0 rp rq (P.size ∙ sym Q.size) (λ i l. let h : i < n = rw P.size at l in one-row i h (ends i h)),
  λ rows i h. bits_p i h ∙ ap (λ (rs : List ℕ). bits_at f ld a (get_or rs i 0)) rows ∙ sym (bits_q i h),
)
  where
    rp : List ℕ
    rp = row_list ld n (fed p)

    rq : List ℕ
    rq = row_list md n (fed q)

    P : Tracks f ld n a (form_after f ld n p a) rp
    P = diagonal_after f ld n p a ha

    Q : Tracks f md n b (form_after f md n q b) rq
    Q = diagonal_after f md n q b hb

    -- both ends, in the bits of a's diagonal
    bits_p : (i : ℕ) → i < n → bits_at f ld (form_after f ld n p a) i ≡ bits_at f ld a (get_or rp i 0)
    bits_p i h = ap (to_bits f) (P.row i h)

    bits_q : (i : ℕ) → i < n → bits_at f md (form_after f md n q b) i ≡ bits_at f ld a (get_or rq i 0)
    bits_q i h = let r = get_or rq i 0 in let e : bits_at f ld a r ≡ bits_at f md b r = same r (Q.inside i h) in ap (to_bits f) (Q.row i h) ∙ sym e

    one-row : (i : ℕ) → i < n → bits_at f ld (form_after f ld n p a) i ≡ bits_at f md (form_after f md n q b) i → get_or rp i 0 ≡ get_or rq i 0
    one-row i h e = same_row f ld n a different (get_or rp i 0) (get_or rq i 0) (P.inside i h) (Q.inside i h) (sym (bits_p i h) ∙ e ∙ bits_q i h)

-- ---- lists of 01's move alone are lists of either kind, in which no move is of the kind that stops

abbrev plain : PlainMove → Move
plain m = record { stops = false; from = m.from; to = m.to; factor = m.factor }

plains : List PlainMove → List Move
plains [] = []
plains (m ∷ ms) = plain m ∷ plains ms

form_after_lem : (f : Format) (ld n : ℕ) (p : List PlainMove) (t : List Float) → form_after f ld n (plains p) t ≡ form_after_moves f ld n p t
unfolding form_after form_moved form_after_moves plains
form_after_lem f ld n [] t = refl
form_after_lem f ld n (m ∷ p) t = form_after_lem f ld n p _

fed_alike : (p : List PlainMove) → fed (plains p) ≡ fed_moves p
unfolding fed fed_moves plains
fed_alike [] = refl
fed_alike (m ∷ p) = rw (fed_alike p)

pub lists_of_one_kind : ListsOfOneKind
lists_of_one_kind f ld md n a b p q ha hb same different numbers =
    rw (← fed_alike p, ← fed_alike q, ← form_after_lem f ld n p a, ← form_after_lem f md n q b) (lists_of_moves f ld md n a b (plains p) (plains q) ha hb same different numbers)
