-- The small exchanges still to do: what is pushed is next. Assumes nothing.
use mathlib.Core.Path.{◌≡◌, refl, ap, ◌∙◌}
use Prim.Native.Nat.{ℕ}
use mathlib.Core.List.{List, [], ◌∷◌, ◌++◌, map, reverse-append}
use lib.ListN.{length, length-map, length-reverse}
use Rattle.swaps.specs.declared.neighbours.Neighbours.{Neighbours}
use Rattle.laws_exchange.specs.Loop as Loop
use Rattle.exchanges.specs.Todo.{seen, waiting}

pub as_many : (todo : List Neighbours) → length (waiting todo) ≡ length todo
unfolding waiting
as_many todo = simp (length-map, length-reverse)

pub pushed : (todo : List Neighbours) {after : List Neighbours} (s : Neighbours) → after ≡ todo ++ s ∷ [] → waiting after ≡ seen s ∷ waiting todo
unfolding waiting
pushed todo s e = ap waiting e ∙ ap (map seen) (reverse-append todo (s ∷ []))

pub seen_is : (b : Neighbours) {row n1 n2 : ℕ} → (b.row ≡ row) × (b.n1 ≡ n1) × (b.n2 ≡ n2) → seen b ≡ Loop.small row n1 n2
seen_is b e = rw (e.0, e.1, e.2) refl

pub pushed_twice : (todo : List Neighbours) {between after : List Neighbours} (a b : Neighbours) {x y : Loop.Small} → between ≡ todo ++ a ∷ [] → after ≡ between ++ b ∷ [] → seen a ≡ x → seen b ≡ y → waiting after ≡ y ∷ x ∷ waiting todo
pushed_twice todo a b e f i j = pushed _ b f ∙ rw (pushed todo a e, i, j) refl

pub none-waiting : {todo : List Neighbours} → todo ≡ [] → waiting todo ≡ []
unfolding waiting
none-waiting e = ap waiting e
