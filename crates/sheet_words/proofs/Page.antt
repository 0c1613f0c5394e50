-- One list after another is printed where both are, one after the other. Assumes nothing.
use Rattle.std.proofs.Common.{◌≡◌, ℕ, List, [], ◌++◌, ◌≤◌, length, refl, ◌∙◌, subst, arith}
use Rattle.sheet_words.specs.declared.print.Page.{Page}
use Rattle.sheet_words.specs.Page.{Puts}
use Rattle.sheet_words.proofs.Put.{put-none, put_then}

-- the same list by another name
pub as_text : {a b : Page} {x y : List ℕ} → x ≡ y → Puts a x b → Puts a y b
as_text {a} {b} e p = subst (λ (l : List ℕ). Puts a l b) e p

-- nothing
pub puts_none : {a : Page} → a.at ≤ length a.out.now → Puts a [] a
puts_none {a} h = record { buffer = refl; room = refl; inside = h; put = put-none a.out.now a.at }

pub puts_then : {a b c : Page} {x y : List ℕ} → Puts a x b → Puts b y c → Puts a (x ++ y) c
puts_then {a} {b} {c} {x} {y} p q = record {
  buffer = q.buffer ∙ p.buffer;
  room = q.room ∙ p.room;
  inside = omega (arith, q.inside, p.room);
  put = put_then a.out.now b.out.now c.out.now x y a.at b.at c.at p.put q.put p.inside;
}
