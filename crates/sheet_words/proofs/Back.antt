-- What is taken from the text of a request is the request. Assumes nothing.
use mathlib.Core.Path.{◌≡◌, ap, ◌∙◌}
use mathlib.Core.List.{List, [], ◌∷◌, ◌++◌, append_assoc}
use Prim.Native.Nat.{ℕ, suc, ◌+◌, ◌*◌, ◌≤◌}
use native.Mathlib.Omega.{arith}
use borrow.Author.Tests.{ne_eqb}
use lib.ListN.{length, drop, length-append}
use Rattle.model.specs.Ascii.{ascii}
use Rattle.model.specs.Text.{decimal, words, line, Request, text_of, InBounds, word_room, number_at, words_at, factor_place, request_of}
use Rattle.sheet_words.proofs.Reading.{on, past, number_read, words_read, words-length, words_many}

line_then : (name says rest : List ℕ) → line name says ++ rest ≡ name ++ (says ++ 10 ∷ rest)
line_then name says rest = append_assoc (name ++ says) (10 ∷ []) rest ∙ append_assoc name says (10 ∷ rest)

regroup : (a b c d e : List ℕ) → a ++ b ++ c ++ d ++ e ≡ a ++ (b ++ (c ++ (d ++ e)))
regroup a b c d e = simp append_assoc

-- the text of a request, what is said first and then the rest
module _ (r : Request) where
  abbrev from-factor : List ℕ
  from-factor = 61 ∷ words r.factor ++ 10 ∷ []

  abbrev from-form : List ℕ
  from-form = 61 ∷ words r.form ++ 10 ∷ 117 ∷ from-factor

  abbrev from-to : List ℕ
  from-to = decimal r.to ++ 10 ∷ 116 ∷ from-form

  abbrev from-from : List ℕ
  from-from = decimal r.from ++ 10 ∷ (ascii "to=" ++ from-to)

  abbrev pub from-n : List ℕ
  from-n = decimal r.n ++ 10 ∷ (ascii "from=" ++ from-from)

  pub nested : text_of r ≡ ascii "n=" ++ from-n
  unfolding text_of
  nested =
      regroup (line (ascii "n=") (decimal r.n)) (line (ascii "from=") (decimal r.from)) (line (ascii "to=") (decimal r.to))
      (line (ascii "t=") (words r.form)) (line (ascii "u=") (words r.factor))
      ∙ line_then (ascii "n=") (decimal r.n) _
      ∙ ap (λ (m : List ℕ). ascii "n=" ++ (decimal r.n ++ 10 ∷ m))
      (line_then (ascii "from=") (decimal r.from) _
      ∙ ap (λ (m : List ℕ). ascii "from=" ++ (decimal r.from ++ 10 ∷ m))
      (line_then (ascii "to=") (decimal r.to) _
      ∙ ap (λ (m : List ℕ). ascii "to=" ++ (decimal r.to ++ 10 ∷ m))
      (line_then (ascii "t=") (words r.form) _
      ∙ ap (λ (m : List ℕ). ascii "t=" ++ (words r.form ++ 10 ∷ m)) (append_assoc (ascii "u=") (words r.factor) (10 ∷ [])))))

-- the places of the three numbers and of the two rows of words
module _ (s : List ℕ) (r : Request) (b : InBounds r) (e : s ≡ text_of r) where
  at_n : drop 2 s ≡ from-n r
  at_n = rw (e, nested r)

  n_read : number_at s 4 0 2 ≡ record { value = r.n; next = 2 + length (decimal r.n) }
  n_read = number_read s (ascii "from=" ++ from-from r) r.n 2 b.n at_n

  at_from : drop (2 + length (decimal r.n) + 6) s ≡ from-from r
  at_from = past s 2 6 (decimal r.n) (10 ∷ (ascii "from=" ++ from-from r)) at_n

  from_read : (p : ℕ) → drop p s ≡ from-from r → number_at s 4 0 p ≡ record { value = r.from; next = p + length (decimal r.from) }
  from_read p h = number_read s (ascii "to=" ++ from-to r) r.from p b.from h

  at-to : (p : ℕ) → drop p s ≡ from-from r → drop (p + length (decimal r.from) + 4) s ≡ from-to r
  at-to p h = past s p 4 (decimal r.from) (10 ∷ (ascii "to=" ++ from-to r)) h

  to_read : (p : ℕ) → drop p s ≡ from-to r → number_at s 4 0 p ≡ record { value = r.to; next = p + length (decimal r.to) }
  to_read p h = number_read s (116 ∷ from-form r) r.to p b.to h

  at-form : (p : ℕ) → drop p s ≡ from-to r → drop (p + length (decimal r.to) + 2) s ≡ from-form r
  at-form p h = past s p 2 (decimal r.to) (10 ∷ 116 ∷ from-form r) h

  form_read : (k p : ℕ) → length r.form ≤ k → drop p s ≡ from-form r → words_at s k p ≡ r.form
  form_read k p h g = words_read s (117 ∷ from-factor r) r.form k p b.form h g

  factor_read : (k p : ℕ) → length r.factor ≤ k → drop p s ≡ from-factor r → words_at s k p ≡ r.factor
  factor_read k p h g = words_read s [] r.factor k p b.factor h g

-- the factor's `=` stands three after the form's where there are no words, else two after the words' end
place_none : (p : ℕ) → factor_place p 0 ≡ p + 3
unfolding factor_place
place_none p = omega arith

place-some : (p w : ℕ) (ws : List ℕ) → factor_place p (length (w ∷ ws)) ≡ p + length (61 ∷ words (w ∷ ws)) + 2
unfolding factor_place
place-some p w ws = rw (ne_eqb (suc (length ws)) 0 (λ z. omega arith)) (omega (arith, words-length w ws))

at-factor : (s ws l : List ℕ) (p : ℕ) → drop p s ≡ 61 ∷ words ws ++ 10 ∷ 117 ∷ l → drop (factor_place p (length ws)) s ≡ l
unfolding words
at-factor s [] l p h = rw (place_none p) (on s p 3 (61 ∷ 10 ∷ 117 ∷ l) h)
at-factor s (w ∷ ws) l p h = rw (place-some p w ws) (past s p 2 (61 ∷ words (w ∷ ws)) (10 ∷ 117 ∷ l) h)

-- 40,000 bytes hold 2352 words at most
many : (r : Request) → InBounds r → 17 * length r.form + 17 * length r.factor ≤ 40000
many r b =
    let n : length (text_of r) ≡ length (ascii "n=" ++ from-n r) = ap length (nested r) in
    let m = simp length-append at n in
    omega (arith, b.bytes, m, words_many r.form, words_many r.factor)

pub back : (s : List ℕ) (r : Request) → InBounds r → s ≡ text_of r → request_of s ≡ r
unfolding request_of
back s r b e =
    let p = 2 + length (decimal r.n) + 6 in
    let q = p + length (decimal r.from) + 4 in
    let t = q + length (decimal r.to) + 2 in
    let at-q = at-to s r b e p (at_from s r b e) in
    let at-t = at-form s r b e q at-q in
    let m = many r b in
    rw (
      n_read s r b e,
      from_read s r b e p (at_from s r b e),
      to_read s r b e q at-q,
      form_read s r b e word_room t (omega arith) at-t,
      factor_read s r b e word_room (factor_place t (length r.form)) (omega arith) (at-factor s r.form (from-factor r) t at-t),
    )
