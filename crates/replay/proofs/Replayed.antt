-- What the definitions of a line and of the input say, step by step. Assumes nothing.
use mathlib.Core.Path.{◌≡◌, refl, sym, ap, ◌∙◌}
use Prim.Native.Nat.{ℕ, ◌+◌, ◌-◌, ◌≤◌, ◌<◌}
use native.Mathlib.Numerals.{add-one}
use native.Mathlib.Omega.{arith}
use mathlib.Core.List.{List, [], ◌∷◌, ◌++◌}
use lib.ListN.{length, get_or, take, drop, drop_of_length-le}
use lib.Seq.{drop-cons}
use borrow.Author.Tests.{ne_eqb}
use Rattle.std.proofs.Common.{Option, Some, None}
use Rattle.replay_text.specs.Text.{Read, words_of}
use Rattle.replay_text.specs.Names.{call_named}
use Rattle.replay_text.specs.declared.name.Call.{Call}
use Rattle.replay_text.specs.declared.outcome.Outcome.{Outcome}
use Rattle.replay_text.proofs.Found.{Fit, fit}
use Rattle.replay.specs.Table.{shown}
use Rattle.replay.specs.Replayed.{State, Leads, shown_by, taken, taken_all}

-- ---- a line

-- the words that were found have room, and name and index lie inside a line that has words
module _
    (line words out : List ℕ) (end n : ℕ) (found : Option ℕ)
    (holds : record { found = found; out = out } ≡ words_of line end words) (some : found ≡ Some n)
  where
    words-fit : Fit line (length words) end 0 n
    words-fit = fit line end words n (sym (ap (λ (r : Read). r.found) holds) ∙ some)

    pub words_room : n ≤ length words
    words_room = omega (arith, words-fit.room)

    pub index_inside : 0 < n → end + 17 ≤ length line
    index_inside h = omega (arith, words-fit.all)

-- by what was found of its words, and the call that it names
module _
    (line words out : List ℕ) (end : ℕ) (call : Option Call) (found : Option ℕ)
    (calls : call ≡ call_named (take end line)) (holds : record { found = found; out = out } ≡ words_of line end words)
  where
    no_words : (k : Option Call) → found ≡ None → None ≡ shown_by k (record { found = found; out = out })
    unfolding shown_by
    no_words (Some c) e = rw e
    no_words None e = refl

    no_index : (k : Option Call) (n : ℕ) → found ≡ Some n → n ≡ 0 → None ≡ shown_by k (record { found = found; out = out })
    unfolding shown_by
    no_index (Some c) n e h = rw (e, h)
    no_index None n e h = refl

    pub without_words : found ≡ None → None ≡ shown_by (call_named (take end line)) (words_of line end words)
    without_words e = rw (← calls, ← holds) (no_words call e)

    pub without_index : (n : ℕ) → found ≡ Some n → n ≡ 0 → None ≡ shown_by (call_named (take end line)) (words_of line end words)
    without_index n e h = rw (← calls, ← holds) (no_index call n e h)

    pub without_call : call ≡ None → None ≡ shown_by (call_named (take end line)) (words_of line end words)
    unfolding shown_by
    without_call e = rw (← calls, e)

    pub as_shown : (c : Call) (n : ℕ) → call ≡ Some c → found ≡ Some n → 0 < n → (o : Outcome) → o ≡ shown c (take (n - 1) (drop 1 out))
        → Some (c, o) ≡ shown_by (call_named (take end line)) (words_of line end words)
    unfolding shown_by
    as_shown c n e f h o is = rw (← calls, ← holds, e, f, ne_eqb n 0 (λ z. omega arith), is)

-- ---- the input

pub all-next : (bs : List ℕ) (i : ℕ) (s : State) → i < length bs → taken_all (drop (i + 1) bs) (taken (get_or bs i 0) s) ≡ taken_all (drop i bs) s
unfolding taken_all
all-next bs i s h = rw (add-one, drop-cons bs i 0 h)

pub all_none : (bs : List ℕ) (i : ℕ) (s : State) → length bs ≤ i → taken_all (drop i bs) s ≡ s
unfolding taken_all
all_none bs i s h = rw (drop_of_length-le bs {i = i} h)

all_append : (xs bs : List ℕ) (s : State) → taken_all (xs ++ bs) s ≡ taken_all bs (taken_all xs s)
unfolding taken_all
all_append [] bs s = refl
all_append (x ∷ xs) bs s = all_append xs bs (taken x s)

pub leads_none : (s : State) → Leads s s
unfolding taken_all
leads_none s = record { input = []; is = refl }

pub leads_more : {s t u : State} (bs : List ℕ) → Leads s t → u ≡ taken_all bs t → Leads s u
leads_more {s} {t} {u} bs l e =
    record { input = l.input ++ bs; is = e ∙ ap (taken_all bs) l.is ∙ sym (all_append l.input bs s) }
