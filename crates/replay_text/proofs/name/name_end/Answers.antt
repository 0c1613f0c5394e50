-- `replay_text::name::name_end` meets its contract. Assumes nothing.
use Rattle.std.proofs.Common.{◌≡◌, ℕ, ◌≤◌, Bool, true, false, cond, ltb, eqb, List, length, refl, sym, ap, ◌∙◌, arith, rules, tests, ltb-false, Some, None}
use Rattle.std.specs.Option.{unwrap_or}
use Rattle.std.specs.List.{position_or_len}
use Rattle.std.proofs.lemmas.Iterator.{YieldsList-from_slice}
use Rattle.std.proofs.lemmas.Iterator.Search.{position_from_yields_List}
use Rattle.std.proofs.lemmas.List.Recursion.{is_position_or_len}
use Rattle.replay_text.specs.Names.{name_end}
use Rattle.replay_text.proofs.Names.{name_bound}
use Rattle.replay_text.proofs.name.name_end.Goals as goal

is_place : (line : List ℕ) → name_end line ≡ position_or_len (λ b. eqb b 32) line
unfolding name_end
is_place = is_position_or_len name_end (λ b. eqb b 32) refl (λ x xs. ap (cond (eqb x 32) 0) (omega arith))

found : (p n : ℕ) → p ≤ n → unwrap_or (cond (ltb p n) (Some p) None) n ≡ p
found p n h = by (ltb p n) refl
  where
    by : (b : Bool) → ltb p n ≡ b → unwrap_or (cond (ltb p n) (Some p) None) n ≡ p
    by true e = rw e
    by false e = rw e (omega (arith, ltb-false p n e))

pub returns : goal.returns
returns c =
    let line = c.args.line.now in
    let place = position_or_len (λ b. eqb b 32) line in
    c.unwrap_or.ensures
    ∙ ap (λ o. unwrap_or o (length line)) (position_from_yields_List (λ b. eqb b 32) c.position.new.self _ c.position.result c.position.ensures.ran (YieldsList-from_slice line cc) (λ x b q k. search (rules, tests)))
    ∙ found place (length line) (rw (← is_place line) (name_bound line))
    ∙ sym (is_place line)
