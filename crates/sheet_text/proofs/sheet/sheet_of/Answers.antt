-- `sheet_text::sheet::sheet_of` meets its contract. Assumes nothing.
use Rattle.std.proofs.Common.{◌≡◌, ◌∙◌, ◌≤◌, ℕ, List, Result, IfOk, IfErr, length, replicate, subst, rules, arith}
use Rattle.std.proofs.lemmas.Result.{IfOk-weaker, IfErr-weaker}
use Rattle.model.specs.Text.{answer_line}
use Rattle.refusal.specs.Line.{line}
use Rattle.refusal.specs.declared.Refusal.{Refusal}
use Rattle.sheet_words.specs.Put.{Put}
use Rattle.sheet_text.proofs.Whole.{few, its_move}
use Rattle.sheet_text.proofs.sheet.sheet_of.Goals as goal

-- what was printed on a buffer of zeros is the sheet
its_sheet : (r : Result ℕ Refusal) (before zeros after text sheet : List ℕ) → before ≡ zeros → text ≡ sheet
    → IfOk r (λ n. (n ≤ length after) × Put before 0 text after n) → IfOk r (λ n. Put zeros 0 sheet after n)
its_sheet r before zeros after text sheet e f h =
    IfOk-weaker r (λ n. (n ≤ length after) × Put before 0 text after n) (λ n. Put zeros 0 sheet after n)
    (λ n k. subst (λ (l : List ℕ). Put zeros 0 l after n) f (subst (λ (l : List ℕ). Put l 0 text after n) e k.1))
    h

its_refusal : (r : Result ℕ Refusal) (before zeros after text sheet : List ℕ) → before ≡ zeros → text ≡ sheet
    → IfErr r (λ e. (after ≡ before) × (answer_line (line e) ≡ text)) → IfErr r (λ e. (after ≡ zeros) × (answer_line (line e) ≡ sheet))
its_refusal r before zeros after text sheet e f h =
    IfErr-weaker r (λ d. (after ≡ before) × (answer_line (line d) ≡ text)) (λ d. (after ≡ zeros) × (answer_line (line d) ≡ sheet))
    (λ d k. (k.0 ∙ e, k.1 ∙ f))
    h

pub run-requires : goal.run-requires
run-requires c = let f = c.in_ok-found.ensures.ok in let w = few _ _ f.0 in (omega (arith, c.fill.ensures.len), w.0, w.1)

pub returns-clause-ok : goal.returns-clause-ok
returns-clause-ok c =
    let f = c.in_ok-found.ensures.ok in
    let zeros : c.fill.new.self ≡ replicate (length c.args.out.now) 0 = search rules in
    its_sheet _ _ _ _ _ _ zeros (its_move _ _ f.0 f.1 f.2 f.3) c.run.ensures.ok

pub returns-clause-err : goal.returns-clause-err
returns-clause-err c =
    let f = c.in_ok-found.ensures.ok in
    let zeros : c.fill.new.self ≡ replicate (length c.args.out.now) 0 = search rules in
    its_refusal _ _ _ _ _ _ zeros (its_move _ _ f.0 f.1 f.2 f.3) c.run.ensures.err
