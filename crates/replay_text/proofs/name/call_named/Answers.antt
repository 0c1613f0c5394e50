-- `replay_text::name::call_named` meets its contract. Assumes nothing.
use Rattle.std.proofs.Common.{sym, ap, ◌∙◌, rules, tests}
use Rattle.std.specs.Option.{option_and_then}
use Rattle.std.specs.Str.{bytes_eq}
use Rattle.std.proofs.lemmas.Iterator.{YieldsList-from_slice}
use Rattle.std.proofs.lemmas.Iterator.Search.{find_from_yields_List}
use Rattle.replay_text.specs.Names.{name_of, all, call_of, call_named}
use Rattle.replay_text.proofs.name.call_named.Goals as goal

pub returns : goal.returns
unfolding call_named call_of
returns c =
    let whole = c.in_ok-whole.whole in
    c.copied.ensures
    ∙ find_from_yields_List (λ call. bytes_eq whole (name_of call)) c.find.new.self _ c.find.result c.find.ensures.ran (YieldsList-from_slice all cc) (λ x b q k. search (rules, tests))
    ∙ sym (ap (option_and_then call_of) (sym c.padded.ensures ∙ c.in_ok-whole.was))
