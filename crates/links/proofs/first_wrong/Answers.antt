-- `links::first_wrong` meets its contract: the place that the iterator finds is the definition's. Assumes nothing.
use Rattle.std.proofs.Common.{◌≡◌, rules, tests, take, get_or, nat_eq, not, ◌∙◌, ap, sym, length-take-le, length, ℕ, List, Option}
use Rattle.std.proofs.lemmas.Iterator.{YieldsList-from_slice}
use Rattle.std.proofs.lemmas.Iterator.Search.{position_from_yields_List}
use Rattle.std.specs.List.{position, count_by}
use Rattle.std.specs.Option.{unwrap_or}
use Rattle.links.specs.inner.Tables.{key_of}
use Rattle.links.proofs.Search.{found_or, naming_rows, first_wrong_row}
use Rattle.links.proofs.first_wrong.Goals as goal

pub returns : goal.returns
returns c =
    let rows = take c.args.sounders c.args.rows.now in
    let channels = take c.args.channels c.args.channel_rows.now in
    let count = λ (d : ℕ). count_by (λ (r : List ℕ). nat_eq (get_or r 1 0) d) channels in
    let p = λ (r : List ℕ). not (nat_eq (count (key_of r)) (get_or r 1 0)) in
    let many : length rows ≡ c.args.sounders = length-take-le _ _ c.requires.sounders_in_bounds in
    let e : c.position.result ≡ position p rows =
    position_from_yields_List p _ _ c.position.result c.position.ensures.ran (YieldsList-from_slice rows cc) (λ x b q k. search (rules, tests)) in
    c.unwrap_or.ensures ∙ ap (λ (o : Option ℕ). unwrap_or o c.args.sounders) e ∙ ap (unwrap_or (position p rows)) (sym many) ∙ found_or p rows ∙ first_wrong_row _ count (λ d. naming_rows d channels) rows
