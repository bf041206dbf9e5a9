-- `links::find_sounder` meets its contract: a lookup among what the rows stand for is one among the rows. Assumes nothing.
use Rattle.std.proofs.Common.{take, sym, ap, ◌∙◌, ℕ, Option}
use Rattle.std.specs.Option.{unwrap_or}
use Rattle.links.specs.Links.{doc_of}
use Rattle.links.specs.inner.Tables.{sounder_of}
use Rattle.links.proofs.Rows.{place_map}
use Rattle.links.proofs.Search.{looked_up}
use Rattle.links.proofs.find_sounder.Goals as goal

pub returns : goal.returns
returns c =
    let a = c.args in
    c.unwrap_or.ensures
    ∙ ap (λ (o : Option ℕ). unwrap_or o a.used) c.find.ensures
    ∙ looked_up a.id.0 a.rows.now a.used c.requires
    ∙ sym (place_map sounder_of doc_of a.id.0 (take a.used a.rows.now))
