-- `links::find_channel` meets its contract: a lookup among what the rows stand for is one among the rows. Assumes nothing.
use Rattle.std.proofs.Common.{take, sym, ap, ◌∙◌, ℕ, Option}
use Rattle.std.specs.Option.{unwrap_or}
use Rattle.links.specs.Links.{id_of, place_of}
use Rattle.links.specs.inner.Tables.{channel_of, key_of}
use Rattle.links.proofs.Rows.{place_map}
use Rattle.links.proofs.Search.{looked_up}
use Rattle.links.proofs.find_channel.Goals as goal

pub returns : goal.returns
returns c =
    let a = c.args in
    c.unwrap_or.ensures
    ∙ ap (λ (o : Option ℕ). unwrap_or o a.used) c.find.ensures
    ∙ looked_up c.from.result a.rows.now a.used c.requires
    ∙ ap (λ (x : ℕ). place_of key_of x (take a.used a.rows.now)) c.from.ensures
    ∙ sym (place_map channel_of id_of a.id.0 (take a.used a.rows.now))
