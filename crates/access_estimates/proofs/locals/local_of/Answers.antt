use Rattle.std.proofs.Common.{ℕ, List, ap, ◌∙◌}
use Rattle.type_tables.specs.Entries.{entry}
use Rattle.access_estimates.specs.Collected.{object_by}
use Rattle.access_estimates.proofs.Owning.{local_is}
use Rattle.access_estimates.proofs.locals.local_of.Goals as goal

pub returns : goal.returns
returns c = λ ls are.
    let n = c.args.name.now in
    local_is ls n c.as_str-text.result.now (entry c.args.locals.now n.text) c.object_named.result c.as_str-text.ensures (are n.text)
    (c.object_named.ensures ∙ ap (λ (t : List ℕ). object_by (entry c.args.locals.now t)) c.as_str-text.ensures)
