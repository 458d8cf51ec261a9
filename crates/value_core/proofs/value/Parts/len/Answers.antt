use Rattle.std.proofs.Common.{◌≡◌, length, ap, ◌∙◌, sym, arith}
use Rattle.value_core.specs.Datum.{list_of}
use Rattle.value_core.proofs.Lists.{list_in, length_in}
use Rattle.value_core.proofs.value.Parts.len.Goals as goal

pub returns-clause-len : goal.returns-clause-len
returns-clause-len c = let vs = c.self.inside.items.items in c.len.ensures ∙ c.self.inside.items.ok.0 ∙ sym (length_in vs) ∙ ap length (sym (list_in vs c.args.self.now c.self.view_is))

pub returns-clause-few : goal.returns-clause-few
returns-clause-few c =
    let vs = c.self.inside.items.items in
    let shown : length (list_of c.args.self.now) ≡ length vs = ap length (list_in vs c.args.self.now c.self.view_is) ∙ length_in vs in
    omega (arith, shown, c.self.inside.items.ok.0, c.self.inside.items.ok.1, c.self.inside.items.small)
