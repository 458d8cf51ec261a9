use Rattle.std.proofs.Common.{◌≡◌, List, Option, length, ap, ◌∙◌, arith}
use Rattle.std.proofs.lemmas.List.{length-map}
use Rattle.type_rules.specs.declared.types.DataType.{DataType}
use Rattle.type_rules.specs.Scopes.{Local}
use Rattle.program_bodies.proofs.SeenNames.{seen_count}
use Rattle.program_bodies.proofs.site.Site.count.Goals as goal

pub returns : goal.returns
returns c = λ w s.
    let sum = seen_count w.locals c.args.self.loops.now s.own s.locals in
    let own : length c.args.self.body.now.names.types.items ≡ length s.own =
    ap (λ (ts : List (Option DataType)). length ts) s.names.types ∙ length-map s.own (λ (l : Local). l.type) in
    omega (arith, sum, own, c.len.ensures)
