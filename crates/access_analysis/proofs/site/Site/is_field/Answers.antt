use Rattle.std.proofs.Common.{ℕ, Bool, not, ◌&&◌, List, map, sym, ap, ◌∙◌}
use Rattle.orca_syntax.specs.Shown.{operation, variables}
use Rattle.access_analysis.specs.Loops.{variables_of}
use Rattle.access_analysis.specs.Sites.{declare, hide}
use Rattle.access_analysis.proofs.site.Site.is_field.Goals as goal

pub returns-then-hides : goal.returns-then-hides
returns-then-hides c = λ w s.
    let loops = variables_of c.args.self.loops.now in
    let o = operation c.args.self.operation.now in
    let fs = map variables c.args.self.fields.now in
    let n = c.as_str-text.result.now in
    ap (λ (b : Bool). not b && declare fs n) (sym c.if-hides.true ∙ c.hides.ensures)
    ∙ ap (λ (m : List ℕ). not (hide loops o m) && declare fs m) c.as_str-text.ensures
    ∙ sym (s.fields c.args.name.now)

pub returns : goal.returns
returns c = λ w s.
    let loops = variables_of c.args.self.loops.now in
    let o = operation c.args.self.operation.now in
    let fs = map variables c.args.self.fields.now in
    let n = c.as_str-text.result.now in
    c.declares.ensures
    ∙ ap (λ (b : Bool). not b && declare fs n) (sym c.if-hides.false ∙ c.hides.ensures)
    ∙ ap (λ (m : List ℕ). not (hide loops o m) && declare fs m) c.as_str-text.ensures
    ∙ sym (s.fields c.args.name.now)
