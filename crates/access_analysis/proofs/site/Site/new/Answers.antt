use Rattle.std.proofs.Common.{ℕ, not, ◌&&◌, List, map, refl, sym, ap, ◌∙◌}
use Rattle.orca_syntax.specs.Shown.{operation, variables}
use Rattle.access_analysis.specs.Sites.{declare, hide}
use Rattle.access_analysis.proofs.Fields.{field_of_operation}
use Rattle.access_analysis.proofs.site.Site.new.Goals as goal

pub returns : goal.returns
returns c = λ us names none.
    let o = operation c.args.operation.now in
    let fs = map variables c.args.of.fields.now in
    record {
      names = names;
      home = refl;
      fields = λ n. field_of_operation us c.args.of.home.now fs o n.text
          ∙ ap (λ (ls : List (List ℕ)). not (hide ls o n.text) && declare fs n.text) (sym none);
    }
