use Rattle.std.proofs.Common.{ℕ, not, ◌&&◌, List, map, sym, ap, ◌∙◌}
use Rattle.orca_syntax.specs.Shown.{operation, variables}
use Rattle.access_analysis.specs.Loops.{variables_of}
use Rattle.access_analysis.specs.Sites.{declare, hide}
use Rattle.access_analysis.proofs.Fields.{field_in_loop}
use Rattle.access_analysis.proofs.site.Site.in_loops.Goals as goal

pub returns : goal.returns
returns c = λ w s n e.
    let o = operation c.args.self.operation.now in
    let fs = map variables c.args.self.fields.now in
    record {
      names = s.names;
      home = s.home;
      fields = λ m. field_in_loop w n m (variables_of c.args.self.loops.now) o (declare fs m.text) (s.fields m)
          ∙ ap (λ (ls : List (List ℕ)). not (hide ls o m.text) && declare fs m.text) (sym e);
    }
