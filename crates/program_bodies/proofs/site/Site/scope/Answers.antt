use Rattle.std.proofs.Common.{◌≡◌, ℕ, List, find, sym, ap, ◌∙◌}
use Rattle.type_rules.specs.Scopes.{Local}
use Rattle.type_exprs.specs.declared.scope.Local as tree
use Rattle.type_exprs.specs.Scoped.{local_as}
use Rattle.program_bodies.specs.Bodies.{bears}
use Rattle.program_bodies.specs.Codes.{loop_local}
use Rattle.program_bodies.proofs.SeenNames.{seen_local}
use Rattle.program_bodies.proofs.site.Site.scope.Goals as goal

pub returns : goal.returns
returns c = λ w s.
    let counter : (n : List ℕ) → local_as n c.counter.result.now ≡ loop_local n = λ n.
    ap (λ (l : tree.Local). local_as n l) c.counter.ensures ∙ s.code.counter n in
    record {
      tables = c.rule_tables.ensures w.program s.code;
      home = s.home;
      counter = counter;
      locals = λ n. seen_local c.args.self.loops.now s.own c.counter.result.now c.args.self.body.now.names.locals n (counter n) s.names.locals
          ∙ ap (λ (l : List Local). find (bears n) l) (sym s.locals);
      owner = s.owner;
      in_guard = s.in_guard;
    }
