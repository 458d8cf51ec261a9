use Rattle.std.proofs.Common.{List, map, refl, sym, ap, ◌∙◌}
use Rattle.orca_tree.specs.declared.tree.Name.{Name}
use Rattle.orca_tree.specs.declared.tree.Statement.{Statement}
use Rattle.orca_syntax.specs.Shown.{block, parameter, stmts}
use Rattle.type_rules.specs.Constants.{View}
use Rattle.type_rules.specs.Rules.{is_among}
use Rattle.type_rules.specs.Scopes.{texts}
use Rattle.type_forms.specs.Seen.{lent}
use Rattle.program_bodies.proofs.blocks.block_code.Goals as goal

pub returns : goal.returns
returns c = λ us t w is gives.
    let ps = map parameter c.args.parameters.now in
    let b = block c.args.body.now in
    let seen = ap lent c.deref.ensures.value ∙ c.in_ok-own.ensures {u = tt} in
    let names = (c.in_ok-names.ensures {u = tt}) us t w
    (record {
      program = ap (λ (x : View). x.program) is;
      home = ap (λ (x : View). x.home) is;
      names = λ n. (c.in_ok-set.ensures {u = tt}) n ∙ ap (λ (l : List Name). is_among (texts l) n) seen ∙ sym (ap (λ (x : View). is_among x.names n) is);
    }) in
    record {
      body = record { home = refl; owner = refl; names = names };
      statements = ap (λ (l : List Statement). stmts l) c.deref-2.ensures.value;
      has_result = refl;
    }
