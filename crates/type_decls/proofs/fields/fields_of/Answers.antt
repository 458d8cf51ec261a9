use Rattle.std.proofs.Common.{List, [], map, find, refl, ap, ◌∙◌, rules}
use Rattle.std.specs.Prelude.{bytes_eq}
use Rattle.std.proofs.lemmas.List.{append-nil}
use Rattle.orca_tree.specs.declared.tree.Name.{Name}
use Rattle.orca_syntax.specs.Shown.{variables}
use Rattle.type_rules.specs.Rules.{is_among}
use Rattle.type_rules.specs.Scopes.{texts}
use Rattle.type_rules.specs.Declarations.{fields_view}
use Rattle.type_decls.proofs.fields.fields_of.Goals as goal

pub returns-clause-fields : goal.returns-clause-fields
returns-clause-fields c = λ us t is.
    let fs = map variables c.args.groups.now in
    record {
      names = λ n. (c.in_ok-set.ensures {u = tt}) n ∙ ap (λ (l : List Name). is_among (texts l) n) is;
      locals = λ n. (c.in_ok-first.ensures {u = tt}).locals us t (fields_view us c.args.home.now fs)
          (record { program = refl; home = refl; names = λ m. (c.in_ok-set.ensures {u = tt}) m ∙ ap (λ (l : List Name). is_among (texts l) m) is }) [] (λ m. search rules) n
          ∙ ap (find (λ l. bytes_eq l.name n)) (append-nil _);
    }

pub returns-clause-breaches : goal.returns-clause-breaches
returns-clause-breaches c = λ us t is.
    (c.in_ok-first.ensures {u = tt}).breaches us t (fields_view us c.args.home.now (map variables c.args.groups.now))
    (record { program = refl; home = refl; names = λ n. (c.in_ok-set.ensures {u = tt}) n ∙ ap (λ (l : List Name). is_among (texts l) n) is })
