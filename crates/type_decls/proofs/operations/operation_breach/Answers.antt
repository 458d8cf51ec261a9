use Rattle.std.proofs.Common.{cond, ◌&&◌, ◌||◌, List, ◌++◌, map, find, sym, ap, ◌∙◌, append_assoc}
use Rattle.std.specs.Prelude.{bytes_eq, flat_map}
use Rattle.orca_tree.specs.declared.tree.Name.{Name}
use Rattle.orca_syntax.specs.Shown.{operation}
use Rattle.type_rules.specs.declared.names.LocalRole.TheVariants.{Variable}
use Rattle.type_rules.specs.Order.{least}
use Rattle.type_rules.specs.TypePhrases.{data_found}
use Rattle.type_rules.specs.Rules.{are_new, is_among}
use Rattle.type_rules.specs.Scopes.{locals_of, texts, value_local}
use Rattle.type_rules.specs.Declarations.{are_free, body_breaches, field_locals, field_names, implementation_scope, operation_locals, operation_names, operation_view, result_breaches, result_of, values_breaches, variables_breaches}
use Rattle.type_forms.specs.Seen.{has, lent}
use Rattle.type_tables.specs.Entries.{entry}
use Rattle.type_decls.proofs.FieldsLast.{called_own}
use Rattle.type_decls.proofs.FirstOnes.{first_of_pair}
use Rattle.type_decls.proofs.Leaving.{entered, left_locals, left_names}
use Rattle.type_decls.proofs.operations.operation_breach.Goals as goal

pub returns-clause-breaches : goal.returns-clause-breaches
returns-clause-breaches c = λ us ctx fs f g.
    let o = operation c.args.operation.now in
    let m = c.args.home.now in
    let fns = field_names fs in
    let first = ap lent c.deref.ensures.value ∙ c.in_ok-own.ensures {u = tt} in
    let second = ap lent c.deref-2.ensures.value ∙ c.in_ok-own.ensures {u = tt} in
    let named = (c.in_ok-named.ensures {u = tt}) us ctx.tables.typed.forms.names (texts fns) f.names
    ∙ ap (λ (ns : List Name). least (are_new ns ++ are_free us m (texts fns) ns)) first in
    let seen = entered c.args.seen.now.names c.enter.new.names (operation_names o) fns
    (λ n. (c.in_ok-enter.ensures {u = tt}) n ∙ ap (λ (l : List Name). has c.args.seen.now.names n || is_among (texts l) n) second) g.names in
    let w = operation_view us m fs o in
    let rest = values_breaches w o.head.parameters ++ (result_breaches w o.head.result ++ (variables_breaches (data_found w) o.variables
    ++ body_breaches (implementation_scope us m (operation_locals us m fs o) (result_of w o.head.result)) o.body)) in
    first_of_pair c.in_ok-named.named c.in_ok-inside.inside c.lesser.result (are_new (operation_names o)) (are_free us m (texts fns) (operation_names o)) rest c.lesser.ensures named
    ((c.in_ok-inside.ensures {u = tt}).breaches us ctx fs seen g.locals)

pub returns-clause-fields : goal.returns-clause-fields
returns-clause-fields c = λ us ctx fs f g.
    let o = operation c.args.operation.now in
    let m = c.args.home.now in
    let w = operation_view us m fs o in
    let fns = field_names fs in
    let own = operation_names o in
    let vars = flat_map (locals_of Variable (data_found w)) o.variables in
    let given = map (value_local w) o.head.parameters in
    let second = ap lent c.deref-2.ensures.value ∙ c.in_ok-own.ensures {u = tt} in
    let third = ap lent c.deref-3.ensures.value ∙ c.in_ok-own.ensures {u = tt} in
    let fourth = ap lent c.deref-4.ensures.value ∙ c.in_ok-own.ensures {u = tt} in
    let seen = entered c.args.seen.now.names c.enter.new.names own fns
    (λ n. (c.in_ok-enter.ensures {u = tt}) n ∙ ap (λ (l : List Name). has c.args.seen.now.names n || is_among (texts l) n) second) g.names in
    let locals = (c.in_ok-inside.ensures {u = tt}).locals us ctx fs seen g.locals in
    record {
      names = left_names c.enter.new.names c.leave.new.names c.args.fields.now.names own fns
          (λ n. c.leave.ensures n
          ∙ ap (λ (l : List Name). cond (is_among (texts l) n) (has c.args.fields.now.names n && has c.enter.new.names n) (has c.enter.new.names n)) third) seen f.names;
      locals = left_locals c.inside_breach.new.locals c.leave_locals.new.locals c.args.fields.now.locals (texts own) (given ++ vars) (field_locals us m fs)
          (λ n. (c.in_ok-leave_locals.ensures {u = tt}) n
          ∙ ap (λ (l : List Name). cond (is_among (texts l) n) (entry c.args.fields.now.locals n) (entry c.inside_breach.new.locals n)) fourth)
          (called_own w (data_found w) o.head.parameters o.variables)
          (λ n. locals n ∙ ap (find (λ l. bytes_eq l.name n)) (sym (append_assoc given vars (field_locals us m fs)))) f.locals;
    }
