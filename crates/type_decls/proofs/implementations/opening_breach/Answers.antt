use Rattle.std.proofs.Common.{List, None, false, subst, sym, ap, ◌∙◌}
use Rattle.std.specs.Prelude.{option_map}
use Rattle.orca_tree.specs.declared.tree.Statement.{Statement}
use Rattle.orca_syntax.specs.Shown.{stmts}
use Rattle.type_rules.specs.Order.{least}
use Rattle.type_rules.specs.TypePhrases.{data_found}
use Rattle.type_rules.specs.Statements.{stmts_breaches}
use Rattle.type_rules.specs.Declarations.{field_locals, fields_view, implementation_scope, opening_breaches}
use Rattle.type_forms.specs.Finding.{FirstOf}
use Rattle.type_decls.proofs.FieldsLast.{only_fields}
use Rattle.type_decls.proofs.implementations.opening_breach.Goals as goal

pub returns-in_ok-stmts_breach-in-Some : goal.returns-in_ok-stmts_breach-in-Some
returns-in_ok-stmts_breach-in-Some c = λ us ctx fs al.
    let scope = implementation_scope us c.args.home.now (field_locals us c.args.home.now fs) None false in
    subst (λ o. FirstOf c.in_ok-stmts_breach-in-Some.field-0 (opening_breaches scope (option_map (λ ss. stmts ss.items) o))) (sym c.in-Some.is)
    ((c.in_ok-stmts_breach-in-Some.ensures {u = tt}) scope (c.body-scope.ensures.plain us ctx (field_locals us c.args.home.now fs) al (only_fields (data_found (fields_view us c.args.home.now fs)) fs))
    ∙ ap (λ (l : List Statement). least (stmts_breaches scope (stmts l))) c.deref.ensures.value)
