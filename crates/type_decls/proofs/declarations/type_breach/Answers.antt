use Rattle.std.proofs.Common.{ℕ, List, [], ◌++◌, Option, subst, ap, ◌∙◌}
use Rattle.std.specs.Prelude.{flat_map}
use Rattle.orca_tree.specs.declared.tree.Name.{Name}
use Rattle.orca_syntax.specs.Shown as shown
use Rattle.link_rules.specs.Units.{values_of}
use Rattle.type_rules.specs.TopLevel.{number_of}
use Rattle.type_rules.specs.Order.{least}
use Rattle.type_rules.specs.TypePhrases.{declared_type, definition}
use Rattle.type_rules.specs.Scopes.{view_of}
use Rattle.type_rules.specs.Declarations.{holds_no_self, no_main, number_or_none}
use Rattle.type_forms.specs.Finding.{FirstOf}
use Rattle.type_decls.proofs.FirstOnes.{first_of_two}
use Rattle.type_decls.proofs.declarations.type_breach.Goals as goal

pub returns : goal.returns
returns c = λ us ctx.
    let name = c.args.name.now in
    let d = shown.definition c.args.of.now in
    let number = c.number_of-number.ensures us ctx.tables.typed.forms.names ∙ ap (number_of us) c.as_str.ensures in
    let round = subst (λ (i : Option ℕ). FirstOf c.holds_no_self-round.result (holds_no_self us name i)) number (c.holds_no_self-round.ensures us ctx) in
    let inside = subst (λ (i : ℕ). FirstOf c.in_ok-inside.inside (definition (declared_type us) (view_of us c.args.home.now []) i d).breaches)
    (c.number_or_none.ensures ∙ ap number_or_none number) ((c.in_ok-inside.ensures {u = tt}) us ctx) in
    let values = c.none_main-values.ensures ∙ ap (λ (ns : List Name). least (flat_map no_main ns)) c.values_of.ensures in
    let own = (definition (declared_type us) (view_of us c.args.home.now []) (number_or_none (number_of us name.text)) d).breaches in
    let selves = holds_no_self us name (number_of us name.text) in
    let mains = flat_map no_main (values_of d) in
    first_of_two c.no_main.result c.lesser-2.result c.lesser-3.result (no_main name) (mains ++ (selves ++ own)) c.lesser-3.ensures c.no_main.ensures
    (first_of_two c.none_main-values.result c.lesser.result c.lesser-2.result mains (selves ++ own) c.lesser-2.ensures values
    (first_of_two c.holds_no_self-round.result c.in_ok-inside.inside c.lesser.result selves own c.lesser.ensures round inside))
