use Rattle.std.proofs.Common.{Bool, Some, map, refl, subst, sym, ap, ◌∙◌}
use Rattle.std.specs.Prelude.{option_map}
use Rattle.orca_syntax.specs.Shown.{block, kind, parameter}
use Rattle.type_rules.specs.declared.names.Owner.{Owner}
use Rattle.type_rules.specs.TopLevel as tops
use Rattle.type_rules.specs.Scopes.{own_names, view_of}
use Rattle.type_rules.specs.TypePhrases.{data_found}
use Rattle.type_rules.specs.Declarations.{block_scope}
use Rattle.type_forms.specs.Seen.{top, what}
use Rattle.meaning_rules.specs.Programs.{function_owner}
use Rattle.program_bodies.specs.Blocks.{IsBlockCode, Routine, function_in}
use Rattle.program_bodies.specs.Matching.{Both}
use Rattle.program_bodies.proofs.FirstGiven.{some_mapped}
use Rattle.program_bodies.proofs.blocks.function_code.Goals as goal

pub returns-in_ok-code-in-Function : goal.returns-in_ok-code-in-Function
returns-in_ok-code-in-Function c = λ us t.
    let x = c.args.item.now in
    let a = c.in-Function in
    let m = x.by.now in
    let ps = map parameter a.parameters.now in
    let r = option_map kind a.result.now in
    let b = block a.body.now in
    let w = view_of us m (own_names ps b) in
    let code = c.in_ok-code-in-Function.code in
    let runs : Owner → Bool → Routine = λ o h. record { scope = block_scope us m o (data_found w) w ps r b; statements = b.statements; has_result = h } in
    subst (λ (k : tops.What). Both IsBlockCode (Some code) (function_in us (top x) k)) (sym (ap what a.is))
    (subst (λ (h : Bool). IsBlockCode code (runs (function_owner ps) h)) (c.is_some-has_result.ensures ∙ some_mapped kind a.result.now)
    (subst (λ (o : Owner). IsBlockCode code (runs o c.is_some-has_result.result)) c.owner_of-owner.ensures
    ((c.in_ok-code-in-Function.ensures {u = tt}) us t w refl r)))
