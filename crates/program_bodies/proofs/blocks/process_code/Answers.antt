use Rattle.std.proofs.Common.{None, Some, map, refl, subst, sym, ap}
use Rattle.orca_syntax.specs.Shown.{block, parameter}
use Rattle.type_rules.specs.TopLevel as tops
use Rattle.type_rules.specs.Scopes.{own_names, view_of}
use Rattle.type_forms.specs.Seen.{top, what}
use Rattle.program_bodies.specs.Blocks.{IsBlockCode, process_in}
use Rattle.program_bodies.specs.Matching.{Both}
use Rattle.program_bodies.proofs.blocks.process_code.Goals as goal

pub returns-in_ok-code-in-Process : goal.returns-in_ok-code-in-Process
returns-in_ok-code-in-Process c = λ us t.
    let x = c.args.item.now in
    let a = c.in-Process in
    let w = view_of us x.by.now (own_names (map parameter a.parameters.now) (block a.body.now)) in
    subst (λ (k : tops.What). Both IsBlockCode (Some c.in_ok-code-in-Process.code) (process_in us (top x) k)) (sym (ap what a.is))
    ((c.in_ok-code-in-Process.ensures {u = tt}) us t w refl None)
