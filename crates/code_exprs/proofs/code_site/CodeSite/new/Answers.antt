use Rattle.std.proofs.Common.{ℕ, ◌+◌, length, subst, sym, ap, ◌∙◌}
use Rattle.program_bodies.specs.declared.bodies.Body.{Body}
use Rattle.program_bodies.specs.declared.code.Code.{Code}
use Rattle.program_bodies.specs.Bodies.{IsBody}
use Rattle.program_bodies.specs.Codes.{IsCode}
use Rattle.code_exprs.proofs.Slots.{body_site}
use Rattle.code_exprs.proofs.code_site.CodeSite.new.Goals as goal

pub returns : goal.returns
returns c = λ w code body guard.
    let at = c.outer_site-site.ensures in
    body_site (record { site = c.outer_site-site.result; beyond = c.in_ok-beyond.beyond }) w c.args.spare
    (subst (λ (k : Code). IsCode w.program k) (sym at.code) code)
    (subst (λ (b : Body). IsBody b w) (sym at.body) body)
    (guard ∙ sym at.guard) at.loops
    ((c.in_ok-beyond.ensures {u = tt})
    ∙ ap (λ (n : ℕ). n + c.args.spare) (c.len-own.ensures ∙ c.args.body.now.names.types.ok.0)
    ∙ ap (λ (b : Body). length b.names.types.items + c.args.spare) (sym at.body))
