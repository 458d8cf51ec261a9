use Rattle.std.proofs.Common.{◌≡◌, ◌+◌, ◌∙◌, List, ℕ, suc, take, map, ap, sym, subst, length, refl, arith}
use Rattle.std.proofs.lemmas.List.{take_all}
use Rattle.std.proofs.lemmas.Option.{slice_get_read}
use Rattle.value_core.specs.declared.action.Line.{Line}
use Rattle.run_ends.specs.Telling.{HasHeard}
use Rattle.world_parts.proofs.Lists.{take_next}
use Rattle.run_ends.proofs.telling.heard.Goals as goal

pub lines-init : goal.lines-init
lines-init g c w is = (c.in_ok-replies.ensures {u = tt}) w is

pub lines-preserved : goal.lines-preserved
lines-preserved g c w is =
    let at = slice_get_read c.args.lines.now (length c.args.lines.now) c.lines.line-index c.line-item.result refl c.lines-test.true c.line-item.is in
    let next : suc c.lines.line-index ≡ c.lines.line-index + 1 = omega arith in
    subst (λ (l : List Line). HasHeard g.P.OneRun.run.frame w l (map (λ v. v.items) c.hear.new.replies.items)) (sym (take_next c.args.lines.now c.lines.line-index c.line-item.result at) ∙ ap (λ (n : ℕ). take n c.args.lines.now) next)
    ((c.in_ok-hear.ensures {u = tt}) w is (take c.lines.line-index c.args.lines.now) (c.lines.invariant w is))

pub returns : goal.returns
returns g c w is = subst (λ (l : List Line). HasHeard g.P.OneRun.run.frame w l (map (λ v. v.items) c.lines.replies.items)) (take_all c.lines.line-index c.args.lines.now (omega arith)) (c.lines.invariant w is)
