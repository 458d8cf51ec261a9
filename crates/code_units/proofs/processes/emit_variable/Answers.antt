use Rattle.std.proofs.Common.{ℕ, ◌+◌, Option, Some, sym, ◌∙◌, subst}
use Rattle.orca_base.specs.declared.ids.KindNo.{KindNo}
use Rattle.code_rules.specs.Instructions.{Make, Pop}
use Rattle.code_rules.specs.Pieces.{one, seq}
use Rattle.code_rules.specs.Bodies.{variable_code}
use Rattle.emitted_code.specs.Appends.{Appends}
use Rattle.emitted_code.specs.Views.{code_of}
use Rattle.code_exprs.proofs.Pieces.{then, turned}
use Rattle.code_units.proofs.processes.emit_variable.Goals as goal

pub returns-in-None-clause-code : goal.returns-in-None-clause-code
returns-in-None-clause-code c = λ us code others new h.
    let o = code_of c.args.out.now in
    subst (λ (k : Option ℕ). Appends (variable_code us (c.args.made + 1) c.args.slot k others) o new) (sym c.in-None.is ∙ c.object_type.ensures) h

pub returns-in_ok-emit_make-in-Some-clause-code : goal.returns-in_ok-emit_make-in-Some-clause-code
returns-in_ok-emit_make-in-Some-clause-code c = λ us code others new h.
    let old = code_of c.args.out.now in
    let now = code_of c.emit_make.new.out in
    let n = c.args.made + 1 in
    let slot = c.args.slot in
    let rest = others (n + 1) in
    let made : Appends (seq (one (Make c.kind_at.result n slot)) (seq (one Pop) rest)) old new =
    turned (one (Make c.kind_at.result n slot)) (one Pop) rest old new
    (then (seq (one (Make c.kind_at.result n slot)) (one Pop)) rest old now new (c.in_ok-emit_make-in-Some.ensures {u = tt}) h) in
    let kind : Appends (variable_code us n slot (Some c.in-Some.number) others) old new =
    subst (λ (k : KindNo). Appends (seq (one (Make k n slot)) (seq (one Pop) rest)) old new) (c.kind_at.ensures us code) made in
    subst (λ (k : Option ℕ). Appends (variable_code us n slot k others) old new) (sym c.in-Some.is ∙ c.object_type.ensures) kind
