use Rattle.std.proofs.Common.{◌+◌, ◌∷◌, List, Option, drop, sym, subst, arith}
use Rattle.type_rules.specs.declared.types.DataType.{DataType}
use Rattle.type_rules.specs.Scopes.{Local}
use Rattle.code_rules.specs.Bodies.{variable_code, variables_code}
use Rattle.emitted_code.specs.Appends.{Appends}
use Rattle.emitted_code.specs.Views.{code_of}
use Rattle.code_exprs.proofs.Pieces.{nothing}
use Rattle.code_units.specs.Makes.{known_object}
use Rattle.code_units.proofs.Made.{local_there, no_locals}
use Rattle.code_units.proofs.processes.emit_variables.Goals as goal

pub own-preserved : goal.own-preserved
own-preserved c = record {
  few = omega (arith, (c.in_ok-made.ensures {u = tt}).next, c.own.invariant.few);
  code = λ w code typed new h.
      let us = w.program in
      let i = c.own.slot in
      let t = c.index-types-slot.result in
      let n = c.own.made + 1 in
      let old = code_of c.own.out in
      let now = code_of c.emit_variable.new.out in
      let r = local_there w.locals c.args.types.now i t typed c.own-test.true c.index-types-slot.is in
      let rest = variables_code us (drop (i + 1) w.locals) (i + 1) in
      let one : Appends (variable_code us n i (known_object t) rest) old new = (c.in_ok-made.ensures {u = tt}).code us code rest new h in
      let whole : Appends (variables_code us (r.0 ∷ drop (i + 1) w.locals) i n) old new =
      subst (λ (k : Option DataType). Appends (variable_code us n i (known_object k) rest) old new) (sym r.1.0) one in
      c.own.invariant.code w code typed new (subst (λ (k : List Local). Appends (variables_code us k i n) old new) (sym r.1.1) whole);
}

pub returns : goal.returns
returns c = λ w code typed.
    let us = w.program in
    let i = c.own.slot in
    let o = code_of c.own.out in
    c.own.invariant.code w code typed o
    (subst (λ (k : List Local). Appends (variables_code us k i (c.own.made + 1)) o o) (sym (no_locals w.locals c.args.types.now i typed c.own-test.false)) (nothing o))
