use Rattle.std.proofs.Common.{◌≡◌, List, map, sym, ap, ◌∙◌}
use Rattle.orca_syntax.specs.Shown.{exprs}
use Rattle.meaning_rules.specs.Calls.{fresh_node, modes_of}
use Rattle.code_rules.specs.Instructions.{AddNode, Call, DeleteNode, Shape}
use Rattle.code_rules.specs.Phrases.{call_of, shapes_of}
use Rattle.program_bodies.specs.declared.callees.Callee.{Callee}
use Rattle.program_bodies.specs.Named.{callee_seen}
use Rattle.emitted_code.specs.declared.instr.Instr.{Instr as InstrTree}
use Rattle.emitted_code.specs.Views.{instr_of, shape_of}
use Rattle.code_exprs.proofs.Given.{on_if}
use Rattle.code_exprs.proofs.calls.calling.Goals as goal

pub returns-in-AFunction : goal.returns-in-AFunction
returns-in-AFunction c = λ w l d.
    let es = exprs c.args.given.now in
    let ss = shapes_of w l (modes_of (callee_seen c.args.is)) es in
    ap (Call c.in-AFunction.number) ((c.in_ok-shapes.ensures {u = tt}) w l d)
    ∙ sym (ap (λ (k : Callee). call_of (callee_seen k) (fresh_node w es) ss) c.in-AFunction.is)

pub returns-in-Adds : goal.returns-in-Adds
returns-in-Adds c = λ w l d.
    let es = exprs c.args.given.now in
    let fresh = fresh_node w es in
    let mine = map shape_of c.in_ok-shapes.shapes.items in
    let ss = shapes_of w l (modes_of (callee_seen c.args.is)) es in
    let same : AddNode fresh mine ≡ call_of (callee_seen c.args.is) fresh ss =
    ap (λ (k : List Shape). AddNode fresh k) ((c.in_ok-shapes.ensures {u = tt}) w l d)
    ∙ sym (ap (λ (k : Callee). call_of (callee_seen k) fresh ss) c.in-Adds.is) in
    on_if c.adding.result (λ (i : InstrTree). instr_of i ≡ AddNode fresh mine) (λ (i : InstrTree). instr_of i ≡ call_of (callee_seen c.args.is) fresh ss)
    (λ i e. e ∙ same) (c.adding.ensures w l d)

pub returns-in-Deletes : goal.returns-in-Deletes
returns-in-Deletes c = λ w l d.
    let es = exprs c.args.given.now in
    let ss = shapes_of w l (modes_of (callee_seen c.args.is)) es in
    ap (λ (k : List Shape). DeleteNode k) ((c.in_ok-shapes.ensures {u = tt}) w l d)
    ∙ sym (ap (λ (k : Callee). call_of (callee_seen k) (fresh_node w es) ss) c.in-Deletes.is)

pub returns-in-NoFunction : goal.returns-in-NoFunction
returns-in-NoFunction c = λ w l d.
    let es = exprs c.args.given.now in
    sym (ap (λ (k : Callee). call_of (callee_seen k) (fresh_node w es) (shapes_of w l (modes_of (callee_seen c.args.is)) es)) c.in-NoFunction.is)
