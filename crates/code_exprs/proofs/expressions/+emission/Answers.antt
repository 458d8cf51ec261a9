use Rattle.std.proofs.Common.{◌≡◌, ℕ, ◌+◌, List, Option, drop, set, sym, ap, ◌∙◌, subst}
use Rattle.std.proofs.Math.ListN.{drop_of_length-le}
use Rattle.orca_tree.specs.declared.tree.Expression.{Expression}
use Rattle.orca_tree.specs.declared.tree.Link.{Link}
use Rattle.orca_tree.specs.declared.tree.Selector.{Selector}
use Rattle.orca_syntax.specs.Shown.{expr, exprs, links, path, step}
use Rattle.orca_syntax.specs.Syntax as syn
use Rattle.orca_syntax.specs.Syntax.{Expr}
use Rattle.orca_syntax.proofs.ShownLaws.{call_is, chain_is, from_is, get_is, invoke_is}
use Rattle.type_rules.specs.declared.types.DataType.{DataType}
use Rattle.type_forms.proofs.Loops.{rest_is}
use Rattle.meaning_rules.specs.Calls as calls
use Rattle.meaning_rules.specs.Calls.{callee, first_mode, fresh_node, modes_of}
use Rattle.meaning_rules.specs.Designators.{root_type}
use Rattle.orca_tree.specs.declared.tree.Mode.{Mode}
use Rattle.code_rules.specs.Instructions.{Instr, Mark, Least}
use Rattle.code_rules.specs.Phrases as rules
use Rattle.code_rules.specs.Pieces.{is_short, link_piece, one, seq}
use Rattle.code_rules.specs.Phrases.{all_code, at_slot, by_mode, call_of, calling, expr_code, invoking, links_code, passed_code, path_code, reading, shapes_of, step_code, target_code}
use Rattle.program_bodies.specs.Named.{callee_seen}
use Rattle.emitted_code.specs.Appends.{Appends}
use Rattle.emitted_code.specs.Views.{code_of, instr_of, marks_of}
use Rattle.code_exprs.proofs.Pieces.{nothing, same, short_made, then, then_ok}
use Rattle.code_exprs.proofs.Rows.{by_value, count_is, drop_once, out_first}
use Rattle.code_exprs.proofs.expressions.+emission.Goals as goal

pub emit_expression-returns-in_ok-emit_expression-in-Chain : goal.emit_expression-returns-in_ok-emit_expression-in-Chain
emit_expression-returns-in_ok-emit_expression-in-Chain t c = λ w l d.
    let a = c.in-Chain in
    then_ok c.emit_links.result (expr_code w l (expr c.deref.result.now)) (links_code w l (links c.deref-in-Chain.result.now)) (expr_code w l (expr c.args.e.now))
    (code_of c.args.out.now) (code_of c.emit_expression.new.out) (code_of c.emit_links.new.out)
    (ap (λ (e : Expression). expr_code w l (syn.Chain (expr e) (links c.deref-in-Chain.result.now))) c.deref.ensures
    ∙ ap (λ (ls : List Link). expr_code w l (syn.Chain (expr a.first.value) (links ls))) c.deref-in-Chain.ensures.value
    ∙ sym (ap (λ (x : Expr). expr_code w l x) (ap expr a.is ∙ chain_is a.first a.links)))
    ((c.in_ok-emit_expression-in-Chain.ensures {u = tt}) w l d) (c.emit_links.ensures w l d)

pub emit_expression-returns-in-Not : goal.emit_expression-returns-in-Not
emit_expression-returns-in-Not t c = λ w l d.
    same c.prefix.result _ (expr_code w l (expr c.args.e.now)) _ _
    (ap (λ (x : Expr). expr_code w l x) (ap (λ (e : Expression). syn.Not c.in-Not.at (expr e)) c.deref-in-Not.ensures ∙ sym (ap expr c.in-Not.is)))
    (c.prefix.ensures w l d)

pub emit_expression-returns-in-Negative : goal.emit_expression-returns-in-Negative
emit_expression-returns-in-Negative t c = λ w l d.
    same c.prefix-in-Negative.result _ (expr_code w l (expr c.args.e.now)) _ _
    (ap (λ (x : Expr). expr_code w l x) (ap (λ (e : Expression). syn.Negative c.in-Negative.at (expr e)) c.deref-in-Negative.ensures ∙ sym (ap expr c.in-Negative.is)))
    (c.prefix-in-Negative.ensures w l d)

pub emit_expression-returns-in-Parentheses : goal.emit_expression-returns-in-Parentheses
emit_expression-returns-in-Parentheses t c = λ w l d.
    same c.emit_expression-in-Parentheses.result _ (expr_code w l (expr c.args.e.now)) _ _
    (ap (λ (x : Expr). expr_code w l x) (ap (λ (e : Expression). syn.Parentheses c.in-Parentheses.at (expr e)) c.deref-in-Parentheses.ensures ∙ sym (ap expr c.in-Parentheses.is)))
    (c.emit_expression-in-Parentheses.ensures w l d)

pub emit_expression-returns-in-Size : goal.emit_expression-returns-in-Size
emit_expression-returns-in-Size t c = λ w l d.
    same c.prefix-in-Size.result _ (expr_code w l (expr c.args.e.now)) _ _
    (ap (λ (x : Expr). expr_code w l x) (ap (λ (e : Expression). syn.Size c.in-Size.at (expr e)) c.deref-in-Size.ensures ∙ sym (ap expr c.in-Size.is)))
    (c.prefix-in-Size.ensures w l d)

pub emit_expression-returns-in-Ordinal : goal.emit_expression-returns-in-Ordinal
emit_expression-returns-in-Ordinal t c = λ w l d.
    same c.prefix-in-Ordinal.result _ (expr_code w l (expr c.args.e.now)) _ _
    (ap (λ (x : Expr). expr_code w l x) (ap (λ (e : Expression). syn.Ordinal c.in-Ordinal.at (expr e)) c.deref-in-Ordinal.ensures ∙ sym (ap expr c.in-Ordinal.is)))
    (c.prefix-in-Ordinal.ensures w l d)

pub emit_expression-returns-in-Get : goal.emit_expression-returns-in-Get
emit_expression-returns-in-Get t c = λ w l d.
    same c.read.result _ (expr_code w l (expr c.args.e.now)) _ _
    (ap (λ (x : Expr). expr_code w l x) (sym (ap expr c.in-Get.is ∙ get_is c.in-Get.from))) (c.read.ensures w l d)

pub emit_expression-returns-in-From : goal.emit_expression-returns-in-From
emit_expression-returns-in-From t c = λ w l d.
    same c.take.result _ (expr_code w l (expr c.args.e.now)) _ _
    (ap (λ (x : Expr). expr_code w l x) (sym (ap expr c.in-From.is ∙ from_is c.in-From.at c.in-From.source))) (c.take.ensures w l d)

pub emit_links-links-preserved : goal.emit_links-links-preserved
emit_links-links-preserved t c = λ w l d new h.
    let i = c.links.one-index in
    let x = c.one-item.result in
    c.links.invariant w l d new
    (subst (λ (ls : List Link). Appends (links_code w l (links ls)) (code_of c.links.out) new) (sym (rest_is c.args.links.now i x c.links-test.true c.one-item.is))
    (then (link_piece (is_short x.operator) x.operator (expr_code w l (expr x.right))) (links_code w l (links (drop (i + 1) c.args.links.now)))
    (code_of c.links.out) (code_of c.emit_link.new.out) new ((c.in_ok-emit_link.ensures {u = tt}) w l d) h))

pub emit_links-returns : goal.emit_links-returns
emit_links-returns t c = λ w l d.
    let o = code_of c.links.out in
    c.links.invariant w l d o
    (subst (λ (ls : List Link). Appends (links_code w l (links ls)) o o) (sym (drop_of_length-le c.args.links.now c.links-test.false)) (nothing o))

pub emit_path-path-preserved : goal.emit_path-path-preserved
emit_path-path-preserved t c = λ w l d new h.
    let i = c.path.step-index in
    let x = c.step-item.result in
    c.path.invariant w l d new
    (subst (λ (ls : List Selector). Appends (path_code w l (path ls)) (code_of c.path.out) new) (sym (rest_is c.args.path.now i x c.path-test.true c.step-item.is))
    (then (step_code w l (step x)) (path_code w l (path (drop (i + 1) c.args.path.now)))
    (code_of c.path.out) (code_of c.emit_step.new.out) new ((c.in_ok-emit_step.ensures {u = tt}) w l d) h))

pub emit_path-returns : goal.emit_path-returns
emit_path-returns t c = λ w l d.
    let o = code_of c.path.out in
    c.path.invariant w l d o
    (subst (λ (ls : List Selector). Appends (path_code w l (path ls)) o o) (sym (drop_of_length-le c.args.path.now c.path-test.false)) (nothing o))

pub emit_step-returns-in-Index : goal.emit_step-returns-in-Index
emit_step-returns-in-Index t c = λ w l d.
    same c.emit_expression.result _ (step_code w l (step c.args.step.now)) _ _
    (ap (λ (s : Selector). step_code w l (step s)) (sym c.in-Index.is)) (c.emit_expression.ensures w l d)

pub read-returns : goal.read-returns
read-returns t c = λ w l d.
    let from = c.args.from.now in
    let ms = rules.marks w (root_type w from.name) (path from.path.items) in
    let found : marks_of c.in_ok-path.path.items ≡ ms =
    (c.in_ok-path.ensures {u = tt}) w d.site
    ∙ ap (λ (k : Option DataType). rules.marks w k (path c.deref-2.result.now)) (c.root.ensures w d.site)
    ∙ ap (λ (ps : List Selector). rules.marks w (root_type w from.name) (path ps)) c.deref-2.ensures.value in
    then_ok c.put.result (path_code w l (path c.deref.result.now)) (one (instr_of c.reading.result)) _
    (code_of c.args.out.now) (code_of c.emit_path.new.out) (code_of c.put.new.self)
    (ap (λ (ps : List Selector). seq (path_code w l (path ps)) (one (instr_of c.reading.result))) c.deref.ensures.value
    ∙ ap (λ (i : Instr). seq (path_code w l (path from.path.items)) (one i)) (c.reading.ensures w l d ∙ ap (λ (k : List Mark). reading w l from.name k) found))
    ((c.in_ok-emit_path.ensures {u = tt}) w l d) c.put.ensures.code

pub take-returns : goal.take-returns
take-returns t c = λ w l d.
    let from = c.args.source.now in
    let ms = rules.marks w (root_type w from.name) (path from.path.items) in
    let found : marks_of c.in_ok-path.path.items ≡ ms =
    (c.in_ok-path.ensures {u = tt}) w d.site
    ∙ ap (λ (k : Option DataType). rules.marks w k (path c.deref-2.result.now)) (c.root.ensures w d.site)
    ∙ ap (λ (ps : List Selector). rules.marks w (root_type w from.name) (path ps)) c.deref-2.ensures.value in
    then_ok c.put.result (path_code w l (path c.deref.result.now)) (one (Least c.slot.result (marks_of c.in_ok-path.path.items))) _
    (code_of c.args.out.now) (code_of c.emit_path.new.out) (code_of c.put.new.self)
    (ap (λ (ps : List Selector). seq (path_code w l (path ps)) (one (Least c.slot.result (marks_of c.in_ok-path.path.items)))) c.deref.ensures.value
    ∙ ap (λ (k : ℕ). seq (path_code w l (path from.path.items)) (one (Least k (marks_of c.in_ok-path.path.items)))) (c.slot.ensures w l d)
    ∙ ap (λ (k : List Mark). seq (path_code w l (path from.path.items)) (one (Least (at_slot w l from.name) k))) found)
    ((c.in_ok-emit_path.ensures {u = tt}) w l d) c.put.ensures.code

pub short-returns : goal.short-returns
short-returns t c = λ w l d.
    short_made c.args.operator (instr_of c.short_instr-hole.result) (expr_code w l (expr c.args.right.now)) (code_of c.args.out.now) (code_of c.put.new.self)
    (code_of c.emit_expression.new.out) (code_of c.fix.new.self) c.len-at.result c.len-to.result
    c.in_ok-put.ensures.code ((c.in_ok-emit_expression.ensures {u = tt}) w l d) c.len-at.ensures c.len-to.ensures
    (c.fix.ensures.code ∙ ap (λ (i : Instr). set (code_of c.emit_expression.new.out) c.len-at.result i) c.short_instr-mended.ensures)

-- ---- texts, calls and arguments

pub emit_expression-returns-in-Text : goal.emit_expression-returns-in-Text
emit_expression-returns-in-Text t c = λ w l d.
    same c.emit_text.result _ (expr_code w l (expr c.args.e.now)) _ _
    (ap (λ (x : Expression). expr_code w l (expr x)) (sym c.in-Text.is)) c.emit_text.ensures

pub emit_expression-returns-in-Call : goal.emit_expression-returns-in-Call
emit_expression-returns-in-Call t c = λ w l d.
    let a = c.in-Call in
    same c.emit_call.result _ (expr_code w l (expr c.args.e.now)) _ _
    (ap (λ (es : List Expression). expr_code w l (Expr.Call a.function (exprs es))) c.deref-in-Call.ensures.value
    ∙ sym (ap (λ (x : Expr). expr_code w l x) (ap expr a.is ∙ call_is a.function a.arguments)))
    (c.emit_call.ensures w l d)

pub emit_expression-returns-in-Invoke : goal.emit_expression-returns-in-Invoke
emit_expression-returns-in-Invoke t c = λ w l d.
    let a = c.in-Invoke in
    same c.emit_request.result _ (expr_code w l (expr c.args.e.now)) _ _
    (ap (λ (es : List Expression). expr_code w l (Expr.Invoke a.object a.operation (exprs es))) c.deref-in-Invoke.ensures.value
    ∙ sym (ap (λ (x : Expr). expr_code w l x) (ap expr a.is ∙ invoke_is a.object a.operation a.arguments)))
    (c.emit_request.ensures w l d)

pub emit_all-given-preserved : goal.emit_all-given-preserved
emit_all-given-preserved t c = λ w l d new h.
    let i = c.given.e-index in
    let x = c.e-item.result in
    c.given.invariant w l d new
    (subst (λ (es : List Expression). Appends (all_code w l (exprs es)) (code_of c.given.out) new) (sym (rest_is c.args.given.now i x c.given-test.true c.e-item.is))
    (then (expr_code w l (expr x)) (all_code w l (exprs (drop (i + 1) c.args.given.now)))
    (code_of c.given.out) (code_of c.emit_expression.new.out) new ((c.in_ok-emit_expression.ensures {u = tt}) w l d) h))

pub emit_all-returns : goal.emit_all-returns
emit_all-returns t c = λ w l d.
    let o = code_of c.given.out in
    c.given.invariant w l d o
    (subst (λ (es : List Expression). Appends (all_code w l (exprs es)) o o) (sym (drop_of_length-le c.args.given.now c.given-test.false)) (nothing o))

pub emit_passed-given-preserved : goal.emit_passed-given-preserved
emit_passed-given-preserved t c = λ w l d new h.
    let i = c.given.place in
    let x = c.index-given-place.result in
    let ms = modes_of (callee_seen c.args.is) in
    let rest = exprs (drop (i + 1) c.args.given.now) in
    let old = code_of c.given.out in
    let now = code_of c.emit_one.new.out in
    let one : Appends (by_mode (first_mode (drop i ms)) (expr_code w l (expr x)) (target_code w l (expr x))) old now =
    subst (λ (m : Mode). Appends (by_mode m (expr_code w l (expr x)) (target_code w l (expr x))) old now) c.mode.ensures ((c.in_ok-emit_one.ensures {u = tt}) w l d) in
    let more : Appends (passed_code w l (drop 1 (drop i ms)) rest) now new =
    subst (λ (k : List Mode). Appends (passed_code w l k rest) now new) (sym (drop_once i ms)) h in
    c.given.invariant w l d new
    (subst (λ (es : List Expression). Appends (passed_code w l (drop i ms) (exprs es)) old new) (sym (rest_is c.args.given.now i x c.given-test.true c.index-given-place.is))
    (then (by_mode (first_mode (drop i ms)) (expr_code w l (expr x)) (target_code w l (expr x))) (passed_code w l (drop 1 (drop i ms)) rest) old now new one more))

pub emit_passed-returns : goal.emit_passed-returns
emit_passed-returns t c = λ w l d.
    let o = code_of c.given.out in
    let ms = modes_of (callee_seen c.args.is) in
    c.given.invariant w l d o
    (subst (λ (es : List Expression). Appends (passed_code w l (drop c.given.place ms) (exprs es)) o o) (sym (drop_of_length-le c.args.given.now c.given-test.false)) (nothing o))

pub emit_one-returns-in-Out : goal.emit_one-returns-in-Out
emit_one-returns-in-Out t c = λ w l d.
    same c.emit_target.result _ (by_mode c.args.mode (expr_code w l (expr c.args.e.now)) (target_code w l (expr c.args.e.now))) _ _
    (sym (out_first c.args.mode (expr_code w l (expr c.args.e.now)) (target_code w l (expr c.args.e.now)) c.in-Out.is)) (c.emit_target.ensures w l d)

pub emit_one-returns-in-Value : goal.emit_one-returns-in-Value
emit_one-returns-in-Value t c = λ w l d.
    same c.emit_expression.result _ (by_mode c.args.mode (expr_code w l (expr c.args.e.now)) (target_code w l (expr c.args.e.now))) _ _
    (sym (by_value c.args.mode (expr_code w l (expr c.args.e.now)) (target_code w l (expr c.args.e.now)) c.in-Value.is)) (c.emit_expression.ensures w l d)

pub emit_target-returns-in-Get : goal.emit_target-returns-in-Get
emit_target-returns-in-Get t c = λ w l d.
    let from = c.in-Get.from in
    same c.emit_path.result _ (target_code w l (expr c.args.e.now)) _ _
    (ap (λ (ps : List Selector). path_code w l (path ps)) c.deref.ensures.value
    ∙ sym (ap (λ (x : Expr). target_code w l x) (ap expr c.in-Get.is ∙ get_is from)))
    (c.emit_path.ensures w l d)

pub emit_call-returns : goal.emit_call-returns
emit_call-returns t c = λ w l d.
    let n = c.args.function.now in
    let es = exprs c.args.given.now in
    let is = callee_seen c.callee-is.result in
    let instr : instr_of c.in_ok-call.call ≡ calling w l n es =
    (c.in_ok-call.ensures {u = tt}) w l d
    ∙ ap (λ (k : calls.Callee). call_of k (fresh_node w es) (shapes_of w l (modes_of k) es)) (c.callee-is.ensures w d.site) in
    then_ok c.put.result (passed_code w l (modes_of is) es) (one (instr_of c.in_ok-call.call)) _
    (code_of c.args.out.now) (code_of c.emit_passed.new.out) (code_of c.put.new.self)
    (ap (λ (k : calls.Callee). seq (passed_code w l (modes_of k) es) (one (instr_of c.in_ok-call.call))) (c.callee-is.ensures w d.site)
    ∙ ap (λ (i : Instr). seq (passed_code w l (modes_of (callee w n)) es) (one i)) instr)
    ((c.in_ok-emit_passed.ensures {u = tt}) w l d) c.put.ensures.code

pub emit_request-returns : goal.emit_request-returns
emit_request-returns t c = λ w l d.
    let es = exprs c.args.given.now in
    let o = c.args.object.now in
    let m = c.args.operation.now in
    then_ok c.put.result (all_code w l es) (one (instr_of c.invoking.result)) _
    (code_of c.args.out.now) (code_of c.emit_all.new.out) (code_of c.put.new.self)
    (ap (λ (i : Instr). seq (all_code w l es) (one i)) (c.invoking.ensures w l d)
    ∙ ap (λ (k : ℕ). seq (all_code w l es) (one (invoking w l o m k))) (sym (count_is c.args.given.now)))
    ((c.in_ok-emit_all.ensures {u = tt}) w l d) c.put.ensures.code
