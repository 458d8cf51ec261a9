use Rattle.std.proofs.Common.{◌≡◌, List, Option, take, subst, sym, ap, ◌∙◌}
use Rattle.orca_base.specs.declared.place.Place.{Place}
use Rattle.std.specs.Prelude.{IfOk}
use Rattle.orca_tree.specs.declared.tree.Expression.{Expression}
use Rattle.orca_tree.specs.declared.tree.Link.{Link}
use Rattle.orca_syntax.specs.Shown.{expr, exprs, links, path, step}
use Rattle.orca_syntax.specs.Places.{expr_place}
use Rattle.orca_syntax.specs.Syntax as syn
use Rattle.orca_syntax.specs.Syntax.{Expr}
use Rattle.orca_syntax.proofs.ShownLaws.{call_is, chain_is, from_is, get_is, invoke_is}
use Rattle.type_rules.specs.declared.types.DataType.{DataType}
use Rattle.type_rules.specs.Rules.{Found}
use Rattle.type_rules.specs.Order.{least}
use Rattle.type_rules.specs.declared.signature.Formal.{Formal}
use Rattle.type_rules.specs.Expressions.{AsValue, Called, arguments, call_found, chained, gathering, joined, signature_of, stepped, suits_first, typed, walked, written_root}
use Rattle.type_forms.specs.Finding.{Finds}
use Rattle.type_exprs.specs.Callees.{called_as}
use Rattle.type_exprs.specs.Scoped.{at_place}
use Rattle.type_exprs.proofs.Firsts.{first_of_two}
use Rattle.type_exprs.proofs.Pushed.{argument_more, chained_more, walked_more}
use Rattle.type_exprs.proofs.expressions.+expressions.Goals as goal

pub typed-returns-in-Get : goal.typed-returns-in-Get
typed-returns-in-Get t c = λ w s.
    subst (λ (x : Expr). IfOk c.read.result (λ f. Finds f (typed w x))) (sym (ap expr c.in-Get.is ∙ get_is c.in-Get.from)) (c.read.ensures w s)

pub typed-returns-in-Call : goal.typed-returns-in-Call
typed-returns-in-Call t c = λ w s.
    subst (λ (x : Expr). IfOk c.call.result (λ f. Finds f (typed w x)))
    (ap (λ (l : List Expression). Expr.Call c.in-Call.function (exprs l)) c.deref-in-Call.ensures.value ∙ sym (ap expr c.in-Call.is ∙ call_is _ _))
    (c.call.ensures w s)

pub typed-returns-in-Invoke : goal.typed-returns-in-Invoke
typed-returns-in-Invoke t c = λ w s.
    subst (λ (x : Expr). IfOk c.invoke.result (λ f. Finds f (typed w x)))
    (ap (λ (l : List Expression). Expr.Invoke c.in-Invoke.object c.in-Invoke.operation (exprs l)) c.deref-in-Invoke.ensures.value ∙ sym (ap expr c.in-Invoke.is ∙ invoke_is _ _ _))
    (c.invoke.ensures w s)

pub chained-links-preserved : goal.chained-links-preserved
chained-links-preserved t c = λ w s f fs.
    let i = c.links.link-index in
    let x = c.link-item.result in
    let g = chained w c.args.at f (links (take i c.args.links.now)) in
    subst (λ (h : Found DataType). Finds c.in_ok-next.next h)
    (ap (λ (p : Place). joined x.operator c.args.at g p (typed w (expr x.right))) c.place_of-place.ensures
    ∙ sym (chained_more w c.args.at f c.args.links.now i x c.links-test.true c.link-item.is))
    ((c.in_ok-next.ensures {u = tt}) g (typed w (expr x.right)) (c.links.invariant w s f fs) ((c.in_ok-right.ensures {u = tt}) w s))

pub walked-path-preserved : goal.walked-path-preserved
walked-path-preserved t c = λ w s f fs.
    let x = c.step-item.result in
    let g = walked w f (path (take c.path.step-index c.args.path.now)) in
    let inv = c.path.invariant w s f fs in
    subst (λ (h : Found DataType). Finds c.step_found-found.result h) (sym (walked_more w f c.args.path.now c.path.step-index x c.path-test.true c.step-item.is))
    (c.step_found-found.ensures g (stepped w g.is (step x)) inv
    (subst (λ (o : Option DataType). Finds c.in_ok-next.next (stepped w o (step x))) inv.is ((c.in_ok-next.ensures {u = tt}) w s)))

pub arguments-given-preserved : goal.arguments-given-preserved
arguments-given-preserved t c = λ w s.
    argument_more w c.args.formals.now c.args.given.now c.given.place c.index-given-place.result c.given.first c.in_ok-own.own c.lesser-first.result _
    c.given-test.true c.index-given-place.is ((c.in_ok-own.ensures {u = tt}) w s) c.lesser-first.ensures (c.given.invariant w s)

pub argument-returns : goal.argument-returns
argument-returns t c = λ w s.
    let e = expr c.args.e.now in
    let fs = at_place c.args.formals.now c.args.place in
    let inside = (c.in_ok-found.ensures {u = tt}) w s in
    first_of_two c.in_ok-found.found.first c.suits_at.result c.lesser.result (typed w e).breaches (suits_first w fs e (typed w e).is) c.lesser.ensures
    inside.first
    (c.suits_at.ensures w s ∙ ap (λ (o : Option DataType). least (suits_first w fs e o)) inside.is)

pub call-returns : goal.call-returns
call-returns t c = λ w s.
    let n = c.args.function.now in
    let es = exprs c.args.given.now in
    let is = called_as c.called-is.result in
    subst (λ (d : Called). IfOk c.function_found.result (λ f. Finds f (call_found w AsValue n es d (arguments w (signature_of d).formals es))))
    (c.called-is.ensures w s)
    (c.function_found.ensures w s (arguments w (signature_of is).formals es)
    ((c.in_ok-inside.ensures {u = tt}) w s ∙ ap (λ (l : List Formal). least (arguments w l es)) c.formals_of.ensures))

pub typed-returns-in_ok-left-in-Chain : goal.typed-returns-in_ok-left-in-Chain
typed-returns-in_ok-left-in-Chain t c = λ w s.
    let a = c.in-Chain in
    let first = expr a.first.value in
    let left = c.deref.result.now in
    let ls = c.deref-in-Chain-2.result.now in
    let same : chained w c.place_of.result (typed w (expr left)) (links ls) ≡ typed w (expr c.args.e.now) =
    ap (λ (p : Place). chained w p (typed w (expr left)) (links ls)) (c.place_of.ensures ∙ ap (λ (e : Expression). expr_place (expr e)) c.deref-in-Chain.ensures)
    ∙ ap (λ (e : Expression). chained w (expr_place first) (typed w (expr e)) (links ls)) c.deref.ensures
    ∙ ap (λ (l : List Link). typed w (syn.Chain first (links l))) c.deref-in-Chain-2.ensures.value
    ∙ sym (ap (typed w) (ap expr a.is ∙ chain_is a.first a.links)) in
    subst (λ (g : Found DataType). IfOk c.chained.result (λ f. Finds f g)) same
    (c.chained.ensures w s (typed w (expr left)) ((c.in_ok-left-in-Chain.ensures {u = tt}) w s))

pub typed-returns-in_ok-found-in-From : goal.typed-returns-in_ok-found-in-From
typed-returns-in_ok-found-in-From t c = λ w s.
    let of = c.in-From.source in
    subst (λ (x : Expr). IfOk c.taken.result (λ f. Finds f (typed w x))) (sym (ap expr c.in-From.is ∙ from_is c.in-From.at of))
    (c.taken.ensures w s (gathering of.name.at (walked w (written_root w 38 of.name) (path of.path.items))) ((c.in_ok-found-in-From.ensures {u = tt}) w s))
