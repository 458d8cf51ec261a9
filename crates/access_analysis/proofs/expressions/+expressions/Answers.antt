use Rattle.std.proofs.Common.{◌||◌, List, drop, sym, ap, ◌∙◌}
use Rattle.std.proofs.Math.ListN.{drop_of_length-le}
use Rattle.orca_tree.specs.declared.tree.Expression.{Expression}
use Rattle.orca_tree.specs.declared.tree.Link.{Link}
use Rattle.orca_tree.specs.declared.tree.Selector.{Selector}
use Rattle.orca_syntax.specs.Shown.{expr, exprs, links, path, step}
use Rattle.orca_syntax.proofs.ShownLaws.{call_is, chain_is, from_is, get_is, invoke_is}
use Rattle.type_forms.proofs.Loops.{rest_is}
use Rattle.meaning_rules.specs.Calls.{Callee, NoFunction, callee, first_mode, modes_of}
use Rattle.meaning_rules.specs.Classes.{arguments_change, changes, lends_field, links_change, path_changes, step_changes}
use Rattle.program_bodies.specs.Named.{callee_seen}
use Rattle.access_analysis.proofs.Changing.{argument_first, none_yet, one_does, or_behind, or_own}
use Rattle.access_analysis.proofs.expressions.+expressions.Goals as goal

-- ---- lists

pub links_change-links-preserved : goal.links_change-links-preserved
links_change-links-preserved t c = λ w s.
    let x = c.link-item.result in
    none_yet (changes w (expr x.right)) _ _ _ (ap (λ (l : List Link). links_change w (links l)) (rest_is c.args.links.now c.links.link-index x c.links-test.true c.link-item.is))
    (sym (c.changes.ensures w s) ∙ c.if-changes.false) (c.links.invariant w s)

pub links_change-returns-then-changes : goal.links_change-returns-then-changes
links_change-returns-then-changes t c = λ w s.
    let x = c.link-item.result in
    one_does (changes w (expr x.right)) _ _ _ (ap (λ (l : List Link). links_change w (links l)) (rest_is c.args.links.now c.links.link-index x c.links-test.true c.link-item.is))
    (sym (c.changes.ensures w s) ∙ c.if-changes.true) (c.links.invariant w s)

pub links_change-returns : goal.links_change-returns
links_change-returns t c = λ w s.
    ap (λ (l : List Link). links_change w (links l)) (sym (drop_of_length-le c.args.links.now c.links-test.false)) ∙ c.links.invariant w s

pub path_changes-path-preserved : goal.path_changes-path-preserved
path_changes-path-preserved t c = λ w s.
    let x = c.step-item.result in
    none_yet (step_changes w (step x)) _ _ _ (ap (λ (l : List Selector). path_changes w (path l)) (rest_is c.args.path.now c.path.step-index x c.path-test.true c.step-item.is))
    (sym (c.step_changes.ensures w s) ∙ c.if-step_changes.false) (c.path.invariant w s)

pub path_changes-returns-then-step_changes : goal.path_changes-returns-then-step_changes
path_changes-returns-then-step_changes t c = λ w s.
    let x = c.step-item.result in
    one_does (step_changes w (step x)) _ _ _ (ap (λ (l : List Selector). path_changes w (path l)) (rest_is c.args.path.now c.path.step-index x c.path-test.true c.step-item.is))
    (sym (c.step_changes.ensures w s) ∙ c.if-step_changes.true) (c.path.invariant w s)

pub path_changes-returns : goal.path_changes-returns
path_changes-returns t c = λ w s.
    ap (λ (l : List Selector). path_changes w (path l)) (sym (drop_of_length-le c.args.path.now c.path-test.false)) ∙ c.path.invariant w s

pub arguments_change-given-preserved : goal.arguments_change-given-preserved
arguments_change-given-preserved t c = λ w s.
    let i = c.given.place in
    let x = c.index-given-place.result in
    let ms = modes_of (callee_seen c.args.callee) in
    none_yet (lends_field w (first_mode (drop i ms)) (expr x) || changes w (expr x)) _ _ _
    (argument_first w ms c.args.given.now i x c.given-test.true c.index-given-place.is)
    (sym (c.argument_changes.ensures w s) ∙ c.if-argument_changes.false) (c.given.invariant w s)

pub arguments_change-returns-then-argument_changes : goal.arguments_change-returns-then-argument_changes
arguments_change-returns-then-argument_changes t c = λ w s.
    let i = c.given.place in
    let x = c.index-given-place.result in
    let ms = modes_of (callee_seen c.args.callee) in
    one_does (lends_field w (first_mode (drop i ms)) (expr x) || changes w (expr x)) _ _ _
    (argument_first w ms c.args.given.now i x c.given-test.true c.index-given-place.is)
    (sym (c.argument_changes.ensures w s) ∙ c.if-argument_changes.true) (c.given.invariant w s)

pub arguments_change-returns : goal.arguments_change-returns
arguments_change-returns t c = λ w s.
    let ms = drop c.given.place (modes_of (callee_seen c.args.callee)) in
    ap (λ (l : List Expression). arguments_change w ms (exprs l)) (sym (drop_of_length-le c.args.given.now c.given-test.false)) ∙ c.given.invariant w s

-- ---- expressions

pub changes-returns-then-own : goal.changes-returns-then-own
changes-returns-then-own t c = λ w s.
    let a = c.in-Chain in
    or_own c.changes-own.result (changes w (expr c.deref.result.now)) (links_change w (links c.deref-in-Chain.result.now)) c.if-own.true (c.changes-own.ensures w s)
    ∙ ap (λ (e : Expression). changes w (expr e) || links_change w (links c.deref-in-Chain.result.now)) c.deref.ensures
    ∙ ap (λ (l : List Link). changes w (expr a.first.value) || links_change w (links l)) c.deref-in-Chain.ensures.value
    ∙ sym (ap (changes w) (ap expr a.is ∙ chain_is a.first a.links))

pub changes-returns-else-own : goal.changes-returns-else-own
changes-returns-else-own t c = λ w s.
    let a = c.in-Chain in
    or_behind c.changes-own.result c.links_change-behind.result (changes w (expr c.deref.result.now)) (links_change w (links c.deref-in-Chain.result.now)) c.if-own.false
    (c.changes-own.ensures w s) (c.links_change-behind.ensures w s)
    ∙ ap (λ (e : Expression). changes w (expr e) || links_change w (links c.deref-in-Chain.result.now)) c.deref.ensures
    ∙ ap (λ (l : List Link). changes w (expr a.first.value) || links_change w (links l)) c.deref-in-Chain.ensures.value
    ∙ sym (ap (changes w) (ap expr a.is ∙ chain_is a.first a.links))

pub changes-returns-in-From : goal.changes-returns-in-From
changes-returns-in-From t c = λ w s. c.root_changes.ensures w s ∙ sym (ap (changes w) (ap expr c.in-From.is ∙ from_is c.in-From.at c.in-From.source))

pub changes-returns-in-Get : goal.changes-returns-in-Get
changes-returns-in-Get t c = λ w s.
    c.path_changes.ensures w s
    ∙ ap (λ (l : List Selector). path_changes w (path l)) c.deref-in-Get.ensures.value
    ∙ sym (ap (changes w) (ap expr c.in-Get.is ∙ get_is c.in-Get.from))

pub changes-returns-in-Call : goal.changes-returns-in-Call
changes-returns-in-Call t c = λ w s.
    c.arguments_change.ensures w s
    ∙ ap (λ (k : Callee). arguments_change w (modes_of k) (exprs c.deref-in-Call.result.now)) (c.callee.ensures w s)
    ∙ ap (λ (l : List Expression). arguments_change w (modes_of (callee w c.in-Call.function)) (exprs l)) c.deref-in-Call.ensures.value
    ∙ sym (ap (changes w) (ap expr c.in-Call.is ∙ call_is _ _))

pub changes-returns-in-Invoke : goal.changes-returns-in-Invoke
changes-returns-in-Invoke t c = λ w s.
    c.arguments_change-in-Invoke.ensures w s
    ∙ ap (λ (l : List Expression). arguments_change w (modes_of NoFunction) (exprs l)) c.deref-in-Invoke.ensures.value
    ∙ sym (ap (changes w) (ap expr c.in-Invoke.is ∙ invoke_is _ _ _))
