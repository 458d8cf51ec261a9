use Rattle.std.proofs.Common.{◌+◌, ◌∷◌, ◌++◌, [], ℕ, List, drop, map, sym, ap, ◌∙◌}
use Rattle.std.specs.Borrow.{Bor}
use Rattle.std.proofs.Math.ListN.{drop_of_length-le}
use Rattle.std.proofs.lemmas.List.{append-nil, map-append}
use Rattle.orca_tree.specs.declared.tree.Expression.{Expression}
use Rattle.orca_tree.specs.declared.tree.Name.{Name}
use Rattle.orca_syntax.specs.Shown.{expr, exprs}
use Rattle.type_forms.proofs.Loops.{appended, rest_is}
use Rattle.meaning_rules.specs.Statements.{names_of}
use Rattle.code_rules.specs.Phrases.{all_names}
use Rattle.emitted_code.specs.Views.{texts_of}
use Rattle.code_exprs.proofs.leaves.names_of_all.Goals as goal

pub given-preserved : goal.given-preserved
given-preserved c = λ w s.
    let i = c.given.e-index in
    let x = c.e-item.result in
    let old = texts_of c.given.all.items in
    appended old _ (names_of w (expr x) ∷ []) (all_names w (exprs (drop (i + 1) c.args.given.now))) (all_names w (exprs (drop i c.args.given.now))) _
    (ap texts_of c.in_ok-push.ensures.items
    ∙ map-append (λ (ns : Bor (List Name)). map (λ n. n.text) ns.now) c.given.all.items (c.in_ok-own.own ∷ [])
    ∙ ap (λ (t : List (List ℕ)). old ++ t ∷ []) ((c.in_ok-own.ensures {u = tt}) w s))
    (ap (λ (es : List Expression). all_names w (exprs es)) (rest_is c.args.given.now i x c.given-test.true c.e-item.is))
    (c.given.invariant w s)

pub returns : goal.returns
returns c = λ w s.
    let all = texts_of c.given.all.items in
    sym (append-nil all)
    ∙ sym (ap (λ (es : List Expression). all ++ all_names w (exprs es)) (drop_of_length-le c.args.given.now c.given-test.false))
    ∙ c.given.invariant w s
