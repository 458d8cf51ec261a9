use Rattle.std.proofs.Common.{◌+◌, ◌∷◌, ◌++◌, [], List, drop, map, sym, ap, ◌∙◌}
use Rattle.std.proofs.Math.ListN.{drop_of_length-le}
use Rattle.std.proofs.lemmas.List.{append-nil, map-append}
use Rattle.orca_tree.specs.declared.tree.Expression.{Expression}
use Rattle.orca_tree.specs.declared.tree.Mode.{Mode}
use Rattle.orca_syntax.specs.Shown.{expr, exprs}
use Rattle.type_forms.proofs.Loops.{appended, rest_is}
use Rattle.meaning_rules.specs.Calls.{first_mode, modes_of}
use Rattle.code_rules.specs.Instructions.{Gives, Shape}
use Rattle.code_rules.specs.Phrases.{by_mode, lending, shapes_of}
use Rattle.program_bodies.specs.Named.{callee_seen}
use Rattle.emitted_code.specs.Views.{shape_of}
use Rattle.code_exprs.proofs.Rows.{drop_once}
use Rattle.code_exprs.proofs.calls.shapes.Goals as goal

pub given-preserved : goal.given-preserved
given-preserved c = λ w l d.
    let i = c.given.place in
    let x = c.index-given-place.result in
    let ms = modes_of (callee_seen c.args.is) in
    let old = map shape_of c.given.all.items in
    let lend = lending w l (expr x) in
    let rest = exprs (drop (i + 1) c.args.given.now) in
    appended old _ (by_mode (first_mode (drop i ms)) Gives lend ∷ []) (shapes_of w l (drop (i + 1) ms) rest) (shapes_of w l (drop i ms) (exprs (drop i c.args.given.now))) _
    (ap (map shape_of) c.in_ok-push.ensures.items
    ∙ map-append shape_of c.given.all.items (c.in_ok-own.own ∷ [])
    ∙ ap (λ (s : Shape). old ++ s ∷ []) ((c.in_ok-own.ensures {u = tt}) w l d ∙ ap (λ (m : Mode). by_mode m Gives lend) c.mode.ensures))
    (ap (λ (es : List Expression). shapes_of w l (drop i ms) (exprs es)) (rest_is c.args.given.now i x c.given-test.true c.index-given-place.is)
    ∙ ap (λ (k : List Mode). by_mode (first_mode (drop i ms)) Gives lend ∷ shapes_of w l k rest) (drop_once i ms))
    (c.given.invariant w l d)

pub returns : goal.returns
returns c = λ w l d.
    let ms = modes_of (callee_seen c.args.is) in
    let all = map shape_of c.given.all.items in
    sym (append-nil all)
    ∙ sym (ap (λ (es : List Expression). all ++ shapes_of w l (drop c.given.place ms) (exprs es)) (drop_of_length-le c.args.given.now c.given-test.false))
    ∙ c.given.invariant w l d
