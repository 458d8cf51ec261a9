use Rattle.std.proofs.Common.{subst, sym}
use Rattle.std.specs.Prelude.{IfOk}
use Rattle.orca_tree.specs.declared.tree.TypePhrase.{TypePhrase}
use Rattle.orca_syntax.specs.Shown.{kind}
use Rattle.type_rules.specs.TypePhrases.{array_phrase, data_phrase, phrase, within_limits}
use Rattle.type_forms.specs.Finding.{Finds}
use Rattle.type_forms.specs.Measures.{declared_in}
use Rattle.type_forms.proofs.phrases.+phrases.Goals as goal

pub phrase-returns-in_ok-found-in-Array : goal.phrase-returns-in_ok-found-in-Array
phrase-returns-in_ok-found-in-Array t c = λ us forms w view.
    let declared = declared_in c.args.forms.types.now in
    let a = c.in-Array in
    subst (λ (v : TypePhrase). IfOk c.bounded.result (λ f. Finds f (phrase declared w (kind v)))) (sym a.is)
    (subst (λ (v : TypePhrase). IfOk c.bounded.result (λ f. Finds f (within_limits a.at (array_phrase w a.low a.high (data_phrase declared w (kind v)))))) c.deref.ensures
    (c.bounded.ensures us forms w view (data_phrase declared w (kind c.deref.result.now)) ((c.in_ok-found-in-Array.ensures {u = tt}) us forms w view)))
