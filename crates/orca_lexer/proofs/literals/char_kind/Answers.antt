use Rattle.std.proofs.lemmas.Result.{err_from_is_err_and}
use Rattle.orca_base.specs.Refusal.{because_weaker}
use Rattle.orca_lexer.specs.Refusal.IsSenseless.{not_one}
use Rattle.orca_lexer.proofs.Fronts.{stray_in_char}
use Rattle.orca_lexer.proofs.LiteralLemmas.{one_spelled}
use Rattle.orca_lexer.proofs.literals.char_kind.Goals as goal

pub returns-then-character_count-ne1 : goal.returns-then-character_count-ne1
returns-then-character_count-ne1 c =
    let count = c.character_count.ensures in
    let same = c.content_of-content.ensures in
    not_one c.requires (λ one. c.if-character_count-ne1.true (rw (count, same) one))

pub returns-in_err-codes : goal.returns-in_err-codes
returns-in_err-codes c =
    let p = err_from_is_err_and c.from_residual.result c.from_residual.ensures.1 in
    let same = c.content_of-content.ensures in
    let one = rw c.character_count.ensures at c.if-character_count-ne1.false in
    rw (p.1, p.2) (because_weaker c.in_err-codes.field-0.0 _ _ _ _ c.in_err-codes.ensures (λ f inside. stray_in_char c.args.word.now f c.requires (rw same at one) (rw same at inside)))

pub returns : goal.returns
returns c =
    let one = rw c.character_count.ensures at c.if-character_count-ne1.false in
    let spelled = one_spelled 39 c.content_of-content.result.now c.in_ok-codes.codes.items c.index.result.now c.in_ok-codes.ensures one c.index.ensures in
    (c.requires, rw c.content_of-content.ensures at spelled)
