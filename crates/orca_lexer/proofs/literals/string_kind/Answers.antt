use Rattle.std.proofs.lemmas.Result.{err_from_is_err_and}
use Rattle.orca_base.specs.Refusal.{because_weaker}
use Rattle.orca_lexer.proofs.Fronts.{stray_in_string}
use Rattle.orca_lexer.proofs.LiteralLemmas.{spelled_ascii}
use Rattle.orca_lexer.proofs.literals.string_kind.Goals as goal

pub from_ascii-requires : goal.from_ascii-requires
from_ascii-requires c = rw c.as_slice.ensures.value (spelled_ascii 34 _ c.in_ok-codes.codes.items c.in_ok-codes.ensures)

pub returns-in_err-codes : goal.returns-in_err-codes
returns-in_err-codes c =
    let p = err_from_is_err_and c.from_residual.result c.from_residual.ensures.1 in
    let same = c.content_of.ensures in
    rw (p.1, p.2) (because_weaker c.in_err-codes.field-0.0 _ _ _ _ c.in_err-codes.ensures (λ f inside. stray_in_string c.args.word.now f c.requires (rw same at inside)))
