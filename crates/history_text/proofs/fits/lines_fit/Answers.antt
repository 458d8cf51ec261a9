use Rattle.std.proofs.Common.{subst}
use Rattle.std.proofs.lemmas.List.{take_all}
use Rattle.std.proofs.lemmas.List.Elements.{All-more}
use Rattle.history_text.specs.Sound.{AreLines, IsLine}
use Rattle.history_text.proofs.fits.lines_fit.Goals as goal

pub lines-preserved : goal.lines-preserved
lines-preserved c =
    let names = c.args.names.now in
    All-more (IsLine names) c.args.lines.now c.lines.line-index c.line-item.result c.lines-test.true c.lines.invariant
    (subst (IsLine names) c.line-item.is c.line_fits.ensures)

pub returns : goal.returns
returns c = subst (AreLines c.args.names.now) (take_all c.lines.line-index c.args.lines.now c.lines-test.false) c.lines.invariant
