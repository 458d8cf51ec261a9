use Rattle.std.proofs.Common.{List, arith, length, sym, subst}
use Rattle.std.proofs.lemmas.List.{drop_all}
use Rattle.net_rules.specs.declared.line.ScriptLine.{ScriptLine}
use Rattle.wires.specs.Index.{IsKindLines}
use Rattle.wires.proofs.Noting.{one_more}
use Rattle.wires.proofs.lines.KindLines.of.Goals as goal

pub lines-init : goal.lines-init
lines-init c =
    let lines = c.args.lines.now in
    let P : List ScriptLine → Type 0 = λ ls. IsKindLines c.args.wanted (length lines) ls c.none-kept.result in
    record { within = omega arith; kept = subst P (sym (drop_all (length lines) lines (omega arith))) (c.none-kept.ensures c.args.wanted (length lines)) }

pub lines-preserved : goal.lines-preserved
lines-preserved c =
    record {
      within = omega (arith, c.lines.invariant.within);
      kept = one_more c.args.wanted c.lines.place c.args.lines.now _ c.lines.kept c.note.new.self c.lines-test.true c.lines.invariant.within c.lines.invariant.kept c.in_ok-note.ensures;
    }
