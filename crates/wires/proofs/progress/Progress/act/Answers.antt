use Rattle.std.proofs.Common.{List, ◌∷◌, ◌<◌, ap, arith, sym, subst, ◌∙◌}
use Rattle.std.specs.List.{AllByRecursion, position_from}
use Rattle.net_rules.specs.declared.line.Kinds.TheVariants.{Any}
use Rattle.net_rules.specs.declared.line.ScriptLine.{ScriptLine}
use Rattle.net_rules.specs.declared.asked.Asked.TheVariants as was
use Rattle.net_rules.specs.Asked.{count}
use Rattle.net_rules.specs.Script.{is_due, left, without_first}
use Rattle.wires.specs.Due.{IsFar}
use Rattle.wires.proofs.Asking.{counts_act, no_act, one_act}
use Rattle.wires.proofs.Distances.{far_act, none_due, without}
use Rattle.wires.proofs.progress.Progress.act.Goals as goal

pub returns-then-self : goal.returns-then-self
returns-then-self c lines asked number act is =
    let self = c.args.self.now in
    let before : count Any asked < self.quiet = omega (arith, is.counts.all, c.if-self.true) in
    let w = no_act lines self.left.items asked is.left (none_due asked self.quiet 0 self.left.items before is.quiet) in
    (sym w.0, record { counts = counts_act asked number act self.counts is.counts; chance = is.chance; left = w.1; quiet = far_act asked number act self.quiet self.left.items is.quiet })

pub returns-in-Now : goal.returns-in-Now
returns-in-Now c lines asked number act is =
    let self = c.args.self.now in
    let at = ap (λ xs. position_from (is_due asked) 0 xs) (sym c.deref.ensures.value) ∙ c.in-Now.ensures.is asked is.counts in
    let w = one_act lines self.left.items c.remove-line.new.self.items asked c.in-Now.place c.remove-line.result is.left at c.remove-line.ensures.value c.remove-line.ensures.items in
    let Far : List ScriptLine → Type 0 = λ xs. AllByRecursion (IsFar asked self.quiet) xs in
    let Still : List ScriptLine → Type 0 = λ xs. AllByRecursion (IsFar (was.Act number act ∷ asked) self.quiet) xs in
    let rest = without (IsFar asked self.quiet) (is_due asked) (left lines asked) (subst Far is.left is.quiet) in (
      c.act_in.ensures ∙ w.0,
      record {
        counts = counts_act asked number act self.counts is.counts;
        chance = is.chance;
        left = w.1;
        quiet = subst Still (sym w.1) (far_act asked number act self.quiet (without_first (is_due asked) (left lines asked)) rest);
      },
    )

pub returns-in-NotBefore : goal.returns-in-NotBefore
returns-in-NotBefore c lines asked number act is =
    let self = c.args.self.now in
    let packets = c.in-NotBefore.packets in
    let due = c.in-NotBefore.ensures.is asked is.counts in
    let Far : List ScriptLine → Type 0 = λ xs. AllByRecursion (IsFar asked packets) xs in
    let w = no_act lines self.left.items asked is.left (ap (λ xs. position_from (is_due asked) 0 xs) (sym c.deref.ensures.value) ∙ due.0) in (
      sym w.0,
      record {
        counts = counts_act asked number act self.counts is.counts;
        chance = is.chance;
        left = w.1;
        quiet = far_act asked number act packets self.left.items (subst Far c.deref.ensures.value due.1);
      },
    )
