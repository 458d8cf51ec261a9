use Rattle.std.proofs.Common.{◌≡◌, length, List}
use Rattle.link_rules.specs.Units.{Source}
use Rattle.type_forms.specs.Indexed.{Indexes}
use Rattle.type_forms.specs.Chains.{AreRight, unknown_count}
use Rattle.type_forms.proofs.chains.settle.Given as goal

abbrev pub invariant-passes : goal.invariant-passes
invariant-passes l =
    ((us : List Source) → Indexes l.index us → AreRight us l.initial.memo.items → AreRight us l.memo.items)
    × (length l.memo.items ≡ length l.initial.memo.items)

abbrev pub decreases-passes : goal.decreases-passes
decreases-passes l = unknown_count l.memo.items
