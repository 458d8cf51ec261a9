use Rattle.std.proofs.Common.{◌≡◌, length, List}
use Rattle.link_rules.specs.Units.{Source}
use Rattle.type_forms.specs.Indexed.{Indexes}
use Rattle.type_forms.specs.Chains.{AreRight}
use Rattle.type_forms.proofs.chains.settle_these.Given as goal

abbrev pub invariant-numbers : goal.invariant-numbers
invariant-numbers l =
    ((us : List Source) → Indexes l.index us → AreRight us l.initial.memo.items → AreRight us l.memo.items)
    × (length l.memo.items ≡ length l.initial.memo.items)
