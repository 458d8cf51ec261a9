use Rattle.std.proofs.Common.{◌≡◌, ◌++◌, drop, map, zero}
use Rattle.type_rules.specs.TopLevel.{values_at}
use Rattle.type_forms.specs.Seen.{top}
use Rattle.type_forms.proofs.tops.values.Given as goal

abbrev pub invariant-values : goal.invariant-values
invariant-values l =
    map top l.all.items ++ values_at l.by l.file l.of l.number (drop l.number l.names)
    ≡ map top l.initial.all.items ++ values_at l.by l.file l.of zero l.names
