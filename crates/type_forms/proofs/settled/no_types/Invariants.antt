use Rattle.std.proofs.Common.{◌≡◌, replicate, None}
use Rattle.type_forms.proofs.settled.no_types.Given as goal

abbrev pub invariant-names : goal.invariant-names
invariant-names l = l.types.items ≡ replicate l._name None
