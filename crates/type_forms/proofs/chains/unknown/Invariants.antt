use Rattle.std.proofs.Common.{◌≡◌, replicate, None}
use Rattle.type_forms.proofs.chains.unknown.Given as goal

abbrev pub invariant-names : goal.invariant-names
invariant-names l = l.memo.items ≡ replicate l._name None
