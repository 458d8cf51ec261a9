use Rattle.std.proofs.Common.{◌≡◌, map, take}
use Rattle.type_forms.specs.Chains.{or_round}
use Rattle.type_forms.proofs.chains.finished.Given as goal

abbrev pub invariant-names : goal.invariant-names
invariant-names l = l.chains.items ≡ map or_round (take l.chain-index l.memo)
