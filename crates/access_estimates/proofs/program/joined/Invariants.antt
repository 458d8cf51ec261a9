use Rattle.std.proofs.Common.{◌≡◌, map}
use Rattle.estimate_rules.specs.Sites.{all_of}
use Rattle.access_estimates.proofs.program.joined.Given as goal

abbrev pub invariant-texts : goal.invariant-texts
invariant-texts l = l.all.items ≡ all_of (map (λ v. v.items) l.yielded)
