use Rattle.std.proofs.Common.{◌≡◌, ◌++◌, drop, length}
use Rattle.replica_choice.specs.Printed.{choice_text}
use Rattle.replica_choice.proofs.text.choice_text.Given as goal

abbrev pub invariant-sites : goal.invariant-sites
invariant-sites l = l.out.items ++ choice_text (drop (length l.yielded) l.estimates) (drop (length l.yielded) l.choices) ≡ choice_text l.estimates l.choices
