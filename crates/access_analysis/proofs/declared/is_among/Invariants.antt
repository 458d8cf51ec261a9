use Rattle.std.proofs.Common.{◌≡◌, drop}
use Rattle.std.specs.Prelude.{bytes_eq}
use Rattle.std.specs.List.{list_any}
use Rattle.access_analysis.proofs.declared.is_among.Given as goal

abbrev pub invariant-names : goal.invariant-names
invariant-names l = list_any (λ n. bytes_eq n.text l.text) l.names ≡ list_any (λ n. bytes_eq n.text l.text) (drop l.name-index l.names)
