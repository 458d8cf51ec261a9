use Rattle.std.proofs.Common.{◌≡◌, ℕ, List, map, drop, find}
use Rattle.std.specs.Prelude.{bytes_eq, option_map}
use Rattle.orca_syntax.specs.Shown.{head}
use Rattle.link_rules.specs.Units.{Source}
use Rattle.type_rules.specs.Scopes.{operation_signature}
use Rattle.type_forms.specs.Forms.{AreTyped}
use Rattle.type_tables.specs.Entries.{entry, or_other}
use Rattle.type_tables.proofs.tables.operation_table.Given as goal

abbrev pub invariant-heads : goal.invariant-heads
invariant-heads l = (us : List Source) → AreTyped us l.forms → (n : List ℕ) →
    or_other (entry l.table n) (option_map (operation_signature us l.home) (find (λ h. bytes_eq h.name.text n) (map head (drop l.head-index l.heads))))
    ≡ option_map (operation_signature us l.home) (find (λ h. bytes_eq h.name.text n) (map head l.heads))
