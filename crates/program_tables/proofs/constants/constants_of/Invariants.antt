use Rattle.std.proofs.Common.{◌≡◌, ℕ, ℤ, List, length, map}
use Rattle.link_rules.specs.Units.{Source}
use Rattle.type_rules.specs.Constants.{chain_from}
use Rattle.value_core.specs.Datum as datum
use Rattle.meaning_rules.specs.Designators.{constant}
use Rattle.type_forms.specs.Chains.{AreChains}
use Rattle.program_tables.specs.Listed.{AreWords}
use Rattle.program_tables.proofs.Listing.{Has}
use Rattle.program_tables.proofs.constants.constants_of.Given as goal

abbrev pub invariant-chains : goal.invariant-chains
invariant-chains l = (us : List Source) → AreChains us l.chains → AreWords us →
    (length l.all.items ≡ l.chain-index) × Has (λ (i : ℕ). constant (chain_from us i)) (map (λ (z : ℤ). datum.int z) l.all.items)
