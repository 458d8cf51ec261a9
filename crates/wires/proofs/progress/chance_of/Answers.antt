use Rattle.std.proofs.Common.{ℕ, sym, subst, ◌∙◌}
use Rattle.std.specs.Prelude.{Option}
use Rattle.net_rules.specs.Words.{generator}
use Rattle.wires.specs.Progress.{IsChance}
use Rattle.wires.proofs.Seeds.{behind_none}
use Rattle.wires.proofs.progress.chance_of.Goals as goal

pub returns-in-Some : goal.returns-in-Some
returns-in-Some c =
    let P : Option (ℕ × ℕ) → Type 0 = λ o. IsChance o 0 c.new.result in
    subst P (sym c.in-Some.is ∙ c.seed_in.ensures) (c.new.ensures.percent, c.new.ensures.source ∙ sym (behind_none (generator c.in-Some.seed)))
