use Rattle.std.proofs.Common.{[], ◌∷◌, ap, refl}
use Rattle.std.specs.Prelude.{option_and_then}
use Rattle.std.specs.List.{find}
use Rattle.net_rules.specs.declared.line.ScriptLine.TheVariants.{Seed}
use Rattle.net_rules.specs.Script.{act_of, is_due, lost_or_passed}
use Rattle.net_rules.specs.Words.{word}
use Rattle.net_rules.proofs.Alone.{drawn_alone, none_left}
use Rattle.net_rules.proofs.law.plain_law.Goals as goal

pub returns-clause-never : goal.returns-clause-never
returns-clause-never c asked = ap (λ ls. option_and_then act_of (find (is_due asked) ls)) (none_left [] asked refl)

pub returns-clause-chance : goal.returns-clause-chance
returns-clause-chance c seed percent asked kind = ap (λ n. lost_or_passed percent (word seed n)) (drawn_alone seed percent asked)

pub returns-clause-alone : goal.returns-clause-alone
returns-clause-alone c seed percent asked = ap (λ ls. option_and_then act_of (find (is_due asked) ls)) (none_left (Seed seed percent ∷ []) asked refl)
