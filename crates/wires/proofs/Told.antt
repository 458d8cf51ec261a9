-- One question more, latest first.
use Rattle.std.proofs.Common.{◌≡◌, ◌+◌, List, [], ◌∷◌, ◌++◌, reverse, cond, ap, ◌∙◌}
use Rattle.std.proofs.lemmas.List.{reverse-append}
use Rattle.std.proofs.lemmas.List.Sums.{sum_by-cons}
use Rattle.net_rules.specs.declared.asked.Asked.{Asked}
use Rattle.net_rules.specs.declared.line.Kinds.{Kinds}
use Rattle.net_rules.specs.Asked.{asks_about, count}

-- it stands first
pub latest : (told now : List Asked) (one : Asked) → now ≡ told ++ one ∷ [] → reverse now ≡ one ∷ reverse told
latest told now one e = ap reverse e ∙ reverse-append told (one ∷ [])

-- and is counted
pub count_more : (kinds : Kinds) (one : Asked) (asked : List Asked) → count kinds (one ∷ asked) ≡ cond (asks_about kinds one) 1 0 + count kinds asked
count_more kinds one asked = sum_by-cons (λ x. cond (asks_about kinds x) 1 0) one asked
