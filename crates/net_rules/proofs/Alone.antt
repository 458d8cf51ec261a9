-- A script without lines on packets and acts.
use Rattle.std.proofs.Common.{◌≡◌, ℕ, ◌+◌, cond, List, [], ◌∷◌, ap, refl, sym, ◌∙◌, arith}
use Rattle.std.specs.List.{filter}
use Rattle.std.proofs.lemmas.List.Sums.{sum_by-cons}
use Rattle.net_rules.specs.declared.asked.Asked.{Asked}
use Rattle.net_rules.specs.declared.asked.Asked.TheVariants.{Packet, Act}
use Rattle.net_rules.specs.declared.line.Kinds.{Kinds}
use Rattle.net_rules.specs.declared.line.Kinds.TheVariants.{Any}
use Rattle.net_rules.specs.declared.line.ScriptLine.{ScriptLine}
use Rattle.net_rules.specs.declared.line.ScriptLine.TheVariants.{Seed}
use Rattle.net_rules.specs.Asked.{asks_about, count}
use Rattle.net_rules.specs.Script.{drawn, is_act, is_due, left, without_first}

count_more : (kinds : Kinds) (one : Asked) (asked : List Asked) → count kinds (one ∷ asked) ≡ cond (asks_about kinds one) 1 0 + count kinds asked
count_more kinds one asked = sum_by-cons (λ x. cond (asks_about kinds x) 1 0) one asked

-- each packet draws a word
pub drawn_alone : (seed percent : ℕ) (asked : List Asked) → drawn (Seed seed percent ∷ []) asked ≡ count Any asked
drawn_alone seed percent [] = refl
drawn_alone seed percent (Packet question fate ∷ asked) = ap (λ n. 1 + n) (drawn_alone seed percent asked) ∙ sym (count_more Any (Packet question fate) asked)
drawn_alone seed percent (Act number act ∷ asked) =
    drawn_alone seed percent asked ∙ sym (count_more Any (Act number act) asked ∙ zero (count Any asked))
  where
    zero : (n : ℕ) → 0 + n ≡ n
    zero n = omega arith

-- no act is left where there is none
pub none_left : (lines : List ScriptLine) (asked : List Asked) → filter is_act lines ≡ [] → left lines asked ≡ []
none_left lines [] e = e
none_left lines (Packet question fate ∷ asked) e = none_left lines asked e
none_left lines (Act number act ∷ asked) e = ap (without_first (is_due asked)) (none_left lines asked e)
