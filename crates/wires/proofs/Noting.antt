-- A line more is noted.
use Rattle.std.proofs.Common.{◌≡◌, ℕ, ◌+◌, ◌-◌, ◌<◌, ◌≤◌, List, [], ◌∷◌, ◌++◌, length, get_or, drop, sym, subst, arith, ⊎_elim}
use Rattle.std.specs.Prelude.{Option, Some}
use Rattle.std.proofs.lemmas.Bool.{cases_lt}
use Rattle.std.proofs.lemmas.List.{at_drop_more, get_or_append_left, get_or_push}
use Rattle.net_rules.specs.declared.line.ScriptLine.{ScriptLine}
use Rattle.wires.specs.declared.lines.KindLines.{KindLines}
use Rattle.wires.specs.Index.{IsKindLines}

pub one_more : (wanted : Option ℕ) (place : ℕ) (lines : List ScriptLine) (d : ScriptLine) (old new : KindLines) → 0 < place → place ≤ length lines →
    IsKindLines wanted place (drop place lines) old →
    ((rest : List ScriptLine) → IsKindLines wanted (place - 1 + 1) rest old → IsKindLines wanted (place - 1) (get_or lines (place - 1) d ∷ rest) new) →
    IsKindLines wanted (place - 1) (drop (place - 1) lines) new
one_more wanted place lines d old new some within was noted =
    let back : place - 1 + 1 ≡ place = omega arith in
    let below : place - 1 < length lines = omega arith in
    let whole : drop (place - 1) lines ≡ get_or lines (place - 1) d ∷ drop (place - 1 + 1) lines = at_drop_more (λ (ls : List ScriptLine). ls) lines (place - 1) d below in
    subst (λ (ls : List ScriptLine). IsKindLines wanted (place - 1) ls new) (sym whole)
    (noted (drop (place - 1 + 1) lines) (subst (λ (n : ℕ). IsKindLines wanted n (drop n lines) old) (sym back) was))

pub one_kind : (lines : List ScriptLine) (old new : List KindLines) (kept : KindLines) (m : ℕ) → new ≡ old ++ kept ∷ [] → length old ≡ m →
    ((n : ℕ) (d : KindLines) → n < m → IsKindLines (Some n) 0 lines (get_or old n d)) → IsKindLines (Some m) 0 lines kept →
    (n : ℕ) (d : KindLines) → n < m + 1 → IsKindLines (Some n) 0 lines (get_or new n d)
one_kind lines old new kept m grew len were is n d below =
    subst (λ (ks : List KindLines). IsKindLines (Some n) 0 lines (get_or ks n d)) (sym grew) (⊎_elim earlier last (cases_lt n m))
  where
    earlier : n < m → IsKindLines (Some n) 0 lines (get_or (old ++ kept ∷ []) n d)
    earlier lt = subst (λ (k : KindLines). IsKindLines (Some n) 0 lines k) (sym (get_or_append_left old (kept ∷ []) d n (omega arith))) (were n d lt)

    last : m ≤ n → IsKindLines (Some n) 0 lines (get_or (old ++ kept ∷ []) n d)
    last le =
        let at : m ≡ n = omega arith in
        let there : get_or (old ++ kept ∷ []) n d ≡ kept = get_or_push old kept d n (omega arith) in
        subst (λ (k : KindLines). IsKindLines (Some n) 0 lines k) (sym there) (subst (λ (i : ℕ). IsKindLines (Some i) 0 lines kept) at is)
