-- Answers parted by text are all of them.
use Rattle.std.proofs.Common.{refl, ap, ◌∙◌, arith}
use Rattle.std.specs.Prelude.{◌≡◌, ℕ, List, [], ◌∷◌, ◌++◌, map, flat_map, length, take, drop}
use Rattle.std.proofs.lemmas.List.{length-append, length-drop, length-take-le, take-append-drop}
use Rattle.orca_base.specs.declared.what.Choice.{Choice}
use Rattle.link_rules.specs.Units.{Source}
use Rattle.meaning_rules.specs.Programs.{process_texts}
use Rattle.site_estimates.specs.declared.estimate.Estimate.{Estimate}
use Rattle.estimate_rules.specs.Estimates.{estimates, summaries_of, process_estimates}
use Rattle.estimate_rules.specs.Sites.{ArePartedByText, all_of, choices_of, estimates_by_text}

listed : {X : Type 0} (f : X → List Estimate) (xs : List X) → flat_map f xs ≡ all_of (map f xs)
listed f [] = refl
listed f (x ∷ xs) = ap (λ (l : List Estimate). f x ++ l) (listed f xs)

empty : {X : Type 0} (xs : List X) → length xs ≡ 0 → [] ≡ xs
empty [] none = refl
empty (x ∷ xs) none = absurd (omega (arith, none))

left : (es : List Estimate) (rest : List (List Estimate)) (cs : List Choice) → length cs ≡ length (es ++ all_of rest) → length (drop (length es) cs) ≡ length (all_of rest)
left es rest cs many = let both = length-append es (all_of rest) in let behind = length-drop (length es) cs in omega (arith, many, both, behind)

answers : (ess : List (List Estimate)) (cs : List Choice) → length cs ≡ length (all_of ess) → all_of (choices_of ess cs) ≡ cs
answers [] cs many = empty cs many
answers (es ∷ rest) cs many =
    ap (λ (l : List Choice). take (length es) cs ++ l) (answers rest (drop (length es) cs) (left es rest cs many)) ∙ take-append-drop (length es) cs

each : (ess : List (List Estimate)) (cs : List Choice) → length cs ≡ length (all_of ess) → map length (choices_of ess cs) ≡ map length ess
each [] cs many = refl
each (es ∷ rest) cs many =
    let both = length-append es (all_of rest) in
    ap (λ (n : ℕ). n ∷ map length (choices_of rest (drop (length es) cs))) (length-take-le (length es) cs (omega (arith, many, both)))
    ∙ ap (λ (l : List ℕ). length es ∷ l) (each rest (drop (length es) cs) (left es rest cs many))

pub parted : (us : List Source) (cs : List Choice) → length cs ≡ length (estimates us) → ArePartedByText us cs
parted us cs many =
    let same : estimates us ≡ all_of (estimates_by_text us) = listed (process_estimates (summaries_of us) us) (process_texts us) in
    let all = many ∙ ap (λ (l : List Estimate). length l) same in
    record { estimates = same; answers = answers (estimates_by_text us) cs all; each = each (estimates_by_text us) cs all }
