-- What is told of lines, from what a step found.
use Rattle.std.proofs.Common.{◌≡◌, ℕ, zero, suc, ◌<◌, ◌≤◌, ◌^◌, Some, List, [], ◌∷◌, ◌++◌, length, take, sym, ap, ◌∙◌, arith, subst}
use Rattle.std.specs.Prelude.{slice_get}
use Rattle.std.proofs.lemmas.List.{take_all}
use Rattle.value_core.specs.declared.action.Line.{Line}
use Rattle.value_core.specs.Meaning.{Performs, Computes}
use Rattle.value_core.specs.History.{Legal, after_lines, opening}
use Rattle.book_law.proofs.Books.{take_at}
use Rattle.history_check.specs.Players.{Follows, Stood}
use Rattle.history_check.specs.Verdicts.{Breaks, IsBreach}
use Rattle.history_check.specs.declared.replayed.Replayed.{Replayed}
use Rattle.history_check.specs.declared.verdict.BreachRule.{BreachRule}

length_take_most : (lines : List Line) (n : ℕ) → length (take n lines) ≤ length lines
length_take_most lines zero = omega arith
length_take_most [] (suc n) = omega arith
length_take_most (l ∷ lines) (suc n) = let e = length_take_most lines n in omega (arith, e)

-- fewer lines are few
pub few_first : (lines : List Line) (n : ℕ) → length lines < 2 ^ 32 → length (take n lines) < 2 ^ 32
few_first lines n lt = let e = length_take_most lines n in omega (arith, e, lt)

pub breaks_here : (S : Type 0) (stands : Stood S) (p : Performs) (q : Computes) (r : Replayed S) (lines : List Line) (n number : ℕ) (line : Line) (rule : BreachRule) → Follows p q stands r (take n lines) → slice_get lines n ≡ Some line → number ≡ suc n → Breaks p q (after_lines p (opening q) (take n lines)) line rule → IsBreach p q lines number rule
breaks_here S stands p q r lines n number line rule f there is breaks = record { before = n; line = line; numbered = is; there = there; legal = f.legal; breaks = breaks }

pub one_further : (S : Type 0) (stands : Stood S) (p : Performs) (q : Computes) (r : Replayed S) (lines : List Line) (n m : ℕ) (line : Line) → slice_get lines n ≡ Some line → m ≡ suc n → Follows p q stands r (take n lines ++ line ∷ []) → Follows p q stands r (take m lines)
one_further S stands p q r lines n m line there is f = subst (λ (ls : List Line). Follows p q stands r ls) (sym (take_at lines n line there) ∙ ap (λ (k : ℕ). take k lines) (sym is)) f

pub all_legal : (S : Type 0) (stands : Stood S) (p : Performs) (q : Computes) (r : Replayed S) (lines : List Line) (n : ℕ) → length lines ≤ n → Follows p q stands r (take n lines) → Legal p q lines
all_legal S stands p q r lines n le f = subst (λ (ls : List Line). Legal p q ls) (take_all n lines le) f.legal
