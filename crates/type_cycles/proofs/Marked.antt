-- Tables of marks.
use Rattle.std.proofs.Common.{◌≡◌, ℕ, ◌≤◌, ◌<◌, Bool, false, List, length, ◌⊎◌, inl, inr, sym, ap, ◌∙◌}
use Rattle.std.proofs.lemmas.Bool.{cases_lt}
use Rattle.std.proofs.lemmas.Option.{slice_get_past}
use Rattle.type_forms.specs.Settled.{or_false}
use Rattle.type_cycles.specs.Leading.{is_marked}

unmarked : (marks : List Bool) (i : ℕ) → length marks ≤ i → is_marked marks i ≡ false
unmarked marks i le = ap or_false (slice_get_past marks i le)

-- what a table tells of each of its numbers, it tells of every number, where nothing is so of any other
pub everywhere : (marks : List Bool) (f : ℕ → Bool) → ((i : ℕ) → i < length marks → is_marked marks i ≡ f i) →
    ((i : ℕ) → length marks ≤ i → f i ≡ false) → (i : ℕ) → is_marked marks i ≡ f i
everywhere marks f each none i = by_place (cases_lt i (length marks))
  where
    by_place : (i < length marks) ⊎ (length marks ≤ i) → is_marked marks i ≡ f i
    by_place (inl lt) = each i lt
    by_place (inr le) = unmarked marks i le ∙ sym (none i le)
