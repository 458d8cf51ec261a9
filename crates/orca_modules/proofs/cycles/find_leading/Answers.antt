use Rattle.std.proofs.Common.{◌≡◌, ℕ, List, [], Bor, false, sym, ap, ◌∙◌, inl, inr}
use Rattle.std.specs.Prelude.{is_some}
use Rattle.std.specs.BTreeMap.{BTreeMap, is_at}
use Rattle.std.specs.Map.{lookup}
use Rattle.std.specs.Cmp.Lexicographic.{slice_cmp}
use Rattle.std.specs.Ordering.{nat_cmp}
use Rattle.std.proofs.lemmas.Bool.{true≢false}
use Rattle.link_rules.specs.Cycles.{itself}
use Rattle.orca_modules.specs.Seen.{has}
use Rattle.orca_modules.proofs.Widened.{leading_to, new_or_old, now_there}
use Rattle.orca_modules.proofs.cycles.find_leading.Goals as goal

empty_set : {X : Type 0} (names : BTreeMap (Bor (List ℕ)) X) (n : List ℕ) → names.entries ≡ [] → has names n ≡ false
empty_set {X} names n e = ap (λ (es : List (Bor (List ℕ) × X)). is_some (lookup (is_at (λ k. slice_cmp nat_cmp n k.now)) es)) e

pub passes-init : goal.passes-init
passes-init c = (
  (λ n there. elim (new_or_old c.new-names.result c.add.new.names c.args.target.now c.in_ok-add.ensures n there) [
    | inl same ↦ itself n c.args.target.now (sym same)
    | inr old ↦ absurd (true≢false (sym old ∙ empty_set c.new-names.result n c.new-names.ensures.empty))
  ]),
  now_there c.new-names.result c.add.new.names c.args.target.now c.in_ok-add.ensures,
)

pub returns-then-not-wider : goal.returns-then-not-wider
returns-then-not-wider c =
    leading_to _ c.widen.new.names c.args.target.now
    (c.in_ok-wider.ensures.sound c.args.target.now c.passes.invariant.0)
    (c.in_ok-wider.ensures.closed c.if-not-wider.true)
    (c.in_ok-wider.ensures.kept c.args.target.now c.passes.invariant.1)
