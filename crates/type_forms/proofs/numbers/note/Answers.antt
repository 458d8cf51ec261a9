use Rattle.std.proofs.Common.{◌≡◌, ℕ, List, None, Some, Option, Bool, true, false, cond, ◌&&◌, refl, sym, ap, ◌∙◌}
use Rattle.std.specs.Prelude.{bytes_eq, is_some}
use Rattle.std.proofs.lemmas.Bool.{true≢false}
use Rattle.std.proofs.lemmas.Map.Text.{btree_map_updates_str}
use Rattle.std.proofs.lemmas.Slice.Eq.{bytes_eq-Decides}
use Rattle.type_rules.specs.TopLevel.{or_else}
use Rattle.type_forms.specs.Seen.{number_in}
use Rattle.type_forms.proofs.Positions.{or_else_none}
use Rattle.type_forms.proofs.numbers.note.Goals as goal

none : (was : Option ℕ) → is_some was ≡ false → was ≡ None
none None e = refl
none (Some i) e = absurd (true≢false e)

-- a name that had no number
noted : (passes same : Bool) (was : Option ℕ) (v : ℕ) → passes ≡ true → (same ≡ true → is_some was ≡ false) →
    cond same (Some v) was ≡ or_else was (cond (passes && same) (Some v) None)
noted passes true was v p without =
    sym (ap (λ (o : Option ℕ). or_else o (cond (passes && true) (Some v) None)) (none was (without refl)) ∙ ap (λ (b : Bool). cond (b && true) (Some v) None) p)
noted passes false was v p without = sym (ap (λ (b : Bool). or_else was (cond (b && false) (Some v) None)) p ∙ or_else_none was)

pub returns-in_ok-insert : goal.returns-in_ok-insert
returns-in_ok-insert c = λ n.
    btree_map_updates_str _ c.args.numbers.now c.insert.new.self _ (c.in_ok-insert.ensures {u = tt}).updates n
    ∙ noted c.args.passes (bytes_eq c.args.name.now n) (number_in c.args.numbers.now n) c.args.number c.if-passes.true
    (λ e. ap (λ (v : List ℕ). is_some (number_in c.args.numbers.now v)) (sym ((bytes_eq-Decides c.args.name.now n).0 e)) ∙ sym c.contains_key.ensures ∙ c.if-not-contains_key.true)
