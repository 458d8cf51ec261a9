use Rattle.std.proofs.Common.{ℕ, ◌+◌, Bool, not, ◌||◌, List, ◌∷◌, drop, ap, ◌∙◌}
use Rattle.std.specs.Prelude.{bytes_eq}
use Rattle.type_rules.specs.Order.{least}
use Rattle.type_rules.specs.Rules.{asks}
use Rattle.type_forms.specs.Seen.{has, lent}
use Rattle.type_forms.proofs.Loops.{bytes_turned, rest_is}
use Rattle.type_forms.proofs.NewNames.{new_step}
use Rattle.type_forms.proofs.repeats.each_new.Goals as goal

pub names-preserved : goal.names-preserved
names-preserved c =
    let inv = c.names.invariant in
    let x = c.name-item.result.now in
    let left = lent (drop (c.names.name-index + 1) c.args.names.now) in
    let front = lent (drop c.names.name-index c.args.names.now) in (
      x.text ∷ inv.0,
      (λ n. (c.in_ok-add.ensures {u = tt}) n ∙ ap (λ (v : List ℕ). bytes_eq v n || has c.names.before n) c.as_str-in-names.ensures
          ∙ ap (λ (b : Bool). b || has c.names.before n) (bytes_turned x.text n) ∙ ap (λ (b : Bool). bytes_eq n x.text || b) (inv.1 n)),
      new_step c.args.rule inv.0 x left front c.names.first c.asks.result c.lesser-first.result _
          (ap lent (rest_is c.args.names.now c.names.name-index c.name-item.result c.names-test.true c.name-item.is))
          (c.asks.ensures ∙ ap (λ (b : Bool). least (asks c.args.rule x.at (not b))) (c.holds-is_new.ensures ∙ ap (has c.names.before) c.as_str.ensures ∙ inv.1 x.text))
          c.lesser-first.ensures inv.2,
    )
