use Rattle.std.proofs.Common.{rules, ◌≡◌, ℕ, Bool, List, Option, length, replicate, false, None, subst, sym, ap, ◌∙◌}
use Rattle.std.proofs.lemmas.List.{length-replicate}
use Rattle.type_rules.specs.declared.types.Measured.{Measured}
use Rattle.type_forms.specs.Seen.{has}
use Rattle.type_forms.specs.Settled.{AreSettled}
use Rattle.type_forms.proofs.SettledTypes.{are_types, none_settled}
use Rattle.type_forms.proofs.settled.types_of.Goals as goal

pub settle_these-requires : goal.settle_these-requires
settle_these-requires c =
    ap length (c.in_ok-types.ensures {u = tt}) ∙ length-replicate c.count-count.result None
    ∙ sym (ap length (c.in_ok-settled.ensures {u = tt}) ∙ length-replicate c.count-count.result false)

pub returns : goal.returns
returns c = λ us x constants parts.
    let none : (n : List ℕ) → has c.new-none.result n ≡ false = λ n. search rules in
    let begins = subst (λ (t : List (Option Measured)). AreSettled us t c.in_ok-settled.settled.items) (sym (c.in_ok-types.ensures {u = tt}))
    (subst (λ (s : List Bool). AreSettled us (replicate c.count-count.result None) s) (sym (c.in_ok-settled.ensures {u = tt}))
    (none_settled us c.count-count.result (c.count-count.ensures us x))) in
    are_types us c.settle.new.types.items c.settle.new.settled.items
    ((c.in_ok-settle.ensures {u = tt}).right us (record { names = x; constants = constants; parts = parts; none = none }) ((c.in_ok-settle_these.ensures {u = tt}).right us (record { names = x; constants = constants; parts = parts; none = none }) begins))
    ((c.in_ok-settle.ensures {u = tt}).left us (record { names = x; constants = constants; parts = parts; none = none }))
