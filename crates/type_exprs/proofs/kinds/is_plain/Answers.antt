use Rattle.std.proofs.Common.{◌≡◌, Bool, false, ◌&&◌, List, [], length, sym, ap, ◌∙◌}
use Rattle.std.specs.Prelude.{◌==◌}
use Rattle.type_rules.specs.declared.types.Layer.{Layer}
use Rattle.type_rules.specs.Types.{same_base, same_layers}
use Rattle.type_exprs.proofs.Layers.{empty_same}
use Rattle.type_exprs.proofs.kinds.is_plain.Goals as goal

pub returns-else-is_empty : goal.returns-else-is_empty
returns-else-is_empty c =
    let layers : same_layers c.args.kind.now.layers [] ≡ false =
    sym (empty_same c.args.kind.now.layers) ∙ ap (λ (l : List Layer). length l == 0) (sym c.as_slice.ensures) ∙ sym c.is_empty.ensures ∙ c.if-is_empty.false in
    c.if-is_empty.false ∙ sym (ap (λ (b : Bool). b && same_base c.args.kind.now.base c.args.base) layers)
