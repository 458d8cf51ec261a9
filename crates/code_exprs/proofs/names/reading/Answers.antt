use Rattle.std.proofs.Common.{ℕ, sym, ap, ◌∙◌}
use Rattle.code_rules.specs.Instructions as instrs
use Rattle.emitted_code.specs.Views.{marks_of}
use Rattle.code_exprs.proofs.Named.{own_read, outer_read}
use Rattle.code_exprs.proofs.names.reading.Goals as goal

pub returns-in-Some : goal.returns-in-Some
returns-in-Some c = λ w l d.
    let ms = marks_of c.args.path.items in
    ap (λ (k : ℕ). instrs.Get k ms) (c.spot.ensures w l d)
    ∙ own_read w l c.args.name.now ms c.in-Some.place (sym c.in-Some.is ∙ c.place.ensures w d.site)

pub returns-in-None : goal.returns-in-None
returns-in-None c = λ w l d.
    c.constant.ensures ∙ outer_read w l c.args.name.now (marks_of c.args.path.items) _ (sym c.in-None.is ∙ c.place.ensures w d.site) (c.outer_value.ensures w d.site)
