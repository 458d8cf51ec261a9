use Rattle.std.proofs.Common.{ℕ, List, Some, None, cond, ap, ◌∙◌}
use Rattle.std.specs.Prelude.{bytes_eq}
use Rattle.orca_syntax.specs.Shown.{typed_name}
use Rattle.type_tables.specs.Entries.{entry, or_other}
use Rattle.program_tables.proofs.Listing.{placed_next}
use Rattle.program_tables.proofs.places.field_places.Goals as goal

pub fields-preserved : goal.fields-preserved
fields-preserved c = λ n.
    placed_next typed_name (λ f. bytes_eq f.name.text n) c.args.fields.now c.fields.place c.index-fields-place.result _ _ c.fields-test.true c.index-fields-place.is
    (c.fields.invariant n)
    ((c.in_ok-note.ensures {u = tt}) n
    ∙ ap (λ (m : List ℕ). or_other (entry c.fields.places n) (cond (bytes_eq m n) (Some c.fields.place) None)) c.as_str.ensures)
