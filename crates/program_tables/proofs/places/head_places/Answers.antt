use Rattle.std.proofs.Common.{ℕ, List, Some, None, cond, ap, ◌∙◌}
use Rattle.std.specs.Prelude.{bytes_eq}
use Rattle.orca_syntax.specs.Shown.{head}
use Rattle.type_tables.specs.Entries.{entry, or_other}
use Rattle.program_tables.proofs.Listing.{placed_next}
use Rattle.program_tables.proofs.places.head_places.Goals as goal

pub heads-preserved : goal.heads-preserved
heads-preserved c = λ n.
    placed_next head (λ f. bytes_eq f.name.text n) c.args.heads.now c.heads.place c.index-heads-place.result _ _ c.heads-test.true c.index-heads-place.is
    (c.heads.invariant n)
    ((c.in_ok-note.ensures {u = tt}) n
    ∙ ap (λ (m : List ℕ). or_other (entry c.heads.places n) (cond (bytes_eq m n) (Some c.heads.place) None)) c.as_str.ensures)
