use Rattle.std.proofs.Common.{◌∙◌, arith}
use Rattle.std.proofs.lemmas.Result.{err_from_is_err_and}
use Rattle.orca_cli.proofs.PlaceLemmas.{place_fault, place_put, places_over}
use Rattle.orca_cli.proofs.places.print_all.Goals as goal

pub returns-in_err-put-clause-wrote : goal.returns-in_err-put-clause-wrote
returns-in_err-put-clause-wrote g c =
    let p = err_from_is_err_and c.from_residual-in_err-put.result c.from_residual-in_err-put.ensures.1 in
    rw (p.1, p.2) (place_fault _ _ _ c.args.book.now c.args.notes.now c.lines.at c.index-book-at.result c.note_at-note.result _ _ (omega (arith, c.lines-test.true, c.min-count.ensures))
    c.index-book-at.is c.note_at-note.ensures (c.deref.ensures.value ∙ c.in_ok-text.ensures) c.lines.invariant.told c.in_err-put.ensures.puts)

pub lines-preserved : goal.lines-preserved
lines-preserved g c = record {
  told = place_put _ _ _ c.args.book.now c.args.notes.now c.lines.at c.index-book-at.result c.note_at-note.result _ (omega (arith, c.lines-test.true, c.min-count.ensures))
      c.index-book-at.is c.note_at-note.ensures (c.deref.ensures.value ∙ c.in_ok-text.ensures) c.lines.invariant.told c.in_ok-put.ensures.puts;
  quiet = c.put.ensures.quiet (λ h. absurd (cc (c.in_ok-put.was {u = tt}, h))) ∙ c.lines.invariant.quiet;
}

pub returns-clause-wrote : goal.returns-clause-wrote
returns-clause-wrote g c = places_over _ _ c.args.book.now c.args.notes.now c.lines.at (omega (arith, c.lines-test.false, c.min-count.ensures)) c.lines.invariant.told
