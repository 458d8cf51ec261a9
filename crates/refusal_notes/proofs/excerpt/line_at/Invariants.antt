use Rattle.std.proofs.Common.{◌≡◌}
use Rattle.refusal_notes.specs.Excerpts.{behind_lines}
use Rattle.refusal_notes.proofs.excerpt.line_at.Given as goal

abbrev pub invariant-lines : goal.invariant-lines
invariant-lines l = l.rest ≡ behind_lines l._line l.text
