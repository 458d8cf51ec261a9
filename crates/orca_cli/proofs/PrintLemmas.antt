-- What was printed, one put on.
use Rattle.std.proofs.Common.{◌≡◌, ℕ, suc, ◌+◌, ◌<◌, List, ◌++◌, length, get_or, drop, add-one, drop-cons, Option, sym, ap, ◌∙◌, subst}
use Rattle.std.specs.Prelude.{Ok, Err}
use Rattle.orca_io.specs.declared.sink.SinkFault.{SinkFault}
use Rattle.orca_io.specs.Sinks.{Puts}
use Rattle.value_core.specs.History.{output_by, output_of}
use Rattle.value_core.specs.declared.action.Line.{Line}
use Rattle.command_output.proofs.Putting.{GrewUpTo, grew_fault, grew_put}
use Rattle.command_output.specs.Printed.{Grew, WroteOf}

-- what a line and those behind it write
output_drop : (book : List Line) (i : ℕ) (line : Line) → i < length book → line ≡ get_or book i line → output_of (drop i book) ≡ output_by line.action ++ output_of (drop (suc i) book)
output_drop book i line less is = ap output_of (drop-cons book i line less) ∙ ap (λ (l : Line). output_by l.action ++ output_of (drop (suc i) book)) (sym is)

line_left : (first old : Option (List ℕ)) (book : List Line) (i : ℕ) (line : Line) (piece : List ℕ) → i < length book → line ≡ get_or book i line → piece ≡ output_by line.action → GrewUpTo first old (output_of book) (output_of (drop i book)) →
    GrewUpTo first old (output_of book) (piece ++ output_of (drop (suc i) book))
line_left first old book i line piece less is says told = subst (GrewUpTo first old (output_of book))
    (output_drop book i line less is ∙ ap (λ (t : List ℕ). t ++ output_of (drop (suc i) book)) (sym says)) told

-- one line of a book more
pub grew_line : (first old new : Option (List ℕ)) (book : List Line) (i : ℕ) (line : Line) (piece : List ℕ) → i < length book → line ≡ get_or book i line → piece ≡ output_by line.action → GrewUpTo first old (output_of book) (output_of (drop i book)) →
    Puts old new piece (Ok tt) → GrewUpTo first new (output_of book) (output_of (drop (i + 1) book))
grew_line first old new book i line piece less is says told puts = subst (λ (k : ℕ). GrewUpTo first new (output_of book) (output_of (drop k book))) (sym (add-one i))
    (grew_put first old new (output_of book) piece (output_of (drop (suc i) book)) (line_left first old book i line piece less is says told) puts)

-- and one that was not put whole
pub grew_line_fault : (first old new : Option (List ℕ)) (book : List Line) (i : ℕ) (line : Line) (piece : List ℕ) (fault : SinkFault) → i < length book → line ≡ get_or book i line → piece ≡ output_by line.action → GrewUpTo first old (output_of book) (output_of (drop i book)) →
    Puts old new piece (Err fault) → Grew first new (WroteOf (Err fault) (output_of book))
grew_line_fault first old new book i line piece fault less is says told puts =
    grew_fault first old new (output_of book) piece (output_of (drop (suc i) book)) fault (line_left first old book i line piece less is says told) puts
