use Rattle.std.proofs.Common.{◌≡◌, ◌+◌, drop, false}
use Rattle.std.specs.Option.{option_map}
use Rattle.orca_lexer.specs.Shapes.{content_len}
use Rattle.orca_lexer.proofs.literals.content_len.Given as goal

abbrev pub invariant-content : goal.invariant-content
invariant-content l = option_map (λ n. n + l.len) (content_len l.escaped l.quote (drop l.len l.text)) ≡ content_len false l.quote l.text
