use Rattle.std.proofs.Common.{◌≡◌, ◌≤◌, ◌+◌, drop, false}
use Rattle.orca_lexer.specs.Contents.{character_count}
use Rattle.orca_lexer.proofs.literals.character_count.Given as goal

abbrev pub invariant-bytes : goal.invariant-bytes
invariant-bytes l = record {
  sum : l.count + character_count l.escaped (drop l.byte-index l.content) ≡ character_count false l.content;
  few : l.count ≤ l.byte-index;
}
