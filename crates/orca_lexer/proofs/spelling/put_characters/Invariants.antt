use Rattle.std.proofs.Common.{◌≡◌, ◌++◌, drop}
use Rattle.std.specs.List.{flat_map}
use Rattle.orca_lexer.specs.Fronts.{StillBegins}
use Rattle.orca_lexer.specs.Spelling.{character_text}
use Rattle.orca_lexer.proofs.spelling.put_characters.Given as goal

abbrev pub invariant-characters : goal.invariant-characters
invariant-characters l = record {
  written : l.out.items ++ flat_map (character_text l.quote) (drop l.code-index l.codes) ≡ l.initial.out.items ++ flat_map (character_text l.quote) l.codes;
  keeps : StillBegins l.initial.out.items l.out.items;
}
