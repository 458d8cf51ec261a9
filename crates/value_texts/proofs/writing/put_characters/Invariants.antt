use Rattle.std.proofs.Common.{◌≡◌, ◌++◌, drop}
use Rattle.std.specs.List.{flat_map}
use Rattle.value_texts.specs.Spelling.{escaped}
use Rattle.value_texts.proofs.writing.put_characters.Given as goal

abbrev pub invariant-characters : goal.invariant-characters
invariant-characters l = l.out.items ++ flat_map escaped (drop l.character-index l.characters) ≡ l.initial.out.items ++ flat_map escaped l.characters
