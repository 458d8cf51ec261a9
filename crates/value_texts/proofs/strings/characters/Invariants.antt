use Rattle.std.proofs.Common.{◌≡◌, ◌-◌, None, length}
use Rattle.value_texts.specs.Reading.{character_at, last_of, until_at}
use Rattle.value_texts.proofs.Turns.{with_front}
use Rattle.value_texts.proofs.strings.characters.Given as goal

abbrev pub invariant-loop : goal.invariant-loop
invariant-loop l =
    with_front l.characters.items (until_at (λ last. character_at) 34 (length l.text - l.counter) (last_of l.characters.items) l.rest)
    ≡ until_at (λ last. character_at) 34 (length l.text) None l.text
