use Rattle.orca_grammar.proofs.Whole.{unexpected}
use Rattle.parse_units.proofs.Texts.{some_deep, deep_refusal}
use Rattle.parse_units.proofs.whole.refusal.Goals as goal

pub first_place-requires : goal.first_place-requires
first_place-requires c = some_deep c.args.tokens.now _ (rw c.in-TooNested.is at c.requires.fails)

pub returns-in-Unexpected : goal.returns-in-Unexpected
returns-in-Unexpected c =
    let bad = unexpected c.args.tokens.now _ (rw c.in-Unexpected.is at c.requires.fails) in
    c.unexpected.ensures bad.0 bad.1

pub returns-in-TooNested : goal.returns-in-TooNested
returns-in-TooNested c = deep_refusal c.args.tokens.now _ _ (rw c.in-TooNested.is at c.requires.fails) c.first_place.ensures
