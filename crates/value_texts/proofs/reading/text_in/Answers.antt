use Rattle.value_texts.proofs.Facts.{chars_ascii}
use Rattle.value_texts.proofs.reading.text_in.Goals as goal

pub text_from-requires : goal.text_from-requires
text_from-requires c = chars_ascii c.args.text.now (c.in_ok-characters.characters.items, c.in_ok-characters.rest.now) c.in_ok-characters.ensures
