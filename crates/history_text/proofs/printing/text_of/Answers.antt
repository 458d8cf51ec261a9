use Rattle.std.proofs.lemmas.Str.{IsUtf8-from_ascii}
use Rattle.history_text.proofs.printing.text_of.Goals as goal

pub unwrap-requires : goal.unwrap-requires
unwrap-requires c = c.from_utf8.ensures.succeeds (IsUtf8-from_ascii _ c.requires)
