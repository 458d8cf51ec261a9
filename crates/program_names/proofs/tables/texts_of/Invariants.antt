use Rattle.std.proofs.Common.{◌≡◌, take, map, filter}
use Rattle.meaning_rules.specs.Programs.{is_process}
use Rattle.type_forms.specs.Seen.{top}
use Rattle.program_names.specs.Naming.{name_text}
use Rattle.program_names.proofs.tables.texts_of.Given as goal

abbrev pub invariant-tops : goal.invariant-tops
invariant-tops l = l.texts.items ≡ map name_text (filter (λ t. is_process t.what) (take l.item-index (map top l.tops)))
