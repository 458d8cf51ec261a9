use Rattle.std.proofs.Common.{take, map, filter}
use Rattle.meaning_rules.specs.Programs.{is_process}
use Rattle.type_forms.specs.Seen.{top}
use Rattle.program_tables.specs.Listed.{Lists}
use Rattle.program_tables.proofs.texts.texts_of.Given as goal

abbrev pub invariant-tops : goal.invariant-tops
invariant-tops l = Lists (filter (λ t. is_process t.what) (take l.item-index (map top l.tops))) l.texts
