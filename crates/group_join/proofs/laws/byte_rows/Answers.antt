use Rattle.group_join.proofs.Worked.{empty_is, field_is, next_is, seek_is, short_is, state_is, tag_is, trailing_is}
use Rattle.group_join.proofs.laws.byte_rows.Goals as goal

pub returns-clause-seek : goal.returns-clause-seek
returns-clause-seek c = seek_is

pub returns-clause-next : goal.returns-clause-next
returns-clause-next c = next_is

pub returns-clause-state : goal.returns-clause-state
returns-clause-state c = state_is

pub returns-clause-empty : goal.returns-clause-empty
returns-clause-empty c = empty_is

pub returns-clause-tag : goal.returns-clause-tag
returns-clause-tag c = tag_is

pub returns-clause-short : goal.returns-clause-short
returns-clause-short c = short_is

pub returns-clause-trailing : goal.returns-clause-trailing
returns-clause-trailing c = trailing_is

pub returns-clause-field : goal.returns-clause-field
returns-clause-field c = field_is
