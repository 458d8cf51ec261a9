use Rattle.history_buffer.proofs.Entries.{is_there, one_appended}
use Rattle.history_buffer.proofs.history.append_copy.Goals as goal

pub returns-in_ok-copy : goal.returns-in_ok-copy
returns-in_ok-copy g c = one_appended _ _ _ _ _ _ c.push_back.ensures.items c.requires.room c.requires.begins c.in-Some.ensures c.in_ok-copy.ensures

pub returns-in_default : goal.returns-in_default
returns-in_default g c = absurd (is_there _ _ c.requires.place c.in_default.ensures)
