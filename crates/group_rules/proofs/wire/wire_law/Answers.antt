use Rattle.group_rules.proofs.Travelling.{appended_law, letters_law, numbered_law, packets_law, posted_law, sent_law}
use Rattle.group_rules.proofs.wire.wire_law.Goals as goal

pub returns-clause-numbered : goal.returns-clause-numbered
returns-clause-numbered g c = numbered_law _

pub returns-clause-posted : goal.returns-clause-posted
returns-clause-posted g c = posted_law _ _

pub returns-clause-appended : goal.returns-clause-appended
returns-clause-appended g c = appended_law _ _

pub returns-clause-letters : goal.returns-clause-letters
returns-clause-letters g c = letters_law _ _

pub returns-clause-sent : goal.returns-clause-sent
returns-clause-sent g c = sent_law _

pub returns-clause-packets : goal.returns-clause-packets
returns-clause-packets g c = packets_law _
