use Rattle.group_law.proofs.Sending.{senders_law}
use Rattle.group_law.proofs.posts_are_their_members.Goals as goal

pub returns : goal.returns
returns g c = senders_law _ _
