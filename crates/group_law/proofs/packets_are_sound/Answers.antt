use Rattle.group_law.proofs.Travelling.{sound_law}
use Rattle.group_law.proofs.packets_are_sound.Goals as goal

pub returns : goal.returns
returns g c = sound_law _ _
