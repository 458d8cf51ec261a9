-- The group's letters among packets.
use Rattle.std.proofs.Common.{List, [], ◌∷◌}
use Rattle.value_core.specs.declared.message.Message.{Message}
use Rattle.group_rules.specs.Member.{Letter}
use Rattle.world_rules.specs.Mail.{Mail}
use Rattle.world_enough.specs.Tie.{with_letter}

abbrev pub letters_in : List Mail → List (Letter Message)
letters_in [] = []
letters_in (mail ∷ mails) = with_letter mail (letters_in mails)
