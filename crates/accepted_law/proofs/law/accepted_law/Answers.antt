use Rattle.accepted_law.proofs.Accepted.{accepted, phrases_are_known, types_are_known}
use Rattle.accepted_law.proofs.Heads.{calls_known}
use Rattle.accepted_law.proofs.Making.{makes_known}
use Rattle.accepted_law.proofs.Meeting.{meets_of_links}
use Rattle.accepted_law.proofs.Numbers.{are_numbers}
use Rattle.accepted_law.proofs.Starting.{starts_fit}
use Rattle.accepted_law.proofs.law.accepted_law.Goals as goal

pub returns : goal.returns
returns c = record { types = types_are_known; phrases = phrases_are_known; accepted = accepted; starts = starts_fit; numbers = are_numbers; meets = meets_of_links; makes = makes_known; calls = calls_known }
