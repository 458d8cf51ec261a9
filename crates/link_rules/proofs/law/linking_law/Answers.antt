use Rattle.link_rules.proofs.Breaches.{no_breach}
use Rattle.link_rules.proofs.Declaring.{comes_from}
use Rattle.link_rules.proofs.OfText.{unit_of_text}
use Rattle.link_rules.proofs.Seeing.{defines_once, tells_seen}
use Rattle.link_rules.proofs.Telling.{is_told}
use Rattle.link_rules.proofs.Ways.{reaches_all}
use Rattle.link_rules.proofs.law.linking_law.Goals as goal

pub returns : goal.returns
returns c = record { links = no_breach; cycles = reaches_all; told = is_told; once = defines_once; declared = comes_from; seen = tells_seen; units = unit_of_text }
