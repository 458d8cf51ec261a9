use Rattle.orca_syntax.proofs.Complete.{some_syntax}
use Rattle.orca_syntax.proofs.FirstPlaces.{are_places, are_shown_places}
use Rattle.orca_syntax.proofs.MarksOfDeclarations.{unit_shown}
use Rattle.orca_syntax.proofs.PlacesInOrder.{syntax_in_order}
use Rattle.orca_syntax.proofs.PrintedOnce.{loses_places, read_back, syntax_sound}
use Rattle.orca_syntax.proofs.SoundParts.{parts_sound}
use Rattle.orca_syntax.proofs.TextOnce.{derived_once, text_once, text_syntax, trees_once}
use Rattle.orca_syntax.proofs.law.syntax_law.Goals as goal

pub returns-clause-some : goal.returns-clause-some
returns-clause-some c = some_syntax

pub returns-clause-one : goal.returns-clause-one
returns-clause-one c = λ tokens s t p q. derived_once s t tokens p q

pub returns-clause-once : goal.returns-clause-once
returns-clause-once c = text_once

pub returns-clause-marks : goal.returns-clause-marks
returns-clause-marks c = unit_shown

pub returns-clause-shown : goal.returns-clause-shown
returns-clause-shown c = text_syntax

pub returns-clause-bare : goal.returns-clause-bare
returns-clause-bare c = loses_places

pub returns-clause-printed : goal.returns-clause-printed
returns-clause-printed c = read_back

pub returns-clause-trees : goal.returns-clause-trees
returns-clause-trees c = trees_once

pub returns-clause-sound : goal.returns-clause-sound
returns-clause-sound c = syntax_sound

pub returns-clause-places : goal.returns-clause-places
returns-clause-places c = are_places

pub returns-clause-shown_places : goal.returns-clause-shown_places
returns-clause-shown_places c = are_shown_places

pub returns-clause-rise : goal.returns-clause-rise
returns-clause-rise c = syntax_in_order

pub returns-clause-parts : goal.returns-clause-parts
returns-clause-parts c = parts_sound
