-- What a program means: the two records over which histories are defined (value_core, specs/Meaning.antt).
use Rattle.std.specs.Prelude.{List}
use Rattle.link_rules.specs.Units.{Source}
use Rattle.value_core.specs.Meaning.{Performs, Computes}
use Rattle.meaning_rules.specs.Programs.{main_text}
use Rattle.meaning_rules.specs.Operations.{tries_of, making_of}
use Rattle.meaning_rules.specs.Processes.{next_doing}
use Rattle.meaning_rules.specs.Classes.{class_of}

abbrev pub performs_of : List Source → Performs
performs_of us = record { class_of = class_of us; made = making_of us; tries = tries_of us }

abbrev pub computes_of : List Source → Computes
computes_of us = record { main = main_text us; doing = next_doing us }
