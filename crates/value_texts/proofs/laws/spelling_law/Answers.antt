use Rattle.value_texts.proofs.Ascii.{parts_ascii, value_ascii}
use Rattle.value_texts.proofs.Facts.{one_text, one_value}
use Rattle.value_texts.proofs.laws.spelling_law.Goals as goal

pub returns-clause-one : goal.returns-clause-one
returns-clause-one c = λ v w sound other same. one_text v w sound other same

pub returns-clause-prefix : goal.returns-clause-prefix
returns-clause-prefix c = λ v w behind more sound other ends stops same. one_value v w behind more sound other ends stops same

pub returns-clause-ascii : goal.returns-clause-ascii
returns-clause-ascii c = λ v sound. value_ascii v sound.well_formed

pub returns-clause-listed_ascii : goal.returns-clause-listed_ascii
returns-clause-listed_ascii c = λ values sound. parts_ascii values sound.well_formed
