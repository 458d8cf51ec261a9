use Rattle.value_texts.proofs.Facts.{read_again, read_sound}
use Rattle.value_texts.proofs.Numerals.{natural_again, natural_takes}
use Rattle.value_texts.proofs.Values.{integer_again, integer_takes, object_id_again, object_id_takes, values_again, values_take}
use Rattle.value_texts.proofs.laws.reading_law.Goals as goal

pub returns-clause-found : goal.returns-clause-found
returns-clause-found c = λ text x fits e. read_sound text x fits e

pub returns-clause-again : goal.returns-clause-again
returns-clause-again c = λ v behind sound ends. read_again v behind sound ends

pub returns-clause-listed : goal.returns-clause-listed
returns-clause-listed c = λ text x fits e. let t = values_take text x fits e in (t.1, t.0)

pub returns-clause-listed_again : goal.returns-clause-listed_again
returns-clause-listed_again c = λ values behind sound. values_again values behind sound

pub returns-clause-number : goal.returns-clause-number
returns-clause-number c = λ text x e. let t = natural_takes text x e in (t.1, t.0)

pub returns-clause-number_again : goal.returns-clause-number_again
returns-clause-number_again c = λ number behind small ends. natural_again number behind small ends

pub returns-clause-integer : goal.returns-clause-integer
returns-clause-integer c = λ text x e. let t = integer_takes text x e in (t.1, t.0)

pub returns-clause-integer_again : goal.returns-clause-integer_again
returns-clause-integer_again c = λ number behind fits ends. integer_again number behind fits ends

pub returns-clause-object : goal.returns-clause-object
returns-clause-object c = λ text x e. let t = object_id_takes text x e in (t.1, t.2, t.0)

pub returns-clause-object_again : goal.returns-clause-object_again
returns-clause-object_again c = λ object behind small low ends. object_id_again object behind small low ends
