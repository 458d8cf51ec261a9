use Rattle.code_rules.proofs.Fits.{fits_so}
use Rattle.code_rules.proofs.Program.{means_the_source}
use Rattle.code_rules.proofs.Resuming.{resumes}
use Rattle.code_rules.proofs.Stepping.{begins_so, steps_so}
use Rattle.code_rules.proofs.law.code_law.Goals as goal

pub returns-clause-means : goal.returns-clause-means
returns-clause-means c = means_the_source

pub returns-clause-resumes : goal.returns-clause-resumes
returns-clause-resumes c = resumes

pub returns-clause-begins : goal.returns-clause-begins
returns-clause-begins c = begins_so

pub returns-clause-steps : goal.returns-clause-steps
returns-clause-steps c = steps_so

pub returns-clause-fits : goal.returns-clause-fits
returns-clause-fits c = fits_so
