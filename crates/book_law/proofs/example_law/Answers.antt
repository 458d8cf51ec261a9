use Rattle.book_law.proofs.example_law.Goals as goal
use Rattle.book_law.proofs.Example.{is_run}
use Rattle.book_law.proofs.Looks.{is_looking}
use Rattle.book_law.proofs.WrongReads.{wrong_reads}
use Rattle.book_law.proofs.WrongRules.{wrong_rules}

pub returns : goal.returns
returns c = record { run = is_run; looking = is_looking; wrong_rules = wrong_rules; wrong_reads = wrong_reads }
