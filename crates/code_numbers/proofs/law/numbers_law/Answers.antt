use Rattle.std.proofs.Common.{subst}
use Rattle.code_numbers.proofs.Guards.{IsSmall, tries_small}
use Rattle.code_numbers.proofs.Programs.{objects_small}
use Rattle.code_numbers.proofs.law.numbers_law.Goals as goal

pub returns : goal.returns
returns c = record {
  objects = objects_small;
  done = λ us numbers kind op state args after guard reply e. subst (IsSmall _) e (tries_small us numbers kind op state args);
  broken = λ us numbers kind op state args guard fault e. subst (IsSmall _) e (tries_small us numbers kind op state args);
}
