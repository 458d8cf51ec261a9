use Rattle.std.proofs.Common.{refl}
use Rattle.kept_copies.proofs.worked_copies.Goals as goal

pub returns : goal.returns
returns c = record {
  single = refl;
  replicated = refl;
  owner = refl;
  made = refl;
  before = refl;
  other = refl;
  first = refl;
  second = refl;
  whole = refl;
  none = refl;
}
