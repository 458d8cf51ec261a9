use Rattle.kept_copies.proofs.Keeping.{copies_kept}
use Rattle.kept_copies.proofs.copies_stand.Goals as goal

pub returns : goal.returns
returns c = λ f w kept placed stand book is ends are nodes members m end at. copies_kept f w kept placed stand book is ends are nodes members m end at
