use Rattle.run_law.proofs.Replies.{by_lines, off_book}
use Rattle.run_law.proofs.replies_stand.Goals as goal

pub returns : goal.returns
returns g c = record {
  lines = by_lines _ _;
  books = λ f same_p same_q settings steps w replays m i r here.
      let kept = c.legal_book.ensures.kept f same_p same_q settings steps w replays in
      off_book f.performs f.computes _ i r.replies kept.legal (kept.one_short m i r here);
}
