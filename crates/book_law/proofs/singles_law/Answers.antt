use Rattle.std.specs.Prelude.{take}
use Rattle.object_manager.specs.After.{opening_copies}
use Rattle.book_law.specs.Replicated.{all_replicated}
use Rattle.book_law.proofs.singles_law.Goals as goal
use Rattle.book_law.proofs.Apart.{singles_apart}
use Rattle.book_law.proofs.Following.{members_follow}
use Rattle.book_law.proofs.Courses.{every_run}
use Rattle.book_law.proofs.Makers.{copies_made, makes_have_copies}
use Rattle.book_law.proofs.Members.{members_hold}
use Rattle.book_law.proofs.Owners.{owners_do_alike}
use Rattle.book_law.proofs.Replicated.{entries_stand, plain_all, plain_copies, tests_agree}

pub returns : goal.returns
returns c = record {
  entries = entries_stand;
  made = copies_made;
  makes = makes_have_copies;
  apart = singles_apart;
  owners = owners_do_alike;
  members = members_hold;
  follow = members_follow;
  tests = tests_agree;
  plain = λ p q w came n.
      let h = every_run all_replicated p q w came in
      record { copies = plain_all p opening_copies (take n w.list); objects = plain_copies p q w.list w.aside n (h.copies n) };
}
