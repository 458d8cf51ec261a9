-- All clauses together.
use Rattle.book_law.specs.Fitness.{ArgsFit, StateFits}
use Rattle.book_law.proofs.Fits.{ReplyFits, TextFits}
use Rattle.world_rules.specs.Frame.{Frame}
use Rattle.world_rules.specs.OneCell.{one_cell}
use Rattle.world_rules.specs.Processes.{Begun, processes_in, single_by}
use Rattle.book_law.specs.Replicated.{all_replicated}
use Rattle.std.proofs.Common.{◌≡◌, false, Option, Some, None, [], refl, sym}
use Rattle.std.specs.Prelude.{slice_get}
use Rattle.orca_base.specs.declared.ids.ObjectId.{ObjectId}
use Rattle.world_course.specs.Law.{AreCourses, IsOneCell}
use Rattle.world_course.proofs.Asking.{own_call_lifts}
use Rattle.world_course.proofs.Hearing.{answer_lifts}
use Rattle.world_course.proofs.Later.{errand_later, leads_later}
use Rattle.world_course.proofs.Opening.{opening_follows}
use Rattle.world_course.proofs.Taking.{call_lifts}
use Rattle.world_course.proofs.Program.{Program}
use Rattle.world_course.proofs.Steps.{step_lifts}

pub all_lift : (f : Frame) (fits_state : StateFits) (fits_args : ArgsFit) (fits_text : TextFits) (fits_reply : ReplyFits) → Program f fits_state fits_args fits_text fits_reply → AreCourses f
all_lift f fits_state fits_args fits_text fits_reply program = record {
  opening = opening_follows f;
  steps = λ single w v c step h next gives agrees. step_lifts f single fits_state fits_args fits_text fits_reply w v c step program h next gives agrees;
  calls = λ single w c m call v h may. call_lifts f single fits_state fits_args fits_text fits_reply w c m call v program h may;
  own_calls = λ single w c m i r call v h is. own_call_lifts f single fits_state fits_args fits_text fits_reply w c m i r call v program
      (record { corresponds = h; here = is.here; acts = is.acts }) (record { process = is.process; number = is.number }) is.alone is.owner;
  answers = λ single w c m place i call reply v h answer low. answer_lifts f single w c m place i call reply v h answer low;
  errands = λ single c d m errand came leads stands. errand_later f single c d m errand (leads_later f single c d came leads) stands;
}

none_single : (o : ObjectId) (b : Option Begun) → single_by one_cell b o.number ≡ false
none_single o None = refl
none_single o (Some maker) = refl

pub is_one_cell : IsOneCell
is_one_cell = record { opening = opening_follows one_cell all_replicated (λ o lt. sym (none_single o (slice_get (processes_in one_cell []) o.process))) }
