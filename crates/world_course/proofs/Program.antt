-- What is known of a run's program and settings.
use Rattle.std.proofs.Common.{◌≡◌, sym, subst}
use Rattle.value_core.specs.Meaning.{Performs, Computes}
use Rattle.book_law.specs.Passes.{Test}
use Rattle.book_law.specs.Course.{Came, Course}
use Rattle.book_law.specs.Fitness.{ArgsFit, Callable, StateFits}
use Rattle.book_law.specs.Machines.{AllFit}
use Rattle.book_law.proofs.Calls.{every_call}
use Rattle.book_law.proofs.Fits.{Laws, ReplyFits, TextFits}
use Rattle.book_law.proofs.Machines.{all_fit}
use Rattle.world_rules.specs.Frame.{AreSettings, Frame}
use Rattle.world_course.proofs.Bursts.{Settles}

-- the program is lawful, and a process that isn't busy settles
pub record Program (f : Frame) (fits_state : StateFits) (fits_args : ArgsFit) (fits_text : TextFits) (fits_reply : ReplyFits) : Type 0 where
  pub laws : Laws f.performs f.computes fits_state fits_args fits_text fits_reply
  pub settles : Settles f.computes
  pub settings : AreSettings f.settings

pub callable : (f : Frame) (fits_state : StateFits) (fits_args : ArgsFit) (fits_text : TextFits) (fits_reply : ReplyFits) → Program f fits_state fits_args fits_text fits_reply
    → (single : Test) (c : Course) → Came single f.performs f.computes c → Callable single f.performs f.computes fits_state fits_args c
callable f fits_state fits_args fits_text fits_reply program single c came = every_call single f.performs f.computes fits_state fits_args fits_text fits_reply c program.laws came

pub fitting : (f : Frame) (fits_state : StateFits) (fits_args : ArgsFit) (fits_text : TextFits) (fits_reply : ReplyFits) → Program f fits_state fits_args fits_text fits_reply
    → (single : Test) (c : Course) → Came single f.performs f.computes c → AllFit single f.performs f.computes fits_args fits_text fits_reply c
fitting f fits_state fits_args fits_text fits_reply program single c came = all_fit single f.performs f.computes fits_state fits_args fits_text fits_reply c program.laws came

pub program_of : (f : Frame) (p : Performs) (q : Computes) (fits_state : StateFits) (fits_args : ArgsFit) (fits_text : TextFits) (fits_reply : ReplyFits)
    → Laws p q fits_state fits_args fits_text fits_reply → Settles q → f.performs ≡ p → f.computes ≡ q → AreSettings f.settings → Program f fits_state fits_args fits_text fits_reply
program_of f p q fits_state fits_args fits_text fits_reply laws settles same_p same_q settings = record {
  laws = subst (λ (z : Performs). Laws z f.computes fits_state fits_args fits_text fits_reply) (sym same_p)
      (subst (λ (z : Computes). Laws p z fits_state fits_args fits_text fits_reply) (sym same_q) laws);
  settles = subst Settles (sym same_q) settles;
  settings = settings;
}
