-- Each entry of the list of a run may be applied in turn, so that a follower may receive what was ever sent.
use Rattle.std.proofs.Common.{◌≡◌, ℕ, List, [], ◌∷◌, None, slice_get, take, refl, sym, ap, ◌∙◌, subst}
use Rattle.value_core.specs.Meaning.{Computes, Performs}
use Rattle.value_core.specs.declared.message.Message.{Message}
use Rattle.object_manager.specs.After.{Copied, opening_copies}
use Rattle.object_manager.specs.Applies.{Applies}
use Rattle.object_manager.specs.Limits.{too_many}
use Rattle.book_law.specs.Book.{copies_at}
use Rattle.book_law.specs.Events.{In}
use Rattle.book_law.specs.Fitness.{ArgsFit, CallsFit, StateFits}
use Rattle.book_law.specs.Replicated.{all_replicated}
use Rattle.group_join.specs.declared.packet.JoinPacket.{JoinPacket}
use Rattle.group_join.specs.Following.{MayApplyAll, MayReceive, copies_after}
use Rattle.world_rules.specs.declared.event.Step.{Step}
use Rattle.world_rules.specs.Frame.{Frame}
use Rattle.world_rules.specs.Processes.{processes_in}
use Rattle.world_rules.specs.Steps.{Replays}
use Rattle.world_rules.specs.Worlds.{World, agreed, processes_of}
use Rattle.run_law.proofs.Earlier.{AllPassed}
use Rattle.join_law.specs.Followed.{Followed, Joining, Move, opening_joining}
use Rattle.std.specs.List.{AllByRecursion}
use Rattle.join_law.specs.Promise.{AllMayReceive, ReachedMayReceive}
use Rattle.net_rules.specs.declared.flight.Flight.{Flight}
use Rattle.join_law.specs.Rounds.{Carried}
use Rattle.join_law.proofs.Keeping.{all_stay, opening_told}
use Rattle.join_law.proofs.Plain.{all_entries, none_single}
use Rattle.join_law.proofs.Runs.{IsRun, Laws, knows}

-- an entry of the course's list, at the copies of the run's
applies_at : (p : Performs) (fits_args : ArgsFit) (list other : List Message) (n : ℕ) (x : Message) → list ≡ other → Applies fits_args (copies_at all_replicated p list n) x.action → Applies fits_args (copies_after p other n) x.action
applies_at p fits_args list other n x same applies =
    subst (λ (ms : List Message). Applies fits_args (copies_after p ms n) x.action) same
    (subst (λ (c : Copied). Applies fits_args c x.action) (all_entries all_replicated (λ o. refl) p opening_copies (take n list)) applies)

entries_may : (p : Performs) (q : Computes) (fits_state : StateFits) (fits_args : ArgsFit) → Laws p q → (f : Frame) → IsRun p q f → CallsFit f.performs f.computes fits_state fits_args →
    (steps : List Step) (w : World) → Replays f steps w → AllPassed f (agreed f w) → MayApplyAll fits_args f.performs (agreed f w)
entries_may p q fits_state fits_args laws f run calls steps w replays passed n x there =
    let none = none_single f run.replicated (processes_of f w) in
    let has = laws.follows f run.performs run.computes run.settings steps w replays all_replicated (λ o lt. sym (none o)) in
    let entries = (calls all_replicated has.course has.follows.corresponds.stands.came).entries in
    record {
      applies = applies_at f.performs fits_args has.course.list (agreed f w) n x has.list (entries n x (ap (λ (ms : List Message). slice_get ms n) has.list ∙ there));
      within = subst (λ (c : Copied). too_many f.performs c x.action ≡ None)
          (all_entries _ (none_single f run.replicated (processes_in f (agreed f w))) f.performs opening_copies (take n (agreed f w))) (passed n x there);
    }

pub may_receive : (p : Performs) (q : Computes) (fits_state : StateFits) (fits_args : ArgsFit) → Laws p q → (f : Frame) → IsRun p q f → CallsFit f.performs f.computes fits_state fits_args →
    ((steps : List Step) (w : World) → Replays f steps w → AllPassed f (agreed f w)) → (moves : List Move) (u : Joining) → Followed f (opening_joining f) moves u →
    (packet : JoinPacket) → In packet u.sent → MayReceive fits_args f.performs (agreed f u.world) u.copies packet
may_receive p q fits_state fits_args laws f run calls passed moves u followed packet among =
    let told = (all_stay f (knows p q laws f run) (opening_joining f) moves u followed (opening_told f)).told in
    record {
      entries = entries_may p q fits_state fits_args laws f run calls told.steps u.world told.replays (passed told.steps u.world told.replays);
      copies = told.after;
      tells = told.tells packet among;
    }

-- ---- at a moment

pub reached_may : (p : Performs) (q : Computes) (fits_args : ArgsFit) → AllMayReceive p q fits_args → ReachedMayReceive p q fits_args
reached_may p q fits_args all f performs computes settings replicated w v r =
    each v.coming r.coming
  where
    each : (xs : List (Flight Carried)) → AllByRecursion (λ (one : Flight Carried). In one.packet.packet r.sent) xs →
        AllByRecursion (λ (one : Flight Carried). MayReceive fits_args f.performs (agreed f w) v.rounding.copies one.packet.packet) xs
    each [] sent = tt
    each (x ∷ xs) sent = (all f performs computes settings replicated r.moves _ r.followed x.packet.packet sent.0, each xs sent.1)
