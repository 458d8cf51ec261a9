-- The copies take an entry, or refuse it; and what is told of it beside its lines changes nothing.
use Rattle.std.proofs.Common.{◌≡◌, ◌++◌, ◌∷◌, ◌==◌, ℕ, Bool, true, false, List, [], is_some, Option, Some, None, Result, Ok, Err, IfOk, OnOk, Vec, refl, sym, ap, ◌∙◌, subst, if◌then◌else◌}
use Rattle.std.specs.declared.alloc.Global.{Global}
use Rattle.orca_base.specs.declared.what.What.{What}
use Rattle.value_core.specs.Meaning.{Performs}
use Rattle.value_core.specs.declared.action.Action.{Action}
use Rattle.value_core.specs.declared.action.Action.TheVariants as action
use Rattle.value_core.specs.declared.action.Reply.{Reply}
use Rattle.value_core.specs.declared.message.Message.{Message}
use Rattle.guard_queue.specs.Settles.{lines_of}
use Rattle.guard_queue.specs.declared.settling.Answered.{Answered}
use Rattle.object_manager.specs.After.{acted, after as after_applied, lines_after as lines_applied}
use Rattle.object_manager.specs.Limits.{IfLimit, too_many}
use Rattle.object_manager.specs.Singles.{after_passed}
use Rattle.object_manager.specs.declared.copies.ApplyError.{ApplyError}
use Rattle.object_manager.specs.declared.copies.ApplyError.TheVariants.{Limit}
use Rattle.book_law.specs.Passes.{is_passed}
use Rattle.group_member.specs.Laws.{EntryLaw}
use Rattle.world_rules.specs.Frame.{Frame}
use Rattle.world_rules.specs.Nodes.{NodeWork}
use Rattle.world_rules.specs.Processes.{Begun, home_in, singles_of}
use Rattle.node_rules.specs.Conditions.{Fitness}
use Rattle.node_core.specs.Entries.{AppliesNext, Begins, HasTaken, IsBorn, KnowsAs, Refused, Took, listed}
use Rattle.node_core.specs.Calls.{GoesFree}
use Rattle.node_core.specs.Pieces.{IsNext}
use Rattle.node_parts.specs.Shown.{Left, Stood}
use Rattle.node_core.specs.Stands.{IsMoved, StandsAs}
use Rattle.node_parts.specs.declared.moved.Moved.{Moved}
use Rattle.node_core.specs.declared.node.Known.{Known}
use Rattle.node_core.specs.declared.node.Node.{Node}
use Rattle.node_core.specs.declared.work.Work.{Work}
use Rattle.node_core.proofs.NextEntry.{HasTakenIn, refused_next}

-- a make of a single object passes
pub took_passed : {P S : Type 0} (p : Performs) (old new : Node P S) (x : Message) (lines : List Answered) (passes keeps : Bool) → passes ≡ true
    → ((f : Frame) (processes : List Begun) → KnowsAs f processes old → passes ≡ is_passed (singles_of f processes) x.action)
    → ((f : Frame) (processes : List Begun) → KnowsAs f processes old → keeps ≡ (home_in processes x.process.0 == old.member.me))
    → too_many p old.copies x.action ≡ None → new.copies ≡ after_passed p keeps old.copies x → lines_of lines ≡ (acted p old.copies x).lines
    → Took p old new x lines
took_passed p old new x lines passes keeps is single own within after told = record {
  within = within;
  copies = λ f processes knows.
      after ∙ ap (λ (b : Bool). after_passed p b old.copies x) (own f processes knows)
      ∙ ap (λ (b : Bool). if b then after_passed p (home_in processes x.process.0 == old.member.me) old.copies x else after_applied p old.copies x)
      (sym is ∙ single f processes knows);
  lines = λ f processes knows.
      told ∙ ap (λ (b : Bool). if b then (acted p old.copies x).lines else lines_applied p old.copies x) (sym is ∙ single f processes knows);
}

-- any other entry is applied
pub took_applied : {P S : Type 0} (p : Performs) (old new : Node P S) (x : Message) (lines : List Answered) (passes : Bool) → passes ≡ false
    → ((f : Frame) (processes : List Begun) → KnowsAs f processes old → passes ≡ is_passed (singles_of f processes) x.action)
    → too_many p old.copies x.action ≡ None → new.copies ≡ after_applied p old.copies x → lines_of lines ≡ lines_applied p old.copies x
    → Took p old new x lines
took_applied p old new x lines passes is single within after told = record {
  within = within;
  copies = λ f processes knows.
      after
      ∙ ap (λ (b : Bool). if b then after_passed p (home_in processes x.process.0 == old.member.me) old.copies x else after_applied p old.copies x)
      (sym is ∙ single f processes knows);
  lines = λ f processes knows.
      told ∙ ap (λ (b : Bool). if b then (acted p old.copies x).lines else lines_applied p old.copies x) (sym is ∙ single f processes knows);
}

-- what passes a limit is refused
pub refused_by : {P S : Type 0} (p : Performs) (old new : Node P S) (x : Message) (why : ApplyError) (what : What) (number : ℕ)
    → why ≡ Limit what number → IfLimit why (too_many p old.copies x.action) → new.copies ≡ old.copies → Refused p old new x
refused_by p old new x why what number is limit copies = record {
  passes = ap (λ (o : Option (What × ℕ)). is_some o) (subst (λ (e : ApplyError). IfLimit e (too_many p old.copies x.action)) is limit);
  copies = copies;
}

nothing_else : (x : Known) (xs : List Known) → [] ≡ x ∷ xs → ⊥
nothing_else x xs is = cc is

-- where no process is to begin, none does
pub begins_unborn : {P S : Type 0} (stood : Stood S) (left : Left S) (f : Frame) (number : ℕ) (act : Action) (s : Work P S) → Begins stood left f number [] act s s
begins_unborn stood left f number (action.Fork text args place_on) s m parent v work is = absurd (nothing_else _ _ is)
begins_unborn stood left f number (action.Make kind object) s m parent v work is = work
begins_unborn stood left f number (action.Call kind op object args) s m parent v work is = work
begins_unborn stood left f number action.Ended s m parent v work is = work
begins_unborn stood left f number (action.Faulted fault) s m parent v work is = work

-- the entries themselves are kept, which changes nothing
pub free_kept : {P S : Type 0} (stood : Stood S) (left : Left S) (f : Frame) (fitness : Fitness) (old mid new : Work P S) (piece : ℕ → NodeWork → NodeWork)
    → new.node ≡ mid.node → new.moved ≡ record mid.moved { messages = new.moved.messages } → GoesFree stood left f fitness old mid piece → GoesFree stood left f fitness old new piece
free_kept {P} {S} stood left f fitness old mid new piece node moved goes m u at =
    let there = goes m u at in
    record {
      work = record {
        node = subst (λ (n : Node P S). StandsAs stood left f m n (piece m u.work).node) (sym node) there.work.node;
        moved = subst (λ (d : Moved). IsMoved f.settings.nodes d (piece m u.work).deeds) (sym moved)
            (record { sends = there.work.moved.sends; entries = there.work.moved.entries; aside = there.work.moved.aside });
      };
      errands = there.errands;
      fits = there.fits;
    }

-- what the pieces of the next entry did up to where its process is known, as the code has it
pub taken_in : {P S : Type 0} (f : Frame) (p : Performs) (old mid new : Work P S) (x y z : Message) (taken : Option (Vec Answered Global)) (lines : Vec Answered Global) (born : Option Known)
    → p ≡ f.performs → y ≡ x → z ≡ x → IsBorn old.node y (listed born) → HasTaken p old.node mid.node z taken → taken ≡ Some lines
    → mid.node ≡ record old.node { copies = mid.node.copies } → mid.moved ≡ old.moved → new.node ≡ record mid.node { known = new.node.known }
    → new.node.known.items ≡ mid.node.known.items ++ listed born → new.moved ≡ mid.moved → HasTakenIn f p old mid new x lines.items (listed born)
taken_in f p old mid new x y z taken lines born is first second forks took some node moved learns known same = record {
  performs = is;
  took = subst (λ (a : Message). HasTaken p old.node mid.node a (Some lines)) second (subst (λ (o : Option (Vec Answered Global)). HasTaken p old.node mid.node z o) some took);
  node = node;
  moved = moved;
  forks = subst (λ (a : Message). IsBorn old.node a (listed born)) first forks;
  learns = learns;
  known = known;
  same = same;
}

-- what the code refused stays where it was
pub refused_in : {P S : Type 0} (stood : Stood S) (left : Left S) (f : Frame) (fitness : Fitness) (p : Performs) (old new : Work P S) (x z : Message) (taken : Option (Vec Answered Global)) → EntryLaw Message Reply
    → IsNext old.node x → z ≡ x → p ≡ f.performs → HasTaken p old.node new.node z taken → taken ≡ None
    → new.node ≡ record old.node { copies = new.node.copies } → new.moved ≡ old.moved → AppliesNext stood left f fitness old new None
refused_in stood left f fitness p old new x z taken law next same is took none node moved =
    refused_next stood left f fitness p old new x law next is (subst (λ (a : Message). HasTaken p old.node new.node a None) same (subst (λ (o : Option (Vec Answered Global)). HasTaken p old.node new.node z o) none took)) node moved

-- what is so of success, together
pub ok_three : {T E : Type 0} (r : Result T E) (P : T → Type 0) (Q R : Type 0) (S : T → Type 0) → ((x : T) → P x → Q → R → S x) → IfOk r P → OnOk r Q → OnOk r R → IfOk r S
ok_three (Ok x) P Q R S so p q r = so x p q r
ok_three (Err e) P Q R S so p q r = tt

-- what is nothing else is none
pub none_of : {A : Type 0} (o : Option A) → ((x : A) → o ≡ Some x → ⊥) → o ≡ None
none_of None nothing = refl
none_of (Some x) nothing = absurd (nothing x refl)
