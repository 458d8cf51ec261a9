-- What members answer tells their list, and whoever follows what tells it is after a beginning of it.
use Rattle.std.proofs.Common.{◌≡◌, ◌≤◌, ◌<◌, ◌+◌, ℕ, suc, Bool, true, false, cond, leb, ltb, eqb, List, [], ◌∷◌, ◌++◌, length, Option, None, Some, slice_get, refl, sym, ap, ◌∙◌, subst, arith}
use Rattle.std.specs.Prelude.{option_map}
use Rattle.std.proofs.lemmas.Bool.{leb-false, ltb-true, eqb-true}
use Rattle.value_core.specs.Meaning.{Performs}
use Rattle.value_core.specs.declared.message.Message.{Message}
use Rattle.object_manager.specs.After.{Copied, after}
use Rattle.object_manager.specs.State.{Stated, state_of}
use Rattle.group_rules.specs.Member.{Member}
use Rattle.group_join.specs.declared.packet.JoinPacket.{JoinPacket}
use Rattle.group_join.specs.declared.packet.JoinPacket.TheVariants.{Seek, State, Next}
use Rattle.group_join.specs.Seeking.{entry_behind}
use Rattle.group_join.specs.Following.{AreAfter, IsEntry, IsStateOf, TellsList, copies_after, copies_in}
use Rattle.group_join.specs.Laws.{AfterOn, AnswersTell, Applied, Followers, OpensAfter, TellsOn}
use Rattle.group_join.proofs.Afterward.{after_longer, after_next, applied_after, plain_after, state_back, there_longer, there_same, there_within}

-- ---- a list that goes on

longer_than : (xs ys : List Message) → length xs ≤ length (xs ++ ys)
longer_than [] ys = omega arith
longer_than (x ∷ xs) ys = let l = longer_than xs ys in omega (arith, l)

state_on : (p : Performs) (list more : List Message) (s : Stated) → IsStateOf p list s → IsStateOf p (list ++ more) s
state_on p list more s is =
    let long = longer_than list more in
    record { within = omega (arith, is.within, long); state = is.state ∙ sym (ap state_of (after_longer p list more s.applied is.within)) }

pub tells_on : (p : Performs) → TellsOn p
tells_on p list more (Seek applied) tells = tt
tells_on p list more (State state) tells = state_on p list more state tells
tells_on p list more (Next number x) tells = record { before = tells.before; behind = tells.behind; there = there_longer list more tells.before x tells.there }

pub after_on : (p : Performs) → AfterOn p
after_on p list more c is =
    let long = longer_than list more in
    record { within = omega (arith, is.within, long); copies = is.copies ∙ sym (after_longer p list more c.applied is.within) }

pub opens_after : (p : Performs) → OpensAfter p
opens_after p list = record { within = omega arith; copies = refl }

-- ---- answers

some_is : {A : Type 0} (x y : A) → Some x ≡ Some y → x ≡ y
some_is x y e = cc

entry_is : (list : List Message) (member : Member Message) (asked : ℕ) (packet : JoinPacket) (found : Option Message) →
    slice_get member.log asked ≡ found → option_map (λ (x : Message). Next (suc asked) x) found ≡ Some packet →
    (x : Message) × (slice_get member.log asked ≡ Some x) × (packet ≡ Next (suc asked) x)
entry_is list member asked packet None is e = absurd (cc e)
entry_is list member asked packet (Some x) is e = (x, is, sym (some_is (Next (suc asked) x) packet e))

tells_state : (p : Performs) (list : List Message) (member : Member Message) (copies : Copied) → Applied p list member copies → IsStateOf p list (state_of copies)
tells_state p list member copies so =
    let many : copies.applied ≡ member.applied = ap (λ (s : Stated). s.applied) so.state ∙ applied_after p list member.applied so.within in
    record {
      within = omega (arith, many, so.within);
      state = so.state ∙ ap (λ (n : ℕ). state_of (copies_after p list n)) (sym many);
    }

by_tests : (p : Performs) (list : List Message) (member : Member Message) (copies : Copied) (asked : ℕ) (packet : JoinPacket) → Applied p list member copies → (none purged : Bool) →
    leb member.applied asked ≡ none → cond none None (cond purged (Some (State (state_of copies))) (entry_behind member asked)) ≡ Some packet → TellsList p list packet
by_tests p list member copies asked packet so true purged is e = absurd (cc e)
by_tests p list member copies asked packet so false true is e =
    subst (TellsList p list) (some_is (State (state_of copies)) packet e) (tells_state p list member copies so)
by_tests p list member copies asked packet so false false is e =
    let found = entry_is list member asked packet (slice_get member.log asked) refl e in
    let below : asked < member.applied = leb-false member.applied asked is in
    subst (TellsList p list) (sym found.2)
    (record { before = asked; behind = refl; there = there_same member.log list member.applied asked found.0 below so.entries found.1 })

pub answers_tell : (p : Performs) → AnswersTell p
answers_tell p list member copies asked packet so e =
    by_tests p list member copies asked packet so (leb member.applied asked) (leb (suc asked) member.base) refl e

-- ---- followers

takes_state : (p : Performs) (list : List Message) (c : Copied) (s : Stated) → IsStateOf p list s → AreAfter p list (copies_in s)
takes_state p list c s is = record {
  within = is.within;
  copies = ap copies_in is.state ∙ state_back (copies_after p list s.applied) (plain_after p list s.applied);
}

state_by : (p : Performs) (list : List Message) (c : Copied) (s : Stated) → AreAfter p list c → IsStateOf p list s → (more : Bool) → ltb c.applied s.applied ≡ more →
    AreAfter p list (cond more (copies_in s) c) × (c.applied ≤ (cond more (copies_in s) c).applied)
state_by p list c s are tells true is = let less = ltb-true c.applied s.applied is in (takes_state p list c s tells, omega (arith, less))
state_by p list c s are tells false is = (are, omega arith)

takes_next : (p : Performs) (list : List Message) (c : Copied) (x : Message) → AreAfter p list c → slice_get list c.applied ≡ Some x → AreAfter p list (after p c x)
takes_next p list c x are there =
    let one : c.applied + 1 ≡ suc c.applied = omega arith in
    record {
      within = let some = there_within list c.applied x there in omega (arith, some);
      copies =
          ap (λ (d : Copied). after p d x) are.copies ∙ sym (after_next p list c.applied x there)
          ∙ ap (copies_after p list) (sym one);
    }

next_by : (p : Performs) (list : List Message) (c : Copied) (number : ℕ) (x : Message) → AreAfter p list c → IsEntry list number x → (next : Bool) → eqb number (suc c.applied) ≡ next →
    AreAfter p list (cond next (after p c x) c) × (c.applied ≤ (cond next (after p c x) c).applied)
next_by p list c number x are tells true is =
    let same : number ≡ suc c.applied = eqb-true number (suc c.applied) is in
    let at : tells.before ≡ c.applied = omega (arith, same, tells.behind) in
    (takes_next p list c x are (ap (slice_get list) (sym at) ∙ tells.there), omega arith)
next_by p list c number x are tells false is = (are, omega arith)

pub followers : (p : Performs) → Followers p
followers p list c (Seek applied) are tells = record { after = are; rises = omega arith }
followers p list c (State state) are tells =
    let r = state_by p list c state are tells (ltb c.applied state.applied) refl in record { after = r.0; rises = r.1 }
followers p list c (Next number x) are tells =
    let r = next_by p list c number x are tells (eqb number (suc c.applied)) refl in record { after = r.0; rises = r.1 }
