-- Entries are applied again, to opening copies.
use Rattle.std.proofs.Common.{◌≡◌, ℕ, suc, zero, Bool, true, false, List, [], ◌∷◌, length, take, slice_get, Some, None, Option, refl, sym, ap, ◌∙◌, subst, arith, if◌then◌else◌}
use Rattle.std.proofs.lemmas.List.{take_all}
use Rattle.value_core.specs.Meaning.{Performs}
use Rattle.value_core.specs.declared.action.Action.{Action}
use Rattle.value_core.specs.declared.message.Message.{Message}
use Rattle.orca_base.specs.declared.what.What.{What}
use Rattle.object_manager.specs.After.{Copied, after as after_applied, opening_copies}
use Rattle.object_manager.specs.Limits.{IfLimit, too_many}
use Rattle.object_manager.specs.Singles.{after_passed}
use Rattle.object_manager.specs.Viewed.{Viewed}
use Rattle.object_manager.specs.declared.copies.ApplyError.{ApplyError}
use Rattle.object_manager.specs.declared.copies.ApplyError.TheVariants.{Limit}
use Rattle.book_law.specs.Book.{copies_at}
use Rattle.book_law.specs.Fitness.{ArgsFit, StateFits}
use Rattle.book_law.specs.Passes.{after, after_all, is_passed}
use Rattle.book_law.proofs.Books.{copies_applied, copies_next}
use Rattle.book_law.proofs.Replicated.{entries_stand}
use Rattle.world_rules.specs.Frame.{Frame}
use Rattle.world_rules.specs.Nodes.{known}
use Rattle.world_rules.specs.Processes.{Begun, singles_of}
use Rattle.node_rules.specs.Entries.{MayTakeAgain}
use Rattle.node_core.specs.Earlier.{HasViewed, MayViewAfter}
use Rattle.node_core.specs.Entries.{KnowsAs}
use Rattle.node_parts.specs.Shown.{Left, Stood}
use Rattle.node_core.specs.declared.node.Node.{Node}

-- ---- one entry

-- a make of a single object passes, and is kept nowhere
pub again_passed : {P S : Type 0} (p : Performs) (s : Node P S) (old new : Copied) (x : Message) (passes : Bool) → passes ≡ true
    → ((f : Frame) (processes : List Begun) → KnowsAs f processes s → passes ≡ is_passed (singles_of f processes) x.action)
    → new ≡ after_passed p false old x → (f : Frame) (processes : List Begun) → KnowsAs f processes s → new ≡ after (singles_of f processes) p old x
again_passed p s old new x passes is single same f processes knows =
    same ∙ ap (λ (b : Bool). if b then after_passed p false old x else after_applied p old x) (sym is ∙ single f processes knows)
    ∙ sym (entries_stand (singles_of f processes) p old x)

-- any other entry is applied
pub again_applied : {P S : Type 0} (p : Performs) (s : Node P S) (old new : Copied) (x : Message) (passes : Bool) → passes ≡ false
    → ((f : Frame) (processes : List Begun) → KnowsAs f processes s → passes ≡ is_passed (singles_of f processes) x.action)
    → new ≡ after_applied p old x → (f : Frame) (processes : List Begun) → KnowsAs f processes s → new ≡ after (singles_of f processes) p old x
again_applied p s old new x passes is single same f processes knows =
    same ∙ ap (λ (b : Bool). if b then after_passed p false old x else after_applied p old x) (sym is ∙ single f processes knows)
    ∙ sym (entries_stand (singles_of f processes) p old x)

nothing_is_some : (o : Option (What × ℕ)) (what : What) (number : ℕ) → o ≡ None → o ≡ Some (what, number) → ⊥
nothing_is_some o what number none some = cc (none, some)

-- no limit is passed
pub not_limit : (p : Performs) (c : Copied) (act : Action) (why : ApplyError) (what : What) (number : ℕ) → why ≡ Limit what number
    → too_many p c act ≡ None → IfLimit why (too_many p c act) → ⊥
not_limit p c act why what number is within limit =
    nothing_is_some (too_many p c act) what number within (subst (λ (e : ApplyError). IfLimit e (too_many p c act)) is limit)

-- ---- all of them

-- the copies are those after the first n, by the single objects of whichever processes are known
abbrev pub AreAfter : {P S : Type 0} → Frame → List Message → Node P S → ℕ → Copied → Type 0
AreAfter f entries s n c = (processes : List Begun) → KnowsAs f processes s → c ≡ copies_at (singles_of f processes) f.performs entries n

-- what the next entry asks
pub may_again : {P S : Type 0} (stood : Stood S) (left : Left S) (f : Frame) (state : StateFits) (args : ArgsFit) (entries : List Message) (s : Node P S) (n : ℕ) (c : Copied) (p : Performs) (x y : Message)
    → p ≡ f.performs → y ≡ x → MayViewAfter stood left f state args entries s → AreAfter f entries s n c → slice_get entries n ≡ Some x → MayTakeAgain p state args c y.action
may_again stood left f state args entries s n c p x y is same may so at =
    subst (λ (e : Message). MayTakeAgain p state args c e.action) (sym same)
    (subst (λ (q : Performs). MayTakeAgain q state args c x.action) (sym is)
    (subst (λ (d : Copied). MayTakeAgain f.performs state args d x.action)
    (sym (so (known f may.node) (record { known = may.stands.known; choices = may.stands.choices }))) (may.each n x at)))

-- and what it does
pub again_more : {P S : Type 0} (f : Frame) (entries : List Message) (s : Node P S) (n next : ℕ) (old new : Copied) (p : Performs) (x y : Message)
    → p ≡ f.performs → y ≡ x → suc n ≡ next → AreAfter f entries s n old → slice_get entries n ≡ Some x
    → ((g : Frame) (processes : List Begun) → KnowsAs g processes s → new ≡ after (singles_of g processes) p old y) → AreAfter f entries s next new
again_more f entries s n next old new p x y is same counts so at goes processes knows =
    goes f processes knows
    ∙ ap (λ (q : Performs). after (singles_of f processes) q old y) is
    ∙ ap (λ (e : Message). after (singles_of f processes) f.performs old e) same
    ∙ ap (λ (d : Copied). after (singles_of f processes) f.performs d x) (so processes knows)
    ∙ sym (copies_next (singles_of f processes) f.performs entries n x at)
    ∙ ap (copies_at (singles_of f processes) f.performs entries) counts

-- the first of the first
first_of : {A : Type 0} (n a : ℕ) (xs : List A) → length (take n (take a xs)) ≡ n → take n (take a xs) ≡ take n xs
first_of zero a xs is = refl
first_of (suc n) zero xs is = absurd (omega (arith, is))
first_of (suc n) (suc a) [] is = refl
first_of {A} (suc n) (suc a) (x ∷ xs) is = ap (λ (l : List A). x ∷ l) (first_of n a xs (omega (arith, is)))

first_entries : (entries log : List Message) (a : ℕ) → entries ≡ take (length entries) (take a log) → take (length entries) entries ≡ take (length entries) log
first_entries entries log a is =
    take_all (length entries) entries (omega arith) ∙ is
    ∙ first_of (length entries) a log (ap (λ (l : List Message). length l) (sym is))

-- the view of the copies after all of them
pub viewed : {P S : Type 0} (stood : Stood S) (left : Left S) (f : Frame) (entries : List Message) (s : Node P S) (n : ℕ) (c : Copied) (view : Viewed)
    → n ≡ length entries → AreAfter f entries s n c → view ≡ record { objects = c.objects; place = c.applied } → HasViewed stood left f entries s view
viewed stood left f entries s n c view all so is m v stands first =
    let single = singles_of f (known f v) in
    let after_them : c ≡ copies_at single f.performs entries (length entries) =
    so (known f v) (record { known = stands.known; choices = stands.choices }) ∙ ap (copies_at single f.performs entries) all in
    is
    ∙ ap (λ (d : Copied). let w : Viewed = record { objects = d.objects; place = d.applied } in w) after_them
    ∙ ap (λ (k : ℕ). let w : Viewed = record { objects = (copies_at single f.performs entries (length entries)).objects; place = k } in w)
    (copies_applied single f.performs entries (length entries) (omega arith))
    ∙ ap (λ (l : List Message). let w : Viewed = record { objects = (after_all single f.performs opening_copies l).objects; place = length entries } in w)
    (first_entries entries v.member.log v.copies.applied first)
