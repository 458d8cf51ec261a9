-- The laws of single objects: after a make of one, and after a call on one.
use Rattle.std.proofs.Common.{◌≡◌, inl, inr, Bool, true, false, cond, List, [], ◌∷◌, ◌++◌, Option, Some, None, length, ap, ◌∙◌, sym, refl, subst, arith}
use Rattle.std.specs.BTreeMap.{is_at}
use Rattle.std.specs.List.{Contains}
use Rattle.std.proofs.lemmas.List.Elements.{Contains-append_cases, Contains-append_left, Contains-append_right, Contains-push}
use Rattle.orca_base.specs.declared.ids.KindNo.{KindNo}
use Rattle.orca_base.specs.declared.ids.OpNo.{OpNo}
use Rattle.orca_base.specs.declared.ids.ObjectId.{ObjectId}
use Rattle.value_core.specs.Datum.{Data}
use Rattle.value_core.specs.declared.action.Instance.{Instance}
use Rattle.value_core.specs.declared.action.Action.{Action}
use Rattle.value_core.specs.declared.action.Action.TheVariants as action
use Rattle.value_core.specs.declared.message.Message.{Message}
use Rattle.value_core.specs.declared.meaning.Making.{Making}
use Rattle.value_core.specs.declared.meaning.Making.TheVariants as making
use Rattle.value_core.specs.declared.meaning.Tried.{Tried}
use Rattle.value_core.specs.declared.meaning.Tried.TheVariants as tried
use Rattle.value_core.specs.Fits.{Kinds, ExtendsKinds, IfMade, KeepsState}
use Rattle.value_core.specs.Meaning.{Performs}
use Rattle.value_core.specs.History.{Objects, object_cmp, object_at, with_object}
use Rattle.guard_queue.specs.declared.queue.Suspended.{Suspended}
use Rattle.guard_queue.specs.Fitting.{Fitting, kind_at, kind_in, kinds_of}
use Rattle.guard_queue.specs.Settles.{AllBlocked, Settling, tried_in}
use Rattle.guard_queue.proofs.Blocked.{at_place, from_places, settled_blocked, tried_beside}
use Rattle.guard_queue.proofs.KindsAt.{settled_keeps, with_keeps}
use Rattle.guard_queue.proofs.Lookups.{object_at-with_object, same_id}
use Rattle.guard_queue.proofs.Steps.{over_more, settled_fits}
use Rattle.object_manager.specs.After.{Copied, acted, acted_by, after, as_call, called_in}
use Rattle.object_manager.specs.Applies.{Applies, AppliesSingle, CopiesBlocked, CopiesFit}
use Rattle.object_manager.specs.Laws.{GoesOn, IsPlain}
use Rattle.object_manager.specs.Singles.{AreCounted, IsCounted, after_passed, after_single, counted_by, kept_by, kinds_at, own_after, side, singles_after}
use Rattle.object_manager.proofs.Fitted.{called_fit, made_fit}

-- ---- what is counted
-- one more, behind the others
last_extends : (kinds singles : Kinds) (entry : ObjectId × KindNo) → ExtendsKinds (kinds ++ singles) (kinds ++ (singles ++ entry ∷ []))
last_extends kinds singles entry one has =
    elim (Contains-append_cases kinds singles one has) [
      | inl here ↦ Contains-append_left kinds (singles ++ entry ∷ []) one here
      | inr there ↦ Contains-append_right kinds (singles ++ entry ∷ []) one (Contains-append_left singles (entry ∷ []) one there)
    ]

-- what is among the pairs was counted
pub is_counted : (singles : Kinds) (object : ObjectId) (kind : KindNo) → Contains singles (object, kind) → IsCounted singles object
is_counted singles object kind (k, lt, is) = (k, (object, kind), lt, is, refl)

-- one that wasn't counted isn't kept here
pub not_kept : (own : Objects) (singles : Kinds) (object : ObjectId) → AreCounted own singles → (IsCounted singles object → ⊥) → object_at own object ≡ None
not_kept own singles object counted apart =
    elim (object_at own object) as (λ o. object_at own object ≡ o → o ≡ None) [
      | None ↦ λ is. refl
      | Some kept ↦ λ is. absurd (apart (is_counted singles object kept.kind (counted object kept is)))
    ] refl

counted_later : (own : Objects) (singles : Kinds) (entry : ObjectId × KindNo) → AreCounted own singles → AreCounted own (singles ++ entry ∷ [])
counted_later own singles entry counted object kept is = Contains-append_left singles (entry ∷ []) (object, kept.kind) (counted object kept is)

counted_with : (own : Objects) (singles : Kinds) (object : ObjectId) (kept : Instance) → AreCounted own singles → AreCounted (with_object own object kept) (singles ++ (object, kept.kind) ∷ [])
counted_with own singles object kept counted q k is =
    let e : cond (is_at (object_cmp q) object) (Some kept) (object_at own q) ≡ Some k = sym (object_at-with_object own object kept q) ∙ is in
    let more = singles ++ (object, kept.kind) ∷ [] in
    elim (is_at (object_cmp q) object) as (λ b. is_at (object_cmp q) object ≡ b → cond b (Some kept) (object_at own q) ≡ Some k → Contains more (q, k.kind)) [
      | true ↦ λ here f.
          let same : kept ≡ k = cc f in
          let id : object ≡ q = sym (same_id q object here) in
          let P : Instance → Type 0 = λ x. Contains more (object, x.kind) in
          let Q : ObjectId → Type 0 = λ x. Contains more (x, k.kind) in
          subst Q id (subst P same (Contains-push singles (object, kept.kind)))
      | false ↦ λ away f. Contains-append_left singles ((object, kept.kind) ∷ []) (q, k.kind) (counted q k f)
    ] refl e

-- what is kept after making or not is counted
pub counted_passed : (keeps : Bool) (own : Objects) (singles : Kinds) (kind : KindNo) (object : ObjectId) (m : Making) → AreCounted own singles → AreCounted (kept_by keeps m kind object own) (counted_by m kind object singles)
counted_passed true own singles kind object (making.Made state) counted = counted_with own singles object (record { kind = kind; state = state }) counted
counted_passed false own singles kind object (making.Made state) counted = counted_later own singles (object, kind) counted
counted_passed true own singles kind object (making.Broke fault) counted = counted
counted_passed false own singles kind object (making.Broke fault) counted = counted

-- ---- a make of a single object
module _ (fits_state : Kinds → KindNo → Data → Type 0) (fits_args : Kinds → KindNo → OpNo → Data → Type 0) (p : Performs)
    (makes : (kinds : Kinds) (kind : KindNo) → IfMade (p.made kind) (fits_state kinds kind))
    (states_stay : (kinds more : Kinds) (kind : KindNo) (state : Data) → ExtendsKinds kinds more → fits_state kinds kind state → fits_state more kind state)
    (args_stay : (kinds more : Kinds) (kind : KindNo) (op : OpNo) (args : Data) → ExtendsKinds kinds more → fits_args kinds kind op args → fits_args more kind op args) where
  -- no suspended call is on the new object
  stay_blocked : (kinds : Kinds) (own : Objects) (waits : List Suspended) (singles : Kinds) (object : ObjectId) (kept : Instance) → Fitting fits_state fits_args kinds own waits → AreCounted own singles → (IsCounted singles object → ⊥)
      → AllBlocked p own waits → AllBlocked p (with_object own object kept) waits
  stay_blocked kinds own waits singles object kept fit counted apart blocked =
      from_places p (with_object own object kept) waits (λ at call is.
      let one = fit.calls at call is in
      let there : Contains singles (call.object, one.kept.kind) = counted call.object one.kept one.exists in
      let P : ObjectId → Type 0 = λ q. Contains singles (q, one.kept.kind) in
      tried_beside p own object kept call (λ same. apart (is_counted singles object one.kept.kind (subst P same there))) ∙ at_place p own waits blocked at call is)

  made_goes : (keeps : Bool) (c : Copied) (kind : KindNo) (object : ObjectId) (m : Making) → ((kinds : Kinds) → IfMade m (fits_state kinds kind)) → CopiesFit fits_state fits_args c → CopiesBlocked p c → AreCounted c.own c.singles → (IsCounted c.singles object → ⊥)
      → GoesOn fits_state fits_args p c (record c { singles = counted_by m kind object c.singles; own = kept_by keeps m kind object c.own })
  made_goes true c kind object (making.Made state) made fit blocked counted apart =
      let kept : Instance = record { kind = kind; state = state } in
      let extends = last_extends (kinds_of c.objects) c.singles (object, kind) in
      let more = kinds_of c.objects ++ (c.singles ++ (object, kind) ∷ []) in
      let over = over_more fits_state fits_args states_stay args_stay (kinds_at c) more c.own c.waits extends fit.own in
      record {
        fits = record {
          shared = over_more fits_state fits_args states_stay args_stay (kinds_at c) more c.objects c.queue extends fit.shared;
          own = made_fit fits_state fits_args more c.own c.waits kind object (making.Made state) (made more) (not_kept c.own c.singles object counted apart) over;
        };
        blocked = record {
          shared = blocked.shared;
          own = stay_blocked (kinds_at c) c.own c.waits c.singles object kept fit.own counted apart blocked.own;
        };
        counted = counted_with c.own c.singles object kept counted;
        types = extends;
      }
  made_goes false c kind object (making.Made state) made fit blocked counted apart =
      let extends = last_extends (kinds_of c.objects) c.singles (object, kind) in
      let more = kinds_of c.objects ++ (c.singles ++ (object, kind) ∷ []) in
      record {
        fits = record {
          shared = over_more fits_state fits_args states_stay args_stay (kinds_at c) more c.objects c.queue extends fit.shared;
          own = over_more fits_state fits_args states_stay args_stay (kinds_at c) more c.own c.waits extends fit.own;
        };
        blocked = record { shared = blocked.shared; own = blocked.own };
        counted = counted_later c.own c.singles (object, kind) counted;
        types = extends;
      }
  made_goes true c kind object (making.Broke fault) made fit blocked counted apart =
      record { fits = record { shared = fit.shared; own = fit.own }; blocked = record { shared = blocked.shared; own = blocked.own }; counted = counted; types = λ entry has. has }
  made_goes false c kind object (making.Broke fault) made fit blocked counted apart =
      record { fits = record { shared = fit.shared; own = fit.own }; blocked = record { shared = blocked.shared; own = blocked.own }; counted = counted; types = λ entry has. has }

  nothing_goes : (c : Copied) → CopiesFit fits_state fits_args c → CopiesBlocked p c → AreCounted c.own c.singles → GoesOn fits_state fits_args p c (record c { singles = c.singles; own = c.own })
  nothing_goes c fit blocked counted =
      record { fits = record { shared = fit.shared; own = fit.own }; blocked = record { shared = blocked.shared; own = blocked.own }; counted = counted; types = λ entry has. has }

  passed_goes : (keeps : Bool) (c : Copied) (a : Action) → CopiesFit fits_state fits_args c → CopiesBlocked p c → AreCounted c.own c.singles → Applies fits_args c a → GoesOn fits_state fits_args p c (record c { singles = singles_after p c.singles a; own = own_after p keeps c.own a })
  passed_goes keeps c (action.Make kind object) fit blocked counted applies = made_goes keeps c kind object (p.made kind) (λ kinds. makes kinds kind) fit blocked counted applies.1
  passed_goes keeps c (action.Call kind op object args) fit blocked counted applies = nothing_goes c fit blocked counted
  passed_goes keeps c (action.Fork process args place_on) fit blocked counted applies = nothing_goes c fit blocked counted
  passed_goes keeps c action.Ended fit blocked counted applies = nothing_goes c fit blocked counted
  passed_goes keeps c (action.Faulted fault) fit blocked counted applies = nothing_goes c fit blocked counted

  pub after_passed_goes : (keeps : Bool) (c : Copied) (message : Message) → CopiesFit fits_state fits_args c → CopiesBlocked p c → AreCounted c.own c.singles → Applies fits_args c message.action
      → GoesOn fits_state fits_args p c (after_passed p keeps c message)
  after_passed_goes keeps c message fit blocked counted applies =
      let goes = passed_goes keeps c message.action fit blocked counted applies in
      record {
        fits = record { shared = goes.fits.shared; own = goes.fits.own };
        blocked = record { shared = goes.blocked.shared; own = goes.blocked.own };
        counted = goes.counted;
        types = goes.types;
      }

-- ---- a call on a single object
-- an object that is there by its type
kept_of : (o : Option Instance) (kind : KindNo) → kind_in o ≡ Some kind → (kept : Instance) × (o ≡ Some kept) × (kept.kind ≡ kind)
kept_of None kind h = absurd (cc h)
kept_of (Some kept) kind h = (kept, refl, cc h)

counted_alike : (own after : Objects) (singles : Kinds) → ((q : ObjectId) → kind_at after q ≡ kind_at own q) → AreCounted own singles → AreCounted after singles
counted_alike own after singles same counted object kept is =
    let had = kept_of (object_at own object) kept.kind (sym (same object) ∙ ap kind_in is) in
    let P : KindNo → Type 0 = λ kind. Contains singles (object, kind) in
    subst P had.2 (counted object had.0 had.1)

called_kinds : (objects : Objects) (queue : List Suspended) (call : Suspended) (t : Tried) (q : ObjectId) → kind_at (called_in objects queue call t).objects q ≡ kind_at objects q
called_kinds objects queue call tried.Blocked q = refl
called_kinds objects queue call (tried.Did guard state reply) q = with_keeps objects call (tried.Did guard state reply) q
called_kinds objects queue call (tried.Broke guard fault) q = with_keeps objects call (tried.Broke guard fault) q

acted_kinds : (fits_args : Kinds → KindNo → OpNo → Data → Type 0) (p : Performs) (c : Copied) (message : Message) (a : Action) → AppliesSingle fits_args c a → (q : ObjectId) → kind_at (acted_by p (side c) message a).objects q ≡ kind_at c.own q
acted_kinds fits_args p c message (action.Make kind object) applies q = absurd applies
acted_kinds fits_args p c message (action.Call kind op object args) applies q =
    called_kinds c.own c.waits (as_call message kind op object args) (tried_in p c.own (as_call message kind op object args)) q
acted_kinds fits_args p c message (action.Fork process args place_on) applies q = absurd applies
acted_kinds fits_args p c message action.Ended applies q = absurd applies
acted_kinds fits_args p c message (action.Faulted fault) applies q = absurd applies

-- what is kept here stays counted
pub counted_single : (fits_args : Kinds → KindNo → OpNo → Data → Type 0) (p : Performs) (c : Copied) (message : Message) → AppliesSingle fits_args c message.action → AreCounted c.own c.singles → AreCounted (after_single p c message).own c.singles
counted_single fits_args p c message applies counted =
    let s = acted p (side c) message in
    counted_alike c.own (after_single p c message).own c.singles
    (λ q. settled_keeps p (length s.queue) (record { objects = s.objects; queue = s.queue; lines = [] }) q ∙ acted_kinds fits_args p c message message.action applies q)
    counted

module _ (fits_state : Kinds → KindNo → Data → Type 0) (fits_args : Kinds → KindNo → OpNo → Data → Type 0) (p : Performs)
    (keeps : (kinds : Kinds) (kind : KindNo) (op : OpNo) (state args : Data) → fits_state kinds kind state → fits_args kinds kind op args → KeepsState (p.tries kind op state args) (fits_state kinds kind)) where
  pub acted_single : (c : Copied) (message : Message) (a : Action) → CopiesFit fits_state fits_args c → AppliesSingle fits_args c a → Fitting fits_state fits_args (kinds_at c) (acted_by p (side c) message a).objects (acted_by p (side c) message a).queue
  acted_single c message (action.Make kind object) fit applies = absurd applies
  acted_single c message (action.Call kind op object args) fit applies =
      called_fit fits_state fits_args (kinds_at c) p (keeps (kinds_at c)) c.own c.waits (as_call message kind op object args) applies fit.own
  acted_single c message (action.Fork process args place_on) fit applies = absurd applies
  acted_single c message action.Ended fit applies = absurd applies
  acted_single c message (action.Faulted fault) fit applies = absurd applies

  pub after_single_goes : (c : Copied) (message : Message) → CopiesFit fits_state fits_args c → CopiesBlocked p c → AreCounted c.own c.singles → AppliesSingle fits_args c message.action
      → GoesOn fits_state fits_args p c (after_single p c message)
  after_single_goes c message fit blocked counted applies =
      let s = acted p (side c) message in
      let t : Settling = record { objects = s.objects; queue = s.queue; lines = [] } in
      record {
        fits = record {
          shared = fit.shared;
          own = settled_fits fits_state fits_args (kinds_at c) p (keeps (kinds_at c)) (length s.queue) t (acted_single c message message.action fit applies);
        };
        blocked = record { shared = blocked.shared; own = settled_blocked p t };
        counted = counted_single fits_args p c message applies counted;
        types = λ entry has. has;
      }

-- ---- no single object
none_behind : {X : Type 0} (xs : List X) → xs ++ [] ≡ xs
none_behind [] = refl
none_behind (x ∷ xs) = ap (λ ys. x ∷ ys) (none_behind xs)

pub is_plain : (p : Performs) (c : Copied) (message : Message) → c.singles ≡ [] → IsPlain p c message
is_plain p c message none =
    let few : length c.singles ≡ 0 = ap length none in
    record {
      types = ap (λ s. kinds_of c.objects ++ s) none ∙ none_behind (kinds_of c.objects);
      made = omega (arith, few);
      none = none;
    }
