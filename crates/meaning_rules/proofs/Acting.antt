-- Calls of operations, forks and lines of output without a breach: the actions are of objects and arguments that fit, and their replies
-- give what is of the operation's result.
use Rattle.std.proofs.Common.{refl, ap, sym, ◌∙◌, subst, arith, leb-true}
use Rattle.std.specs.Prelude.{◌≡◌, ◌≤◌, ◌++◌, ℕ, ℤ, Bool, true, false, if◌then◌else◌, nat_le, List, [], ◌∷◌, length, slice_get, ok_or, unwrap_or, Option, Some, None, Result, Ok, Err, IfOk}
use Rattle.std.specs.Option.{option_map_or}
use Rattle.std.specs.List.{All, AllByRecursion, Contains}
use Rattle.std.proofs.lemmas.List.Elements.{Contains-append_left, Contains-append_right, Contains-push}
use Rattle.orca_base.specs.declared.fault.FaultKind.{FaultKind}
use Rattle.orca_base.specs.declared.fault.FaultKind.TheVariants.{IndexOutside, TooLarge}
use Rattle.orca_base.specs.declared.ids.KindNo.{KindNo}
use Rattle.orca_base.specs.declared.ids.ObjectId.{ObjectId}
use Rattle.orca_base.specs.declared.limits.TheConstants.{TEXT_LENGTH, VALUE_SIZE}
use Rattle.orca_tree.specs.declared.tree.Name.{Name}
use Rattle.orca_syntax.specs.Syntax.{Exprs}
use Rattle.link_rules.specs.Units.{Source}
use Rattle.type_rules.specs.declared.signature.Signature.{Signature}
use Rattle.type_rules.specs.declared.types.DataType.{DataType}
use Rattle.type_rules.specs.declared.types.Base.TheVariants as base
use Rattle.type_rules.specs.declared.types.Layer.TheVariants as layer
use Rattle.type_rules.specs.Types as types
use Rattle.type_rules.specs.Types.{Outside, outside_of, inside_of, object_in}
use Rattle.type_rules.specs.Rules.{Found}
use Rattle.type_rules.specs.TopLevel as top
use Rattle.type_rules.specs.TopLevel.{What, TopName, StandsFor, stands_for}
use Rattle.type_rules.specs.Scopes.{Local, Scope, local, signature, operation_of, may_be_object}
use Rattle.type_rules.specs.Expressions.{Use, Invoked, invoked, invoke_found, arguments, called_well, count_of, is_used_well, result_type, acts, operation_rules, invoked_signature, of_local, of_type, of_object, of_operation, outer_object}
use Rattle.type_rules.specs.Expressions as judged
use Rattle.type_rules.specs.Statements as judged_statements
use Rattle.type_rules.specs.Statements.{Forked, forked, process_of, outer_process, top_process, fork_rules, forked_signature}
use Rattle.value_core.specs.Datum.{Datum, Data, data_of}
use Rattle.value_core.specs.Datum as datum
use Rattle.value_core.specs.Fits.{Kinds}
use Rattle.value_core.specs.History.{output_kind, output_object}
use Rattle.value_core.specs.Size.{size_of_all}
use Rattle.value_core.specs.Sound.{IsCode}
use Rattle.value_core.specs.View.{datum_of}
use Rattle.value_core.specs.declared.action.Action.TheVariants as action
use Rattle.value_core.specs.declared.action.Reply.{Reply}
use Rattle.value_core.specs.declared.action.Reply.TheVariants as reply
use Rattle.value_ops.specs.Texts.{joined}
use Rattle.meaning_rules.specs.Operators.{and_then, fitting_all}
use Rattle.meaning_rules.specs.Programs as programs
use Rattle.meaning_rules.specs.Programs.{kind_of, op_of}
use Rattle.meaning_rules.specs.States.{State, Out, after, gives, act}
use Rattle.meaning_rules.specs.Designators.{slot, root_type, value_in}
use Rattle.meaning_rules.specs.Calls.{operate, fork, write, id_in, object_number}
use Rattle.meaning_rules.specs.Statements.{line_of}
use Rattle.meaning_rules.specs.Fitting.{IsOf, Fits, FitsResult}
use Rattle.meaning_rules.specs.PhrasesFit.{IsThere, Preserves, IsResult}
use Rattle.meaning_rules.specs.Accepted.{TakesValue, IsPlain, AreTaken, IsOperation, IsProcess, IsAccepted}
use Rattle.meaning_rules.proofs.Called.{well}
use Rattle.meaning_rules.proofs.Fronts.{fronts}
use Rattle.meaning_rules.proofs.Judged.{left_none, right_none, unless_none, unless_is, local_at, opening_at}
use Rattle.meaning_rules.proofs.OperatorsFit.{joined_codes}
use Rattle.meaning_rules.proofs.PartsFit.{OfBy}
use Rattle.meaning_rules.proofs.Preserving.{Any, Answered, then_preserves, gives_preserves, act_preserves, frame_at}
use Rattle.meaning_rules.proofs.StaysFit.{fits_more}

-- what a reply that fits gives is of the result
answered : (us : List Source) (kinds : Kinds) (r : Option (Option DataType)) (answer : Reply) → FitsResult us r answer → Answered (IsResult us kinds r) answer
answered us kinds None reply.Done h = tt
answered us kinds None (reply.Gave value) h = absurd h
answered us kinds None (reply.Broke fault) h = tt
answered us kinds (Some t) reply.Done h = absurd h
answered us kinds (Some t) (reply.Gave value) h = fits_more us [] kinds (λ entry has. absurd (nothing entry has)) (datum_of value) t h
  where
    nothing : (entry : ObjectId × KindNo) → Contains {X = ObjectId × KindNo} [] entry → ⊥
    nothing entry has = let less = has.1 in omega (arith, less)
answered us kinds (Some t) (reply.Broke fault) h = tt

any_answered : (answer : Reply) → Answered Any answer
any_answered reply.Done = tt
any_answered (reply.Gave value) = tt
any_answered (reply.Broke fault) = tt

-- arguments that are no larger together than they may be
module _ (us : List Source) (kinds : Kinds) (ls : List Local) (xs : List Datum) where
  small_arguments : (P : Option Datum → Type 0) (next : Data → State → Out (Option Datum)) →
      (size_of_all (data_of xs) ≤ VALUE_SIZE → Preserves us kinds ls (Option Datum) P (next (data_of xs))) →
      Preserves us kinds ls (Option Datum) P (λ s. after (gives (fitting_all (data_of xs)) s) (λ args s1. next args s1))
  small_arguments P next h =
      then_preserves us kinds ls (λ args. (data_of xs ≡ args) × (size_of_all (data_of xs) ≤ VALUE_SIZE)) P _ _ (fronts.gives Data (λ frame. fitting_all (data_of xs)))
      (gives_preserves us kinds ls _ (λ s. fitting_all (data_of xs)) (λ s fits. small (nat_le (size_of_all (data_of xs)) VALUE_SIZE) refl)) (λ args are.
      subst (λ x. Preserves us kinds ls (Option Datum) P (next x)) are.0 (h are.1))
    where
      small : (b : Bool) → nat_le (size_of_all (data_of xs)) VALUE_SIZE ≡ b →
          IfOk (if b then Ok (data_of xs) else Err TooLarge) (λ args. (data_of xs ≡ args) × (size_of_all (data_of xs) ≤ VALUE_SIZE))
      small true is = (refl, leb-true (size_of_all (data_of xs)) VALUE_SIZE is)
      small false is = tt

-- ---- operations

-- a call of an operation without a breach
pub record IsInvoked (kinds : Kinds) (v : Scope) (way : Use) (o m : Name) (es : Exprs) : Type 0 where
  pub signed : Signature
  pub known : AllByRecursion TakesValue signed.formals
  pub inside : arguments v signed.formals es ≡ []
  pub many : length signed.formals ≡ count_of es
  pub used : is_used_well way signed.result ≡ true
  pub type : (invoke_found v way o m es (invoked v o m) (arguments v (invoked_signature (invoked v o m)).formals es)).is ≡ result_type signed.result
  pub operates : (xs : List Datum) → AreTaken v.program kinds xs signed.formals →
      Preserves v.program kinds v.locals (Option Datum) (IsResult v.program kinds signed.result) (operate v o m xs)

pub object_outside : (o : Outside) (i : ℕ) → object_in o ≡ Some i → o ≡ types.Bare (base.Object i)
object_outside (types.Bare (base.Object j)) i is = ap (λ x. types.Bare (base.Object (number j x))) is
  where
    number : ℕ → Option ℕ → ℕ
    number j None = j
    number j (Some k) = k
object_outside (types.Bare base.Integer) i is = absurd cc
object_outside (types.Bare base.Boolean) i is = absurd cc
object_outside (types.Bare base.Character) i is = absurd cc
object_outside (types.Bare base.String) i is = absurd cc
object_outside (types.Bare base.NodeName) i is = absurd cc
object_outside (types.Bare (base.Enumeration j)) i is = absurd cc
object_outside (types.Bare (base.Record j)) i is = absurd cc
object_outside (types.Within (layer.Array low high)) i is = absurd cc
object_outside (types.Within layer.Set) i is = absurd cc
object_outside (types.Within layer.Bag) i is = absurd cc
object_outside (types.Within layer.Graph) i is = absurd cc

-- an object of a type is there
object_there : (us : List Source) (kinds : Kinds) (t : DataType) (i : ℕ) → outside_of t ≡ types.Bare (base.Object i) → (w : Datum) → IsOf us kinds w t →
    IsThere kinds (id_in (Ok w)) (kind_of us i)
object_there us kinds t i e (datum.object p n) h =
    Contains-append_right ((output_object, output_kind) ∷ []) kinds (record { process = p; number = n }, kind_of us i)
    (subst (λ o. OfBy us kinds o (inside_of t) (datum.object p n)) e h)
object_there us kinds t i e (datum.int z) h = absurd (subst (λ o. OfBy us kinds o (inside_of t) (datum.int z)) e h).0
object_there us kinds t i e (datum.truth b) h = absurd (subst (λ o. OfBy us kinds o (inside_of t) (datum.truth b)) e h)
object_there us kinds t i e (datum.char c) h = absurd (subst (λ o. OfBy us kinds o (inside_of t) (datum.char c)) e h).0
object_there us kinds t i e (datum.enumerated n) h = absurd (subst (λ o. OfBy us kinds o (inside_of t) (datum.enumerated n)) e h)
object_there us kinds t i e (datum.text s) h = absurd (subst (λ o. OfBy us kinds o (inside_of t) (datum.text s)) e h).0
object_there us kinds t i e (datum.array w) h = absurd (subst (λ o. OfBy us kinds o (inside_of t) (datum.array w)) e h)
object_there us kinds t i e (datum.fields w) h = absurd (subst (λ o. OfBy us kinds o (inside_of t) (datum.fields w)) e h)
object_there us kinds t i e (datum.set w) h = absurd (subst (λ o. OfBy us kinds o (inside_of t) (datum.set w)) e h)
object_there us kinds t i e (datum.bag w) h = absurd (subst (λ o. OfBy us kinds o (inside_of t) (datum.bag w)) e h)

module _ (kinds : Kinds) (v : Scope) (plain_scope : IsPlain v) (facts : IsAccepted v.program) (way : Use) (o m : Name) (es : Exprs) where
  abbrev Judged : Invoked → Found DataType
  Judged i = invoke_found v way o m es i (arguments v (invoked_signature i).formals es)

  parts : (i : Invoked) → (Judged i).breaches ≡ [] →
      (operation_rules way o m es i ≡ []) × (arguments v (invoked_signature i).formals es ≡ []) × ((Judged i).is ≡ result_type (invoked_signature i).result)
  parts i none =
      let all = unless_none (acts v o.at ++ (operation_rules way o m es i ++ arguments v (invoked_signature i).formals es)) (result_type (invoked_signature i).result) none in
      let rest = right_none (acts v o.at) (operation_rules way o m es i ++ arguments v (invoked_signature i).formals es) all in (
        left_none (operation_rules way o m es i) _ rest,
        right_none (operation_rules way o m es i) _ rest,
        ap (λ f. f.is) (unless_is _ (result_type (invoked_signature i).result) all),
      )

  -- the call, by what the name is in the body and by the number of its type
  abbrev Operates : List Datum → Option Local → ℕ → State → Out (Option Datum)
  Operates xs l i s =
      after (gives (fitting_all (data_of xs)) s) (λ args s1.
      act (action.Call (kind_of v.program i) (op_of v.program i m.text) (id_in (value_in v o s1 l)) args) s1)

  operates : (l : Local) (t : DataType) (i : ℕ) (s : Signature) → local v o.text ≡ Some l → l.type ≡ Some t → object_in (outside_of t) ≡ Some i →
      IsOperation v.program i m.text s → (xs : List Datum) → AreTaken v.program kinds xs s.formals →
      Preserves v.program kinds v.locals (Option Datum) (IsResult v.program kinds s.result) (operate v o m xs)
  operates l t i s named typed object operation xs taken =
      let number : object_number (root_type v o) ≡ i =
      ap (λ x. object_number (option_map_or (λ k. k.type) x None)) named ∙ (ap object_number typed ∙ ap (λ x. unwrap_or x 0) object) in
      subst (λ x. Preserves v.program kinds v.locals (Option Datum) (IsResult v.program kinds s.result) (Operates xs x (object_number (root_type v o)))) (sym named)
      (subst (λ k. Preserves v.program kinds v.locals (Option Datum) (IsResult v.program kinds s.result) (Operates xs (Some l) k)) (sym number)
      (small_arguments v.program kinds v.locals xs (IsResult v.program kinds s.result)
      (λ args s1. act (action.Call (kind_of v.program i) (op_of v.program i m.text) (id_in (ok_or (slice_get s1.frame (slot v o)) IndexOutside)) args) s1) (λ less.
      act_preserves v.program kinds v.locals (IsResult v.program kinds s.result)
      (λ frame. action.Call (kind_of v.program i) (op_of v.program i m.text) (id_in (ok_or (slice_get frame (slot v o)) IndexOutside)) (data_of xs))
      (λ frame fits.
      let at = frame_at v.program kinds frame v.locals (slot v o) l fits (local_at v o l named) in (
        subst (λ x. IsThere kinds (id_in (ok_or x IndexOutside)) (kind_of v.program i)) (sym at.1)
            (object_there v.program kinds t i (object_outside (outside_of t) i object) at.0 (subst (λ x. Fits v.program kinds at.0 x) typed at.2).0),
        operation.args kinds xs taken less,
      ))
      (λ frame fits answer h. answered v.program kinds s.result answer (operation.reply answer h)))))

  pub is_invoked : (Judged (invoked v o m)).breaches ≡ [] → IsInvoked kinds v way o m es
  is_invoked none = by_local (local v o.text) refl
    where
      not_invoked : (i : Invoked) → invoked v o m ≡ i → ((operation_rules way o m es i ≡ []) → ⊥) → IsInvoked kinds v way o m es
      not_invoked i is breaks_one = absurd (breaks_one (parts i (ap (λ j. (Judged j).breaches) (sym is) ∙ none)).0)

      by_outer : (s : StandsFor) → invoked v o m ≡ outer_object s → IsInvoked kinds v way o m es
      by_outer top.Nothing is = not_invoked judged.UnknownObject is (λ e. absurd cc)
      by_outer (top.Top i t) is = not_invoked judged.NoObject is (λ e. absurd cc)
      by_outer (top.Everywhere p) is = not_invoked judged.NoObject is (λ e. absurd cc)

      by_operation : (l : Local) (t : DataType) (i : ℕ) → local v o.text ≡ Some l → l.type ≡ Some t → object_in (outside_of t) ≡ Some i →
          (x : Option Signature) → operation_of v.program i m.text ≡ x → invoked v o m ≡ of_operation x → IsInvoked kinds v way o m es
      by_operation l t i named typed object None at is = not_invoked judged.NoOperation is (λ e. absurd cc)
      by_operation l t i named typed object (Some s) at is =
          let operation = facts.operations i m.text s at in
          let all = parts (judged.AnOperation s) (ap (λ j. (Judged j).breaches) (sym is) ∙ none) in
          let fine = well way o.at m s es all.0 in
          record {
            signed = s;
            known = operation.formals;
            inside = all.1;
            many = fine.1;
            used = fine.0;
            type = ap (λ j. (Judged j).is) is ∙ all.2;
            operates = operates l t i s named typed object operation;
          }

      by_object : (l : Local) (t : DataType) → local v o.text ≡ Some l → l.type ≡ Some t → (x : Option ℕ) → object_in (outside_of t) ≡ x →
          invoked v o m ≡ of_object v m x → IsInvoked kinds v way o m es
      by_object l t named typed None object is = not_invoked judged.NoObject is (λ e. absurd cc)
      by_object l t named typed (Some i) object is = by_operation l t i named typed object (operation_of v.program i m.text) refl is

      by_role : (l : Local) → local v o.text ≡ Some l → (b : Bool) → invoked v o m ≡ (if b then of_type v m l.type else judged.NoObject) → IsInvoked kinds v way o m es
      by_role l named false is = not_invoked judged.NoObject is (λ e. absurd cc)
      by_role l named true is =
          let known = (opening_at v plain_scope o l named).known in
          by_object l known.0 named known.1 (object_in (outside_of known.0)) refl (is ∙ ap (of_type v m) known.1)

      by_local : (x : Option Local) → local v o.text ≡ x → IsInvoked kinds v way o m es
      by_local None named = by_outer (stands_for v.program v.home o.text) (ap (of_local v o m) named)
      by_local (Some l) named = by_role l named (may_be_object l.role) (ap (of_local v o m) named)

-- ---- forks

-- a fork without a breach
pub record IsForked (kinds : Kinds) (v : Scope) (p : Name) (es : Exprs) : Type 0 where
  pub signed : Signature
  pub is : forked_signature (forked v p) ≡ signed
  pub known : AllByRecursion TakesValue signed.formals
  pub many : length signed.formals ≡ count_of es
  pub forks : (xs : List Datum) (on : Option ℤ) → AreTaken v.program kinds xs signed.formals → Preserves v.program kinds v.locals (Option Datum) Any (fork v p xs on)

module _ (kinds : Kinds) (v : Scope) (facts : IsAccepted v.program) (p : Name) (es : Exprs) where
  of_process : (s : Signature) → forked v p ≡ judged_statements.AProcess s → IsProcess v.program p.text s → fork_rules p es (forked v p) ≡ [] → IsForked kinds v p es
  of_process s is process none = record {
    signed = s;
    is = ap forked_signature is;
    known = process.formals;
    many = (well judged.AsStatement p.at p s es (ap (fork_rules p es) (sym is) ∙ none)).1;
    forks = λ xs on taken.
        small_arguments v.program kinds v.locals xs Any (λ args s1. act (action.Fork (programs.text_of v.program p.text) args on) s1) (λ less.
        act_preserves v.program kinds v.locals Any (λ frame. action.Fork (programs.text_of v.program p.text) (data_of xs) on)
        (λ frame fits. process.args kinds xs taken less) (λ frame fits answer h. any_answered answer));
  }

  pub is_forked : fork_rules p es (forked v p) ≡ [] → IsForked kinds v p es
  is_forked none = by_local (local v p.text) refl
    where
      not_forked : (f : Forked) → forked v p ≡ f → ((fork_rules p es f ≡ []) → ⊥) → IsForked kinds v p es
      not_forked f is breaks_one = absurd (breaks_one (ap (fork_rules p es) (sym is) ∙ none))

      by_what : (i : ℕ) (t : TopName) (what : What) → stands_for v.program v.home p.text ≡ top.Top i t → t.what ≡ what → forked v p ≡ top_process v t what → IsForked kinds v p es
      by_what i t (top.Process ps b) stands what is =
          of_process (signature v.program t.defined.by ps None b) is (facts.processes v.home p.text i t ps b stands what) none
      by_what i t (top.Constant b) stands what is = not_forked judged_statements.NoProcess is (λ e. absurd cc)
      by_what i t (top.TypeName of) stands what is = not_forked judged_statements.NoProcess is (λ e. absurd cc)
      by_what i t (top.Value of number) stands what is = not_forked judged_statements.NoProcess is (λ e. absurd cc)
      by_what i t (top.Specified heads) stands what is = not_forked judged_statements.NoProcess is (λ e. absurd cc)
      by_what i t (top.Implemented os) stands what is = not_forked judged_statements.NoProcess is (λ e. absurd cc)
      by_what i t (top.Function ps r b) stands what is = not_forked judged_statements.NoProcess is (λ e. absurd cc)

      by_stand : (s : StandsFor) → stands_for v.program v.home p.text ≡ s → forked v p ≡ outer_process v s → IsForked kinds v p es
      by_stand top.Nothing stands is = not_forked judged_statements.Unknown is (λ e. absurd cc)
      by_stand (top.Top i t) stands is = by_what i t t.what stands refl is
      by_stand (top.Everywhere x) stands is = not_forked judged_statements.NoProcess is (λ e. absurd cc)

      by_local : (x : Option Local) → local v p.text ≡ x → IsForked kinds v p es
      by_local (Some l) named = not_forked judged_statements.NoProcess (ap (process_of v p) named) (λ e. absurd cc)
      by_local None named = by_stand (stands_for v.program v.home p.text) refl (ap (process_of v p) named)

-- ---- lines of output

abbrev pub IsLine : List ℕ → Type 0
IsLine s = All IsCode s × (length s ≤ TEXT_LENGTH)

pub is_line : (front : List ℕ) (ts : List (List ℕ)) → IsLine front → AllByRecursion (All IsCode) ts → IfOk (line_of front ts) IsLine
is_line front [] h all = h
is_line front (t ∷ ts) h all = by (joined front t) (joined_codes [] [] front t h.0 all.0) (λ s k. is_line s ts k all.1)
  where
    by : (r : Result (List ℕ) FaultKind) → IfOk r IsLine → ((s : List ℕ) → IsLine s → IfOk (line_of s ts) IsLine) → IfOk (and_then r (λ s. line_of s ts)) IsLine
    by (Ok s) k rest = rest s k
    by (Err fault) k rest = tt

pub write_preserves : (us : List Source) (kinds : Kinds) (ls : List Local) (line : List ℕ) → IsLine line → Preserves us kinds ls (Option Datum) Any (write line)
write_preserves us kinds ls line h =
    act_preserves us kinds ls Any (λ frame. action.Call output_kind (record { 0 = 0 }) output_object (datum.more (datum.text line) datum.none))
    (λ frame fits. (
      Contains-append_left ((output_object, output_kind) ∷ []) kinds (output_object, output_kind) (Contains-push [] (output_object, output_kind)),
      (refl, (line, h.0, omega (arith, h.1), refl)),
    )) (λ frame fits answer k. any_answered answer)
