-- Tries of operations and makings of objects, by their numbers.
use Rattle.std.proofs.Common.{◌≡◌, ◌≢◌, ◌+◌, ℕ, Bool, [], length, Option, Some, None, refl, sym, ap, ◌∙◌, subst}
use Rattle.std.specs.Prelude.{◌==◌, if◌then◌else◌}
use Rattle.std.proofs.lemmas.Bool.{ne_eqb}
use Rattle.orca_base.specs.declared.ids.KindNo.{KindNo}
use Rattle.orca_base.specs.declared.ids.OpNo.{OpNo}
use Rattle.orca_base.specs.declared.limits.TheConstants.{OPERATION_TURNS}
use Rattle.value_core.specs.Datum.{Data}
use Rattle.value_core.specs.Datum as datum
use Rattle.value_core.specs.declared.action.Reply.TheVariants as reply
use Rattle.value_core.specs.declared.meaning.Making.{Making}
use Rattle.value_core.specs.declared.meaning.Making.TheVariants as making
use Rattle.value_core.specs.declared.meaning.Tried.{Tried}
use Rattle.value_core.specs.declared.meaning.Tried.TheVariants as tried
use Rattle.code_rules.specs.Machine.{Body, BodyNo, Code, Config, Effect, OfMaking, OfOperation, OperationCode, body_of, exec, operation_of, with_spare}
use Rattle.code_rules.specs.Performing.{To, begun, made_by, makes, nobody, operation_tried, tries, type_made}
use Rattle.code_runs.specs.Runs.{Gives, HaltsSo, IsCame, come_to}
use Rattle.code_runs.proofs.Coming.{gives_as}
use Rattle.code_runs.proofs.Ending.{makes_come}

-- ---- tries

-- the output object takes each line, and keeps its state
pub output_tried : (code : Code) (kind : KindNo) (op : OpNo) (state args : Data) (t : Tried) → kind.0 ≡ 0 → t ≡ tried.Did 0 state reply.Done →
    Gives (tries code kind op state args) t
output_tried code kind op state args t zero is = (
  0,
  subst (λ (n : ℕ). IsCame (if n == 0 then To (tried.Did 0 state reply.Done) else operation_tried code (OfOperation kind.0 op.0) state args (operation_of code kind.0 op.0) 0) t)
      (sym zero) is,
)

-- another type's operation is tried by its code
pub tries_of : (code : Code) (kind : KindNo) (op : OpNo) (state args : Data) (n m : ℕ) (o : Option OperationCode) → kind.0 ≢ 0 → n ≡ kind.0 → m ≡ op.0 →
    operation_of code n m ≡ o → (k : ℕ) → tries code kind op state args k ≡ operation_tried code (OfOperation n m) state args o k
tries_of code kind op state args n m o other is_kind is_op here k =
    ap (λ (b : Bool). if b then To (tried.Did 0 state reply.Done) else operation_tried code (OfOperation kind.0 op.0) state args (operation_of code kind.0 op.0) k) (ne_eqb kind.0 0 other)
    ∙ ap (λ (i : ℕ). operation_tried code (OfOperation i op.0) state args (operation_of code i op.0) k) (sym is_kind)
    ∙ ap (λ (j : ℕ). operation_tried code (OfOperation n j) state args (operation_of code n j) k) (sym is_op)
    ∙ ap (λ (x : Option OperationCode). operation_tried code (OfOperation n m) state args x k) here

-- what isn't there is blocked
pub none_tried : (code : Code) (kind : KindNo) (op : OpNo) (state args : Data) (n m : ℕ) → kind.0 ≢ 0 → n ≡ kind.0 → m ≡ op.0 → operation_of code n m ≡ None →
    Gives (tries code kind op state args) tried.Blocked
none_tried code kind op state args n m other is_kind is_op here =
    gives_as (tries code kind op state args) (operation_tried code (OfOperation n m) state args None) tried.Blocked (tries_of code kind op state args n m None other is_kind is_op here) (0, refl)

-- ---- makings

-- what halts gives what is made
pub made_so : (code : Code) (body : BodyNo) (part : Body) (fields left left' : ℕ) (c : Config) (e : Effect) (m : Making) → fields ≡ length part.opens → left ≡ OPERATION_TURNS + 1 →
    c ≡ begun nobody body 0 (with_spare part part.opens) → HaltsSo code c left e left' → IsCame (made_by fields (come_to e 0)) m → Gives (type_made code body (Some part)) m
made_so code body part fields left left' c e m many all is halted came =
    gives_as (type_made code body (Some part)) (λ k. made_by fields (exec code k c [] 0 left)) m
    (λ k. ap (λ (n : ℕ). made_by n (exec code k (begun nobody body 0 (with_spare part part.opens)) [] 0 (OPERATION_TURNS + 1))) (sym many)
    ∙ ap (λ (n : ℕ). made_by fields (exec code k (begun nobody body 0 (with_spare part part.opens)) [] 0 n)) (sym all)
    ∙ ap (λ (d : Config). made_by fields (exec code k d [] 0 left)) (sym is))
    (makes_come code fields c left left' e m halted came)

-- by the number of its type
pub makes_of : (code : Code) (kind : KindNo) (n : ℕ) (b : Option Body) (m : Making) → n ≡ kind.0 → body_of code (OfMaking n) ≡ b → Gives (type_made code (OfMaking n) b) m →
    Gives (makes code kind) m
makes_of code kind n b m is here g =
    gives_as (makes code kind) (type_made code (OfMaking n) b) m
    (λ k. ap (λ (i : ℕ). type_made code (OfMaking i) (body_of code (OfMaking i)) k) (sym is) ∙ ap (λ (x : Option Body). type_made code (OfMaking n) x k) here) g

-- of a type without code nothing is made
pub nothing_made : (code : Code) (kind : KindNo) (n : ℕ) (m : Making) → n ≡ kind.0 → body_of code (OfMaking n) ≡ None → m ≡ making.Made datum.none → Gives (makes code kind) m
nothing_made code kind n m is none made = makes_of code kind n None m is none (0, made)
