-- Maps that compare alike show the same objects.
use Rattle.std.proofs.Common.{◌≡◌, Bool, true, false, List, [], ◌∷◌, ap, ◌∙◌, refl}
use Rattle.std.specs.Prelude.{◌&&◌, ◌==◌}
use Rattle.std.specs.Ordering.{eq_by_cmp}
use Rattle.std.specs.Cmp.Lexicographic.{pointwise, pointwise_decides}
use Rattle.std.specs.Cmp.{Equal-is}
use Rattle.std.proofs.lemmas.Bool.{eqb-true, eq-eqb}
use Rattle.value_core.specs.OrderLaws.{data_cmp-exact}
use Rattle.std.specs.Arc.{arc_value}
use Rattle.std.specs.declared.alloc.Global.{Global}
use Rattle.std.specs.declared.sync.Arc.{Arc}
use Rattle.orca_base.specs.declared.ids.ObjectId.{ObjectId}
use Rattle.value_core.specs.Order.{data_cmp}
use Rattle.value_core.specs.declared.action.Instance.{Instance}
use Rattle.guard_queue.specs.Shown.{shown_objects}

abbrev pub same_id : ObjectId → ObjectId → Bool
same_id a b = (a.process == b.process) && (a.number == b.number)

abbrev pub same_kept : Instance → Instance → Bool
same_kept a b = (a.kind.0 == b.kind.0) && eq_by_cmp data_cmp a.state b.state

abbrev pub same_entry : ObjectId × Instance → ObjectId × Instance → Bool
same_entry p q = same_id p.0 q.0 && same_kept p.1 q.1

pub pointwise_shown : (xs ys : List (ObjectId × Arc Instance Global)) → pointwise (λ p q. same_id p.0 q.0 && same_kept (arc_value p.1) (arc_value q.1)) xs ys ≡ pointwise same_entry (shown_objects xs) (shown_objects ys)
pointwise_shown [] [] = refl
pointwise_shown [] (y ∷ ys) = refl
pointwise_shown (x ∷ xs) [] = refl
pointwise_shown (x ∷ xs) (y ∷ ys) = ap (λ b. same_entry (x.0, arc_value x.1) (y.0, arc_value y.1) && b) (pointwise_shown xs ys)

first : (s t : Bool) → (s && t) ≡ true → s ≡ true
first true t h = refl
first false t h = h

second : (s t : Bool) → (s && t) ≡ true → t ≡ true
second true t h = h
second false t h = cc

both : (s t : Bool) → s ≡ true → t ≡ true → (s && t) ≡ true
both s t h k = ap (λ b. b && t) h ∙ k

pub id_decides : (a b : ObjectId) → (same_id a b ≡ true → a ≡ b) × (a ≡ b → same_id a b ≡ true)
id_decides a b = (
  λ h. let process = eqb-true a.process b.process (first (a.process == b.process) (a.number == b.number) h) in
      let number = eqb-true a.number b.number (second (a.process == b.process) (a.number == b.number) h) in
      λ i. record { process = process i; number = number i },
  λ e. both (a.process == b.process) (a.number == b.number) (eq-eqb a.process b.process (ap (λ (x : ObjectId). x.process) e)) (eq-eqb a.number b.number (ap (λ (x : ObjectId). x.number) e)),
)

pub kept_decides : (a b : Instance) → (same_kept a b ≡ true → a ≡ b) × (a ≡ b → same_kept a b ≡ true)
kept_decides a b = (
  λ h. let kind = eqb-true a.kind.0 b.kind.0 (first (a.kind.0 == b.kind.0) (eq_by_cmp data_cmp a.state b.state) h) in
      let state = (data_cmp-exact a.state b.state).0 ((Equal-is (data_cmp a.state b.state)).0 (second (a.kind.0 == b.kind.0) (eq_by_cmp data_cmp a.state b.state) h)) in
      λ i. record { kind = record { 0 = kind i }; state = state i },
  λ e. both (a.kind.0 == b.kind.0) (eq_by_cmp data_cmp a.state b.state) (eq-eqb a.kind.0 b.kind.0 (ap (λ (x : Instance). x.kind.0) e))
      ((Equal-is (data_cmp a.state b.state)).1 ((data_cmp-exact a.state b.state).1 (ap (λ (x : Instance). x.state) e))),
)

pub entry_decides : (p q : ObjectId × Instance) → (same_entry p q ≡ true → p ≡ q) × (p ≡ q → same_entry p q ≡ true)
entry_decides p q = (
  λ h. let id = (id_decides p.0 q.0).0 (first (same_id p.0 q.0) (same_kept p.1 q.1) h) in
      let kept = (kept_decides p.1 q.1).0 (second (same_id p.0 q.0) (same_kept p.1 q.1) h) in
      λ i. (id i, kept i),
  λ e. both (same_id p.0 q.0) (same_kept p.1 q.1) ((id_decides p.0 q.0).1 (ap (λ (x : ObjectId × Instance). x.0) e)) ((kept_decides p.1 q.1).1 (ap (λ (x : ObjectId × Instance). x.1) e)),
)

pub entries_decide : (xs ys : List (ObjectId × Instance)) → (pointwise same_entry xs ys ≡ true → xs ≡ ys) × (xs ≡ ys → pointwise same_entry xs ys ≡ true)
entries_decide = pointwise_decides entry_decides
