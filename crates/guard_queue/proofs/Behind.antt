-- Lines that were there before the queue settles stay in front.
use Rattle.std.proofs.Common.{◌≡◌, ℕ, List, [], ◌∷◌, ◌++◌, length, Option, None, Some, ap, ◌∙◌, refl, zero, suc, append_assoc}
use Rattle.std.specs.Prelude.{slice_get}
use Rattle.std.specs.List.{remove}
use Rattle.value_core.specs.declared.action.Line.{Line}
use Rattle.value_core.specs.Meaning.{Performs}
use Rattle.value_core.specs.History.{Objects}
use Rattle.guard_queue.specs.declared.queue.Suspended.{Suspended}
use Rattle.guard_queue.specs.Settles.{Settling, answered, behind, next_ready, objects_with, performed, settle_up_to, settled, settled_from, stepped, tried_in}

performed_behind : (p : Performs) (lines : List Line) (s : Settling) (at : ℕ) (o : Option Suspended) → performed p (behind lines s) at o ≡ behind lines (performed p s at o)
performed_behind p lines s at None = refl
performed_behind p lines s at (Some call) =
    let f : (ls : List Line) → Settling = λ ls. record { objects = objects_with s.objects call (tried_in p s.objects call); queue = remove s.queue at; lines = ls } in
    ap f (append_assoc lines s.lines (answered call (tried_in p s.objects call) ∷ []))

stepped_behind : (p : Performs) (lines : List Line) (s : Settling) (o : Option ℕ) → stepped p (behind lines s) o ≡ behind lines (stepped p s o)
stepped_behind p lines s None = refl
stepped_behind p lines s (Some at) = performed_behind p lines s at (slice_get s.queue at)

up_to_behind : (p : Performs) (lines : List Line) (n : ℕ) (s : Settling) → settle_up_to p n (behind lines s) ≡ behind lines (settle_up_to p n s)
up_to_behind p lines zero s = refl
up_to_behind p lines (suc n) s = ap (settle_up_to p n) (stepped_behind p lines s (next_ready p s.objects s.queue)) ∙ up_to_behind p lines n (stepped p s (next_ready p s.objects s.queue))

pub append_none : (lines : List Line) → lines ++ [] ≡ lines
append_none [] = refl
append_none (line ∷ lines) = ap (λ ls. line ∷ ls) (append_none lines)

pub settled_behind : (p : Performs) (objects : Objects) (queue : List Suspended) (lines : List Line) (s : Settling) → s ≡ settled_from p (record { objects = objects; queue = queue; lines = lines }) → s ≡ behind lines (settled p objects queue)
settled_behind p objects queue lines s is =
    let f : (ls : List Line) → Settling = λ ls. record { objects = objects; queue = queue; lines = ls } in
    is ∙ ap (λ ls. settled_from p (f ls)) (let e : lines ≡ lines ++ [] = (let r = append_none lines in cc) in e) ∙ up_to_behind p lines (length queue) (f [])
