use Rattle.std.proofs.Common.{◌≡◌, ◌∙◌, ◌-◌, ap, arith, refl, suc, sym, drop, get_or, None, Some}
use Rattle.std.specs.Arc.{arc_value}
use Rattle.std.proofs.lemmas.Option.{slice_get_read}
use Rattle.guard_queue.specs.declared.objects.Write.{Write}
use Rattle.guard_queue.specs.Shown.{written_at, written_objects}
use Rattle.guard_queue.proofs.Same.{id_decides}
use Rattle.guard_queue.proofs.Writes.{found_write}
use Rattle.guard_queue.proofs.objects.last_write.Goals as goal

pub returns-then-eq : goal.returns-then-eq
returns-then-eq c =
    let w = c.index-recent-left.result in
    let v = c.index-recent-left-then-eq.result in
    let i = c.writes.left - 1 in
    let back : suc i ≡ c.writes.left = (let test = c.writes-test.true in omega (arith, test)) in
    let at = slice_get_read c.args.recent.now _ i w refl (let test = c.writes-test.true in let le = c.writes.invariant.1 in omega (arith, test, le)) c.index-recent-left.is in
    let also = slice_get_read c.args.recent.now _ i v refl (let test = c.writes-test.true in let le = c.writes.invariant.1 in omega (arith, test, le)) c.index-recent-left-then-eq.is in
    let same = ap (λ (x : Write). x.object) c.index-recent-left.is ∙ (id_decides (get_or c.args.recent.now i w).object c.args.object).0 (sym c.eq.ensures ∙ c.if-eq.true) in
    let none : written_at (written_objects (drop (suc i) c.args.recent.now)) c.args.object ≡ None = ap (λ n. written_at (written_objects (drop n c.args.recent.now)) c.args.object) back ∙ c.writes.invariant.0 in
    ap Some (c.deref.ensures ∙ ap (λ (x : Write). arc_value x.kept) (sym c.index-recent-left-then-eq.is)) ∙ found_write c.args.recent.now c.args.object i w v at also same none
