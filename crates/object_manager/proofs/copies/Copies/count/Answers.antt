use Rattle.std.proofs.Common.{◌≡◌, ◌<◌, ◌∷◌, ◌++◌, ◌∙◌, [], None, ap, arith, length, length-append, subst, sym}
use Rattle.orca_base.specs.declared.ids.ObjectId.{ObjectId}
use Rattle.value_core.specs.Fits.{Kinds}
use Rattle.value_core.specs.History.{Objects, object_at}
use Rattle.value_core.specs.declared.meaning.Making.TheVariants as making
use Rattle.object_manager.specs.After.{Copied}
use Rattle.object_manager.specs.Limits.{made_objects, objects_limit}
use Rattle.object_manager.specs.Singles.{AreCounted, IsCounted}
use Rattle.object_manager.proofs.Singles.{counted_passed}
use Rattle.object_manager.proofs.Whole.{apart_later, below}
use Rattle.object_manager.proofs.copies.Copies.count.Goals as goal

pub invariant_of-self-2 : goal.invariant_of-self-2
invariant_of-self-2 c =
    let now = c.args.self.now in
    let own = c.self.inside.own in
    let singles = c.self.inside.singles.items in
    let object = c.args.object in
    let kind = c.args.kind in
    let made = making.Made c.in-Made.state in
    let whole = c.self.invariant in
    let few = whole.made in
    let more : c.push.new.self.items ≡ singles ++ (object, kind) ∷ [] = c.in_ok-push.ensures.items in
    let longer = simp length-append at (ap length more) in
    let P : Kinds → Type 0 = λ s. AreCounted c.in_ok-own.own s in
    let Q : Objects → Type 0 = λ o. AreCounted o (singles ++ (object, kind) ∷ []) in
    let counted = subst P (sym more) (subst Q (sym (c.in_ok-own.ensures {u = tt})) (counted_passed c.args.keeps own singles kind object made whole.counted)) in
    let absent = ap (λ (x : Copied). object_at x.objects object) c.self.view_is ∙ c.requires.absent in
    let R : Kinds → Type 0 = λ s. (q : ObjectId) → IsCounted s q → object_at c.self.inside.objects q ≡ None in
    let less : made_objects now < 4096 = below 4096 (made_objects now) _ (sym (ap (objects_limit now) c.in-Made.is) ∙ c.requires.limit) in
    let same = ap (λ (x : Copied). made_objects x) c.self.view_is in
    record {
      output = whole.output;
      rises = whole.rises;
      counted = counted;
      apart = subst R (sym more) (apart_later c.self.inside.objects singles object kind absent whole.apart);
      some = whole.some;
      few = whole.few;
      made = omega (arith, longer, less, same);
    }
