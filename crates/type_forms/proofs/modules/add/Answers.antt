use Rattle.std.proofs.Common.{◌≡◌, Bool, true, false, cond, ◌||◌, Option, Some, refl, ap, ◌∙◌}
use Rattle.std.specs.Prelude.{is_some}
use Rattle.std.proofs.lemmas.Map.Text.{btree_map_updates_str}
use Rattle.type_forms.proofs.modules.add.Goals as goal

some_or : {X : Type 0} (b : Bool) (x : X) (o : Option X) → is_some (cond b (Some x) o) ≡ (b || is_some o)
some_or true x o = refl
some_or false x o = refl

pub returns : goal.returns
returns c = λ n.
    ap is_some (btree_map_updates_str _ c.args.names.now c.insert.new.self _ c.in_ok-insert.ensures.updates n)
    ∙ some_or _ _ _
