-- What objects show that are kept as a shared map and the writes since.
use Rattle.std.specs.Prelude.{◌≡◌, IsTrue, is_some, T, List, [], ◌∷◌, Option, None, Some, cond, map}
use Rattle.std.specs.Arc.{arc_value}
use Rattle.std.specs.BTreeMap.{BTreeMap, is_at}
use Rattle.std.specs.FinMap.Entries.{is_sorted}
use Rattle.std.specs.declared.alloc.Global.{Global}
use Rattle.std.specs.declared.sync.Arc.{Arc}
use Rattle.orca_base.specs.declared.ids.ObjectId.{ObjectId}
use Rattle.value_core.specs.declared.action.Instance.{Instance}
use Rattle.value_core.specs.History.{Objects, object_at, object_cmp, with_object}
use Rattle.guard_queue.specs.declared.objects.Write.{Write}

-- the ids rise, so that there is one object for an id
abbrev pub Rises : Objects → Type 0
Rises objects = T (is_sorted object_cmp objects)

-- each object of the other's is the same in one
abbrev pub HasAll : Objects → Objects → Type 0
HasAll one other = (id : ObjectId) → IsTrue (is_some (object_at other id)) → object_at one id ≡ object_at other id

-- the objects after writes, the first one first
abbrev pub with_all : Objects → Objects → Objects
with_all objects [] = objects
with_all objects (w ∷ ws) = with_all (with_object objects w.0 w.1) ws

abbrev pub or_else : Option Instance → Option Instance → Option Instance
or_else None other = other
or_else (Some kept) other = Some kept

-- what the last write to this id put in, if there is one
abbrev pub written_at : Objects → ObjectId → Option Instance
written_at [] object = None
written_at (w ∷ ws) object = or_else (written_at ws object) (cond (is_at (object_cmp object) w.0) (Some w.1) None)

-- the objects of a map, without how they are shared
abbrev pub shown_objects : List (ObjectId × Arc Instance Global) → Objects
shown_objects entries = map (λ e. (e.0, arc_value e.1)) entries

-- a write, without how its object is shared
abbrev pub written : Write → ObjectId × Instance
written w = (w.object, arc_value w.kept)

abbrev pub written_objects : List Write → Objects
written_objects writes = map written writes

-- a map and the writes since
abbrev pub shown : BTreeMap ObjectId (Arc Instance Global) → List Write → Objects
shown shared writes = with_all (shown_objects shared.entries) (written_objects writes)
