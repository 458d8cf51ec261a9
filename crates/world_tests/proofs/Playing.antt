-- Lists of arguments, and where a process stands behind one more reply.
use Rattle.std.proofs.Common.{◌≡◌, ℕ, List, [], ◌∷◌, ◌++◌, refl, sym, ap, ◌∙◌}
use Rattle.value_core.specs.Datum.{Datum, Data, data_of, list_of, data_of-list_of}
use Rattle.value_core.specs.Datum as datum
use Rattle.value_core.specs.declared.action.Reply.{Reply}
use Rattle.world_tests.specs.Cells.{next, place_from}

pub one_of : (a w : Data) (v : Datum) → list_of a ≡ [] → list_of w ≡ list_of a ++ v ∷ [] → w ≡ datum.more v datum.none
one_of a w v none one = sym (data_of-list_of w) ∙ ap data_of (one ∙ ap (λ (vs : List Datum). vs ++ v ∷ []) none)

-- one reply more, behind all
pub place_push : (place : ℕ) (replies : List Reply) (reply : Reply) → place_from place (replies ++ reply ∷ []) ≡ next (place_from place replies) reply
place_push place [] reply = refl
place_push place (r ∷ replies) reply = place_push (next place r) replies reply
