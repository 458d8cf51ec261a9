-- The processes that a member knows after one entry more.
use Rattle.std.proofs.Common.{◌≡◌, ◌+◌, ◌++◌, ◌∷◌, ℕ, zero, suc, List, [], length, take, slice_get, Some, refl, ap, ◌∙◌, arith}
use Rattle.value_core.specs.declared.message.Message.{Message}
use Rattle.world_rules.specs.Frame.{Frame}
use Rattle.world_rules.specs.Nodes as nodes
use Rattle.world_rules.specs.Nodes.{known}
use Rattle.world_rules.specs.Processes.{Begun, begun_by, first_process, home_in, processes_from, processes_in, with_entry}
use Rattle.group_rules.specs.Member.{Member}
use Rattle.node_rules.specs.Moments.{IsDue, born_of}

from_more : (f : Frame) (processes : List Begun) (n k : ℕ) (xs : List Message) (x : Message) → n + length xs ≡ k
    → processes_from f processes n (xs ++ x ∷ [])
    ≡ processes_from f processes n xs ++ begun_by f.settings.nodes (home_in (processes_from f processes n xs) x.process.0) (suc k) x.action
from_more f processes n k [] x is =
    ap (λ (place : ℕ). processes ++ begun_by f.settings.nodes (home_in processes x.process.0) (suc place) x.action) (let e : n ≡ k = omega (arith, is) in e)
from_more f processes n k (y ∷ ys) x is = from_more f (with_entry f processes (suc n) y) (suc n) k ys x (omega (arith, is))

take_more : {A : Type 0} (n : ℕ) (xs : List A) (x : A) → slice_get xs n ≡ Some x → take (suc n) xs ≡ take n xs ++ x ∷ []
take_more n [] x at = absurd (cc at)
take_more {A} zero (y ∷ ys) x at = (let e : y ≡ x = cc at in ap (λ (z : A). z ∷ []) e)
take_more {A} (suc n) (y ∷ ys) x at = ap (λ (l : List A). y ∷ l) (take_more n ys x at)

take_whole : {A : Type 0} (n : ℕ) (xs : List A) (x : A) → slice_get xs n ≡ Some x → length (take n xs) ≡ n
take_whole n [] x at = absurd (cc at)
take_whole zero (y ∷ ys) x at = refl
take_whole (suc n) (y ∷ ys) x at = ap suc (take_whole n ys x at)

-- they are those before, and the one that the entry forks
pub known_more : (f : Frame) (node after : nodes.Node) (x : Message) → IsDue node x → after.member ≡ node.member → after.copies.applied ≡ suc node.copies.applied
    → known f after ≡ known f node ++ born_of f node x
known_more f node after x due member applied =
    ap (λ (s : Member Message). processes_in f (take after.copies.applied s.log)) member
    ∙ ap (λ (n : ℕ). processes_in f (take n node.member.log)) applied
    ∙ ap (processes_in f) (take_more node.copies.applied node.member.log x due.there)
    ∙ from_more f (first_process f ∷ []) 0 node.copies.applied (take node.copies.applied node.member.log) x (let e = take_whole node.copies.applied node.member.log x due.there in omega (arith, e))
