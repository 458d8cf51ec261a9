-- Which line decides: by what it counts.
use Rattle.std.proofs.Common.{◌≡◌, ℕ, ◌+◌, ◌<◌, ◌≤◌, Bool, true, false, cond, List, [], ◌∷◌, length, ap, refl, sym, ◌∙◌, arith}
use Rattle.std.specs.Prelude.{Option, Some, None, ◌||◌, ◌&&◌, ◌==◌, min}
use Rattle.std.proofs.lemmas.Bool.Decides.{nat_tests}
use Rattle.std.proofs.lemmas.List.Sums.{count_by-le-length}
use Rattle.group_packets.specs.declared.packet.PacketKind.{PacketKind}
use Rattle.net_rules.specs.declared.asked.Asked.{Asked}
use Rattle.net_rules.specs.declared.asked.Asked.TheVariants.{Packet, Act as Did}
use Rattle.net_rules.specs.declared.line.Kinds.{Kinds}
use Rattle.net_rules.specs.declared.line.Kinds.TheVariants.{Any, Only}
use Rattle.net_rules.specs.declared.line.Which.{Which}
use Rattle.net_rules.specs.declared.line.Which.TheVariants.{All, Nth}
use Rattle.net_rules.specs.declared.line.ScriptLine.{ScriptLine}
use Rattle.net_rules.specs.declared.line.ScriptLine.TheVariants.{Fate, Act, Seed}
use Rattle.net_rules.specs.Asked.{asks_about, count, kind_number}
use Rattle.net_rules.specs.Script.{decides, is_one}
use Rattle.wires.specs.Index.{counts, says_fate, says_of_all, says_of_one}
use Rattle.wires.proofs.Told.{count_more}

and_true : (b : Bool) → (b && true) ≡ (b || false)
and_true true = refl
and_true false = refl

-- a line says the fate of all, or of this one
pub says_split : (wanted : Option ℕ) (number : ℕ) (line : ScriptLine) → says_fate wanted number line ≡ (says_of_all wanted line || says_of_one wanted number line)
says_split wanted number (Fate kinds All fate) = and_true (counts wanted kinds)
says_split wanted number (Fate kinds (Nth n) fate) = refl
says_split wanted number (Act kinds n act) = refl
says_split wanted number (Seed seed percent) = refl

-- kinds with one number are counted alike
pub count_same : (one other : PacketKind) (asked : List Asked) → kind_number one ≡ kind_number other → count (Only one) asked ≡ count (Only other) asked
count_same one other [] e = refl
count_same one other (Packet question fate ∷ asked) e =
    count_more (Only one) (Packet question fate) asked
    ∙ ap (λ n. cond (n == kind_number question.kind) 1 0 + count (Only one) asked) e
    ∙ ap (λ n. cond (kind_number other == kind_number question.kind) 1 0 + n) (count_same one other asked e)
    ∙ sym (count_more (Only other) (Packet question fate) asked)
count_same one other (Did number act ∷ asked) e =
    count_more (Only one) (Did number act) asked ∙ ap (λ n. 0 + n) (count_same one other asked e) ∙ sym (count_more (Only other) (Did number act) asked)

only-sort : (asked : List Asked) (one kind : PacketKind) (which : Which) (b : Bool) → (kind_number one == kind_number kind) ≡ b →
    (b && is_one which (count (Only one) asked + 1)) ≡ ((b && is_one which (count (Only kind) asked + 1)) || false)
only-sort asked one kind which true e =
    let same : kind_number one ≡ kind_number kind = grind (arith, nat_tests) in
    ap (λ n. is_one which (n + 1)) (count_same one kind asked same) ∙ or_false (is_one which (count (Only kind) asked + 1))
  where
    or_false : (b : Bool) → b ≡ (b || false)
    or_false true = refl
    or_false false = refl
only-sort asked one kind which false e = refl

-- a line decides as one of the packet's kind, or as one of any
pub decides_split : (asked : List Asked) (kind : PacketKind) (line : ScriptLine) →
    decides asked kind line ≡ (says_fate (Some (kind_number kind)) (count (Only kind) asked + 1) line || says_fate None (count Any asked + 1) line)
decides_split asked kind (Fate Any which fate) = refl
decides_split asked kind (Fate (Only one) which fate) = only-sort asked one kind which (kind_number one == kind_number kind) refl
decides_split asked kind (Act kinds number act) = refl
decides_split asked kind (Seed seed percent) = refl

-- no more were counted than asked about
pub count-le : (kinds : Kinds) (asked : List Asked) → count kinds asked ≤ length asked
count-le kinds asked = count_by-le-length (asks_about kinds) asked

-- the next number fits
pub next_number : (kinds : Kinds) (asked : List Asked) (counted next : ℕ) → length asked < 18446744073709551615 → counted ≡ count kinds asked →
    next ≡ min (counted + 1) 18446744073709551615 → next ≡ count kinds asked + 1
next_number kinds asked counted next few is e = let le = count-le kinds asked in omega arith
