-- What a wire gave: the fates of the packets that it was asked about, in order.
use Rattle.std.specs.Prelude.{List, [], ◌∷◌}
use Rattle.net_rules.specs.declared.asked.Asked.{Asked}
use Rattle.net_rules.specs.declared.asked.Asked.TheVariants as asked
use Rattle.net_rules.specs.declared.fate.Fate.{Fate}

abbrev pub fates_of : List Asked → List Fate
fates_of [] = []
fates_of (asked.Packet question fate ∷ more) = fate ∷ fates_of more
fates_of (asked.Act number act ∷ more) = fates_of more
