-- Who sends a letter.
use Rattle.std.specs.Prelude.{◌≡◌, ℕ, All}
use Rattle.world_rules.specs.Frame.{Frame}
use Rattle.world_rules.specs.Mail.{posted}
use Rattle.world_rules.specs.Nodes.{mails_of}
use Rattle.world_rules.specs.Worlds.{World}
use Rattle.node_rules.specs.Starts.{Start, part}

-- each letter that member m sends in its part is from m
abbrev pub SendsOwn : Frame → World → ℕ → Start → Type 0
SendsOwn f w m start = All (λ mail. (posted f.settings.nodes mail).from ≡ m) (mails_of (part f m start (w.nodes m)).deeds)
