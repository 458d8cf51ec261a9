use Rattle.std.proofs.Common.{◌≡◌, ◌<◌, ◌^◌, ◌∙◌, inr, ℕ, List, [], ◌∷◌, length, arith, ap, refl, rules, subst, sym, tests}
use Rattle.follower_run.proofs.Coming.{few_come, lost_next, may_come, may_entries, nothing_next, read_left, read_next}
use Rattle.follower_run.proofs.Loading.{heavy, load_first, some_weight}
use Rattle.follower_run.proofs.Results.{err_as, ok_as}
use Rattle.follower_run.proofs.Standing.{first_comes}
use Rattle.world_rules.specs.Worlds.{agreed}
use Rattle.value_core.specs.Meaning.{Performs}
use Rattle.group_join.specs.Following.{MayReceive}
use Rattle.follower_run.specs.Posts.{weight}
use Rattle.follower_run.proofs.rounds.FollowerRounds.next.Goals as goal

pub read_join-requires : goal.read_join-requires
read_join-requires g c =
    let f = g.P.OneRun.run.frame in
    let s = c.args.self.now in
    let is : s.coming.items ≡ c.in-Some.flight ∷ c.pop_front.new.self.items = search rules in
    let few = few_come f c.args.world.now.steps (g.W.Wire.told c.args.wire.now) s (record s { coming = c.pop_front.new.self }) c.in-Some.flight
    (λ base v a. first_comes f.settings.nodes base (g.W.Wire.told c.args.wire.now) s (record s { coming = c.pop_front.new.self }) v c.in-Some.flight c.pop_front.new.self.items a is refl refl refl refl refl refl refl) c.requires.may in
    subst (λ (l : List ℕ). length l < 2 ^ 32) (sym c.as_slice.ensures) few

pub returns-in_default-clause-next : goal.returns-in_default-clause-next
returns-in_default-clause-next g c =
    let s = c.args.self.now in
    let none : s.coming.items ≡ [] = search (rules, tests) in
    let still : c.pop_front.new.self.items ≡ [] = search (rules, tests) in
    nothing_next g.P.OneRun.run.frame c.args.world.now.steps (g.W.Wire.told c.args.wire.now) s (record s { coming = c.pop_front.new.self }) none still refl refl refl refl refl refl

pub arrive-requires-clause-entries : goal.arrive-requires-clause-entries
arrive-requires-clause-entries g c = λ w led.
    let f = g.P.OneRun.run.frame in
    let m = c.args.machine.now in
    let s = c.args.self.now in
    let told = g.W.Wire.told c.args.wire.now in
    let is : s.coming.items ≡ c.in-Some.flight ∷ c.pop_front.new.self.items = search rules in
    let computes = sym (g.met.P.OneRun.computes_run m) in
    may_entries f c.args.world.now.steps c.spelling_law.ensures.prefix (g.P.Performer.performs m) (g.P.Processor.computes m) (g.P.Performer.fits_args m) c.followers_may_receive.ensures.within
    (sym (g.met.P.OneRun.performs_run m)) computes c.requires.settings c.requires.replicated (c.replay_law.ensures.once f computes).replays told s (record s { coming = c.pop_front.new.self }) c.in-Some.flight c.in-Ok.packet
    (λ base v a. first_comes f.settings.nodes base told s (record s { coming = c.pop_front.new.self }) v c.in-Some.flight c.pop_front.new.self.items a is refl refl refl refl refl refl refl)
    c.in-Ok.ensures.found.0 (sym c.as_slice.ensures ∙ c.in-Ok.ensures.found.1) c.requires.may w led

pub arrive-requires-clause-may : goal.arrive-requires-clause-may
arrive-requires-clause-may g c =
    let f = g.P.OneRun.run.frame in
    let m = c.args.machine.now in
    let s = c.args.self.now in
    let told = g.W.Wire.told c.args.wire.now in
    let is : s.coming.items ≡ c.in-Some.flight ∷ c.pop_front.new.self.items = search rules in
    let may = may_come f c.args.world.now.steps c.spelling_law.ensures.prefix (g.P.Performer.performs m) (g.P.Processor.computes m) (g.P.Performer.fits_args m) c.followers_may_receive.ensures.within
    (sym (g.met.P.OneRun.performs_run m)) (sym (g.met.P.OneRun.computes_run m)) c.requires.settings c.requires.replicated told s (record s { coming = c.pop_front.new.self }) c.in-Some.flight c.in-Ok.packet
    (λ base v a. first_comes f.settings.nodes base told s (record s { coming = c.pop_front.new.self }) v c.in-Some.flight c.pop_front.new.self.items a is refl refl refl refl refl refl refl)
    c.in-Ok.ensures.found.0 (sym c.as_slice.ensures ∙ c.in-Ok.ensures.found.1) c.requires.may in
    (agreed f c.requires.may.world, subst (λ (p : Performs). MayReceive (g.P.Performer.fits_args m) p (agreed f c.requires.may.world) s.follower c.in-Ok.packet) (sym (g.met.P.OneRun.performs_run m)) may)

pub returns-in-Ok-clause-next : goal.returns-in-Ok-clause-next
returns-in-Ok-clause-next g c =
    let f = g.P.OneRun.run.frame in
    let s = c.args.self.now in
    let told = g.W.Wire.told c.args.wire.now in
    let is : s.coming.items ≡ c.in-Some.flight ∷ c.pop_front.new.self.items = search rules in
    ok_as c.arrive.result
    (λ goes. read_next f c.args.world.now.steps c.spelling_law.ensures.prefix told (g.W.Wire.told c.arrive.new.wire) s (record s { coming = c.pop_front.new.self }) c.arrive.new.self c.in-Some.flight c.in-Ok.packet
    (λ base v a. first_comes f.settings.nodes base told s (record s { coming = c.pop_front.new.self }) v c.in-Some.flight c.pop_front.new.self.items a is refl refl refl refl refl refl refl)
    c.in-Ok.ensures.found.0 (sym c.as_slice.ensures ∙ c.in-Ok.ensures.found.1) goes)
    c.arrive.ensures.next

pub returns-in-Ok-clause-left : goal.returns-in-Ok-clause-left
returns-in-Ok-clause-left g c =
    let f = g.P.OneRun.run.frame in
    let s = c.args.self.now in
    let told = g.W.Wire.told c.args.wire.now in
    let is : s.coming.items ≡ c.in-Some.flight ∷ c.pop_front.new.self.items = search rules in
    err_as c.arrive.result
    (λ goes. read_left f c.args.world.now.steps c.spelling_law.ensures.prefix told (g.W.Wire.told c.arrive.new.wire) s (record s { coming = c.pop_front.new.self }) c.arrive.new.self c.in-Some.flight c.in-Ok.packet
    (λ base v a. first_comes f.settings.nodes base told s (record s { coming = c.pop_front.new.self }) v c.in-Some.flight c.pop_front.new.self.items a is refl refl refl refl refl refl refl)
    c.in-Ok.ensures.found.0 (sym c.as_slice.ensures ∙ c.in-Ok.ensures.found.1) goes)
    c.arrive.ensures.left

pub returns-in-Ok-clause-load : goal.returns-in-Ok-clause-load
returns-in-Ok-clause-load g c =
    let is : c.args.self.now.coming.items ≡ c.in-Some.flight ∷ c.pop_front.new.self.items = search rules in
    let bytes = sym c.as_slice.ensures ∙ c.in-Ok.ensures.found.1 in
    ok_as c.arrive.result
    (λ few. inr (omega (arith, few, heavy c.in-Ok.packet, ap weight bytes, load_first c.args.self.now.coming.items c.pop_front.new.self.items c.in-Some.flight is)))
    c.arrive.ensures.load

pub returns-in-Err-Because-clause-next : goal.returns-in-Err-Because-clause-next
returns-in-Err-Because-clause-next g c =
    let f = g.P.OneRun.run.frame in
    let s = c.args.self.now in
    let told = g.W.Wire.told c.args.wire.now in
    let is : s.coming.items ≡ c.in-Some.flight ∷ c.pop_front.new.self.items = search rules in
    lost_next f c.args.world.now.steps told s (record s { coming = c.pop_front.new.self }) c.in-Some.flight
    (λ base v a. first_comes f.settings.nodes base told s (record s { coming = c.pop_front.new.self }) v c.in-Some.flight c.pop_front.new.self.items a is refl refl refl refl refl refl refl)
    (λ packet join bytes. (rw c.in-Err-Because.field-0-is at c.in-Err-Because.ensures.only) packet join (c.as_slice.ensures ∙ bytes))

pub returns-in-Err-Because-clause-load : goal.returns-in-Err-Because-clause-load
returns-in-Err-Because-clause-load g c =
    let is : c.args.self.now.coming.items ≡ c.in-Some.flight ∷ c.pop_front.new.self.items = search rules in
    inr (omega (arith, some_weight c.in-Some.flight.packet, load_first c.args.self.now.coming.items c.pop_front.new.self.items c.in-Some.flight is))
