-- The runs with a crash, step by step, and their three idle stretches.
use Rattle.std.proofs.Common.{◌≡◌, ◌==◌, ◌&&◌, ◌++◌, ℕ, zero, suc, Bool, true, List, [], ◌∷◌, refl, arith}
use Rattle.std.proofs.lemmas.Bool.{and_parts, eqb-true}
use Rattle.value_core.specs.Datum as datum
use Rattle.value_core.specs.declared.action.Reply.TheVariants as answer
use Rattle.value_core.specs.declared.message.Message.{Message}
use Rattle.group_rules.specs.Member.{Member}
use Rattle.world_rules.proofs.Scenes.{checks_in, first, leads, second}
use Rattle.world_rules.specs.LostEntry.{handed}
use Rattle.world_rules.specs.Played.Stage.{Computing}
use Rattle.world_rules.specs.Programs.{assign, fork_on, make, runner}
use Rattle.world_rules.specs.Scenes.{Scene, Unfolds, steps_of, world_after}
use Rattle.world_rules.specs.Steps.{after_step}
use Rattle.world_rules.specs.Worlds.{World, opening_world}
use Rattle.world_idle.specs.Stretches.{AllInside, AllSame, LeadsIdle, SameNumbers}
use Rattle.world_idle.specs.Worked.{GrowingLogs, HeldTicks, SixTicks, accepted, accepts, acker_scenes, ackerless, coordinated, crash_scenes, crashed, crashing, growing, grown, held_end, held_ticks, holding, holding_tick, let_go, rounds, seventh, waited}

-- ---- the same numbers, as a test

abbrev same_numbers : Member Message → Member Message → Bool
same_numbers s t = (t.promised == s.promised) && ((t.installed == s.installed) && ((t.accepted == s.accepted) && (t.applied == s.applied)))

same_numbers_is : (s t : Member Message) → same_numbers s t ≡ true → SameNumbers s t
same_numbers_is s t e =
    let a = and_parts (t.promised == s.promised) ((t.installed == s.installed) && ((t.accepted == s.accepted) && (t.applied == s.applied))) e in
    let b = and_parts (t.installed == s.installed) ((t.accepted == s.accepted) && (t.applied == s.applied)) a.1 in
    let c = and_parts (t.accepted == s.accepted) (t.applied == s.applied) b.1 in
    record {
      promised = eqb-true t.promised s.promised a.0;
      installed = eqb-true t.installed s.installed b.0;
      accepted = eqb-true t.accepted s.accepted c.0;
      applied = eqb-true t.applied s.applied c.1;
    }

-- of all three members
abbrev same_in : World → World → ℕ → Bool
same_in w v m = same_numbers (w.nodes m).member (v.nodes m).member

abbrev all_same : World → World → Bool
all_same w v = same_in w v 0 && (same_in w v 1 && same_in w v 2)

all_same_is : (w v : World) → all_same w v ≡ true → AllSame crashing w v
all_same_is w v e zero low = same_numbers_is (w.nodes 0).member (v.nodes 0).member (and_parts (same_in w v 0) (same_in w v 1 && same_in w v 2) e).0
all_same_is w v e (suc zero) low =
    let k = and_parts (same_in w v 0) (same_in w v 1 && same_in w v 2) e in
    same_numbers_is (w.nodes 1).member (v.nodes 1).member (and_parts (same_in w v 1) (same_in w v 2) k.1).0
all_same_is w v e (suc (suc zero)) low =
    let k = and_parts (same_in w v 0) (same_in w v 1 && same_in w v 2) e in
    same_numbers_is (w.nodes 2).member (v.nodes 2).member (and_parts (same_in w v 1) (same_in w v 2) k.1).1
all_same_is w v e (suc (suc (suc m))) low = absurd (omega (arith, low))

-- at each of these steps
abbrev idles : World → List Scene → Bool
idles w [] = true
idles w (scene ∷ scenes) =
    all_same w (after_step crashing w scene.step scene.given) && idles (after_step crashing w scene.step scene.given) scenes

leads_idle : (w : World) (scenes : List Scene) → Unfolds crashing w scenes → idles w scenes ≡ true →
    LeadsIdle crashing w (steps_of scenes) (world_after crashing w scenes)
leads_idle w [] h e = refl
leads_idle w (scene ∷ scenes) h e =
    let u : World = after_step crashing w scene.step scene.given in
    let k = and_parts (all_same w u) (idles u scenes) e in (
      u,
      record { given = scene.given; going = h.0; possible = h.1; fates = h.2; after = refl },
      all_same_is w u k.0,
      leads_idle u scenes h.3 k.1,
    )

-- ---- the steps are possible

to_crash : Unfolds crashing (opening_world crashing) crash_scenes
to_crash = (
  refl,
  checks_in crashing _ first 0 (runner 0 datum.none [] 0 Computing) make refl refl refl (omega arith) (omega arith) refl (omega arith) refl refl,
  refl,
  (
    refl,
    refl,
    refl,
    (
      refl,
      refl,
      refl,
      (
        refl,
        refl,
        refl,
        (
          refl,
          refl,
          refl,
          (
            refl,
            refl,
            refl,
            (
              refl,
              refl,
              refl,
              (
                refl,
                checks_in crashing _ first 1 (runner 0 datum.none (answer.Done ∷ []) 1 Computing) (fork_on 2) refl refl refl (omega arith) (omega arith) refl (omega arith) refl refl,
                refl,
                (
                  refl,
                  refl,
                  refl,
                  (
                    refl,
                    refl,
                    refl,
                    (
                      refl,
                      refl,
                      refl,
                      (
                        refl,
                        refl,
                        refl,
                        (
                          refl,
                          refl,
                          refl,
                          (
                            refl,
                            refl,
                            refl,
                            (
                              refl,
                              checks_in crashing _ second 2 (runner 1 handed [] 2 Computing) (assign 6) refl refl refl (omega arith) (omega arith) refl (omega arith) refl refl,
                              refl,
                              (
                                refl,
                                refl,
                                refl,
                                (
                                  refl,
                                  refl,
                                  refl,
                                  (
                                    refl,
                                    refl,
                                    refl,
                                    (
                                      refl,
                                      refl,
                                      refl,
                                      (
                                        refl,
                                        refl,
                                        refl,
                                        (
                                          refl,
                                          refl,
                                          refl,
                                          tt,
                                        ),
                                      ),
                                    ),
                                  ),
                                ),
                              ),
                            ),
                          ),
                        ),
                      ),
                    ),
                  ),
                ),
              ),
            ),
          ),
        ),
      ),
    ),
  ),
)

six_rounds : Unfolds crashing crashed (rounds 6 17)
six_rounds = (
  refl,
  refl,
  refl,
  (
    refl,
    refl,
    refl,
    (
      refl,
      refl,
      refl,
      (
        refl,
        refl,
        refl,
        (
          refl,
          refl,
          refl,
          (
            refl,
            refl,
            refl,
            (
              refl,
              refl,
              refl,
              (
                refl,
                refl,
                refl,
                (
                  refl,
                  refl,
                  refl,
                  (
                    refl,
                    refl,
                    refl,
                    (
                      refl,
                      refl,
                      refl,
                      (
                        refl,
                        refl,
                        refl,
                        (
                          refl,
                          refl,
                          refl,
                          (
                            refl,
                            refl,
                            refl,
                            (
                              refl,
                              refl,
                              refl,
                              (
                                refl,
                                refl,
                                refl,
                                (
                                  refl,
                                  refl,
                                  refl,
                                  (
                                    refl,
                                    refl,
                                    refl,
                                    tt,
                                  ),
                                ),
                              ),
                            ),
                          ),
                        ),
                      ),
                    ),
                  ),
                ),
              ),
            ),
          ),
        ),
      ),
    ),
  ),
)

last_tick : Unfolds crashing waited seventh
last_tick = (refl, refl, refl, tt)

to_hold : Unfolds crashing (opening_world crashing) (crash_scenes ++ holding_tick)
to_hold = (
  refl,
  checks_in crashing _ first 0 (runner 0 datum.none [] 0 Computing) make refl refl refl (omega arith) (omega arith) refl (omega arith) refl refl,
  refl,
  (
    refl,
    refl,
    refl,
    (
      refl,
      refl,
      refl,
      (
        refl,
        refl,
        refl,
        (
          refl,
          refl,
          refl,
          (
            refl,
            refl,
            refl,
            (
              refl,
              refl,
              refl,
              (
                refl,
                checks_in crashing _ first 1 (runner 0 datum.none (answer.Done ∷ []) 1 Computing) (fork_on 2) refl refl refl (omega arith) (omega arith) refl (omega arith) refl refl,
                refl,
                (
                  refl,
                  refl,
                  refl,
                  (
                    refl,
                    refl,
                    refl,
                    (
                      refl,
                      refl,
                      refl,
                      (
                        refl,
                        refl,
                        refl,
                        (
                          refl,
                          refl,
                          refl,
                          (
                            refl,
                            refl,
                            refl,
                            (
                              refl,
                              checks_in crashing _ second 2 (runner 1 handed [] 2 Computing) (assign 6) refl refl refl (omega arith) (omega arith) refl (omega arith) refl refl,
                              refl,
                              (
                                refl,
                                refl,
                                refl,
                                (
                                  refl,
                                  refl,
                                  refl,
                                  (
                                    refl,
                                    refl,
                                    refl,
                                    (
                                      refl,
                                      refl,
                                      refl,
                                      (
                                        refl,
                                        refl,
                                        refl,
                                        (
                                          refl,
                                          refl,
                                          refl,
                                          (
                                            refl,
                                            refl,
                                            refl,
                                            tt,
                                          ),
                                        ),
                                      ),
                                    ),
                                  ),
                                ),
                              ),
                            ),
                          ),
                        ),
                      ),
                    ),
                  ),
                ),
              ),
            ),
          ),
        ),
      ),
    ),
  ),
)

to_let_go : Unfolds crashing holding held_ticks
to_let_go = (
  refl,
  refl,
  refl,
  (
    refl,
    refl,
    refl,
    (
      refl,
      refl,
      refl,
      (
        refl,
        refl,
        refl,
        (
          refl,
          refl,
          refl,
          (
            refl,
            refl,
            refl,
            (
              refl,
              refl,
              refl,
              (
                refl,
                refl,
                refl,
                tt,
              ),
            ),
          ),
        ),
      ),
    ),
  ),
)

three_rounds : Unfolds crashing let_go (rounds 3 23)
three_rounds = (
  refl,
  refl,
  refl,
  (
    refl,
    refl,
    refl,
    (
      refl,
      refl,
      refl,
      (
        refl,
        refl,
        refl,
        (
          refl,
          refl,
          refl,
          (
            refl,
            refl,
            refl,
            (
              refl,
              refl,
              refl,
              (
                refl,
                refl,
                refl,
                (
                  refl,
                  refl,
                  refl,
                  tt,
                ),
              ),
            ),
          ),
        ),
      ),
    ),
  ),
)

to_loss : Unfolds crashing (opening_world crashing) acker_scenes
to_loss = (
  refl,
  checks_in crashing _ first 0 (runner 0 datum.none [] 0 Computing) make refl refl refl (omega arith) (omega arith) refl (omega arith) refl refl,
  refl,
  (
    refl,
    refl,
    refl,
    (
      refl,
      refl,
      refl,
      (
        refl,
        refl,
        refl,
        (
          refl,
          refl,
          refl,
          (
            refl,
            refl,
            refl,
            tt,
          ),
        ),
      ),
    ),
  ),
)

to_accepts : Unfolds crashing ackerless accepts
to_accepts = (
  refl,
  refl,
  refl,
  (
    refl,
    refl,
    refl,
    tt,
  ),
)

to_growth : Unfolds crashing accepted growing
to_growth = (
  refl,
  checks_in crashing _ first 1 (runner 0 datum.none (answer.Done ∷ []) 1 Computing) (fork_on 2) refl refl refl (omega arith) (omega arith) refl (omega arith) refl refl,
  refl,
  (
    refl,
    refl,
    refl,
    (
      refl,
      refl,
      refl,
      (
        refl,
        refl,
        refl,
        (
          refl,
          refl,
          refl,
          (
            refl,
            refl,
            refl,
            (
              refl,
              refl,
              refl,
              (
                refl,
                refl,
                refl,
                (
                  refl,
                  refl,
                  refl,
                  tt,
                ),
              ),
            ),
          ),
        ),
      ),
    ),
  ),
)

-- ---- the stretches

six_inside : AllInside crashing coordinated
six_inside zero low = refl
six_inside (suc zero) low = refl
six_inside (suc (suc zero)) low = refl
six_inside (suc (suc (suc m))) low = absurd (omega (arith, low))

held_inside : AllInside crashing held_end
held_inside zero low = refl
held_inside (suc zero) low = refl
held_inside (suc (suc zero)) low = refl
held_inside (suc (suc (suc m))) low = absurd (omega (arith, low))

-- member 1 promises a new incarnation at the seventh tick
promises : AllSame crashing waited coordinated → ⊥
promises same =
    let e : 4 ≡ 0 = (same 1 (omega arith)).promised in
    absurd (omega (arith, e))

pub six_ticks : SixTicks
six_ticks = record {
  none = refl;
  lost = refl;
  fault = refl;
  stretch = record {
    faulty = steps_of crash_scenes;
    waits = [];
    rest = steps_of seventh;
    cut = refl;
    last = refl;
    fault = crashed;
    begin = crashed;
    end = waited;
    to_fault = leads crashing (opening_world crashing) crash_scenes to_crash;
    to_begin = refl;
    idle = leads_idle crashed (rounds 6 17) six_rounds refl;
    to_end = leads crashing waited seventh last_tick;
    held = omega arith;
  };
  ticks = refl;
  crashes = omega arith;
  inside = six_inside;
  last = promises;
}

pub held_packets : HeldTicks
held_packets = record {
  fault = refl;
  held = refl;
  waits = refl;
  stretch = record {
    faulty = steps_of (crash_scenes ++ holding_tick);
    waits = steps_of held_ticks;
    rest = [];
    cut = refl;
    last = refl;
    fault = holding;
    begin = let_go;
    end = held_end;
    to_fault = leads crashing (opening_world crashing) (crash_scenes ++ holding_tick) to_hold;
    to_begin = leads crashing holding held_ticks to_let_go;
    idle = leads_idle let_go (rounds 3 23) three_rounds refl;
    to_end = refl;
    held = omega arith;
  };
  ticks = refl;
  crashes = omega arith;
  inside = held_inside;
}

pub growing_logs : GrowingLogs
growing_logs = record {
  fault = refl;
  stretch = record {
    faulty = steps_of acker_scenes;
    waits = steps_of accepts;
    rest = [];
    cut = refl;
    last = refl;
    fault = ackerless;
    begin = accepted;
    end = grown;
    to_fault = leads crashing (opening_world crashing) acker_scenes to_loss;
    to_begin = leads crashing ackerless accepts to_accepts;
    idle = leads_idle accepted growing to_growth refl;
    to_end = refl;
    held = omega arith;
  };
  ticks = refl;
  before = refl;
  behind = refl;
}
