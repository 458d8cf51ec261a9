use Rattle.std.proofs.Common.{subst, Option, ℕ}
use Rattle.history_text.specs.Sound.{AreFirst}
use Rattle.history_text.proofs.Histories.{none_read, only_read, whole_read}
use Rattle.history_text.proofs.reading.read_history.Goals as goal

pub returns-in-Some-clause-only : goal.returns-in-Some-clause-only
returns-in-Some-clause-only c =
    let lines = c.in_ok-first.first.lines.items in
    let first = subst (λ (bad : Option ℕ). AreFirst c.args.names.now c.args.text.now lines bad) c.in-Some.is c.in_ok-first.ensures.first in
    rw c.refuse.ensures (λ others are same. none_read c.args.names.now c.requires.tables c.args.text.now lines c.in-Some.line first others are same)

pub returns-in-Some-clause-refused : goal.returns-in-Some-clause-refused
returns-in-Some-clause-refused c =
    let lines = c.in_ok-first.first.lines.items in
    let first = subst (λ (bad : Option ℕ). AreFirst c.args.names.now c.args.text.now lines bad) c.in-Some.is c.in_ok-first.ensures.first in
    rw c.refuse.ensures (lines, first)

pub returns-in-None-clause-found : goal.returns-in-None-clause-found
returns-in-None-clause-found c =
    let lines = c.in_ok-first.first.lines.items in
    let first = subst (λ (bad : Option ℕ). AreFirst c.args.names.now c.args.text.now lines bad) c.in-None.is c.in_ok-first.ensures.first in
    whole_read c.args.names.now c.args.text.now lines first

pub returns-in-None-clause-only : goal.returns-in-None-clause-only
returns-in-None-clause-only c =
    let lines = c.in_ok-first.first.lines.items in
    let first = subst (λ (bad : Option ℕ). AreFirst c.args.names.now c.args.text.now lines bad) c.in-None.is c.in_ok-first.ensures.first in
    λ others are same. only_read c.args.names.now c.requires.tables c.args.text.now lines first others are same
