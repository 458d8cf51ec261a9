use Rattle.std.proofs.Common.{◌≡◌, refl, ap, ◌∙◌, inl, arith}
use Rattle.orca_lexer.specs.Tokens.{place_in}
use Rattle.orca_lexer.proofs.Once.{is_only, refusal_once}
use Rattle.orca_lexer.proofs.lexer.tokens.Goals as goal

pub returns-in-None-clause-only : goal.returns-in-None-clause-only
returns-in-None-clause-only c = (is_only (λ v. v.items) c.args.text.now c.requires c.lexed.result c.lexed.ensures).only

pub returns-in-None-clause-none : goal.returns-in-None-clause-none
returns-in-None-clause-none c = (is_only (λ v. v.items) c.args.text.now c.requires c.lexed.result c.lexed.ensures).none

pub returns-in-None-clause-first : goal.returns-in-None-clause-first
returns-in-None-clause-first c = (is_only (λ v. v.items) c.args.text.now c.requires c.lexed.result c.lexed.ensures).first

pub returns-in-Some-clause-first : goal.returns-in-Some-clause-first
returns-in-Some-clause-first c =
    let offset : c.past_all.result.offset ≡ c.in-Some.offset = let is = c.past_all.ensures.offset in let none = c.opening.ensures.offset in omega arith in
    let place = c.past_all.ensures.at.place ∙ ap (place_in c.args.text.now) offset in
    λ other p. refusal_once c.args.text.now other _ p (inl (record { none = c.in-Some.ensures.none; offset = c.in-Some.offset; first = c.in-Some.ensures.first; rule = refl; place = place }))

pub returns-in-None-clause-sound : goal.returns-in-None-clause-sound
returns-in-None-clause-sound c = (is_only (λ v. v.items) c.args.text.now c.requires c.lexed.result c.lexed.ensures).sound

pub returns-in-None-clause-room : goal.returns-in-None-clause-room
returns-in-None-clause-room c = (is_only (λ v. v.items) c.args.text.now c.requires c.lexed.result c.lexed.ensures).room

pub returns-in-None-clause-rise : goal.returns-in-None-clause-rise
returns-in-None-clause-rise c = (is_only (λ v. v.items) c.args.text.now c.requires c.lexed.result c.lexed.ensures).rise

pub returns-in-None-clause-within : goal.returns-in-None-clause-within
returns-in-None-clause-within c = (is_only (λ v. v.items) c.args.text.now c.requires c.lexed.result c.lexed.ensures).within

pub returns-in-None-clause-places : goal.returns-in-None-clause-places
returns-in-None-clause-places c = (is_only (λ v. v.items) c.args.text.now c.requires c.lexed.result c.lexed.ensures).places
