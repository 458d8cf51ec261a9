-- A note that was laid out is the one that is asked for.
use Rattle.std.proofs.Common.{◌≡◌, ◌∙◌, ◌≢◌, inl, inr, ℕ, List, [], Some, None, ap, subst}
use Rattle.std.specs.Prelude.{IfOk, Result, Ok, Err}
use Rattle.orca_base.specs.declared.place.Place.{Place}
use Rattle.link_rules.specs.declared.link_error.LinkError.{LinkError}
use Rattle.type_rules.specs.declared.type_error.TypeError.{TypeError}
use Rattle.refusal_notes.specs.declared.cause.Cause.{Cause}
use Rattle.refusal_notes.specs.declared.cause.Cause.TheVariants as causes
use Rattle.refusal_notes.specs.declared.spot.Spot.{Spot}
use Rattle.refusal_notes.specs.Excerpts.{word_at}
use Rattle.refusal_notes.specs.Notes.{note_of}
use Rattle.program_notes.specs.Faults.{IsLinkNote, IsNameCause, IsSaid, IsSpot, IsTextNote, IsTypeNote, no_main}

-- a note of this spot and of this word is one of the word there
same_word : (note word : List ℕ) (cause : Cause) (spot : Spot) → word ≡ word_at spot → note ≡ note_of cause word (Some spot) → note ≡ note_of cause (word_at spot) (Some spot)
same_word note word cause spot is note_is = note_is ∙ ap (λ (w : List ℕ). note_of cause w (Some spot)) is

module _ {V E : Type 0} (bytes : V → List ℕ) (r : Result V E) where
  pub text_told : (file text : List ℕ) (at : Place) (said word : List ℕ) (cause : Cause) (spot : Spot) → IsSpot spot file text at → IsSaid said cause → word ≡ word_at spot → IfOk r (λ v. bytes v ≡ note_of cause word (Some spot))
      → IfOk r (λ v. IsTextNote file text at said (bytes v))
  text_told file text at said word cause spot is says word_is told = by r told
    where
      by : (r : Result V E) → IfOk r (λ v. bytes v ≡ note_of cause word (Some spot)) → IfOk r (λ v. IsTextNote file text at said (bytes v))
      by (Ok v) told = (spot, cause, is, says, same_word (bytes v) word cause spot word_is told)
      by (Err e) told = tt

  pub type_told : (error : TypeError) (text word : List ℕ) (spot : Spot) → IsSpot spot error.file text error.at → word ≡ word_at spot → IfOk r (λ v. bytes v ≡ note_of (causes.Typing error.rule) word (Some spot)) → IfOk r (λ v. IsTypeNote error text (bytes v))
  type_told error text word spot is word_is told = by r told
    where
      by : (r : Result V E) → IfOk r (λ v. bytes v ≡ note_of (causes.Typing error.rule) word (Some spot)) → IfOk r (λ v. IsTypeNote error text (bytes v))
      by (Ok v) told = (spot, is, same_word (bytes v) word (causes.Typing error.rule) spot word_is told)
      by (Err e) told = tt

  pub link_told : (error : LinkError) (text word name : List ℕ) (cause : Cause) (spot : Spot) → error.rule ≢ no_main → IsSpot spot error.file text error.at → IsNameCause error word cause → word ≡ word_at spot → name ≡ error.name
      → IfOk r (λ v. bytes v ≡ note_of cause name (Some spot)) → IfOk r (λ v. IsLinkNote error text (bytes v))
  link_told error text word name cause spot apart is because word_is name_is told = by r told
    where
      by : (r : Result V E) → IfOk r (λ v. bytes v ≡ note_of cause name (Some spot)) → IfOk r (λ v. IsLinkNote error text (bytes v))
      by (Ok v) told =
          inr (spot, cause, apart, is, subst (λ (w : List ℕ). IsNameCause error w cause) word_is because, told ∙ ap (λ (n : List ℕ). note_of cause n (Some spot)) name_is)
      by (Err e) told = tt

  pub main_told : (error : LinkError) (text : List ℕ) → error.rule ≡ no_main → IfOk r (λ v. bytes v ≡ note_of (causes.Linking no_main) [] None) → IfOk r (λ v. IsLinkNote error text (bytes v))
  main_told error text is told = by r told
    where
      by : (r : Result V E) → IfOk r (λ v. bytes v ≡ note_of (causes.Linking no_main) [] None) → IfOk r (λ v. IsLinkNote error text (bytes v))
      by (Ok v) told = inl (is, told)
      by (Err e) told = tt
