-- Words that ask for no command, and words that ask for one.
use Rattle.line_capture.specs.Words.{IsCaptureCommand, take_form_word, give_form_word, ways_word}
use Rattle.line_capture.specs.declared.words.Command.{Command, TheVariants.Take, TheVariants.Give}
use Rattle.line_capture.specs.declared.words.Command.TheVariants.{Help, Version}
use Rattle.line_capture.specs.declared.words.{GiveForm.GiveForm, TakeForm.TakeForm, Ways.Ways}
use Rattle.line_stamps.specs.{RateWords.rate_word, declared.rate.Rate.Rate}
use Rattle.line_stamps.specs.declared.timing.Spacing.TheVariants.{ByTime, ByRecord}
use Rattle.std.proofs.Common.{◌≡◌, ℕ, zero, suc, ◌≤◌, ◌⊎◌, inl, inr, List, [], ◌∷◌, length, ap, refl, arith}
use Rattle.std.specs.Prelude.{codes}

abbrev word_at : ℕ → List (List ℕ) → List ℕ
word_at n [] = []
word_at zero (word ∷ words) = word
word_at (suc n) (word ∷ words) = word_at n words

-- The three words don't name a form to take, a rate and ways.
abbrev pub NoTake : List ℕ → List ℕ → List ℕ → Type 0
NoTake form rate ways = (f : TakeForm) (r : Rate) (w : Ways)
    → form ≡ take_form_word f → rate ≡ rate_word r → ways ≡ ways_word w → ⊥

-- ---- one word

pub help_one : (words : List (List ℕ)) → IsCaptureCommand words Help → length words ≡ 1
help_one words (inl is) = ap length is
help_one words (inr (inl is)) = ap length is
help_one words (inr (inr is)) = ap length is

pub version_one : (words : List (List ℕ)) → IsCaptureCommand words Version → length words ≡ 1
version_one words (inl is) = ap length is
version_one words (inr is) = ap length is

pub one_takes : (word : List ℕ) (command : Command) → IsCaptureCommand (word ∷ []) command
    → (command ≡ Help) ⊎ (command ≡ Version)
one_takes word Help is = inl refl
one_takes word Version is = inr refl
one_takes word (Take f r w ByTime) is = let n = ap length is in cc
one_takes word command is = let n = ap length is in cc

-- ---- three words

module _ (verb form rate : List ℕ) where
  pub three_verb : (verb ≡ codes "give" → ⊥) → (command : Command)
      → IsCaptureCommand (verb ∷ form ∷ rate ∷ []) command → ⊥
  three_verb other (Give f r) is = other (ap (word_at 0) is)
  three_verb other Help is = let h = help_one _ is in cc
  three_verb other Version is = let h = version_one _ is in cc
  three_verb other command is = cc

  pub three_form : ((f : GiveForm) → form ≡ give_form_word f → ⊥) → (command : Command)
      → IsCaptureCommand (verb ∷ form ∷ rate ∷ []) command → ⊥
  three_form none (Give f r) is = none f (ap (word_at 1) is)
  three_form none Help is = let h = help_one _ is in cc
  three_form none Version is = let h = version_one _ is in cc
  three_form none command is = cc

  pub three_rate : ((r : Rate) → rate ≡ rate_word r → ⊥) → (command : Command)
      → IsCaptureCommand (verb ∷ form ∷ rate ∷ []) command → ⊥
  three_rate none (Give f r) is = none r (ap (word_at 2) is)
  three_rate none Help is = let h = help_one _ is in cc
  three_rate none Version is = let h = version_one _ is in cc
  three_rate none command is = cc

  pub three_ask : (f : GiveForm) (r : Rate) → verb ≡ codes "give" → form ≡ give_form_word f
      → rate ≡ rate_word r → IsCaptureCommand (verb ∷ form ∷ rate ∷ []) (Give f r)
  three_ask f r v form_is rate_is = rw (v, form_is, rate_is) refl

-- ---- four words

module _ (verb form rate ways : List ℕ) where
  pub four_verb : (verb ≡ codes "take" → ⊥) → (command : Command)
      → IsCaptureCommand (verb ∷ form ∷ rate ∷ ways ∷ []) command → ⊥
  four_verb other (Take f r w s) is = other (ap (word_at 0) is)
  four_verb other (Give f r) is = cc
  four_verb other Help is = let h = help_one _ is in cc
  four_verb other Version is = let h = version_one _ is in cc

  pub no_four : NoTake form rate ways → (command : Command)
      → IsCaptureCommand (verb ∷ form ∷ rate ∷ ways ∷ []) command → ⊥
  no_four none (Take f r w s) is =
      none f r w (ap (word_at 1) is) (ap (word_at 2) is) (ap (word_at 3) is)
  no_four none (Give f r) is = cc
  no_four none Help is = let h = help_one _ is in cc
  no_four none Version is = let h = version_one _ is in cc

  pub four_ask : (f : TakeForm) (r : Rate) (w : Ways) → verb ≡ codes "take"
      → form ≡ take_form_word f → rate ≡ rate_word r → ways ≡ ways_word w
      → IsCaptureCommand (verb ∷ form ∷ rate ∷ ways ∷ []) (Take f r w ByTime)
  four_ask f r w v form_is rate_is ways_are = rw (v, form_is, rate_is, ways_are) refl

-- ---- five words

module _ (verb form rate ways last : List ℕ) where
  pub five_verb : (verb ≡ codes "take" → ⊥) → (command : Command)
      → IsCaptureCommand (verb ∷ form ∷ rate ∷ ways ∷ last ∷ []) command → ⊥
  five_verb other (Take f r w s) is = other (ap (word_at 0) is)
  five_verb other (Give f r) is = cc
  five_verb other Help is = let h = help_one _ is in cc
  five_verb other Version is = let h = version_one _ is in cc

  pub five_last : (last ≡ codes "frames" → ⊥) → (command : Command)
      → IsCaptureCommand (verb ∷ form ∷ rate ∷ ways ∷ last ∷ []) command → ⊥
  five_last other (Take f r w ByRecord) is = other (ap (word_at 4) is)
  five_last other Help is = let h = help_one _ is in cc
  five_last other Version is = let h = version_one _ is in cc
  five_last other command is = cc

  pub no_five : NoTake form rate ways → (command : Command)
      → IsCaptureCommand (verb ∷ form ∷ rate ∷ ways ∷ last ∷ []) command → ⊥
  no_five none (Take f r w s) is =
      none f r w (ap (word_at 1) is) (ap (word_at 2) is) (ap (word_at 3) is)
  no_five none (Give f r) is = cc
  no_five none Help is = let h = help_one _ is in cc
  no_five none Version is = let h = version_one _ is in cc

  pub five_ask : (f : TakeForm) (r : Rate) (w : Ways) → verb ≡ codes "take"
      → form ≡ take_form_word f → rate ≡ rate_word r → ways ≡ ways_word w
      → last ≡ codes "frames"
      → IsCaptureCommand (verb ∷ form ∷ rate ∷ ways ∷ last ∷ []) (Take f r w ByRecord)
  five_ask f r w v form_is rate_is ways_are last_is =
      rw (v, form_is, rate_is, ways_are, last_is) refl

-- ---- other numbers of words

pub least_words : (words : List (List ℕ)) (command : Command) → IsCaptureCommand words command
    → 1 ≤ length words
least_words words (Take f r w ByTime) is = let n = ap length is in omega arith
least_words words Help is = omega (arith, help_one words is)
least_words words Version is = omega (arith, version_one words is)
least_words words command is = let n = ap length is in omega arith

-- No command has two words.
pub not_two_words : (words : List (List ℕ)) (command : Command) → IsCaptureCommand words command
    → length words ≡ 2 → ⊥
not_two_words words (Take f r w ByTime) is two = let n = ap length is in omega arith
not_two_words words Help is two = omega (arith, help_one words is, two)
not_two_words words Version is two = omega (arith, version_one words is, two)
not_two_words words command is two = let n = ap length is in omega arith

pub most_words : (words : List (List ℕ)) (command : Command) → IsCaptureCommand words command
    → length words ≤ 5
most_words words (Take f r w ByTime) is = let n = ap length is in omega arith
most_words words Help is = omega (arith, help_one words is)
most_words words Version is = omega (arith, version_one words is)
most_words words command is = let n = ap length is in omega arith
