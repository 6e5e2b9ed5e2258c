-- The bursts of the transmitter and the receiver are counted by the fates that their notes tell.
use Rattle.std.specs.Prelude.{◌≡◌, ℕ, ◌+◌, Bool, true, false, List, [], ◌∷◌, length}
use Rattle.std.specs.Prelude.{Option, Some, None, is_some}
use Rattle.std.specs.List.{filter, filter_map, cons_option}
use Rattle.std.proofs.Common.{◌∙◌, refl, ap, sym, arith, cond}
use Rattle.frame_ending.specs.Walk.{Noted}
use Rattle.line_rules.specs.declared.line_rules.LineRules.{Ghosts as LineRules}
use Rattle.link_format.specs.declared.tag.Mac.{Ghosts as Mac}
use Rattle.link_box.specs.Walking.{full_notes}
use Rattle.seal_transmitter.specs.Boxed.{seal_walking}
use Rattle.link_box.specs.Sealing.{FullNote as SealFull, sealed_in}
use Rattle.link_box.specs.Sealing.FullNote.{sealed_note, unsealed_note}
use Rattle.seal_transmitter.specs.Answers.{brief_seal_note}
use Rattle.link_box.specs.Checking.{FullNote as CheckFull, passed_in}
use Rattle.link_box.specs.Checking.{brief_note as check_brief}
use Rattle.link_box.specs.Checking.FullNote.{passed_note, refused_note, dropped_note}
use Rattle.check_receiver.specs.Boxed.{check_walking}
use Rattle.trial_session.specs.Boxes.{trial_setup, fate_sealed, fate_checked, trial_sealing, trial_checking}
use Rattle.trial_session.specs.Boxes.{is_unsealed}
use Rattle.trial_session.specs.Boxes.{is_refused as notes_refused, is_dropped as notes_dropped}
use Rattle.trial_session.specs.Fates.{CountsFates, tally, is_through, is_refused, is_dropped}

-- ---- notes that are counted

pub length-cond : {X : Type 0} (b : Bool) (x : X) (xs : List X)
    → length (cond b (x ∷ xs) xs) ≡ cond b 1 0 + length xs
length-cond true x xs = omega arith
length-cond false x xs = omega arith

length-cons : {X : Type 0} (o : Option X) (xs : List X)
    → length (cons_option o xs) ≡ cond (is_some o) 1 0 + length xs
length-cons None xs = omega arith
length-cons (Some x) xs = omega arith

-- there are as many frames among notes as notes with a frame
length-filter_map : {N F : Type 0} (frame_in : N → Option F) (p : N → Bool)
    → ((note : N) → is_some (frame_in note) ≡ p note) → (notes : List (Noted N))
    → length (filter_map (λ n. frame_in n.note) notes) ≡ tally p notes
length-filter_map frame_in p agree [] = refl
length-filter_map frame_in p agree (n ∷ notes) =
    length-cons (frame_in n.note) (filter_map (λ m. frame_in m.note) notes)
    ∙ ap (λ b. cond b 1 0 + length (filter_map (λ m. frame_in m.note) notes)) (agree n.note)
    ∙ ap (λ k. cond (p n.note) 1 0 + k) (length-filter_map frame_in p agree notes)
    ∙ sym (length-cond (p n.note) n (filter (λ m. p m.note) notes))

-- two predicates that agree on each note hold of as many notes
tally-alike : {N : Type 0} (p q : N → Bool) → ((note : N) → p note ≡ q note)
    → (notes : List (Noted N)) → tally p notes ≡ tally q notes
tally-alike p q agree [] = refl
tally-alike p q agree (n ∷ notes) =
    length-cond (p n.note) n (filter (λ m. p m.note) notes)
    ∙ ap (λ b. cond b 1 0 + tally p notes) (agree n.note)
    ∙ ap (λ k. cond (q n.note) 1 0 + k) (tally-alike p q agree notes)
    ∙ sym (length-cond (q n.note) n (filter (λ m. q m.note) notes))

tally-none : {N : Type 0} (notes : List (Noted N)) → 0 ≡ tally (λ (n : N). false) notes
tally-none [] = refl
tally-none (n ∷ notes) = tally-none notes

-- ---- the transmitter

sealed-alike : (n : SealFull) → is_some (sealed_in n) ≡ is_through (fate_sealed (brief_seal_note n))
sealed-alike (sealed_note number start frame) = refl
sealed-alike (unsealed_note start why) = refl

unsealed-alike : (n : SealFull) → is_unsealed n ≡ is_refused (fate_sealed (brief_seal_note n))
unsealed-alike (sealed_note number start frame) = refl
unsealed-alike (unsealed_note start why) = refl

none-dropped : (n : SealFull) → false ≡ is_dropped (fate_sealed (brief_seal_note n))
none-dropped (sealed_note number start frame) = refl
none-dropped (unsealed_note start why) = refl

-- ---- the receiver

passed-alike : (n : CheckFull) → is_some (passed_in n) ≡ is_through (fate_checked (check_brief n))
passed-alike (passed_note number start frame) = refl
passed-alike (refused_note start why) = refl
passed-alike (dropped_note start why) = refl

refused-alike : (n : CheckFull) → notes_refused n ≡ is_refused (fate_checked (check_brief n))
refused-alike (passed_note number start frame) = refl
refused-alike (refused_note start why) = refl
refused-alike (dropped_note start why) = refl

dropped-alike : (n : CheckFull) → notes_dropped n ≡ is_dropped (fate_checked (check_brief n))
dropped-alike (passed_note number start frame) = refl
dropped-alike (refused_note start why) = refl
dropped-alike (dropped_note start why) = refl

module _ {R M : Type 0} (proto : LineRules R) (macs : Mac M) (word_len : ℕ) where
  pub seals-fates : CountsFates (seal_walking proto macs word_len) fate_sealed
      (trial_sealing proto macs word_len)
  seals-fates = record {
    other_is = λ line. refl;
    through_is = λ line. length-filter_map sealed_in _ sealed-alike
        (full_notes (seal_walking proto macs word_len) trial_setup line);
    refused_is = λ line. tally-alike is_unsealed _ unsealed-alike
        (full_notes (seal_walking proto macs word_len) trial_setup line);
    dropped_is = λ line.
        tally-none (full_notes (seal_walking proto macs word_len) trial_setup line)
        ∙ tally-alike (λ n. false) _ none-dropped
        (full_notes (seal_walking proto macs word_len) trial_setup line);
  }

  pub checks-fates : CountsFates (check_walking proto macs word_len) fate_checked
      (trial_checking proto macs word_len)
  checks-fates = record {
    other_is = λ link. refl;
    through_is = λ link. length-filter_map passed_in _ passed-alike
        (full_notes (check_walking proto macs word_len) trial_setup link);
    refused_is = λ link. tally-alike notes_refused _ refused-alike
        (full_notes (check_walking proto macs word_len) trial_setup link);
    dropped_is = λ link. tally-alike notes_dropped _ dropped-alike
        (full_notes (check_walking proto macs word_len) trial_setup link);
  }
