-- A transmitter whose line was silent for long enough goes on as one that has just begun.
use Rattle.frame_ending.proofs.LiveTicks.{live_end-within}
use Rattle.frame_ending.proofs.Spread.{EndBy, bursts-spread, bursts-end}
use Rattle.frame_ending.specs.LiveBytes.{live_bytes, live_ticks, has_extra}
use Rattle.frame_ending.specs.{Laid.tick_at, Laid.laid, Laid.later}
use Rattle.frame_ending.specs.Walk.{Noted, walked, emitted_by, state_after, notes_of}
use Rattle.line_rules.specs.{Rules.Rules, RulesLaws.IsLawful}
use Rattle.link_box.proofs.SealCausality.{judge_by, judged-is, sealer-causal}
use Rattle.link_box.proofs.SealNumbers.{frames_in}
use Rattle.link_box.specs.Sealing.{SealState, FullNote, Judgement, judged, state_by, note_by}
use Rattle.link_box.specs.Sealing.{emission_by, trailing, forwarded, sealer, at_floor, sealed, link_line}
use Rattle.link_box.specs.Sealing.{sealed_in, start_after, FullNote.sealed_note, FullNote.unsealed_note}
use Rattle.link_box.specs.Sealing.Judgement.{sealed_with, unsealed}
use Rattle.link_box.specs.declared.seal_note.UnsealedWhy.TheVariants.{Early, Form, Spent}
use Rattle.link_format.proofs.Profiles.{length-trailer}
use Rattle.link_format.specs.NumberedFrame.{last_number}
use Rattle.link_format.specs.Profile.{Profile, HasTags, delay, pause_len, trailer_len, trailer}
use Rattle.poll_laws.proofs.Resuming.{AreGone, Shifts, laid-dark, all-noted, whole-long}
use Rattle.poll_laws.proofs.Resuming.{whole-bursts, line-split, notes-split, option_later, frames-later}
use Rattle.poll_laws.specs.Rested.{frame_later}
use Rattle.receiver_laws.proofs.Packing.{length-trailing}
use Rattle.std.proofs.Common.{◌≡◌, ◌∙◌, ℕ, suc, ◌+◌, ◌-◌, ◌<◌, ◌≤◌, ◌&&◌, ◌==◌, ◌||◌, nat_le, nat_lt}
use Rattle.std.proofs.Common.{not, false, List, [], ◌∷◌, ◌++◌, length, map, refl, sym, ap, subst}
use Rattle.std.proofs.Common.{arith, append_assoc, length-append, ⊎_elim}
use Rattle.std.proofs.lemmas.Bool.{cases_lt, lt-ltb, le-ltb}
use Rattle.std.proofs.lemmas.List.Elements.{filter_map-append}
use Rattle.yasir_ticks.specs.{Bursts.Burst, Bursts.bursts, Bursts.end_of, Ticks.silent}
use Rattle.yasir_ticks.specs.declared.tick.Tick.{Tick}

-- whether a burst that comes n ticks later comes too soon
pub same-early : (n a e f : ℕ) → e - n ≡ f → nat_lt (n + a) e ≡ nat_lt a f
same-early n a e f same =
    ⊎_elim
    (λ early. let still : n + a < e = omega arith in
    lt-ltb (n + a) e still ∙ sym (lt-ltb a f early))
    (λ late. let still : e ≤ n + a = omega arith in
    le-ltb (n + a) e still ∙ sym (le-ltb a f late))
    (cases_lt a f)

abbrev moved : ℕ → FullNote → FullNote
moved n (sealed_note number start frame) = sealed_note number (n + start) frame
moved n (unsealed_note start why) = unsealed_note (n + start) why

is_past : (a b i : ℕ) → b ≤ i → (nat_le a i && nat_lt i b) ≡ false
is_past a b i h = grind arith

skip : (e : Burst) (more : List Burst) (i : ℕ) → end_of e ≤ i
    → tick_at (e ∷ more) i ≡ tick_at more i
unfolding tick_at
skip e more i past = rw (is_past e.start (end_of e) i past) refl

module _ (profile : Profile) (rules : Rules) where
  -- Holds if the states are alike, the first one n ticks later.
  abbrev Alike : ℕ → SealState → SealState → Type 0
  Alike n s t = (s.floor ≡ t.floor) × (s.earliest_start - n ≡ t.earliest_start)

  judged-later : (n : ℕ) (s t : SealState) (d : Burst) → Alike n s t
      → judged profile rules s (later n d) ≡ judged profile rules t d
  judged-later n s t d alike =
      let wrong = has_extra rules d || not (rules.is_frame (live_bytes rules d)) in
      judged-is profile rules s (later n d)
      ∙ (ap (λ early. judge_by early wrong (s.floor == profile.limit) (suc s.floor))
      (same-early n d.start s.earliest_start t.earliest_start alike.1)
      ∙ (ap (λ f. judge_by (nat_lt d.start t.earliest_start) wrong (f == profile.limit) (suc f)) alike.0
      ∙ sym (judged-is profile rules t d)))

  next-later : (n : ℕ) (s t : SealState) (d : Burst) (j : Judgement) → Alike n s t
      → Alike n (state_by profile rules s (later n d) j) (state_by profile rules t d j)
  next-later n s t d (sealed_with number) alike = (refl, omega arith)
  next-later n s t d (unsealed why) alike = alike

  emission-later : (n : ℕ) (d : Burst) (j : Judgement)
      → emission_by profile rules (later n d) j ≡ map (later n) (emission_by profile rules d j)
  emission-later n d (sealed_with number) = refl
  emission-later n d (unsealed Early) = refl
  emission-later n d (unsealed Form) = refl
  emission-later n d (unsealed Spent) = refl

  note-later : (n : ℕ) (d : Burst) (j : Judgement)
      → note_by rules (later n d) j ≡ moved n (note_by rules d j)
  note-later n d (sealed_with number) = refl
  note-later n d (unsealed why) = refl

  shifts : (n : ℕ) → Shifts (sealer profile rules) n (moved n) (Alike n)
  shifts n = record {
    next = λ s t d alike. subst (λ j. Alike n (state_by profile rules s (later n d) j)
        (state_by profile rules t d (judged profile rules t d))) (sym (judged-later n s t d alike))
        (next-later n s t d (judged profile rules t d) alike);
    emission = λ s t d alike.
        ap (λ j. emission_by profile rules (later n d) j) (judged-later n s t d alike)
        ∙ emission-later n d (judged profile rules t d);
    tick = λ s t d alike. omega arith;
    note = λ s t d alike. ap (λ j. note_by rules (later n d) j) (judged-later n s t d alike)
        ∙ note-later n d (judged profile rules t d);
  }

  -- ---- what was emitted has left

  module _ (tags : HasTags profile) (m : ℕ) where
    sealed-long : (d : Burst) (number : ℕ)
        → length (trailing (trailer profile number (live_bytes rules d)))
        ≡ pause_len + trailer_len profile
    sealed-long d number =
        length-trailing (trailer profile number (live_bytes rules d))
        ∙ ap (λ i. pause_len + i) (length-trailer profile tags number (live_bytes rules d))

    one-gone : (d : Burst) (j : Judgement) (i : ℕ) → end_of d ≤ m
        → m + pause_len + trailer_len profile ≤ i → (more : List Burst)
        → tick_at (emission_by profile rules d j ++ more) i ≡ tick_at more i
    one-gone d (sealed_with number) i end past more =
        let bytes : List Tick = trailing (trailer profile number (live_bytes rules d)) in
        let e : Burst = forwarded rules d bytes in
        let long = length-append (live_ticks rules d) bytes in
        let size = sealed-long d number in
        let within = live_end-within rules d in
        skip e more i (omega arith)
    one-gone d (unsealed Early) i end past more = refl
    one-gone d (unsealed Form) i end past more =
        let e : Burst = forwarded rules d [] in
        let long = length-append (live_ticks rules d) [] in
        let within = live_end-within rules d in
        skip e more i (omega arith)
    one-gone d (unsealed Spent) i end past more =
        let e : Burst = forwarded rules d [] in
        let long = length-append (live_ticks rules d) [] in
        let within = live_end-within rules d in
        skip e more i (omega arith)

    all-gone : (s : SealState) (ds : List Burst) → EndBy m ds
        → AreGone (m + pause_len + trailer_len profile) (emitted_by (sealer profile rules) s ds)
    all-gone s [] ends i past more = refl
    all-gone s (d ∷ ds) ends i past more =
        let j : Judgement = judged profile rules s d in
        let rest : List Burst = emitted_by (sealer profile rules) (state_by profile rules s d j) ds in
        ap (λ l. tick_at l i) (append_assoc (emission_by profile rules d j) rest more)
        ∙ (one-gone d j i ends.0 past (rest ++ more)
        ∙ all-gone (state_by profile rules s d j) ds ends.1 i past more)

  free-by : (s : SealState) (d : Burst) (j : Judgement) (b : ℕ) → s.earliest_start ≤ b
      → start_after profile rules d ≤ b → (state_by profile rules s d j).earliest_start ≤ b
  free-by s d (sealed_with number) b free left = left
  free-by s d (unsealed why) b free left = free

  all-free : (m : ℕ) (s : SealState) (ds : List Burst) → EndBy m ds
      → s.earliest_start ≤ m + delay profile + 3
      → (state_after (sealer profile rules) s ds).earliest_start ≤ m + delay profile + 3
  all-free m s [] ends free = free
  all-free m s (d ∷ ds) ends free =
      let j : Judgement = judged profile rules s d in
      let end : end_of d ≤ m = ends.0 in
      let within = live_end-within rules d in
      all-free m (state_by profile rules s d j) ds ends.1
      (free-by s d j (m + delay profile + 3) free (omega arith))

  -- ---- the numbers

  one-number : (s : SealState) (d : Burst) (j : Judgement) (tick last : ℕ)
      (notes : List (Noted FullNote))
      → last_number (state_by profile rules s d j).floor (frames_in notes) ≡ last
      → last_number s.floor (frames_in (record { tick = tick; note = note_by rules d j } ∷ notes))
      ≡ last
  one-number s d (sealed_with number) tick last notes rest = rest
  one-number s d (unsealed why) tick last notes rest = rest

  all-numbers : (s : SealState) (ds : List Burst)
      → last_number s.floor (frames_in (walked (sealer profile rules) s ds))
      ≡ (state_after (sealer profile rules) s ds).floor
  all-numbers s [] = refl
  all-numbers s (d ∷ ds) =
      let j : Judgement = judged profile rules s d in
      let next : SealState = state_by profile rules s d j in
      one-number s d j (end_of d + 3) (state_after (sealer profile rules) next ds).floor
      (walked (sealer profile rules) next ds) (all-numbers next ds)

sealed-later : (n : ℕ) (v : FullNote) → sealed_in (moved n v) ≡ option_later n (sealed_in v)
sealed-later n (sealed_note number start frame) = refl
sealed-later n (unsealed_note start why) = refl

-- ---- the line in two parts

module _ (profile : Profile) (rules : Rules) (tags : HasTags profile) (front : List Tick) (k : ℕ)
    (floor : ℕ) where
  abbrev line : List Tick
  line = front ++ silent k

  abbrev ds : List Burst
  ds = bursts line

  ends : EndBy (length front) ds
  ends =
      let P : List Burst → Type 0 = λ bs. EndBy (length front) bs in
      subst P (sym (whole-bursts front k)) (bursts-end front)

  size : length line ≡ length front + k
  size = whole-long front k

  gone : AreGone (length front + pause_len + trailer_len profile)
      (emitted_by (sealer profile rules) (at_floor floor) ds)
  gone = all-gone profile rules tags (length front) (at_floor floor) ds ends

  -- The link is silent at the end of the line.
  pub sent-quiet : (late : ℕ) → pause_len + trailer_len profile + late ≤ k
      → (x : List Tick) × (link_line profile rules floor line ≡ x ++ silent late)
  sent-quiet late fits =
      let es : List Burst = emitted_by (sealer profile rules) (at_floor floor) ds in
      let long = size in
      let b : ℕ = length line - late in
      let sum : length line ≡ b + late = omega arith in
      let from : AreGone b es = λ i past more. gone i (omega arith) more in
      (laid b es, ap (λ i. laid i es) sum ∙ laid-dark es [] b from late)

  module _ (lawful : IsLawful rules) (enough : delay profile + 3 ≤ k) (now : ℕ)
      (now_is : now ≡ last_number floor (sealed profile rules floor line)) where
    wide : 4 ≤ k
    wide = omega arith

    gone-here : AreGone (length line) (emitted_by (sealer profile rules) (at_floor floor) ds)
    gone-here i from more = let long = size in gone i (omega arith) more

    number-is : (state_after (sealer profile rules) (at_floor floor) ds).floor ≡ now
    number-is =
        let long = size in
        sym (all-numbers profile rules (at_floor floor) ds)
        ∙ (ap (λ l. last_number floor (frames_in l))
        (sym (all-noted (sealer profile rules) (sealer-causal profile rules lawful) (at_floor floor) 0
        (length front) (length line) ds (bursts-spread line) ends (omega arith)))
        ∙ sym now_is)

    alike : Alike profile rules (length line)
        (state_after (sealer profile rules) (at_floor floor) ds) (at_floor now)
    alike =
        let long = size in
        let free = all-free profile rules (length front) (at_floor floor) ds ends (omega arith) in
        (number-is, omega arith)

    pub seals-on : (y : List Tick) → link_line profile rules floor (line ++ y)
        ≡ link_line profile rules floor line ++ link_line profile rules now y
    seals-on y = line-split front k wide (sealer profile rules) (sealer-causal profile rules lawful)
        (moved (length line)) (Alike profile rules (length line)) (shifts profile rules (length line))
        (at_floor floor) (at_floor now) alike gone-here y

    pub sealed-on : (y : List Tick) → sealed profile rules floor (line ++ y)
        ≡ sealed profile rules floor line
        ++ map (frame_later (length line)) (sealed profile rules now y)
    sealed-on y =
        let w = sealer profile rules in
        ap (λ l. frames_in l) (notes-split front k wide w (sealer-causal profile rules lawful)
        (moved (length line)) (Alike profile rules (length line)) (shifts profile rules (length line))
        (at_floor floor) (at_floor now) alike gone-here y)
        ∙ (filter_map-append (λ q. sealed_in q.note) (notes_of w (at_floor floor) line)
        (map (λ q. let r : Noted FullNote = record {
          tick = length line + q.tick;
          note = moved (length line) q.note;
        } in r) (notes_of w (at_floor now) y))
        ∙ ap (λ l. frames_in (notes_of w (at_floor floor) line) ++ l)
        (frames-later (length line) (moved (length line)) sealed_in (sealed-later (length line))
        (notes_of w (at_floor now) y)))
