-- What a receiver of the other direction makes of a reflected link, for each burst of the device's
-- line.
use Rattle.frame_ending.proofs.Spread.{AreSpread, bursts-spread}
use Rattle.frame_ending.proofs.Walks.{before-early, before-late}
use Rattle.frame_ending.specs.Walk.{Noted, noted, walked, emitted_by, notes_before, notes_of}
use Rattle.frame_ending.proofs.LiveTicks.{live_ticks-bytes, live_ticks-contiguous}
use Rattle.frame_ending.specs.LiveBytes.{has_pause, live_bytes, live_ticks, has_extra}
use Rattle.{link_format.specs.Tag.tag_text, line_rules.specs.Rules.Rules}
use Rattle.line_rules.specs.RulesLaws.{IsLawful, IsHeaded, IsFramed}
use Rattle.link_format.proofs.Profiles.{length-trailer, word_of-trailer}
use Rattle.link_format.specs.{NumberedFrame.NumberedFrame, Profile.Profile}
use Rattle.link_format.specs.Profile.{HasTags, pause_len, trailer_len, trailer, words, word_of}
use Rattle.link_box.proofs.CheckCausality.{checker-causal}
use Rattle.link_box.proofs.Passing.{IsPassing, passed-passing, number-within}
use Rattle.link_box.specs.Checking.{note_tick, note_by as check_note, state_by as check_state}
use Rattle.link_box.specs.Checking.{FullNote, checker, at_floor as check_floor_of, passed}
use Rattle.link_box.specs.{Timely.IsTimely, Verdicts.CheckState}
use Rattle.link_box.specs.Verdicts.{Verdict, after_live, trailer_of, tag_in, checked}
use Rattle.link_box.specs.Verdicts.Verdict.{passed_with, refused, dropped}
use Rattle.receiver_laws.proofs.CutLinks.{notes-settled}
use Rattle.receiver_laws.proofs.Delivering.{packet-bytes, packet-ticks, packet-after}
use Rattle.receiver_laws.proofs.Emitting.{its, longer, longer-are, longer-is, link-length}
use Rattle.receiver_laws.proofs.{Notes.frames_in, Notes.unnoted, Packing.packet}
use Rattle.receiver_laws.proofs.{Packing.packet-length, Parting.same-front, Sending.sealed-is}
use Rattle.receiver_laws.proofs.Standing.{AreOn, bursts-on, live-parts, byte_ticks}
use Rattle.receiver_laws.proofs.Standing.{bytes_in-byte_ticks, shape-kept}
use Rattle.receiver_laws.specs.{Accounted.forged, Fitting.IsFit}
use Rattle.receiver_laws.specs.Reflected.{with_tags, numbered_as, TagsMatch, IsReflected}
use Rattle.receiver_laws.specs.Standing.{StandsOn, numbered_frame}
use Rattle.link_box.proofs.SealNumbers.{frames_in as sealed_frames}
use Rattle.link_box.specs.Sealing.{SealState, Judgement, judged, state_by, forwarded}
use Rattle.link_box.specs.Sealing.{emission_by, note_by, sealed_in, sealer, at_floor}
use Rattle.link_box.specs.Sealing.{link_line, sealed, FullNote as SealedNote}
use Rattle.link_box.specs.Sealing.Judgement.{sealed_with, unsealed}
use Rattle.link_box.specs.declared.seal_note.UnsealedWhy.TheVariants.{Early, Form, Spent}
use Rattle.sequence_journal.proofs.NumberLaws.{least-is}
use Rattle.std.proofs.Common.{◌≡◌, ◌∙◌, ℕ, zero, suc, ◌+◌, ◌%◌, ◌<◌, ◌≤◌, true, false, List, []}
use Rattle.std.proofs.Common.{◌∷◌, ◌++◌, length, take, drop, refl, sym, ap, subst, arith, ⊎_elim}
use Rattle.std.proofs.Common.{append_assoc, length-append, get_or}
use Rattle.std.proofs.Math.{Nat.mod-lt, Nat.one-le-pow, Seq.drop-append_seam}
use Rattle.std.proofs.lemmas.{Bool.cases_lt, List.append-nil}
use Rattle.std.proofs.lemmas.List.{length-map, take_all, Elements.All-nil, Elements.All-cons}
use Rattle.std.proofs.lemmas.List.Elements.{All-same, Contains-append_right, filter_map-append}
use Rattle.std.specs.{Int.bytes_high_first, List.All, List.Contains}
use Rattle.yasir_ticks.proofs.BurstsOfLaws.{bursts_from-only}
use Rattle.yasir_ticks.specs.Bursts.{Burst, bursts, end_of}
use Rattle.yasir_ticks.specs.BurstsOf.{IsContiguous, IsContiguous.one, IsContiguous.more as goes_on}
use Rattle.yasir_ticks.specs.Ticks.{silent, bytes_in}
use Rattle.yasir_ticks.specs.declared.tick.Tick.{Tick, TheVariants.Silent, TheVariants.Byte}

-- ---- silence in a burst

silent-first : (x : List Tick) → IsContiguous 2 x → has_pause (Silent ∷ x) ≡ has_pause x
unfolding has_pause
silent-first x (one b) = refl
silent-first x (goes_on b gap rest few contiguous) = refl

no-pause : (x : List Tick) → IsContiguous 2 x → has_pause x ≡ false
unfolding has_pause
no-pause x (one b) = refl
no-pause x (goes_on b zero rest few contiguous) = no-pause rest contiguous
no-pause x (goes_on b (suc zero) rest few contiguous) =
    silent-first rest contiguous ∙ no-pause rest contiguous
no-pause x (goes_on b (suc (suc gap)) rest few contiguous) = absurd (omega arith)

pause-behind : (w y : List Tick) → has_pause (w ++ (Silent ∷ Silent ∷ y)) ≡ true
unfolding has_pause
pause-behind (Byte b ∷ w) y = pause-behind w y
pause-behind (Silent ∷ Byte b ∷ w) y = pause-behind w y
pause-behind w y = refl

-- ---- sealed frames among the notes

among-later : (m : ℕ) (n : Noted SealedNote) (notes : List (Noted SealedNote)) (f : NumberedFrame)
    → Contains (sealed_frames (notes_before m notes)) f
    → Contains (sealed_frames (notes_before m (n ∷ notes))) f
among-later m n notes f has =
    let P : List NumberedFrame → Type 0 = λ l. Contains l f in
    ⊎_elim
    (λ early. subst P
    (sym (ap sealed_frames (before-early m n notes early)
    ∙ filter_map-append (λ x. sealed_in x.note) (n ∷ []) (notes_before m notes)))
    (Contains-append_right (sealed_frames (n ∷ [])) (sealed_frames (notes_before m notes)) f has))
    (λ late. subst P (sym (ap sealed_frames (before-late m n notes late))) has)
    (cases_lt n.tick m)

module _ (profile : Profile) (rules : Rules) where
  among-first : (m : ℕ) (s : SealState) (d : Burst) (ds : List Burst) (n : ℕ)
      → judged profile rules s d ≡ sealed_with n → end_of d + 3 < m
      → Contains (sealed_frames (notes_before m (walked (sealer profile rules) s (d ∷ ds))))
      (numbered_frame rules d n)
  among-first m s d ds n is early =
      let notes : List (Noted SealedNote) =
      walked (sealer profile rules) (state_by profile rules s d (judged profile rules s d)) ds in
      let all : sealed_frames (notes_before m (walked (sealer profile rules) s (d ∷ ds)))
      ≡ numbered_frame rules d n ∷ sealed_frames (notes_before m notes) =
      ap sealed_frames (before-early m (noted (sealer profile rules) s d) notes early)
      ∙ ap (λ j. let x : Noted SealedNote =
      record { tick = end_of d + 3; note = note_by rules d j } in
      sealed_frames (x ∷ notes_before m notes)) is in
      let P : List NumberedFrame → Type 0 = λ l. Contains l (numbered_frame rules d n) in
      subst P (sym all) (0, omega arith, refl)

-- ---- what passes of a walk, burst by burst

module _ (profile : Profile) (rules : Rules) (R : NumberedFrame → Type 0) (m : ℕ) where
  -- Holds if all frames that pass of these bursts, from a state on, have the property `R`.
  abbrev AllPassed : CheckState → List Burst → Type 0
  AllPassed c es = All R (frames_in (notes_before m (walked (checker profile rules) c es)))

  one-by : (c : CheckState) (e : Burst) (es : List Burst) (v : Verdict)
      → checked profile rules c e ≡ v
      → ((n : ℕ) → checked profile rules c e ≡ passed_with n
      → note_tick profile rules e (passed_with n) < m → R (numbered_frame rules e n))
      → ((next : CheckState) → AllPassed next es)
      → All R (frames_in (notes_before m
      (record { tick = note_tick profile rules e v; note = check_note rules e v }
      ∷ walked (checker profile rules) (check_state profile rules c e v) es)))
  one-by c e es (passed_with n) is first rest =
      let v : Verdict = passed_with n in
      let note : Noted FullNote =
      record { tick = note_tick profile rules e v; note = check_note rules e v } in
      let next : CheckState = check_state profile rules c e v in
      let notes : List (Noted FullNote) = walked (checker profile rules) next es in
      ⊎_elim
      (λ early. All-same R (frames_in (notes_before m (note ∷ notes)))
      (numbered_frame rules e n ∷ frames_in (notes_before m notes))
      (ap frames_in (before-early m note notes early))
      (All-cons R (numbered_frame rules e n) (frames_in (notes_before m notes)) (first n is early)
      (rest next)))
      (λ late. All-same R (frames_in (notes_before m (note ∷ notes)))
      (frames_in (notes_before m notes)) (ap frames_in (before-late m note notes late))
      (rest next))
      (cases_lt note.tick m)
  one-by c e es (refused why) is first rest =
      let v : Verdict = refused why in
      let note : Noted FullNote =
      record { tick = note_tick profile rules e v; note = check_note rules e v } in
      let next : CheckState = check_state profile rules c e v in
      let notes : List (Noted FullNote) = walked (checker profile rules) next es in
      All-same R (frames_in (notes_before m (note ∷ notes))) (frames_in (notes_before m notes))
      (unnoted m note notes refl) (rest next)
  one-by c e es (dropped why) is first rest =
      let v : Verdict = dropped why in
      let note : Noted FullNote =
      record { tick = note_tick profile rules e v; note = check_note rules e v } in
      let next : CheckState = check_state profile rules c e v in
      let notes : List (Noted FullNote) = walked (checker profile rules) next es in
      All-same R (frames_in (notes_before m (note ∷ notes))) (frames_in (notes_before m notes))
      (unnoted m note notes refl) (rest next)

  one-more : (c : CheckState) (e : Burst) (es : List Burst)
      → ((n : ℕ) → checked profile rules c e ≡ passed_with n
      → note_tick profile rules e (passed_with n) < m → R (numbered_frame rules e n))
      → ((next : CheckState) → AllPassed next es) → AllPassed c (e ∷ es)
  one-more c e es first rest = one-by c e es (checked profile rules c e) refl first rest

-- ---- a reflected link

module _ (profile : Profile) (other : ℕ → List ℕ → List ℕ) (rules : Rules)
    (lawful : IsLawful rules) (framing : IsFramed rules) (tags : HasTags profile)
    (some : 1 ≤ profile.word_len) where
  abbrev mirror : Profile
  mirror = with_tags profile other

  -- A burst that is forwarded without a trailer doesn't pass.
  plain-stays : (c : CheckState) (d : Burst) (n : ℕ) → IsContiguous 4 d.body
      → IsPassing mirror rules c (forwarded rules d []) n → ⊥
  plain-stays c d n whole passing =
      let e : Burst = forwarded rules d [] in
      let P : List Tick → Type 0 = λ x. IsContiguous 2 x in
      let calm : IsContiguous 2 e.body = subst P (sym (append-nil (live_ticks rules d)))
      (live_ticks-contiguous rules lawful d whole) in
      let behind = shape-kept pause_len (trailer_len mirror) (after_live rules e) (omega arith)
      passing.whole in
      let y : List Tick = Silent ∷ (byte_ticks behind.0 ++ behind.1) in
      let paused : has_pause e.body ≡ true =
      ap has_pause (live-parts rules e ∙ ap (λ x. live_ticks rules e ++ x) behind.2)
      ∙ pause-behind (live_ticks rules e) y in
      let no : true ≡ false = sym paused ∙ no-pause e.body calm in
      cc

  module _ (d : Burst) (n : ℕ) (whole : IsContiguous 4 d.body) (none : has_extra rules d ≡ false)
    where
      abbrev frame : List ℕ
      frame = live_bytes rules d

      abbrev bytes : List ℕ
      bytes = trailer profile n frame

      abbrev e : Burst
      e = packet profile rules n d

      frame-is : live_bytes rules e ≡ frame
      frame-is = packet-bytes profile tags some rules lawful framing n d whole none

      trailer-is : trailer_of mirror rules e ≡ bytes
      trailer-is =
          let count : length (byte_ticks bytes) ≡ trailer_len profile =
          length-map bytes (λ b. Byte b) ∙ length-trailer profile tags n frame in
          ap (λ x. bytes_in (take (trailer_len mirror) (drop pause_len x)))
          (packet-after profile tags some rules lawful framing n d whole none)
          ∙ (ap bytes_in (take_all (trailer_len mirror) (byte_ticks bytes) (omega arith))
          ∙ bytes_in-byte_ticks bytes)

      tag-is : tag_in mirror bytes ≡ profile.tag n frame
      tag-is =
          let word : List ℕ = bytes_high_first profile.word_len n in
          let tag : List ℕ = profile.tag n frame in
          let sized = tags.sized n frame in
          let long = length-trailer profile tags n frame in
          let parts = length-append word tag in
          let few : length word ≡ profile.word_len = omega arith in
          ap (λ k. drop k (word ++ tag)) (sym few) ∙ drop-append_seam word tag

      -- If a packet passes, its tags match.
      matches : (c : CheckState) (number : ℕ) → IsPassing mirror rules c e number
          → TagsMatch profile other n number frame
      matches c number passing =
          let w : ℕ = words profile in
          let many : 0 < w = one-le-pow profile.word_len 256 (omega arith) in
          let word : ℕ = word_of mirror (trailer_of mirror rules e) in
          let word-is : word ≡ n % w =
          ap (λ x. word_of profile x) trailer-is ∙ word_of-trailer profile n frame in
          let small : word < w =
          let P : ℕ → Type 0 = λ k. k < w in subst P (sym word-is) (mod-lt n many) in
          let within = number-within mirror c.floor (trailer_of mirror rules e) number
          passing.numbered in
          record {
            same_word = ap (λ k. k % w) within.0 ∙ ((least-is w c.floor word small).has_word
                ∙ word-is);
            same_tag = ap (λ h. other number h) (sym frame-is)
                ∙ (sym passing.tagged ∙ (ap (λ x. tag_in mirror x) trailer-is ∙ tag-is));
          }

      -- A packet that passes has ended when it is noted.
      ends-noted : (c : CheckState) (number m : ℕ) → IsPassing mirror rules c e number
          → note_tick mirror rules e (passed_with number) < m → end_of e ≤ m
      ends-noted c number m passing early =
          let kept_all = passing.whole in
          let live = ap length (packet-ticks profile tags some rules lawful framing n d whole none)
          in
          let end = packet-length profile tags some rules lawful n d whole none in
          omega arith

      stands-on : (link rest long front back : List Tick) → long ≡ link ++ rest
          → long ≡ front ++ (e.body ++ back) → length front ≡ e.start → end_of e ≤ length link
          → StandsOn profile link (numbered_frame rules d n)
      stands-on link rest long front back is on begins within =
          let live : List Tick = live_ticks rules d in
          let t : List Tick = byte_ticks bytes in
          let size = length-append front e.body in
          let parts = same-front link rest (front ++ e.body) back
          (sym is ∙ (on ∙ sym (append_assoc front e.body back))) (omega arith) in
          let v : List Tick = parts.0 in
          record {
            front = front;
            body = live;
            back = v;
            is = parts.1
                ∙ (append_assoc front e.body v
                ∙ ap (λ x. front ++ x)
                (append_assoc live (silent pause_len ++ t) v
                ∙ ap (λ x. live ++ x) (append_assoc (silent pause_len) t v)));
            begins = begins;
            spells = live_ticks-bytes rules d;
            contiguous = live_ticks-contiguous rules lawful d whole;
          }

  module _ (link rest long : List Tick) (is : long ≡ link ++ rest) (all : List NumberedFrame)
    where
      abbrev Reflected : NumberedFrame → Type 0
      Reflected f = IsReflected profile other link all f

      packet-reflected : (d : Burst) (n : ℕ) (whole : IsContiguous 4 d.body)
          (none : has_extra rules d ≡ false) (c : CheckState) (number : ℕ)
          (front back : List Tick) → long ≡ front ++ ((packet profile rules n d).body ++ back)
          → length front ≡ d.start → Contains all (numbered_frame rules d n)
          → IsPassing mirror rules c (packet profile rules n d) number
          → end_of (packet profile rules n d) ≤ length link
          → Reflected (numbered_frame rules (packet profile rules n d) number)
      packet-reflected d n whole none c number front back on begins has passing within =
          let P : List ℕ → Type 0 = λ h.
          Reflected (record { number = number; start = d.start; frame = h }) in
          subst P (sym (frame-is d n whole none))
          (record {
            number = n;
            is_sealed = has;
            stands = stands-on d n whole none link rest long front back is on begins within;
            match_tags = matches d n whole none c number passing;
          })

      -- Holds if each frame that is sealed of these bursts, and noted within the link, is one of
      -- `all`.
      abbrev Among : SealState → List Burst → Type 0
      Among s ds = (f : NumberedFrame)
          → Contains (sealed_frames
          (notes_before (length link) (walked (sealer profile rules) s ds))) f
          → Contains all f

      among-rest : (s : SealState) (d : Burst) (ds : List Burst) → Among s (d ∷ ds)
          → Among (state_by profile rules s d (judged profile rules s d)) ds
      among-rest s d ds among f has =
          among f (among-later (length link) (noted (sealer profile rules) s d)
          (walked (sealer profile rules) (state_by profile rules s d (judged profile rules s d)) ds)
          f has)

      by-judgement : (s : SealState) (d : Burst) (ds : List Burst) (j : Judgement)
          → judged profile rules s d ≡ j → IsContiguous 4 d.body → Among s (d ∷ ds)
          → (es : List Burst) → AreOn long (emission_by profile rules d j ++ es)
          → (AreOn long es
          → (next : CheckState) → AllPassed mirror rules Reflected (length link) next es)
          → (c : CheckState)
          → AllPassed mirror rules Reflected (length link) c (emission_by profile rules d j ++ es)
      by-judgement s d ds (sealed_with n) judges whole among es stand others c =
          let p : Burst = packet profile rules n d in
          let none = (sealed-is profile rules s d n judges).no_extra in
          one-more mirror rules Reflected (length link) c p es
          (λ number passes early.
          let passing = passed-passing mirror rules c p number passes in
          let within = ends-noted d n whole none c number (length link) passing early in
          let end = packet-length profile tags some rules lawful n d whole none in
          let noted_early : end_of d + 3 < length link = omega arith in
          packet-reflected d n whole none c number stand.0 stand.1 stand.2 stand.3
          (among (numbered_frame rules d n)
          (among-first profile rules (length link) s d ds n judges noted_early))
          passing within)
          (others stand.5)
      by-judgement s d ds (unsealed Early) judges whole among es stand others c = others stand c
      by-judgement s d ds j judges whole among es stand others c =
          let p : Burst = forwarded rules d [] in
          one-more mirror rules Reflected (length link) c p es
          (λ number passes early. absurd (plain-stays c d number whole
          (passed-passing mirror rules c p number passes)))
          (others stand.5)

      all-reflected : (s : SealState) (n : ℕ) (ds : List Burst) → AreSpread 4 n ds → Among s ds
          → AreOn long (emitted_by (sealer profile rules) s ds) → (c : CheckState)
          → AllPassed mirror rules Reflected (length link) c (emitted_by (sealer profile rules) s ds)
      all-reflected s n [] spread among stand c = All-nil Reflected
      all-reflected s n (d ∷ ds) spread among stand c =
          let j : Judgement = judged profile rules s d in
          let next : SealState = state_by profile rules s d j in
          by-judgement s d ds j refl spread.1 among (emitted_by (sealer profile rules) next ds) stand
          (λ on next_check. all-reflected next (end_of d + 4) ds spread.2 (among-rest s d ds among)
          on next_check) c

module _ (profile : Profile) (other : ℕ → List ℕ → List ℕ) (rules : Rules)
    (lawful : IsLawful rules) (headed : IsHeaded rules) (framing : IsFramed rules)
    (fit : IsFit profile rules) (seal_floor check_floor : ℕ) (line : List Tick) where
  abbrev link : List Tick
  link = link_line profile rules seal_floor line

  abbrev all : List NumberedFrame
  all = sealed profile rules seal_floor line

  pub reflected-passed : All (IsReflected profile other link all)
      (passed (with_tags profile other) rules check_floor link)
  reflected-passed =
      let mirror : Profile = with_tags profile other in
      let timely : IsTimely mirror rules = record { in_time = fit.timely.in_time } in
      let R : NumberedFrame → Type 0 = λ f. IsReflected profile other link all f in
      let es : List Burst = its profile fit.tags fit.word rules lawful seal_floor line in
      let long : List Tick = longer profile fit.tags fit.word rules lawful seal_floor line in
      let are = longer-are profile fit.tags fit.word rules lawful seal_floor line in
      let more = longer-is profile fit.tags fit.word rules lawful seal_floor line in
      let c : CheckState = check_floor_of check_floor in
      let same : bursts (link ++ more.0) ≡ es =
      ap bursts (sym more.1) ∙ bursts_from-only 4 0 long es are in
      let notes : notes_of (checker mirror rules) c link
      ≡ notes_before (length link) (walked (checker mirror rules) c es) =
      sym (notes-settled (checker mirror rules) (checker-causal mirror rules lawful headed timely)
      c link more.0)
      ∙ ap (λ ds. notes_before (length link) (walked (checker mirror rules) c ds)) same in
      All-same R (passed mirror rules check_floor link)
      (frames_in (notes_before (length link) (walked (checker mirror rules) c es)))
      (ap frames_in notes)
      (all-reflected profile other rules lawful framing fit.tags fit.word link more.0 long more.1
      all (at_floor seal_floor) 0 (bursts line) (bursts-spread line)
      (λ f has. let P : ℕ → Type 0 = λ m. Contains (sealed_frames
      (notes_before m (walked (sealer profile rules) (at_floor seal_floor) (bursts line)))) f in
      subst P (link-length profile fit.tags fit.word rules lawful seal_floor line) has)
      (bursts-on long es [] long 0 refl refl are) c)

  none-of : {X : Type 0} (P : X → Type 0) (x : List X) → ((a : X) → P a → ⊥) → All P x → x ≡ []
  none-of P [] never are = refl
  none-of P (a ∷ x) never are = absurd (never a (are 0 a (omega arith)))

  pub nothing-passes : ((f : NumberedFrame) (number : ℕ) → Contains all f
      → TagsMatch profile other f.number number f.frame → ⊥)
      → passed (with_tags profile other) rules check_floor link ≡ []
  nothing-passes never =
      none-of (λ f. IsReflected profile other link all f)
      (passed (with_tags profile other) rules check_floor link)
      (λ f is. never (numbered_as is.number f) f.number is.is_sealed is.match_tags)
      reflected-passed

-- ---- nothing sealed

pub all-forged : (frames : List NumberedFrame) → forged [] frames ≡ frames
all-forged [] = refl
all-forged (f ∷ frames) = ap (λ l. f ∷ l) (all-forged frames)

-- ---- texts of tags

pub texts-differ : (label direction other number other_number : ℕ) (frame other_frame : List ℕ)
    → (direction ≡ other → ⊥)
    → tag_text label direction frame number ≡ tag_text label other other_frame other_number → ⊥
texts-differ label direction other number other_number x y differ same =
    differ (ap (λ l. get_or l 1 0) same)
