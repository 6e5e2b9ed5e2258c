-- A device behind the receiver reads only what passed.
use Rattle.frame_ending.proofs.Spread.{AreSpread, EndBy, bursts-spread, bursts-end}
use Rattle.frame_ending.{proofs.Walks.before-early, specs.Longer.Begins}
use Rattle.frame_ending.specs.Walk.{Noted, walked, emitted_by, notes_before}
use Rattle.device_model.proofs.ReadLaws.{frames_ended, frames_ended-append, frames_ended-open}
use Rattle.device_model.proofs.ReadLaws.{frames_ended-ended}
use Rattle.device_model.specs.{Frames.FrameRead, RtuReads.frame_in}
use Rattle.frame_ending.proofs.LiveTicks.{live_ticks-bytes, live_end-within}
use Rattle.frame_ending.specs.LiveBytes.{live_bytes, live_ticks, live_end}
use Rattle.line_rules.specs.{Rules.Rules, RulesLaws.IsLawful}
use Rattle.link_format.specs.Profile.{Profile, delay}
use Rattle.link_box.proofs.Apart.{emissions-spread}
use Rattle.link_box.specs.Checking.{FullNote, note_tick, state_by, note_by, checker, at_floor}
use Rattle.link_box.specs.Checking.{received_line}
use Rattle.link_box.specs.Emissions.{spoiled, filled_ticks, delayed, emission_by}
use Rattle.link_box.specs.Verdicts.{CheckState, Verdict, checked}
use Rattle.link_box.specs.Verdicts.Verdict.{passed_with, refused, dropped}
use Rattle.link_box.specs.declared.check_note.DroppedWhy.{DroppedWhy}
use Rattle.link_box.specs.declared.check_note.RefusedWhy.{RefusedWhy}
use Rattle.receiver_laws.proofs.Notes.{frames_in, unnoted}
use Rattle.receiver_laws.specs.Reading.{delivered, delivered_of, ReadsWhatPassed}
use Rattle.std.proofs.Common.{◌≡◌, ◌∙◌, ℕ, ◌+◌, ◌<◌, ◌≤◌, Bool, true, false, cond, List, [], ◌∷◌}
use Rattle.std.proofs.Common.{◌++◌, length, map, refl, sym, ap, subst, arith, ⊎_elim, length-append}
use Rattle.std.proofs.lemmas.{Bool.cases_lt, List.length-replicate}
use Rattle.yasir_ticks.{proofs.BurstLaws.bursts_from-silent_end, specs.Bursts.Burst}
use Rattle.yasir_ticks.specs.{Bursts.bursts, Bursts.end_of, BurstsOf.IsContiguous, Ticks.silent}
use Rattle.yasir_ticks.specs.declared.tick.Tick.{Tick, TheVariants.Silent}

-- ---- what is read of one emission

module _ (ends m : ℕ) (is_whole : Burst → Bool) where
  abbrev read : List Burst → List FrameRead
  read ds = frames_ended ends is_whole m ds

  read-wrong : (d : Burst) → is_whole d ≡ false → read (d ∷ []) ≡ []
  read-wrong d wrong =
      ⊎_elim
      (λ before. frames_ended-open ends is_whole m d before)
      (λ ended. frames_ended-ended ends is_whole m d ended
      ∙ ap (λ v. cond v (frame_in d ∷ []) []) wrong)
      (cases_lt m (end_of d + ends))

  pub read-nothing : (d : Burst) (more : List Burst) → is_whole d ≡ false
      → read (d ∷ more) ≡ read more
  read-nothing d more wrong =
      frames_ended-append ends is_whole m (d ∷ []) more
      ∙ ap (λ x. x ++ read more) (read-wrong d wrong)

  pub read-frame : (d : Burst) (more : List Burst) → is_whole d ≡ true → end_of d + ends ≤ m
      → read (d ∷ more) ≡ frame_in d ∷ read more
  read-frame d more right ended =
      frames_ended-append ends is_whole m (d ∷ []) more
      ∙ ap (λ x. x ++ read more)
      (frames_ended-ended ends is_whole m d ended
      ∙ ap (λ v. cond v (frame_in d ∷ []) []) right)

  pub read-late : (n : ℕ) (ds : List Burst) → AreSpread 2 n ds → m < n → read ds ≡ []
  read-late n [] spread late = refl
  read-late n (d ∷ ds) spread late =
      let from : n ≤ d.start = spread.0 in
      let before : m < end_of d + ends = omega arith in
      let next : m < end_of d + 2 = omega arith in
      frames_ended-append ends is_whole m (d ∷ []) ds
      ∙ (ap (λ x. x ++ read ds) (frames_ended-open ends is_whole m d before)
      ∙ read-late (end_of d + 2) ds spread.2 next)

  pub read-open : (d : Burst) (n : ℕ) (ds : List Burst) → AreSpread 2 n ds
      → m < end_of d + ends → m < n → read (d ∷ ds) ≡ []
  read-open d n ds spread before late =
      frames_ended-append ends is_whole m (d ∷ []) ds
      ∙ (ap (λ x. x ++ read ds) (frames_ended-open ends is_whole m d before)
      ∙ read-late n ds spread late)

-- ---- burst by burst

module _ (profile : Profile) (rules : Rules) where
  abbrev pub told : List (Noted FullNote) → List FrameRead
  told notes = map (delivered profile) (frames_in notes)

  -- the note of a burst
  abbrev pub note_of : CheckState → Burst → Verdict → Noted FullNote
  note_of s d v = record { tick = note_tick profile rules d v; note = note_by rules d v }

  abbrev pub whole : Burst → Burst
  whole d = delayed profile d (live_ticks rules d)

  abbrev pub wrong : Burst → Burst
  wrong d = delayed profile d (spoiled rules [] (filled_ticks rules d))

  -- For a device that reads a burst `ends` ticks after its end if it is whole by this test: what
  -- leaves of a passed burst is whole, and what leaves of a refused one isn't.
  module _ (lawful : IsLawful rules) (ends : ℕ) (near : ends ≤ delay profile)
      (is_whole : Burst → Bool)
      (passes : (s : CheckState) (d : Burst) (n : ℕ) → IsContiguous 4 d.body
      → checked profile rules s d ≡ passed_with n → is_whole (whole d) ≡ true)
      (fails : (s : CheckState) (d : Burst) (why : RefusedWhy) → IsContiguous 4 d.body
      → checked profile rules s d ≡ refused why → is_whole (wrong d) ≡ false) where
    abbrev pub read_by : ℕ → List Burst → List FrameRead
    read_by m ds = frames_ended ends is_whole m ds

    frame-is : (d : Burst) (n : ℕ)
        → frame_in (whole d)
        ≡ delivered profile (record { number = n; start = d.start; frame = live_bytes rules d })
    frame-is d n =
        ap (λ x. let r : FrameRead = record { start = delay profile + d.start; frame = x } in r)
        (live_ticks-bytes rules d)

    module _ (m : ℕ) (s : CheckState) (d : Burst) (contiguous : IsContiguous 4 d.body)
        (more : List Burst) (notes : List (Noted FullNote)) where
      abbrev pub read_now : Verdict → List FrameRead
      read_now v = read_by m (emission_by profile rules d v ++ more)

      abbrev pub told_now : Verdict → List FrameRead
      told_now v = told (notes_before m (note_of s d v ∷ notes))

      -- Once a passed burst has been read, its frame is in both lists.
      ended-both : (n : ℕ) → checked profile rules s d ≡ passed_with n
          → end_of (whole d) + ends ≤ m
          → (read_now (passed_with n) ≡ frame_in (whole d) ∷ read_by m more)
          × (told_now (passed_with n) ≡ frame_in (whole d) ∷ told (notes_before m notes))
      ended-both n is ended =
          let early : note_tick profile rules d (passed_with n) < m = grind arith in (
            read-frame ends m is_whole (whole d) more (passes s d n contiguous is) ended,
            ap told (before-early m (note_of s d (passed_with n)) notes early)
                ∙ ap (λ f. f ∷ told (notes_before m notes)) (sym (frame-is d n)),
          )

      -- A refused burst adds no frame to either list.
      refused-both : (why : RefusedWhy) → checked profile rules s d ≡ refused why
          → (read_now (refused why) ≡ read_by m more)
          × (told_now (refused why) ≡ told (notes_before m notes))
      refused-both why is = (
        read-nothing ends m is_whole (wrong d) more (fails s d why contiguous is),
        ap (map (delivered profile)) (unnoted m (note_of s d (refused why)) notes refl),
      )

      dropped-both : (why : DroppedWhy)
          → (read_now (dropped why) ≡ read_by m more)
          × (told_now (dropped why) ≡ told (notes_before m notes))
      dropped-both why =
          (refl, ap (map (delivered profile)) (unnoted m (note_of s d (dropped why)) notes refl))

      begins-both : (a b : List FrameRead) → (a ≡ read_by m more)
          × (b ≡ told (notes_before m notes))
          → Begins (read_by m more) (told (notes_before m notes)) → Begins a b
      begins-both a b same begins = record {
        rest = begins.rest;
        is = same.1 ∙ (begins.is ∙ ap (λ x. x ++ begins.rest) (sym same.0));
      }

      pub step-begins : (v : Verdict) → checked profile rules s d ≡ v
          → AreSpread 2 ((state_by profile rules s d v).earliest_start + delay profile) more
          → Begins (read_by m more) (told (notes_before m notes))
          → Begins (read_now v) (told_now v)
      step-begins (passed_with n) is spread begins =
          ⊎_elim
          (λ before.
          let none = read-open ends m is_whole (whole d)
          (live_end rules d + delay profile + delay profile) more spread before
          (omega arith) in
          record {
            rest = told_now (passed_with n);
            is = ap (λ x. x ++ told_now (passed_with n)) (sym none);
          })
          (λ ended.
          let both = ended-both n is ended in
          record {
            rest = begins.rest;
            is = both.1 ∙ (ap (λ x. frame_in (whole d) ∷ x) begins.is
                ∙ ap (λ x. x ++ begins.rest) (sym both.0));
          })
          (cases_lt m (end_of (whole d) + ends))
      step-begins (refused why) is spread begins =
          begins-both (read_now (refused why)) (told_now (refused why)) (refused-both why is) begins
      step-begins (dropped why) is spread begins =
          begins-both (read_now (dropped why)) (told_now (dropped why)) (dropped-both why) begins

      pub step-all : (v : Verdict) → checked profile rules s d ≡ v
          → end_of d + delay profile + ends ≤ m
          → read_by m more ≡ told (notes_before m notes)
          → read_now v ≡ told_now v
      step-all (passed_with n) is ended same =
          let within = live_end-within rules d in
          let both = ended-both n is (omega arith) in
          both.0 ∙ (ap (λ x. frame_in (whole d) ∷ x) same ∙ sym both.1)
      step-all (refused why) is ended same =
          let both = refused-both why is in both.0 ∙ (same ∙ sym both.1)
      step-all (dropped why) is ended same =
          let both = dropped-both why in both.0 ∙ (same ∙ sym both.1)

    two : 2 ≤ 2
    two = omega arith

    apart : 2 ≤ delay profile
    apart = omega arith

    abbrev next : CheckState → Burst → CheckState
    next s d = state_by profile rules s d (checked profile rules s d)

    walk-begins : (m : ℕ) (s : CheckState) (n : ℕ) (ds : List Burst) → AreSpread 4 n ds
        → Begins (read_by m (emitted_by (checker profile rules) s ds))
        (told (notes_before m (walked (checker profile rules) s ds)))
    walk-begins m s n [] spread = record { rest = []; is = refl }
    walk-begins m s n (d ∷ ds) spread =
        step-begins m s d spread.1 (emitted_by (checker profile rules) (next s d) ds)
        (walked (checker profile rules) (next s d) ds)
        (checked profile rules s d) refl
        (emissions-spread profile rules lawful 2 two apart (next s d) (end_of d + 4)
        ((next s d).earliest_start + delay profile) ds spread.2 (omega arith))
        (walk-begins m (next s d) (end_of d + 4) ds spread.2)

    walk-all : (m k : ℕ) → k + delay profile + ends ≤ m → (s : CheckState) (n : ℕ) (ds : List Burst)
        → AreSpread 4 n ds → EndBy k ds
        → read_by m (emitted_by (checker profile rules) s ds)
        ≡ told (notes_before m (walked (checker profile rules) s ds))
    walk-all m k behind s n [] spread ends = refl
    walk-all m k behind s n (d ∷ ds) spread ends =
        let end : end_of d ≤ k = ends.0 in
        step-all m s d spread.1 (emitted_by (checker profile rules) (next s d) ds)
        (walked (checker profile rules) (next s d) ds)
        (checked profile rules s d) refl (omega arith)
        (walk-all m k behind (next s d) (end_of d + 4) ds spread.2 ends.1)

    -- ---- a link

    module _ (floor : ℕ) (reads : List Tick → List FrameRead)
        (link_read : (link : List Tick) → reads (received_line profile rules floor link)
        ≡ read_by (length link) (emitted_by (checker profile rules) (at_floor floor) (bursts link)))
      where
        reads-begin : (link : List Tick)
            → Begins (reads (received_line profile rules floor link))
            (delivered_of profile rules floor link)
        reads-begin link =
            let P : List FrameRead → Type 0 =
            λ x. Begins x (delivered_of profile rules floor link) in
            subst P (sym (link_read link))
            (walk-begins (length link) (at_floor floor) 0 (bursts link) (bursts-spread link))

        reads-all : (link : List Tick) (rest : ℕ) → delay profile + ends ≤ rest
            → reads (received_line profile rules floor (link ++ silent rest))
            ≡ delivered_of profile rules floor (link ++ silent rest)
        reads-all link rest behind =
            let longer : List Tick = link ++ silent rest in
            let sum : length longer ≡ length link + rest =
            length-append link (silent rest)
            ∙ ap (λ n. length link + n) (length-replicate rest Silent) in
            let P : List Burst → Type 0 = λ ds. EndBy (length link) ds in
            link_read longer
            ∙ walk-all (length longer) (length link) (omega arith) (at_floor floor) 0
            (bursts longer) (bursts-spread longer)
            (subst P (sym (bursts_from-silent_end 4 0 rest link)) (bursts-end link))

        pub reads_what_passed : (link : List Tick)
            → ReadsWhatPassed rules reads ends profile floor link
        reads_what_passed link = record {
          prefix = reads-begin link;
          all = λ rest behind. reads-all link rest behind;
        }
