-- What is kept of three recordings after the first ticks of a run.
use Rattle.device_model.specs.Frames.{FrameRead}
use Rattle.device_model.specs.declared.device.Device.{Ghosts as Device}
use Rattle.link_format.specs.NumberedFrame.{NumberedFrame}
use Rattle.std.proofs.Common.{◌≡◌, ◌∙◌, ℕ, ◌+◌, ◌≤◌, ◌<◌, List, [], ◌∷◌, ◌++◌, length, take, suc}
use Rattle.std.proofs.Common.{Bool, Option, Ok, Err, refl, ap, sym, subst, append-nil, arith}
use Rattle.{std.proofs.lemmas.List.length-replicate, tick_drive.proofs.ItemLaws.ticks_in-front}
use Rattle.tick_drive.specs.{Consumers.Gives, Consumers.GivesFirst, Drive.Drives, Input.IsWhole}
use Rattle.tick_drive.specs.{Input.max_ticks, declared.consumer.Stop.TheVariants.NoMemory}
use Rattle.tick_drive.specs.declared.end.End.{End, TheVariants.Whole}
use Rattle.tick_drive.proofs.Stopping.{stops-for-memory}
use Rattle.tick_drive.specs.Drive.{StopsForMemory}
use Rattle.session_lists.specs.Parts.{part}
use Rattle.session_lists.specs.ListPlaces.{place_behind, place_after}
use Rattle.session_lists.specs.declared.tick_lists.Place.{Place}
use Rattle.yasir_ticks.{proofs.TickRuns.length-run_items, specs.TickRun.run_ticks}
use Rattle.yasir_ticks.specs.{TickRun.run_items, Ticks.Item, Ticks.ticks_in, Ticks.marks_in}
use Rattle.yasir_ticks.specs.{Ticks.silent, Ticks.Item.mark, declared.tick.Tick.Tick}
use Rattle.yasir_ticks.specs.declared.{tick.Tick.TheVariants.Silent, tick_run.TickRun.TickRun}
use Rattle.session_lists.specs.declared.tick_lists.Place.TheVariants as place
use Rattle.session_lists.proofs.{Comparing.found-none, Parted.front-here}
use Rattle.session_lists.proofs.Parted.{front-there, front-marks, marks-first, marks-second}
use Rattle.session_lists.proofs.Parted.{part-empty, link-there, link-here, link-mark, link-ends}
use Rattle.session_lists.specs.Comparison.{Compares}
use Rattle.session_lists.specs.Expected.{AreExpected, expected_by}
use Rattle.session_lists.specs.declared.expected.Expected.{Expected}
use Rattle.session_lists.specs.declared.lateness.Lateness.{Lateness}
use Rattle.session_lists.specs.{FrameBox.kept_frames, FrameList.Holds, Guarding.Guards}
use Rattle.session_lists.specs.Lines.{TakesOn, HearsOn, KeepsLine, IsOpenBox}
use Rattle.session_lists.specs.SessionListed.{MayListSession, ListsSession}
use Rattle.session_lists.specs.SessionLists.{SetupsOfLists, HasSession, TakesParts, IsOpenList, parting}
use Rattle.session_lists.specs.SessionLists.{session_taken, expected_of, link_of_lists, rest_after}
use Rattle.session_lists.specs.SessionLists.{sent_box, got_box}
use Rattle.session_lists.specs.{SessionLists.rest_left, declared.comparison.Comparison.Comparison}
use Rattle.session_lists.specs.declared.frame_box.FrameBox.{Ghosts as FrameBox}
use Rattle.session_lists.specs.declared.guard.Guard.{Ghosts as Guard}
use Rattle.session_lists.specs.declared.kept.Kept.{Kept}
use Rattle.session_lists.specs.declared.session_lists.{SessionLists.SessionLists, Timing.Timing}
use Rattle.session_lists.proofs.Parting.{marks-mark, part-mark}

module _ {V : Type 0} (v : Device V) (value : V) (comparison : Comparison) (late : Lateness) where
  -- A comparison holds for whatever equals what has passed and what was heard.
  compares-so : (p1 p2 : List FrameRead) (l1 l2 : List Tick) → p2 ≡ p1 → l2 ≡ l1
      → Compares v value comparison late p1 l1 → Compares v value comparison late p2 l2
  compares-so p1 p2 l1 l2 passed line compares =
      subst (λ l. Compares v value comparison late p2 l) (sym line)
      (subst (λ p. Compares v value comparison late p l1) (sym passed) compares)

  -- If nothing was heard, a comparison holds whatever has passed.
  compares-nothing : (p1 p2 : List FrameRead) (l1 l2 : List Tick) → v.reads [] ≡ []
      → l1 ≡ [] → l2 ≡ l1 → Compares v value comparison late p1 l1
      → Compares v value comparison late p2 l2
  compares-nothing p1 p2 l1 l2 nothing empty line compares =
      subst (λ l. Compares v value comparison late p2 l) (sym line)
      (record {
        hears = compares.hears;
        found = found-none late comparison p1 p2 (v.reads l1) (ap v.reads empty ∙ nothing)
            compares.found;
      })

-- What is kept of the receiver's line gives the frames that should be read.
abbrev pub ExpectsOf : {G : Type 0} → Guard G → Lateness → Kept G → Expected → Type 0
ExpectsOf g late kept expected =
    (spaced : Bool) (passed_ones : List NumberedFrame) (line : List Tick)
    → Holds kept.frames (kept_frames passed_ones) → Guards g spaced kept.guard line
    → AreExpected expected (expected_by spaced late.late passed_ones (g.reads line))

-- If the device hears more ticks, and what it reads is compared with what should be read, the
-- comparison holds for the longer line.
pub hears-on : {V G : Type 0} (v : Device V) (g : Guard G) (t1 t2 : Timing) → t1 ≡ t2
    → (expected : Expected) → expected.late ≡ t1.late → (kept : Kept G)
    → ExpectsOf g t1.late kept expected → (frames : List NumberedFrame) (sent : List Tick)
    → Holds kept.frames (kept_frames frames) → Guards g t2.spaced kept.guard sent
    → (old new : V) (before after : Comparison) (line more : List Tick)
    → HearsOn v expected old new before after more
    → Compares v old before t2.late (expected_by t2.spaced t2.late.late frames (g.reads sent)) line
    → Compares v new after t2.late (expected_by t2.spaced t2.late.late frames (g.reads sent))
    (line ++ more)
hears-on v g t1 t2 same expected late kept expects frames sent holds heard old new before after line
    more takes compares =
    let due : Timing → List FrameRead =
    λ t. expected_by t2.spaced t.late.late frames (g.reads sent) in
    let all = expects t2.spaced frames sent holds heard in
    subst (λ (t : Timing). Compares v new after t.late (due t) (line ++ more)) same
    (subst (λ (l : Lateness). Compares v new after l (due t1) (line ++ more)) late
    (takes.kept (due t1) line
    (λ held. subst (λ (l : Lateness). Compares v old before l (due t1) line) (sym late)
    (subst (λ (t : Timing). Compares v old before t.late (due t) line) (sym same) compares))
    all.expects))

module _ {S C V G : Type 0} (s : FrameBox S) (c : FrameBox C) (v : Device V)
    (g : Guard G)
    (old : SessionLists S C V G) (open_old : IsOpenList s c v g old) (run : TickRun) (k : ℕ)
    (some : 0 < k) (within : k ≤ length (run_ticks run)) where
  size : length (ticks_in (take k (run_items run))) ≡ length (take k (run_ticks run))
  size = ap length (ticks_in-front run k)

  fits : k ≤ length (run_items run)
  fits = omega (arith, within, length-run_items run)

  -- Before the first mark, the lists go on if the transmitter has taken the first ticks of the run.
  pub first-goes : (sealer : S) (sealed : Kept G) → old.place ≡ place.First
      → IsOpenBox s g sealer sealed
      → TakesOn s g old.sealer sealer old.sealed sealed (take k (run_ticks run))
      → GivesFirst (parting s c v g) old (record old { sealer = sealer; sealed = sealed })
      (run_items run) k
  first-goes sealer sealed here able takes = record {
    some = some;
    within = fits;
    gives = record {
      moved = λ setups items parts.
          let none : marks_in items ≡ 0 = marks-first (marks_in items) (sym here ∙ parts.place_is) in
          let same : marks_in (items ++ take k (run_items run)) ≡ marks_in items =
          front-marks items run k in
          let link = link-there setups.timing.link_rest items run k (λ is. omega (arith, none, is)) in
          record {
            seals = subst (KeepsLine s g sealer sealed (sent_box setups))
                (sym (front-here items run k 0 none))
                (takes.kept (sent_box setups) (part 0 items) parts.seals);
            passes = subst (KeepsLine c g old.checker old.passed (got_box setups)) (sym link)
                parts.passes;
            reads = λ few. compares-so v old.device old.read _ _ _ _ _
                (ap (expected_of s c v g setups) link)
                (front-there items run k 2 (λ is. omega (arith, none, is)))
                (parts.reads (omega (arith, few, same)));
            nothing = parts.nothing;
            place_is = parts.place_is ∙ ap place_after (sym same);
            timing_is = parts.timing_is;
          };
      stopped = tt;
      counted = omega (arith, takes.counted, size);
      is_able = record {
        sealer = able;
        checker = open_old.checker;
        few_sealed = omega (arith, takes.few, takes.counted, open_old.few_sealed);
        few_passed = open_old.few_passed;
        few_read = open_old.few_read;
        holds = record {
          origin = open_old.holds.origin;
          link = open_old.holds.link;
          passes = open_old.holds.passes;
        };
      };
      went = tt;
    };
  }

  -- Between the two marks, the lists go on if the receiver has taken the first ticks of the run.
  pub second-goes : (checker : C) (passed : Kept G) → old.place ≡ place.Second
      → IsOpenBox c g checker passed
      → TakesOn c g old.checker checker old.passed passed (take k (run_ticks run))
      → GivesFirst (parting s c v g) old (record old { checker = checker; passed = passed })
      (run_items run) k
  second-goes checker passed here able takes = record {
    some = some;
    within = fits;
    gives = record {
      moved = λ setups items parts.
          let one : marks_in items ≡ 1 = marks-second (marks_in items) (sym here ∙ parts.place_is) in
          let same : marks_in (items ++ take k (run_items run)) ≡ marks_in items =
          front-marks items run k in
          record {
            seals = subst (KeepsLine s g old.sealer old.sealed (sent_box setups))
                (sym (front-there items run k 0 (λ is. omega (arith, one, is)))) parts.seals;
            passes = subst (KeepsLine c g checker passed (got_box setups))
                (sym (link-here setups.timing.link_rest items run k one))
                (takes.kept (got_box setups) (link_of_lists setups.timing.link_rest items) parts.passes);
            reads = λ few. compares-nothing v old.device old.read _ _ _ _ _ parts.nothing
                (part-empty 2 items (omega (arith, one)))
                (front-there items run k 2 (λ is. omega (arith, one, is)))
                (parts.reads (omega (arith, few, same)));
            nothing = parts.nothing;
            place_is = parts.place_is ∙ ap place_after (sym same);
            timing_is = parts.timing_is;
          };
      stopped = tt;
      counted = omega (arith, takes.counted, size);
      is_able = record {
        sealer = open_old.sealer;
        checker = able;
        few_sealed = open_old.few_sealed;
        few_passed = omega (arith, takes.few, takes.counted, open_old.few_passed);
        few_read = open_old.few_read;
        holds = record {
          origin = open_old.holds.origin;
          link = open_old.holds.link ++ take k (run_ticks run);
          passes = takes.kept open_old.holds.origin open_old.holds.link open_old.holds.passes;
        };
      };
      went = tt;
    };
  }

  -- After the second mark, the lists go on if the device has heard the first ticks of the run.
  pub third-goes : (device : V) (read : Comparison)
      → ((m : ℕ) → old.place ≡ place_after m → 2 ≤ m)
      → (expected : Expected) → expected.late ≡ old.timing.late
      → ExpectsOf g old.timing.late old.passed expected
      → HearsOn v expected old.device device old.read read (take k (run_ticks run))
      → GivesFirst (parting s c v g) old (record old { device = device; read = read })
      (run_items run) k
  third-goes device read here expected late expects takes = record {
    some = some;
    within = fits;
    gives = record {
      moved = λ setups items parts.
          let least : 2 ≤ marks_in items = here (marks_in items) parts.place_is in
          let same : marks_in (items ++ take k (run_items run)) ≡ marks_in items =
          front-marks items run k in
          let link = link-there setups.timing.link_rest items run k
          (λ is. omega (arith, least, is)) in
          record {
            seals = subst (KeepsLine s g old.sealer old.sealed (sent_box setups))
                (sym (front-there items run k 0 (λ is. omega (arith, least, is)))) parts.seals;
            passes = subst (KeepsLine c g old.checker old.passed (got_box setups)) (sym link)
                parts.passes;
            reads = λ few. compares-so v device read _ _ _ _ _
                (ap (expected_of s c v g setups) link)
                (front-here items run k 2 (omega (arith, least, few, same)))
                (hears-on v g old.timing setups.timing parts.timing_is expected late old.passed
                expects _ _ parts.passes.frames.holds parts.passes.heard old.device device old.read
                read (part 2 items)
                (take k (run_ticks run)) takes (parts.reads (omega (arith, few, same))));
            nothing = parts.nothing;
            place_is = parts.place_is ∙ ap place_after (sym same);
            timing_is = parts.timing_is;
          };
      stopped = tt;
      counted = omega (arith, takes.counted, size);
      is_able = record {
        sealer = open_old.sealer;
        checker = open_old.checker;
        few_sealed = open_old.few_sealed;
        few_passed = open_old.few_passed;
        few_read = omega (arith, takes.few, takes.counted, open_old.few_read);
        holds = record {
          origin = open_old.holds.origin;
          link = open_old.holds.link;
          passes = open_old.holds.passes;
        };
      };
      went = tt;
    };
  }

-- A mark that doesn't end the link leaves what is still to come of the link's silence as it is.
rest-kept : (rest : ℕ) (p : Place) → (p ≡ place.Second → ⊥)
    → rest_left rest (place_behind p) ≡ rest_left rest p
rest-kept rest place.Second other = absurd (other refl)
rest-kept rest p other = refl

module _ {S C V G : Type 0} (s : FrameBox S) (c : FrameBox C) (v : Device V)
    (g : Guard G) where
  -- A call that gives at least one item may end because there is no memory for a frame.
  pub gives-none : (old new : SessionLists S C V G) (more : List Item) → 0 < length more
      → Gives (parting s c v g) old new more (Err NoMemory)
  gives-none old new more some = record {
    moved = tt;
    stopped = record { place = 0; within = some; at = λ setups items before. refl };
    counted = tt;
    is_able = tt;
    went = tt;
  }

  -- A mark that doesn't end the link changes only the place.
  pub gives-mark : (lists : SessionLists S C V G) (p : Place) → IsOpenList s c v g lists
      → (lists.place ≡ place.Second → ⊥) → p ≡ place_behind lists.place
      → Gives (parting s c v g) lists (record lists { place = p }) (mark ∷ []) (Ok tt)
  gives-mark lists p able other is =
      let kept = ap (rest_left lists.timing.link_rest) is
      ∙ rest-kept lists.timing.link_rest lists.place other in
      record {
        moved = λ setups items parts.
            let more = marks-mark items in
            let link = link-mark setups.timing.link_rest items
            (λ one. other (parts.place_is ∙ ap place_after one)) in
            record {
              seals = subst (KeepsLine s g lists.sealer lists.sealed (sent_box setups))
                  (sym (part-mark 0 items)) parts.seals;
              passes = subst (KeepsLine c g lists.checker lists.passed (got_box setups)) (sym link)
                  parts.passes;
              reads = λ few. compares-so v lists.device lists.read _ _ _ _ _
                  (ap (expected_of s c v g setups) link) (part-mark 2 items)
                  (parts.reads (omega (arith, few, more)));
              nothing = parts.nothing;
              place_is = is ∙ (ap place_behind parts.place_is ∙ ap place_after (sym more));
              timing_is = parts.timing_is;
            };
        stopped = tt;
        counted = omega (arith, kept);
        is_able = record {
          sealer = able.sealer;
          checker = able.checker;
          few_sealed = able.few_sealed;
          few_passed = able.few_passed;
          few_read = able.few_read;
          holds = record {
            origin = able.holds.origin;
            link = able.holds.link;
            passes = able.holds.passes;
          };
        };
        went = tt;
      }

  -- At the mark that ends the link, the lists go on if the receiver has taken the link's silence.
  pub gives-end : (lists : SessionLists S C V G) (checker : C) (passed : Kept G)
      → IsOpenList s c v g lists → lists.place ≡ place.Second → IsOpenBox c g checker passed
      → TakesOn c g lists.checker checker lists.passed passed (silent lists.timing.link_rest)
      → Gives (parting s c v g) lists
      (record lists { checker = checker; passed = passed; place = place.Third }) (mark ∷ []) (Ok tt)
  gives-end lists checker passed open_old here able takes =
      let left = ap (rest_left lists.timing.link_rest) here in
      let long = length-replicate lists.timing.link_rest Silent in
      record {
        moved = λ setups items parts.
            let more = marks-mark items in
            let one : marks_in items ≡ 1 =
            marks-second (marks_in items) (sym here ∙ parts.place_is) in
            let rest = setups.timing.link_rest in
            let silence : silent lists.timing.link_rest ≡ silent rest =
            ap (λ (t : Timing). silent t.link_rest) parts.timing_is in
            record {
              seals = subst (KeepsLine s g lists.sealer lists.sealed (sent_box setups))
                  (sym (part-mark 0 items)) parts.seals;
              passes = subst (KeepsLine c g checker passed (got_box setups))
                  (ap (λ l. link_of_lists rest items ++ l) silence ∙ sym (link-ends rest items one))
                  (takes.kept (got_box setups) (link_of_lists rest items) parts.passes);
              reads = λ few. compares-nothing v lists.device lists.read _ _ _ _ _ parts.nothing
                  (part-empty 2 items (omega (arith, one))) (part-mark 2 items)
                  (parts.reads (omega (arith, one)));
              nothing = parts.nothing;
              place_is = sym (ap place_after (more ∙ ap suc one));
              timing_is = parts.timing_is;
            };
        stopped = tt;
        counted = omega (arith, takes.counted, long, left);
        is_able = record {
          sealer = open_old.sealer;
          checker = able;
          few_sealed = open_old.few_sealed;
          few_passed = omega (arith, takes.few, takes.counted, open_old.few_passed);
          few_read = open_old.few_read;
          holds = record {
            origin = open_old.holds.origin;
            link = open_old.holds.link ++ silent lists.timing.link_rest;
            passes = takes.kept open_old.holds.origin open_old.holds.link open_old.holds.passes;
          };
        };
        went = tt;
      }

-- ---- the silence after the lines of both devices

module _ {S C V G : Type 0} (s : FrameBox S) (c : FrameBox C) (v : Device V)
    (g : Guard G)
    (old : SessionLists S C V G) (open_old : IsOpenList s c v g old)
    (sealer : S) (sealed : Kept G) (device : V) (read : Comparison)
    (able_sealer : IsOpenBox s g sealer sealed)
    (seals : TakesOn s g old.sealer sealer old.sealed sealed (silent old.timing.sent_rest))
    (expected : Expected) (late : expected.late ≡ old.timing.late)
    (expects : ExpectsOf g old.timing.late old.passed expected)
    (hears : HearsOn v expected old.device device old.read read
    (silent old.timing.received_rest)) where
  abbrev rested : SessionLists S C V G
  rested = record old { sealer = sealer; sealed = sealed; device = device; read = read }

  pub rests-have : (setups : SetupsOfLists) (sent link received : List Tick)
      → HasSession s c v g old setups sent link received
      → HasSession s c v g rested setups (sent ++ silent setups.timing.sent_rest) link
      (received ++ silent setups.timing.received_rest)
  rests-have setups sent link received has =
      let sent_rest : silent old.timing.sent_rest ≡ silent setups.timing.sent_rest =
      ap (λ (t : Timing). silent t.sent_rest) has.timing_is in
      let received_rest : silent old.timing.received_rest ≡ silent setups.timing.received_rest =
      ap (λ (t : Timing). silent t.received_rest) has.timing_is in
      record {
        seals = subst (λ l. KeepsLine s g sealer sealed (sent_box setups) (sent ++ l)) sent_rest
            (seals.kept (sent_box setups) sent has.seals);
        passes = has.passes;
        reads = subst (λ l. Compares v device read setups.timing.late (expected_of s c v g setups link)
            (received ++ l)) received_rest
            (hears-on v g old.timing setups.timing has.timing_is expected late old.passed expects _ _
            has.passes.frames.holds has.passes.heard old.device device old.read read received
            (silent old.timing.received_rest) hears has.reads);
        timing_is = has.timing_is;
      }

  pub rests-open : IsOpenList s c v g rested
  rests-open = record {
    sealer = able_sealer;
    checker = open_old.checker;
    few_sealed = omega (arith, seals.few, seals.counted, open_old.few_sealed);
    few_passed = open_old.few_passed;
    few_read = omega (arith, hears.few, hears.counted, open_old.few_read);
    holds = record {
      origin = open_old.holds.origin;
      link = open_old.holds.link;
      passes = open_old.holds.passes;
    };
  }

-- ---- three recordings in memory

module _ {S C V G : Type 0} (s : FrameBox S) (c : FrameBox C) (v : Device V)
    (g : Guard G)
    (old : SessionLists S C V G) (open_old : IsOpenList s c v g old) (here : old.place ≡ place.First)
    (sealer : S) (sealed : Kept G) (middle checker : C)
    (before passed : Kept G) (device : V) (read : Comparison)
    (sent link received : List Tick) (able_sealer : IsOpenBox s g sealer sealed) (able_checker : IsOpenBox c g checker passed)
    (seals : TakesOn s g old.sealer sealer old.sealed sealed sent)
    (passes : TakesOn c g old.checker middle old.passed before link)
    (rests : TakesOn c g middle checker before passed (silent old.timing.link_rest))
    (expected : Expected) (late : expected.late ≡ old.timing.late)
    (expects : ExpectsOf g old.timing.late passed expected)
    (hears : HearsOn v expected old.device device old.read read received) where
  abbrev now : SessionLists S C V G
  now = record old {
    sealer = sealer;
    sealed = sealed;
    checker = checker;
    passed = passed;
    device = device;
    read = read;
    place = place.Third;
  }

  pub lines-have : v.reads [] ≡ [] → (setups : SetupsOfLists) → HasSession s c v g old setups [] [] []
      → HasSession s c v g now setups sent (link ++ silent setups.timing.link_rest) received
  lines-have nothing setups has =
      let all = link ++ silent setups.timing.link_rest in
      let silence : silent old.timing.link_rest ≡ silent setups.timing.link_rest =
      ap (λ (t : Timing). silent t.link_rest) has.timing_is in
      let kept : KeepsLine c g checker passed (got_box setups) all =
      subst (λ l. KeepsLine c g checker passed (got_box setups) (link ++ l)) silence
      (rests.kept (got_box setups) link (passes.kept (got_box setups) [] has.passes)) in
      record {
        seals = seals.kept (sent_box setups) [] has.seals;
        passes = kept;
        reads = hears-on v g old.timing setups.timing has.timing_is expected late passed expects _ _
            kept.frames.holds kept.heard old.device device old.read read [] received hears
            (compares-nothing v old.device old.read _ _ _ [] [] nothing refl refl has.reads);
        timing_is = has.timing_is;
      }

  pub lines-open : IsOpenList s c v g now
  lines-open = record {
    sealer = able_sealer;
    checker = able_checker;
    few_sealed = omega (arith, seals.few, seals.counted, open_old.few_sealed);
    few_passed = omega (
      arith,
      passes.few,
      passes.counted,
      rests.few,
      rests.counted,
      open_old.few_passed,
    );
    few_read = omega (arith, hears.few, hears.counted, open_old.few_read);
    holds = record {
      origin = open_old.holds.origin;
      link = (open_old.holds.link ++ link) ++ silent old.timing.link_rest;
      passes = rests.kept open_old.holds.origin (open_old.holds.link ++ link)
          (passes.kept open_old.holds.origin open_old.holds.link open_old.holds.passes);
    };
  }

  pub lines-taken : session_taken s c v g now
      ≡ session_taken s c v g old + length sent + length link + length received
  lines-taken =
      let left = ap (rest_left old.timing.link_rest) here in
      let long = length-replicate old.timing.link_rest Silent in
      omega (arith, left, long, seals.counted, passes.counted, rests.counted, hears.counted)

-- ---- how a listing ends

module _ {S C V G : Type 0} (s : FrameBox S) (c : FrameBox C) (v : Device V)
    (g : Guard G)
    (old new : SessionLists S C V G) (before now : Option (List ℕ)) (may : MayListSession s c v g old)
  where
    abbrev HasDriven : End → Type 0
    HasDriven end = Drives (parting s c v g) 2 0 before now old new end

    all-told : (items : List Item) (whole : IsWhole 2 0 before now items) → items ≡ whole.told
    all-told items whole = whole.are ∙ append-nil whole.told

    -- After a whole input, the lists are those of the three recordings, the second of which is
    -- followed by the link's silence.
    pub session-whole : (driven : HasDriven Whole) (setups : SetupsOfLists)
        → HasSession s c v g old setups [] [] []
        → HasSession s c v g new setups (part 0 driven.takes.told)
        (part 1 driven.takes.told ++ silent setups.timing.link_rest) (part 2 driven.takes.told)
    session-whole driven setups has =
        let whole : IsWhole 2 0 before now driven.items = driven.takes in
        let told : driven.items ≡ whole.told = all-told driven.items whole in
        let parts : TakesParts s c v g new setups driven.items = driven.gives.moved setups [] (record {
          seals = has.seals;
          passes = has.passes;
          reads = λ few. has.reads;
          nothing = may.nothing;
          place_is = may.first;
          timing_is = has.timing_is;
        }) in
        let marks : marks_in driven.items ≡ 2 = ap marks_in told ∙ whole.right.marked in
        let link : link_of_lists setups.timing.link_rest driven.items
        ≡ part 1 driven.items ++ silent setups.timing.link_rest =
        ap (λ m. part 1 driven.items ++ rest_after setups.timing.link_rest m) marks in
        subst (λ items. HasSession s c v g new setups (part 0 items)
        (part 1 items ++ silent setups.timing.link_rest) (part 2 items)) told
        (record {
          seals = parts.seals;
          passes = subst (KeepsLine c g new.checker new.passed (got_box setups)) link parts.passes;
          reads = compares-so v new.device new.read _ _ _ _ _
              (ap (expected_of s c v g setups) (sym link)) refl (parts.reads (omega (arith, marks)));
          timing_is = parts.timing_is;
        })

    -- A whole input leaves the timing as it was.
    pub timing-same : HasDriven Whole → new.timing ≡ old.timing
    timing-same driven =
        (session-whole driven may.setups may.has).timing_is ∙ sym may.has.timing_is

    pub few-whole : (driven : HasDriven Whole) → session_taken s c v g new ≤ max_ticks + 100000
    few-whole driven =
        let whole : IsWhole 2 0 before now driven.items = driven.takes in
        let same = ap (λ l. length (ticks_in l)) (all-told driven.items whole) in
        let left : rest_left old.timing.link_rest old.place ≡ old.timing.link_rest =
        ap (rest_left old.timing.link_rest) may.first in
        omega (arith, driven.gives.counted, may.none, may.short, left, same, whole.few)

    -- The lists stop a drive only if there is no memory.
    for-memory : (end : End) → HasDriven end → StopsForMemory end
    for-memory end driven = stops-for-memory (parting s c v g) (λ lists stop setups items none. none)
        2 0 before now old new may.setups
        (record {
          seals = may.has.seals;
          passes = may.has.passes;
          reads = λ few. may.has.reads;
          nothing = may.nothing;
          place_is = may.first;
          timing_is = may.has.timing_is;
        })
        end driven

    -- If the input didn't end whole, `ListsSession` holds for the way in which it ended.
    pub ends-session : (end : End) → (end ≡ Whole → ⊥) → HasDriven end
        → ListsSession s c v g old new before now end
    ends-session Whole other driven = absurd (other refl)
    ends-session end other driven = record {
      items = driven.items;
      takes = driven.takes;
      memory = for-memory end driven;
    }
