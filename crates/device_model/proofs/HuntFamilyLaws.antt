-- The steps of a device that hunts anew after silence.
use Rattle.device_model.proofs.HuntSteps.{timed-append, timed-byte, timed-silent, nothing-held}
use Rattle.device_model.proofs.{HuntSteps.nothing-goes, Hunts.hunt-none}
use Rattle.device_model.proofs.Parting.{longer, grown_by, parted-nothing, parted-begins}
use Rattle.device_model.proofs.Parting.{parted-goes_on, parted-rests, parted-waits, parted-ends}
use Rattle.device_model.specs.{Frames.FrameRead, Hunt.Timed, Hunt.timed, Hunt.hunt}
use Rattle.device_model.specs.HuntFamily.{hunt_bursts, hunt_family, timed_in, IsAnew, IsSince}
use Rattle.device_model.specs.{HuntFamily.FamilyStandsFor, HuntLaws.IsHunted}
use Rattle.device_model.specs.HuntingDevice.{HeardBy, HuntStandsFor, held_by_hunt}
use Rattle.device_model.specs.{Parted.IsParted, declared.hunting_family.HuntingFamily.HuntingFamily}
use Rattle.line_rules.specs.{Rules.Rules, declared.line_rules.LineRules.Ghosts as LineRules}
use Rattle.std.proofs.Common.{◌≡◌, ◌∙◌, ℕ, zero, suc, ◌+◌, ◌<◌, ◌≤◌, ◌==◌, nat_lt, cond, true}
use Rattle.std.proofs.Common.{false, List, [], ◌∷◌, ◌++◌, length, refl, sym, ap, subst, arith}
use Rattle.std.proofs.Common.{append_assoc, Option, Some, None}
use Rattle.std.proofs.lemmas.Bool.{eqb-true, eqb-false, lt-ltb, le-ltb, cond-true, cond-false}
use Rattle.std.proofs.lemmas.List.{append-nil, Concat.flat_map-append}
use Rattle.yasir_ticks.proofs.BurstLaws.{alone}
use Rattle.yasir_ticks.specs.{Bursts.Burst, Bursts.bursts_from, Bursts.end_of, Ticks.silent}
use Rattle.yasir_ticks.specs.declared.tick.Tick.{Tick, TheVariants.Silent, TheVariants.Byte}

abbrev pub byte_at : ℕ → ℕ → Timed
byte_at n b = record { tick = n; byte = b }

timed-run : (n m q b : ℕ) → n + q ≡ m → timed n (silent q ++ Byte b ∷ []) ≡ byte_at m b ∷ []
timed-run n m zero b at = let same : n ≡ m = omega arith in ap (λ k. byte_at k b ∷ []) same
timed-run n m (suc q) b at =
    let next : suc n + q ≡ m = omega arith in timed-run (suc n) m q b next

-- the count of silent ticks after one more
abbrev waited : ℕ → ℕ → ℕ
waited cut quiet = cond (nat_lt quiet cut) (quiet + 1) quiet

module _ (first second : ℕ) (rules : Rules) where
  abbrev hunts : List Timed → List FrameRead
  hunts x = hunt first second rules 0 x

  abbrev of_bursts : List Burst → List FrameRead
  of_bursts ds = hunt_bursts first second rules ds

  abbrev Since : ℕ → ℕ → List Tick → List FrameRead → List Timed → Type 0
  Since cut quiet line frames since = IsSince first second rules cut quiet line frames since

  abbrev reads : ℕ → List Tick → List FrameRead
  reads cut line = hunt_family first second rules cut line

  bursts-append : (xs ys : List Burst) → of_bursts (xs ++ ys) ≡ of_bursts xs ++ of_bursts ys
  bursts-append xs ys =
      flat_map-append (λ (d : Burst). hunt first second rules 0 (timed d.start d.body)) xs ys

  one-burst : (d : Burst) → of_bursts (d ∷ []) ≡ hunts (timed d.start d.body)
  one-burst d = append-nil (hunts (timed d.start d.body))

  -- ---- what is read of a line

  pub since-nothing : (cut : ℕ) → Since cut cut [] [] []
  since-nothing zero = (refl, refl, refl)
  since-nothing (suc cut) = record {
    closed = [];
    running = None;
    parted = parted-nothing (suc cut);
    frames_are = refl;
    since_is = refl;
  }

  anew-reads : (cut quiet : ℕ) (line : List Tick) (frames : List FrameRead) (since : List Timed)
      (closed : List Burst) (running : Option Burst) → IsParted cut quiet line closed running
      → frames ≡ of_bursts closed → since ≡ timed_in running
      → of_bursts (bursts_from cut 0 line) ≡ frames ++ hunts since
  anew-reads cut quiet line frames since closed None parted are is =
      ap of_bursts (parted.is ∙ append-nil closed)
      ∙ (sym are ∙ (sym (append-nil frames)
      ∙ ap (λ x. frames ++ x) (sym (ap hunts is ∙ hunt-none first second rules 0))))
  anew-reads cut quiet line frames since closed (Some d) parted are is =
      ap of_bursts parted.is
      ∙ (bursts-append closed (d ∷ [])
      ∙ (ap (λ x. x ++ of_bursts (d ∷ [])) (sym are)
      ∙ ap (λ x. frames ++ x) (one-burst d ∙ ap hunts (sym is))))

  -- What is read from a line is what was read up to the last silence, and then what the hunt over
  -- the bytes since gives.
  pub since-reads : (cut quiet : ℕ) (line : List Tick) (frames : List FrameRead)
      (since : List Timed) → Since cut quiet line frames since
      → reads cut line ≡ frames ++ hunts since
  since-reads zero quiet line frames since is =
      ap hunts (sym is.2) ∙ ap (λ x. x ++ hunts since) (sym is.1)
  since-reads (suc cut) quiet line frames since is =
      anew-reads (suc cut) quiet line frames since is.closed is.running is.parted is.frames_are
      is.since_is

  -- ---- a byte

  anew-byte : (cut quiet b : ℕ) (line : List Tick) (frames : List FrameRead) (since : List Timed)
      (closed : List Burst) (running : Option Burst) → 0 < cut
      → IsParted cut quiet line closed running
      → frames ≡ of_bursts closed → since ≡ timed_in running
      → IsAnew first second rules cut 0 (line ++ Byte b ∷ []) frames
      (since ++ byte_at (length line) b ∷ [])
  anew-byte cut quiet b line frames since closed None some parted are is = record {
    closed = closed;
    running = Some (alone (length line) b);
    parted = parted-begins cut line closed quiet b some parted;
    frames_are = are;
    since_is = ap (λ x. x ++ byte_at (length line) b ∷ []) is;
  }
  anew-byte cut quiet b line frames since closed (Some d) some parted are is =
      let at : end_of d + quiet ≡ length line = parted.is_quiet.1 in
      record {
        closed = closed;
        running = Some (grown_by d quiet b);
        parted = parted-goes_on cut line closed quiet b d parted;
        frames_are = are;
        since_is = ap (λ x. x ++ byte_at (length line) b ∷ []) is
            ∙ sym (timed-append d.start (end_of d) d.body (silent quiet ++ Byte b ∷ []) refl
            ∙ ap (λ x. timed d.start d.body ++ x) (timed-run (end_of d) (length line) quiet b at));
      }

  pub since-byte : (cut quiet b : ℕ) (line : List Tick) (frames : List FrameRead)
      (since : List Timed) → Since cut quiet line frames since
      → Since cut 0 (line ++ Byte b ∷ []) frames (since ++ byte_at (length line) b ∷ [])
  since-byte zero quiet b line frames since is = (
    refl,
    is.1,
    ap (λ x. x ++ byte_at (length line) b ∷ []) is.2
        ∙ sym (timed-byte line (length line) b refl),
  )
  since-byte (suc cut) quiet b line frames since is =
      anew-byte (suc cut) quiet b line frames since is.closed is.running (omega arith) is.parted
      is.frames_are is.since_is

  -- ---- silence

  anew-waits : (cut quiet : ℕ) (line : List Tick) (frames : List FrameRead) (since : List Timed)
      (closed : List Burst) (running : Option Burst) → (quiet + 1 ≡ cut → ⊥)
      → IsParted cut quiet line closed running
      → frames ≡ of_bursts closed → since ≡ timed_in running
      → IsAnew first second rules cut (waited cut quiet) (line ++ Silent ∷ []) frames since
  anew-waits cut quiet line frames since closed None other parted are is =
      let all : cut ≤ quiet = omega (arith, parted.is_quiet) in
      let P : ℕ → Type 0 = λ q. IsParted cut q (line ++ Silent ∷ []) closed None in
      record {
        closed = closed;
        running = None;
        parted = subst P (sym (cond-false _ _ _ (le-ltb quiet cut all)))
            (parted-rests cut line closed quiet parted);
        frames_are = are;
        since_is = is;
      }
  anew-waits cut quiet line frames since closed (Some d) other parted are is =
      let few : quiet < cut = parted.is_quiet.0 in
      let short : quiet + 1 < cut = omega arith in
      let P : ℕ → Type 0 = λ q. IsParted cut q (line ++ Silent ∷ []) closed (Some d) in
      record {
        closed = closed;
        running = Some d;
        parted = subst P (sym (cond-true _ _ _ (lt-ltb quiet cut few)))
            (parted-waits cut line closed quiet d short parted);
        frames_are = are;
        since_is = is;
      }

  -- A silent tick that doesn't part the line changes nothing.
  pub since-waits : (cut quiet : ℕ) (line : List Tick) (frames : List FrameRead)
      (since : List Timed) → (quiet + 1 ≡ cut → ⊥) → Since cut quiet line frames since
      → Since cut (waited cut quiet) (line ++ Silent ∷ []) frames since
  since-waits zero quiet line frames since other is =
      let none : 0 ≤ quiet = omega arith in
      (cond-false _ _ _ (le-ltb quiet 0 none) ∙ is.0, is.1, is.2 ∙ sym (timed-silent line))
  since-waits (suc cut) quiet line frames since other is =
      anew-waits (suc cut) quiet line frames since is.closed is.running other is.parted
      is.frames_are is.since_is

  anew-parts : (cut quiet : ℕ) (line : List Tick) (frames : List FrameRead) (since : List Timed)
      (closed : List Burst) (running : Option Burst) → quiet + 1 ≡ cut
      → IsParted cut quiet line closed running
      → frames ≡ of_bursts closed → since ≡ timed_in running
      → IsAnew first second rules cut cut (line ++ Silent ∷ []) (frames ++ hunts since) []
  anew-parts cut quiet line frames since closed None last parted are is =
      absurd (omega (arith, parted.is_quiet))
  anew-parts cut quiet line frames since closed (Some d) last parted are is = record {
    closed = closed ++ d ∷ [];
    running = None;
    parted = parted-ends cut line closed quiet d last parted;
    frames_are = ap (λ x. x ++ hunts since) are
        ∙ (ap (λ x. of_bursts closed ++ x) (ap hunts is ∙ sym (one-burst d))
        ∙ sym (bursts-append closed (d ∷ [])));
    since_is = refl;
  }

  -- If a silent tick parts the line, the hunt begins anew.
  pub since-parts : (cut quiet : ℕ) (line : List Tick) (frames : List FrameRead)
      (since : List Timed) → quiet + 1 ≡ cut → Since cut quiet line frames since
      → Since cut cut (line ++ Silent ∷ []) (frames ++ hunts since) []
  since-parts zero quiet line frames since last is = absurd (omega arith)
  since-parts (suc cut) quiet line frames since last is =
      anew-parts (suc cut) quiet line frames since is.closed is.running last is.parted
      is.frames_are is.since_is

-- ---- a step

module _ {R : Type 0} (proto : LineRules R) (first second cut : ℕ) where
  abbrev its : Rules
  its = proto.rules

  abbrev Stands : HuntingFamily R → List Tick → Type 0
  Stands value line = FamilyStandsFor proto first second cut value line

  abbrev read_of : List Tick → List FrameRead
  read_of line = hunt_family first second its cut line

  -- Holds if a device with this value has taken the tick `t` after `line`, and `frames` are read
  -- with it.
  pub record Steps (value : HuntingFamily R) (line : List Tick) (t : Tick)
      (frames : List FrameRead) : Type 0 where
    pub stands : Stands value (line ++ t ∷ [])
    pub is : read_of (line ++ t ∷ []) ≡ read_of line ++ frames

  module _ (old new : HuntingFamily R) (line : List Tick) (heard : Stands old line)
      (cut_stays : new.silence.cut ≡ old.silence.cut)
      (one_more : new.device.ticks ≡ old.device.ticks + 1) where
    count_is : (t : Tick) → new.device.ticks ≡ length (line ++ t ∷ [])
    count_is t = one_more ∙ (ap (λ n. n + 1) heard.count ∙ sym (longer line t))

    abbrev Heard : HuntingFamily R → List Timed → Type 0
    Heard value x = HeardBy proto first second value.device x

    -- A byte comes.
    module _ (b : ℕ) (answer : List FrameRead) (quiet : new.silence.quiet ≡ 0)
        (takes : (x : List Timed) → Heard old x
        → Heard new (x ++ byte_at old.device.ticks b ∷ []))
        (gives : (x : List Timed) → Heard old x
        → hunt first second its 0 (x ++ byte_at old.device.ticks b ∷ [])
        ≡ hunt first second its 0 x ++ answer) where
      abbrev grown : List Timed
      grown = heard.since ++ byte_at (length line) b ∷ []

      grown-is : heard.since ++ byte_at old.device.ticks b ∷ [] ≡ grown
      grown-is = ap (λ n. heard.since ++ byte_at n b ∷ []) heard.count

      since-grown : IsSince first second its cut 0 (line ++ Byte b ∷ []) heard.frames grown
      since-grown =
          since-byte first second its cut old.silence.quiet b line heard.frames heard.since heard.is

      hears-stands : Stands new (line ++ Byte b ∷ [])
      hears-stands =
          let P : ℕ → Type 0 = λ q. IsSince first second its cut q (line ++ Byte b ∷ [])
          heard.frames grown in
          record {
            cut_is = cut_stays ∙ heard.cut_is;
            count = count_is (Byte b);
            frames = heard.frames;
            since = grown;
            is = subst P (sym quiet) since-grown;
            heard = subst (Heard new) grown-is (takes heard.since heard.heard);
          }

      pub hears : Steps new line (Byte b) answer
      hears = record {
        stands = hears-stands;
        is = since-reads first second its cut 0 (line ++ Byte b ∷ []) heard.frames grown since-grown
            ∙ (ap (λ x. heard.frames ++ x)
            (ap (hunt first second its 0) (sym grown-is) ∙ gives heard.since heard.heard)
            ∙ (sym (append_assoc heard.frames (hunt first second its 0 heard.since) answer)
            ∙ ap (λ x. x ++ answer) (sym (since-reads first second its cut old.silence.quiet line
            heard.frames heard.since heard.is))));
      }

    -- A silent tick comes.
    module _ (quiet : new.silence.quiet ≡ waited old.silence.cut old.silence.quiet) where
      still : (after_it : ℕ) (frames : List FrameRead) (since : List Timed)
          → IsSince first second its cut after_it (line ++ Silent ∷ []) frames since
          → heard.frames ++ hunt first second its 0 heard.since
          ≡ frames ++ hunt first second its 0 since
          → read_of (line ++ Silent ∷ []) ≡ read_of line ++ []
      still after_it frames since is same =
          since-reads first second its cut after_it (line ++ Silent ∷ []) frames since is
          ∙ (sym same ∙ (sym (since-reads first second its cut old.silence.quiet line heard.frames
          heard.since heard.is) ∙ sym (append-nil (read_of line))))

      -- The silent tick doesn't part the line.
      module _ (parts : old.silence.quiet + 1 == old.silence.cut ≡ false)
          (keeps : Heard old heard.since → Heard new heard.since) where
        since-on : IsSince first second its cut (waited cut old.silence.quiet)
            (line ++ Silent ∷ []) heard.frames heard.since
        since-on =
            let other = eqb-false (old.silence.quiet + 1) old.silence.cut parts in
            let same = heard.cut_is in
            since-waits first second its cut old.silence.quiet line heard.frames heard.since
            (λ last. omega (arith, other)) heard.is

        pub waits : Steps new line Silent []
        waits =
            let P : ℕ → Type 0 = λ q. IsSince first second its cut q (line ++ Silent ∷ [])
            heard.frames heard.since in
            record {
              stands = record {
                cut_is = cut_stays ∙ heard.cut_is;
                count = count_is Silent;
                frames = heard.frames;
                since = heard.since;
                is = subst P
                    (sym (quiet ∙ ap (λ c. waited c old.silence.quiet) heard.cut_is)) since-on;
                heard = keeps heard.heard;
              };
              is = still (waited cut old.silence.quiet) heard.frames heard.since since-on refl;
            }

      -- The silent tick parts the line, and the device has lost what it had taken.
      module _ (hunted : IsHunted first second its)
          (parts : old.silence.quiet + 1 == old.silence.cut ≡ true)
          (empty : held_by_hunt new.device ≡ []) (lacking : new.device.lacking ≡ 0) where
        abbrev all_frames : List FrameRead
        all_frames = heard.frames ++ hunt first second its 0 heard.since

        last : old.silence.quiet + 1 ≡ cut
        last = eqb-true (old.silence.quiet + 1) old.silence.cut parts ∙ heard.cut_is

        parted-quiet : new.silence.quiet ≡ cut
        parted-quiet =
            let cut_is = heard.cut_is in
            let sum = last in
            let less : old.silence.quiet < old.silence.cut = omega arith in
            quiet ∙ (cond-true _ _ _ (lt-ltb old.silence.quiet old.silence.cut less) ∙ last)

        since-anew : IsSince first second its cut cut (line ++ Silent ∷ []) all_frames []
        since-anew =
            since-parts first second its cut old.silence.quiet line heard.frames heard.since last
            heard.is

        pub loses : Steps new line Silent []
        loses =
            let P : ℕ → Type 0 = λ q. IsSince first second its cut q (line ++ Silent ∷ [])
            all_frames [] in
            record {
              stands = record {
                cut_is = cut_stays ∙ heard.cut_is;
                count = count_is Silent;
                frames = all_frames;
                since = [];
                is = subst P (sym parted-quiet) since-anew;
                heard = nothing-held proto first second hunted new.device []
                    (nothing-goes proto first second hunted) empty lacking;
              };
              is = still cut all_frames [] since-anew
                  (sym (append-nil all_frames)
                  ∙ ap (λ x. all_frames ++ x) (sym (hunt-none first second its 0)));
            }

  -- ---- a device that has heard nothing

  pub nothing-heard : (value : HuntingFamily R) → value.silence.cut ≡ cut
      → value.silence.quiet ≡ cut → value.device.ticks ≡ 0
      → HuntStandsFor proto first second value.device [] → Stands value []
  nothing-heard value cut_is quiet count heard =
      let P : ℕ → Type 0 = λ q. IsSince first second its cut q [] [] [] in
      record {
        cut_is = cut_is;
        count = count;
        frames = [];
        since = [];
        is = subst P (sym quiet) (since-nothing first second its cut);
        heard = heard.heard;
      }

pub nothing-read : (first second : ℕ) (rules : Rules) (cut : ℕ)
    → hunt_family first second rules cut [] ≡ []
unfolding bursts_from
nothing-read first second rules zero = hunt-none first second rules 0
nothing-read first second rules (suc cut) = refl
