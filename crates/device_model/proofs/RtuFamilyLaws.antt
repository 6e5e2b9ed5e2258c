-- The steps of a Modbus RTU device, by the values that it has before and after.
use Rattle.device_model.proofs.Broken.{grown-bytes, alone-whole, grown-is}
use Rattle.device_model.proofs.Parting.{longer, grown_by, parted-nothing, parted-begins}
use Rattle.device_model.proofs.Parting.{parted-goes_on, parted-rests, parted-waits, parted-ends}
use Rattle.device_model.proofs.ReadLaws.{frames_read-front, frames_read-last, frames_read-later}
use Rattle.device_model.proofs.ReadLaws.{is_frame-long}
use Rattle.device_model.specs.{Frames.FrameRead, Parted.IsParted, RtuFamily.rtu_family_reads}
use Rattle.device_model.specs.RtuFamily.{is_cut_off_frame, Keeps, RtuFamilyStandsFor, frame_at_end}
use Rattle.device_model.specs.RtuReads.{has_silence, is_frame_body, frame_in, frames_read}
use Rattle.device_model.specs.declared.rtu_family.RtuFamily.{RtuFamily}
use Rattle.rtu_frame.specs.Frame.{is_frame}
use Rattle.std.proofs.Common.{◌≡◌, ◌∙◌, ℕ, suc, ◌+◌, ◌<◌, ◌≤◌, ◌||◌, ◌&&◌, nat_lt, nat_le, cond}
use Rattle.std.proofs.Common.{Bool, true, false, not, List, [], ◌∷◌, ◌++◌, length, refl, sym, ap}
use Rattle.std.proofs.Common.{subst, arith, ◌==◌, Option, Some, None, IfSome, if◌then◌else◌}
use Rattle.std.proofs.lemmas.Bool.{or_parts, ltb-true, leb-true, leb-false, eqb-true, eqb-false}
use Rattle.std.proofs.lemmas.Bool.{lt-ltb, le-ltb, cond-true, cond-false}
use Rattle.{std.proofs.lemmas.List.append-nil, yasir_ticks.proofs.BurstLaws.alone}
use Rattle.yasir_ticks.{proofs.BurstsOfLaws.contiguous-more, specs.Bursts.Burst}
use Rattle.yasir_ticks.specs.{Bursts.bursts_from, Bursts.end_of, BurstsOf.one, Ticks.bytes_in}
use Rattle.yasir_ticks.specs.declared.tick.Tick.{Tick, TheVariants.Silent, TheVariants.Byte}

module _ (cut gap : ℕ) where
  -- ---- what is read of a line

  abbrev reads : List Tick → List FrameRead
  reads line = rtu_family_reads cut gap line

  -- What is read from a line are the frames of its closed bursts.
  pub reads-parted : (quiet : ℕ) (line : List Tick) (closed : List Burst) (running : Option Burst)
      → IsParted cut quiet line closed running
      → reads line ≡ frames_read cut (suc gap) (length line) closed
  reads-parted quiet line closed None parted =
      ap (λ ds. frames_read cut (suc gap) (length line) ds) (parted.is ∙ append-nil closed)
  reads-parted quiet line closed (Some d) parted =
      let few : quiet < cut = parted.is_quiet.0 in
      let at : end_of d + quiet ≡ length line = parted.is_quiet.1 in
      let near : length line < end_of d + cut = omega arith in
      ap (λ ds. frames_read cut (suc gap) (length line) ds) parted.is
      ∙ frames_read-front cut (suc gap) (length line) (length line) closed d (omega arith)
      parted.are_closed near

  -- A tick that ends no burst adds nothing.
  reads-same : (line : List Tick) (t : Tick) (quiet after_it : ℕ) (closed : List Burst)
      (before after : Option Burst) → IsParted cut quiet line closed before
      → IsParted cut after_it (line ++ t ∷ []) closed after
      → reads (line ++ t ∷ []) ≡ reads line ++ []
  reads-same line t quiet after_it closed before after parted next =
      let n = longer line t in
      reads-parted after_it (line ++ t ∷ []) closed after next
      ∙ (frames_read-later cut (suc gap) (length line) (length (line ++ t ∷ [])) closed
      (omega arith) parted.are_closed
      ∙ (sym (reads-parted quiet line closed before parted) ∙ sym (append-nil (reads line))))

  abbrev frame_of_burst : Burst → List FrameRead
  frame_of_burst d = cond (is_frame_body (suc gap) d.body) (frame_in d ∷ []) []

  -- A silent tick that ends a burst adds the frame of the burst.
  reads-ends : (line : List Tick) (quiet : ℕ) (closed : List Burst) (d : Burst)
      → IsParted cut quiet line closed (Some d) → quiet + 1 ≡ cut
      → reads (line ++ Silent ∷ []) ≡ reads line ++ frame_of_burst d
  reads-ends line quiet closed d parted last =
      let n = longer line Silent in
      let at : end_of d + quiet ≡ length line = parted.is_quiet.1 in
      let past : end_of d + cut ≤ length (line ++ Silent ∷ []) = omega arith in
      reads-parted cut (line ++ Silent ∷ []) (closed ++ d ∷ []) None
      (parted-ends cut line closed quiet d last parted)
      ∙ (frames_read-last cut (suc gap) (length line) (length (line ++ Silent ∷ [])) closed d
      (omega arith) parted.are_closed past
      ∙ ap (λ x. x ++ frame_of_burst d) (sym (reads-parted quiet line closed (Some d) parted)))

  -- ---- the end of a burst

  broken-none : (body : List Tick) → is_cut_off_frame gap body ≡ true
      → is_frame_body (suc gap) body ≡ false
  broken-none body broken = by_silence (has_silence (suc gap) body) refl
    where
      by_silence : (v : Bool) → has_silence (suc gap) body ≡ v
          → is_frame_body (suc gap) body ≡ false
      by_silence true is = ap (λ v. not v && is_frame (bytes_in body)) is
      by_silence false is =
          let more : nat_lt 256 (length (bytes_in body)) ≡ true =
          sym (ap (λ v. v || nat_lt 256 (length (bytes_in body))) is) ∙ broken in
          ap (λ v. not v && is_frame (bytes_in body)) is
          ∙ is_frame-long (bytes_in body) (ltb-true 256 (length (bytes_in body)) more)

  whole-body : (body : List Tick) → is_cut_off_frame gap body ≡ false
      → is_frame_body (suc gap) body ≡ is_frame (bytes_in body)
  whole-body body whole =
      let parts : (has_silence (suc gap) body ≡ false)
      × (nat_lt 256 (length (bytes_in body)) ≡ false) = or_parts _ _ whole in
      ap (λ v. not v && is_frame (bytes_in body)) parts.0

  gives : (broken : Bool) (start : ℕ) (bytes : List ℕ) (d : Burst) → start ≡ d.start
      → broken ≡ is_cut_off_frame gap d.body → (broken ≡ false → bytes ≡ bytes_in d.body)
      → frame_at_end broken start bytes ≡ frame_of_burst d
  gives true start bytes d at is are =
      ap (λ v. cond v (frame_in d ∷ []) []) (sym (broken-none d.body (sym is)))
  gives false start bytes d at is are =
      ap (λ n. frame_at_end false n bytes) at
      ∙ (ap (λ x. frame_at_end false d.start x) (are refl)
      ∙ ap (λ v. cond v (frame_in d ∷ []) []) (sym (whole-body d.body (sym is))))

  -- ---- a step

  -- Holds if a device with this value has taken the tick `t` after `line`, and `frames` are read
  -- with it.
  pub record Hears (value : RtuFamily) (line : List Tick) (t : Tick) (frames : List FrameRead) :
      Type 0 where
    pub stands : RtuFamilyStandsFor cut gap value (line ++ t ∷ [])
    pub is : reads (line ++ t ∷ []) ≡ reads line ++ frames

  module _ (old new : RtuFamily) (line : List Tick) (heard : RtuFamilyStandsFor cut gap old line)
      (cut_stays : new.silence.cut ≡ old.silence.cut) (gap_stays : new.gap ≡ old.gap)
      (one_more : new.ticks ≡ old.ticks + 1) where
    stands-on : (t : Tick) (closed : List Burst) (running : Option Burst)
        → IsParted cut new.silence.quiet (line ++ t ∷ []) closed running
        → IfSome running (λ d. Keeps cut gap new d)
        → RtuFamilyStandsFor cut gap new (line ++ t ∷ [])
    stands-on t closed running parted kept = record {
      some_cut = heard.some_cut;
      cut_is = cut_stays ∙ heard.cut_is;
      gap_is = gap_stays ∙ heard.gap_is;
      count = one_more ∙ (ap (λ n. n + 1) heard.count ∙ sym (longer line t));
      closed = closed;
      running = running;
      parted = parted;
      kept = kept;
    }

    hears-on : (t : Tick) (running : Option Burst)
        → IsParted cut new.silence.quiet (line ++ t ∷ []) heard.closed running
        → IfSome running (λ d. Keeps cut gap new d) → Hears new line t []
    hears-on t running parted kept = record {
      stands = stands-on t heard.closed running parted kept;
      is = reads-same line t old.silence.quiet new.silence.quiet heard.closed heard.running running
          heard.parted parted;
    }

    -- A byte comes while no burst is running.
    module _ (b : ℕ) (parts : nat_le old.silence.cut old.silence.quiet ≡ true)
        (quiet_is : new.silence.quiet ≡ 0) where
      rests : (running : Option Burst)
          → IsParted cut old.silence.quiet line heard.closed running
          → IsParted cut new.silence.quiet (line ++ Byte b ∷ []) heard.closed
          (Some (alone (length line) b))
      rests None parted =
          let P : ℕ → Type 0 = λ q. IsParted cut q (line ++ Byte b ∷ []) heard.closed
          (Some (alone (length line) b)) in
          subst P (sym quiet_is)
          (parted-begins cut line heard.closed old.silence.quiet b heard.some_cut parted)
      rests (Some d) parted =
          let few : old.silence.quiet < cut = parted.is_quiet.0 in
          let all : old.silence.cut ≤ old.silence.quiet = leb-true _ _ parts in
          let same = heard.cut_is in
          absurd (omega arith)

      pub begins : new.start ≡ old.ticks → new.broken ≡ false → new.bytes.items ≡ b ∷ []
          → Hears new line (Byte b) []
      begins start broken bytes =
          hears-on (Byte b) (Some (alone (length line) b)) (rests heard.running heard.parted)
          (record {
            contiguous = one b;
            start_is = start ∙ heard.count;
            broken_is = broken ∙ sym (alone-whole gap b);
            bytes_are = λ whole. bytes;
          })

    -- A byte comes while a burst is running.
    module _ (b : ℕ) (parts : nat_le old.silence.cut old.silence.quiet ≡ false)
        (quiet_is : new.silence.quiet ≡ 0) (start : new.start ≡ old.start)
        (broken : new.broken ≡ (old.broken || (nat_lt old.gap old.silence.quiet
        || nat_le 256 (length old.bytes.items))))
        (bytes : new.broken ≡ false → new.bytes.items ≡ old.bytes.items ++ b ∷ []) where
      was_whole : new.broken ≡ false → old.broken ≡ false
      was_whole whole = (or_parts _ _ (sym broken ∙ whole)).0

      grown-keeps : (d : Burst) → old.silence.quiet < cut → Keeps cut gap old d
          → Keeps cut gap new (grown_by d old.silence.quiet b)
      grown-keeps d few kept =
          let known : (old.broken || (nat_lt gap old.silence.quiet
          || nat_le 256 (length old.bytes.items)))
          ≡ is_cut_off_frame gap (grown_by d old.silence.quiet b).body =
          grown-is gap cut d.body old.silence.quiet b old.broken
          (nat_le 256 (length old.bytes.items)) kept.contiguous kept.broken_is
          (λ was. ap (λ x. nat_le 256 (length x)) (kept.bytes_are was)) in
          record {
            contiguous = contiguous-more cut d.body old.silence.quiet b kept.contiguous few;
            start_is = start ∙ kept.start_is;
            broken_is = broken
                ∙ (ap (λ g. old.broken || (nat_lt g old.silence.quiet
                || nat_le 256 (length old.bytes.items))) heard.gap_is ∙ known);
            bytes_are = λ whole.
                let was : old.broken ≡ false = was_whole whole in
                bytes whole ∙ (ap (λ x. x ++ b ∷ []) (kept.bytes_are was)
                ∙ sym (grown-bytes d.body old.silence.quiet b));
          }

      goes-on : (running : Option Burst) → IsParted cut old.silence.quiet line heard.closed running
          → IfSome running (λ d. Keeps cut gap old d) → Hears new line (Byte b) []
      goes-on None parted kept =
          let quiet : old.silence.quiet ≡ cut = parted.is_quiet in
          let few : old.silence.quiet < old.silence.cut = leb-false _ _ parts in
          let same = heard.cut_is in
          absurd (omega arith)
      goes-on (Some d) parted kept =
          let few : old.silence.quiet < cut = parted.is_quiet.0 in
          let P : ℕ → Type 0 = λ q. IsParted cut q (line ++ Byte b ∷ []) heard.closed
          (Some (grown_by d old.silence.quiet b)) in
          hears-on (Byte b) (Some (grown_by d old.silence.quiet b))
          (subst P (sym quiet_is)
          (parted-goes_on cut line heard.closed old.silence.quiet b d parted))
          (grown-keeps d few kept)

      pub goes_on : Hears new line (Byte b) []
      goes_on = goes-on heard.running heard.parted heard.kept

    -- ---- a silent tick

    module _ (quiet_is : new.silence.quiet ≡ (if nat_lt old.silence.quiet old.silence.cut
        then old.silence.quiet + 1 else old.silence.quiet)) where
      -- The silent tick ends no burst.
      module _ (waits : old.silence.quiet + 1 == old.silence.cut ≡ false)
          (start : new.start ≡ old.start)
          (broken : new.broken ≡ old.broken) (bytes : new.bytes.items ≡ old.bytes.items) where
        kept-on : (d : Burst) → Keeps cut gap old d → Keeps cut gap new d
        kept-on d kept = record {
          contiguous = kept.contiguous;
          start_is = start ∙ kept.start_is;
          broken_is = broken ∙ kept.broken_is;
          bytes_are = λ whole. bytes ∙ kept.bytes_are (sym broken ∙ whole);
        }

        waits-on : (running : Option Burst)
            → IsParted cut old.silence.quiet line heard.closed running
            → IfSome running (λ d. Keeps cut gap old d) → Hears new line Silent []
        waits-on None parted kept =
            let quiet : old.silence.quiet ≡ cut = parted.is_quiet in
            let same = heard.cut_is in
            let all : old.silence.cut ≤ old.silence.quiet = omega arith in
            let stays : new.silence.quiet ≡ old.silence.quiet =
            quiet_is ∙ cond-false _ _ _ (le-ltb old.silence.quiet old.silence.cut all) in
            let P : ℕ → Type 0 = λ q. IsParted cut q (line ++ Silent ∷ []) heard.closed None in
            hears-on Silent None
            (subst P (sym stays) (parted-rests cut line heard.closed old.silence.quiet parted)) tt
        waits-on (Some d) parted kept =
            let few : old.silence.quiet < cut = parted.is_quiet.0 in
            let same = heard.cut_is in
            let less : old.silence.quiet < old.silence.cut = omega arith in
            let next : new.silence.quiet ≡ old.silence.quiet + 1 =
            quiet_is ∙ cond-true _ _ _ (lt-ltb old.silence.quiet old.silence.cut less) in
            let other = eqb-false (old.silence.quiet + 1) old.silence.cut waits in
            let short : old.silence.quiet + 1 < cut = omega arith in
            let P : ℕ → Type 0 = λ q. IsParted cut q (line ++ Silent ∷ []) heard.closed (Some d) in
            hears-on Silent (Some d)
            (subst P (sym next)
            (parted-waits cut line heard.closed old.silence.quiet d short parted))
            (kept-on d kept)

        pub waits_on : Hears new line Silent []
        waits_on = waits-on heard.running heard.parted heard.kept

      -- The silent tick ends a burst.
      module _ (parts : old.silence.quiet + 1 == old.silence.cut ≡ true) (answer : List FrameRead)
          (tells : answer ≡ frame_at_end old.broken old.start old.bytes.items) where
        ends-with : (running : Option Burst)
            → IsParted cut old.silence.quiet line heard.closed running
            → IfSome running (λ d. Keeps cut gap old d)
            → Hears new line Silent answer
        ends-with None parted kept =
            let quiet : old.silence.quiet ≡ cut = parted.is_quiet in
            let last : old.silence.quiet + 1 ≡ old.silence.cut = eqb-true _ _ parts in
            let same = heard.cut_is in
            absurd (omega arith)
        ends-with (Some d) parted kept =
            let last : old.silence.quiet + 1 ≡ old.silence.cut = eqb-true _ _ parts in
            let at_cut : old.silence.quiet + 1 ≡ cut = last ∙ heard.cut_is in
            let less : old.silence.quiet < old.silence.cut = omega arith in
            let next : new.silence.quiet ≡ cut =
            quiet_is ∙ (cond-true _ _ _ (lt-ltb old.silence.quiet old.silence.cut less) ∙ at_cut) in
            let P : ℕ → Type 0 = λ q. IsParted cut q (line ++ Silent ∷ [])
            (heard.closed ++ d ∷ []) None in
            record {
              stands = stands-on Silent (heard.closed ++ d ∷ []) None
                  (subst P (sym next)
                  (parted-ends cut line heard.closed old.silence.quiet d at_cut parted)) tt;
              is = reads-ends line old.silence.quiet heard.closed d parted at_cut
                  ∙ ap (λ x. reads line ++ x)
                  (sym (tells ∙ gives old.broken old.start old.bytes.items d kept.start_is
                  kept.broken_is
                  kept.bytes_are));
            }

        pub ends : Hears new line Silent answer
        ends = ends-with heard.running heard.parted heard.kept

-- ---- a device that has heard nothing

pub nothing-read : (cut gap : ℕ) → rtu_family_reads cut gap [] ≡ []
unfolding bursts_from
nothing-read cut gap = refl

pub nothing-heard : (cut gap : ℕ) (value : RtuFamily) → 0 < cut → value.silence.cut ≡ cut
    → value.silence.quiet ≡ cut → value.gap ≡ gap → value.ticks ≡ 0
    → RtuFamilyStandsFor cut gap value []
nothing-heard cut gap value some cut_is quiet_is gap_is count =
    let P : ℕ → Type 0 = λ q. IsParted cut q [] [] None in
    record {
      some_cut = some;
      cut_is = cut_is;
      gap_is = gap_is;
      count = count;
      closed = [];
      running = None;
      parted = subst P (sym quiet_is) (parted-nothing cut);
      kept = tt;
    }

-- At the end of a burst that isn't broken, its bytes are read if they are a frame.
pub ended-frame : (broken : Bool) (start : ℕ) (x : List ℕ) → broken ≡ false
    → is_frame x ≡ true
    → (let r : FrameRead = record { start = start; frame = x } in r ∷ [])
    ≡ frame_at_end broken start x
ended-frame true start x whole is = absurd (cc)
ended-frame false start x whole is =
    ap (λ v. cond v (let r : FrameRead = record { start = start; frame = x } in r ∷ []) []) (sym is)

pub ended-none : (broken : Bool) (start : ℕ) (x : List ℕ) → is_frame x ≡ false
    → [] ≡ frame_at_end broken start x
ended-none true start x is = refl
ended-none false start x is =
    ap (λ v. cond v (let r : FrameRead = record { start = start; frame = x } in r ∷ []) []) (sym is)
