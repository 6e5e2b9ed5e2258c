-- A device behind the receiver that hunts for frames reads only what passed: the hunt takes each
-- burst that leaves as a whole, and reads nothing of a refused one.
use Rattle.frame_ending.{proofs.Spread.AreSpread, proofs.Spread.bursts-spread, specs.Walk.emitted_by}
use Rattle.device_model.proofs.Heads.{head-good, head-bad, good-long, good-header, header-more}
use Rattle.device_model.proofs.HuntCases.{good-starts, good-room, good-size}
use Rattle.device_model.proofs.HuntSteps.{timed-append}
use Rattle.device_model.proofs.Hunts.{begins-more, begins-front, hunt-none, taken-is}
use Rattle.device_model.{proofs.ReadLaws.frames_ended, specs.Frames.FrameRead}
use Rattle.device_model.specs.Hunt.{timed, header_hunted, begins, hunt, hunt_line}
use Rattle.{device_model.specs.HuntLaws.IsHunted, frame_ending.proofs.LiveTicks.live_ticks-bytes}
use Rattle.frame_ending.proofs.{Pauses.contiguous-ends, Rooms.within_room-fit}
use Rattle.frame_ending.specs.LiveBytes.{live_bytes, live_ticks, spelled}
use Rattle.line_rules.specs.Rules.{Rules, head_of, lacking_of, lacking_by}
use Rattle.line_rules.specs.RulesLaws.{IsLawful, IsHeaded, IsFramed}
use Rattle.line_rules.specs.{Spoiling.IsSpoiling, declared.head.Head.TheVariants.Good}
use Rattle.{line_rules.specs.declared.head.Head.TheVariants.Bad, link_format.specs.Profile.Profile}
use Rattle.link_box.proofs.{Apart.emissions-spread, Judging.checked-busy}
use Rattle.link_box.proofs.{Judging.checked-short, Judging.checked-bad, Passing.passed-passing}
use Rattle.link_box.proofs.Spoiled.{spoiled-ended, spoiled-no_frame, filled-contiguous}
use Rattle.link_box.specs.Checking.{state_by, checker, at_floor, received_line}
use Rattle.link_box.specs.Emissions.{spoiled, owed, filled_ticks, emission_by}
use Rattle.link_box.specs.Verdicts.{CheckState, Verdict, checked}
use Rattle.link_box.specs.Verdicts.Verdict.{passed_with, refused, dropped}
use Rattle.link_box.specs.declared.check_note.DroppedWhy.TheVariants.{Busy, Head as NoHead}
use Rattle.link_box.specs.declared.check_note.RefusedWhy.{RefusedWhy}
use Rattle.receiver_laws.proofs.Hunters.{IsTaken, AreTaken, hunter-laid, timed-silent_ticks}
use Rattle.receiver_laws.proofs.Readings.{whole, wrong, reads_what_passed}
use Rattle.receiver_laws.specs.{Hunters.IsHunter, Reading.ReadsWhatPassed}
use Rattle.std.proofs.Common.{◌≡◌, ◌∙◌, ℕ, suc, ◌+◌, ◌-◌, ◌<◌, ◌≤◌, true, false, List, [], ◌∷◌}
use Rattle.std.proofs.Common.{◌++◌, length, take, replicate, refl, sym, ap, subst, arith, ⊎_elim}
use Rattle.std.proofs.Common.{length-append, zero}
use Rattle.std.proofs.lemmas.Bool.{cases_lt, cases_Bool}
use Rattle.std.proofs.lemmas.List.{append-nil, take_all, length-replicate}
use Rattle.yasir_ticks.{proofs.SilenceLaws.bytes_in-append, specs.Bursts.Burst}
use Rattle.yasir_ticks.specs.{Bursts.bursts, Bursts.end_of, BurstsOf.IsContiguous, Ticks.bytes_in}
use Rattle.yasir_ticks.specs.declared.tick.Tick.{Tick, TheVariants.Byte}

-- ---- the hunt itself

pub plain-hunter : (first second : ℕ) (rules : Rules)
    → IsHunter first second rules (λ n line. hunt first second rules 0 (timed n line))
plain-hunter first second rules = record {
  none = λ n. hunt-none first second rules 0;
  waits = λ n k x. ap (hunt first second rules 0) (timed-silent_ticks n (n + k) k x refl);
  takes = λ n m x more frames contiguous at takes.
      ap (hunt first second rules 0) (timed-append n m x more at) ∙ takes (timed m more);
  breaks_off = λ n x front none. none;
}

module _ (first second : ℕ) (rules : Rules) (headed : IsHeaded rules) (framed : IsFramed rules)
    (hunted : IsHunted first second rules) where
  -- ---- bytes that are taken together

  pub frame-taken : (x : List ℕ) → rules.is_frame x ≡ true → IsTaken first second rules x
  frame-taken x is =
      let head = framed.good_header x is in
      let long = good-long rules x head in
      let good = good-header rules x head in
      let starts = good-starts first second rules headed hunted x good in
      record {
        starts = starts;
        whole = taken-is first second rules Good x starts head
            ∙ (sym (good-size first second rules headed hunted x long good) ∙ framed.whole x is);
      }

  -- For bytes `x` with a good header: filled up to their size they are `h` and a last byte `a`,
  -- which is then spoiled.
  module _ (x zeros h : List ℕ) (a : ℕ) (head : head_of rules x ≡ Good)
      (fits : length x ≤ rules.room x) (all : h ++ a ∷ [] ≡ x ++ zeros)
      (count : length zeros ≡ lacking_of rules x) where
    abbrev last : ℕ
    last = rules.spoil h a

    abbrev size : ℕ
    size = rules.size (header_hunted rules x)

    long : rules.header_len ≤ length x
    long = good-long rules x head

    good : rules.is_good_header (header_hunted rules x) ≡ true
    good = good-header rules x head

    room-is : rules.room x ≡ size
    room-is = good-room first second rules headed hunted x long good

    left-is : lacking_of rules x ≡ size - length x
    left-is =
        ap (λ k. lacking_by k (rules.size x - length x)) head
        ∙ ap (λ n. n - length x) (good-size first second rules headed hunted x long good)

    length-is : suc (length h) ≡ size
    length-is =
        let whole = ap length all in
        let left = length-append h (a ∷ []) in
        let right = length-append x zeros in
        let room = room-is in
        let lacking = left-is in
        omega arith

    spoiled-long : rules.header_len ≤ length h → IsTaken first second rules (h ++ last ∷ [])
    spoiled-long within =
        let w : List ℕ = h ++ last ∷ [] in
        let same : header_hunted rules w ≡ header_hunted rules x =
        header-more rules h (last ∷ []) within
        ∙ (sym (header-more rules h (a ∷ []) within)
        ∙ (ap (header_hunted rules) all ∙ header-more rules x zeros long)) in
        let is_good : rules.is_good_header (header_hunted rules w) ≡ true =
        ap rules.is_good_header same ∙ good in
        let sum = length-append h (last ∷ []) in
        let whole = length-is in
        let enough : rules.header_len ≤ length w = omega arith in
        let starts = good-starts first second rules headed hunted w is_good in
        let same_size : size ≡ length w = omega arith in
        record {
          starts = starts;
          whole = taken-is first second rules Good w starts (head-good rules w enough is_good)
              ∙ (ap rules.size same ∙ same_size);
        }

    -- If the header is the whole frame, it is spoiled, and so a bad one.
    spoiled-header : length h < rules.header_len → IsTaken first second rules (h ++ last ∷ [])
    spoiled-header few =
        let w : List ℕ = h ++ last ∷ [] in
        let begun : List ℕ = h ++ a ∷ [] in
        let whole = length-is in
        let room = room-is in
        let lacking = left-is in
        let header = long in
        let bound = headed.room_for_header x in
        let bare : suc (length h) ≡ rules.header_len = omega arith in
        let none : length zeros ≡ 0 = omega arith in
        let same : begun ≡ x = all ∙ (ap (λ y. x ++ y) (empty zeros none) ∙ append-nil x) in
        let exact : length x ≡ rules.header_len = omega arith in
        let itself : header_hunted rules x ≡ x = take_all rules.header_len x (omega arith) in
        let is_good : rules.is_good_header begun ≡ true =
        ap rules.is_good_header (same ∙ sym itself) ∙ good in
        let sized : rules.size begun ≡ rules.header_len =
        ap rules.size (same ∙ sym itself) ∙ (sym whole ∙ bare) in
        let bad : rules.is_good_header w ≡ false = hunted.spoils h a bare is_good sized in
        let sum = length-append h (last ∷ []) in
        let enough : rules.header_len ≤ length w = omega arith in
        let cut : header_hunted rules w ≡ w = take_all rules.header_len w (omega arith) in
        let within = hunted.start_within in
        let two : 2 ≤ length h = omega arith in
        let front : begins first second h ≡ true =
        begins-front first second h (a ∷ []) two (hunted.starts begun is_good) in
        let starts : begins first second w ≡ true =
        begins-more first second h (last ∷ []) front in
        let exact_size : rules.header_len ≡ length w = omega arith in
        record {
          starts = starts;
          whole = taken-is first second rules Bad w starts
              (head-bad rules w enough (ap rules.is_good_header cut ∙ bad)) ∙ exact_size;
        }
      where
        empty : (y : List ℕ) → length y ≡ 0 → y ≡ []
        empty [] none = refl
        empty (b ∷ y) none = absurd (omega arith)

    pub spoiled-taken : IsTaken first second rules (h ++ last ∷ [])
    spoiled-taken = ⊎_elim spoiled-header spoiled-long (cases_lt (length h) rules.header_len)

  -- ---- what leaves

  module _ (profile : Profile) (lawful : IsLawful rules) where
    passed-taken : (s : CheckState) (d : Burst) (n : ℕ)
        → checked profile rules s d ≡ passed_with n
        → IsTaken first second rules (bytes_in (live_ticks rules d))
    passed-taken s d n is =
        let P : List ℕ → Type 0 = λ x. IsTaken first second rules x in
        subst P (sym (live_ticks-bytes rules d))
        (frame-taken (live_bytes rules d) (passed-passing profile rules s d n is).framed)

    -- A refused burst has a good header.
    refused-head : (s : CheckState) (d : Burst) (why : RefusedWhy)
        → checked profile rules s d ≡ refused why
        → head_of rules (live_bytes rules d) ≡ Good
    refused-head s d why is =
        ⊎_elim
        (λ busy. let same : dropped Busy ≡ refused why =
        sym (checked-busy profile rules s d busy) ∙ is in cc)
        (λ late. ⊎_elim
        (λ short. let same : dropped NoHead ≡ refused why =
        sym (checked-short profile rules s d late short) ∙ is in cc)
        (λ enough. ⊎_elim
        (λ right. head-good rules (live_bytes rules d) enough right)
        (λ bad. let same : dropped NoHead ≡ refused why =
        sym (checked-bad profile rules s d late enough bad) ∙ is in cc)
        (cases_Bool (rules.is_good_header (take rules.header_len (live_bytes rules d)))))
        (cases_lt (length (live_bytes rules d)) rules.header_len))
        (cases_lt d.start s.earliest_start)

    live-room : (d : Burst) → length (live_bytes rules d) ≤ rules.room (live_bytes rules d)
    live-room d =
        let fit = within_room-fit rules lawful (spelled d) in
        ⊎_elim (λ whole. whole.1) (λ full. omega arith) fit.room

    fill-bytes : (n : ℕ) → bytes_in (replicate n (Byte 0)) ≡ replicate n 0
    fill-bytes zero = refl
    fill-bytes (suc n) = ap (λ x. 0 ∷ x) (fill-bytes n)

    refused-taken : (s : CheckState) (d : Burst) (why : RefusedWhy) → IsContiguous 4 d.body
        → checked profile rules s d ≡ refused why
        → IsTaken first second rules (bytes_in (spoiled rules [] (filled_ticks rules d)))
    refused-taken s d why contiguous is =
        let x : List ℕ = live_bytes rules d in
        let zeros : List ℕ = replicate (owed rules d) 0 in
        let end = contiguous-ends 2 (filled_ticks rules d)
        (filled-contiguous rules lawful d contiguous) in
        let w : List Tick = end.0 in
        let a : ℕ = end.1 in
        let h : List ℕ = bytes_in w in
        let filled : bytes_in (filled_ticks rules d) ≡ x ++ zeros =
        bytes_in-append (live_ticks rules d) (replicate (owed rules d) (Byte 0))
        ∙ (ap (λ y. y ++ bytes_in (replicate (owed rules d) (Byte 0))) (live_ticks-bytes rules d)
        ∙ ap (λ y. x ++ y) (fill-bytes (owed rules d))) in
        let all : h ++ a ∷ [] ≡ x ++ zeros =
        sym (bytes_in-append w (Byte a ∷ [])) ∙ (sym (ap bytes_in end.2) ∙ filled) in
        let leaves : bytes_in (spoiled rules [] (filled_ticks rules d))
        ≡ h ++ rules.spoil h a ∷ [] =
        ap (λ y. bytes_in (spoiled rules [] y)) end.2
        ∙ (ap bytes_in (spoiled-ended rules [] w a)
        ∙ bytes_in-append w (Byte (rules.spoil h a) ∷ [])) in
        let P : List ℕ → Type 0 = λ y. IsTaken first second rules y in
        subst P (sym leaves)
        (spoiled-taken x zeros h a (refused-head s d why is) (live-room d) all
        (length-replicate (owed rules d) 0))

    pub emission-taken : (s : CheckState) (d : Burst) (v : Verdict) (es : List Burst)
        → IsContiguous 4 d.body → checked profile rules s d ≡ v
        → AreTaken first second rules es
        → AreTaken first second rules (emission_by profile rules d v ++ es)
    emission-taken s d (passed_with n) es contiguous is taken = (passed-taken s d n is, taken)
    emission-taken s d (refused why) es contiguous is taken =
        (refused-taken s d why contiguous is, taken)
    emission-taken s d (dropped why) es contiguous is taken = taken

    pub emissions-taken : (s : CheckState) (n : ℕ) (ds : List Burst) → AreSpread 4 n ds
        → AreTaken first second rules (emitted_by (checker profile rules) s ds)
    emissions-taken s n [] spread = tt
    emissions-taken s n (d ∷ ds) spread =
        let v : Verdict = checked profile rules s d in
        let next : CheckState = state_by profile rules s d v in
        emission-taken s d v (emitted_by (checker profile rules) next ds) spread.1 refl
        (emissions-taken next (end_of d + 4) ds spread.2)

    -- ---- what a device reads

    pub whole-frame : (s : CheckState) (d : Burst) (n : ℕ) → IsContiguous 4 d.body
        → checked profile rules s d ≡ passed_with n
        → rules.is_frame (bytes_in (whole profile rules d).body) ≡ true
    whole-frame s d n contiguous is =
        ap rules.is_frame (live_ticks-bytes rules d)
        ∙ (passed-passing profile rules s d n is).framed

    pub wrong-frame : IsSpoiling rules → (s : CheckState) (d : Burst) (why : RefusedWhy)
        → IsContiguous 4 d.body → checked profile rules s d ≡ refused why
        → rules.is_frame (bytes_in (wrong profile rules d).body) ≡ false
    wrong-frame spoiling s d why contiguous is =
        spoiled-no_frame rules 2 [] (filled_ticks rules d) spoiling
        (filled-contiguous rules lawful d contiguous)

    module _ (spoiling : IsSpoiling rules) (read : ℕ → List Tick → List FrameRead)
        (hunter : IsHunter first second rules read) where
      link-read : (floor : ℕ) (link : List Tick)
          → read 0 (received_line profile rules floor link)
          ≡ frames_ended 0 (λ d. rules.is_frame (bytes_in d.body)) (length link)
          (emitted_by (checker profile rules) (at_floor floor) (bursts link))
      link-read floor link =
          hunter-laid first second rules headed framed hunted read hunter (length link)
          (emitted_by (checker profile rules) (at_floor floor) (bursts link))
          (emissions-spread profile rules lawful 2 (omega arith) (omega arith) (at_floor floor) 0 0
          (bursts link) (bursts-spread link) (omega arith))
          (emissions-taken (at_floor floor) 0 (bursts link) (bursts-spread link))

      pub hunter_reads_what_passed : (floor : ℕ) (link : List Tick)
          → ReadsWhatPassed rules (read 0) 0 profile floor link
      hunter_reads_what_passed floor link =
          reads_what_passed profile rules lawful 0 (omega arith)
          (λ d. rules.is_frame (bytes_in d.body)) whole-frame (wrong-frame spoiling) floor (read 0)
          (link-read floor) link

    -- The hunt itself reads what passed.
    pub hunt_reads_what_passed : IsSpoiling rules → (floor : ℕ) (link : List Tick)
        → ReadsWhatPassed rules (hunt_line first second rules) 0 profile floor link
    hunt_reads_what_passed spoiling floor link =
        hunter_reads_what_passed spoiling
        (λ n line. hunt first second rules 0 (timed n line))
        (plain-hunter first second rules) floor link
