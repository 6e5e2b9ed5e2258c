-- What each of several devices on one pair of wires reads.
use Rattle.frame_ending.proofs.LaidBursts.{bursts-laid}
use Rattle.frame_ending.proofs.Spread.{AreSpread, bursts-spread, bursts_from-spread}
use Rattle.frame_ending.specs.{Laid.later, Walk.emitted_by}
use Rattle.device_model.specs.{Frames.FrameRead, Hunt.timed, Hunt.hunt, Hunt.hunt_anew}
use Rattle.device_model.specs.{HuntFamily.hunt_family, HuntLaws.IsHunted, RtuReads.is_frame_body}
use Rattle.device_model.specs.DnpHunted.{dnp_hunted}
use Rattle.device_model.specs.Stated.{StatedDevice, stated_rules, stated_reads, IsStatedWithin}
use Rattle.device_model.specs.Stated.StatedDevice.{rtu, dnp, rtu_member, dnp_member}
use Rattle.device_model.proofs.ReadLaws.{frames_ended}
use Rattle.dnp_link_frame.specs.{Rules.dnp_rules, RulesLaws.dnp_lawful, RulesLaws.dnp_headed}
use Rattle.dnp_link_frame.specs.RulesLaws.{dnp_framed}
use Rattle.line_rules.specs.{Rules.Rules, RulesLaws.IsLawful, RulesLaws.IsHeaded, RulesLaws.IsFramed}
use Rattle.link_format.specs.Profile.{Profile, delay}
use Rattle.link_box.proofs.Apart.{emissions-spread}
use Rattle.link_box.specs.Checking.{checker, at_floor}
use Rattle.poll_laws.proofs.Merging.{AreParted, parted-less, bursts-interleaved, flat-interleaved}
use Rattle.poll_laws.proofs.Merging.{ended-interleaved}
use Rattle.poll_laws.proofs.Parting.{box-apart, deafly-apart, box-parted}
use Rattle.poll_laws.specs.Among.{IsInterleaved, IsInterleaved.none, IsInterleaved.first}
use Rattle.poll_laws.specs.Among.{IsInterleaved.second, AreFrames, AreWhole, TellsApart, ReadsAmong}
use Rattle.poll_laws.specs.Among.{IsOneOfSeveral, IsDeafAmong}
use Rattle.poll_laws.specs.Rested.{EndsSilent}
use Rattle.receiver_laws.proofs.Anew.{anew-hunter}
use Rattle.receiver_laws.proofs.HunterReadings.{plain-hunter, frame-taken, emissions-taken}
use Rattle.receiver_laws.proofs.Hunters.{AreTaken, hunter-laid}
use Rattle.receiver_laws.proofs.Settled.{reads_with, laid-longer, last_end, EndBy-later, EndBy-last}
use Rattle.receiver_laws.proofs.Stated.{stated_lawful}
use Rattle.receiver_laws.specs.Hunters.{IsHunter}
use Rattle.receiver_laws.specs.Accounted.{IsSubsequence, IsSubsequence.none as no_more}
use Rattle.receiver_laws.specs.Accounted.{IsSubsequence.skip, IsSubsequence.keep}
use Rattle.std.proofs.Common.{◌≡◌, ◌∙◌, ◌⊎◌, inl, inr, ℕ, zero, suc, ◌+◌, ◌≤◌, List}
use Rattle.std.proofs.Common.{[], ◌∷◌, ◌++◌, length, map, refl, sym, ap, subst, arith, append_assoc}
use Rattle.two_wire.proofs.{Devices.stated-given, Ends.end-gives, Ends.hears-long, Gating.laid-bursts}
use Rattle.two_wire.proofs.Giving.{later-some-spread}
use Rattle.two_wire.proofs.{Polling.drives-long, Resting.bursts-joined, Sharing.hears-between}
use Rattle.two_wire.specs.Given.{GivesSome}
use Rattle.two_wire.specs.TwoWire.{EndSetup, EndWires, IsTwoWire, heard_link, heard_lines}
use Rattle.two_wire.specs.Turns.{AreWithin}
use Rattle.two_wire.specs.Wires.{hears, drives, AreApart}
use Rattle.yasir_ticks.proofs.BurstLaws.{bursts_from-silent_end}
use Rattle.yasir_ticks.proofs.BurstsOfLaws.{bursts_from-are}
use Rattle.yasir_ticks.specs.{Bursts.Burst, Bursts.bursts, Bursts.bursts_from, Ticks.silent, Ticks.bytes_in}
use Rattle.yasir_ticks.specs.declared.tick.Tick.{Tick, TheVariants.Silent, TheVariants.Byte}

-- ---- what a device hears

part-hears : (box deaf others : List Tick) → AreApart box deaf → length others ≡ length box
    → hears deaf (drives box others) ≡ drives box (hears deaf others)
part-hears [] [] [] apart same = refl
part-hears [] [] (o ∷ others) apart same = absurd (omega arith)
part-hears [] (d ∷ deaf) others apart same = absurd apart
part-hears (x ∷ box) [] others apart same = absurd apart
part-hears (x ∷ box) (d ∷ deaf) [] apart same = absurd (omega arith)
part-hears (Silent ∷ box) (Silent ∷ deaf) (o ∷ others) apart same =
    ap (λ l. o ∷ l) (part-hears box deaf others apart.1 (omega arith))
part-hears (Silent ∷ box) (Byte d ∷ deaf) (o ∷ others) apart same =
    ap (λ l. Silent ∷ l) (part-hears box deaf others apart.1 (omega arith))
part-hears (Byte b ∷ box) (Silent ∷ deaf) (o ∷ others) apart same =
    ap (λ l. Byte b ∷ l) (part-hears box deaf others apart.1 (omega arith))
part-hears (Byte b ∷ box) (Byte d ∷ deaf) (o ∷ others) apart same = absurd apart.0

hears-within : (deaf others : List Tick) → length deaf ≡ length others
    → AreWithin (hears deaf others) others
hears-within [] [] same = tt
hears-within [] (o ∷ others) same = absurd (omega arith)
hears-within (d ∷ deaf) [] same = absurd (omega arith)
hears-within (Silent ∷ deaf) (Silent ∷ others) same = (tt, hears-within deaf others (omega arith))
hears-within (Silent ∷ deaf) (Byte b ∷ others) same = (tt, hears-within deaf others (omega arith))
hears-within (Byte d ∷ deaf) (o ∷ others) same = (tt, hears-within deaf others (omega arith))

others-within : (own others : List Tick) → AreApart own others → AreWithin others (drives own others)
others-within [] [] apart = tt
others-within [] (o ∷ others) apart = absurd apart
others-within (x ∷ own) [] apart = absurd apart
others-within (Silent ∷ own) (Silent ∷ others) apart = (tt, others-within own others apart.1)
others-within (Silent ∷ own) (Byte o ∷ others) apart = (tt, others-within own others apart.1)
others-within (Byte b ∷ own) (Silent ∷ others) apart = (tt, others-within own others apart.1)
others-within (Byte b ∷ own) (Byte o ∷ others) apart = absurd apart.0

apart-long : (own others : List Tick) → AreApart own others → length own ≡ length others
apart-long [] [] apart = refl
apart-long [] (o ∷ others) apart = absurd apart
apart-long (x ∷ own) [] apart = absurd apart
apart-long (x ∷ own) (o ∷ others) apart = let rest = apart-long own others apart.1 in omega arith

-- ---- a device that takes silence for the end

module _ (gap : ℕ) (box others : List Tick) (parted : AreParted gap box others)
    (same : length box ≡ length others) where
  pub cut-reads : (cut pause : ℕ) → cut ≤ gap
      → IsInterleaved (reads_with cut pause (drives box others)) (reads_with cut pause box)
      (reads_with cut pause others)
  cut-reads cut pause few =
      let long = drives-long box others same in
      let ds : List Burst = bursts_from cut 0 (drives box others) in
      let all = ended-interleaved cut (λ d. is_frame_body pause d.body) (length box)
      (bursts-interleaved cut box others (parted-less cut gap box others few parted)) in
      let R : ℕ → List Burst → List FrameRead =
      λ m xs. frames_ended cut (λ d. is_frame_body pause d.body) m xs in
      subst (λ m. IsInterleaved (R m ds) (R (length box) (bursts_from cut 0 box))
      (reads_with cut pause others)) (sym long)
      (subst (λ m. IsInterleaved (R (length box) ds) (R (length box) (bursts_from cut 0 box))
      (R m (bursts_from cut 0 others))) same all)

  pub anew-reads : (first_byte second_byte : ℕ) (rules : Rules) (cut : ℕ) → cut ≤ gap
      → IsInterleaved (hunt_anew first_byte second_byte rules cut 0 (drives box others))
      (hunt_anew first_byte second_byte rules cut 0 box)
      (hunt_anew first_byte second_byte rules cut 0 others)
  anew-reads first_byte second_byte rules cut few =
      flat-interleaved (λ d. hunt first_byte second_byte rules 0 (timed d.start d.body))
      (bursts-interleaved cut box others (parted-less cut gap box others few parted))

-- ---- a device that hunts among whole frames

module _ (first_byte second_byte : ℕ) (rules : Rules) (lawful : IsLawful rules)
    (headed : IsHeaded rules) (framed : IsFramed rules)
    (hunted : IsHunted first_byte second_byte rules) where
  abbrev Taken : List Burst → Type 0
  Taken ds = AreTaken first_byte second_byte rules ds

  both-taken : {z x y : List Burst} → IsInterleaved z x y → Taken x → Taken y → Taken z
  both-taken none one two = tt
  both-taken (first is) one two = (one.0, both-taken is one.1 two)
  both-taken (second is) one two = (two.0, both-taken is one two.1)

  frames-taken : (ds : List Burst) → AreFrames rules ds → Taken ds
  frames-taken [] frames = tt
  frames-taken (d ∷ ds) frames = (
    frame-taken first_byte second_byte rules headed framed hunted (bytes_in d.body) frames.0,
    frames-taken ds frames.1,
  )

  some-taken : (late : ℕ) {xs ys : List Burst} → IsSubsequence xs ys → Taken ys
      → Taken (map (later late) xs)
  some-taken late no_more taken = tt
  some-taken late (skip is) taken = some-taken late is taken.1
  some-taken late (keep is) taken = (taken.0, some-taken late is taken.1)

  front-taken : (xs ys : List Burst) → Taken (xs ++ ys) → Taken xs
  front-taken [] ys taken = tt
  front-taken (x ∷ xs) ys taken = (taken.0, front-taken xs ys taken.1)

  -- A line that ends with two silent ticks has only whole bursts of those that are laid on it.
  given-taken : (profile : Profile) (floor late : ℕ) (link given : List Tick)
      → GivesSome profile rules floor late link given → EndsSilent 2 given
      → Taken (bursts_from 2 0 given)
  given-taken profile floor late link given some ended =
      let es : List Burst = emitted_by (checker profile rules) (at_floor floor) (bursts link) in
      let gs : List Burst = map (later late) some.bursts_given in
      let wide : 2 ≤ delay profile = omega arith in
      let spread : AreSpread 2 0 gs = later-some-spread 2 late some.among
      (emissions-spread profile rules lawful 2 (omega arith) wide (at_floor floor) 0 0
      (bursts link) (bursts-spread link) (omega arith)) in
      let taken : Taken gs = some-taken late some.among
      (emissions-taken first_byte second_byte rules headed framed hunted profile lawful
      (at_floor floor) 0 (bursts link) (bursts-spread link)) in
      let m : ℕ = length link in
      let n : ℕ = m + last_end gs in
      let longer = laid-longer gs m (last_end gs) n refl in
      let ends : last_end gs ≤ n = omega arith in
      let x : List Tick = ended.front in
      let k : ℕ = length x + 2 in
      let sum : 0 + (length x + 2) ≡ k = omega arith in
      let two : 2 ≤ 2 = omega arith in
      let whole : bursts_from 2 0 (x ++ (silent 2 ++ longer.0)) ≡ gs =
      ap (bursts_from 2 0) (sym (append_assoc x (silent 2) longer.0)
      ∙ (ap (λ l. l ++ longer.0) (sym ended.is ∙ some.is) ∙ sym longer.1))
      ∙ bursts-laid 2 n gs spread (EndBy-later (last_end gs) n gs ends (EndBy-last gs)) in
      let parts : bursts_from 2 0 x ++ bursts_from 2 k longer.0 ≡ gs =
      sym (bursts-joined 2 0 k 2 x longer.0 two sum) ∙ whole in
      let P : List Burst → Type 0 = λ ds. Taken ds in
      subst P (sym (ap (bursts_from 2 0) ended.is ∙ bursts_from-silent_end 2 0 2 x))
      (front-taken (bursts_from 2 0 x) (bursts_from 2 k longer.0) (subst P (sym parts) taken))

  module _ (read : ℕ → List Tick → List FrameRead)
      (hunter : IsHunter first_byte second_byte rules read) where
    abbrev R : ℕ → List Burst → List FrameRead
    R m ds = frames_ended 0 (λ d. rules.is_frame (bytes_in d.body)) m ds

    reads-bursts : (line : List Tick) → Taken (bursts_from 2 0 line)
        → read 0 line ≡ R (length line) (bursts_from 2 0 line)
    reads-bursts line taken =
        let ds : List Burst = bursts_from 2 0 line in
        ap (read 0) (laid-bursts 2 line ds (bursts_from-are 2 0 line))
        ∙ hunter-laid first_byte second_byte rules headed framed hunted read hunter (length line) ds
        (bursts_from-spread 2 0 line) taken

    hunter-reads : (box others : List Tick) → AreParted 2 box others → length box ≡ length others
        → Taken (bursts_from 2 0 box) → Taken (bursts_from 2 0 others)
        → IsInterleaved (read 0 (drives box others)) (read 0 box) (read 0 others)
    hunter-reads box others parted same one two =
        let is = bursts-interleaved 2 box others parted in
        let long = drives-long box others same in
        let ds : List Burst = bursts_from 2 0 (drives box others) in
        let all = ended-interleaved 0 (λ d. rules.is_frame (bytes_in d.body)) (length box) is in
        subst (λ l. IsInterleaved l (read 0 box) (read 0 others))
        (sym (reads-bursts (drives box others) (both-taken is one two) ∙ ap (λ m. R m ds) long))
        (subst (λ l. IsInterleaved (R (length box) ds) l (read 0 others)) (sym (reads-bursts box one))
        (subst (λ l. IsInterleaved (R (length box) ds) (R (length box) (bursts_from 2 0 box)) l)
        (sym (reads-bursts others two ∙ ap (λ m. R m (bursts_from 2 0 others)) (sym same))) all))

  pub family-reads : (cut : ℕ) → (cut ≡ 0) ⊎ (2 ≤ cut) → (box others : List Tick)
      → AreParted 2 box others → length box ≡ length others → Taken (bursts_from 2 0 box)
      → Taken (bursts_from 2 0 others)
      → IsInterleaved (hunt_family first_byte second_byte rules cut (drives box others))
      (hunt_family first_byte second_byte rules cut box)
      (hunt_family first_byte second_byte rules cut others)
  family-reads zero member = hunter-reads
      (λ n line. hunt first_byte second_byte rules 0 (timed n line))
      (plain-hunter first_byte second_byte rules)
  family-reads (suc cut) (inl never) = absurd (omega arith)
  family-reads (suc cut) (inr wide) = hunter-reads
      (λ n line. hunt_anew first_byte second_byte rules (suc cut) n line)
      (anew-hunter (suc cut) wide first_byte second_byte rules)

-- ---- the stated devices

module _ (profile : Profile) (floor late : ℕ) (link box others : List Tick) (gap : ℕ)
    (some : 2 ≤ gap) (parted : AreParted gap box others) (same : length box ≡ length others) where
  abbrev Interleaves : (List Tick → List FrameRead) → Type 0
  Interleaves reads = IsInterleaved (reads (drives box others)) (reads box) (reads others)

  dnp-whole : (cut : ℕ) → (cut ≡ 0) ⊎ (2 ≤ cut) → GivesSome profile dnp_rules floor late link box
      → AreWhole dnp_rules box others
      → Interleaves (λ l. hunt_family 0x05 0x64 dnp_rules cut l)
  dnp-whole cut member gives whole =
      family-reads 0x05 0x64 dnp_rules dnp_lawful dnp_headed dnp_framed dnp_hunted cut member box
      others (parted-less 2 gap box others some parted) same
      (given-taken 0x05 0x64 dnp_rules dnp_lawful dnp_headed dnp_framed dnp_hunted profile floor late
      link box gives whole.ended)
      (frames-taken 0x05 0x64 dnp_rules dnp_lawful dnp_headed dnp_framed dnp_hunted
      (bursts_from 2 0 others) whole.frames)

  dnp-cut : (cut : ℕ) → (2 ≤ cut) × (cut ≤ gap)
      → Interleaves (λ l. hunt_family 0x05 0x64 dnp_rules cut l)
  dnp-cut zero few = let wide : 2 ≤ 0 = few.0 in absurd (omega arith)
  dnp-cut (suc cut) few = anew-reads gap box others parted same 0x05 0x64 dnp_rules (suc cut) few.1

  pub stated-interleaved : (device : StatedDevice) → IsStatedWithin (delay profile) device
      → GivesSome profile (stated_rules device) floor late link box → TellsApart gap box others device
      → Interleaves (stated_reads device)
  stated-interleaved rtu any gives tells = cut-reads gap box others parted same 4 2 tells
  stated-interleaved dnp any gives tells = dnp-whole 0 (inl refl) gives tells
  stated-interleaved (rtu_member cut inside) any gives tells =
      cut-reads gap box others parted same cut (suc inside) tells
  stated-interleaved (dnp_member cut) any gives (inl few) = dnp-cut cut few
  stated-interleaved (dnp_member cut) any gives (inr whole) = dnp-whole cut any gives whole

-- ---- beside a box

module _ (device : StatedDevice) (end : EndSetup)
    (within : IsStatedWithin (delay end.incoming) device) (w : EndWires) (seal_floor : ℕ)
    (line : List Tick) (is : IsTwoWire (stated_rules device) end w) where
  gives : GivesSome end.incoming (stated_rules device) end.got_floor end.late (heard_link w)
      w.to_device
  gives = end-gives (stated_rules device) (stated_lawful device) end (heard_lines w) is.drives_lines

  reads-among : (gap : ℕ) → 2 ≤ gap → (heard others : List Tick)
      → heard ≡ drives w.to_device others → AreParted gap w.to_device others
      → length w.to_device ≡ length others
      → TellsApart gap w.to_device others device → ReadsAmong device end w heard others seal_floor line
  reads-among gap some heard others heard_is parted same tells = record {
    said = stated-given device end.incoming within seal_floor end.got_floor end.late line
        (heard_link w) w.to_device gives;
    among = subst (λ l. IsInterleaved (stated_reads device l) (stated_reads device w.to_device)
        (stated_reads device others)) (sym heard_is)
        (stated-interleaved end.incoming end.got_floor end.late (heard_link w) w.to_device others gap
        some parted same device within gives tells);
  }

  pub one-of-several : (gap : ℕ) (own others : List Tick) → IsOneOfSeveral gap end w own others
      → TellsApart gap w.to_device others device
      → ReadsAmong device end w (hears own w.device_wires) others seal_floor line
  one-of-several gap own others one tells =
      let all : List Tick = drives own others in
      let turns = one.shares.turns in
      let wires = one.shares.wires_are in
      let long = apart-long own others one.apart in
      let sum = drives-long own others long in
      let same = turns.same_ticks in
      reads-among gap one.apart_from_box.some (hears own w.device_wires) others
      (ap (hears own) wires ∙ hears-between w.to_device own others
      (box-apart (stated_rules device) end w is all wires turns) one.apart)
      (box-parted (stated_rules device) end w is all wires turns gap one.apart_from_box others
      (omega arith) (others-within own others one.apart))
      (omega arith) tells

  pub deaf-among : (gap : ℕ) (others deaf : List Tick) → IsDeafAmong gap end w others deaf
      → TellsApart gap w.to_device (hears deaf others) device
      → ReadsAmong device end w (hears deaf w.device_wires) (hears deaf others) seal_floor line
  deaf-among gap others deaf among tells =
      let turns = among.deafly.turns in
      let wires = among.wires_are in
      let same = turns.same_ticks in
      let deafness = among.deafly.deaf_ticks in
      let long = hears-long deaf others deafness in
      reads-among gap among.apart_from_box.some (hears deaf w.device_wires) (hears deaf others)
      (ap (hears deaf) wires ∙ part-hears w.to_device deaf others
      (deafly-apart (stated_rules device) end w is others wires turns deaf among.deafly) same)
      (box-parted (stated_rules device) end w is others wires turns gap among.apart_from_box
      (hears deaf others) (omega arith) (hears-within deaf others deafness))
      (omega arith) tells
