-- A link that is left alone works again: the packets on it that are due pass.
use Rattle.frame_ending.proofs.Spread.{AreSpread, EndBy, bursts-spread, bursts-end}
use Rattle.frame_ending.proofs.Spread.{bursts_from-spread}
use Rattle.frame_ending.proofs.Walks.{emitted-append, state_after-append}
use Rattle.frame_ending.specs.Walk.{walked, emitted_by, state_after, notes_before}
use Rattle.frame_ending.proofs.{LiveTicks.live_end-within, Rooms.within_room-fit}
use Rattle.frame_ending.specs.LiveBytes.{before_pause, spelled, live_bytes}
use Rattle.line_rules.specs.{Bytes.AreBytes, Rules.Rules, RulesLaws.IsLawful, RulesLaws.IsFramed}
use Rattle.link_format.proofs.Profiles.{length-trailer}
use Rattle.link_format.specs.NumberedFrame.{NumberedFrame, last_number}
use Rattle.link_format.specs.Profile.{Profile, HasTags, pause_len, trailer_len, trailer, delay}
use Rattle.link_box.specs.Checking.{checker, at_floor as check_floor_at, passed}
use Rattle.link_box.specs.{Packet.IsPacket, Verdicts.CheckState}
use Rattle.receiver_laws.proofs.Delivering.{packet-bytes, packet-after}
use Rattle.receiver_laws.proofs.Emitting.{link-bursts, stands-within}
use Rattle.receiver_laws.proofs.InStep.{InStep, stay-in_step, floor-so-far, HaveLeft, free-by}
use Rattle.receiver_laws.proofs.InStep.{floor-within, IsSealedAbove, AreSealedAbove, first-above}
use Rattle.receiver_laws.proofs.{Notes.frames_in, Packets.ends-in, Packets.packet-contained}
use Rattle.receiver_laws.proofs.Packing.{packet, length-trailing}
use Rattle.receiver_laws.proofs.Parting.{are-before, closed-before, parted-by, same-burst}
use Rattle.receiver_laws.proofs.QuietLines.{whole-line, front-long, line-bursts, front-bursts}
use Rattle.receiver_laws.proofs.QuietLines.{some-length, closed-by, start-before, contained-from}
use Rattle.receiver_laws.proofs.QuietLines.{spread-at, spread-in, spread-front, quiet-part, count}
use Rattle.receiver_laws.proofs.Sending.{IsSealed, sealed-is, IsOf, sealed-of, Emits, emits-parted}
use Rattle.receiver_laws.proofs.Standing.{AreOn, bursts-on, ticks-behind, ticks-front, bytes-first}
use Rattle.receiver_laws.specs.Recovery.{all_sealed, floor_after, BeginsPacket, first_quiet}
use Rattle.receiver_laws.specs.Recovery.{IsLeftAlone, LackAtMost, IsDue, Recovers}
use Rattle.receiver_laws.specs.Standing.{StandsOn, numbered_frame}
use Rattle.link_box.specs.Sealing.{SealState, Judgement, judged, sealer, link_line}
use Rattle.link_box.specs.Sealing.{at_floor as seal_floor_at, trailing, forwarded}
use Rattle.link_box.specs.Sealing.{state_by as seal_by, emission_by as sent_by}
use Rattle.link_box.specs.Sealing.Judgement.{sealed_with, unsealed}
use Rattle.link_box.specs.declared.seal_note.UnsealedWhy.TheVariants.{Early, Form, Spent}
use Rattle.std.proofs.Common.{◌≡◌, ◌∙◌, ℕ, ◌+◌, ◌<◌, ◌≤◌, List, [], ◌∷◌, ◌++◌, length, take, drop}
use Rattle.std.proofs.Common.{refl, sym, ap, subst, arith, ⊎_elim, append_assoc, inl, inr}
use Rattle.std.proofs.lemmas.{Bool.eqb-false, List.length-take, List.take_all, List.length-drop}
use Rattle.std.proofs.lemmas.List.Elements.{All-contains, All-nil, All-cons, Contains-append_left}
use Rattle.std.{proofs.lemmas.List.Elements.Contains-append_right, specs.List.All}
use Rattle.{std.specs.List.Contains, yasir_ticks.proofs.BurstLaws.bursts_from-silent_end}
use Rattle.yasir_ticks.proofs.BurstsOfLaws.{bursts_from-are, bursts_from-only}
use Rattle.yasir_ticks.specs.Bursts.{Burst, bursts, bursts_from, end_of, AreClosed}
use Rattle.yasir_ticks.specs.BurstsOf.{IsContiguous, AreBursts}
use Rattle.yasir_ticks.specs.Ticks.{silent, bytes_in, AreTicks}
use Rattle.yasir_ticks.specs.declared.tick.Tick.{Tick, TheVariants.Silent, TheVariants.Byte}

-- ---- bytes of a burst

pause-bytes : (x : List Tick) → AreTicks x → AreBytes (bytes_in (before_pause x))
unfolding before_pause
pause-bytes (Byte b ∷ x) are =
    All-cons (λ b. b < 256) b (bytes_in (before_pause x)) are.0 (pause-bytes x are.1)
pause-bytes (Silent ∷ Byte b ∷ x) are =
    All-cons (λ b. b < 256) b (bytes_in (before_pause x)) are.1.0 (pause-bytes x are.1.1)
pause-bytes x are = All-nil (λ b. b < 256)

module _ (profile : Profile) (rules : Rules) (lawful : IsLawful rules) (most : ℕ)
    (lack : LackAtMost rules most) (l : List Tick) (ticks : AreTicks l) where
  have-left : (m : ℕ) (ds : List Burst) → EndBy m ds → AreOn l ds
      → HaveLeft profile rules (m + delay profile + most) ds
  have-left m [] ends on = tt
  have-left m (d ∷ ds) ends on =
      let P : List Tick → Type 0 = λ x. AreTicks x in
      let end = ends.0 in
      let live = live_end-within rules d in
      let bytes : AreBytes (live_bytes rules d) =
      bytes-first (rules.room (spelled d)) (spelled d)
      (pause-bytes d.body
      (ticks-front d.body on.1 (ticks-behind on.0 (d.body ++ on.1) (subst P on.2 ticks)))) in
      let room : length (live_bytes rules d) ≤ rules.room (live_bytes rules d) =
      ⊎_elim (λ all. all.1) (λ full. omega arith)
      (within_room-fit rules lawful (spelled d)).room in
      let few = lack.lack (live_bytes rules d) bytes room in
      (omega arith, have-left m ds ends.1 on.5)

  -- If bursts of a link end by tick `from`, what the receiver makes of them has left after the
  -- delay and `most` more ticks.
  pub left-by : (from : ℕ) → length l ≡ from
      → HaveLeft profile rules (from + delay profile + most) (bursts l)
  left-by from long =
      let P : ℕ → Type 0 = λ k. EndBy k (bursts l) in
      have-left from (bursts l) (subst P long (bursts-end l))
      (bursts-on l (bursts l) [] l 0 refl refl (bursts_from-are 4 0 l))

-- ---- the law

module _ (profile : Profile) (tags : HasTags profile) (some : 1 ≤ profile.word_len)
    (rules : Rules) (lawful : IsLawful rules) (framing : IsFramed rules) (most : ℕ)
    (lack : LackAtMost rules most) (seal_floor check_floor : ℕ)
    (within : seal_floor ≤ profile.limit) (line link : List Tick) (ticks : AreTicks link)
    (tick : ℕ) (alone : IsLeftAlone profile rules seal_floor check_floor line link tick) where
  abbrev sent : List Tick
  sent = link_line profile rules seal_floor line

  abbrev frames : List NumberedFrame
  frames = all_sealed profile rules seal_floor line

  -- the first of the silent ticks
  abbrev from : ℕ
  from = first_quiet tick

  -- what is on the link after the silent ticks
  abbrev back : List Tick
  back = drop (count tick) (drop from link)

  abbrev begun : SealState
  begun = seal_floor_at seal_floor

  -- the receiver's floor when the link is left alone
  abbrev low : ℕ
  low = floor_after profile rules check_floor (take (tick + 1) link)

  abbrev late-bursts : List Burst
  late-bursts = bursts_from 4 (tick + 1) back

  -- Each sealed frame belongs to a burst of the line.
  of-line : (f : NumberedFrame) → Contains frames f → IsOf profile rules begun (bursts line) f
  of-line f there =
      let P : List Burst → Type 0 = λ ds. IsOf profile rules begun ds f in
      subst P (bursts_from-silent_end 4 0 4 line)
      (sealed-of profile rules (length (line ++ silent 4)) begun (bursts (line ++ silent 4)) f
      there)

  -- ---- what is sent late is sealed, with numbers above the receiver's floor

  abbrev IsNew : Burst → Type 0
  IsNew e = (tick < e.start) × BeginsPacket frames e

  -- If a burst of the line starts where a new packet does, it is sealed with a number above the
  -- receiver's floor.
  sealed-here : (G : List Burst) (x : Burst) (Q : List Burst) (e : Burst)
      → bursts line ≡ G ++ x ∷ Q → e.start ≡ x.start → IsNew e
      → (n : ℕ) × (judged profile rules (state_after (sealer profile rules) begun G) x
      ≡ sealed_with n) × (low < n)
  sealed-here G x Q e is starts new =
      let p = new.1 in
      let f : NumberedFrame = p.frame in
      let at = of-line f p.is_sealed in
      let S : List Burst → Type 0 = λ ds. AreSpread 4 0 ds in
      let first : f.start ≡ at.burst.start = ap (λ (g : NumberedFrame). g.start) at.frame in
      let same : x.start ≡ at.burst.start = sym starts ∙ (sym p.starts ∙ first) in
      let both = same-burst 4 0 G at.front x at.burst Q at.back (sym is ∙ at.is)
      (subst S is (bursts-spread line)) same in
      let begins : f.start ≡ e.start = p.starts in
      let from-there = new.0 in (
        f.number,
        ap (λ g. judged profile rules (state_after (sealer profile rules) begun g) x) both.0
            ∙ (ap (λ d. judged profile rules
            (state_after (sealer profile rules) begun at.front) d) both.1
            ∙ at.sealed),
        All-contains (λ (g : NumberedFrame). tick < g.start → low < g.number) frames f alone.new
            p.is_sealed (omega arith),
      )

  sealed-or : (G : List Burst) (x : Burst) (Q : List Burst) (j : Judgement)
      → bursts line ≡ G ++ x ∷ Q
      → judged profile rules (state_after (sealer profile rules) begun G) x ≡ j
      → ((e : Burst) → Contains (sent_by profile rules x j) e → IsNew e)
      → IsSealedAbove profile rules low (state_after (sealer profile rules) begun G) x
  sealed-or G x Q (unsealed Early) is early new = inl early
  sealed-or G x Q (sealed_with n) is sealed new =
      let e : Burst = packet profile rules n x in
      inr (sealed-here G x Q e is refl (new e (0, omega arith, refl)))
  sealed-or G x Q (unsealed Form) is wrong new =
      let e : Burst = forwarded rules x [] in
      inr (sealed-here G x Q e is refl (new e (0, omega arith, refl)))
  sealed-or G x Q (unsealed Spent) is wrong new =
      let e : Burst = forwarded rules x [] in
      inr (sealed-here G x Q e is refl (new e (0, omega arith, refl)))

  are-sealed : (G xs rest : List Burst) → bursts line ≡ G ++ (xs ++ rest)
      → ((e : Burst)
      → Contains (emitted_by (sealer profile rules) (state_after (sealer profile rules) begun G) xs) e
      → IsNew e)
      → AreSealedAbove profile rules low (state_after (sealer profile rules) begun G) xs
  are-sealed G [] rest is new = tt
  are-sealed G (x ∷ xs) rest is new =
      let t : SealState = state_after (sealer profile rules) begun G in
      let j : Judgement = judged profile rules t x in
      let more : List Burst = emitted_by (sealer profile rules) (seal_by profile rules t x j) xs in
      let next : state_after (sealer profile rules) begun (G ++ x ∷ [])
      ≡ seal_by profile rules t x j =
      state_after-append (sealer profile rules) begun G (x ∷ []) in
      let P : SealState → Type 0 = λ s. AreSealedAbove profile rules low s xs in
      let E : SealState → Type 0 = λ s.
      (e : Burst) → Contains (emitted_by (sealer profile rules) s xs) e → IsNew e in (
        sealed-or G x (xs ++ rest) j is refl
            (λ e there. new e (Contains-append_left (sent_by profile rules x j) more e there)),
        subst P next
            (are-sealed (G ++ x ∷ []) xs rest
            (is ∙ sym (append_assoc G (x ∷ []) (xs ++ rest)))
            (subst E (sym next)
            (λ e there. new e (Contains-append_right (sent_by profile rules x j) more e there)))),
      )

  -- ---- one packet that is due

  module _ (f : NumberedFrame) (there : Contains frames f)
      (due : IsDue profile rules seal_floor check_floor line link tick most f)
    where
      of-burst : IsOf profile rules begun (bursts line) f
      of-burst = of-line f there

      abbrev d : Burst
      d = of-burst.burst

      abbrev n : ℕ
      n = f.number

      -- the transmitter's state before the burst of the packet
      abbrev before : SealState
      before = state_after (sealer profile rules) begun of-burst.front

      its : IsSealed profile rules before d n
      its = sealed-is profile rules before d n of-burst.sealed

      abbrev e : Burst
      e = packet profile rules n d

      whole : IsContiguous 4 d.body
      whole =
          let S : List Burst → Type 0 = λ ds. AreSpread 4 0 ds in
          spread-at 0 of-burst.front d of-burst.back (subst S of-burst.is (bursts-spread line))

      starts : f.start ≡ d.start
      starts = ap (λ (g : NumberedFrame). g.start) of-burst.frame

      -- what is sent before the packet
      abbrev sent-before : List Burst
      sent-before = emitted_by (sealer profile rules) begun of-burst.front

      -- what is sent after the packet
      abbrev sent-after : List Burst
      sent-after = emitted_by (sealer profile rules)
          (seal_by profile rules before d (sealed_with n)) of-burst.back

      sends : emitted_by (sealer profile rules) begun (bursts line) ≡ sent-before ++ e ∷ sent-after
      sends =
          let more : Judgement → List Burst = λ j. sent_by profile rules d j
          ++ emitted_by (sealer profile rules) (seal_by profile rules before d j) of-burst.back in
          ap (λ ds. emitted_by (sealer profile rules) begun ds) of-burst.is
          ∙ (emitted-append (sealer profile rules) begun of-burst.front (d ∷ of-burst.back)
          ∙ ap (λ j. sent-before ++ more j) of-burst.sealed)

      ends : end_of e ≤ length sent
      ends =
          let P : NumberedFrame → Type 0 = λ g. StandsOn profile sent g in
          stands-within profile tags some rules lawful seal_floor line sent-before sent-after d n
          sends whole its.no_extra (subst P of-burst.frame due.whole)

      -- The packet is a burst of what is sent.
      sent-bursts : (X : List Burst) × (bursts sent ≡ sent-before ++ e ∷ X)
      sent-bursts = link-bursts profile tags some rules lawful seal_floor line sent-before e
          sent-after sends ends

      -- So the link goes on after the silent ticks.
      late-enough : tick < f.start
      late-enough = let late = due.late in omega arith

      link-long : tick < length link
      link-long =
          let same = ap length alone.untouched in
          let there = length-drop from link in
          let here = length-drop from sent in
          let end = ends in
          let late = late-enough in
          let start = starts in
          omega arith

      quiet-link : drop from link ≡ silent (count tick) ++ back
      quiet-link = quiet-part tick link link-long alone.quiet

      quiet-sent : drop from sent ≡ silent (count tick) ++ back
      quiet-sent = sym alone.untouched ∙ quiet-link

      -- What is sent before the packet has two parts: from before the silent ticks, and from after
      -- them.
      parted : (M : List Burst) × (sent-before ≡ bursts (take from sent) ++ M)
          × (late-bursts ≡ M ++ e ∷ sent-bursts.0)
      parted =
          let late = due.late in
          let start = starts in
          let long = front-long tick sent back quiet-sent in
          let P : ℕ → Type 0 = λ k. EndBy k (bursts (take from sent)) in
          parted-by from sent-before e sent-bursts.0 (bursts (take from sent)) late-bursts
          (sym sent-bursts.1 ∙ line-bursts tick sent back quiet-sent)
          (start-before 0 from (bursts (take from sent)) (bursts-spread (take from sent))
          (subst P long (bursts-end (take from sent))))
          (omega arith)

      abbrev between : List Burst
      between = parted.0

      -- The bursts of the device's line before it have two parts that emit these.
      emits : Emits profile rules begun of-burst.front (bursts (take from sent)) between
      emits = emits-parted profile rules begun of-burst.front (bursts (take from sent)) between
          parted.1

      abbrev then : SealState
      then = state_after (sealer profile rules) begun emits.front

      same-place : before ≡ state_after (sealer profile rules) then emits.back
      same-place =
          ap (λ ds. state_after (sealer profile rules) begun ds) emits.is
          ∙ state_after-append (sealer profile rules) begun emits.front emits.back

      are-new : (x : Burst) → Contains between x → IsNew x
      are-new x here =
          let S : List Burst → Type 0 = λ ds. Contains ds x in
          let late : Contains late-bursts x =
          subst S (sym parted.2) (Contains-append_left between (e ∷ sent-bursts.0) x here) in
          let all : Contains (bursts sent) x =
          subst S (sym (line-bursts tick sent back quiet-sent))
          (Contains-append_right (bursts (take from sent)) late-bursts x late) in
          let start = contained-from (tick + 1) late-bursts x
          (bursts_from-spread 4 (tick + 1) back) late in
          let soon : tick < x.start = omega arith in (
            soon,
            All-contains (λ (y : Burst). tick < y.start → BeginsPacket frames y)
                (bursts sent) x alone.packets all soon,
          )

      sealed-between : AreSealedAbove profile rules low then emits.back
      sealed-between =
          let E : List Burst → Type 0 = λ l. (x : Burst) → Contains l x → IsNew x in
          are-sealed emits.front emits.back (d ∷ of-burst.back)
          (of-burst.is
          ∙ (ap (λ l. l ++ d ∷ of-burst.back) emits.is
          ∙ append_assoc emits.front emits.back (d ∷ of-burst.back)))
          (subst E (sym emits.rest) are-new)

      spread-between : (m : ℕ) × AreSpread 4 m emits.back
      spread-between =
          let S : List Burst → Type 0 = λ ds. AreSpread 4 0 ds in
          let all = spread-front 0 of-burst.front (d ∷ of-burst.back)
          (subst S of-burst.is (bursts-spread line)) in
          spread-in 0 emits.front emits.back (subst S emits.is all)

      -- ---- the receiver

      abbrev begin : CheckState
      begin = check_floor_at check_floor

      abbrev first : List Burst
      first = bursts (take from link)

      abbrev met : CheckState
      met = state_after (checker profile rules) begin first

      low-is : low ≡ met.floor
      low-is =
          let m : ℕ = length (take (tick + 1) link) in
          let long = front-long tick link back quiet-link in
          let room = some-length tick link back quiet-link in
          let place : tick + 1 ≡ m = omega (arith, length-take (tick + 1) link) in
          let P : ℕ → Type 0 = λ k. EndBy k first in
          let Q : ℕ → Type 0 = λ k. AreClosed 4 k first in
          ap (λ ds. last_number check_floor (frames_in (notes_before m
          (walked (checker profile rules) begin ds))))
          (front-bursts tick link back quiet-link)
          ∙ floor-so-far profile rules m begin first
          (subst Q place
          (closed-by tick 0 first (bursts-spread (take from link))
          (subst P long (bursts-end (take from link)))))

      new-number : low < n
      new-number =
          let late = due.late in
          All-contains (λ (g : NumberedFrame). tick < g.start → low < g.number) frames f alone.new
          there (omega arith)

      abbrev bound : ℕ
      bound = from + delay profile + most

      meets : InStep bound then met
      meets =
          let same = low-is in
          let is : judged profile rules
          (state_after (sealer profile rules) then emits.back) d ≡ sealed_with n =
          ap (λ t. judged profile rules t d) (sym same-place) ∙ of-burst.sealed in
          let floor = first-above profile rules low then emits.back d n sealed-between is new-number
          in
          let P : List Tick → Type 0 = λ x. AreTicks x in
          let bytes : AreTicks (take from link) =
          ticks-front (take from link) (silent (count tick) ++ back)
          (subst P (whole-line tick link back quiet-link) ticks) in
          let free = free-by profile rules bound begin first (omega arith)
          (left-by profile rules lawful most lack (take from link) bytes from
          (front-long tick link back quiet-link)) in
          record { below = omega arith; free = λ x late after. omega arith }

      -- the bursts of the link before the packet, and the receiver's state after them
      abbrev bursts-before : List Burst
      bursts-before = first ++ between

      link-is : bursts link ≡ bursts-before ++ e ∷ sent-bursts.0
      link-is =
          line-bursts tick link back quiet-link
          ∙ (ap (λ l. first ++ l) parted.2
          ∙ sym (append_assoc first between (e ∷ sent-bursts.0)))

      abbrev now : CheckState
      now = state_after (checker profile rules) begin bursts-before

      in-step : InStep bound before now
      in-step =
          let P : SealState → Type 0 = λ t. InStep bound t
          (state_after (checker profile rules) met between) in
          let Q : CheckState → Type 0 = λ s. InStep bound before s in
          let R : List Burst → Type 0 = λ l. InStep bound
          (state_after (sealer profile rules) then emits.back)
          (state_after (checker profile rules) met l) in
          subst Q (sym (state_after-append (checker profile rules) begin first between))
          (subst P (sym same-place)
          (subst R emits.rest
          (stay-in_step profile tags some rules lawful framing bound low spread-between.0 then met
          emits.back sealed-between spread-between.1 meets)))

      floor-now : floor_after profile rules check_floor (take f.start link) ≡ now.floor
      floor-now =
          let m : ℕ = length (take f.start link) in
          let A : List Burst → Type 0 = λ ds. AreBursts 4 0 link ds in
          let S : List Burst → Type 0 = λ ds. AreSpread 4 0 ds in
          let C : ℕ → Type 0 = λ k. AreClosed 4 k bursts-before in
          let E : List Burst → Type 0 = λ ds. EndBy (length link) ds in
          let ends = ends-in (length link) bursts-before e sent-bursts.0
          (subst E link-is (bursts-end link)) in
          let start = starts in
          let count : e.start ≡ m = omega (arith, length-take f.start link) in
          let here : bursts (take f.start link) ≡ bursts-before =
          bursts_from-only 4 0 (take f.start link) bursts-before
          (are-before 4 0 f.start link bursts-before e sent-bursts.0
          (subst A link-is (bursts_from-are 4 0 link)) (omega arith)) in
          ap (λ ds. last_number check_floor (frames_in (notes_before m
          (walked (checker profile rules) begin ds)))) here
          ∙ floor-so-far profile rules m begin bursts-before
          (subst C count
          (closed-before 4 0 bursts-before e sent-bursts.0 (subst S link-is (bursts-spread link))))

      is-packet : IsPacket profile rules now e n
      is-packet =
          let k : ℕ = pause_len + trailer_len profile in
          let t : List ℕ = trailer profile n (live_bytes rules d) in
          let long = length-trailer profile tags n (live_bytes rules d) in
          let all = length-trailing t in
          let bytes = packet-bytes profile tags some rules lawful framing n d whole its.no_extra in
          let late = due.late in
          let start = starts in
          let below = in-step.below in
          let next = its.next in
          let early = its.late in
          let other = eqb-false before.floor profile.limit its.left in
          let limit = floor-within profile rules begun of-burst.front within in
          let near = due.near in
          let floor = floor-now in
          record {
            framed = ap rules.is_frame bytes ∙ its.framed;
            trailed = ap (λ x. take k x)
                (packet-after profile tags some rules lawful framing n d whole its.no_extra)
                ∙ (take_all k (trailing t) (omega arith)
                ∙ ap (λ h. trailing (trailer profile n h)) (sym bytes));
            free = in-step.free d.start (omega arith) early;
            above = omega arith;
            near = omega arith;
            within = omega arith;
          }

      pub due-passes : Contains (passed profile rules check_floor link) f
      due-passes =
          let P : NumberedFrame → Type 0 = λ g. Contains (passed profile rules check_floor link) g
          in
          let bytes = packet-bytes profile tags some rules lawful framing n d whole its.no_extra in
          let same : numbered_frame rules e n ≡ f =
          ap (λ h. let g : NumberedFrame = record { number = n; start = d.start; frame = h } in g)
          bytes
          ∙ sym of-burst.frame in
          subst P same
          (packet-contained profile tags rules framing check_floor link bursts-before e
          sent-bursts.0 n link-is is-packet)

  abbrev Passes : NumberedFrame → Type 0
  Passes f = IsDue profile rules seal_floor check_floor line link tick most f
      → Contains (passed profile rules check_floor link) f

  each-passes : (l : List NumberedFrame) → ((f : NumberedFrame) → Contains l f → Contains frames f)
      → All Passes l
  each-passes [] there = All-nil Passes
  each-passes (f ∷ l) there =
      All-cons Passes f l
      (λ due. due-passes f (there f (0, omega arith, refl)) due)
      (each-passes l (λ g h. there g (Contains-append_right (f ∷ []) l g h)))

  pub recovers : Recovers profile rules seal_floor check_floor line link tick most
  recovers = record { passes = each-passes frames (λ f there. there) }
