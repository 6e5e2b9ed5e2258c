-- How a file goes on to its end from each stage of its reader.
use Rattle.line_stamps.specs.{Fields.before_field, Walks.walk}
use Rattle.capture_pcap.proofs.BlockGoing.{on_block}
use Rattle.capture_pcap.proofs.Bodies.{AtBody, AtBody.seconds as rtac_seconds}
use Rattle.capture_pcap.proofs.Bodies.AtBody.{fraction as rtac_fraction, event, payload}
use Rattle.capture_pcap.proofs.{Going.GoesOn, Going.on_field, Going.on_body, Stages.AtStage}
use Rattle.capture_pcap.proofs.Stages.AtStage.{magic, free, link, seconds, fraction, captured}
use Rattle.capture_pcap.proofs.Stages.AtStage.{original, packet, blocks}
use Rattle.capture_pcap.specs.{BodyStep.has_more, PcapStep.field_at, Words.number}
use Rattle.capture_pcap.specs.declared.body.Body.{Body, TheVariants.Seconds as RtacSeconds}
use Rattle.capture_pcap.specs.declared.stage.Stage.{Stage, TheVariants.Magic}
use Rattle.capture_pcap.specs.declared.stage.Stage.TheVariants.{Free, Link, Seconds, Fraction}
use Rattle.capture_pcap.specs.declared.stage.Stage.TheVariants.{Captured, Original, Packet}
use Rattle.capture_pcap.specs.declared.words.{Clock.Clock, Order.Order}
use Rattle.capture_pcap.specs.declared.words.Order.TheVariants.{Big, Little}
use Rattle.capture_pcap.specs.declared.words.Resolution.TheVariants.{Microseconds}
use Rattle.line_stamps.specs.declared.seen.Seen.{Seen}
use Rattle.std.proofs.Common.{◌≡◌, ℕ, zero, suc, ◌+◌, ◌-◌, true, List, [], ◌∷◌, length, None, refl}
use Rattle.std.proofs.{Common.arith, Common.lt-ltb, lemmas.Bool.eq-eqb}

module _ (v : ℕ) where
  -- From this stage a file goes on, and the next item, if it has one, is a byte of this value.
  abbrev On : Stage → Type 0
  On stage = GoesOn v stage

  on_seconds : (clock : Clock) → On (Seconds clock)
  unfolding walk
  on_seconds clock = record {
    on = record {
      more = [];
      others = [];
      last = before_field (Seconds clock);
      walks = refl;
      end = refl;
    };
    starts = tt;
  }

  on_packet : (clock : Clock) (body : Body) → has_more body ≡ true → On (Packet clock body)
  unfolding field_at
  on_packet clock body h = on_body v (Packet clock) (Seconds clock) (λ x. refl) (λ x field. refl)
      (λ x b. refl) (on_seconds clock) body h

  more_at : (start count : ℕ) (body : Body) (bytes : List ℕ) (items : List Seen)
      → AtBody start count body bytes items → has_more body ≡ true
  more_at start count body bytes items rtac_seconds = refl
  more_at start count body bytes items (rtac_fraction stamp long) = refl
  more_at start count body bytes items (event stamp rest long rest_long) = refl
  more_at start count body bytes items (payload left way first _ _ p) = lt-ltb 0 left p.some

  on_original : (clock : Clock) (start : ℕ) (size : List ℕ) → length size ≡ 4
      → On (Original clock start (number clock.order size))
  unfolding field_at
  on_original clock start size four =
      let count : ℕ = number clock.order size - 12 in
      on_field v (Original clock start (number clock.order size))
      (Packet clock (RtacSeconds start count)) size refl four
      (rw (eq-eqb (number clock.order size) (number clock.order size) refl) refl)
      (on_packet clock (RtacSeconds start count) refl)

  -- a field with this number, which is below 256
  abbrev spelled : Order → ℕ → List ℕ
  spelled Big n = 0 ∷ 0 ∷ 0 ∷ n ∷ []
  spelled Little n = n ∷ 0 ∷ 0 ∷ 0 ∷ []

  spelled_long : (order : Order) (n : ℕ) → length (spelled order n) ≡ 4
  spelled_long Big n = refl
  spelled_long Little n = refl

  spelled_is : (order : Order) (n : ℕ) → number order (spelled order n) ≡ n
  spelled_is Big n = omega arith
  spelled_is Little n = omega arith

  on_captured : (clock : Clock) (start : ℕ) → On (Captured clock start)
  unfolding field_at
  on_captured clock start =
      let size : List ℕ = spelled clock.order 12 in
      on_field v (Captured clock start) (Original clock start (number clock.order size)) size refl
      (spelled_long clock.order 12)
      (rw (spelled_is clock.order 12) refl) (on_original clock start size (spelled_long clock.order 12))

  on_fraction : (clock : Clock) (whole : ℕ) → On (Fraction clock whole)
  unfolding field_at
  on_fraction clock whole =
      on_field v (Fraction clock whole) _ (0 ∷ 0 ∷ 0 ∷ 0 ∷ []) refl refl refl
      (on_captured clock _)

  on_link : (clock : Clock) → On (Link clock)
  unfolding field_at
  on_link clock =
      on_field v (Link clock) (Seconds clock) (spelled clock.order 250) refl
      (spelled_long clock.order 250) (rw (spelled_is clock.order 250) refl) (on_seconds clock)

  -- The header goes on with the fields that are left of it.
  on_free : (clock : Clock) (left before : ℕ) → before + left ≡ 3 → On (Free clock before)
  unfolding field_at
  on_free clock zero before e =
      let last : before ≡ 3 = omega (arith, e) in
      on_field v (Free clock before) (Link clock) (0 ∷ 0 ∷ 0 ∷ 0 ∷ []) refl refl
      (rw last refl) (on_link clock)
  on_free clock (suc left) before e =
      on_field v (Free clock before) (Free clock (before + 1)) (0 ∷ 0 ∷ 0 ∷ 0 ∷ []) refl refl
      (rw (lt-ltb before 3 (omega (arith, e))) refl)
      (on_free clock left (before + 1) (omega (arith, e)))

  on_magic : On Magic
  unfolding field_at
  on_magic =
      on_field v Magic (Free (record { order = Big; resolution = Microseconds }) 0)
      (0xA1 ∷ 0xB2 ∷ 0xC3 ∷ 0xD4 ∷ []) refl refl refl (on_free _ 3 0 refl)

  pub on_stage : (stage : Stage) (front : List ℕ) (items : List Seen) → AtStage stage front items
      → On stage
  on_stage stage front items magic = on_magic
  on_stage stage front items (free clock before word words m long few) =
      on_free clock (3 - before) before (omega (arith, few))
  on_stage stage front items (link clock word words m long) = on_link clock
  on_stage stage front items (seconds clock _ _ p) = on_seconds clock
  on_stage stage front items (fraction clock packets first _ p long) =
      on_fraction clock (number clock.order first)
  on_stage stage front items (captured clock packets time start _ p t) = on_captured clock start
  on_stage stage front items (original clock packets time size start _ p t long most) =
      on_original clock start size long
  on_stage stage front items
      (packet clock packets time lengths bytes start count body before these p t l at) =
      on_packet clock body (more_at start count body bytes these at)
  on_stage stage front items (blocks block bytes _ at live) = on_block v block live
