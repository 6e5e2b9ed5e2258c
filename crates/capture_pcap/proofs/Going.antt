-- Before each field and each byte, a file can still go on to a right end.
use Rattle.line_stamps.proofs.WalkLaws.{walk-join, Apart, apart_none, apart_heads, PartsFrom}
use Rattle.line_stamps.specs.{Fields.before_field, Walks.GoesOnFrom}
use Rattle.capture_pcap.proofs.{Bodies.data_walk, Walked.Walks, Walked.one_field}
use Rattle.capture_pcap.specs.BodyStep.{takes_data, has_more, data_of, body_or, body_field_at}
use Rattle.capture_pcap.specs.{BodyStep.body_byte_at, Pcap.IsCapture}
use Rattle.capture_pcap.specs.PcapStep.{takes_bytes, field_at, byte_at, step_at, may_end_at}
use Rattle.capture_pcap.specs.Record.{seen_data, event_way}
use Rattle.capture_pcap.specs.declared.body.Body.{Body}
use Rattle.capture_pcap.specs.declared.body.Body.TheVariants.{Seconds, Fraction, Event, Data}
use Rattle.capture_pcap.specs.declared.stage.Stage.{Stage, TheVariants.Magic}
use Rattle.line_stamps.specs.declared.{capture.Way.Way, seen.Seen.Seen}
use Rattle.line_stamps.specs.declared.seen.Seen.TheVariants.{Byte, Event as LineEvent}
use Rattle.std.proofs.Common.{◌≡◌, ℕ, Bool, true, false, List, [], ◌∷◌, ◌++◌, length, replicate}
use Rattle.std.proofs.Common.{Option, Some, None, Ok, refl, ap, subst, arith, zero, suc}
use Rattle.std.{proofs.lemmas.List.length-replicate, specs.Option.option_to_list}

-- Holds if these items are none, or begin with a byte of the line of this value.
abbrev pub StartsWith : ℕ → List Seen → Type 0
StartsWith v [] = Unit {0}
StartsWith v (Byte c ∷ items) = c.byte ≡ v
StartsWith v (LineEvent e ∷ items) = ⊥

-- A file goes on from this stage to a right end, and the next item, if it has one, is a byte of
-- this value.
pub record GoesOn (v : ℕ) (stage : Stage) : Type 0 where
  pub on : GoesOnFrom step_at (before_field Magic) may_end_at IsCapture (before_field stage)
  pub starts : StartsWith v on.others

starts_more : (v : ℕ) (items others : List Seen) → StartsWith v items → StartsWith v others
    → StartsWith v (items ++ others)
starts_more v [] others first second = second
starts_more v (Byte c ∷ items) others first second = first
starts_more v (LineEvent e ∷ items) others first second = absurd first

-- Data of bytes of this value are none, or begin with such a byte.
starts_data : (v left start : ℕ) (way : Option Way) (first : Bool)
    → StartsWith v (seen_data start way first (replicate left v))
starts_data v left start None first = tt
starts_data v zero start (Some way) first = tt
starts_data v (suc left) start (Some way) first = refl

starts_apart : (xs ys : List Seen) → StartsWith 0 xs → StartsWith 1 ys → Apart xs ys
starts_apart [] ys s t = apart_none ys
starts_apart (x ∷ xs) [] s t = λ first x y e f. apart_none [] first y y f f
starts_apart (Byte c ∷ xs) (Byte d ∷ ys) s t =
    apart_heads (Byte c) (Byte d) xs ys (λ e. differ c.byte d.byte s t (ap value e))
  where
    value : Seen → ℕ
    value (Byte c) = c.byte
    value (LineEvent e) = 0

    differ : (m n : ℕ) → m ≡ 0 → n ≡ 1 → m ≡ n → ⊥
    differ m n s t e = omega arith
starts_apart (Byte c ∷ xs) (LineEvent f ∷ ys) s t = absurd t
starts_apart (LineEvent e ∷ xs) ys s t = absurd s

-- A file goes on from a stage in two ways, if the next byte of the line may be 0 or 1.
pub both_ways : (stage : Stage) → GoesOn 0 stage → GoesOn 1 stage
    → PartsFrom step_at (before_field Magic) may_end_at IsCapture (before_field stage)
both_ways stage one other = record {
  one = one.on;
  other = other.on;
  apart = starts_apart one.on.others other.on.others one.starts other.starts;
}

module _ (v : ℕ) where
  pub on_walk : (from to : Stage) (bytes : List ℕ) (items : List Seen) → Walks from bytes to items
      → StartsWith v items → GoesOn v to → GoesOn v from
  on_walk from to bytes items w first next = record {
    on = record {
      more = bytes ++ next.on.more;
      others = items ++ next.on.others;
      last = next.on.last;
      walks = walk-join step_at (before_field from) (before_field to) next.on.last bytes next.on.more
          items next.on.others w.is next.on.walks;
      end = next.on.end;
    };
    starts = starts_more v items next.on.others first next.starts;
  }

  pub on_field : (from to : Stage) (field : List ℕ) → takes_bytes from ≡ false
      → length field ≡ 4 → field_at from field ≡ Ok (to, None) → GoesOn v to → GoesOn v from
  on_field from to field h four e next =
      on_walk from to field [] (one_field from to field None h four e) tt next

  -- within a packet, whatever comes after it
  module _ (within : Body → Stage) (behind : Stage)
      (takes : (body : Body) → takes_bytes (within body) ≡ takes_data body)
      (fields : (body : Body) (field : List ℕ) → field_at (within body) field
      ≡ Ok (body_or within behind (body_field_at body field).0, (body_field_at body field).1))
      (bytes : (body : Body) (b : ℕ) → byte_at (within body) b
      ≡ Ok (body_or within behind (body_byte_at body b).0, (body_byte_at body b).1))
      (on_behind : GoesOn v behind) where
    on_left : (start left : ℕ) (way : Option Way) (first : Bool)
        → GoesOn v (body_or within behind (data_of start left way first))
    on_left start left way first =
        let front : List ℕ = replicate left v in
        let long : length front ≡ left = length-replicate left v in
        let from : ℕ → Stage = λ n. body_or within behind (data_of start n way first) in
        let Q : ℕ → Type 0 = λ n. GoesOn v (from n) in
        subst Q long (on_walk (from (length front)) behind front (seen_data start way first front)
        (record {
          is = data_walk takes_bytes field_at byte_at within behind takes fields bytes
              start way first front;
        })
        (starts_data v left start way first)
        on_behind)

    on_event : (start left : ℕ) → GoesOn v (within (Event start left))
    unfolding body_field_at
    on_event start left =
        on_field (within (Event start left))
        (body_or within behind (data_of start left (event_way 1) true)) (1 ∷ 0 ∷ 0 ∷ 0 ∷ [])
        (takes (Event start left)) refl
        (fields (Event start left) (1 ∷ 0 ∷ 0 ∷ 0 ∷ [])) (on_left start left (event_way 1) true)

    on_fraction : (start left : ℕ) → GoesOn v (within (Fraction start left))
    unfolding body_field_at
    on_fraction start left =
        on_field (within (Fraction start left)) (within (Event start left)) (0 ∷ 0 ∷ 0 ∷ 0 ∷ [])
        (takes (Fraction start left)) refl (fields (Fraction start left) (0 ∷ 0 ∷ 0 ∷ 0 ∷ []))
        (on_event start left)

    on_seconds : (start left : ℕ) → GoesOn v (within (Seconds start left))
    unfolding body_field_at
    on_seconds start left =
        on_field (within (Seconds start left)) (within (Fraction start left)) (0 ∷ 0 ∷ 0 ∷ 0 ∷ [])
        (takes (Seconds start left)) refl (fields (Seconds start left) (0 ∷ 0 ∷ 0 ∷ 0 ∷ []))
        (on_fraction start left)

    pub on_body : (body : Body) → has_more body ≡ true → GoesOn v (within body)
    on_body (Seconds start left) h = on_seconds start left
    on_body (Fraction start left) h = on_fraction start left
    on_body (Event start left) h = on_event start left
    on_body (Data start left way first) h =
        let Q : Option Body → Type 0 = λ o. GoesOn v (body_or within behind o) in
        let some : data_of start left way first ≡ Some (Data start left way first) = rw h refl in
        subst Q some (on_left start left way first)
