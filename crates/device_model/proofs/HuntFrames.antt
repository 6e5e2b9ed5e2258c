-- A device that hunts takes the bytes after the beginning of a header: those of the header, and
-- those of the frame that follow it.
use Rattle.device_model.proofs.Heads.{good-header, short-short, header-more}
use Rattle.device_model.proofs.HuntCases.{good-size, taken-header, taken-short, taken-long}
use Rattle.device_model.proofs.HuntCases.{taken-stays, begun-good, size-readable}
use Rattle.device_model.proofs.HuntRuns.{run, held-run, ended-run, fronts-of, all-room}
use Rattle.device_model.proofs.HuntSteps.{starts-more}
use Rattle.device_model.proofs.Hunts.{timed_bytes-length, begins-more, begins-two, taken-is}
use Rattle.device_model.specs.{Frames.FrameRead, Hunt.Timed, Hunt.timed_bytes, Hunt.begins}
use Rattle.device_model.specs.{Hunt.bytes_taken, Hunt.header_hunted, HuntLaws.IsHunted}
use Rattle.device_model.specs.HuntingDevice.{header_begun, StartsAt, HeardBy, HuntTakesRun, frame_at}
use Rattle.device_model.specs.HuntingDevice.{HuntHasRoom, GoesBehind, held_by_hunt}
use Rattle.device_model.specs.declared.hunting.HuntingDevice.{HuntingDevice}
use Rattle.line_rules.specs.Rules.{Rules, head_of, lacking_of, lacking_by}
use Rattle.line_rules.specs.declared.head.Head.{Head}
use Rattle.line_rules.specs.declared.head.Head.TheVariants.{Short, Good, Bad}
use Rattle.line_rules.specs.declared.line_rules.LineRules.{Ghosts as LineRules}
use Rattle.std.proofs.Common.{◌≡◌, ◌∙◌, ℕ, ◌+◌, ◌-◌, ◌<◌, ◌≤◌, Bool, true, false, List, [], ◌++◌}
use Rattle.std.proofs.Common.{length, refl, sym, ap, subst, arith, length-append, ⊎_elim}
use Rattle.std.proofs.lemmas.Bool.{cases_lt, cases_Bool, cond-true, cond-false, false≢true}
use Rattle.std.proofs.lemmas.List.{take_all, length-take-le}

lacking-good : (head : Head) (n : ℕ) → 0 < lacking_by head n → head ≡ Good
lacking-good Good n some = refl
lacking-good Short n some = absurd (omega arith)
lacking-good Bad n some = absurd (omega arith)

module _ {R : Type 0} (proto : LineRules R) (first second : ℕ)
    (hunted : IsHunted first second proto.rules) where
  abbrev its : Rules
  its = proto.rules

  abbrev Heard : HuntingDevice R → List Timed → Type 0
  Heard value x = HeardBy proto first second value x

  abbrev Takes : HuntingDevice R → HuntingDevice R → ℕ → List ℕ → List FrameRead → Type 0
  Takes old new at y frames = HuntTakesRun proto first second old new at y frames

  -- ---- bytes that follow the beginning of a header

  module _ (old : HuntingDevice R) (some : 0 < old.lacking) (x : List Timed)
      (heard : Heard old x) where
    begun : begins first second (held_by_hunt old) ≡ true
    begun =
        ⊎_elim
        (λ is. is)
        (λ none.
        let is : old.lacking ≡ 0 = heard.lacks ∙ cond-false _ _ _ none in absurd (omega arith))
        (cases_Bool (begins first second (held_by_hunt old)))

    unlent : old.lends ≡ false
    unlent =
        ⊎_elim
        (λ is.
        let none : held_by_hunt old ≡ [] = cond-true _ _ _ is in
        absurd (false≢true (sym (ap (begins first second) none) ∙ begun)))
        (λ not_lent. not_lent)
        (cases_Bool old.lends)

    pub items-held : held_by_hunt old ≡ old.bytes.items
    items-held = cond-false _ _ _ unlent

    pub items-begin : begins first second old.bytes.items ≡ true
    items-begin = ap (begins first second) (sym items-held) ∙ begun

    pub items-lack : old.lacking ≡ bytes_taken first second its old.bytes.items
        - length old.bytes.items
    items-lack =
        heard.lacks
        ∙ (cond-true _ _ _ begun
        ∙ ap (λ u. bytes_taken first second its u - length u) items-held)

    pub items-stand : its.header_len ≤ length old.bytes.items
        → proto.stands old.rules (header_hunted its old.bytes.items)
    items-stand long =
        let same = ap length items-held in
        subst (λ u. proto.stands old.rules (header_hunted its u)) items-held
        (heard.stands (omega arith))

    -- There is room for all bytes that are taken with the header.
    pub items-bound : bytes_taken first second its old.bytes.items ≤ 292
    items-bound =
        let b : List ℕ = old.bytes.items in
        let lack = items-lack in
        ⊎_elim
        (λ short.
        let taken = taken-short first second its proto.headed hunted b items-begin short in
        let least = proto.headed.short in
        omega arith)
        (λ long.
        let few : length b < bytes_taken first second its b = omega arith in
        let good = begun-good first second its proto.headed hunted b items-begin long few in
        let taken = taken-is first second its Good b items-begin good in
        let size = size-readable first second its proto.headed hunted proto.lawful (header_hunted its b)
        (proto.bytes old.rules (header_hunted its b) (items-stand long))
        (length-take-le its.header_len b long) (good-header its b good) in
        omega arith)
        (cases_lt (length b) its.header_len)

  -- Bytes follow the beginning of a header, at most as many as are lacking: they are held, too.
  module _ (old mid : HuntingDevice R) (y : List ℕ) (some : 0 < old.lacking)
      (within : length y ≤ old.lacking) (lends : mid.lends ≡ old.lends)
      (bytes : length old.bytes.items + length y ≤ 292
      → mid.bytes.items ≡ old.bytes.items ++ y) where
    module _ (x : List Timed) (heard : Heard old x) where
      grown : mid.bytes.items ≡ old.bytes.items ++ y
      grown =
          let lack = items-lack old some x heard in
          let bound = items-bound old some x heard in
          bytes (omega arith)

      grown-begins : begins first second (old.bytes.items ++ y) ≡ true
      grown-begins = begins-more first second old.bytes.items y (items-begin old some x heard)

      grown-held : held_by_hunt mid ≡ old.bytes.items ++ y
      grown-held = cond-false _ _ _ (lends ∙ unlent old some x heard) ∙ grown

      grown-starts : mid.start ≡ old.start → (at : ℕ) (held : List Timed)
          → timed_bytes held ≡ old.bytes.items → StartsAt old.start held
          → StartsAt mid.start (held ++ run at y)
      grown-starts start at held same before =
          let two = begins-two first second old.bytes.items (items-begin old some x heard) in
          let count = ap length same in
          let long = timed_bytes-length held in
          subst (λ s. StartsAt s (held ++ run at y)) (sym start)
          (starts-more proto first second hunted old.start held (run at y) (omega arith) before)

      grown-some : 0 < length old.bytes.items
      grown-some =
          let two = begins-two first second old.bytes.items (items-begin old some x heard) in
          omega arith

    -- If some bytes are still lacking, no frame is read.
    pub lacking-run : (at : ℕ) → mid.ticks ≡ old.ticks → mid.start ≡ old.start
        → mid.rules ≡ old.rules → mid.lacking + length y ≡ old.lacking → 0 < mid.lacking
        → Takes old mid at y []
    lacking-run at ticks start rules less more =
        held-run proto first second hunted old mid at old.bytes.items y [] ticks (λ x heard.
        let b : List ℕ = old.bytes.items in
        let w : List ℕ = old.bytes.items ++ y in
        let sum = length-append b y in
        let lack = items-lack old some x heard in
        let starts = items-begin old some x heard in
        let few : length w < bytes_taken first second its b = omega arith in
        let same = taken-stays first second its proto.headed hunted b y starts few in
        let still : begins first second w ≡ true = grown-begins x heard in
        let taken : length w < bytes_taken first second its w = omega arith in
        let lacking : mid.lacking ≡ bytes_taken first second its w - length w = omega arith in
        record {
          was = items-held old some x heard;
          fronts = fronts-of proto first second hunted b y still (omega arith);
          undecided = header_begun w still taken;
          bytes = grown-held x heard;
          lacking = lacking ∙ sym (cond-true _ _ _ still);
          stands = λ long.
              ⊎_elim
              (λ short.
              let is = taken-short first second its proto.headed hunted b starts short in
              absurd (omega arith))
              (λ whole.
              subst (λ r. proto.stands r (header_hunted its w)) (sym rules)
              (subst (proto.stands old.rules) (sym (header-more its b y whole))
              (items-stand old some x heard whole)))
              (cases_lt (length b) its.header_len);
          starts = grown-starts x heard start at;
          gives = refl;
        })

    -- If no byte is lacking any more, and there are more than a header has, the frame is whole.
    module _ (new : HuntingDevice R) (frames : List FrameRead) (start : mid.start ≡ old.start)
        (rules : mid.rules ≡ old.rules) (all : length y ≡ old.lacking)
        (behind : length mid.bytes.items ≡ its.header_len → ⊥)
        (goes : its.header_len ≤ length mid.bytes.items
        → proto.stands mid.rules (header_hunted its mid.bytes.items) → HuntHasRoom its mid.bytes.items
        → (held_by_hunt new ≡ []) × (new.lacking ≡ 0) × (frames ≡ frame_at its mid.start mid.bytes.items))
      where
        module _ (x : List Timed) (heard : Heard old x) where
          frame-long : its.header_len ≤ length old.bytes.items
          frame-long =
              let b : List ℕ = old.bytes.items in
              let sum = length-append b y in
              let count = ap length (grown x heard) in
              let lack = items-lack old some x heard in
              ⊎_elim
              (λ short.
              let taken = taken-short first second its proto.headed hunted b
              (items-begin old some x heard) short in
              absurd (behind (omega arith)))
              (λ long. long)
              (cases_lt (length b) its.header_len)

          frame-taken : bytes_taken first second its (old.bytes.items ++ y)
              ≡ length (old.bytes.items ++ y)
          frame-taken =
              let sum = length-append old.bytes.items y in
              let lack = items-lack old some x heard in
              let same = taken-long first second its proto.headed hunted old.bytes.items y
              (items-begin old some x heard) frame-long in
              omega arith

          frame-room : HuntHasRoom its mid.bytes.items
          frame-room =
              let taken = frame-taken in
              subst (HuntHasRoom its) (sym (grown x heard))
              (all-room proto first second hunted (old.bytes.items ++ y) (grown-begins x heard)
              (omega arith))

          frame-stands : proto.stands mid.rules (header_hunted its mid.bytes.items)
          frame-stands =
              subst (λ r. proto.stands r (header_hunted its mid.bytes.items)) (sym rules)
              (subst (proto.stands old.rules)
              (sym (ap (header_hunted its) (grown x heard)
              ∙ header-more its old.bytes.items y frame-long))
              (items-stand old some x heard frame-long))

          frame-gone : (held_by_hunt new ≡ []) × (new.lacking ≡ 0)
              × (frames ≡ frame_at its mid.start mid.bytes.items)
          frame-gone =
              let sum = length-append old.bytes.items y in
              let count = ap length (grown x heard) in
              let long = frame-long in
              goes (omega arith) frame-stands frame-room

        pub frame-run : (at : ℕ) → new.ticks ≡ old.ticks → Takes old new at y frames
        frame-run at ticks =
            ended-run proto first second hunted old new at old.bytes.items y frames ticks
            (λ x heard. record {
              was = items-held old some x heard;
              some = grown-some x heard;
              starts = grown-begins x heard;
              all = frame-taken x heard;
              none = (frame-gone x heard).0;
              lacking = (frame-gone x heard).1;
              gives = (frame-gone x heard).2
                  ∙ (ap (λ s. frame_at its s mid.bytes.items) start
                  ∙ ap (frame_at its old.start) (grown x heard));
            })

    -- If no byte of a header is lacking any more, it is whole.
    module _ (start : mid.start ≡ old.start) (all : length y ≡ old.lacking)
        (whole : length mid.bytes.items ≡ its.header_len) where
      module _ (x : List Timed) (heard : Heard old x) where
        header-within : length (old.bytes.items ++ y)
            ≤ bytes_taken first second its (old.bytes.items ++ y)
        header-within =
            let w : List ℕ = old.bytes.items ++ y in
            let count = ap length (grown x heard) in
            let taken = taken-is first second its (head_of its w) w (grown-begins x heard) refl in
            let least = taken-header first second its proto.headed hunted (head_of its w) w refl in
            omega arith

        header-room : HuntHasRoom its mid.bytes.items
        header-room =
            subst (HuntHasRoom its) (sym (grown x heard))
            (all-room proto first second hunted (old.bytes.items ++ y) (grown-begins x heard)
            header-within)

      -- More bytes are taken with the header.
      module _ (new : HuntingDevice R) (frames : Bool → List FrameRead)
          (none : frames false ≡ []) (reads : Bool) (more : 0 < lacking_of its mid.bytes.items)
          (goes : HuntHasRoom its mid.bytes.items → GoesBehind proto mid new reads) where
        module _ (x : List Timed) (heard : Heard old x) where
          behind-is : GoesBehind proto mid new reads
          behind-is = goes (header-room x heard)

          behind-lacks : (bytes_taken first second its mid.bytes.items
              ≡ its.size mid.bytes.items)
              × (lacking_of its mid.bytes.items ≡ its.size mid.bytes.items - length mid.bytes.items)
          behind-lacks =
              let m : List ℕ = mid.bytes.items in
              let starts : begins first second m ≡ true =
              ap (begins first second) (grown x heard) ∙ grown-begins x heard in
              let good : head_of its m ≡ Good =
              lacking-good (head_of its m) (its.size m - length m) more in (
                taken-is first second its Good m starts good
                    ∙ sym (good-size first second its proto.headed hunted m (omega arith)
                    (good-header its m good)),
                ap (λ h. lacking_by h (its.size m - length m)) good,
              )

        pub header-run : (at : ℕ) → new.ticks ≡ old.ticks → Takes old new at y (frames reads)
        header-run at ticks =
            held-run proto first second hunted old new at old.bytes.items y (frames reads) ticks
            (λ x heard.
            let m : List ℕ = mid.bytes.items in
            let w : List ℕ = old.bytes.items ++ y in
            let same : m ≡ w = grown x heard in
            let count = ap length same in
            let is = behind-is x heard in
            let taken = (behind-lacks x heard).0 in
            let lacks = (behind-lacks x heard).1 in
            let equal : bytes_taken first second its w ≡ bytes_taken first second its m =
            ap (bytes_taken first second its) (sym same) in
            let still : begins first second w ≡ true = grown-begins x heard in
            let few : length w < bytes_taken first second its w = omega arith in
            let lacking : new.lacking ≡ bytes_taken first second its w - length w =
            is.lacking ∙ (omega arith) in
            record {
              was = items-held old some x heard;
              fronts = fronts-of proto first second hunted old.bytes.items y still
                  (header-within x heard);
              undecided = header_begun w still few;
              bytes = cond-false _ _ _ (is.lends ∙ (lends ∙ unlent old some x heard))
                  ∙ (is.bytes ∙ same);
              lacking = lacking ∙ sym (cond-true _ _ _ still);
              stands = λ long.
                  subst (proto.stands new.rules)
                  (same ∙ sym (take_all its.header_len w (omega arith))) is.stands;
              starts = λ held before_is before.
                  subst (λ s. StartsAt s (held ++ run at y)) (sym is.start)
                  (grown-starts x heard start at held before_is before);
              gives = ap frames is.none ∙ none;
            })

      -- No more bytes are taken with the header.
      module _ (new : HuntingDevice R) (frames : List FrameRead)
          (none : lacking_of its mid.bytes.items ≡ 0)
          (goes : HuntHasRoom its mid.bytes.items
          → (held_by_hunt new ≡ []) × (new.lacking ≡ 0)
          × (frames ≡ frame_at its mid.start mid.bytes.items)) where
        bare-by : (head : Head) (w : List ℕ) → head_of its w ≡ head
            → begins first second w ≡ true → length w ≡ its.header_len → lacking_of its w ≡ 0
            → bytes_taken first second its w ≡ length w
        bare-by Good w is starts size lacks =
            let taken = taken-is first second its Good w starts is in
            let least = taken-header first second its proto.headed hunted Good w is in
            let long : its.header_len ≤ length w = omega arith in
            let says = good-size first second its proto.headed hunted w long
            (good-header its w is) in
            let by = ap (λ h. lacking_by h (its.size w - length w)) is in
            omega arith
        bare-by Short w is starts size lacks =
            let short = short-short its w is in absurd (omega arith)
        bare-by Bad w is starts size lacks =
            taken-is first second its Bad w starts is ∙ sym size

        pub bare-run : (at : ℕ) → new.ticks ≡ old.ticks → Takes old new at y frames
        bare-run at ticks =
            ended-run proto first second hunted old new at old.bytes.items y frames ticks
            (λ x heard.
            let w : List ℕ = old.bytes.items ++ y in
            let same : mid.bytes.items ≡ w = grown x heard in
            let gone = goes (header-room x heard) in
            record {
              was = items-held old some x heard;
              some = grown-some x heard;
              starts = grown-begins x heard;
              all = bare-by (head_of its w) w refl (grown-begins x heard)
                  (ap length (sym same) ∙ whole) (ap (lacking_of its) (sym same) ∙ none);
              none = gone.0;
              lacking = gone.1;
              gives = gone.2
                  ∙ (ap (λ s. frame_at its s mid.bytes.items) start
                  ∙ ap (frame_at its old.start) same);
            })
