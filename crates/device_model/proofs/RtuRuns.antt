-- A Modbus RTU device over a run of bytes, or of silent ticks: what it reads in the run, and what
-- it keeps after it.
use Rattle.device_model.proofs.{Broken.grown-bytes, Broken.grown-silence, Parting.grown_by}
use Rattle.device_model.proofs.Parting.{parted-begins, parted-goes_on, parted-rests, parted-waits}
use Rattle.device_model.proofs.{ReadLaws.frames_read-later, RtuFamilyLaws.reads-parted}
use Rattle.device_model.specs.{Frames.FrameRead, Parted.IsParted}
use Rattle.device_model.specs.RtuFamily.{rtu_family_reads, is_cut_off_frame, Keeps, RtuFamilyStandsFor}
use Rattle.device_model.specs.{RtuReads.has_silence, declared.rtu_family.RtuFamily.RtuFamily}
use Rattle.std.proofs.Common.{◌≡◌, ◌∙◌, ℕ, zero, suc, ◌+◌, ◌<◌, ◌≤◌, ◌-◌, ◌||◌, nat_lt, Bool, true}
use Rattle.std.proofs.Common.{false, List, [], ◌∷◌, ◌++◌, length, map, refl, sym, ap, subst, arith}
use Rattle.std.proofs.Common.{Option, Some, None, IfSome, ◌⊎◌, ⊎_elim, inl, inr, if◌then◌else◌}
use Rattle.std.proofs.{Common.append_assoc, Common.length-append, lemmas.Bool.ltb-true}
use Rattle.std.proofs.lemmas.Bool.{lt-ltb, le-ltb, cond-true, cond-false, or_parts, cases_lt}
use Rattle.std.proofs.lemmas.List.{append-nil, length-replicate, length-map}
use Rattle.yasir_ticks.proofs.{BurstLaws.alone, BurstsOfLaws.contiguous-more}
use Rattle.yasir_ticks.specs.{Bursts.Burst, BurstsOf.IsContiguous, Ticks.bytes_in, Ticks.silent}
use Rattle.yasir_ticks.specs.declared.tick.Tick.{Tick, TheVariants.Silent, TheVariants.Byte}

-- ---- the running burst, and bytes right after it

abbrev pub grown_run : Burst → List ℕ → Burst
grown_run d [] = d
grown_run d (b ∷ y) = grown_run (grown_by d 0 b) y

run-start : (d : Burst) (y : List ℕ) → (grown_run d y).start ≡ d.start
run-start d [] = refl
run-start d (b ∷ y) = run-start (grown_by d 0 b) y

run-bytes : (d : Burst) (y : List ℕ) → bytes_in (grown_run d y).body ≡ bytes_in d.body ++ y
run-bytes d [] = sym (append-nil (bytes_in d.body))
run-bytes d (b ∷ y) =
    run-bytes (grown_by d 0 b) y
    ∙ (ap (λ x. x ++ y) (grown-bytes d.body 0 b) ∙ append_assoc (bytes_in d.body) (b ∷ []) y)

run-contiguous : (cut : ℕ) (d : Burst) (y : List ℕ) → 0 < cut → IsContiguous cut d.body
    → IsContiguous cut (grown_run d y).body
run-contiguous cut d [] some contiguous = contiguous
run-contiguous cut d (b ∷ y) some contiguous =
    run-contiguous cut (grown_by d 0 b) y some (contiguous-more cut d.body 0 b contiguous some)

or-none : (s q : Bool) → q ≡ false → (s || q) ≡ s
or-none true q none = refl
or-none false q none = none

run-silence : (g cut : ℕ) (d : Burst) (y : List ℕ) → 0 < cut → IsContiguous cut d.body
    → has_silence (suc g) (grown_run d y).body ≡ has_silence (suc g) d.body
run-silence g cut d [] some contiguous = refl
run-silence g cut d (b ∷ y) some contiguous =
    run-silence g cut (grown_by d 0 b) y some (contiguous-more cut d.body 0 b contiguous some)
    ∙ (grown-silence g cut d.body 0 b contiguous
    ∙ or-none (has_silence (suc g) d.body) (nat_lt g 0) (le-ltb g 0 (omega arith)))

or-same : (s q r : Bool) → (s ≡ false → q ≡ r) → (s || q) ≡ (s || r)
or-same true q r same = refl
or-same false q r same = same refl

-- With more bytes, a burst is broken if it was before, or if there is no room for them.
run-broken : (gap cut : ℕ) (d : Burst) (y : List ℕ) (broken : Bool) → 0 < cut
    → IsContiguous cut d.body → broken ≡ is_cut_off_frame gap d.body
    → (broken || nat_lt 256 (length (bytes_in d.body) + length y))
    ≡ is_cut_off_frame gap (grown_run d y).body
run-broken gap cut d y broken some contiguous is =
    let n : ℕ = length (bytes_in d.body) in
    let long : length (bytes_in (grown_run d y).body) ≡ length (bytes_in d.body) + length y =
    ap length (run-bytes d y) ∙ length-append (bytes_in d.body) y in
    ap (λ v. v || nat_lt 256 (length (bytes_in d.body) + length y)) is
    ∙ (joined (has_silence (suc gap) d.body) (nat_lt 256 n) (nat_lt 256 (n + length y))
    (λ more. lt-ltb 256 (n + length y) (omega (arith, ltb-true 256 n more)))
    ∙ sym (ap (λ v. v || nat_lt 256 (length (bytes_in (grown_run d y).body)))
    (run-silence gap cut d y some contiguous)
    ∙ ap (λ k. has_silence (suc gap) d.body || nat_lt 256 k) long))
  where
    joined : (s m k : Bool) → (m ≡ true → k ≡ true) → ((s || m) || k) ≡ (s || k)
    joined true m k more = refl
    joined false true k more = sym (more refl)
    joined false false k more = refl

-- ---- a line, and ticks after it

module _ (cut : ℕ) where
  parted-run : (y : List ℕ) (line : List Tick) (closed : List Burst) (d : Burst)
      → IsParted cut 0 line closed (Some d)
      → IsParted cut 0 (line ++ map (λ b. Byte b) y) closed (Some (grown_run d y))
  parted-run [] line closed d parted =
      subst (λ l. IsParted cut 0 l closed (Some d)) (sym (append-nil line)) parted
  parted-run (b ∷ y) line closed d parted =
      subst (λ l. IsParted cut 0 l closed (Some (grown_run d (b ∷ y))))
      (append_assoc line (Byte b ∷ []) (map (λ c. Byte c) y))
      (parted-run y (line ++ Byte b ∷ []) closed (grown_by d 0 b)
      (parted-goes_on cut line closed 0 b d parted))

  -- Holds if some burst is running after a byte.
  record Runs (line : List Tick) (closed : List Burst) : Type 0 where
    running : Burst
    parted : IsParted cut 0 line closed (Some running)

  begun : (b : ℕ) (line : List Tick) (quiet : ℕ) (closed : List Burst) (running : Option Burst)
      → 0 < cut → IsParted cut quiet line closed running → Runs (line ++ Byte b ∷ []) closed
  begun b line quiet closed None some parted = record {
    running = alone (length line) b;
    parted = parted-begins cut line closed quiet b some parted;
  }
  begun b line quiet closed (Some d) some parted = record {
    running = grown_by d quiet b;
    parted = parted-goes_on cut line closed quiet b d parted;
  }

  rests-run : (n : ℕ) (line : List Tick) (quiet : ℕ) (closed : List Burst)
      → IsParted cut quiet line closed None → IsParted cut quiet (line ++ silent n) closed None
  rests-run zero line quiet closed parted =
      subst (λ l. IsParted cut quiet l closed None) (sym (append-nil line)) parted
  rests-run (suc n) line quiet closed parted =
      subst (λ l. IsParted cut quiet l closed None) (append_assoc line (Silent ∷ []) (silent n))
      (rests-run n (line ++ Silent ∷ []) quiet closed
      (parted-rests cut line closed quiet parted))

  waits-run : (n m : ℕ) (line : List Tick) (quiet : ℕ) (closed : List Burst) (d : Burst)
      → quiet + n ≡ m → m < cut → IsParted cut quiet line closed (Some d)
      → IsParted cut m (line ++ silent n) closed (Some d)
  waits-run zero m line quiet closed d end few parted =
      let same : quiet ≡ m = omega arith in
      subst (λ l. IsParted cut m l closed (Some d)) (sym (append-nil line))
      (subst (λ q. IsParted cut q line closed (Some d)) same parted)
  waits-run (suc n) m line quiet closed d end few parted =
      subst (λ l. IsParted cut m l closed (Some d)) (append_assoc line (Silent ∷ []) (silent n))
      (waits-run n m (line ++ Silent ∷ []) (quiet + 1) closed d (omega arith) few
      (parted-waits cut line closed quiet d (omega arith) parted))

module _ (cut gap : ℕ) where
  -- Ticks that end no burst add nothing.
  reads-run : (line more : List Tick) (quiet after_it : ℕ) (closed : List Burst)
      (before after : Option Burst) → IsParted cut quiet line closed before
      → IsParted cut after_it (line ++ more) closed after
      → rtu_family_reads cut gap (line ++ more) ≡ rtu_family_reads cut gap line
  reads-run line more quiet after_it closed before after parted next =
      let n = length-append line more in
      reads-parted cut gap after_it (line ++ more) closed after next
      ∙ (frames_read-later cut (suc gap) (length line) (length (line ++ more)) closed
      (omega arith) parted.are_closed
      ∙ sym (reads-parted cut gap quiet line closed before parted))

  -- In a run of bytes, nothing is read.
  pub bytes-unread : (value : RtuFamily) (line : List Tick) (y : List ℕ)
      → RtuFamilyStandsFor cut gap value line
      → rtu_family_reads cut gap (line ++ map (λ b. Byte b) y) ≡ rtu_family_reads cut gap line
  bytes-unread value line [] heard = ap (rtu_family_reads cut gap) (append-nil line)
  bytes-unread value line (b ∷ y) heard =
      let first = begun cut b line value.silence.quiet heard.closed heard.running heard.some_cut
      heard.parted in
      let all : IsParted cut 0 (line ++ map (λ c. Byte c) (b ∷ y)) heard.closed
      (Some (grown_run first.running y)) =
      subst (λ l. IsParted cut 0 l heard.closed (Some (grown_run first.running y)))
      (append_assoc line (Byte b ∷ []) (map (λ c. Byte c) y))
      (parted-run cut y (line ++ Byte b ∷ []) heard.closed first.running first.parted) in
      reads-run line (map (λ c. Byte c) (b ∷ y)) value.silence.quiet 0 heard.closed heard.running
      (Some (grown_run first.running y)) heard.parted all

  -- Holds if `n` silent ticks end no burst.
  abbrev pub EndsNone : RtuFamily → ℕ → Type 0
  EndsNone value n =
      (value.silence.cut ≤ value.silence.quiet) ⊎ (value.silence.quiet + n < value.silence.cut)

  -- the line after `n` silent ticks
  record Rests (value : RtuFamily) (line : List Tick) (n : ℕ) (closed : List Burst)
      (running : Option Burst) : Type 0 where
    quiet : ℕ
    parted : IsParted cut quiet (line ++ silent n) closed running
    is : quiet ≡ (if nat_lt value.silence.quiet value.silence.cut
        then value.silence.quiet + n else value.silence.quiet)

  rests : (value : RtuFamily) (line : List Tick) (n : ℕ) → value.silence.cut ≡ cut
      → EndsNone value n → (closed : List Burst) (running : Option Burst)
      → IsParted cut value.silence.quiet line closed running
      → Rests value line n closed running
  rests value line n same ends closed None parted =
      let quiet : value.silence.quiet ≡ cut = parted.is_quiet in
      record {
        quiet = value.silence.quiet;
        parted = rests-run cut n line value.silence.quiet closed parted;
        is = sym (cond-false _ _ _
            (le-ltb value.silence.quiet value.silence.cut (omega arith)));
      }
  rests value line n same ends closed (Some d) parted =
      let few : value.silence.quiet < cut = parted.is_quiet.0 in
      let short : value.silence.quiet + n < cut =
      ⊎_elim (λ (all : value.silence.cut ≤ value.silence.quiet). absurd (omega arith))
      (λ (less : value.silence.quiet + n < value.silence.cut).
      let e : value.silence.quiet + n < cut = omega arith in e) ends in
      record {
        quiet = value.silence.quiet + n;
        parted = waits-run cut n (value.silence.quiet + n) line value.silence.quiet closed d refl
            short parted;
        is = sym (cond-true _ _ _
            (lt-ltb value.silence.quiet value.silence.cut (omega arith)));
      }

  -- In a run of silent ticks that end no burst, nothing is read.
  pub silence-unread : (value : RtuFamily) (line : List Tick) (n : ℕ) → EndsNone value n
      → RtuFamilyStandsFor cut gap value line
      → rtu_family_reads cut gap (line ++ silent n) ≡ rtu_family_reads cut gap line
  silence-unread value line n ends heard =
      let behind = rests value line n heard.cut_is ends heard.closed heard.running heard.parted in
      reads-run line (silent n) value.silence.quiet behind.quiet heard.closed heard.running
      heard.running heard.parted behind.parted

  -- ---- what is kept

  pub bytes-kept : (old new : RtuFamily) (line : List Tick) (y : List ℕ)
      → RtuFamilyStandsFor cut gap old line
      → new.silence ≡ old.silence → new.gap ≡ old.gap → new.ticks ≡ old.ticks + length y
      → old.silence.quiet ≡ 0 → new.start ≡ old.start
      → new.broken ≡ (old.broken || nat_lt 256 (length old.bytes.items + length y))
      → (new.broken ≡ false → new.bytes.items ≡ old.bytes.items ++ y)
      → RtuFamilyStandsFor cut gap new (line ++ map (λ b. Byte b) y)
  bytes-kept old new line y heard silence gap_is ticks quiet start broken bytes =
      behind heard.running heard.parted heard.kept
    where
      grown : (d : Burst) → Keeps cut gap old d → Keeps cut gap new (grown_run d y)
      grown d kept =
          let is : new.broken ≡ (old.broken || nat_lt 256 (length (bytes_in d.body) + length y)) =
          broken ∙ or-same old.broken _ _ (λ whole.
          ap (λ x. nat_lt 256 (length x + length y)) (kept.bytes_are whole)) in
          record {
            contiguous = run-contiguous cut d y heard.some_cut kept.contiguous;
            start_is = start ∙ (kept.start_is ∙ sym (run-start d y));
            broken_is = is ∙ run-broken gap cut d y old.broken heard.some_cut kept.contiguous
                kept.broken_is;
            bytes_are = λ whole.
                let was : old.broken ≡ false = (or_parts _ _ (sym is ∙ whole)).0 in
                bytes whole ∙ (ap (λ z. z ++ y) (kept.bytes_are was) ∙ sym (run-bytes d y));
          }

      behind : (running : Option Burst) → IsParted cut old.silence.quiet line heard.closed running
          → IfSome running (λ d. Keeps cut gap old d)
          → RtuFamilyStandsFor cut gap new (line ++ map (λ b. Byte b) y)
      behind None parted kept =
          let at_cut : old.silence.quiet ≡ cut = parted.is_quiet in
          let some = heard.some_cut in
          absurd (omega arith)
      behind (Some d) parted kept =
          let count = heard.count in
          let none : new.silence.quiet ≡ 0 = ap (λ s. s.quiet) silence ∙ quiet in
          record {
            some_cut = heard.some_cut;
            cut_is = ap (λ s. s.cut) silence ∙ heard.cut_is;
            gap_is = gap_is ∙ heard.gap_is;
            count = omega (
              arith,
              length-append line (map (λ b. Byte b) y),
              length-map {A = ℕ} {B = Tick} y (λ b. Byte b),
            );
            closed = heard.closed;
            running = Some (grown_run d y);
            parted = subst (λ q. IsParted cut q (line ++ map (λ b. Byte b) y) heard.closed
                (Some (grown_run d y))) (sym none)
                (parted-run cut y line heard.closed d
                (subst (λ q. IsParted cut q line heard.closed (Some d)) quiet parted));
            kept = grown d kept;
          }

  pub silence-kept : (old new : RtuFamily) (line : List Tick) (n : ℕ)
      → RtuFamilyStandsFor cut gap old line → EndsNone old n
      → new.silence.cut ≡ old.silence.cut
      → new.silence.quiet ≡ (if nat_lt old.silence.quiet old.silence.cut
      then old.silence.quiet + n else old.silence.quiet)
      → new.gap ≡ old.gap → new.ticks ≡ old.ticks + n → new.start ≡ old.start
      → new.broken ≡ old.broken → new.bytes ≡ old.bytes
      → RtuFamilyStandsFor cut gap new (line ++ silent n)
  silence-kept old new line n heard ends cut_stays quiet gap_is ticks start broken bytes =
      let behind = rests old line n heard.cut_is ends heard.closed heard.running heard.parted in
      let count = heard.count in
      record {
        some_cut = heard.some_cut;
        cut_is = cut_stays ∙ heard.cut_is;
        gap_is = gap_is ∙ heard.gap_is;
        count = omega (arith, length-append line (silent n), length-replicate n Silent);
        closed = heard.closed;
        running = heard.running;
        parted = subst (λ q. IsParted cut q (line ++ silent n) heard.closed heard.running)
            (behind.is ∙ sym quiet) behind.parted;
        kept = still heard.running heard.kept;
      }
    where
      still : (running : Option Burst) → IfSome running (λ d. Keeps cut gap old d)
          → IfSome running (λ d. Keeps cut gap new d)
      still None kept = tt
      still (Some d) kept = record {
        contiguous = kept.contiguous;
        start_is = start ∙ kept.start_is;
        broken_is = broken ∙ kept.broken_is;
        bytes_are = λ whole.
            ap (λ b. b.items) bytes ∙ kept.bytes_are (sym broken ∙ whole);
      }

-- ---- silence in parts

silent-parts : (n m all : ℕ) → n + m ≡ all → silent n ++ silent m ≡ silent all
silent-parts zero m all end = let e : m ≡ all = omega arith in ap silent e
silent-parts (suc n) m zero end = absurd (omega arith)
silent-parts (suc n) m (suc all) end = ap (λ x. Silent ∷ x) (silent-parts n m all (omega arith))

pub silent-behind : (line : List Tick) (n m all : ℕ) → n + m ≡ all
    → (line ++ silent n) ++ silent m ≡ line ++ silent all
silent-behind line n m all end =
    append_assoc line (silent n) (silent m) ∙ ap (λ x. line ++ x) (silent-parts n m all end)

-- If the silence isn't counted up to `cut` yet, all `n` ticks are counted.
pub counted-on : (quiet cut n next : ℕ) → quiet < cut
    → next ≡ (if nat_lt quiet cut then quiet + n else quiet) → next ≡ quiet + n
counted-on quiet cut n next few is = is ∙ cond-true _ _ _ (lt-ltb quiet cut few)

-- What is read in a run of silent ticks of which only the last one can end a burst is what is read
-- in that one.
pub read-last : (cut gap : ℕ) (old : RtuFamily) (line : List Tick) (n left : ℕ)
    (frames : List FrameRead) → n + 1 ≡ left → EndsNone cut gap old n
    → RtuFamilyStandsFor cut gap old line
    → rtu_family_reads cut gap ((line ++ silent n) ++ Silent ∷ [])
    ≡ rtu_family_reads cut gap (line ++ silent n) ++ frames
    → rtu_family_reads cut gap (line ++ silent left) ≡ rtu_family_reads cut gap line ++ frames
read-last cut gap old line n left frames end ends heard reads =
    ap (rtu_family_reads cut gap) (sym (silent-behind line n 1 left end))
    ∙ (reads ∙ ap (λ x. x ++ frames) (silence-unread cut gap old line n ends heard))

-- If the line was parted after `left` silent ticks, and no frame was read, none is read in any
-- number of silent ticks.
module _ (cut gap : ℕ) (old parted : RtuFamily) (line : List Tick) (left : ℕ)
    (heard : RtuFamilyStandsFor cut gap old line)
    (left_is : old.silence.quiet + left ≡ old.silence.cut)
    (stands : RtuFamilyStandsFor cut gap parted (line ++ silent left))
    (is_parted : parted.silence.cut ≤ parted.silence.quiet)
    (none : rtu_family_reads cut gap (line ++ silent left) ≡ rtu_family_reads cut gap line ++ [])
  where
    pub later-unread : (n : ℕ)
        → rtu_family_reads cut gap (line ++ silent n) ≡ rtu_family_reads cut gap line
    later-unread n =
        ⊎_elim
        (λ earlier. silence-unread cut gap old line n (inr (omega arith)) heard)
        (λ later.
        ap (rtu_family_reads cut gap)
        (sym (silent-behind line left (n - left) n (omega arith)))
        ∙ (silence-unread cut gap parted (line ++ silent left) (n - left) (inl is_parted) stands
        ∙ (none ∙ append-nil (rtu_family_reads cut gap line))))
        (cases_lt n left)
