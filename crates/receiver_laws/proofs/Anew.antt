-- A device that hunts anew after silence takes contiguous ticks as the hunt does.
use Rattle.device_model.proofs.{HuntSteps.timed-append, Hunts.hunt-none}
use Rattle.device_model.specs.{Frames.FrameRead, Hunt.Timed, Hunt.timed, Hunt.hunt, Hunt.hunt_anew}
use Rattle.{device_model.specs.HuntLaws.IsHunted, line_rules.specs.Rules.Rules}
use Rattle.line_rules.specs.RulesLaws.{IsLawful, IsHeaded, IsFramed}
use Rattle.{line_rules.specs.Spoiling.IsSpoiling, link_format.specs.Profile.Profile}
use Rattle.receiver_laws.proofs.HunterReadings.{hunter_reads_what_passed}
use Rattle.receiver_laws.proofs.Hunters.{timed-silent_ticks}
use Rattle.receiver_laws.specs.Hunters.{HunterIsFront, nothing, up_to, IsHunter}
use Rattle.receiver_laws.specs.Reading.{ReadsWhatPassed}
use Rattle.std.proofs.Common.{◌≡◌, ◌∙◌, ◌⊎◌, inl, inr, ℕ, suc, ◌+◌, ◌-◌, ◌<◌, ◌≤◌, List, [], ◌∷◌}
use Rattle.std.proofs.Common.{◌++◌, length, refl, sym, ap, subst, arith, ⊎_elim, length-append}
use Rattle.std.proofs.{Common.append_assoc, lemmas.Bool.cases_lt, lemmas.List.append-nil}
use Rattle.std.{proofs.lemmas.List.length-replicate, specs.List.flat_map}
use Rattle.yasir_ticks.proofs.BurstLaws.{alone, with_byte-near, with_byte-far, bursts_from-starts}
use Rattle.yasir_ticks.proofs.{BurstLaws.bursts_from-silent_end, BurstsOfLaws.bursts_from-cons}
use Rattle.yasir_ticks.{proofs.BurstsOfLaws.bursts_from-silence, specs.Bursts.Burst}
use Rattle.yasir_ticks.specs.{Bursts.with_byte, Bursts.bursts_from, BurstsOf.IsContiguous}
use Rattle.yasir_ticks.specs.{BurstsOf.one, BurstsOf.more, BurstsOf.StartsFrom, Ticks.silent}
use Rattle.yasir_ticks.specs.declared.tick.Tick.{Tick, TheVariants.Silent, TheVariants.Byte}

-- Holds if the first burst of the contiguous ticks `x` from tick n on, and the others from tick m
-- on, is `x` and a tail. The tail is nothing, or the first burst of the others with the silence
-- before it.
record Joins (cut n m : ℕ) (x others : List Tick) : Type 0 where
  tail : List Tick
  later : List Burst
  is : bursts_from cut n (x ++ others) ≡ record { start = n; body = x ++ tail } ∷ later
  behind : ((tail ≡ []) × (bursts_from cut m others ≡ later))
      ⊎ ((gap : ℕ) × (d : Burst) × (bursts_from cut m others ≡ d ∷ later) × (d.start ≡ m + gap)
      × (tail ≡ silent gap ++ d.body))

module _ (cut : ℕ) (wide : 2 ≤ cut) where
  with_byte-none : (n b : ℕ) → with_byte cut n b [] ≡ alone n b ∷ []
  unfolding with_byte
  with_byte-none n b = refl

  joins-one : (n b : ℕ) (others : List Tick) (ds : List Burst)
      → bursts_from cut (suc n) others ≡ ds → Joins cut n (suc n) (Byte b ∷ []) others
  joins-one n b others [] none = record {
    tail = [];
    later = [];
    is = bursts_from-cons cut n b others
        ∙ (ap (with_byte cut n b) none ∙ with_byte-none n b);
    behind = inl (refl, none);
  }
  joins-one n b others (d ∷ ds) first =
      ⊎_elim
      (λ near.
      let P : List Burst → Type 0 = λ es. StartsFrom (suc n) es in
      let from : suc n ≤ d.start = subst P first (bursts_from-starts cut (suc n) others) in
      let at : d.start ≡ suc n + (d.start - suc n) = omega arith in
      record {
        tail = silent (d.start - suc n) ++ d.body;
        later = ds;
        is = bursts_from-cons cut n b others
            ∙ (ap (with_byte cut n b) first ∙ with_byte-near cut n b d ds near);
        behind = inr (d.start - suc n, d, first, at, refl);
      })
      (λ far. record {
        tail = [];
        later = d ∷ ds;
        is = bursts_from-cons cut n b others
            ∙ (ap (with_byte cut n b) first ∙ with_byte-far cut n b d ds far);
        behind = inl (refl, first);
      })
      (cases_lt d.start (suc n + cut))

  joins : (n m : ℕ) (x others : List Tick) → IsContiguous 2 x → n + length x ≡ m
      → Joins cut n m x others
  joins n m x others (one b) at =
      let same : suc n ≡ m = omega arith in
      let P : ℕ → Type 0 = λ i. Joins cut n i (Byte b ∷ []) others in
      subst P same (joins-one n b others (bursts_from cut (suc n) others) refl)
  joins n m x others (more b gap rest few contiguous) at =
      let long = length-replicate gap Silent in
      let sum = length-append (silent gap) rest in
      let end : suc n + gap + length rest ≡ m = omega arith in
      let next = joins (suc n + gap) m rest others contiguous end in
      let near : suc n + gap < suc n + cut = omega arith in
      let back : suc n + gap - suc n ≡ gap = omega arith in
      let first : Burst = record { start = suc n + gap; body = rest ++ next.tail } in
      record {
        tail = next.tail;
        later = next.later;
        is = bursts_from-cons cut n b ((silent gap ++ rest) ++ others)
            ∙ (ap (λ y. with_byte cut n b (bursts_from cut (suc n) y))
            (append_assoc (silent gap) rest others)
            ∙ (ap (with_byte cut n b)
            (bursts_from-silence cut (suc n) gap (rest ++ others) ∙ next.is)
            ∙ (with_byte-near cut n b first next.later near
            ∙ ap (λ y. let d : Burst = record { start = n; body = Byte b ∷ y } in d ∷ next.later)
            (ap (λ i. silent i ++ (rest ++ next.tail)) back
            ∙ sym (append_assoc (silent gap) rest next.tail)))));
        behind = next.behind;
      }

  module _ (first second : ℕ) (rules : Rules) where
    abbrev hunts : List Timed → List FrameRead
    hunts x = hunt first second rules 0 x

    abbrev of_bursts : List Burst → List FrameRead
    of_bursts ds = flat_map (λ (d : Burst). hunts (timed d.start d.body)) ds

    abbrev read : ℕ → List Tick → List FrameRead
    read n line = hunt_anew first second rules cut n line

    anew-none : (n : ℕ) → read n [] ≡ []
    unfolding bursts_from
    anew-none n = refl

    -- The hunt over the tail, and then over the later bursts, reads what the device reads of the
    -- others.
    tail-read : (m : ℕ) (others : List Tick) (n : ℕ) (x : List Tick)
        → (join : Joins cut n m x others)
        → hunts (timed m join.tail) ++ of_bursts join.later ≡ read m others
    tail-read m others n x join =
        ⊎_elim
        (λ own.
        ap (λ y. hunts (timed m y) ++ of_bursts join.later) own.0
        ∙ (ap (λ f. f ++ of_bursts join.later) (hunt-none first second rules 0)
        ∙ ap of_bursts (sym own.1)))
        (λ joined.
        ap (λ y. hunts (timed m y) ++ of_bursts join.later) joined.4
        ∙ (ap (λ y. hunts y ++ of_bursts join.later)
        (timed-silent_ticks m joined.1.start joined.0 joined.1.body (sym joined.3))
        ∙ ap of_bursts (sym joined.2)))
        join.behind

    anew-takes : (n m : ℕ) (x others : List Tick) (frames : List FrameRead)
        → IsContiguous 2 x → n + length x ≡ m
        → ((z : List Timed) → hunts (timed n x ++ z) ≡ frames ++ hunts z)
        → read n (x ++ others) ≡ frames ++ read m others
    anew-takes n m x others frames contiguous at takes =
        let join = joins n m x others contiguous at in
        ap of_bursts join.is
        ∙ (ap (λ y. hunts y ++ of_bursts join.later) (timed-append n m x join.tail at)
        ∙ (ap (λ f. f ++ of_bursts join.later) (takes (timed m join.tail))
        ∙ (append_assoc frames (hunts (timed m join.tail)) (of_bursts join.later)
        ∙ ap (λ f. frames ++ f) (tail-read m others n x join))))

    no-bursts : (n : ℕ) → bursts_from cut n [] ≡ []
    unfolding bursts_from
    no-bursts n = refl

    -- Contiguous ticks that are broken off are one burst.
    anew-contiguous : (n : ℕ) (x : List Tick) → IsContiguous 2 x
        → read n x ≡ hunts (timed n x)
    anew-contiguous n x contiguous =
        let m : ℕ = n + length x in
        let join = joins n m x [] contiguous refl in
        let whole : read n x ≡ hunts (timed n (x ++ join.tail)) ++ of_bursts join.later =
        ap (read n) (sym (append-nil x)) ∙ ap of_bursts join.is in
        ⊎_elim
        (λ own.
        whole
        ∙ (ap (λ y. hunts (timed n y) ++ of_bursts join.later)
        (ap (λ y. x ++ y) own.0 ∙ append-nil x)
        ∙ (ap (λ ds. hunts (timed n x) ++ of_bursts ds) (sym own.1 ∙ no-bursts m)
        ∙ append-nil (hunts (timed n x)))))
        (λ joined. let never : [] ≡ joined.1 ∷ join.later = sym (no-bursts m) ∙ joined.2 in cc)
        join.behind

    anew-breaks_off : (n : ℕ) (x : List Tick) → HunterIsFront x → hunts (timed n x) ≡ []
        → read n x ≡ []
    anew-breaks_off n x nothing none = anew-none n
    anew-breaks_off n x (up_to y gap few contiguous) none =
        let m : ℕ = n + length y in
        let quiet : timed m (silent gap) ≡ [] =
        ap (timed m) (sym (append-nil (silent gap)))
        ∙ timed-silent_ticks m (m + gap) gap [] refl in
        let same : timed n (y ++ silent gap) ≡ timed n y =
        timed-append n m y (silent gap) refl
        ∙ (ap (λ z. timed n y ++ z) quiet ∙ append-nil (timed n y)) in
        ap of_bursts (bursts_from-silent_end cut n gap y)
        ∙ (anew-contiguous n y contiguous ∙ (ap hunts (sym same) ∙ none))

    pub anew-hunter : IsHunter first second rules read
    anew-hunter = record {
      none = anew-none;
      waits = λ n k x. ap of_bursts (bursts_from-silence cut n k x);
      takes = anew-takes;
      breaks_off = anew-breaks_off;
    }

    pub anew_reads_what_passed : IsHeaded rules → IsFramed rules → IsHunted first second rules
        → IsLawful rules → IsSpoiling rules → (profile : Profile) (floor : ℕ) (link : List Tick)
        → ReadsWhatPassed rules (read 0) 0 profile floor link
    anew_reads_what_passed headed framed hunted lawful spoiling profile floor link =
        hunter_reads_what_passed first second rules headed framed hunted profile lawful spoiling
        read anew-hunter floor link
