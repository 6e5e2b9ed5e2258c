-- After a link has ended, all has left once the delay is over, and one more tick for each byte that
-- its last burst lacks.
use Rattle.frame_ending.proofs.Emissions.{tick_at-none, laid-more}
use Rattle.frame_ending.proofs.Spread.{AreSpread, EndBy, bursts-spread, bursts-end}
use Rattle.frame_ending.proofs.Walks.{before-early}
use Rattle.frame_ending.specs.{Causal.IsCausal, Laid.tick_at, Laid.laid}
use Rattle.frame_ending.specs.Walk.{Walker, Noted, noted, walked, emitted_by, state_after, notes_before}
use Rattle.device_model.specs.Frames.{FrameRead}
use Rattle.line_rules.specs.{Rules.Rules, RulesLaws.IsLawful, RulesLaws.IsHeaded}
use Rattle.link_format.specs.Profile.{Profile, delay}
use Rattle.link_box.proofs.CheckCausality.{checker-causal}
use Rattle.link_box.proofs.Past.{past}
use Rattle.link_box.specs.Checking.{FullNote, checker, at_floor, passed, received_line}
use Rattle.link_box.specs.{Timely.IsTimely, Verdicts.CheckState}
use Rattle.receiver_laws.proofs.{InStep.free-by, Notes.frames_in, Recovering.left-by}
use Rattle.receiver_laws.specs.AllLeft.{HasAllLeft, ReadsAllThatPassed}
use Rattle.receiver_laws.specs.{Reading.ReadsWhatPassed, Reading.delivered, Recovery.LackAtMost}
use Rattle.std.proofs.Common.{◌≡◌, ◌∙◌, ℕ, zero, suc, ◌+◌, ◌≤◌, ◌<◌, List, [], ◌∷◌, ◌++◌, length}
use Rattle.std.proofs.Common.{map, refl, sym, ap, arith, append_assoc, length-append}
use Rattle.std.proofs.lemmas.List.{append-nil, length-replicate}
use Rattle.yasir_ticks.proofs.BurstLaws.{bursts_from-silent_end}
use Rattle.yasir_ticks.specs.Bursts.{Burst, bursts, end_of}
use Rattle.yasir_ticks.specs.{Ticks.silent, Ticks.AreTicks, declared.TheConstants.T3_5_TICKS}
use Rattle.yasir_ticks.specs.declared.tick.Tick.{Tick, TheVariants.Silent}

-- ---- any causal walk

-- If emissions are silent from a tick on, silence follows what is laid of them.
laid-dark : (es : List Burst) (m k : ℕ) → ((i : ℕ) → m ≤ i → tick_at es i ≡ Silent)
    → laid (m + k) es ≡ laid m es ++ silent k
laid-dark es m zero dark =
    let none : m + 0 ≡ m = omega arith in
    ap (λ n. laid n es) none ∙ sym (append-nil (laid m es))
laid-dark es m (suc k) dark =
    let next : m + suc k ≡ m + 1 + k = omega arith in
    ap (λ n. laid n es) next
    ∙ (laid-dark es (m + 1) k (λ i from. dark i (omega arith))
    ∙ (ap (λ l. l ++ silent k) (laid-more m es)
    ∙ (append_assoc (laid m es) (tick_at es m ∷ []) (silent k)
    ∙ ap (λ t. laid m es ++ t ∷ silent k) (dark m (omega arith)))))

module _ {S N : Type 0} (w : Walker S N) (causal : IsCausal w) where
  -- Four ticks after the end of the last burst, all bursts have been noted.
  all-noted : (s : S) (n m k : ℕ) (ds : List Burst) → AreSpread T3_5_TICKS n ds → EndBy m ds
      → m + T3_5_TICKS ≤ k → notes_before k (walked w s ds) ≡ walked w s ds
  all-noted s n m k [] spread ends late = refl
  all-noted s n m k (d ∷ ds) spread ends late =
      let soon : w.tick s d < end_of d + T3_5_TICKS = causal.in_time s d spread.1 in
      let end : end_of d ≤ m = ends.0 in
      let early : w.tick s d < k = omega arith in
      before-early k (noted w s d) (walked w (w.next s d) ds) early
      ∙ ap (λ l. noted w s d ∷ l)
      (all-noted (w.next s d) (end_of d + T3_5_TICKS) m k ds spread.2 ends.1 late)

silence-behind : (link : List Tick) (k : ℕ) → length (link ++ silent k) ≡ length link + k
silence-behind link k =
    length-append link (silent k) ∙ ap (λ n. length link + n) (length-replicate k Silent)

-- ---- the receiver

module _ (profile : Profile) (rules : Rules) (lawful : IsLawful rules) (headed : IsHeaded rules)
    (timely : IsTimely profile rules) (floor : ℕ) (link : List Tick) where
  abbrev w : Walker CheckState FullNote
  w = checker profile rules

  abbrev begun : CheckState
  begun = at_floor floor

  -- what the bursts of the link emit
  abbrev es : List Burst
  es = emitted_by w begun (bursts link)

  -- the notes of these bursts
  abbrev all : List (Noted FullNote)
  all = walked w begun (bursts link)

  passes-all : (k : ℕ) → 4 ≤ k → passed profile rules floor (link ++ silent k) ≡ frames_in all
  passes-all k some =
      ap (λ ds. frames_in (notes_before (length (link ++ silent k)) (walked w begun ds)))
      (bursts_from-silent_end T3_5_TICKS 0 k link)
      ∙ (ap (λ n. frames_in (notes_before n all)) (silence-behind link k)
      ∙ ap frames_in
      (all-noted w (checker-causal profile rules lawful headed timely) begun 0 (length link)
      (length link + k) (bursts link) (bursts-spread link) (bursts-end link) (omega arith)))

  line-is : (k : ℕ) → received_line profile rules floor (link ++ silent k)
      ≡ laid (length link + k) es
  line-is k =
      ap (λ ds. laid (length (link ++ silent k)) (emitted_by w begun ds))
      (bursts_from-silent_end T3_5_TICKS 0 k link)
      ∙ ap (λ n. laid n es) (silence-behind link k)

  module _ (most : ℕ) (lack : LackAtMost rules most) (ticks : AreTicks link) (rest : ℕ)
      (long : delay profile + most ≤ rest) where
    -- Once `rest` silent ticks have followed the link, nothing more leaves.
    dark : (i : ℕ) → length link + rest ≤ i → tick_at es i ≡ Silent
    dark i from =
        let bound : ℕ = length link + delay profile + most in
        let free : (state_after w begun (bursts link)).earliest_start ≤ bound =
        free-by profile rules bound begun (bursts link) (omega arith)
        (left-by profile rules lawful most lack link ticks (length link) refl) in
        ap (λ l. tick_at l i) (sym (append-nil es))
        ∙ (past profile rules begun (bursts link) i (omega arith) [] ∙ tick_at-none i)

    pub all-left : (more : ℕ) → HasAllLeft profile rules floor link rest more
    all-left more =
        let some : 4 ≤ rest = omega arith in
        let sum : length link + (rest + more) ≡ length link + rest + more = omega arith in
        record {
          received = line-is (rest + more)
              ∙ (ap (λ n. laid n es) sum
              ∙ (laid-dark es (length link + rest) more dark
              ∙ ap (λ l. l ++ silent more) (sym (line-is rest))));
          passes = passes-all (rest + more) (omega arith) ∙ sym (passes-all rest some);
        }

    -- If a device reads only what passed, it reads all of it once all has left.
    pub reads-all : (reads : List Tick → List FrameRead) (ends : ℕ)
        → ReadsWhatPassed rules reads ends profile floor link
        → (more : ℕ) → ends ≤ more
        → ReadsAllThatPassed rules reads profile floor link rest more
    reads-all reads ends what more enough =
        let left = all-left more in
        ap reads (sym left.received)
        ∙ (what.all (rest + more) (omega arith)
        ∙ ap (λ frames. map (delivered profile) frames) left.passes)
