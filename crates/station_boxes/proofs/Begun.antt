-- When a receiver of several stations begins anew: with a burst that isn't dropped since others are
-- still leaving.
use Rattle.frame_ending.proofs.{Walks.walked-append, Spread.bursts-spread, Spread.AreSpread}
use Rattle.frame_ending.proofs.Spread.{last_contiguous}
use Rattle.frame_ending.specs.Answers.{told_notes, note_in}
use Rattle.frame_ending.specs.{Causal.IsCausal, Laid.tick_at}
use Rattle.frame_ending.specs.LiveBytes.{live_bytes}
use Rattle.frame_ending.specs.Walk.{Walker, Noted, noted, walked, emitted_by, state_after, notes_at}
use Rattle.line_rules.specs.Rules.{Rules, head_of}
use Rattle.line_rules.specs.declared.head.Head.{Head}
use Rattle.line_rules.specs.declared.head.Head.TheVariants.{Short, Good, Bad}
use Rattle.link_box.proofs.{Judging.checked-busy, Past.past}
use Rattle.link_box.specs.Checking.{FullNote, at_floor, brief_note, checker, note_by, note_tick}
use Rattle.link_box.specs.Checking.{state_by, FullNote.dropped_note}
use Rattle.link_box.specs.Holding.{HasWalked}
use Rattle.link_box.specs.Verdicts.{CheckState, Verdict, checked, kept_after, number_of, trailer_of}
use Rattle.link_box.specs.Verdicts.{verdict_by_head, verdict_by_number, verdict_of}
use Rattle.link_box.specs.Verdicts.Verdict.{passed_with, refused, dropped}
use Rattle.link_box.specs.declared.check_note.CheckNote.{CheckNote}
use Rattle.link_box.specs.declared.check_note.CheckNote.TheVariants.{Dropped}
use Rattle.link_box.specs.declared.check_note.DroppedWhy.TheVariants.{Busy, Head as NoHead}
use Rattle.link_box.specs.declared.check_note.RefusedWhy.TheVariants.{Trailer, Form, Tag}
use Rattle.link_format.specs.Profile.{Profile, pause_len, trailer_len}
use Rattle.station_boxes.proofs.Joined.{none-at}
use Rattle.station_boxes.proofs.Parts.{closed-noted}
use Rattle.stations.specs.Shared.{SharedState, shared, checking_box, its_state}
use Rattle.std.proofs.Common.{◌≡◌, ◌∙◌, ◌==◌, ℕ, ◌+◌, ◌<◌, ◌≤◌, nat_lt, Bool, true, false, List, [], ◌∷◌}
use Rattle.std.proofs.Common.{◌++◌, length, refl, sym, ap, subst, arith, ⊎_elim, Option, Some, None}
use Rattle.std.proofs.Common.{append_assoc, drop, get_or, if◌then◌else◌}
use Rattle.std.proofs.lemmas.Bool.{cases_Bool, cases_lt, cond-true, cond-false, eq-eqb, le-ltb}
use Rattle.std.proofs.lemmas.List.{append-nil, Elements.filter-append}
use Rattle.std.specs.Prelude.{bytes_eq}
use Rattle.yasir_ticks.proofs.BurstLaws.{alone, bursts_from-byte, extended-closed}
use Rattle.yasir_ticks.specs.Bursts.{Burst, bursts, end_of, AreClosed}
use Rattle.yasir_ticks.specs.{BurstsOf.IsContiguous}
use Rattle.yasir_ticks.specs.declared.tick.Tick.{Tick, TheVariants.Byte}

-- ---- what has left

module _ (profile : Profile) (rules : Rules) (station : List ℕ → ℕ) where
  abbrev w : Walker SharedState FullNote
  w = shared station rules (checking_box profile rules)

  abbrev its : SharedState → Burst → CheckState
  its s d = its_state station rules (checking_box profile rules) s d

  past-one : (s : SharedState) (d : Burst) (i : ℕ) → (w.next s d).free_from ≤ i
      → (more : List Burst) → tick_at (w.emission s d ++ more) i ≡ tick_at more i
  past-one s d i gone more =
      ap (λ x. tick_at (x ++ more) i) (sym (append-nil (w.emission s d)))
      ∙ past profile rules (its s d) (d ∷ []) i gone more

  rises-by : (s : SharedState) (d : Burst) (v : Verdict) → s.free_from ≤ d.start
      → s.free_from ≤ (state_by profile rules (its s d) d v).earliest_start
  rises-by s d (passed_with n) from = omega arith
  rises-by s d (refused why) from = omega arith
  rises-by s d (dropped why) from = omega arith

  free-rises : (s : SharedState) (d : Burst) → s.free_from ≤ (w.next s d).free_from
  free-rises s d =
      let P : Verdict → Type 0 = λ v.
      s.free_from ≤ (state_by profile rules (its s d) d v).earliest_start in
      ⊎_elim
      (λ early. subst P (sym (checked-busy profile rules (its s d) d early)) (omega arith))
      (λ late. rises-by s d (checked profile rules (its s d) d) late)
      (cases_lt d.start s.free_from)

  free-after : (s : SharedState) (ds : List Burst) → s.free_from ≤ (state_after w s ds).free_from
  free-after s [] = omega arith
  free-after s (d ∷ ds) =
      let one = free-rises s d in
      let rest = free-after (w.next s d) ds in
      omega arith

  -- From the tick on at which the receiver is free, what was emitted hides nothing.
  pub shared-past : (s : SharedState) (ds : List Burst) (i : ℕ)
      → (state_after w s ds).free_from ≤ i → (more : List Burst)
      → tick_at (emitted_by w s ds ++ more) i ≡ tick_at more i
  shared-past s [] i gone more = refl
  shared-past s (d ∷ ds) i gone more =
      let rest : List Burst = emitted_by w (w.next s d) ds in
      let rises = free-after (w.next s d) ds in
      ap (λ x. tick_at x i) (append_assoc (w.emission s d) rest more)
      ∙ (past-one s d i (omega arith) (rest ++ more) ∙ shared-past (w.next s d) ds i gone more)

-- ---- bursts that are dropped since others are still leaving

module _ (profile : Profile) (rules : Rules) where
  abbrev o : Walker CheckState FullNote
  o = checker profile rules

  no-number : (frame bytes : List ℕ) (number : Option ℕ)
      → verdict_by_number profile frame bytes number ≡ dropped Busy → ⊥
  no-number frame bytes None never = cc
  no-number frame bytes (Some n) never =
      by (bytes_eq (drop profile.word_len bytes) (profile.tag n frame)) never where
        by : (b : Bool) → (if b then passed_with n else refused Tag) ≡ dropped Busy → ⊥
        by true is = cc
        by false is = cc

  no-whole : (short frame : Bool) (v : Verdict) → (v ≡ dropped Busy → ⊥)
      → (if short then refused Trailer else (if frame then v else refused Form)) ≡ dropped Busy → ⊥
  no-whole true frame v none is = cc
  no-whole false true v none is = none is
  no-whole false false v none is = cc

  no-verdict : (floor : ℕ) (d : Burst) → verdict_of profile rules floor d ≡ dropped Busy → ⊥
  unfolding verdict_of
  no-verdict floor d is =
      no-whole (nat_lt (kept_after profile rules d) (pause_len + trailer_len profile))
      (rules.is_frame (live_bytes rules d))
      (verdict_by_number profile (live_bytes rules d) (trailer_of profile rules d)
      (number_of profile floor (trailer_of profile rules d)))
      (no-number (live_bytes rules d) (trailer_of profile rules d)
      (number_of profile floor (trailer_of profile rules d))) is

  no-head : (h : Head) (v : Verdict) → (v ≡ dropped Busy → ⊥) → verdict_by_head h v ≡ dropped Busy
      → ⊥
  no-head Good v none is = none is
  no-head Short v none is = cc
  no-head Bad v none is = cc

  late-not : (s : CheckState) (d : Burst) → s.earliest_start ≤ d.start
      → checked profile rules s d ≡ dropped Busy → ⊥
  unfolding checked
  late-not s d late is =
      no-head (head_of rules (live_bytes rules d)) (verdict_of profile rules s.floor d)
      (no-verdict s.floor d)
      (sym (cond-false _ _ _ (le-ltb d.start s.earliest_start late)) ∙ is)

  busy-of : (d : Burst) (v : Verdict) (start : ℕ)
      → brief_note (note_by rules d v) ≡ Dropped start Busy → v ≡ dropped Busy
  busy-of d (passed_with n) start is = cc
  busy-of d (refused why) start is = cc
  busy-of d (dropped Busy) start is = refl
  busy-of d (dropped NoHead) start is = cc

  -- `since` are the ticks that a receiver has taken, all bursts of which are closed, and then a byte
  -- comes.
  module _ (causal : IsCausal o) (one_state : CheckState) (since : List Tick) (b : ℕ)
      (closed : AreClosed 4 (length since) (bursts since)) where
    abbrev k : ℕ
    k = length since

    abbrev s : CheckState
    s = state_after o one_state (bursts since)

    abbrev d : Burst
    d = alone k b

    pub byte-alone : bursts (since ++ Byte b ∷ []) ≡ bursts since ++ d ∷ []
    byte-alone =
        let here : 0 + length since ≡ k = omega arith in
        bursts_from-byte 4 0 k b since here ∙ extended-closed 4 k b (bursts since) closed

    notes-alone : notes_at k (walked o one_state (bursts (since ++ Byte b ∷ [])))
        ≡ notes_at k (noted o s d ∷ [])
    notes-alone =
        ap (λ l. notes_at k (walked o one_state l)) byte-alone
        ∙ (ap (λ l. notes_at k l) (walked-append o one_state (bursts since) (d ∷ []))
        ∙ (filter-append (λ n. n.tick == k) (walked o one_state (bursts since)) (walked o s (d ∷ []))
        ∙ ap (λ l. l ++ notes_at k (walked o s (d ∷ [])))
        (none-at o one_state k k (bursts since) (omega arith)
        (closed-noted o causal one_state since closed))))

    module _ (told : Option CheckNote)
        (said : told_notes brief_note (notes_at k (walked o one_state (bursts (since ++ Byte b ∷ []))))
        ≡ note_in k told) where
      abbrev Said : List (Noted FullNote) → Type 0
      Said notes = told_notes brief_note notes ≡ note_in k told

      -- If the burst is told to be dropped since others are still leaving, it starts too soon.
      pub busy-soon : (start : ℕ) → told ≡ Some (Dropped start Busy) → k < s.earliest_start
      busy-soon start is =
          let first : Said (notes_at k (noted o s d ∷ [])) = subst Said notes-alone said in
          let T : Option CheckNote → Type 0 = λ x.
          told_notes brief_note (notes_at k (noted o s d ∷ [])) ≡ note_in k x in
          let its_note : told_notes brief_note (notes_at k (noted o s d ∷ []))
          ≡ note_in k (Some (Dropped start Busy)) = subst T is first in
          ⊎_elim
          (λ early. early)
          (λ late. absurd (late-not s d late (found its_note)))
          (cases_lt k s.earliest_start)
        where
          found : told_notes brief_note (notes_at k (noted o s d ∷ []))
              ≡ note_in k (Some (Dropped start Busy))
              → checked profile rules s d ≡ dropped Busy
          found its_note =
              ⊎_elim
              (λ now. let one_note : told_notes brief_note (noted o s d ∷ [])
              ≡ note_in k (Some (Dropped start Busy)) =
              sym (ap (λ l. told_notes brief_note l) (cond-true _ _ _ now)) ∙ its_note in
              let x : Noted CheckNote = record { tick = k; note = Dropped start Busy } in
              let same : brief_note (note_by rules d (checked profile rules s d)) ≡ Dropped start Busy =
              ap (λ l. (get_or l 0 x).note) one_note in
              busy-of d (checked profile rules s d) start same)
              (λ other. let none : told_notes brief_note []
              ≡ note_in k (Some (Dropped start Busy)) =
              sym (ap (λ l. told_notes brief_note l) (cond-false _ _ _ other)) ∙ its_note in
              absurd cc)
              (cases_Bool (o.tick s d == k))

      -- If it isn't told so, the receiver is free.
      pub not-busy : (told ≡ Some (Dropped k Busy) → ⊥) → s.earliest_start ≤ k
      not-busy other =
          ⊎_elim
          (λ early.
          let x : Noted CheckNote = record { tick = k; note = Dropped k Busy } in
          let busy : checked profile rules s d ≡ dropped Busy = checked-busy profile rules s d early in
          let P : Verdict → Type 0 = λ v.
          notes_at k (record { tick = note_tick profile rules d v; note = note_by rules d v } ∷ [])
          ≡ record { tick = k; note = dropped_note k Busy } ∷ [] in
          let at : notes_at k (noted o s d ∷ [])
          ≡ record { tick = k; note = dropped_note k Busy } ∷ [] =
          subst P (sym busy) (cond-true _ _ _ (eq-eqb k k refl)) in
          let first : Said (notes_at k (noted o s d ∷ [])) = subst Said notes-alone said in
          absurd (other (by told (sym first ∙ ap (λ l. told_notes brief_note l) at))))
          (λ late. late)
          (cases_lt k s.earliest_start)
        where
          by : (o : Option CheckNote)
              → note_in k o ≡ record { tick = k; note = Dropped k Busy } ∷ []
              → o ≡ Some (Dropped k Busy)
          by None none = cc
          by (Some note) is =
              let x : Noted CheckNote = record { tick = k; note = note } in
              ap (λ l. Some (get_or l 0 x).note) is

  -- ---- the last number

  last-closed : (m : ℕ) (front : List Burst) (d : Burst) → AreClosed 4 m (front ++ d ∷ [])
      → end_of d + 4 ≤ m
  last-closed m [] d closed = closed.0
  last-closed m (e ∷ front) d closed = last-closed m front d closed.1

  -- If all bursts are closed, the walk has come past all of them.
  pub walked-closed : IsCausal o → (floor : ℕ) (since : List Tick) (s : CheckState) (passes : Bool) (left : List ℕ)
      (live : List Tick) (owes : ℕ) (waiting : Option Burst)
      → HasWalked profile rules floor (length since) (bursts since) s passes left live owes waiting
      → AreClosed 4 (length since) (bursts since) → state_after o (at_floor floor) (bursts since) ≡ s
  walked-closed causal floor since t passes left live owes None has closed =
      ap (λ l. state_after o (at_floor floor) l) (has.come.is ∙ append-nil has.come.settled)
      ∙ has.come.state
  walked-closed causal floor since t passes left live owes (Some e) has closed =
      let P : List Burst → Type 0 = λ l. AreClosed 4 (length since) l in
      let Q : List Burst → Type 0 = λ l. AreSpread 4 0 l in
      let whole : IsContiguous 4 e.body =
      last_contiguous 0 has.come.settled e (subst Q has.come.is (bursts-spread since)) in
      let ended = last-closed (length since) has.come.settled e (subst P has.come.is closed) in
      let soon = causal.in_time t e whole in
      let waits : length since ≤ o.tick t e = has.come.waits in
      absurd (omega arith)
