-- What a run of ticks changes in the items and in what is kept of two recordings.
use Rattle.device_model.specs.declared.device.Device.{Ghosts as Device}
use Rattle.{link_format.specs.Setup.Setup, session_lists.proofs.SessionListing.checks-same}
use Rattle.session_lists.proofs.{SessionListing.ready-same, Marks.before_mark-more, Marks.behind_mark-more}
use Rattle.session_lists.specs.{FrameBox.AnswersFrameRun, FrameBox.kept_frames, FrameList.Holds}
use Rattle.session_lists.specs.Recordings.{lists_have_mark, before_mark, behind_mark}
use Rattle.session_lists.specs.ReplayLists.{KeepsFrames, ChecksLists, GoesOnBy, ListsAreReady}
use Rattle.session_lists.specs.declared.frame_box.{FrameBox.Ghosts as FrameBox, Numbered.Numbered}
use Rattle.session_lists.specs.declared.frame_list.FrameList.{FrameList}
use Rattle.session_lists.specs.declared.replay_lists.ReplayLists.{ReplayLists}
use Rattle.std.proofs.Common.{◌≡◌, ◌∙◌, ℕ, ◌+◌, true, false, List, [], ◌∷◌, ◌++◌, length, map, take}
use Rattle.std.proofs.Common.{refl, ap, sym, subst, arith}
use Rattle.{std.proofs.lemmas.List.take-map, yasir_ticks.proofs.TickRuns.items_of_ticks}
use Rattle.yasir_ticks.specs.TickRun.{run_ticks, run_items}
use Rattle.yasir_ticks.specs.Ticks.{Item, ticks_in, Item.tick, Item.mark}
use Rattle.yasir_ticks.specs.declared.{tick.Tick.Tick, tick_run.TickRun.TickRun}

-- ---- items without a mark

no_mark-ticks : (ticks : List Tick) → lists_have_mark (map tick ticks) ≡ false
no_mark-ticks [] = refl
no_mark-ticks (t ∷ ticks) = no_mark-ticks ticks

pub no_mark-front : (run : TickRun) (n : ℕ) → lists_have_mark (take n (run_items run)) ≡ false
no_mark-front run n =
    ap (λ l. lists_have_mark (take n l)) (items_of_ticks run) ∙ ap lists_have_mark (take-map tick n (run_ticks
    run))
    ∙ no_mark-ticks (take n (run_ticks run))

pub has_mark-run : (items more : List Item) → lists_have_mark more ≡ false
    → lists_have_mark (items ++ more) ≡ lists_have_mark items
has_mark-run [] more none = none
has_mark-run (tick t ∷ items) more none = has_mark-run items more none
has_mark-run (mark ∷ items) more none = refl

all_before : (more : List Item) → lists_have_mark more ≡ false → before_mark more ≡ ticks_in more
all_before [] none = refl
all_before (tick t ∷ more) none = ap (λ l. t ∷ l) (all_before more none)
all_before (mark ∷ more) none = cc

none_behind : (more : List Item) → lists_have_mark more ≡ false → behind_mark more ≡ []
none_behind [] none = refl
none_behind (tick t ∷ more) none = none_behind more none
none_behind (mark ∷ more) none = cc

pub before_mark-run : (items more : List Item) → lists_have_mark items ≡ false → lists_have_mark more ≡ false
    → before_mark (items ++ more) ≡ before_mark items ++ ticks_in more
before_mark-run [] more none unmarked = all_before more unmarked
before_mark-run (tick t ∷ items) more none unmarked =
    ap (λ l. t ∷ l) (before_mark-run items more none unmarked)
before_mark-run (mark ∷ items) more none unmarked = cc

pub behind_mark-run : (items more : List Item) → lists_have_mark items ≡ false → lists_have_mark more ≡ false
    → behind_mark (items ++ more) ≡ behind_mark items
behind_mark-run [] more none unmarked = none_behind more unmarked
behind_mark-run (tick t ∷ items) more none unmarked = behind_mark-run items more none unmarked
behind_mark-run (mark ∷ items) more none unmarked = cc

-- ---- a box that has taken a run without a frame

pub keeps-run : {B : Type 0} (box : FrameBox B) (old new : B) (list : FrameList Numbered)
    (setup : Setup) (line run answer : List Tick) → KeepsFrames box old list setup line
    → box.stands new setup (line ++ run)
    → AnswersFrameRun (box.numbering setup) line run answer
    → KeepsFrames box new list setup (line ++ run)
keeps-run box old new list setup line run answer keeps stands answers = record {
  steps = stands;
  holds = subst (λ l. Holds list (kept_frames l)) (sym answers.frames) keeps.holds;
}

-- ---- both recordings

module _ {S C V : Type 0} (s : FrameBox S) (c : FrameBox C) (v : Device V)
    (old new : ReplayLists S C V) (more : List Item) (unmarked : lists_have_mark more ≡ false)
    (run : List Tick) (run_is : ticks_in more ≡ run) where
  size : length run ≡ length (ticks_in more)
  size = ap length (sym run_is)

  -- If the transmitter has taken the run, and it comes before the mark, the lists go on by it.
  pub seals-on : new ≡ record old { sealer = new.sealer; sealed = new.sealed }
      → old.marked ≡ false → s.taken new.sealer ≡ s.taken old.sealer + length run
      → s.able new.sealer → ListsAreReady s c v old
      → ((setup : Setup) (line : List Tick) → KeepsFrames s old.sealer old.sealed setup line
      → KeepsFrames s new.sealer new.sealed setup (line ++ run))
      → GoesOnBy s c v old new more
  seals-on others before counts able ready step =
      let marked : new.marked ≡ old.marked = ap (λ l. l.marked) others in
      let checker : c.taken new.checker ≡ c.taken old.checker =
      ap (λ l. c.taken l.checker) others in
      record {
        moved = λ setup items lists.
            let none : lists_have_mark items ≡ false = sym lists.marked ∙ before in
            let front : before_mark (items ++ more) ≡ before_mark items ++ run =
            before_mark-run items more none unmarked ∙ ap (λ l. before_mark items ++ l) run_is in
            record {
              listed = rw (front, behind_mark-run items more none unmarked) (record {
                seals = step setup (before_mark items) lists.listed.seals;
                checks = checks-same s c v old new others setup (behind_mark items)
                    lists.listed.checks;
              });
              marked = marked ∙ lists.marked ∙ sym (has_mark-run items more unmarked);
            };
        counted = omega (arith, counts, size, checker);
        ready = ready-same s c v old new others able ready;
      }

  -- If the receiver has taken the run, and it comes after the mark, the lists go on by it.
  pub checks-on : new ≡ record old {
    checker = new.checker;
    device = new.device;
    passed = new.passed;
    read = new.read;
  } → old.marked ≡ true → c.taken new.checker ≡ c.taken old.checker + length run
      → ListsAreReady s c v new
      → ((setup : Setup) (link : List Tick) → ChecksLists s c v old setup link
      → ChecksLists s c v new setup (link ++ run))
      → GoesOnBy s c v old new more
  checks-on others behind counts ready step =
      let same : new.marked ≡ old.marked = ap (λ l. l.marked) others in
      let sealer : new.sealer ≡ old.sealer = ap (λ l. l.sealer) others in
      let sealed : new.sealed ≡ old.sealed = ap (λ l. l.sealed) others in
      let kept : s.taken new.sealer ≡ s.taken old.sealer = ap (λ l. s.taken l.sealer) others in
      record {
        moved = λ setup items lists.
            let some : lists_have_mark items ≡ true = sym lists.marked ∙ behind in
            let back : behind_mark (items ++ more) ≡ behind_mark items ++ run =
            behind_mark-more items more some ∙ ap (λ l. behind_mark items ++ l) run_is in
            record {
              listed = rw (before_mark-more items more some, back) (record {
                seals = rw (sealer, sealed) lists.listed.seals;
                checks = step setup (behind_mark items) lists.listed.checks;
              });
              marked = same ∙ lists.marked ∙ sym (has_mark-run items more unmarked);
            };
        counted = omega (arith, counts, size, kept);
        ready = ready;
      }
