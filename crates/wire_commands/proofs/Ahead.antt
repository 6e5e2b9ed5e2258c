-- A box of one direction, as it takes more ticks ahead and lets them leave.
use Rattle.frame_ending.proofs.Longer.{length-line_of}
use Rattle.frame_ending.specs.{Answered.answered, Answers.note_in, Walk.Walker, Walk.line_of}
use Rattle.link_box.specs.{Runs.TakesRun, Stepping.BoxSteps, Walking.other_line}
use Rattle.link_box.specs.declared.box_trait.LinkBox.{Ghosts as LinkBox}
use Rattle.link_format.specs.Setup.{Setup}
use Rattle.sequence_journal.specs.Journal.{journal_link, journal_floor, Fits}
use Rattle.std.proofs.Common.{◌≡◌, ◌∙◌, ℕ, zero, suc, ◌+◌, ◌-◌, ◌<◌, ◌≤◌, List, [], ◌∷◌, ◌++◌, length}
use Rattle.std.proofs.Common.{take, drop, map, get_or, Option, Some, None, refl, sym, ap, subst, arith}
use Rattle.std.proofs.Common.{append_assoc, append-nil, length-append}
use Rattle.std.proofs.lemmas.List.{length-take-le, length-drop, length-map, length-replicate}
use Rattle.std.proofs.lemmas.List.{drop-replicate, drop-drop, take-append-drop}
use Rattle.wire_commands.proofs.Hearing.{sure-take}
use Rattle.wire_commands.specs.Hearing.{SurelyHears}
use Rattle.wire_commands.specs.WireBox.{next_of, leaving, silent_in, silent_behind, IsServed, ticks_gone}
use Rattle.wire_commands.specs.WireBox.{HasLeft, notes_told, TakesFirst, CatchesUp, Leaves}
use Rattle.wire_commands.specs.declared.wire_box.WireBox.{WireBox}
use Rattle.yasir_io.specs.Steady.{steady_slots}
use Rattle.yasir_ticks.specs.{Bursts.bursts_from, Ticks.silent}
use Rattle.yasir_ticks.specs.declared.tick.Tick.{Tick, TheVariants.Silent, TheVariants.Byte}

no-tick : {S N : Type 0} (w : Walker S N) (s : S) → line_of w s [] ≡ []
unfolding bursts_from
no-tick w s = refl

-- ---- the ticks that follow the one that leaves now

answered-some : (n : ℕ) (x : List ℕ) → 0 < length x → answered n x ≡ map Byte x
answered-some n [] some = absurd (omega arith)
answered-some n (b ∷ x) some = refl

answered-none : (n : ℕ) (x : List ℕ) → length x ≡ 0 → answered n x ≡ silent n
answered-none n [] none = refl
answered-none n (b ∷ x) none = absurd (omega (arith, none))

pub some-size : (n : ℕ) (x : List ℕ) → 0 < length x → length (answered n x) ≡ length x
some-size n x some = ap length (answered-some n x some) ∙ length-map x Byte

pub none-size : (n : ℕ) (x : List ℕ) → length x ≡ 0 → length (answered n x) ≡ n
none-size n x none = ap length (answered-none n x none) ∙ length-replicate n Silent

answered-bytes : (x : List ℕ) → answered 0 x ≡ map Byte x
answered-bytes [] = refl
answered-bytes (b ∷ x) = refl

pub silent-some : (n : ℕ) (x : List ℕ) → 0 < length x → silent_in n x ≡ 0
silent-some n [] some = absurd (omega arith)
silent-some n (b ∷ x) some = refl

pub silent-none : (n : ℕ) (x : List ℕ) → length x ≡ 0 → silent_in n x ≡ n
silent-none n [] none = refl
silent-none n (b ∷ x) none = absurd (omega (arith, none))

-- if nothing follows, no silence does
pub no-next : (n : ℕ) (x : List ℕ) → answered n x ≡ [] → n ≡ 0
no-next n [] none = sym (length-replicate n Silent) ∙ ap length none
no-next n (b ∷ x) none = absurd (omega (arith, ap length none))

-- if silence follows, it is all that follows
pub silence-follows : (n : ℕ) (x : List ℕ) → 0 < silent_in n x → answered n x ≡ silent (silent_in n x)
silence-follows n [] some = refl
silence-follows n (b ∷ x) some = absurd (omega arith)

bytes-behind : (x : List ℕ) (n : ℕ) → n < length x
    → Byte (get_or x n 0) ∷ map Byte (drop (suc n) x) ≡ drop n (map Byte x)
bytes-behind [] n inside = absurd (omega arith)
bytes-behind (b ∷ x) zero inside = refl
bytes-behind (b ∷ x) (suc n) inside = bytes-behind x n (omega arith)

read-behind : (at n : ℕ) (x : List ℕ) → get_or (drop at x) n 0 ≡ get_or x (at + n) 0
read-behind zero n x = let same : n ≡ 0 + n = omega arith in ap (λ k. get_or x k 0) same
read-behind (suc at) n [] = refl
read-behind (suc at) n (b ∷ x) =
    let same : suc at + n ≡ suc (at + n) = omega arith in
    read-behind at n x ∙ sym (ap (λ k. get_or (b ∷ x) k 0) same)

-- Bytes leave.
pub bytes-leave : (now : Tick) (n : ℕ) (items : List ℕ) (at ticks last : ℕ) → last + 1 ≡ ticks
    → at + last < length items
    → Byte (get_or items (at + last) 0) ∷ answered 0 (drop (at + ticks) items)
    ≡ drop ticks (now ∷ answered n (drop at items))
bytes-leave now n items at ticks last is inside =
    let d : List ℕ = drop at items in
    let size = length-drop at items in
    let some : last < length d = omega (arith, inside) in
    let next : ticks ≡ suc last = omega (arith, is) in
    let rest : answered 0 (drop (at + ticks) items) ≡ map Byte (drop (suc last) d) =
    answered-bytes (drop (at + ticks) items)
    ∙ ap (map Byte) (ap (λ k. drop (at + k) items) next ∙ sym (drop-drop (suc last) at items)) in
    ap (λ b. Byte b ∷ answered 0 (drop (at + ticks) items)) (sym (read-behind at last items))
    ∙ (ap (λ l. Byte (get_or d last 0) ∷ l) rest
    ∙ (bytes-behind d last some
    ∙ (ap (λ l. drop last l) (sym (answered-some n d (omega arith)))
    ∙ ap (λ k. drop k (now ∷ answered n d)) (sym next))))

-- Silence leaves.
pub silence-leaves : (now : Tick) (n : ℕ) (items : List ℕ) (at ticks left : ℕ)
    → length items ≤ at → 0 < ticks → left + ticks ≡ n
    → Silent ∷ answered left (drop at items) ≡ drop ticks (now ∷ answered n (drop at items))
silence-leaves now n items at zero left past some is = absurd (omega arith)
silence-leaves now n items at (suc last) left past some is =
    let none : length (drop at items) ≡ 0 = omega (arith, length-drop at items, past) in
    let rest : n - last ≡ suc left = omega (arith, is) in
    ap (λ l. Silent ∷ l) (answered-none left (drop at items) none)
    ∙ sym (ap (λ l. drop last l) (answered-none n (drop at items) none)
    ∙ (drop-replicate last n Silent ∙ ap silent rest))

few-silent : (n : ℕ) (x : List ℕ) (m : ℕ) → answered n x ≡ [] → silent_in n x ≤ m
few-silent n [] m none = omega (arith, no-next n [] none)
few-silent n (b ∷ x) m none = omega arith

-- how many ticks follow when some have left
pub next-size : {B : Type 0} (old new : WireBox B) (ticks : ℕ) → ticks ≤ length (next_of old)
    → Leaves old new ticks → length (next_of new) + ticks ≡ length (next_of old)
next-size old new ticks within leaves =
    omega (arith, within, ap length leaves.leaving_is, length-drop ticks (leaving old))

module _ {B N : Type 0} (b : LinkBox B N) where
  -- ---- the box takes ticks

  sized : (setup : Setup) (line run answer : List Tick)
      → other_line b.walking setup (line ++ run) ≡ other_line b.walking setup line ++ answer
      → length answer ≡ length run
  sized setup line run answer is =
      let w = b.walking.walker setup in
      let begun = b.walking.begun setup in
      omega (
        arith,
        length-line_of w begun line,
        length-line_of w begun (line ++ run),
        length-append line run,
        length-append (other_line b.walking setup line) answer,
        ap length is,
      )

  -- what follows the tick that leaves now, if nothing did before
  leaves-more : (old new : WireBox B) (setup : Setup) (line run answer left : List Tick)
      → next_of old ≡ [] → next_of new ≡ answer → new.first ≡ old.first
      → other_line b.walking setup (line ++ run) ≡ other_line b.walking setup line ++ answer
      → Silent ∷ other_line b.walking setup line ≡ left ++ leaving old
      → Silent ∷ other_line b.walking setup (line ++ run) ≡ left ++ leaving new
  leaves-more old new setup line run answer left none next now is leaves =
      ap (λ l. Silent ∷ l) is
      ∙ (ap (λ l. l ++ answer) leaves
      ∙ (ap (λ l. (left ++ old.first ∷ l) ++ answer) none
      ∙ (append_assoc left (old.first ∷ []) answer
      ∙ (ap (λ t. left ++ t ∷ answer) (sym now) ∙ ap (λ l. left ++ new.first ∷ l) (sym next)))))

  pub took-run : (old new : WireBox B) (run : List Tick) (n : ℕ) (answer : List Tick)
      → TakesRun b.walking b.stands old.line_box new.line_box (take n run) answer
      → 0 < n → n ≤ length run → length run ≤ 256 → next_of old ≡ [] → next_of new ≡ answer
      → new.first ≡ old.first → new.journal ≡ old.journal → new.disk ≡ old.disk
      → b.taken new.line_box ≡ b.taken old.line_box + n
      → b.link_of new.line_box ≡ b.link_of old.line_box → IsServed b old
      → TakesFirst b old new run None
  took-run old new run n answer takes some within few none next now journal disk taken link served =
      let first = takes (journal_floor old.journal) served.setup served.line served.stands in
      let size : length (take n run) ≡ n = length-take-le n run within in
      let long : length (next_of new) ≡ n =
      omega (
        arith,
        ap length next,
        sized served.setup served.line (take n run) answer
            first.answers.ticks,
        size,
      ) in
      let same : take n run ≡ take (length (next_of new)) run = ap (λ k. take k run) (sym long) in
      let empty : length (next_of old) ≡ 0 = ap length none in
      record {
        served = record {
          of_link = ap journal_link journal ∙ (served.of_link ∙ sym link);
          fits = subst (λ d. Fits new.journal (Some (steady_slots d))) (sym disk)
              (subst (λ j. Fits j (Some (steady_slots old.disk))) (sym journal) served.fits);
          few = omega (arith, long, within, few);
          counted = omega (arith, long, taken);
          setup = served.setup;
          line = served.line ++ take n run;
          stands = subst (λ j. b.stands new.line_box (journal_floor j) served.setup
              (served.line ++ take n run)) (sym journal) first.stands;
        };
        gone = omega (arith, taken, long, empty);
        some = omega (arith, long, some);
        within = omega (arith, long, within);
        now_is = now;
        left = λ setup line left is.
            let ran = takes (journal_floor old.journal) setup line is.stands in
            subst (λ l. HasLeft b new setup (line ++ l) left) same (record {
              stands = subst (λ j. b.stands new.line_box (journal_floor j) setup
                  (line ++ take n run)) (sym journal) ran.stands;
              leaves = leaves-more old new setup line (take n run) answer left none next now
                  ran.answers.ticks is.leaves;
            });
        notes = λ setup line left is.
            let ran = takes (journal_floor old.journal) setup line is.stands in
            subst (λ l. notes_told b setup (line ++ l) ≡ notes_told b setup line ++ []) same
            (ran.answers.notes ∙ sym (append-nil (notes_told b setup line)));
      }

  pub took-step : (old new : WireBox B) (t tick : Tick) (note : Option N)
      → BoxSteps b.walking b.stands old.line_box (journal_floor old.journal) new.line_box
      (journal_floor new.journal) t tick note
      → next_of old ≡ [] → next_of new ≡ tick ∷ [] → new.first ≡ old.first
      → journal_link new.journal ≡ journal_link old.journal
      → Fits new.journal (Some (steady_slots new.disk))
      → b.taken new.line_box ≡ b.taken old.line_box + 1
      → b.link_of new.line_box ≡ b.link_of old.line_box → IsServed b old
      → TakesFirst b old new (t ∷ []) note
  took-step old new t tick note steps none next now journal fits taken link served =
      let long : length (next_of new) ≡ 1 = ap length next in
      let empty : length (next_of old) ≡ 0 = ap length none in
      let same : t ∷ [] ≡ take (length (next_of new)) (t ∷ []) =
      ap (λ k. take k (t ∷ [])) (sym long) in
      record {
        served = record {
          of_link = journal ∙ (served.of_link ∙ sym link);
          fits = fits;
          few = omega (arith, long);
          counted = omega (arith, long, taken);
          setup = served.setup;
          line = served.line ++ t ∷ [];
          stands = (steps served.setup served.line served.stands).stands;
        };
        gone = omega (arith, taken, long, empty);
        some = omega (arith, long);
        within = omega (arith, long);
        now_is = now;
        left = λ setup line left is.
            let stepped = steps setup line is.stands in
            subst (λ l. HasLeft b new setup (line ++ l) left) same (record {
              stands = stepped.stands;
              leaves = leaves-more old new setup line (t ∷ []) (tick ∷ []) left none next now
                  stepped.answers.tick is.leaves;
            });
        notes = λ setup line left is.
            subst (λ l. notes_told b setup (line ++ l)
            ≡ notes_told b setup line ++ note_in (length line) note) same
            (steps setup line is.stands).answers.note;
      }

  -- ---- the box took no tick at once, and then one

  pub stands-still : (old new : B) (run : List Tick) (n : ℕ) → n ≡ 0 → (answer : List Tick)
      → TakesRun b.walking b.stands old new (take n run) answer
      → (last : ℕ) (setup : Setup) (line : List Tick) → b.stands old last setup line
      → b.stands new last setup line
  stands-still old new run n none answer takes last setup line stands =
      subst (λ l. b.stands new last setup l)
      (ap (λ k. line ++ take k run) none ∙ append-nil line) (takes last setup line stands).stands

  pub still-served : (old mid : WireBox B)
      → ((last : ℕ) (setup : Setup) (line : List Tick) → b.stands old.line_box last setup line
      → b.stands mid.line_box last setup line)
      → next_of mid ≡ [] → mid.journal ≡ old.journal → mid.disk ≡ old.disk
      → b.link_of mid.line_box ≡ b.link_of old.line_box → IsServed b old → IsServed b mid
  still-served old mid stands none journal disk link served =
      let empty : length (next_of mid) ≡ 0 = ap length none in
      record {
        of_link = ap journal_link journal ∙ (served.of_link ∙ sym link);
        fits = subst (λ d. Fits mid.journal (Some (steady_slots d))) (sym disk)
            (subst (λ j. Fits j (Some (steady_slots old.disk))) (sym journal) served.fits);
        few = omega (arith, empty);
        counted = omega (arith, empty);
        setup = served.setup;
        line = served.line;
        stands = subst (λ j. b.stands mid.line_box (journal_floor j) served.setup served.line)
            (sym journal) (stands (journal_floor old.journal) served.setup served.line served.stands);
      }

  pub took-one : (old mid new : WireBox B) (run : List Tick) (t : Tick) (rest : List Tick)
      (note : Option N) → run ≡ t ∷ rest
      → ((last : ℕ) (setup : Setup) (line : List Tick) → b.stands old.line_box last setup line
      → b.stands mid.line_box last setup line)
      → next_of old ≡ [] → next_of mid ≡ [] → mid.first ≡ old.first → mid.journal ≡ old.journal
      → b.taken mid.line_box ≡ b.taken old.line_box
      → TakesFirst b mid new (t ∷ []) note → TakesFirst b old new run note
  took-one old mid new run t rest note is stands none none_mid now journal taken takes =
      let one : length (next_of new) ≡ 1 = omega (arith, takes.some, takes.within) in
      let empty : length (next_of old) ≡ 0 = ap length none in
      let empty_mid : length (next_of mid) ≡ 0 = ap length none_mid in
      let same : take (length (next_of new)) (t ∷ []) ≡ take (length (next_of new)) run =
      ap (λ k. take k (t ∷ [])) one
      ∙ sym (ap (λ k. take k run) one ∙ ap (λ l. take 1 l) is) in
      let leaving_is : leaving old ≡ leaving mid =
      ap (λ l. old.first ∷ l) none
      ∙ sym (ap (λ l. mid.first ∷ l) none_mid ∙ ap (λ u. u ∷ []) now) in
      let on : (setup : Setup) (line left : List Tick) → HasLeft b old setup line left
      → HasLeft b mid setup line left = λ setup line left is. record {
        stands = subst (λ j. b.stands mid.line_box (journal_floor j) setup line) (sym journal)
            (stands (journal_floor old.journal) setup line is.stands);
        leaves = is.leaves ∙ ap (λ l. left ++ l) leaving_is;
      } in
      record {
        served = takes.served;
        gone = takes.gone ∙ (omega (arith, taken, empty, empty_mid));
        some = takes.some;
        within = omega (arith, one, ap length is);
        now_is = takes.now_is ∙ now;
        left = λ setup line left is. subst (λ l. HasLeft b new setup (line ++ l) left) same
            (takes.left setup line left (on setup line left is));
        notes = λ setup line left is. subst (λ l. notes_told b setup (line ++ l)
            ≡ notes_told b setup line ++ note_in (length line) note) same
            (takes.notes setup line left (on setup line left is));
      }

  -- ---- the box has taken no tick

  pub begins : (value : WireBox B) (setup : Setup) → next_of value ≡ [] → value.first ≡ Silent
      → b.stands value.line_box (journal_floor value.journal) setup [] → HasLeft b value setup [] []
  begins value setup none silent stands = record {
    stands = stands;
    leaves = ap (λ l. Silent ∷ l) (no-tick (b.walking.walker setup) (b.walking.begun setup)
        ∙ sym none) ∙ ap (λ t. t ∷ next_of value) (sym silent);
  }

  pub begins-served : (value : WireBox B) (setup : Setup) → next_of value ≡ []
      → journal_link value.journal ≡ b.link_of value.line_box
      → Fits value.journal (Some (steady_slots value.disk))
      → b.stands value.line_box (journal_floor value.journal) setup [] → IsServed b value
  begins-served value setup none of_link fits stands = record {
    of_link = of_link;
    fits = fits;
    few = omega (arith, ap length none);
    counted = omega (arith, ap length none);
    setup = setup;
    line = [];
    stands = stands;
  }

  -- ---- the box is ahead

  pub left-size : (value : WireBox B) (setup : Setup) (line left : List Tick)
      → HasLeft b value setup line left → length line ≡ length left + length (next_of value)
  left-size value setup line left is =
      omega (
        arith,
        length-line_of (b.walking.walker setup) (b.walking.begun setup) line,
        length-append left (leaving value),
        ap length is.leaves,
      )

  pub ahead-already : (value : WireBox B) (known wires : List Tick) (most : ℕ) → IsServed b value
      → 0 < length (next_of value) → length (next_of value) ≤ most
      → CatchesUp b value value known wires most None
  ahead-already value known wires most served some within = record {
    served = served;
    gone = refl;
    some = some;
    within = within;
    now_is = refl;
    more = [];
    leaving_is = sym (append-nil (leaving value));
    silent_is = omega arith;
    caught = λ setup gone ahead left is level sure. record {
      more = [];
      left_is = subst (λ l. HasLeft b value setup (gone ++ l) left) (sym (append-nil ahead)) is;
      heard = subst (SurelyHears known wires) (sym (append-nil ahead)) sure;
      noted = ap (λ l. notes_told b setup (gone ++ l)) (append-nil ahead)
          ∙ sym (append-nil (notes_told b setup (gone ++ ahead)));
    };
  }

  none-ahead : (value : WireBox B) (setup : Setup) (gone ahead left : List Tick)
      → HasLeft b value setup (gone ++ ahead) left → length left ≡ length gone
      → next_of value ≡ [] → ahead ≡ []
  none-ahead value setup gone [] left is level none = refl
  none-ahead value setup gone (t ∷ ahead) left is level none = absurd (omega (
    arith,
    left-size value setup (gone ++ t ∷ ahead) left is,
    length-append gone (t ∷ ahead),
    level,
    ap length none,
  ))

  pub ahead-now : (old new : WireBox B) (known wires run : List Tick) (most : ℕ) (note : Option N)
      → next_of old ≡ [] → SurelyHears known wires run → length run ≤ most
      → TakesFirst b old new run note → CatchesUp b old new known wires most note
  ahead-now old new known wires run most note none sure within takes =
      let k : ℕ = length (next_of new) in
      let more : List Tick = take k run in
      record {
        served = takes.served;
        gone = takes.gone;
        some = takes.some;
        within = omega (arith, takes.within, within);
        now_is = takes.now_is;
        more = next_of new;
        leaving_is = ap (λ u. u ∷ next_of new) takes.now_is
            ∙ sym (ap (λ l. (old.first ∷ l) ++ next_of new) none);
        silent_is = few-silent old.next (drop old.at old.bytes.items) (silent_behind new) none;
        caught = λ setup gone ahead left is level heard.
            let nothing : ahead ≡ [] = none-ahead old setup gone ahead left is level none in
            let line : gone ++ ahead ≡ gone = ap (λ l. gone ++ l) nothing ∙ append-nil gone in
            let both : ahead ++ more ≡ more = ap (λ l. l ++ more) nothing in
            record {
              more = more;
              left_is = subst (λ l. HasLeft b new setup (gone ++ l) left) (sym both)
                  (subst (λ l. HasLeft b new setup (l ++ more) left) line
                  (takes.left setup (gone ++ ahead) left is));
              heard = subst (SurelyHears known wires) (sym both) (sure-take k known wires run sure);
              noted = subst (λ l. notes_told b setup (gone ++ l)
                  ≡ notes_told b setup (gone ++ ahead) ++ note_in (length gone) note) (sym both)
                  (subst (λ l. notes_told b setup (l ++ more)
                  ≡ notes_told b setup (gone ++ ahead) ++ note_in (length l) note) line
                  (takes.notes setup (gone ++ ahead) left is));
            };
      }

  -- ---- ticks leave

  pub left-served : (old new : WireBox B) (ticks : ℕ) → ticks ≤ length (next_of old)
      → Leaves old new ticks → IsServed b old → IsServed b new
  left-served old new ticks within leaves served =
      let size = next-size old new ticks within leaves in
      record {
        of_link = ap journal_link leaves.journal_is
            ∙ (served.of_link ∙ sym (ap b.link_of leaves.box_is));
        fits = subst (λ d. Fits new.journal (Some (steady_slots d))) (sym leaves.disk_is)
            (subst (λ j. Fits j (Some (steady_slots old.disk))) (sym leaves.journal_is)
            served.fits);
        few = omega (arith, size, served.few);
        counted = omega (arith, size, served.counted, ap b.taken leaves.box_is);
        setup = served.setup;
        line = served.line;
        stands = subst (λ x. b.stands x (journal_floor new.journal) served.setup served.line)
            (sym leaves.box_is)
            (subst (λ j. b.stands old.line_box (journal_floor j) served.setup served.line)
            (sym leaves.journal_is) served.stands);
      }

  pub left-gone : (old new : WireBox B) (ticks : ℕ) → ticks ≤ length (next_of old)
      → Leaves old new ticks → IsServed b old → ticks_gone b new ≡ ticks_gone b old + ticks
  left-gone old new ticks within leaves served = omega (
    arith,
    next-size old new ticks within leaves,
    served.counted,
    ap b.taken leaves.box_is,
  )

  pub left-more : (old new : WireBox B) (ticks : ℕ) (setup : Setup) (line left : List Tick)
      → Leaves old new ticks → HasLeft b old setup line left
      → HasLeft b new setup line (left ++ take ticks (leaving old))
  left-more old new ticks setup line left leaves is = record {
    stands = subst (λ x. b.stands x (journal_floor new.journal) setup line) (sym leaves.box_is)
        (subst (λ j. b.stands old.line_box (journal_floor j) setup line) (sym leaves.journal_is)
        is.stands);
    leaves = is.leaves
        ∙ (ap (λ l. left ++ l) (sym (take-append-drop ticks (leaving old)))
        ∙ (sym (append_assoc left (take ticks (leaving old)) (drop ticks (leaving old)))
        ∙ ap (λ l. (left ++ take ticks (leaving old)) ++ l) (sym leaves.leaving_is)));
  }
