-- A burst whose verdict is open: what is known of it, and what one more tick of the link does.
-- While the verdict is open, more than one live tick is still to leave, and the first of them
-- leaves as it came.
use Rattle.frame_ending.proofs.Coming.{come-joined, come-silent, waiting-may}
use Rattle.frame_ending.specs.Causal.{IsCausal, MayGoOn, going_on}
use Rattle.frame_ending.specs.{HasCome.HasCome, Walk.Walker}
use Rattle.frame_ending.proofs.{LiveTicks.live_ticks-bytes, Running.byte-lives, Running.byte-over}
use Rattle.frame_ending.specs.{Cuts.cut_of, LiveBytes.live_bytes, LiveBytes.live_ticks}
use Rattle.frame_ending.specs.{LiveBytes.live_end, SoFar.last_of, SoFar.last_burst}
use Rattle.frame_ending.specs.declared.cut.Cut.TheVariants.{Live, Extra}
use Rattle.line_rules.specs.{Rules.Rules, declared.line_rules.LineRules.Ghosts as LineRules}
use Rattle.link_format.specs.Profile.{Profile, delay, trailer_len, pause_len}
use Rattle.link_box.proofs.Growing.{live-long, next-left, next-live, opens-silent, silent-kept}
use Rattle.link_box.proofs.Growing.{breaks, over-bytes, over-end, over-whole, over-left}
use Rattle.link_box.proofs.Growing.{over-live, over-breaks, over-keeps, over-good, opens-over}
use Rattle.link_box.proofs.Growing.{over-long-header, open-seen, open-whole, opens-live}
use Rattle.link_box.proofs.Judging.{checked-good, verdict-whole}
use Rattle.link_box.proofs.Opening.{open-goes, refuse-goes, pass-goes, length-silent}
use Rattle.link_box.proofs.{Resting.causal, Settling.is_over}
use Rattle.link_box.proofs.Settling.{open-near, open-bytes, open-end, over-after, after-long}
use Rattle.link_box.proofs.{Shaping.kept-most, Trailing.trailer-bytes, Trailing.bytes-more}
use Rattle.link_box.specs.Checking.{FullNote, checker, at_floor, trailer_tick}
use Rattle.link_box.specs.{Emissions.owed, Going.Goes, Holding.HasWalked, Holding.Opens}
use Rattle.link_box.specs.{Holding.as_it_came, Holding.trailer_so_far, Timely.IsTimely}
use Rattle.link_box.specs.Verdicts.{CheckState, after_live, checked, kept_after, trailer_of}
use Rattle.link_box.specs.Verdicts.{whole_verdict, Verdict.passed_with, Verdict.refused}
use Rattle.link_box.specs.declared.check_note.CheckNote.{CheckNote}
use Rattle.link_box.specs.declared.check_note.CheckNote.TheVariants.{Passed, Refused}
use Rattle.link_box.specs.declared.check_note.RefusedWhy.{RefusedWhy}
use Rattle.link_box.specs.declared.check_note.RefusedWhy.TheVariants.{Trailer}
use Rattle.std.proofs.Common.{◌≡◌, ◌∙◌, ℕ, zero, suc, ◌+◌, ◌-◌, ◌<◌, ◌≤◌, Bool, true, false, List}
use Rattle.std.proofs.Common.{[], ◌∷◌, ◌++◌, length, length-append, take, drop, get_or, refl, sym}
use Rattle.std.proofs.Common.{ap, subst, arith, append_assoc, Option, Some, None, ⊎_elim}
use Rattle.std.proofs.lemmas.Bool.{cases_Bool, cases_lt}
use Rattle.std.proofs.lemmas.List.{get_or-drop, take-append-drop}
use Rattle.yasir_ticks.proofs.{BurstsOfLaws.contiguous-more, SilenceLaws.bytes_in-append}
use Rattle.yasir_ticks.specs.Bursts.{Burst, bursts, end_of}
use Rattle.yasir_ticks.specs.{BurstsOf.IsContiguous, Ticks.silent, Ticks.bytes_in}
use Rattle.yasir_ticks.specs.declared.tick.Tick.{Tick, TheVariants.Silent, TheVariants.Byte}

silent-bytes : (n : ℕ) (x : List Tick) → bytes_in (silent n ++ x) ≡ bytes_in x
silent-bytes zero x = refl
silent-bytes (suc n) x = silent-bytes n x

-- all bytes of a burst have left or are still to leave
pub whole-bytes : (profile : Profile) (rules : Rules) (d : Burst) (k : ℕ)
    → bytes_in (take k (as_it_came profile rules d))
    ++ bytes_in (drop k (as_it_came profile rules d))
    ≡ live_bytes rules d
whole-bytes profile rules d k =
    sym (bytes_in-append (take k (as_it_came profile rules d))
    (drop k (as_it_came profile rules d)))
    ∙ (ap (λ x. bytes_in x) (take-append-drop k (as_it_came profile rules d))
    ∙ (silent-bytes (delay profile) (live_ticks rules d) ∙ live_ticks-bytes rules d))

pub nothing-after : (x : List Tick) → length x ≡ 0 → bytes_in (drop 3 x) ≡ []
nothing-after [] none = refl
nothing-after (t ∷ x) none = absurd (omega arith)

pub last_of-more : (ds : List Burst) (d : Burst) → last_of (ds ++ d ∷ []) ≡ Some d
unfolding last_of
last_of-more [] d = refl
last_of-more (e ∷ []) d = refl
last_of-more (e ∷ f ∷ ds) d = last_of-more (f ∷ ds) d

-- What one more tick does, with equal values in place of some.
pub goes-as : {profile : Profile} {rules : Rules} {floor : ℕ} {line : List Tick} {t : Tick}
    {number earliest : ℕ} {p : Bool} {left : List ℕ} {live : List Tick} {owing : ℕ}
    {waiting : Option Burst} {answer : Tick} {told : Option CheckNote} (u a : Tick) (q : Bool)
    (k n : ℕ)
    → Goes profile rules floor line t (record { floor = number; earliest_start = earliest }) p left
    live owing waiting answer told
    → u ≡ t → a ≡ answer → q ≡ p → k ≡ owing → n ≡ earliest
    → Goes profile rules floor line u (record { floor = number; earliest_start = n }) q left live k
    waiting a told
goes-as {profile} {rules} {floor} {line} {t} {number} {earliest} {p} {left} {live} {owing} {waiting}
    {answer} {told} u a q k n goes tick_is answer_is passes_is owing_is start_is =
    let G : Tick → Tick → Bool → ℕ → ℕ → Type 0 = λ u' a' q' k' n'. Goes profile rules floor line u'
    (record { floor = number; earliest_start = n' }) q' left live k' waiting a' told in
    subst (λ x. G x a q k n) (sym tick_is)
    (subst (λ x. G t x q k n) (sym answer_is)
    (subst (λ x. G t answer x k n) (sym passes_is)
    (subst (λ x. G t answer p x n) (sym owing_is)
    (subst (λ x. G t answer p owing x) (sym start_is) goes))))

-- Holds if the verdict on this burst is open after these ticks.
pub record IsOpen {R : Type 0} (proto : LineRules R) (profile : Profile) (floor : ℕ)
    (s : CheckState)
    (line : List Tick) (passes : Bool) (left : List ℕ) (live : List Tick) (owing : ℕ) (d : Burst) :
    Type 0 where
  pub timely : IsTimely profile proto.rules
  pub some : 1 ≤ trailer_len profile
  pub walked : HasWalked profile proto.rules floor (length line) (bursts line) s passes left live
      owing (Some d)

module _ {R : Type 0} {proto : LineRules R} {profile : Profile} {floor : ℕ} {s : CheckState}
    {line : List Tick} {passes : Bool} {left : List ℕ} {live : List Tick} {owing : ℕ} {d : Burst}
    (it : IsOpen proto profile floor s line passes left live owing d) where
  abbrev rules : Rules
  rules = proto.rules

  abbrev w : Walker CheckState FullNote
  w = checker profile rules

  abbrev m : ℕ
  m = length line

  pub opens-of : Opens profile rules m s.earliest_start d left live
  opens-of = it.walked.opens.0

  why : IsCausal w
  why = causal proto profile it.timely floor line Silent

  pub may-of : MayGoOn d m
  may-of = waiting-may w why (at_floor floor) line s it.walked.emissions d it.walked.come

  pub last-of : last_of (bursts line) ≡ Some d
  last-of = ap (λ x. last_of x) it.walked.come.is ∙ last_of-more it.walked.come.settled d

  -- how many live ticks haven't left yet
  pub long-of : length live + m ≡ live_end rules d + delay profile
  long-of = live-long proto.headed it.some may-of.after opens-of

  pub more-of : 1 < length live
  more-of = let sum = long-of in let near = opens-of.near in omega arith

  pub unowed-of : owing ≡ 0
  unowed-of = let many = more-of in it.walked.unowed (omega arith)

  -- the burst's live bytes are those that have left and those that haven't left yet
  pub bytes-of : left ++ bytes_in live ≡ live_bytes rules d
  bytes-of =
      ap (λ x. left ++ bytes_in x) opens-of.live_is
      ∙ (ap (λ x. x ++ bytes_in (drop (m - d.start) (as_it_came profile rules d))) opens-of.left_is
      ∙ whole-bytes profile rules d (m - d.start))

  -- how far the walk has come: the burst doesn't pass yet, and no fill is owed
  pub bare-of : HasWalked profile rules floor m (bursts line) s false left live 0 (Some d)
  bare-of =
      let P : Bool → Type 0 = λ p. HasWalked profile rules floor m (bursts line) s p left live owing
      (Some d) in
      let N : ℕ → Type 0 = λ n. HasWalked profile rules floor m (bursts line) s false left live n
      (Some d) in
      subst N unowed-of (subst P it.walked.opens.1 it.walked)

  -- ---- one more tick: what has left after it, and what hasn't

  abbrev after : List ℕ
  after = left ++ bytes_in (take 1 live)

  abbrev first : Tick
  first = get_or live 0 Silent

  seen : first ≡ get_or (as_it_came profile rules d) (m - d.start) Silent
  seen =
      let k : ℕ = m - d.start in
      let whole : List Tick = as_it_came profile rules d in
      let here : k + 0 ≡ k = omega arith in
      ap (λ l. get_or l 0 Silent) opens-of.live_is
      ∙ (get_or-drop k whole 0 Silent ∙ ap (λ j. get_or whole j Silent) here)

  pub bytes-next : after ++ bytes_in (drop 1 live) ≡ left ++ bytes_in live
  bytes-next =
      append_assoc left (bytes_in (take 1 live)) (bytes_in (drop 1 live))
      ∙ ap (λ l. left ++ l) (sym (bytes_in-append (take 1 live) (drop 1 live))
      ∙ ap (λ l. bytes_in l) (take-append-drop 1 live))

  -- ---- silence

  pub silently : HasCome w (at_floor floor) m (bursts (line ++ Silent ∷ [])) s it.walked.emissions
      (Some d)
  silently = come-silent w why (at_floor floor) line s it.walked.emissions (Some d) it.walked.come

  -- a silent tick in the pause leaves the verdict open
  pub silent-goes : m < live_end rules d + 3
      → (live_end rules d + 1 ≤ m → rules.header_len ≤ length (live_bytes rules d))
      → Goes profile rules floor line Silent s false after (drop 1 live) 0 (Some d) first None
  silent-goes few header =
      let from = opens-of.from in
      open-goes proto profile it.timely floor line Silent s it.walked.emissions d silently
      may-of.contiguous (omega arith) opens-of.near first seen after (drop 1 live)
      (opens-silent proto.headed it.some may-of.after opens-of few header)
      0 refl

  -- a silent tick after the pause refuses the burst
  pub silent-breaks : live_end rules d + 3 ≤ m
      → Goes profile rules floor line Silent
      (record {
        floor = s.floor;
        earliest_start = live_end rules d + delay profile + owed rules d;
      })
      false after (drop 1 live) 0 None first (Some (Refused d.start Trailer))
  silent-breaks behind =
      let from = opens-of.from in
      let header = opens-of.not_short (omega arith) in
      let broken = breaks profile rules m s d opens-of.late header (opens-of.not_bad header)
      opens-of.end_from opens-of.near
      (silent-kept proto.headed it.some may-of.after opens-of behind) in
      refuse-goes proto profile it.timely floor line Silent s it.walked.emissions d silently
      may-of.contiguous (omega arith) opens-of.near first seen after (drop 1 live)
      (next-live proto.headed it.some may-of.after opens-of)
      (next-left proto.headed it.some may-of.after opens-of)
      Trailer broken.0 broken.1

  -- as many bytes of the trailer have come as ticks after the pause
  pub trailer-long : length (trailer_so_far rules d) ≡ m - (live_end rules d + pause_len)
  trailer-long =
      let x : List Tick = after_live rules d in
      let keeps = opens-of.keeps in
      let behind = after-long rules d in
      let ends = may-of.after in
      let all : length (bytes_in (drop pause_len x)) ≡ length x - pause_len =
      trailer-bytes pause_len (trailer_len profile) x (omega arith) in
      ⊎_elim
      (λ few. omega arith)
      (λ many. ⊎_elim
      (λ fewer.
      let most = kept-most pause_len (trailer_len profile) x (m - live_end rules d - 1)
      (omega arith) (omega arith) in
      absurd (omega arith))
      (λ whole. omega arith)
      (cases_lt (length x) (m - live_end rules d)))
      (cases_lt m (live_end rules d + pause_len + 1))

  -- ---- a byte

  module _ (b : ℕ) where
    abbrev e : Burst
    e = going_on d m b

    pub joined : HasCome w (at_floor floor) m (bursts (line ++ Byte b ∷ [])) s it.walked.emissions
        (Some e)
    joined = come-joined w why (at_floor floor) line s it.walked.emissions b d it.walked.come

    pub joined-last : last_burst (line ++ Byte b ∷ []) ≡ Some e
    joined-last = ap (λ x. last_of x) joined.is ∙ last_of-more joined.settled e

    contiguous : IsContiguous 4 e.body
    contiguous =
        let near = may-of.near in
        let few : m - end_of d < 4 = omega arith in
        contiguous-more 4 d.body (m - end_of d) b may-of.contiguous few

    -- ---- a live byte

    module _ (is : cut_of rules line (Byte b) ≡ Live b) where
      pub still : is_over profile rules proto.lawful proto.headed d m b may-of ≡ false
      still =
          ⊎_elim
          (λ over.
          let on = byte-lives rules proto.lawful line b (Some d) (last-of, may-of.near) is in
          let same : on.burst ≡ d = cc in
          let E : Burst → Type 0 = λ x. live_end rules (going_on x m b) ≡ m + 1 in
          let end : E d = subst E same on.end in
          let kept = over-end proto.lawful proto.headed it.some b may-of opens-of over in
          let from = opens-of.end_from in
          absurd (omega arith))
          (λ none. none)
          (cases_Bool (is_over profile rules proto.lawful proto.headed d m b may-of))

      pub live-ends : live_end rules e ≡ m + 1
      live-ends = open-end profile rules proto.lawful proto.headed d m b may-of still

      pub live-adds : live_bytes rules e ≡ live_bytes rules d ++ b ∷ []
      live-adds = open-bytes profile rules proto.lawful proto.headed d m b may-of still

      -- the silent ticks before a live byte are those after the last live byte
      pub live-gap : m - end_of d ≡ m - live_end rules d
      live-gap =
          let size = ap length
          (open-whole proto.lawful proto.headed it.some b may-of opens-of still) in
          let old = length-silent (delay profile) (live_ticks rules d) in
          let new = length-silent (delay profile) (live_ticks rules e) in
          let sum = length-append (as_it_came profile rules d)
          (silent (m - end_of d) ++ Byte b ∷ []) in
          let tail = length-silent (m - end_of d) (Byte b ∷ []) in
          let end = live-ends in
          let from = opens-of.end_from in
          omega arith

      -- before a live byte no byte of a trailer has come, and it isn't one either
      pub live-before : trailer_so_far rules d ≡ []
      live-before =
          let gap = live-gap in
          let ends = may-of.after in
          let from = opens-of.end_from in
          let behind = after-long rules d in
          nothing-after (after_live rules d) (omega arith)

      pub live-after : trailer_so_far rules e ≡ []
      live-after =
          let end = live-ends in
          let ends = may-of.after in
          let behind = after-long rules e in
          let sum = length-append d.body (silent (m - end_of d) ++ Byte b ∷ []) in
          let tail = length-silent (m - end_of d) (Byte b ∷ []) in
          nothing-after (after_live rules e) (omega arith)

      abbrev entered : List Tick
      entered = drop 1 live ++ (silent (m - end_of d) ++ Byte b ∷ [])

      pub live-goes : (rules.header_len ≤ length (live_bytes rules e)
          → rules.is_good_header (take rules.header_len (live_bytes rules e)) ≡ true)
          → Goes profile rules floor line (Byte b) s false after entered 0 (Some e) first None
      live-goes header =
          let near = open-near profile rules proto.lawful proto.headed d m b may-of still in
          let end = live-ends in
          let from = opens-of.from in
          let next = opens-live proto.lawful proto.headed it.some b may-of opens-of still header in
          open-goes proto profile it.timely floor line (Byte b) s it.walked.emissions e joined
          contiguous (omega arith) (omega arith) first
          (seen ∙ sym (open-seen proto.lawful proto.headed it.some b may-of opens-of still))
          after entered next 0 refl

    -- ---- a byte that isn't live

    module _ (is : cut_of rules line (Byte b) ≡ Extra b) where
      over : is_over profile rules proto.lawful proto.headed d m b may-of ≡ true
      over =
          ⊎_elim
          (λ yes. yes)
          (λ other.
          let on = byte-over rules proto.lawful line b (Some d) (last-of, may-of.near) is in
          let same : on.burst ≡ d = cc in
          let E : Burst → Type 0 = λ x. live_end rules (going_on x m b) ≤ m in
          let end : E d = subst E same on.end in
          let now = open-end profile rules proto.lawful proto.headed d m b may-of other in
          absurd (omega arith))
          (cases_Bool (is_over profile rules proto.lawful proto.headed d m b may-of))

      pub extra-end : live_end rules e ≡ live_end rules d
      extra-end = over-end proto.lawful proto.headed it.some b may-of opens-of over

      pub extra-bytes : live_bytes rules e ≡ live_bytes rules d
      extra-bytes = over-bytes proto.lawful proto.headed it.some b may-of opens-of over

      pub extra-adds : live_end rules d + 3 ≤ m
          → trailer_so_far rules e ≡ trailer_so_far rules d ++ b ∷ []
      extra-adds behind =
          let size = after-long rules d in
          let ends = may-of.after in
          ap (λ x. bytes_in (drop pause_len x))
          (over-after profile rules proto.lawful proto.headed d m b may-of over)
          ∙ bytes-more pause_len (after_live rules d) (m - end_of d) b (omega arith)

      near : m + 1 < live_end rules e + delay profile
      near = let soon = opens-of.near in let end = extra-end in omega arith

      from : e.start ≤ m
      from = let begun = opens-of.from in omega arith

      sees : first ≡ get_or (as_it_came profile rules e) (m - e.start) Silent
      sees = seen ∙ sym (ap (λ x. get_or x (m - d.start) Silent)
          (over-whole proto.lawful proto.headed it.some b may-of opens-of over))

      header : rules.header_len ≤ length (live_bytes rules e)
      header = over-long-header proto.lawful proto.headed it.some b may-of opens-of over

      good : rules.is_good_header (take rules.header_len (live_bytes rules e)) ≡ true
      good = over-good proto.lawful proto.headed it.some b may-of opens-of over

      -- a byte of the trailer, but not its last one, leaves the verdict open
      pub extra-goes : live_end rules d + 3 ≤ m → m + 2 < live_end rules d + delay profile
          → Goes profile rules floor line (Byte b) s false after (drop 1 live) 0 (Some e) first None
      extra-goes behind before =
          open-goes proto profile it.timely floor line (Byte b) s it.walked.emissions e joined
          contiguous from near first sees after (drop 1 live)
          (opens-over proto.lawful proto.headed it.some b may-of opens-of over behind before)
          0 refl

      refuses : (why' : RefusedWhy) → checked profile rules s e ≡ refused why'
          → trailer_tick profile rules e ≡ m
          → Goes profile rules floor line (Byte b)
          (record {
            floor = s.floor;
            earliest_start = live_end rules e + delay profile + owed rules e;
          })
          false after (drop 1 live) 0 None first (Some (Refused e.start why'))
      refuses why' is' now =
          refuse-goes proto profile it.timely floor line (Byte b) s it.walked.emissions e joined
          contiguous from near first sees after (drop 1 live)
          (over-live proto.lawful proto.headed it.some b may-of opens-of over)
          (over-left proto.lawful proto.headed it.some b may-of opens-of over)
          why' is' now

      -- a byte in the pause refuses the burst
      pub extra-breaks : m < live_end rules d + 3
          → Goes profile rules floor line (Byte b)
          (record {
            floor = s.floor;
            earliest_start = live_end rules e + delay profile + owed rules e;
          })
          false after (drop 1 live) 0 None first (Some (Refused e.start Trailer))
      extra-breaks few =
          let end = extra-end in
          let begun = opens-of.end_from in
          let broken = breaks profile rules m s e opens-of.late header good (omega arith) near
          (over-breaks proto.lawful proto.headed it.some b may-of opens-of over few) in
          refuses Trailer broken.0 broken.1

      -- ---- the last byte of a trailer

      module _ (final : m + 2 ≡ live_end rules d + delay profile) where
        whole-kept : pause_len + trailer_len profile ≤ kept_after profile rules e
        whole-kept =
            let end = extra-end in
            let keeps = over-keeps proto.lawful proto.headed it.some b may-of opens-of over
            (omega arith) in
            omega arith

        pub whole-checked : checked profile rules s e
            ≡ whole_verdict profile rules s.floor (live_bytes rules e) (trailer_of profile rules e)
        whole-checked = checked-good profile rules s e opens-of.late header good
            ∙ verdict-whole profile rules s.floor e whole-kept

        pub whole-tick : trailer_tick profile rules e ≡ m
        whole-tick = let end = extra-end in let kept = whole-kept in omega arith

        pub whole-refuses : (why' : RefusedWhy)
            → whole_verdict profile rules s.floor (live_bytes rules e) (trailer_of profile rules e)
            ≡ refused why'
            → Goes profile rules floor line (Byte b)
            (record {
              floor = s.floor;
              earliest_start = live_end rules e + delay profile + owed rules e;
            })
            false after (drop 1 live) 0 None first (Some (Refused e.start why'))
        whole-refuses why' verdict = refuses why' (whole-checked ∙ verdict) whole-tick

        pub whole-passes : (number : ℕ)
            → whole_verdict profile rules s.floor (live_bytes rules e) (trailer_of profile rules e)
            ≡ passed_with number
            → Goes profile rules floor line (Byte b)
            (record { floor = number; earliest_start = live_end rules e + delay profile })
            true after (drop 1 live) 0 None first
            (Some (Passed number e.start (length (live_bytes rules e))))
        whole-passes number verdict =
            pass-goes proto profile it.timely floor line (Byte b) s it.walked.emissions e joined
            contiguous from near first sees after (drop 1 live)
            (over-live proto.lawful proto.headed it.some b may-of opens-of over)
            (over-left proto.lawful proto.headed it.some b may-of opens-of over)
            number (whole-checked ∙ verdict) whole-tick
