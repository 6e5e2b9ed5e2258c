-- A run of ticks of a transmitter: bytes that are forwarded, and ticks during which what is left of
-- the trailer is sent.
use Rattle.frame_ending.proofs.BurstRuns.{run-none, run-joined, run-tick}
use Rattle.{frame_ending.specs.Runs.AnswersRun, frame_ending.proofs.Runs.live-start}
use Rattle.frame_ending.specs.Cuts.{cut_of, cuts_after, IsPassing}
use Rattle.frame_ending.specs.{SoFar.start_so_far, Stands.CutStandsFor}
use Rattle.frame_ending.specs.declared.{burst_cut.BurstCut.BurstCut, cut.Cut.Cut}
use Rattle.frame_ending.specs.declared.cut.Cut.TheVariants.{Live, Extra}
use Rattle.link_format.specs.declared.tag.Mac.{Ghosts as Mac}
use Rattle.line_rules.specs.{Rules.Rules, declared.line_rules.LineRules.Ghosts as LineRules}
use Rattle.link_format.specs.{NumberedFrame.last_number, Profile.profile_of, Setup.Setup}
use Rattle.link_format.specs.Trailers.{bytes_unsent, first_of}
use Rattle.link_format.specs.declared.trailer.Trailer.{Trailer}
use Rattle.link_box.specs.Sealing.{sealer, at_floor, sealed}
use Rattle.seal_transmitter.proofs.Advancing.{WalksOn, number-is, advance-live, advance-early}
use Rattle.seal_transmitter.proofs.Advancing.{advance-passing}
use Rattle.seal_transmitter.specs.{Answers.brief_seal_note, Between.noteless, Runs.SealerHasTakenRun}
use Rattle.seal_transmitter.specs.{Stands.SealerWalks, Stands.SealerStandsAt, declared.sealer.Sealer.Sealer}
use Rattle.{sequence_journal.specs.declared.numbers.TheConstants.LIMIT, std.proofs.Common.◌≡◌}
use Rattle.std.proofs.Common.{◌∙◌, ℕ, zero, suc, ◌+◌, ◌<◌, ◌≤◌, List, [], ◌∷◌, ◌++◌, length, take}
use Rattle.std.proofs.Common.{drop, map, refl, sym, ap, subst, arith, append-nil, append_assoc}
use Rattle.std.proofs.lemmas.List.{map-append, take-take, drop-take, take-append-drop}
use Rattle.std.proofs.lemmas.List.Elements.{All-head, All-tail}
use Rattle.{std.specs.List.All, yasir_ticks.specs.Ticks.silent}
use Rattle.yasir_ticks.specs.declared.tick.Tick.{Tick, TheVariants.Silent, TheVariants.Byte}

-- what is sent in `n` ticks if nothing is forwarded: the bytes left of the trailer, and then
-- silence
abbrev pub sent : ℕ → List ℕ → List Tick
sent zero unsent = []
sent (suc n) unsent = first_of unsent ∷ sent n (drop 1 unsent)

pub sent-silent : (n : ℕ) → sent n [] ≡ silent n
sent-silent zero = refl
sent-silent (suc n) = ap (λ l. Silent ∷ l) (sent-silent n)

pub sent-bytes : (n : ℕ) (unsent : List ℕ) → n ≤ length unsent → sent n unsent ≡ map Byte (take n unsent)
sent-bytes zero unsent few = refl
sent-bytes (suc n) [] few = absurd (omega arith)
sent-bytes (suc n) (b ∷ unsent) few = ap (λ l. Byte b ∷ l) (sent-bytes n unsent (omega arith))

drop-one : (n : ℕ) (l : List ℕ) → drop n (drop 1 l) ≡ drop (suc n) l
drop-one zero [] = refl
drop-one (suc n) [] = refl
drop-one n (b ∷ l) = refl

pub drop-none : (n : ℕ) (l : List ℕ) → l ≡ [] → drop n l ≡ l
drop-none zero l is = refl
drop-none (suc n) [] is = refl
drop-none (suc n) (b ∷ l) is = cc

module _ {R M : Type 0} (proto : LineRules R) (macs : Mac M) (word_len : ℕ) (setup : Setup) where
  abbrev rules : Rules
  rules = proto.rules

  -- the MAC, with the texts themselves as its values
  abbrev as_text : Mac (List ℕ)
  as_text = record {
    tag_of = macs.tag_of;
    stands = λ value key text. value ≡ text;
    TAG = macs.TAG;
    tag_size = macs.tag_size;
    tag_len = macs.tag_len;
    tag_bytes = macs.tag_bytes;
  }

  abbrev TextWalks : ℕ → ℕ → List ℕ → List ℕ → List Tick → Type 0
  TextWalks last earliest unsent text line =
      SealerWalks proto as_text word_len last earliest unsent text setup line

  pub to-text : (last earliest : ℕ) (unsent : List ℕ) (mac : M) (line : List Tick)
      (w : SealerWalks proto macs word_len last earliest unsent mac setup line)
      → TextWalks last earliest unsent w.text line
  to-text last earliest unsent mac line w = record {
    running = w.running;
    walked = w.walked;
    text = w.text;
    mac_is = refl;
    text_is = w.text_is;
  }

  pub of-text : (last earliest : ℕ) (unsent text : List ℕ) (mac : M) (line : List Tick)
      → macs.stands mac setup.key text → TextWalks last earliest unsent text line
      → SealerWalks proto macs word_len last earliest unsent mac setup line
  of-text last earliest unsent text mac line mac_is w =
      let P : List ℕ → Type 0 = λ x. macs.stands mac setup.key x in
      record {
        running = w.running;
        walked = w.walked;
        text = w.text;
        mac_is = subst P w.mac_is mac_is;
        text_is = w.text_is;
      }

  -- Holds if the walk over `line` goes on by `run`, and the ticks `answer` are on the link
  -- meanwhile.
  pub record RunsOn (last earliest : ℕ) (unsent text : List ℕ) (line run answer : List Tick) :
      Type 0 where
    pub walks : TextWalks last earliest unsent text (line ++ run)
    pub answers : AnswersRun (sealer (profile_of proto macs word_len LIMIT setup) rules) brief_seal_note
        (at_floor setup.floor) line run answer

  module _ (last earliest : ℕ) where
    pub none-on : (unsent text : List ℕ) (line : List Tick) → TextWalks last earliest unsent text line
        → RunsOn last earliest unsent text line [] []
    none-on unsent text line w =
        let P : List Tick → Type 0 = λ l. TextWalks last earliest unsent text l in
        record {
          walks = subst P (sym (append-nil line)) w;
          answers = run-none (sealer (profile_of proto macs word_len LIMIT setup) rules) brief_seal_note
              (at_floor setup.floor) line;
        }

    more-on : (unsent text next to_be : List ℕ) (line : List Tick) (t u : Tick)
        (run answer : List Tick)
        → WalksOn proto as_text word_len setup last earliest next to_be line t (noteless u)
        → RunsOn last earliest unsent text (line ++ t ∷ []) run answer
        → RunsOn last earliest unsent text line (t ∷ run) (u ∷ answer)
    more-on unsent text next to_be line t u run answer on rest =
        let P : List Tick → Type 0 = λ l. TextWalks last earliest unsent text l in
        record {
          walks = subst P (append_assoc line (t ∷ []) run) rest.walks;
          answers = run-joined (sealer (profile_of proto macs word_len LIMIT setup) rules)
              brief_seal_note (at_floor setup.floor) line (t ∷ []) run (u ∷ []) answer
              (run-tick (sealer (profile_of proto macs word_len LIMIT setup) rules) brief_seal_note
              (at_floor setup.floor) line t u on.answers) rest.answers;
        }

    -- Live bytes of a burst that isn't early are forwarded.
    pub forwards : (x : List ℕ) (unsent text : List ℕ) (line : List Tick)
        → TextWalks last earliest unsent text line
        → cuts_after rules line (map Byte x) ≡ map Live x → earliest ≤ start_so_far line
        → RunsOn last earliest unsent (text ++ x) line (map Byte x) (map Byte x)
    forwards [] unsent text line w live late =
        let P : List ℕ → Type 0 = λ y. RunsOn last earliest unsent y line [] [] in
        subst P (sym (append-nil text)) (none-on unsent text line w)
    forwards (b ∷ x) unsent text line w live late =
        let first : cut_of rules line (Byte b) ≡ Live b = cc in
        let others : cuts_after rules (line ++ Byte b ∷ []) (map Byte x) ≡ map Live x = cc in
        let start = live-start rules line b first in
        let from : earliest ≤ start_so_far (line ++ Byte b ∷ []) = omega arith in
        let on = advance-live proto as_text word_len setup line last earliest unsent text w b
        (text ++ b ∷ []) first from (λ y is. ap (λ z. z ++ b ∷ []) is) in
        let P : List ℕ → Type 0 = λ y. RunsOn last earliest unsent y line (map Byte (b ∷ x))
        (map Byte (b ∷ x)) in
        subst P (append_assoc text (b ∷ []) x)
        (more-on unsent ((text ++ b ∷ []) ++ x) unsent (text ++ b ∷ []) line (Byte b) (Byte b)
        (map Byte x) (map Byte x) on
        (forwards x unsent (text ++ b ∷ []) (line ++ Byte b ∷ []) on.walks others from))

    -- During silence that closes no burst, what is left of the trailer is sent.
    pub sends-open : (n : ℕ) (unsent text : List ℕ) (line : List Tick)
        → TextWalks last earliest unsent text line
        → All IsPassing (cuts_after rules line (silent n))
        → RunsOn last earliest (drop n unsent) text line (silent n) (sent n unsent)
    sends-open zero unsent text line w open' = none-on unsent text line w
    sends-open (suc n) unsent text line w open' =
        let first : Cut = cut_of rules line Silent in
        let others : List Cut = cuts_after rules (line ++ Silent ∷ []) (silent n) in
        let on = advance-passing proto as_text word_len setup line last earliest unsent text w Silent
        first refl (All-head IsPassing first others open') in
        let P : List ℕ → Type 0 = λ y. RunsOn last earliest y text line (silent (suc n))
        (sent (suc n) unsent) in
        subst P (drop-one n unsent)
        (more-on (drop n (drop 1 unsent)) text (drop 1 unsent) text line Silent (first_of unsent)
        (silent n) (sent n (drop 1 unsent)) on
        (sends-open n (drop 1 unsent) text (line ++ Silent ∷ []) on.walks
        (All-tail IsPassing first others open')))

    -- While bytes come that aren't live, what is left of the trailer is sent.
    pub sends-extra : (x : List ℕ) (unsent text : List ℕ) (line : List Tick)
        → TextWalks last earliest unsent text line
        → cuts_after rules line (map Byte x) ≡ map Extra x
        → RunsOn last earliest (drop (length x) unsent) text line (map Byte x) (sent (length x) unsent)
    sends-extra [] unsent text line w extra = none-on unsent text line w
    sends-extra (b ∷ x) unsent text line w extra =
        let first : cut_of rules line (Byte b) ≡ Extra b = cc in
        let others : cuts_after rules (line ++ Byte b ∷ []) (map Byte x) ≡ map Extra x = cc in
        let on = advance-passing proto as_text word_len setup line last earliest unsent text w
        (Byte b) (Extra b) first tt in
        let P : List ℕ → Type 0 = λ y. RunsOn last earliest y text line (map Byte (b ∷ x))
        (sent (length (b ∷ x)) unsent) in
        subst P (drop-one (length x) unsent)
        (more-on (drop (length x) (drop 1 unsent)) text (drop 1 unsent) text line (Byte b)
        (first_of unsent) (map Byte x) (sent (length x) (drop 1 unsent)) on
        (sends-extra x (drop 1 unsent) text (line ++ Byte b ∷ []) on.walks others))

    -- While an early burst goes on, what is left of the trailer is sent.
    pub sends-early : (x : List ℕ) (unsent text : List ℕ) (line : List Tick)
        → TextWalks last earliest unsent text line
        → cuts_after rules line (map Byte x) ≡ map Live x → start_so_far line < earliest
        → RunsOn last earliest (drop (length x) unsent) text line (map Byte x) (sent (length x) unsent)
    sends-early [] unsent text line w live early = none-on unsent text line w
    sends-early (b ∷ x) unsent text line w live early =
        let first : cut_of rules line (Byte b) ≡ Live b = cc in
        let others : cuts_after rules (line ++ Byte b ∷ []) (map Byte x) ≡ map Live x = cc in
        let start = live-start rules line b first in
        let soon : start_so_far (line ++ Byte b ∷ []) < earliest = omega arith in
        let on = advance-early proto as_text word_len setup line last earliest unsent text w b
        soon in
        let P : List ℕ → Type 0 = λ y. RunsOn last earliest y text line (map Byte (b ∷ x))
        (sent (length (b ∷ x)) unsent) in
        subst P (drop-one (length x) unsent)
        (more-on (drop (length x) (drop 1 unsent)) text (drop 1 unsent) text line (Byte b)
        (first_of unsent) (map Byte x) (sent (length x) (drop 1 unsent)) on
        (sends-early x (drop 1 unsent) text (line ++ Byte b ∷ []) on.walks others soon))

-- ---- the transmitter after a run

module _ {R M : Type 0} (proto : LineRules R) (macs : Mac M) {B : ℕ} (old : Sealer R M B) (last : ℕ)
    (setup : Setup) (line : List Tick) (stands : SealerStandsAt proto macs old last setup line) where
  abbrev Takes : Sealer R M B → List Tick → List Tick → Type 0
  Takes new run answer = SealerHasTakenRun proto macs new last setup line run answer

  abbrev unsent : List ℕ
  unsent = bytes_unsent old.trailer

  walks-text : SealerWalks proto (as_text proto macs B setup) B last old.earliest_start unsent
      stands.walks.text setup line
  walks-text = to-text proto macs B setup last old.earliest_start unsent old.mac line stands.walks

  taken : (cut : BurstCut R) (mac : M) (trailer : Trailer B) (text : List ℕ)
      (run answer : List Tick) → CutStandsFor proto cut (line ++ run)
      → macs.stands mac setup.key text
      → RunsOn proto macs B setup last old.earliest_start (bytes_unsent trailer) text line run answer
      → Takes (record old { cut = cut; mac = mac; trailer = trailer }) run answer
  taken cut mac trailer text run answer cuts mac_is on =
      let walks : SealerWalks proto macs B last old.earliest_start (bytes_unsent trailer) mac setup
      (line ++ run) = of-text proto macs B setup last old.earliest_start (bytes_unsent trailer) text
      mac (line ++ run) mac_is on.walks in
      record {
        stands = record { direction_is = stands.direction_is; cuts = cuts; walks = walks };
        floor = number-is proto macs B setup (line ++ run) last old.earliest_start
            (bytes_unsent trailer) mac walks;
        answers = on.answers;
      }

  pub nothing-taken : Takes old [] []
  nothing-taken =
      let P : List Tick → Type 0 = λ l. CutStandsFor proto old.cut l in
      taken old.cut old.mac old.trailer stands.walks.text [] []
      (subst P (sym (append-nil line)) stands.cuts) stands.walks.mac_is
      (none-on proto macs B setup last old.earliest_start unsent stands.walks.text line walks-text)

  pub forward-taken : (cut : BurstCut R) (mac : M) (x : List ℕ)
      → CutStandsFor proto cut (line ++ map Byte x)
      → cuts_after proto.rules line (map Byte x) ≡ map Live x
      → old.earliest_start ≤ start_so_far line
      → ((text : List ℕ) → macs.stands old.mac setup.key text
      → macs.stands mac setup.key (text ++ x))
      → Takes (record old { cut = cut; mac = mac }) (map Byte x) (map Byte x)
  forward-taken cut mac x cuts live late more =
      taken cut mac old.trailer (stands.walks.text ++ x) (map Byte x) (map Byte x) cuts
      (more stands.walks.text stands.walks.mac_is)
      (forwards proto macs B setup last old.earliest_start x unsent stands.walks.text line walks-text
      live late)

  -- If a run has sent what was left of the trailer, and then silence, the transmitter has taken it.
  module _ (cut : BurstCut R) (trailer : Trailer B) where
    sends : (n : ℕ) (run answer : List Tick) → CutStandsFor proto cut (line ++ run)
        → bytes_unsent trailer ≡ drop n unsent → sent n unsent ≡ answer
        → RunsOn proto macs B setup last old.earliest_start (drop n unsent) stands.walks.text line
        run (sent n unsent)
        → Takes (record old { cut = cut; trailer = trailer }) run answer
    sends n run answer cuts left_is answer_is on =
        let P : List ℕ → Type 0 = λ y. RunsOn proto macs B setup last old.earliest_start y
        stands.walks.text line run answer in
        let Q : List Tick → Type 0 = λ y. RunsOn proto macs B setup last old.earliest_start
        (drop n unsent) stands.walks.text line run y in
        taken cut old.mac trailer stands.walks.text run answer cuts stands.walks.mac_is
        (subst P (sym left_is) (subst Q answer_is on))

    pub open-taken : (n : ℕ) (answer : List Tick) → CutStandsFor proto cut (line ++ silent n)
        → All IsPassing (cuts_after proto.rules line (silent n))
        → bytes_unsent trailer ≡ drop n unsent → sent n unsent ≡ answer
        → Takes (record old { cut = cut; trailer = trailer }) (silent n) answer
    open-taken n answer cuts open' left_is answer_is =
        sends n (silent n) answer cuts left_is answer_is
        (sends-open proto macs B setup last old.earliest_start n unsent stands.walks.text line
        walks-text open')

    pub early-taken : (n : ℕ) (x : List ℕ) (answer : List Tick) → length x ≡ n
        → CutStandsFor proto cut (line ++ map Byte x)
        → cuts_after proto.rules line (map Byte x) ≡ map Live x
        → start_so_far line < old.earliest_start
        → bytes_unsent trailer ≡ drop n unsent → sent n unsent ≡ answer
        → Takes (record old { cut = cut; trailer = trailer }) (map Byte x) answer
    early-taken n x answer long cuts live early left_is answer_is =
        sends (length x) (map Byte x) answer cuts (left_is ∙ ap (λ k. drop k unsent) (sym long))
        (ap (λ k. sent k unsent) long ∙ answer_is)
        (sends-early proto macs B setup last old.earliest_start x unsent stands.walks.text line
        walks-text live early)

    pub extra-taken : (n : ℕ) (x : List ℕ) (answer : List Tick) → length x ≡ n
        → CutStandsFor proto cut (line ++ map Byte x)
        → cuts_after proto.rules line (map Byte x) ≡ map Extra x
        → bytes_unsent trailer ≡ drop n unsent → sent n unsent ≡ answer
        → Takes (record old { cut = cut; trailer = trailer }) (map Byte x) answer
    extra-taken n x answer long cuts extra left_is answer_is =
        sends (length x) (map Byte x) answer cuts (left_is ∙ ap (λ k. drop k unsent) (sym long))
        (ap (λ k. sent k unsent) long ∙ answer_is)
        (sends-extra proto macs B setup last old.earliest_start x unsent stands.walks.text line
        walks-text extra)

-- ---- runs that follow one another

pub run-then : {R M : Type 0} (proto : LineRules R) (macs : Mac M) {B : ℕ} (last : ℕ)
    (mid new : Sealer R M B) (setup : Setup) (line run answer more next : List Tick)
    → SealerHasTakenRun proto macs mid last setup line run answer
    → SealerHasTakenRun proto macs new last setup (line ++ run) more next
    → SealerHasTakenRun proto macs new last setup line (run ++ more) (answer ++ next)
run-then proto macs {B} last mid new setup line run answer more next first then =
    let whole : (line ++ run) ++ more ≡ line ++ (run ++ more) = append_assoc line run more in
    let P : List Tick → Type 0 = λ l. SealerStandsAt proto macs new last setup l in
    let Q : List Tick → Type 0 = λ l. last ≡ last_number setup.floor
    (sealed (profile_of proto macs B LIMIT setup) proto.rules setup.floor l) in
    record {
      stands = subst P whole then.stands;
      floor = subst Q whole then.floor;
      answers = run-joined (sealer (profile_of proto macs B LIMIT setup) proto.rules) brief_seal_note
          (at_floor setup.floor) line run more answer next first.answers then.answers;
    }

-- The first `n` bytes, and the first `k` of those that follow, are the first `n + k`.
pub bytes-then : (n k : ℕ) (x : List ℕ) → map Byte (take n x) ++ map Byte (take k (drop n x))
    ≡ map Byte (take (n + k) x)
bytes-then n k x =
    let all : List ℕ = take (n + k) x in
    let front : take n all ≡ take n x = take-take n (n + k) x (omega arith) in
    let rest : drop n all ≡ take k (drop n x) = drop-take n k x in
    let whole : take n x ++ take k (drop n x) ≡ all =
    ap (λ y. y ++ take k (drop n x)) (sym front)
    ∙ (ap (λ y. take n all ++ y) (sym rest) ∙ take-append-drop n all) in
    sym (map-append Byte (take n x) (take k (drop n x))) ∙ ap (λ y. map Byte y) whole

-- A run after a run of no tick is a run.
pub run-behind : {R M : Type 0} (proto : LineRules R) (macs : Mac M) {B : ℕ} (last : ℕ)
    (mid new : Sealer R M B) (setup : Setup) (line none run nothing answer : List Tick)
    → none ≡ [] → SealerHasTakenRun proto macs mid last setup line none nothing
    → (SealerStandsAt proto macs mid last setup line
    → SealerHasTakenRun proto macs new last setup line run answer)
    → SealerHasTakenRun proto macs new last setup line run answer
run-behind proto macs last mid new setup line none run nothing answer is first then =
    then (subst (λ l. SealerStandsAt proto macs mid last setup l)
    (ap (λ r. line ++ r) is ∙ append-nil line) first.stands)
