-- Words ask for at most one command.
use Rattle.{link_format.specs.declared.dir.Dir.Dir, link_replay.specs.Words.IsCommand}
use Rattle.link_replay.proofs.LateWords.{tolerance_by, tolerance-by}
use Rattle.link_replay.specs.Words.{side_word, AreLateWords, MayBeLate}
use Rattle.link_replay.specs.declared.words.Audited.{Audited}
use Rattle.session_audit.specs.declared.session.Tolerance.{Tolerance}
use Rattle.link_replay.specs.{Words.Asks, Words.AreFloors, declared.words.Command.Command}
use Rattle.link_replay.specs.declared.words.Command.TheVariants.{Init, Read, Vectors, Seal, Check}
use Rattle.link_replay.specs.declared.words.Command.TheVariants.{Replay, Trial, Poll, Space, Audit}
use Rattle.link_replay.specs.declared.words.Command.TheVariants.{Duplex, LiveSeal, LiveCheck}
use Rattle.link_replay.specs.declared.words.Command.TheVariants.{TwoWire, LiveLine, Help, Version}
use Rattle.two_wire.specs.declared.gate.Side.{Side}
use Rattle.two_wire.specs.declared.gate.Side.TheVariants as side
use Rattle.command_ends.proofs.Telling.{is_word, proto_by, profile_by, dir_by, proto-by, profile-by}
use Rattle.command_ends.proofs.Telling.{dir-by}
use Rattle.command_ends.specs.{Words.dir_word, Words.link_word, declared.link.Profile.Profile}
use Rattle.command_ends.specs.declared.link.Proto.{Proto, TheVariants.Rtu, TheVariants.Dnp3}
use Rattle.command_ends.proofs.Running.{asks_one}
use Rattle.std.proofs.Common.{◌≡◌, ◌∙◌, ℕ, zero, suc, List, [], ◌∷◌, Option, Some}
use Rattle.std.proofs.Common.{cond, refl, sym, ap, arith, subst, ◌≤◌, ◌^◌, ◌<◌, inl}
use Rattle.std.proofs.{Common.inr, Common.◌⊎◌, lemmas.Fmt.decimal_is_IsNumeral}
use Rattle.std.specs.{Prelude.codes, Prelude.decimal, Str.Parse.digits_value}

-- the side whose word this is
abbrev side_by : List ℕ → Side
side_by word = cond (is_word (codes "asks") word) side.Asks side.Answers

side-by : (s : Side) → side_by (side_word s) ≡ s
side-by side.Asks = refl
side-by side.Answers = refl

-- the command that the first word names, by that word, the five words after it, and the others
abbrev command_by : List ℕ → List ℕ → List ℕ → List ℕ → List ℕ → List ℕ → List (List ℕ) → Command
command_by verb first second third fourth fifth more =
    cond (is_word (codes "init") verb)
    (Init (proto_by first) (profile_by first) (dir_by second))
    (cond (is_word (codes "read") verb) (Read (proto_by first))
    (cond (is_word (codes "vectors") verb) Vectors
    (cond (is_word (codes "seal") verb)
    (Seal (proto_by first) (profile_by first) (dir_by second))
    (cond (is_word (codes "check") verb)
    (Check (proto_by first) (profile_by first) (dir_by second))
    (cond (is_word (codes "trial") verb)
    (Trial (proto_by first) (profile_by first) (digits_value 10 second) (digits_value 10 third))
    (cond (is_word (codes "poll") verb)
    (Poll (proto_by first) (profile_by first) (digits_value 10 second) (digits_value 10 third))
    (cond (is_word (codes "space") verb) (Space (proto_by first) (profile_by first))
    (cond (is_word (codes "audit") verb)
    (Audit (record {
      proto = proto_by first;
      profile = profile_by first;
      dir = dir_by second;
      sent_floor = digits_value 10 fourth;
      got_floor = digits_value 10 fifth;
      tolerance = tolerance_by more;
    }))
    (cond (is_word (codes "duplex") verb)
    (Duplex (proto_by first) (profile_by first) (dir_by second))
    (cond (is_word (codes "two_wire") verb)
    (TwoWire (proto_by first) (profile_by first) (dir_by second) (side_by third) (record {
      window = digits_value 10 fourth;
      pause = digits_value 10 fifth;
    }))
    (cond (is_word (codes "live") verb)
    (cond (is_word (codes "seal") first)
    (LiveSeal (proto_by second) (profile_by second) (dir_by third))
    (cond (is_word (codes "line") first)
    (LiveLine (proto_by second) (profile_by second) (dir_by third))
    (LiveCheck (proto_by second) (profile_by second) (dir_by third))))
    (cond (is_word (codes "help") verb) Help
    (cond (is_word (codes "--help") verb) Help
    (cond (is_word (codes "-h") verb) Help
    (cond (is_word (codes "version") verb) Version
    (cond (is_word (codes "--version") verb) Version
    (Replay (proto_by first) (profile_by first) (dir_by second))))))))))))))))))

abbrev word_at : ℕ → List (List ℕ) → List ℕ
word_at zero [] = []
word_at zero (word ∷ words) = word
word_at (suc n) [] = []
word_at (suc n) (word ∷ words) = word_at n words

-- the words behind this many words
abbrev words_behind : ℕ → List (List ℕ) → List (List ℕ)
words_behind zero words = words
words_behind (suc n) [] = []
words_behind (suc n) (word ∷ words) = words_behind n words

abbrev command_in : List (List ℕ) → Command
command_in words = command_by (word_at 0 words) (word_at 1 words) (word_at 2 words)
    (word_at 3 words) (word_at 4 words) (word_at 5 words) (words_behind 6 words)

number-by : (n : ℕ) → n < 2 ^ 64 → digits_value 10 (decimal n) ≡ n
number-by n within = (decimal_is_IsNumeral n within).1

-- The protocol, the profile and the direction that are read back from their words give the same
-- command.
box-by : (asks : Proto → Profile → Dir → Command) (proto : Proto) (profile : Profile) (dir : Dir)
    → asks (proto_by (link_word proto profile)) (profile_by (link_word proto profile))
    (dir_by (dir_word dir)) ≡ asks proto profile dir
box-by asks proto profile dir =
    rw (proto-by proto profile, profile-by proto profile, dir-by dir)

command-in : (words : List (List ℕ)) (command : Command) → IsCommand words command
    → command_in words ≡ command
command-in words (Init proto profile dir) h = ap command_in h.2 ∙ box-by Init proto profile dir
command-in words (Read Rtu) h = ap command_in h
command-in words (Read Dnp3) h = ap command_in h
command-in words Vectors h = ap command_in h
command-in words Help (inl h) = ap command_in h
command-in words Help (inr (inl h)) = ap command_in h
command-in words Help (inr (inr h)) = ap command_in h
command-in words Version (inl h) = ap command_in h
command-in words Version (inr h) = ap command_in h
command-in words (Seal proto profile dir) h = ap command_in h.4 ∙ box-by Seal proto profile dir
command-in words (Check proto profile dir) h = ap command_in h.4 ∙ box-by Check proto profile dir
command-in words (Replay proto profile dir) h = ap command_in h.2 ∙ box-by Replay proto profile dir
command-in words (Duplex proto profile dir) h = ap command_in h.2 ∙ box-by Duplex proto profile dir
command-in words (TwoWire proto profile dir side waits) h =
    ap command_in h.3 ∙ rw (
      proto-by proto profile,
      profile-by proto profile,
      dir-by dir,
      side-by side,
      number-by waits.window (omega (arith, h.2.window_most)),
      number-by waits.pause (omega (arith, h.2.pause_most)),
    ) refl
command-in words (LiveSeal proto profile dir) h =
    ap command_in h.4 ∙ box-by LiveSeal proto profile dir
command-in words (LiveCheck proto profile dir) h =
    ap command_in h.4 ∙ box-by LiveCheck proto profile dir
command-in words (LiveLine proto profile dir) h =
    ap command_in h.6 ∙ box-by LiveLine proto profile dir
command-in words (Space proto profile) h =
    ap command_in h ∙ rw (proto-by proto profile, profile-by proto profile) refl
command-in words (Trial proto profile seed count) h =
    ap command_in h.3 ∙ rw (
      proto-by proto profile,
      profile-by proto profile,
      number-by seed (omega (arith, h.0)),
      number-by count (omega (arith, h.2)),
    ) refl
command-in words (Poll proto profile seed count) h =
    ap command_in h.3 ∙ rw (
      proto-by proto profile,
      profile-by proto profile,
      number-by seed (omega (arith, h.0)),
      number-by count (omega (arith, h.2)),
    ) refl
command-in words (Audit asked) h =
    ap command_in h.5 ∙ rw (
      proto-by asked.proto asked.profile,
      profile-by asked.proto asked.profile,
      dir-by asked.dir,
      number-by asked.sent_floor (omega (arith, h.3.sent)),
      number-by asked.got_floor (omega (arith, h.3.got)),
      tolerance-by asked.tolerance h.1 h.3.late h.4,
    ) refl

-- Two numbers that are spelled alike are equal.
pub spelled-one : (m n : ℕ) → m < 2 ^ 64 → n < 2 ^ 64 → decimal m ≡ decimal n → m ≡ n
spelled-one m n few_m few_n same =
    sym (number-by m few_m) ∙ ap (digits_value 10) same ∙ number-by n few_n

-- The floors of an audit that words ask for are 0 or numbers of frames.
pub asked-floors : (words : List (List ℕ)) (asked : Option Command) → Asks words asked
    → AreFloors asked
asked-floors words (Some (Audit asked)) asks = (asks.3.sent, asks.3.got)
asked-floors words asked asks = tt

-- The count of a trial, and of polls, is from 1 to 10000.
trial-counts : (second seed : List ℕ) (n : ℕ) (command : Command) → n < 2 ^ 32
    → IsCommand (codes "trial" ∷ second ∷ seed ∷ decimal n ∷ []) command → (1 ≤ n) × (n ≤ 10000)
trial-counts second seed n command few so =
    let words : List (List ℕ) = codes "trial" ∷ second ∷ seed ∷ decimal n ∷ [] in
    let named : command ≡ Trial (proto_by second) (profile_by second) (digits_value 10 seed)
    (digits_value 10 (decimal n)) = sym (command-in words command so) in
    let this = subst (λ c. IsCommand words c) named so in
    let same = number-by n (omega (arith, few)) in
    (subst (λ k. 1 ≤ k) same this.1, subst (λ k. k ≤ 10000) same this.2)

poll-counts : (second seed : List ℕ) (n : ℕ) (command : Command) → n < 2 ^ 32
    → IsCommand (codes "poll" ∷ second ∷ seed ∷ decimal n ∷ []) command → (1 ≤ n) × (n ≤ 10000)
poll-counts second seed n command few so =
    let words : List (List ℕ) = codes "poll" ∷ second ∷ seed ∷ decimal n ∷ [] in
    let named : command ≡ Poll (proto_by second) (profile_by second) (digits_value 10 seed)
    (digits_value 10 (decimal n)) = sym (command-in words command so) in
    let this = subst (λ c. IsCommand words c) named so in
    let same = number-by n (omega (arith, few)) in
    (subst (λ k. 1 ≤ k) same this.1, subst (λ k. k ≤ 10000) same this.2)

-- If the words ask for a trial or for polls, the number that the last word spells is from 1 to 10000.
pub drawn-counts : (first second seed count : List ℕ) (n : ℕ) (command : Command)
    → (first ≡ codes "trial") ⊎ (first ≡ codes "poll") → count ≡ decimal n → n < 2 ^ 32
    → IsCommand (first ∷ second ∷ seed ∷ count ∷ []) command → (1 ≤ n) × (n ≤ 10000)
drawn-counts first second seed count n command verb spelled few asked =
    let so : IsCommand (first ∷ second ∷ seed ∷ decimal n ∷ []) command =
    subst (λ w. IsCommand (first ∷ second ∷ seed ∷ w ∷ []) command) spelled asked in
    elim verb [
      | inl trial ↦
          trial-counts second seed n command few
          (subst (λ v. IsCommand (v ∷ second ∷ seed ∷ decimal n ∷ []) command) trial so)
      | inr poll ↦
          poll-counts second seed n command few
          (subst (λ v. IsCommand (v ∷ second ∷ seed ∷ decimal n ∷ []) command) poll so)
    ]

-- words ask for one command at most
pub one-command : (words : List (List ℕ)) (a b : Command) → IsCommand words a → IsCommand words b
    → a ≡ b
one-command words a b ha hb = sym (command-in words a ha) ∙ command-in words b hb

pub asks-one : (words : List (List ℕ)) (a b : Option Command) → Asks words a → Asks words b → a ≡ b
asks-one = asks_one IsCommand command_in command-in

-- What words of an audit say behind its floors.
pub record SaysLate (more : List (List ℕ)) : Type 0 where
  pub tolerance : Tolerance
  pub may : MayBeLate tolerance
  pub words : AreLateWords tolerance more

-- If the first word is `audit`, the words behind the first six say how late a frame may be.
pub audit-late : (first second third fourth fifth sixth : List ℕ) (more : List (List ℕ))
    (command : Command) → first ≡ codes "audit"
    → IsCommand (first ∷ second ∷ third ∷ fourth ∷ fifth ∷ sixth ∷ more) command → SaysLate more
audit-late first second third fourth fifth sixth more command verb asks =
    let words : List (List ℕ) =
    codes "audit" ∷ second ∷ third ∷ fourth ∷ fifth ∷ sixth ∷ more in
    let so : IsCommand words command =
    subst (λ v. IsCommand (v ∷ second ∷ third ∷ fourth ∷ fifth ∷ sixth ∷ more) command) verb
    asks in
    let asked : Audited = record {
      proto = proto_by second;
      profile = profile_by second;
      dir = dir_by third;
      sent_floor = digits_value 10 fifth;
      got_floor = digits_value 10 sixth;
      tolerance = tolerance_by more;
    } in
    let named : command ≡ Audit asked = sym (command-in words command so) in
    let this = subst (λ c. IsCommand words c) named so in
    let is = this.5 in
    let same : this.1 ≡ more = cc in
    record {
      tolerance = asked.tolerance;
      may = this.3.late;
      words = subst (λ l. AreLateWords asked.tolerance l) same this.4;
    }
