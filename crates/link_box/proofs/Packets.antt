-- A whole packet passes.
use Rattle.frame_ending.specs.LiveBytes.{live_bytes}
use Rattle.line_rules.specs.{Rules.Rules, Rules.head_of, RulesLaws.IsFramed}
use Rattle.line_rules.specs.declared.head.Head.TheVariants.{Short, Good, Bad}
use Rattle.link_format.proofs.Profiles.{length-trailer, word_of-trailer}
use Rattle.link_format.specs.Profile.{Profile, HasTags, pause_len, trailer_len, trailer_shape}
use Rattle.link_format.specs.Profile.{trailer, words}
use Rattle.link_box.proofs.{Judging.head-short, Judging.head-bad, Passing.passing-passes}
use Rattle.link_box.specs.{Packet.IsPacket, Shapes.kept}
use Rattle.link_box.specs.Verdicts.{CheckState, after_live, kept_after, trailer_of, number_of}
use Rattle.link_box.specs.Verdicts.{tag_in, checked, Verdict.passed_with}
use Rattle.sequence_journal.proofs.NumberLaws.{whole-more, least-is}
use Rattle.sequence_journal.specs.Numbers.{IsLeastWith, least_with, full_of}
use Rattle.std.proofs.Common.{◌≡◌, ◌∙◌, ℕ, zero, suc, ◌+◌, ◌*◌, ◌/◌, ◌%◌, ◌<◌, ◌≤◌, nat_le, true}
use Rattle.std.proofs.Common.{false, List, [], ◌∷◌, ◌++◌, length, map, take, drop, replicate, refl}
use Rattle.std.proofs.Common.{sym, ap, arith, ⊎_elim, Some, None, length-append, append_assoc, cond}
use Rattle.std.proofs.Math.Nat.{mod-lt, mod-add-div', mul-le-mul_right, one-le-pow}
use Rattle.std.proofs.{Math.Seq.drop-append_seam, lemmas.Bool.cases_Bool, lemmas.Bool.cases_lt}
use Rattle.std.proofs.lemmas.{Bool.cond-true, Bool.le-leb, List.drop-take, List.take-append-drop}
use Rattle.std.specs.Int.{bytes_high_first}
use Rattle.yasir_ticks.specs.{Bursts.Burst, Ticks.bytes_in, Ticks.silent}
use Rattle.yasir_ticks.specs.declared.tick.Tick.{Tick, TheVariants.Byte}

-- ---- ticks that begin with a pause and a trailer

kept-trailer : (k : ℕ) (bytes : List ℕ) (rest : List Tick)
    → kept (replicate k false ++ replicate (length bytes) true)
    (silent k ++ (map (λ b. Byte b) bytes ++ rest)) ≡ k + length bytes
unfolding kept
kept-trailer zero [] rest = omega arith
kept-trailer zero (b ∷ bytes) rest = let others = kept-trailer zero bytes rest in omega arith
kept-trailer (suc k) bytes rest = let others = kept-trailer k bytes rest in omega arith

bytes_in-map : (bytes : List ℕ) → bytes_in (map (λ b. Byte b) bytes) ≡ bytes
bytes_in-map [] = refl
bytes_in-map (b ∷ bytes) = ap (λ y. b ∷ y) (bytes_in-map bytes)

-- ---- numbers by their words

-- a number near enough above the floor is the least one above it with its word
least-near : (m floor number : ℕ) → 0 < m → floor < number → number ≤ floor + m
    → least_with m floor (number % m) ≡ number
least-near m floor number some above near =
    let least : ℕ = least_with m floor (number % m) in
    let is : IsLeastWith m floor (number % m) least =
    least-is m floor (number % m) (mod-lt number some) in
    let low : least ≤ number = is.least number above refl in
    let from : floor < least = is.above in
    let rest : least % m ≡ number % m = is.has_word in
    let a : least % m + least / m * m ≡ least = mod-add-div' least m in
    let b : number % m + number / m * m ≡ number = mod-add-div' number m in
    ⊎_elim
    (λ below.
    let more = whole-more m (least / m) (number / m) below in
    absurd (omega arith))
    (λ same.
    let le : number / m * m ≤ least / m * m = mul-le-mul_right m same in
    omega arith)
    (cases_lt (least / m) (number / m))

-- ---- headers of frames

good-long : (rules : Rules) (x : List ℕ) → head_of rules x ≡ Good → rules.header_len ≤ length x
good-long rules x good =
    ⊎_elim
    (λ short. let same : Short ≡ Good = sym (head-short rules x short) ∙ good in cc)
    (λ long. long)
    (cases_lt (length x) rules.header_len)

good-header : (rules : Rules) (x : List ℕ) → head_of rules x ≡ Good
    → rules.is_good_header (take rules.header_len x) ≡ true
good-header rules x good =
    ⊎_elim
    (λ is. is)
    (λ bad.
    let same : Bad ≡ Good = sym (head-bad rules x (good-long rules x good) bad) ∙ good in
    cc)
    (cases_Bool (rules.is_good_header (take rules.header_len x)))

module _ (profile : Profile) (tags : HasTags profile) (rules : Rules) (framing : IsFramed rules)
    (s : CheckState) (d : Burst) (number : ℕ) (packet : IsPacket profile rules s d number) where
  abbrev frame : List ℕ
  frame = live_bytes rules d

  abbrev bytes : List ℕ
  bytes = trailer profile number frame

  long : length bytes ≡ trailer_len profile
  long = length-trailer profile tags number frame

  packet-kept : pause_len + trailer_len profile ≤ kept_after profile rules d
  packet-kept =
      let x : List Tick = after_live rules d in
      let n : ℕ = pause_len + trailer_len profile in
      let is : x ≡ silent pause_len ++ (map (λ b. Byte b) bytes ++ drop n x) =
      sym (take-append-drop n x)
      ∙ (ap (λ y. y ++ drop n x) packet.trailed
      ∙ append_assoc (silent pause_len) (map (λ b. Byte b) bytes) (drop n x)) in
      let all = ap (λ y. kept (trailer_shape profile) y) is
      ∙ (ap (λ k. kept (replicate pause_len false ++ replicate k true)
      (silent pause_len ++ (map (λ b. Byte b) bytes ++ drop n x))) (sym long)
      ∙ kept-trailer pause_len bytes (drop n x)) in
      omega (arith, long)

  packet-trailer : trailer_of profile rules d ≡ bytes
  packet-trailer =
      ap bytes_in
      (sym (drop-take pause_len (trailer_len profile) (after_live rules d))
      ∙ ap (λ y. drop pause_len y) packet.trailed)
      ∙ bytes_in-map bytes

  packet-number : number_of profile s.floor bytes ≡ Some number
  packet-number =
      let some : 0 < words profile = one-le-pow profile.word_len 256 (omega arith) in
      ap (λ w. full_of profile.limit (words profile) s.floor w)
      (word_of-trailer profile number frame)
      ∙ (ap (λ n. cond (nat_le n profile.limit) (Some n) None)
      (least-near (words profile) s.floor number some packet.above packet.near)
      ∙ cond-true (nat_le number profile.limit) (Some number) None
      (le-leb number profile.limit packet.within))

  packet-tag : tag_in profile bytes ≡ profile.tag number frame
  packet-tag =
      let word : List ℕ = bytes_high_first profile.word_len number in
      let tag : List ℕ = profile.tag number frame in
      let sized = tags.sized number frame in
      let all = length-append word tag in
      let few : length word ≡ profile.word_len = omega (arith, long) in
      ap (λ k. drop k (word ++ tag)) (sym few) ∙ drop-append_seam word tag

  pub packet-passes : checked profile rules s d ≡ passed_with number
  packet-passes =
      let good = framing.good_header frame packet.framed in
      passing-passes profile rules s d number (record {
        late = packet.free;
        header_long = good-long rules frame good;
        header_good = good-header rules frame good;
        whole = packet-kept;
        framed = packet.framed;
        numbered = ap (λ y. number_of profile s.floor y) packet-trailer ∙ packet-number;
        tagged = ap (λ y. tag_in profile y) packet-trailer ∙ packet-tag;
      })
