-- Runs of bytes of the trailer of the burst whose verdict is open.
use Rattle.frame_ending.specs.Causal.{going_on}
use Rattle.check_receiver.proofs.RunTicks.{RunsTo, runs-none, runs-first}
use Rattle.frame_ending.specs.Cuts.{cut_of, cuts_after}
use Rattle.frame_ending.specs.LiveBytes.{live_bytes, live_end}
use Rattle.frame_ending.specs.declared.cut.Cut.TheVariants.{Extra, Quiet}
use Rattle.line_rules.specs.{Rules.Rules, declared.line_rules.LineRules.Ghosts as LineRules}
use Rattle.link_format.specs.Profile.{Profile, delay}
use Rattle.link_box.proofs.Opened.{IsOpen, extra-goes, extra-end, extra-bytes, extra-adds}
use Rattle.link_box.specs.{Holding.trailer_so_far, Verdicts.CheckState}
use Rattle.std.proofs.Common.{◌≡◌, ◌∙◌, ℕ, ◌+◌, ◌<◌, ◌≤◌, false, List, [], ◌∷◌, ◌++◌, map}
use Rattle.std.proofs.Common.{length, length-append, take, drop, get_or, refl, sym, ap, subst}
use Rattle.std.proofs.Common.{arith, append_assoc, Some}
use Rattle.{std.proofs.lemmas.List.append-nil, yasir_ticks.proofs.SilenceLaws.bytes_in-append}
use Rattle.yasir_ticks.specs.{Bursts.Burst, Ticks.bytes_in}
use Rattle.yasir_ticks.specs.declared.tick.Tick.{Tick, TheVariants.Byte}

module _ {R : Type 0} (proto : LineRules R) (profile : Profile) (floor : ℕ) (s : CheckState) where
  abbrev rules : Rules
  rules = proto.rules

  -- Holds if the bytes `x` have come of the trailer, with what has left meanwhile.
  pub record TrailerRun (line : List Tick) (left : List ℕ) (live : List Tick) (d : Burst)
      (x : List ℕ) : Type 0 where
    pub burst : Burst
    pub runs : RunsTo profile rules floor line (map (λ b. Byte b) x) s false
        (left ++ bytes_in (take (length x) live)) (drop (length x) live) 0 (Some burst)
        (take (length x) live)
    pub bytes : live_bytes rules burst ≡ live_bytes rules d
    pub trailer : trailer_so_far rules burst ≡ trailer_so_far rules d ++ x

  pub trailer-run : (x : List ℕ) (line : List Tick) (left : List ℕ) (live : List Tick)
      (d : Burst) → IsOpen proto profile floor s line false left live 0 d
      → live_end rules d + 3 ≤ length line
      → length line + length x + 1 < live_end rules d + delay profile → length x < length live
      → cuts_after rules line (map (λ b. Byte b) x) ≡ map (λ b. Extra b) x
      → TrailerRun line left live d x
  trailer-run [] line left live d it behind before few cuts =
      let P : List ℕ → Type 0 = λ y. RunsTo profile rules floor line [] s false y live 0 (Some d) []
      in
      record {
        burst = d;
        runs = subst P (sym (append-nil left))
            (runs-none profile rules floor line s false left live 0 (Some d) it.walked);
        bytes = refl;
        trailer = sym (append-nil (trailer_so_far rules d));
      }
  trailer-run (b ∷ x) line left [] d it behind before few cuts = absurd (omega arith)
  trailer-run (b ∷ x) line left (u ∷ live) d it behind before few cuts =
      let first : cut_of rules line (Byte b) ≡ Extra b = ap (λ l. get_or l 0 Quiet) cuts in
      let later : cuts_after rules (line ++ Byte b ∷ []) (map (λ c. Byte c) x)
      ≡ map (λ c. Extra c) x = ap (λ l. drop 1 l) cuts in
      let goes = extra-goes it b first behind (omega arith) in
      let e : Burst = going_on d (length line) b in
      let end = extra-end it b first in
      let longer = length-append line (Byte b ∷ []) in
      let next : List ℕ = left ++ bytes_in (u ∷ []) in
      let k : ℕ = length x in
      let rest = trailer-run x (line ++ Byte b ∷ []) next live e
      (record { timely = it.timely; some = it.some; walked = goes.walked }) (omega arith)
      (omega arith) (omega arith) later in
      let all : next ++ bytes_in (take k live) ≡ left ++ bytes_in (u ∷ take k live) =
      append_assoc left (bytes_in (u ∷ [])) (bytes_in (take k live))
      ∙ ap (λ l. left ++ l) (sym (bytes_in-append (u ∷ []) (take k live))) in
      let P : List ℕ → Type 0 = λ y. RunsTo profile rules floor line
      (map (λ c. Byte c) (b ∷ x)) s false y (drop k live) 0 (Some rest.burst) (u ∷ take k live) in
      record {
        burst = rest.burst;
        runs = subst P all
            (runs-first profile rules floor line (Byte b) (map (λ c. Byte c) x) s false next live 0
            (Some e) (next ++ bytes_in (take k live)) (drop k live) 0 (Some rest.burst) u
            (take k live) goes rest.runs);
        bytes = rest.bytes ∙ extra-bytes it b first;
        trailer = rest.trailer
            ∙ (ap (λ y. y ++ x) (extra-adds it b first behind)
            ∙ append_assoc (trailer_so_far rules d) (b ∷ []) x);
      }
