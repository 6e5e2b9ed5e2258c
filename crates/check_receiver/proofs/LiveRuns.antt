-- Runs of live bytes of the burst whose verdict is open.
use Rattle.frame_ending.specs.Causal.{going_on}
use Rattle.check_receiver.proofs.RunTicks.{RunsTo, runs-none, runs-first, entered-next, left-next}
use Rattle.check_receiver.{proofs.RunTicks.bytes-next, specs.Runs.KeepsHeader}
use Rattle.frame_ending.specs.Cuts.{cut_of, cuts_after}
use Rattle.frame_ending.specs.LiveBytes.{live_bytes, live_end}
use Rattle.frame_ending.specs.declared.cut.Cut.TheVariants.{Live, Quiet}
use Rattle.line_rules.specs.{Rules.Rules, declared.line_rules.LineRules.Ghosts as LineRules}
use Rattle.link_format.specs.Profile.{Profile, delay}
use Rattle.link_box.proofs.Opened.{IsOpen, opens-of, long-of, more-of, live-goes, live-ends}
use Rattle.link_box.proofs.Opened.{live-adds, live-gap, live-before}
use Rattle.link_box.proofs.{Opening.length-silent, Rings.ring-first, Rings.ring-byte}
use Rattle.link_box.specs.{Holding.trailer_so_far, Verdicts.CheckState}
use Rattle.std.proofs.Common.{◌≡◌, ◌∙◌, ◌⊎◌, ℕ, suc, ◌-◌, ◌<◌, ◌≤◌, true, false, List, [], ◌∷◌}
use Rattle.std.proofs.Common.{◌++◌, ⊎_elim, inl, length, length-append, take, drop, get_or, map}
use Rattle.std.proofs.Common.{sym, ap, subst, arith, append_assoc, Some}
use Rattle.std.proofs.lemmas.List.{append-nil, length-drop, take-append-le}
use Rattle.yasir_ticks.specs.{Bursts.Burst, Bursts.end_of, Ticks.silent, Ticks.bytes_in}
use Rattle.yasir_ticks.specs.declared.tick.Tick.{Tick, TheVariants.Silent, TheVariants.Byte}

module _ {R : Type 0} (proto : LineRules R) (profile : Profile) (floor : ℕ) (s : CheckState) where
  abbrev rules : Rules
  rules = proto.rules

  -- Holds if the burst has gone on by the live bytes `x`, with what has left of the ring meanwhile,
  -- and what is left in it.
  pub record LiveRun (line : List Tick) (left : List ℕ) (live Q : List Tick) (d : Burst)
      (x : List ℕ) : Type 0 where
    pub burst : Burst
    pub ticks : List Tick
    pub runs : RunsTo profile rules floor line (map (λ b. Byte b) x) s false
        (left ++ bytes_in (take (length x) (Q ++ map (λ b. Byte b) x))) ticks 0 (Some burst)
        (take (length x) (Q ++ map (λ b. Byte b) x))
    pub ring : ticks ++ silent (delay profile - length ticks)
        ≡ drop (length x) (Q ++ map (λ b. Byte b) x)
    pub few : length ticks ≤ delay profile
    pub bytes : live_bytes rules burst ≡ live_bytes rules d ++ x
    pub full : (length live ≡ delay profile) ⊎ (0 < length x) → length ticks ≡ delay profile
    pub end : (live_end rules d ≡ length line) ⊎ (0 < length x)
        → live_end rules burst ≡ length (line ++ map (λ b. Byte b) x)
    pub none : 0 < length x → trailer_so_far rules d ≡ []

  pub live-run : (x : List ℕ) (line : List Tick) (left : List ℕ) (live Q : List Tick) (d : Burst)
      → Q ≡ live ++ silent (delay profile - length live) → length live ≤ delay profile
      → IsOpen proto profile floor s line false left live 0 d
      → KeepsHeader rules (live_bytes rules d) x
      → cuts_after rules line (map (λ b. Byte b) x) ≡ map (λ b. Live b) x
      → 0 < length Q → LiveRun line left live Q d x
  live-run [] line left live Q d is few it headed cuts within =
      let P : List ℕ → Type 0 = λ y. RunsTo profile rules floor line [] s false y live 0 (Some d) []
      in
      record {
        burst = d;
        ticks = live;
        runs = subst P (sym (append-nil left))
            (runs-none profile rules floor line s false left live 0 (Some d) it.walked);
        ring = sym is ∙ sym (append-nil Q);
        few = few;
        bytes = sym (append-nil (live_bytes rules d));
        full = λ which. ⊎_elim (λ all. all) (λ any. absurd (omega arith)) which;
        end = λ which. ⊎_elim (λ there. there ∙ ap length (sym (append-nil line)))
            (λ any. absurd (omega arith)) which;
        none = λ any. absurd (omega arith);
      }
  live-run (b ∷ x) line left live Q d is few it headed cuts within =
      let first : cut_of rules line (Byte b) ≡ Live b = ap (λ l. get_or l 0 Quiet) cuts in
      let later : cuts_after rules (line ++ Byte b ∷ []) (map (λ c. Byte c) x)
      ≡ map (λ c. Live c) x = ap (λ l. drop 1 l) cuts in
      let e : Burst = going_on d (length line) b in
      let N : List ℕ → Type 0 = λ y. rules.header_len ≤ length y
      → rules.is_good_header (take rules.header_len y) ≡ true in
      let adds : live_bytes rules e ≡ live_bytes rules d ++ b ∷ [] = live-adds it b first in
      let goes = live-goes it b first (subst N (sym adds) (headed 1 (omega arith))) in
      let gap : ℕ = length line - end_of d in
      let gap_is = live-gap it b first in
      let sum_is = long-of it in
      let from = (opens-of it).end_from in
      let more = more-of it in
      let next : List Tick = drop 1 live ++ (silent gap ++ Byte b ∷ []) in
      let shifted : List Tick = drop 1 Q ++ Byte b ∷ [] in
      let less = length-drop 1 live in
      let tail = length-silent gap (Byte b ∷ []) in
      let sum = length-append (drop 1 live) (silent gap ++ Byte b ∷ []) in
      let full : length next ≡ delay profile = omega arith in
      let empty : delay profile - length next ≡ 0 = omega arith in
      let same : delay profile - length live ≡ gap = omega arith in
      let shifted_is : shifted ≡ next ++ silent (delay profile - length next) =
      ap (λ l. drop 1 l ++ Byte b ∷ []) is
      ∙ (ring-byte live (delay profile - length live) b (omega arith)
      ∙ (ap (λ k. drop 1 live ++ (silent k ++ Byte b ∷ [])) same
      ∙ (sym (append-nil next) ∙ ap (λ k. next ++ silent k) (sym empty)))) in
      let more_bytes = ap length adds in
      let sized = length-append (live_bytes rules d) (b ∷ []) in
      let Q_less = length-drop 1 Q in
      let Q_more = length-append (drop 1 Q) (Byte b ∷ []) in
      let k : ℕ = length x in
      let E : List Tick = map (λ c. Byte c) x in
      let left' : List ℕ = left ++ bytes_in (take 1 live) in
      let headed' : KeepsHeader rules (live_bytes rules e) x = λ n few'.
      subst N (sym (append_assoc (live_bytes rules d) (b ∷ []) (take n x))
      ∙ ap (λ y. y ++ take n x) (sym adds)) (headed (suc n) (omega arith)) in
      let rest : LiveRun (line ++ Byte b ∷ []) left' next shifted e x =
      live-run x (line ++ Byte b ∷ []) left' next shifted e shifted_is (omega arith)
      (record { timely = it.timely; some = it.some; walked = goes.walked }) headed' later (omega arith) in
      let front : take 1 live ≡ take 1 Q =
      sym (ap (λ l. take 1 l) is
      ∙ take-append-le 1 live (silent (delay profile - length live)) (omega arith)) in
      let answer : get_or live 0 Silent ≡ get_or Q 0 Silent =
      sym (ap (λ l. get_or l 0 Silent) is ∙ ring-first live (delay profile - length live)) in
      let all : left' ++ bytes_in (take k (shifted ++ E))
      ≡ left ++ bytes_in (take (suc k) (Q ++ Byte b ∷ E)) =
      ap (λ l. (left ++ bytes_in l) ++ bytes_in (take k (shifted ++ E))) front
      ∙ bytes-next left Q (Byte b) E k within in
      let told : get_or live 0 Silent ∷ take k (shifted ++ E) ≡ take (suc k) (Q ++ Byte b ∷ E) =
      ap (λ t. t ∷ take k (shifted ++ E)) answer ∙ left-next Q (Byte b) E k within in
      let RunA : List ℕ → Type 0 = λ y. RunsTo profile rules floor line
      (map (λ c. Byte c) (b ∷ x)) s false y rest.ticks 0 (Some rest.burst)
      (get_or live 0 Silent ∷ take k (shifted ++ E)) in
      let RunB : List Tick → Type 0 = λ a. RunsTo profile rules floor line
      (map (λ c. Byte c) (b ∷ x)) s false (left ++ bytes_in (take (suc k) (Q ++ Byte b ∷ E)))
      rest.ticks 0 (Some rest.burst) a in
      let long = length-append line (Byte b ∷ []) in
      record {
        burst = rest.burst;
        ticks = rest.ticks;
        runs = subst RunB told (subst RunA all
            (runs-first profile rules floor line (Byte b) (map (λ c. Byte c) x) s false left' next
            0 (Some e) (left' ++ bytes_in (take k (shifted ++ E))) rest.ticks 0 (Some rest.burst)
            (get_or live 0 Silent) (take k (shifted ++ E)) goes rest.runs));
        ring = rest.ring ∙ entered-next Q (Byte b) (map (λ c. Byte c) x) k (omega arith);
        few = rest.few;
        bytes = rest.bytes
            ∙ (ap (λ y. y ++ x) adds ∙ append_assoc (live_bytes rules d) (b ∷ []) x);
        full = λ which. rest.full (inl full);
        end = λ which. rest.end (inl (live-ends it b first ∙ sym long))
            ∙ ap length (append_assoc line (Byte b ∷ []) (map (λ c. Byte c) x));
        none = λ any. live-before it b first;
      }
