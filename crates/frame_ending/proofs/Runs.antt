-- Runs of ticks that a value takes as it cuts a line: live bytes, and silence while no burst runs.
use Rattle.frame_ending.proofs.Cutting.{cut-begin, cut-pass, stands-go_on, cut-go_on, stands-rest}
use Rattle.frame_ending.proofs.{Cutting.cut-rest, LastBurst.grown, LastBurst.last_burst-byte}
use Rattle.frame_ending.specs.Cuts.{cut_of, byte_cut, cuts_after}
use Rattle.frame_ending.specs.SoFar.{last_burst, start_in, start_so_far, live_bytes_so_far}
use Rattle.frame_ending.specs.{Stands.CutStandsFor, declared.burst_cut.BurstCut.BurstCut}
use Rattle.frame_ending.specs.declared.cut.Cut.TheVariants.{Start, Live, Extra, Quiet}
use Rattle.line_rules.specs.{Bytes.AreBytes, Rules.Rules, Rules.fills_room}
use Rattle.line_rules.specs.declared.line_rules.LineRules.{Ghosts as LineRules}
use Rattle.std.proofs.Common.{◌≡◌, ◌∙◌, ℕ, zero, suc, ◌+◌, ◌<◌, ◌≤◌, Bool, true, false, ◌||◌, List}
use Rattle.std.proofs.Common.{[], ◌∷◌, ◌++◌, length, take, map, replicate, refl, sym, ap, subst}
use Rattle.std.proofs.Common.{arith, append_assoc, append-nil, length-append, Option, Some, None}
use Rattle.std.proofs.{Common.⊎_elim, Math.Seq.drop-append_seam, lemmas.Bool.cases_lt}
use Rattle.std.proofs.lemmas.Bool.{eq-eqb, eqb-false, lt-ltb, le-ltb, cond-true, cond-false}
use Rattle.std.proofs.lemmas.List.{length-take-le, take-take, Elements.All-append}
use Rattle.std.proofs.lemmas.List.Elements.{All-head, All-tail, All-nil, All-cons, All-drop}
use Rattle.yasir_ticks.proofs.BurstLaws.{alone}
use Rattle.yasir_ticks.specs.{Bursts.Burst, Bursts.end_of, Ticks.silent}
use Rattle.yasir_ticks.specs.declared.tick.Tick.{Tick, TheVariants.Silent, TheVariants.Byte}

-- a live byte that starts no burst belongs to the last one
pub live-start : (rules : Rules) (line : List Tick) (b : ℕ) → cut_of rules line (Byte b) ≡ Live b
    → start_so_far (line ++ Byte b ∷ []) ≡ start_so_far line
live-start rules line b live = by_last (last_burst line) refl
  where
    not_alone : last_burst (line ++ Byte b ∷ []) ≡ Some (alone (length line) b) → ⊥
    not_alone is =
        let starts : cut_of rules line (Byte b) ≡ Start b =
        ap (λ o. byte_cut rules (length line) b o) is
        ∙ cond-true _ _ _ (eq-eqb (length line) (length line) refl) in
        let other : Start b ≡ Live b = sym starts ∙ live in cc

    by_last : (o : Option Burst) → last_burst line ≡ o
        → start_so_far (line ++ Byte b ∷ []) ≡ start_so_far line
    by_last None is = absurd (not_alone (last_burst-byte line b
        ∙ ap (λ o. Some (grown (length line) b o)) is))
    by_last (Some d) is =
        let now : last_burst (line ++ Byte b ∷ []) ≡ Some (grown (length line) b (Some d)) =
        last_burst-byte line b ∙ ap (λ o. Some (grown (length line) b o)) is in
        ⊎_elim
        (λ near. ap start_in (now ∙ ap Some (cond-true _ _ _ (lt-ltb _ _ near)))
        ∙ sym (ap start_in is))
        (λ far. absurd (not_alone (now ∙ ap Some (cond-false _ _ _ (le-ltb _ _ far)))))
        (cases_lt (length line) (end_of d + 4))

module _ {R : Type 0} (proto : LineRules R) where
  abbrev rules : Rules
  rules = proto.rules

  -- Holds if a list represents itself.
  pub record IsItself (value x : List ℕ) : Type 0 where
    pub same : value ≡ x
    pub bytes : AreBytes x
    pub within : length x ≤ rules.room x

  -- the protocol, with lists as its values
  abbrev listed : LineRules (List ℕ)
  listed = record {
    rules = rules;
    stands = IsItself;
    is_full = λ value. fills_room rules value;
    MAX = proto.MAX;
    LABEL = proto.LABEL;
    lawful = proto.lawful;
    headed = proto.headed;
    framed = proto.framed;
    filling = proto.filling;
    spoiling = proto.spoiling;
    numbers = proto.numbers;
    fullness = λ value x is. ap (λ y. fills_room rules y) is.same;
    bytes = λ value x is. is.bytes;
    within = λ value x is. is.within;
  }

  -- a value with its live bytes as a list
  abbrev with_list : {A : Type 0} → BurstCut A → List ℕ → BurstCut (List ℕ)
  with_list v x = record {
    taken = v.taken;
    quiet = v.quiet;
    start = v.start;
    last_live = v.last_live;
    extra = v.extra;
    paused = v.paused;
    rules = x;
  }

  as-list : (v : BurstCut R) (line : List Tick) → CutStandsFor proto v line
      → CutStandsFor listed (with_list v (live_bytes_so_far rules line)) line
  as-list v line old = record {
    count = old.count;
    quiet_is = old.quiet_is;
    start_is = old.start_is;
    last_live_is = old.last_live_is;
    extra_is = old.extra_is;
    paused_is = old.paused_is;
    bytes = record {
      same = refl;
      bytes = proto.bytes v.rules (live_bytes_so_far rules line) old.bytes;
      within = proto.within v.rules (live_bytes_so_far rules line) old.bytes;
    };
  }

  of-list : (v : BurstCut R) (x : List ℕ) (line : List Tick) → proto.stands v.rules x
      → CutStandsFor listed (with_list v x) line → CutStandsFor proto v line
  of-list v x line holds is =
      let P : List ℕ → Type 0 = λ y. proto.stands v.rules y in
      record {
        count = is.count;
        quiet_is = is.quiet_is;
        start_is = is.start_is;
        last_live_is = is.last_live_is;
        extra_is = is.extra_is;
        paused_is = is.paused_is;
        bytes = subst P is.bytes.same holds;
      }

  -- ---- live bytes

  abbrev after_bytes : BurstCut (List ℕ) → List ℕ → ℕ → ℕ → BurstCut (List ℕ)
  after_bytes v x t l = record v { taken = t; quiet = 0; last_live = l; rules = v.rules ++ x }

  -- Holds if these bytes are live, and the value that has taken them, t ticks in all with the last
  -- one at tick l, represents the line with them.
  record GoesOn (v : BurstCut (List ℕ)) (line : List Tick) (x : List ℕ) : Type 0 where
    stands : (t l : ℕ) → t ≡ v.taken + length x → l + 1 ≡ t → 0 < length x
        → CutStandsFor listed (after_bytes v x t l) (line ++ map Byte x)
    live : cuts_after rules line (map Byte x) ≡ map Live x

  one-more : (v : BurstCut (List ℕ)) (line : List Tick) (b : ℕ) → CutStandsFor listed v line
      → v.quiet < 4 → v.paused ≡ false → fills_room rules v.rules ≡ false → b < 256
      → CutStandsFor listed (after_bytes v (b ∷ []) (v.taken + 1) v.taken) (line ++ Byte b ∷ [])
  one-more v line b old quiet open' room byte =
      stands-go_on listed v line old _ (v.rules ++ b ∷ []) b quiet
      (listed.fullness v.rules _ old.bytes) open' room takes
    where
      takes : (x : List ℕ) → IsItself v.rules x → IsItself (v.rules ++ b ∷ []) (x ++ b ∷ [])
      takes x is =
          let P : List ℕ → Type 0 = λ y. fills_room rules y ≡ false in
          let other : length x ≡ rules.room x → ⊥ = eqb-false _ _ (subst P is.same room) in
          let within = is.within in
          let some : length x < rules.room x = omega arith in
          let fits = proto.lawful.fits x b some in
          let longer = length-append x (b ∷ []) in
          record {
            same = ap (λ y. y ++ b ∷ []) is.same;
            bytes = All-append (λ c. c < 256) x (b ∷ []) is.bytes
                (All-cons (λ c. c < 256) b [] byte (All-nil (λ c. c < 256)));
            within = omega arith;
          }

  goes-on : (x : List ℕ) (v : BurstCut (List ℕ)) (line : List Tick) → CutStandsFor listed v line
      → v.quiet < 4 → v.paused ≡ false → AreBytes x
      → ((n : ℕ) → n < length x → fills_room rules (v.rules ++ take n x) ≡ false)
      → GoesOn v line x
  goes-on [] v line old quiet open' are room = record {
    stands = λ t l is last some. absurd (omega arith);
    live = refl;
  }
  goes-on (b ∷ x) v line old quiet open' are room =
      let first : fills_room rules v.rules ≡ false =
      ap (λ y. fills_room rules y) (sym (append-nil v.rules)) ∙ room 0 (omega arith) in
      let one : BurstCut (List ℕ) = after_bytes v (b ∷ []) (v.taken + 1) v.taken in
      let next = one-more v line b old quiet open' first (All-head (λ c. c < 256) b x are) in
      let is_live = cut-go_on listed v line old _ b quiet (listed.fullness v.rules _ old.bytes)
      open' first in
      let rest : GoesOn one (line ++ Byte b ∷ []) x =
      goes-on x one (line ++ Byte b ∷ []) next (omega arith) open'
      (All-tail (λ c. c < 256) b x are)
      (λ n few. ap (λ y. fills_room rules y) (append_assoc v.rules (b ∷ []) (take n x))
      ∙ room (suc n) (omega arith)) in
      record {
        stands = λ t l is last some. more x t l is last next rest.stands;
        live = let tail = rest.live in cc;
      }
    where
      more : (x : List ℕ) (t l : ℕ) → t ≡ v.taken + length (b ∷ x) → l + 1 ≡ t
          → CutStandsFor listed (after_bytes v (b ∷ []) (v.taken + 1) v.taken) (line ++ Byte b ∷ [])
          → ((t l : ℕ) → t ≡ v.taken + 1 + length x → l + 1 ≡ t → 0 < length x
          → CutStandsFor listed
          (after_bytes (after_bytes v (b ∷ []) (v.taken + 1) v.taken) x t l)
          ((line ++ Byte b ∷ []) ++ map Byte x))
          → CutStandsFor listed (after_bytes v (b ∷ x) t l) (line ++ map Byte (b ∷ x))
      more [] t l is last next rest =
          let P : ℕ → Type 0 = λ k. CutStandsFor listed (after_bytes v (b ∷ []) k l)
          (line ++ Byte b ∷ []) in
          let Q : ℕ → Type 0 = λ k. CutStandsFor listed (after_bytes v (b ∷ []) (v.taken + 1) k)
          (line ++ Byte b ∷ []) in
          let at : v.taken + 1 ≡ t = omega arith in
          let end : v.taken ≡ l = omega arith in
          subst P at (subst Q end next)
      more (d ∷ x) t l is last next rest =
          let P : List ℕ → Type 0 = λ y. CutStandsFor listed (record v {
            taken = t;
            quiet = 0;
            last_live = l;
            rules = y;
          }) ((line ++ Byte b ∷ []) ++ map Byte (d ∷ x)) in
          let Q : List Tick → Type 0 = λ z. CutStandsFor listed (after_bytes v (b ∷ d ∷ x) t l) z in
          subst Q (append_assoc line (Byte b ∷ []) (map Byte (d ∷ x)))
          (subst P (append_assoc v.rules (b ∷ []) (d ∷ x))
          (rest t l (omega arith) last (omega arith)))

  -- The value after a run of live bytes, which its rules have taken.
  abbrev went_on : BurstCut R → R → ℕ → ℕ → BurstCut R
  went_on v r t l = record v { taken = t; quiet = 0; last_live = l; rules = r }

  module _ (v : BurstCut R) (r : R) (part : List ℕ) (taken : ℕ) (quiet : v.quiet < 4)
      (open' : v.paused ≡ false) (within : taken ≤ length part)
      (takes : (x : List ℕ) → proto.stands v.rules x → proto.stands r (x ++ take taken part))
      (room : (x : List ℕ) (n : ℕ) → proto.stands v.rules x → n < taken
      → fills_room rules (x ++ take n part) ≡ false) (line : List Tick)
      (old : CutStandsFor proto v line) where
    abbrev some : List ℕ
    some = take taken part

    live-run : GoesOn (with_list v (live_bytes_so_far rules line)) line some
    live-run =
        let live : List ℕ = live_bytes_so_far rules line in
        let long = length-take-le taken part within in
        let all = proto.bytes r (live ++ some) (takes live old.bytes) in
        let P : List ℕ → Type 0 = λ y. AreBytes y in
        let are : AreBytes some = subst P (drop-append_seam live some)
        (All-drop (λ c. c < 256) (length live) (live ++ some) all) in
        goes-on some (with_list v live) line (as-list v line old) quiet open' are
        (λ n few. ap (λ y. fills_room rules (live ++ y))
        (take-take n taken part (omega arith))
        ∙ room live n old.bytes (omega arith))

    pub stands-bytes : 0 < taken → (t l : ℕ) → t ≡ v.taken + taken → l + 1 ≡ t
        → CutStandsFor proto (went_on v r t l) (line ++ map Byte some)
    stands-bytes any t l is last =
        let live : List ℕ = live_bytes_so_far rules line in
        let long = length-take-le taken part within in
        of-list (went_on v r t l) (live ++ some) (line ++ map Byte some) (takes live old.bytes)
        (live-run.stands t l (omega arith) last (omega arith))

    pub cuts-bytes : cuts_after rules line (map Byte some) ≡ map Live some
    cuts-bytes = live-run.live

  -- ---- when a byte isn't live

  module _ (v : BurstCut R) (line : List Tick) (old : CutStandsFor proto v line) (b : ℕ)
      (is_live : cut_of rules line (Byte b) ≡ Live b) where
    pub quiet-not_live : 4 ≤ v.quiet → ⊥
    quiet-not_live quiet = let starts = cut-begin proto v line old b quiet in
        let other : Start b ≡ Live b = starts ∙ is_live in cc

    pub over-not_live : (full : Bool) → v.quiet < 4
        → full ≡ fills_room rules (live_bytes_so_far rules line) → (v.paused || full) ≡ true → ⊥
    over-not_live full quiet full_is over =
        let extra = cut-pass proto v line old full b quiet full_is over in
        let other : Extra b ≡ Live b = extra ∙ is_live in cc

  -- ---- silence

  abbrev after_silence : BurstCut R → ℕ → BurstCut R
  after_silence v t = record v { taken = t }

  pub stands-silence : (n : ℕ) (v : BurstCut R) (line : List Tick) (t : ℕ)
      → CutStandsFor proto v line → 4 ≤ v.quiet → v.taken + n ≡ t
      → CutStandsFor proto (after_silence v t) (line ++ silent n)
  stands-silence zero v line t old quiet is =
      let P : ℕ → Type 0 = λ k. CutStandsFor proto (after_silence v k) line in
      let Q : List Tick → Type 0 = λ l. CutStandsFor proto (after_silence v t) l in
      let same : v.taken ≡ t = omega arith in
      subst Q (sym (append-nil line)) (subst P same old)
  stands-silence (suc n) v line t old quiet is =
      let next : CutStandsFor proto (after_silence v (v.taken + 1)) (line ++ Silent ∷ []) =
      stands-rest proto v line old quiet in
      let P : List Tick → Type 0 = λ l. CutStandsFor proto (after_silence v t) l in
      subst P (append_assoc line (Silent ∷ []) (silent n))
      (stands-silence n (after_silence v (v.taken + 1)) (line ++ Silent ∷ []) t next quiet
      (omega arith))

  pub cuts-silence : (n : ℕ) (v : BurstCut R) (line : List Tick) → CutStandsFor proto v line
      → 4 ≤ v.quiet → cuts_after rules line (silent n) ≡ replicate n Quiet
  cuts-silence zero v line old quiet = refl
  cuts-silence (suc n) v line old quiet =
      let next : CutStandsFor proto (after_silence v (v.taken + 1)) (line ++ Silent ∷ []) =
      stands-rest proto v line old quiet in
      let first = cut-rest proto v line old quiet in
      let more = cuts-silence n (after_silence v (v.taken + 1)) (line ++ Silent ∷ []) next quiet in
      cc
