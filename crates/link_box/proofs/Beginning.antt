-- A burst begins while no verdict is open.
use Rattle.frame_ending.specs.LiveBytes.{up_to_byte, live_bytes, live_ticks, live_end}
use Rattle.line_rules.specs.{Rules.Rules, RulesLaws.IsLawful}
use Rattle.link_format.specs.Profile.{Profile, delay}
use Rattle.link_box.proofs.Leavings.{leaves-silent, leaves-byte}
use Rattle.link_box.specs.{Holding.Opens, Holding.Rests, Holding.as_it_came, Leaving.leaves}
use Rattle.std.proofs.Common.{◌≡◌, ◌∙◌, ℕ, zero, suc, ◌+◌, ◌-◌, ◌<◌, ◌≤◌, Bool, true, List, [], ◌∷◌}
use Rattle.std.proofs.Common.{◌++◌, length, take, drop, get_or, refl, sym, ap, arith}
use Rattle.yasir_ticks.{proofs.BurstLaws.alone, specs.Bursts.Burst}
use Rattle.yasir_ticks.specs.Ticks.{silent, bytes_in}
use Rattle.yasir_ticks.specs.declared.tick.Tick.{Tick, TheVariants.Silent, TheVariants.Byte}

-- when a burst may start, everything has left
pub rests-none : (rules : Rules) (p : Bool) (m earliest : ℕ) (left : List ℕ) (live : List Tick)
    (owed : ℕ) (emissions : List Burst)
    → Rests rules p m earliest left live owed emissions → earliest ≤ m
    → length (leaves rules p left live owed) ≡ 0
rests-none rules p m earliest left live owed emissions rests free =
    none (length (leaves rules p left live owed)) rests.ends
  where
    none : (n : ℕ) → (0 < n → m + n ≤ earliest) → n ≡ 0
    none zero ends = refl
    none (suc n) ends = let end = ends (omega arith) in absurd (omega arith)

pub live-none : (rules : Rules) (p : Bool) (left : List ℕ) (live : List Tick) (owed : ℕ)
    → length (leaves rules p left live owed) ≡ 0 → live ≡ []
live-none rules p left [] owed none = refl
live-none rules p left (Silent ∷ live) owed none =
    let some = ap length (leaves-silent rules p left live owed) in absurd (omega arith)
live-none rules p left (Byte b ∷ live) owed none =
    let some = ap length (leaves-byte rules p left b live owed) in absurd (omega arith)

module _ (profile : Profile) (rules : Rules) (lawful : IsLawful rules) (m b : ℕ)
    (bytes : live_bytes rules (alone m b) ≡ b ∷ []) where
  abbrev e : Burst
  e = alone m b

  begun-ticks : live_ticks rules e ≡ Byte b ∷ []
  unfolding up_to_byte
  begun-ticks = ap (λ x. up_to_byte (length x) (Byte b ∷ [])) bytes

  pub begun-whole : as_it_came profile rules e ≡ silent (delay profile) ++ Byte b ∷ []
  begun-whole = ap (λ x. silent (delay profile) ++ x) begun-ticks

  pub begun-end : live_end rules e ≡ m + 1
  begun-end = ap (λ x. m + length x) begun-ticks

  begun-one : m + 1 - e.start ≡ 1
  begun-one = omega arith

  first-silent : (n : ℕ) → 1 ≤ n → bytes_in (take 1 (silent n ++ Byte b ∷ [])) ≡ []
  first-silent zero some = absurd (omega arith)
  first-silent (suc n) some = refl

  pub begun-left : [] ≡ bytes_in (take (m + 1 - e.start) (as_it_came profile rules e))
  begun-left =
      sym (ap (λ k. bytes_in (take k (as_it_came profile rules e))) begun-one
      ∙ (ap (λ x. bytes_in (take 1 x)) begun-whole
      ∙ first-silent (delay profile) (omega arith)))

  pub begun-live : drop 1 (silent (delay profile) ++ Byte b ∷ [])
      ≡ drop (m + 1 - e.start) (as_it_came profile rules e)
  begun-live =
      ap (λ x. drop 1 x) (sym begun-whole)
      ∙ ap (λ k. drop k (as_it_came profile rules e)) (sym begun-one)

  -- after the first byte of a burst, the verdict on it is open
  pub opens-begun : (earliest : ℕ) → earliest ≤ m
      → (rules.header_len ≤ length (live_bytes rules e)
      → rules.is_good_header (take rules.header_len (live_bytes rules e)) ≡ true)
      → Opens profile rules (m + 1) earliest e []
      (drop 1 (silent (delay profile) ++ Byte b ∷ []))
  opens-begun earliest free not_bad =
      let end = begun-end in
      record {
        from = omega arith;
        end_from = omega arith;
        near = omega arith;
        late = free;
        not_bad = not_bad;
        not_short = λ more. absurd (omega arith);
        keeps = omega arith;
        live_is = begun-live;
        left_is = begun-left;
      }

  -- nothing of a burst is seen in its first step
  pub begun-seen : get_or (as_it_came profile rules e) (m - e.start) Silent ≡ Silent
  begun-seen =
      let none : m - e.start ≡ 0 = omega arith in
      ap (λ k. get_or (as_it_came profile rules e) k Silent) none
      ∙ (ap (λ x. get_or x 0 Silent) begun-whole ∙ first (delay profile) (omega arith))
    where
      first : (n : ℕ) → 1 ≤ n → get_or (silent n ++ Byte b ∷ []) 0 Silent ≡ Silent
      first zero some = absurd (omega arith)
      first (suc n) some = refl
