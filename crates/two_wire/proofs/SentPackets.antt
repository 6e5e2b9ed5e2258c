-- What a box sends of spaced frames: their packets.
use Rattle.frame_ending.proofs.Spread.{bursts-spread, bursts-end}
use Rattle.frame_ending.specs.{Laid.laid, Walk.emitted_by}
use Rattle.line_rules.specs.{Rules.Rules, RulesLaws.IsLawful}
use Rattle.link_format.specs.Profile.{Profile, HasTags}
use Rattle.receiver_laws.proofs.Packing.{packets, seals-all}
use Rattle.receiver_laws.specs.Untouched.{IsUntouchedLink}
use Rattle.link_box.specs.Sealing.{sealer, link_line, at_floor as seal_floor}
use Rattle.std.proofs.Common.{◌≡◌, ◌∙◌, ℕ, ◌+◌, ◌≤◌, List, ◌++◌, length, ap, arith, length-append}
use Rattle.std.proofs.lemmas.List.{length-replicate}
use Rattle.yasir_ticks.proofs.BurstLaws.{bursts_from-silent_end}
use Rattle.yasir_ticks.specs.{Bursts.bursts, Ticks.silent}
use Rattle.yasir_ticks.specs.declared.tick.Tick.{Tick, TheVariants.Silent}

module _ (profile : Profile) (tags : HasTags profile) (some : 1 ≤ profile.word_len)
    (rules : Rules) (lawful : IsLawful rules) (floor behind : ℕ) (line : List Tick) (more : ℕ)
    (is : IsUntouchedLink profile rules floor behind line more) where
  whole-length : length (line ++ silent more) ≡ length line + more
  whole-length = length-append line (silent more) ∙ ap (λ k. length line + k)
      (length-replicate more Silent)

  pub sends-packets : link_line profile rules floor (line ++ silent more)
      ≡ laid (length (line ++ silent more)) (packets profile rules floor (bursts line))
  sends-packets =
      let long = whole-length in
      let quiet = is.silence in
      let all = seals-all profile tags some rules lawful (length line)
      (length (line ++ silent more)) (omega arith) (seal_floor floor) 0 0 (bursts line) is.spaced
      (bursts-spread line) (bursts-end line) (omega arith) is.numbers in
      ap (λ es. laid (length (line ++ silent more))
      (emitted_by (sealer profile rules) (seal_floor floor) es)) (bursts_from-silent_end 4 0 more line)
      ∙ ap (λ es. laid (length (line ++ silent more)) es) all.emits
