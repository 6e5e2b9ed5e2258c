-- Silence in the pause after the live bytes of the burst whose verdict is open.
use Rattle.check_receiver.proofs.RunTicks.{RunsTo, runs-none, runs-first}
use Rattle.frame_ending.specs.LiveBytes.{live_bytes, live_end}
use Rattle.line_rules.specs.{Rules.Rules, declared.line_rules.LineRules.Ghosts as LineRules}
use Rattle.{link_format.specs.Profile.Profile, link_box.proofs.Opened.IsOpen}
use Rattle.link_box.{proofs.Opened.silent-goes, specs.Verdicts.CheckState}
use Rattle.std.proofs.Common.{◌≡◌, ◌∙◌, ℕ, zero, suc, ◌+◌, ◌<◌, ◌≤◌, false, List, [], ◌∷◌}
use Rattle.std.proofs.Common.{◌++◌, length, length-append, take, drop, sym, ap, subst, arith}
use Rattle.std.proofs.{Common.append_assoc, Common.Some, lemmas.List.append-nil}
use Rattle.yasir_ticks.{proofs.SilenceLaws.bytes_in-append, specs.Bursts.Burst}
use Rattle.yasir_ticks.specs.Ticks.{silent, bytes_in}
use Rattle.yasir_ticks.specs.declared.tick.Tick.{Tick, TheVariants.Silent}

module _ {R : Type 0} (proto : LineRules R) (profile : Profile) (floor : ℕ) (s : CheckState)
    (d : Burst) (headed : proto.rules.header_len ≤ length (live_bytes proto.rules d))
  where
    abbrev rules : Rules
    rules = proto.rules

    pub pause-run : (n : ℕ) (line : List Tick) (left : List ℕ) (live : List Tick)
        → IsOpen proto profile floor s line false left live 0 d
        → length line + n ≤ live_end rules d + 3 → n < length live
        → RunsTo profile rules floor line (silent n) s false (left ++ bytes_in (take n live))
        (drop n live) 0 (Some d) (take n live)
    pause-run zero line left live it within few =
        let P : List ℕ → Type 0 = λ x. RunsTo profile rules floor line [] s false x
        live 0 (Some d) []
        in
        subst P (sym (append-nil left))
        (runs-none profile rules floor line s false left live 0 (Some d) it.walked)
    pause-run (suc n) line left [] it within few = absurd (omega arith)
    pause-run (suc n) line left (u ∷ live) it within few =
        let goes = silent-goes it (omega arith) (λ there. headed) in
        let next : List ℕ = left ++ bytes_in (u ∷ []) in
        let longer = length-append line (Silent ∷ []) in
        let rest = pause-run n (line ++ Silent ∷ []) next live
        (record { timely = it.timely; some = it.some; walked = goes.walked }) (omega arith)
        (omega arith) in
        let all : next ++ bytes_in (take n live) ≡ left ++ bytes_in (u ∷ take n live) =
        append_assoc left (bytes_in (u ∷ [])) (bytes_in (take n live))
        ∙ ap (λ l. left ++ l) (sym (bytes_in-append (u ∷ []) (take n live))) in
        let P : List ℕ → Type 0 = λ x. RunsTo profile rules floor line (silent (suc n)) s false x
        (drop n live) 0 (Some d) (u ∷ take n live) in
        subst P all
        (runs-first profile rules floor line Silent (silent n) s false next live 0 (Some d)
        (next ++ bytes_in (take n live)) (drop n live) 0 (Some d) u (take n live) goes rest)
