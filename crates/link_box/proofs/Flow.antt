-- One turn: what leaves in it, and what hasn't left after it.
use Rattle.line_rules.specs.{Rules.Rules, declared.line_rules.LineRules.Ghosts as LineRules}
use Rattle.link_box.proofs.Leavings.{leaves-none, leaves-silent, leaves-byte, fill_out-zero}
use Rattle.link_box.{proofs.Leavings.fill_out-suc, specs.Leaving.is_none, specs.Leaving.leaves}
use Rattle.link_box.specs.Turns.{HasTurned, tick_or_silence}
use Rattle.line_rules.specs.Outlet.{OutletStandsForTicks, OutletRefuses, owed_by, refused_by}
use Rattle.line_rules.specs.Outlet.{emitted, owed_after, filled, filled_bytes}
use Rattle.{line_rules.specs.declared.outlet.Outlet.Outlet, std.proofs.Common.◌≡◌}
use Rattle.std.proofs.Common.{◌∙◌, ℕ, zero, suc, ◌-◌, ◌<◌, Bool, true, false, List, [], ◌∷◌, ◌++◌}
use Rattle.std.proofs.Common.{length, take, drop, get_or, refl, sym, ap, arith, append_assoc, subst}
use Rattle.std.proofs.{Common.Option, Common.Some, lemmas.Bool.ne_eqb, lemmas.Bool.cond-false}
use Rattle.{std.proofs.lemmas.List.append-nil, yasir_ticks.specs.Ticks.bytes_in}
use Rattle.yasir_ticks.specs.declared.tick.Tick.{Tick, TheVariants.Silent, TheVariants.Byte}

module _ {R : Type 0} (proto : LineRules R) (passes : Bool) where
  -- Holds if a turn has returned `answer`: that is the first tick that was still to leave, and all
  -- ticks after it haven't left yet. While live ticks are still to leave, the outlet keeps what it
  -- knows of the burst.
  pub record Flows (left : List ℕ) (live : List Tick) (owed : ℕ) (old new : Outlet R)
      (answer : Tick) : Type 0 where
    pub after : List ℕ
    pub stands : OutletStandsForTicks proto new after
    pub answer_is : answer ≡ get_or (leaves proto.rules passes left live owed) 0 Silent
    pub rest : leaves proto.rules passes after (drop 1 live) (owed_by new)
        ≡ drop 1 (leaves proto.rules passes left live owed)
    pub bytes : 0 < length live → after ++ bytes_in (drop 1 live) ≡ left ++ bytes_in live
    pub after_is : owed ≡ 0 → after ≡ left ++ bytes_in (take 1 live)
    pub unowed : 1 < length live → owed_by new ≡ 0
    pub keeps : 0 < length live → refused_by new ≡ refused_by old

  -- nothing is to leave but a fill
  flows-fill : (left : List ℕ) (old new : Outlet R) (owed : ℕ) (answer : Tick)
      → owed_by old ≡ owed
      → (answer ≡ tick_or_silence (filled proto.rules left owed))
      × OutletStandsForTicks proto new (left ++ filled_bytes (filled proto.rules left owed))
      × (owed_by new ≡ owed - 1)
      → Flows left [] owed old new answer
  flows-fill left old new zero answer is turned =
      let none = leaves-none proto.rules passes left 0 ∙ fill_out-zero proto.rules left in
      record {
        after = left;
        stands = subst (λ x. OutletStandsForTicks proto new x) (append-nil left) turned.1;
        answer_is = turned.0 ∙ sym (ap (λ l. get_or l 0 Silent) none);
        rest = ap (λ k. leaves proto.rules passes left [] k) turned.2
            ∙ (none ∙ sym (ap (λ l. drop 1 l) none));
        bytes = λ some. absurd (omega arith);
        after_is = λ unowed. sym (append-nil left);
        unowed = λ some. absurd (omega arith);
        keeps = λ some. absurd (omega arith);
      }
  flows-fill left old new (suc zero) answer is turned =
      let some = leaves-none proto.rules passes left 1 ∙ fill_out-suc proto.rules left 0 in
      record {
        after = left ++ 0 ∷ [];
        stands = turned.1;
        answer_is = turned.0 ∙ sym (ap (λ l. get_or l 0 Silent) some);
        rest = ap (λ k. leaves proto.rules passes (left ++ 0 ∷ []) [] k) turned.2
            ∙ (leaves-none proto.rules passes (left ++ 0 ∷ []) 0 ∙ sym (ap (λ l. drop 1 l) some));
        bytes = λ some. absurd (omega arith);
        after_is = λ unowed. absurd (omega arith);
        unowed = λ some. absurd (omega arith);
        keeps = λ some. absurd (omega arith);
      }
  flows-fill left old new (suc (suc k)) answer is turned =
      let filling : filled proto.rules left (suc (suc k)) ≡ Some 0 =
      cond-false _ _ _ (ne_eqb (suc (suc k)) 0 (λ e. omega arith))
      ∙ cond-false _ _ _ (ne_eqb (suc (suc k)) 1 (λ e. omega arith)) in
      let P : Option ℕ → Type 0 = λ o. (answer ≡ tick_or_silence o)
      × OutletStandsForTicks proto new (left ++ filled_bytes o)
      × (owed_by new ≡ suc (suc k) - 1) in
      let out : P (Some 0) = subst P filling turned in
      let less : suc (suc k) - 1 ≡ suc k = omega arith in
      let some = leaves-none proto.rules passes left (suc (suc k))
      ∙ fill_out-suc proto.rules left (suc k) in
      record {
        after = left ++ 0 ∷ [];
        stands = out.1;
        answer_is = out.0 ∙ sym (ap (λ l. get_or l 0 Silent) some);
        rest = ap (λ k. leaves proto.rules passes (left ++ 0 ∷ []) [] k) (out.2 ∙ less)
            ∙ (leaves-none proto.rules passes (left ++ 0 ∷ []) (suc k)
            ∙ sym (ap (λ l. drop 1 l) some));
        bytes = λ some. absurd (omega arith);
        after_is = λ unowed. absurd (omega arith);
        unowed = λ some. absurd (omega arith);
        keeps = λ some. absurd (omega arith);
      }

  -- One turn of the outlet.
  pub flows : (left : List ℕ) (live : List Tick) (old new : Outlet R) (last : Bool) (answer : Tick)
      → (0 < length live → owed_by old ≡ 0)
      → (0 < length live → last ≡ is_none (drop 1 live))
      → (0 < length live → last ≡ true → passes ≡ false
      → OutletRefuses proto old (left ++ bytes_in live))
      → HasTurned proto old new last passes left answer (get_or live 0 Silent)
      → Flows left live (owed_by old) old new answer
  flows left [] old new last answer unowed is knows turned =
      flows-fill left old new (owed_by old) answer refl (turned.0, turned.1, turned.2)
  flows left (Silent ∷ live) old new last answer unowed is knows turned =
      let none : owed_by old ≡ 0 = unowed (omega arith) in
      let P : ℕ → Type 0 = λ k. (answer ≡ tick_or_silence (filled proto.rules left k))
      × OutletStandsForTicks proto new (left ++ filled_bytes (filled proto.rules left k))
      × (owed_by new ≡ k - 1) in
      let quiet : P 0 = subst P none (turned.0, turned.1, turned.2) in
      let first = leaves-silent proto.rules passes left live (owed_by old) in
      record {
        after = left;
        stands = subst (λ x. OutletStandsForTicks proto new x) (append-nil left) quiet.1;
        answer_is = quiet.0 ∙ sym (ap (λ l. get_or l 0 Silent) first);
        rest = ap (λ k. leaves proto.rules passes left live k) (quiet.2 ∙ sym none)
            ∙ sym (ap (λ l. drop 1 l) first);
        bytes = λ some. refl;
        after_is = λ some. sym (append-nil left);
        unowed = λ some. quiet.2;
        keeps = λ some. turned.3 none;
      }
  flows left (Byte b ∷ live) old new last answer unowed is knows turned =
      let rules : Rules = proto.rules in
      let lasts : last ≡ is_none live = is (omega arith) in
      let all : is_none live ≡ true → left ++ b ∷ bytes_in live ≡ left ++ b ∷ [] =
      λ none. ap (λ l. left ++ b ∷ bytes_in l) (none-left live none) in
      let whole : last ≡ true → passes ≡ false → OutletRefuses proto old (left ++ b ∷ []) =
      λ at_last refused. subst (λ y. OutletRefuses proto old y) (all (sym lasts ∙ at_last))
      (knows (omega arith) at_last refused) in
      let turn = turned whole in
      let P : Bool → Type 0 = λ l. (answer ≡ Byte (emitted rules left b l passes))
      × OutletStandsForTicks proto new (left ++ b ∷ [])
      × (owed_by new ≡ owed_after rules left b l passes) in
      let out : P (is_none live) = subst P lasts (turn.0, turn.1, turn.2) in
      let first = leaves-byte rules passes left b live (owed_by old) in
      record {
        after = left ++ b ∷ [];
        stands = out.1;
        answer_is = out.0 ∙ sym (ap (λ l. get_or l 0 Silent) first);
        rest = ap (λ k. leaves rules passes (left ++ b ∷ []) live k) out.2
            ∙ sym (ap (λ l. drop 1 l) first);
        bytes = λ some. append_assoc left (b ∷ []) (bytes_in live);
        after_is = λ some. refl;
        unowed = λ some. out.2 ∙ unowed-some live some;
        keeps = λ some. turn.3;
      }
    where
      none-left : (live : List Tick) → is_none live ≡ true → live ≡ []
      none-left [] none = refl
      none-left (t ∷ live) none = absurd cc

      unowed-some : (live : List Tick) → 1 < length (Byte b ∷ live)
          → owed_after proto.rules left b (is_none live) passes ≡ 0
      unowed-some [] some = absurd (omega arith)
      unowed-some (t ∷ live) some = refl
