-- Who reads some of what was sealed, in its order, reads no frame that wasn't sealed.
use Rattle.device_model.specs.Stated.{StatedDevice, IsStatedWithin, stated_rules, stated_reads}
use Rattle.link_format.specs.Profile.{Profile, delay}
use Rattle.receiver_laws.specs.Accounted.{IsSubsequence}
use Rattle.receiver_laws.specs.Accounted.IsSubsequence.{none, skip, keep}
use Rattle.std.proofs.Common.{◌≡◌, ◌∙◌, ◌≤◌, ◌<◌, ℕ, ◌+◌, List, [], ◌∷◌, refl, sym, ap, subst, arith}
use Rattle.std.proofs.Common.{Option, Some, None, Bool, true, false, bytes_eq, if◌then◌else◌}
use Rattle.std.proofs.lemmas.Slice.Eq.{bytes_eq-Decides}
use Rattle.yasir_ticks.specs.declared.tick.Tick.{Tick}
use Rattle.two_wire.specs.TwoWire.{EndSetup, EndWires, IsTwoWire, IsDeafBeside, ReadsOnlySealed}
use Rattle.two_wire.specs.Turns.{CoversTurns}
use Rattle.two_wire.specs.declared.gate.{Side.Side, Waits.Waits}
use Rattle.two_wire.specs.declared.gate.Side.TheVariants.{Asks, Answers}
use Rattle.two_wire.specs.declared.gate.Spoken.TheVariants.{Nobody}
use Rattle.poll_session.specs.Polled.{SessionsTell, waits_at_master, waits_at_devices}
use Rattle.poll_session.specs.TurnedEnds.{AreBeside}
use Rattle.poll_session.specs.Unsealed.{behind_frame, is_missing, still_unread, unsealed_reads}

without-first : (f : List ℕ) (reads sealed_ones : List (List ℕ))
    → IsSubsequence (f ∷ reads) sealed_ones → IsSubsequence reads sealed_ones
without-first f reads [] some = elim some [ ]
without-first f reads (g ∷ sealed_ones) (skip some) = skip (without-first f reads sealed_ones some)
without-first f reads (g ∷ sealed_ones) (keep some) = skip some

-- the first of the frames that were read is found, and the others among those behind it
pub record FirstIsFound (f : List ℕ) (reads sealed_ones : List (List ℕ)) : Type 0 where
  pub rest : List (List ℕ)
  pub found : behind_frame f sealed_ones ≡ Some rest
  pub others : IsSubsequence reads rest

first-found : (f : List ℕ) (reads sealed_ones : List (List ℕ))
    → IsSubsequence (f ∷ reads) sealed_ones → FirstIsFound f reads sealed_ones
first-found f reads [] some = elim some [ ]
first-found f reads (g ∷ sealed_ones) (keep some) = record {
  rest = sealed_ones;
  found = ap (λ b. if b then Some sealed_ones else behind_frame f sealed_ones) ((bytes_eq-Decides f f).1 refl);
  others = some;
}
first-found f reads (g ∷ sealed_ones) (skip some) =
    by-equal (first-found f reads sealed_ones some) (bytes_eq g f) refl
  where
    by-equal : FirstIsFound f reads sealed_ones → (same : Bool) → bytes_eq g f ≡ same
        → FirstIsFound f reads (g ∷ sealed_ones)
    by-equal rest true is = record {
      rest = sealed_ones;
      found = ap (λ b. if b then Some sealed_ones else behind_frame f sealed_ones) is;
      others = without-first f reads sealed_ones some;
    }
    by-equal rest false is = record {
      rest = rest.rest;
      found = ap (λ b. if b then Some sealed_ones else behind_frame f sealed_ones) is ∙ rest.found;
      others = rest.others;
    }

none-unsealed : (reads sealed_ones : List (List ℕ)) → IsSubsequence reads sealed_ones
    → unsealed_reads sealed_ones reads ≡ 0
none-unsealed [] sealed_ones some = refl
none-unsealed (f ∷ reads) sealed_ones some =
    let first = first-found f reads sealed_ones some in
    let next : unsealed_reads sealed_ones (f ∷ reads) ≡ 0 + unsealed_reads first.rest reads =
    ap (λ o. is_missing o + unsealed_reads (still_unread o sealed_ones) reads) first.found in
    let rest = none-unsealed reads first.rest first.others in
    omega (arith, next, rest)

-- the ends of a session, as two-wire boxes that are set up with profiles
abbrev pub poll_end : Side → Waits → Profile → Profile → EndSetup
poll_end side waits outgoing incoming = record {
  outgoing = outgoing;
  incoming = incoming;
  sent_floor = 0;
  got_floor = 0;
  late = 1;
  lag = 0;
  side = side;
  waits = waits;
}

deafly : (side : Side) (waits : Waits) (outgoing incoming : Profile) (w : EndWires)
    (others deaf : List Tick) → CoversTurns side waits 0 waits → AreBeside side waits w others deaf
    → IsDeafBeside (poll_end side waits outgoing incoming) w others deaf
deafly side waits outgoing incoming w others deaf covers beside =
    let a = beside.same_ticks in
    let b = beside.deaf_ticks in
    record {
      wires_are = beside.wires_are;
      while_they_talk = beside.while_they_talk;
      deafly = record {
        turns = record {
          kept = waits;
          covers = covers;
          before = Nobody 0;
          same_ticks = a;
          in_turn = beside.in_turn;
        };
        deaf_ticks = omega (arith, a, b);
        deaf_in_turn = beside.deaf_in_turn;
      };
    }

module _ (device : StatedDevice) (law : (end : EndSetup) → IsStatedWithin (delay end.incoming) device
    → (w : EndWires) (seal_floor : ℕ) (line : List Tick) → IsTwoWire (stated_rules device) end w
    → ReadsOnlySealed (stated_rules device) (stated_reads device) end w seal_floor line) where
  pub tells-polls : (requests answers : Profile) → IsStatedWithin (delay requests) device
      → IsStatedWithin (delay answers) device → SessionsTell device requests answers
  tells-polls requests answers near near_back drawing late seed count summary soon polled = record {
    requests_tell = λ none_forged. polled.requests_are.unsealed_is
        ∙ none-unsealed _ _ (((law
        (poll_end Asks (waits_at_devices late) answers requests) near polled.b 0 _
        polled.end_b.drives).deaf_too polled.devices polled.deaf_device
        (deafly Asks (waits_at_devices late) answers requests polled.b polled.devices
        polled.deaf_device (omega arith, omega arith, omega arith)
        polled.end_b.beside)).only_sealed none_forged);
    answers_tell = λ none_forged. polled.answers_are.unsealed_is
        ∙ none-unsealed _ _ (((law
        (poll_end Answers (waits_at_master late) requests answers) near_back polled.a 0 _
        polled.end_a.drives).deaf_too polled.master polled.deaf_master
        (deafly Answers (waits_at_master late) requests answers polled.a polled.master
        polled.deaf_master (omega arith, omega arith, omega arith)
        polled.end_a.beside)).only_sealed none_forged);
  }
