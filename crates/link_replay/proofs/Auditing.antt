-- The session that the words of an audit ask for, its verdict, and what is left if the input didn't
-- end well.
use Rattle.command_ends.specs.Links.{rules_of, link_profile_of, device_reads, gap_of}
use Rattle.command_ends.specs.declared.link.Profile.{Profile, TheVariants.Y18, TheVariants.Y24}
use Rattle.command_ends.specs.declared.link.Proto.{Proto}
use Rattle.link_replay.specs.AuditCommand.{AuditsItems, PrintsFinding, finding_status, verdict_in}
use Rattle.link_replay.specs.AuditCommand.{audited_verdict, verdict_text}
use Rattle.link_replay.specs.declared.words.Audited.{Audited}
use Rattle.session_audit.specs.Recorded.{IsRecordedWith}
use Rattle.command_ends.specs.{Causes.InputCause, Causes.SinkCause, Endings.status_of}
use Rattle.command_ends.specs.{Flushes.FlushesAtEnd, PrintsText.PrintsText}
use Rattle.command_ends.specs.declared.status.Status.{Status}
use Rattle.command_ends.specs.declared.status.Status.TheVariants as statuses
use Rattle.command_ends.specs.declared.status.Status.TheVariants.{Done, NoMemory, WriteFault}
use Rattle.command_ends.specs.declared.status.Unclean.{Unclean}
use Rattle.sequence_journal.specs.declared.numbers.TheConstants.{LIMIT}
use Rattle.session_audit.specs.{AuditedInput.FindsNoVerdict, Sessions.LinkKind}
use Rattle.session_audit.specs.Sessions.{verdict_with}
use Rattle.session_audit.specs.declared.{session.Session.Session, verdict.Verdict.Verdict}
use Rattle.session_audit.specs.declared.verdict.Finding.{Finding}
use Rattle.session_audit.specs.declared.verdict.Finding.TheVariants.{Clean}
use Rattle.std.proofs.Common.{◌≡◌, ◌⊎◌, ◌∙◌, ℕ, List, Option, inl, inr, refl}
use Rattle.std.proofs.Common.{subst, sym, ap}
use Rattle.std.proofs.Common.{arith}
use Rattle.std.specs.Io.KnownBytes.{append_known}
use Rattle.tick_drive.specs.declared.{consumer.Stop.Stop, end.End.End, end.End.TheVariants.Whole}
use Rattle.tick_drive.specs.declared.end.End.TheVariants.{Stopped}
use Rattle.yasir_io.specs.declared.sink.Sink.{Ghosts as Sink}
use Rattle.yasir_ticks.specs.Ticks.{Item}
use Rattle.yasir_ticks.specs.declared.tick.Tick.{Tick}

-- ---- the session

-- the words that ask for the audit of a session of this protocol and this profile
abbrev asked_by : Proto → Profile → Session → Audited
asked_by proto profile session = record {
  proto = proto;
  profile = profile;
  dir = session.dir;
  sent_floor = session.sent_floor;
  got_floor = session.got_floor;
  tolerance = session.tolerance;
}

-- what belongs to a protocol and a profile
abbrev kind_by : Proto → Profile → LinkKind
kind_by proto profile = record {
  profile = link_profile_of profile (rules_of proto).label LIMIT;
  rules = rules_of proto;
  reads = device_reads proto;
  gap = gap_of profile;
}

pub verdict-is : (proto : Proto) (profile : Profile) (session : Session)
    (device link received : List Tick)
    → verdict_with (kind_by proto profile) session device link received
    ≡ audited_verdict (asked_by proto profile session) session.key.now device link received
verdict-is proto Y18 session device link received = refl
verdict-is proto Y24 session device link received = refl

-- ---- the status of what was found

-- The status of what was found is `Done` or `Unclean`.
finding-known : (finding : Finding)
    → (finding_status finding ≡ Done) ⊎ ((verdict : Unclean)
    × (finding_status finding ≡ statuses.Unclean verdict))
finding-known Clean = inl refl
finding-known finding = inr (_, refl)

-- After an output that is written and flushed, the status may be that of any finding.
module _ (finding : Finding) where
  of-finding : (P : Status → Type 0) → P Done → ((verdict : Unclean) → P (statuses.Unclean verdict))
      → P (finding_status finding)
  of-finding P done unclean = elim (finding-known finding) [
    | inl is ↦ subst P (sym is) done
    | inr is ↦ subst P (sym is.1) (unclean is.0)
  ]

  pub finding-sinks : (out0 out1 log0 log1 : ℕ) → SinkCause out0 out1 log0 log1 Done
      → SinkCause out0 out1 log0 log1 (finding_status finding)
  finding-sinks out0 out1 log0 log1 sinks =
      of-finding (SinkCause out0 out1 log0 log1) sinks (λ verdict. sinks)

  pub finding-flushes : {O L : Type 0} (o : Sink O) (l : Sink L) (out0 out1 : O) (log0 log1 : L)
      → FlushesAtEnd o l out0 out1 log0 log1 Done
      → FlushesAtEnd o l out0 out1 log0 log1 (finding_status finding)
  finding-flushes o l out0 out1 log0 log1 flushes =
      of-finding (FlushesAtEnd o l out0 out1 log0 log1) flushes (λ verdict. flushes)

module _ (text : List ℕ) (before now : Option (List ℕ)) (finding : Finding) where
  pub finding-printed : now ≡ append_known before text
      → PrintsFinding text before now finding (finding_status finding)
  finding-printed is =
      let P : Status → Type 0 = λ status. status ≡ finding_status finding
      → PrintsFinding text before now finding status in
      of-finding finding P (λ same. (same, is)) (λ verdict same. (same, is)) refl

  -- If the status isn't `Done`, a write or a flush has failed.
  pub front-printed : (status : Status) → (status ≡ Done) ⊎ (status ≡ WriteFault)
      → (status ≡ Done → ⊥) → PrintsText text before now status
      → PrintsFinding text before now finding status
  front-printed status (inl done) other is = absurd (other done)
  front-printed status (inr fault) other is =
      subst (PrintsFinding text before now finding) (sym fault)
      (subst (PrintsText text before now) fault is)

  -- The input isn't a cause of the status of a verdict that was printed.
  pub input-of-verdict : (in_before in_now : ℕ) (status : Status)
      → PrintsFinding text before now finding status → in_now ≡ in_before
      → InputCause in_before in_now status
  input-of-verdict in_before in_now statuses.ReadFault is same = elim (finding-known finding) [
    | inl done ↦ let never = is.0 ∙ done in cc
    | inr unclean ↦ let never = is.0 ∙ unclean.1 in cc
  ]
  input-of-verdict in_before in_now WriteFault is same = omega (arith, same)
  input-of-verdict in_before in_now statuses.JournalFault is same = omega (arith, same)
  input-of-verdict in_before in_now status is same = same

-- If the input was three recordings, and the text of the verdict on them was printed or broken off,
-- the status says so.
module _ (asked : Audited) (key : List ℕ) (in_before in_now out_before out_now : Option (List ℕ))
    (items : List Item) (recorded : IsRecordedWith 2 in_before in_now items) where
  pub audits-so : (status : Status)
      → PrintsFinding (verdict_text (verdict_in asked key items)) out_before out_now
      (verdict_in asked key items).finding status
      → AuditsItems asked key in_before in_now out_before out_now status
  audits-so Done is =
      record { items = items; recorded = recorded; printed = is.1; status_is = is.0 }
  audits-so (statuses.Unclean verdict) is =
      record { items = items; recorded = recorded; printed = is.1; status_is = is.0 }
  audits-so WriteFault got = record { items = items; recorded = recorded; printed = got }
  audits-so status is = elim (finding-known (verdict_in asked key items).finding) [
    | inl done ↦ let never = is.0 ∙ done in cc
    | inr unclean ↦ let never = is.0 ∙ unclean.1 in cc
  ]

-- ---- an input that didn't end well

module _ (verdict_on_three : List Tick → List Tick → List Tick → Verdict) (asked : Audited)
    (key : List ℕ) (in_before in_now out_before out_now : Option (List ℕ))
    (same : out_now ≡ out_before) where
  -- If the consumer stopped and nothing was printed, the status NoMemory says so.
  pub stopped-nothing : (end : End) (stop : Stop) → end ≡ Stopped stop
      → FindsNoVerdict verdict_on_three in_before in_now end
      → AuditsItems asked key in_before in_now out_before out_now NoMemory
  stopped-nothing (Stopped stop) other is none =
      record { items = none.items; takes = none.takes; out = same }
  stopped-nothing end other is none = cc

  -- If the input didn't end well, the consumer didn't stop and nothing was printed, the status of
  -- that end says so.
  pub nothing-printed : (end : End) → ((stop : Stop) → end ≡ Stopped stop → ⊥)
      → FindsNoVerdict verdict_on_three in_before in_now end
      → AuditsItems asked key in_before in_now out_before out_now (status_of end)
  nothing-printed Whole other none = absurd (none.other refl)
  nothing-printed (Stopped stop) other none = absurd (other stop refl)
  nothing-printed end other none =
      record { items = none.items; takes = none.takes; out = same }
