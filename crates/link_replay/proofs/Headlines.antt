-- The headline: what holds between the lines that are printed for two recordings, for both
-- protocols and profiles.
use Rattle.line_commands.specs.LinkBoxes.{seal_rest}
use Rattle.device_model.specs.{DnpReads.dnp_reads, Frames.FrameRead, RtuReads.rtu_reads}
use Rattle.dnp_link_frame.specs.{Rules.dnp_rules, RulesLaws.dnp_lawful, RulesLaws.dnp_framed}
use Rattle.{link_format.specs.declared.dir.Dir.Dir, line_rules.specs.Rules.Rules}
use Rattle.link_format.proofs.Profiles.{y18-tags, y24-tags}
use Rattle.link_format.specs.Profile.{Profile as LinkProfile, HasTags, delay}
use Rattle.link_format.specs.Setup.{setup_of}
use Rattle.link_replay.specs.ReplayCommand.{ReplaysWith, replay_listing, replay_profile}
use Rattle.link_box.specs.Checking.{passed, received_line}
use Rattle.command_ends.specs.Links.{rules_of}
use Rattle.command_ends.specs.declared.link.Profile.{Profile, TheVariants.Y18, TheVariants.Y24}
use Rattle.command_ends.specs.declared.link.Proto.{Proto, TheVariants.Rtu, TheVariants.Dnp3}
use Rattle.receiver_laws.proofs.{DnpReadings.dnp_reads_what_passed, Headline.reads-sealed}
use Rattle.receiver_laws.proofs.{RtuReadings.rtu_reads_what_passed, Settled.reads_with}
use Rattle.receiver_laws.specs.Headline.{ReadsWhatWasSealed}
use Rattle.session_audit.proofs.{Keying.keyed-so, Telling.tells-of, Telling.few-bursts}
use Rattle.session_audit.{proofs.Telling.few-before, specs.Keyed.ReadsKeyFirst}
use Rattle.session_audit.specs.{Listing.Listing, Recorded.PrintsRecorded, Recorded.device_line}
use Rattle.session_audit.specs.{Recorded.link_ticks, TellsOf.TellsOf, TellsOf.device_rest}
use Rattle.session_lists.specs.Recordings.{before_mark, behind_mark}
use Rattle.command_ends.specs.declared.status.Status.{Status, TheVariants.Done}
use Rattle.rtu_frame.specs.Rules.{rtu_rules, rtu_lawful, rtu_framed}
use Rattle.link_box.specs.Sealing.{sealed}
use Rattle.sequence_journal.specs.declared.numbers.TheConstants.{LIMIT}
use Rattle.std.proofs.Common.{◌≡◌, ℕ, ◌+◌, ◌≤◌, List, ◌++◌, Option, length, refl, arith}
use Rattle.tick_drive.specs.Input.{AreFew}
use Rattle.yasir_io.specs.declared.{sink.Sink.Ghosts as Sink, source.Source.Ghosts as Source}
use Rattle.yasir_ticks.specs.{Bursts.bursts, Ticks.Item, Ticks.silent, declared.tick.Tick.Tick}

rtu-law : (profile : LinkProfile) (line link : List Tick)
    → ReadsWhatWasSealed rtu_rules rtu_reads 4 profile 0 0 line link
rtu-law profile line link = reads-sealed rtu_rules rtu_lawful (reads_with 4 2) 4 profile
    (rtu_reads_what_passed profile 4 2 (omega arith) (omega arith) (omega arith)) 0 0 line link

dnp-law : (profile : LinkProfile) (line link : List Tick)
    → ReadsWhatWasSealed dnp_rules dnp_reads 0 profile 0 0 line link
dnp-law profile line link = reads-sealed dnp_rules dnp_lawful dnp_reads 0 profile
    (dnp_reads_what_passed profile) 0 0 line link

-- An input within the limits has no more bursts before the mark than there are numbers.
enough-numbers : (items : List Item) → AreFew items → length (bursts (before_mark items)) ≤ LIMIT
enough-numbers items few =
    omega (arith, few, few-before items, few-bursts (before_mark items))

-- what is listed of both recordings, for a profile, the rules of a protocol and what its device
-- reads
abbrev tells_listing : LinkProfile → Rules → (List Tick → List FrameRead) → List Item → Listing
tells_listing profile rules reads items = record {
  sealed = sealed profile rules 0 (before_mark items ++ silent (device_rest profile));
  passed = passed profile rules 0 (link_ticks items);
  reads = reads (received_line profile rules 0 (link_ticks items));
}

-- What holds between the lists of each protocol, for any profile whose delay is short enough.
module _ (profile : LinkProfile) (tags : HasTags profile) (some : 1 ≤ profile.word_len)
    (enough : delay profile + 4 ≤ 320) (limit : profile.limit ≡ LIMIT) (items : List Item)
    (few : AreFew items) where
  numbers : length (bursts (before_mark items)) ≤ profile.limit
  numbers = omega (arith, limit, enough-numbers items few)

  rtu-tells : TellsOf profile rtu_rules (before_mark items) (link_ticks items)
      (tells_listing profile rtu_rules rtu_reads items)
  rtu-tells = tells-of profile tags some rtu_rules rtu_lawful rtu_framed rtu_reads 4
      (rtu-law profile) (before_mark items) (behind_mark items) 320 enough numbers

  dnp-tells : TellsOf profile dnp_rules (before_mark items) (link_ticks items)
      (tells_listing profile dnp_rules dnp_reads items)
  dnp-tells = tells-of profile tags some dnp_rules dnp_lawful dnp_framed dnp_reads 0
      (dnp-law profile) (before_mark items) (behind_mark items) 320
      (omega (arith, enough)) numbers

tells : (proto : Proto) (profile : Profile) (dir : Dir) (key : List ℕ) (items : List Item)
    → AreFew items
    → TellsOf (replay_profile proto profile dir key) (rules_of proto) (before_mark items)
    (link_ticks items)
    (replay_listing proto profile dir key (device_line (seal_rest profile) items)
    (link_ticks items))
tells Rtu Y18 dir key items few = rtu-tells (replay_profile Rtu Y18 dir key)
    (y18-tags rtu_rules.label LIMIT (setup_of key dir 0)) (omega arith) (omega arith) refl items few
tells Dnp3 Y18 dir key items few = dnp-tells (replay_profile Dnp3 Y18 dir key)
    (y18-tags dnp_rules.label LIMIT (setup_of key dir 0)) (omega arith) (omega arith) refl items few
tells Rtu Y24 dir key items few = rtu-tells (replay_profile Rtu Y24 dir key)
    (y24-tags rtu_rules.label LIMIT (setup_of key dir 0)) (omega arith) (omega arith) refl items few
tells Dnp3 Y24 dir key items few = dnp-tells (replay_profile Dnp3 Y24 dir key)
    (y24-tags dnp_rules.label LIMIT (setup_of key dir 0)) (omega arith) (omega arith) refl items few

pub headline-so : (proto : Proto) (profile : Profile) (dir : Dir)
    (in_before in_now out_before out_now : Option (List ℕ)) (status : Status) (key : List ℕ)
    → PrintsRecorded (replay_listing proto profile dir key) (seal_rest profile) in_before in_now
    out_before out_now status
    → ReplaysWith proto profile dir in_before in_now out_before out_now key status
headline-so proto profile dir in_before in_now out_before out_now Done key h = record {
  items = h.items;
  recorded = h.recorded;
  printed = h.printed;
  tells = tells proto profile dir key h.items h.recorded.few;
}
headline-so proto profile dir in_before in_now out_before out_now status key h = h

-- The headline for a run that reads the key first.
module _ {K S O : Type 0} (k : Source K) (s : Source S) (o : Sink O) (proto : Proto)
    (profile : Profile) (dir : Dir) (key_before key_after : K) (in_before in_after : S)
    (out_before out_after : O) (Untouched : Type 0) where
  pub replays-so : (status : Status)
      → ReadsKeyFirst k key_before key_after
      (λ key. PrintsRecorded (replay_listing proto profile dir key) (seal_rest profile)
      (s.left in_before) (s.left in_after) (o.held out_before) (o.held out_after)) Untouched status
      → ReadsKeyFirst k key_before key_after
      (ReplaysWith proto profile dir (s.left in_before) (s.left in_after) (o.held out_before)
      (o.held out_after)) Untouched status
  replays-so status h = keyed-so k key_before key_after
      (λ key. PrintsRecorded (replay_listing proto profile dir key) (seal_rest profile)
      (s.left in_before) (s.left in_after) (o.held out_before) (o.held out_after))
      (ReplaysWith proto profile dir (s.left in_before) (s.left in_after) (o.held out_before)
      (o.held out_after)) Untouched status
      (headline-so proto profile dir (s.left in_before) (s.left in_after) (o.held out_before)
      (o.held out_after) status) h
