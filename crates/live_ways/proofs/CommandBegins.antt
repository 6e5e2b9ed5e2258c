-- A live line of two ways of which nothing was read, from what each way has.
use Rattle.link_format.specs.Setup.{Setup}
use Rattle.live_line.specs.WayLines.{MayTake, IsAhead, StandsOver, HasTakenOn, disk_in, most_in}
use Rattle.live_line.specs.WayLines.{way_in}
use Rattle.live_line.specs.declared.way_box.WayBox.{Ghosts as WayBox}
use Rattle.live_line.specs.declared.way_lines.WayLines.{WayLines}
use Rattle.live_line.specs.declared.ways.Way.{Way}
use Rattle.live_line.specs.declared.ways.Way.TheVariants.{Outgoing, Incoming}
use Rattle.live_ways.specs.Driving.{HasReadNothing}
use Rattle.live_ways.specs.LineBegins.{BeginsBoth}
use Rattle.live_ways.specs.LiveLine.{box_on, lines_on}
use Rattle.live_ways.specs.WayLoads.{journal_on}
use Rattle.live_ways.specs.declared.both_ways.LiveLine.{LiveLine}
use Rattle.live_ways.specs.declared.loads.BothJournals.{BothJournals}
use Rattle.sequence_journal.specs.Journal.{Fits}
use Rattle.sequence_journal.specs.declared.journal.Journal.{Journal}
use Rattle.std.proofs.Common.{◌≡◌, ℕ, [], Option, sym, subst}
use Rattle.yasir_io.specs.Disks.{Slots}

-- A way that has taken no tick, over this journal.
pub record BeginsWay {X : Type 0} (x : WayBox X) (lines : WayLines X) (journal : Journal) (ahead : ℕ)
    (setup : Setup) : Type 0 where
  pub journal_is : disk_in lines ≡ journal
  pub most : most_in lines ≡ ahead
  pub may : MayTake x lines
  pub ahead_by : IsAhead lines
  pub stands : (told : Option Slots) → Fits journal told → StandsOver lines told
  pub none : x.taken (way_in lines) ≡ 0
  pub taken : HasTakenOn x lines setup [] []

pub begins_both : {X Y : Type 0} (x : WayBox X) (y : WayBox Y) (line : LiveLine X Y)
    (journals : BothJournals) (ahead : Way → ℕ) (setup : Way → Setup) (outgoing : WayLines X)
    (incoming : WayLines Y) → lines_on line Outgoing ≡ outgoing → lines_on line Incoming ≡ incoming
    → HasReadNothing line
    → BeginsWay x outgoing (journal_on journals Outgoing) (ahead Outgoing) (setup Outgoing)
    → BeginsWay y incoming (journal_on journals Incoming) (ahead Incoming) (setup Incoming)
    → BeginsBoth x y line journals ahead setup
begins_both x y line journals ahead setup outgoing incoming is_out is_in nothing sent got = record {
  nothing = nothing;
  journal = λ way. (each way).journal_is;
  most = λ way. (each way).most;
  may = λ way. (each way).may;
  ahead_by = λ way. (each way).ahead_by;
  stands = λ way. (each way).stands;
  none = λ way. (each way).none;
  taken = λ way. (each way).taken;
}
  where
    each : (way : Way) → BeginsWay (box_on x y way) (lines_on line way) (journal_on journals way)
        (ahead way) (setup way)
    each Outgoing = subst (λ lines. BeginsWay x lines (journal_on journals Outgoing)
        (ahead Outgoing) (setup Outgoing)) (sym is_out) sent
    each Incoming = subst (λ lines. BeginsWay y lines (journal_on journals Incoming)
        (ahead Incoming) (setup Incoming)) (sym is_in) got
