use Rattle.{link_format.specs.Setup.setup_of}
use Rattle.sequence_journal.proofs.LoadLemmas.{blank_holds_none}
use Rattle.sequence_journal.specs.{Journal.RefusesInit, Slots.greatest}
use Rattle.sequence_journal.specs.declared.journal.InitError.{InitError}
use Rattle.sequence_journal.specs.declared.journal.InitError.TheVariants.{Fault, Stands}
use Rattle.sequence_journal.specs.declared.link.LinkId.{LinkId}
use Rattle.std.proofs.Common.{◌≡◌, ◌∙◌, Option, Some, None, ap, arith, subst, sym}
use Rattle.yasir_io.specs.Disks.{Slots}
use Rattle.embed_boxes.proofs.carrying.through.Goals as goal

-- If no call fails and no slot holds a number, nothing keeps a journal from being made.
nothing-refuses : (link : LinkId) (slots : Slots) (told : Option Slots) (why : InitError)
    → greatest slots ≡ None → RefusesInit link (Some slots) told 0 0 why → ⊥
nothing-refuses link slots told Fault none refused = omega (arith, refused.0)
nothing-refuses link slots told (Stands floor) none refused =
    let both : None ≡ Some floor = sym none ∙ refused.0 in
    cc

pub returns-in-Ok-pass_line-clause-other : goal.returns-in-Ok-pass_line-clause-other
returns-in-Ok-pass_line-clause-other g c =
    c.in-Ok-pass_line.ensures.other (setup_of c.args.key.now c.args.dir 0)
    (rw c.in-Ok.ensures.floor (c.new-line_box.ensures.stands 0))

pub returns-in_default-clause-memory : goal.returns-in_default-clause-memory
returns-in_default-clause-memory g c = absurd (nothing-refuses _ _ _ c.in_default.field-0
    (ap greatest c.new-disk.ensures ∙ blank_holds_none) c.in_default.ensures.refused)
