use Rattle.{std.proofs.Common.inl, yasir_c.proofs.Holding.with-readiness}
use Rattle.yasir_c.proofs.withholding.WithholdingBox.take_alike.Goals as goal

pub returns : goal.returns
returns c = inl (record {
  before = c.args.self.now.line_box;
  after = c.take_alike.new.self;
  old_is = with-readiness _ _ c.in-Ready.is;
  new_is = with-readiness _ _ c.in-Ready.is;
  within = c.take_alike.ensures.within;
  takes = c.take_alike.ensures.takes;
})
