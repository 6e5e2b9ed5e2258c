use Rattle.any_box.proofs.SpacerArms.{steps-at}
use Rattle.std.proofs.Common.{refl}
use Rattle.any_box.proofs.any_box.AnySpacer.step.Goals as goal

pub returns-in-RtuSpacer18-clause-steps : goal.returns-in-RtuSpacer18-clause-steps
returns-in-RtuSpacer18-clause-steps c = steps-at _ _ _ _ _ _ c.in-RtuSpacer18.is (record {
  kind_is = refl;
  adds = λ room line stands. record {
    stands = c.step.ensures.stands room line stands;
    bytes = _;
    answers = c.step.ensures.answer room line stands;
  };
})

pub returns-in-RtuSpacer24-clause-steps : goal.returns-in-RtuSpacer24-clause-steps
returns-in-RtuSpacer24-clause-steps c = steps-at _ _ _ _ _ _ c.in-RtuSpacer24.is (record {
  kind_is = refl;
  adds = λ room line stands. record {
    stands = c.step-in-RtuSpacer24.ensures.stands room line stands;
    bytes = _;
    answers = c.step-in-RtuSpacer24.ensures.answer room line stands;
  };
})

pub returns-in-DnpSpacer18-clause-steps : goal.returns-in-DnpSpacer18-clause-steps
returns-in-DnpSpacer18-clause-steps c = steps-at _ _ _ _ _ _ c.in-DnpSpacer18.is (record {
  kind_is = refl;
  adds = λ room line stands. record {
    stands = c.step-in-DnpSpacer18.ensures.stands room line stands;
    bytes = _;
    answers = c.step-in-DnpSpacer18.ensures.answer room line stands;
  };
})

pub returns-in-DnpSpacer24-clause-steps : goal.returns-in-DnpSpacer24-clause-steps
returns-in-DnpSpacer24-clause-steps c = steps-at _ _ _ _ _ _ c.in-DnpSpacer24.is (record {
  kind_is = refl;
  adds = λ room line stands. record {
    stands = c.step-in-DnpSpacer24.ensures.stands room line stands;
    bytes = _;
    answers = c.step-in-DnpSpacer24.ensures.answer room line stands;
  };
})
