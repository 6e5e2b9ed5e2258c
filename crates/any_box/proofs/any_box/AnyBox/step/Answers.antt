use Rattle.{any_box.proofs.Arms.steps-at, std.proofs.Common.refl}
use Rattle.any_box.proofs.any_box.AnyBox.step.Goals as goal

pub returns-in-RtuSealer18-clause-steps : goal.returns-in-RtuSealer18-clause-steps
returns-in-RtuSealer18-clause-steps c =
    let made = c.step_any.ensures in
    steps-at c.in-RtuSealer18.is refl made.link_of made.taken made.steps

pub returns-in-DnpSealer18-clause-steps : goal.returns-in-DnpSealer18-clause-steps
returns-in-DnpSealer18-clause-steps c =
    let made = c.step_any-in-DnpSealer18.ensures in
    steps-at c.in-DnpSealer18.is refl made.link_of made.taken made.steps

pub returns-in-RtuSealer24-clause-steps : goal.returns-in-RtuSealer24-clause-steps
returns-in-RtuSealer24-clause-steps c =
    let made = c.step_any-in-RtuSealer24.ensures in
    steps-at c.in-RtuSealer24.is refl made.link_of made.taken made.steps

pub returns-in-DnpSealer24-clause-steps : goal.returns-in-DnpSealer24-clause-steps
returns-in-DnpSealer24-clause-steps c =
    let made = c.step_any-in-DnpSealer24.ensures in
    steps-at c.in-DnpSealer24.is refl made.link_of made.taken made.steps

pub returns-in-RtuChecker18-clause-steps : goal.returns-in-RtuChecker18-clause-steps
returns-in-RtuChecker18-clause-steps c =
    let made = c.step_any-in-RtuChecker18.ensures in
    steps-at c.in-RtuChecker18.is refl made.link_of made.taken made.steps

pub returns-in-DnpChecker18-clause-steps : goal.returns-in-DnpChecker18-clause-steps
returns-in-DnpChecker18-clause-steps c =
    let made = c.step_any-in-DnpChecker18.ensures in
    steps-at c.in-DnpChecker18.is refl made.link_of made.taken made.steps

pub returns-in-RtuChecker24-clause-steps : goal.returns-in-RtuChecker24-clause-steps
returns-in-RtuChecker24-clause-steps c =
    let made = c.step_any-in-RtuChecker24.ensures in
    steps-at c.in-RtuChecker24.is refl made.link_of made.taken made.steps

pub returns-in-DnpChecker24-clause-steps : goal.returns-in-DnpChecker24-clause-steps
returns-in-DnpChecker24-clause-steps c =
    let made = c.step_any-in-DnpChecker24.ensures in
    steps-at c.in-DnpChecker24.is refl made.link_of made.taken made.steps
