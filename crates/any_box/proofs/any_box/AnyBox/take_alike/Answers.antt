use Rattle.{any_box.proofs.Arms.takes-at, std.proofs.Common.refl}
use Rattle.any_box.proofs.any_box.AnyBox.take_alike.Goals as goal

pub returns-in-RtuSealer18-clause-run : goal.returns-in-RtuSealer18-clause-run
returns-in-RtuSealer18-clause-run c =
    let made = c.take_any.ensures in
    takes-at c.in-RtuSealer18.is refl made.link_of made.taken made.takes

pub returns-in-DnpSealer18-clause-run : goal.returns-in-DnpSealer18-clause-run
returns-in-DnpSealer18-clause-run c =
    let made = c.take_any-in-DnpSealer18.ensures in
    takes-at c.in-DnpSealer18.is refl made.link_of made.taken made.takes

pub returns-in-RtuSealer24-clause-run : goal.returns-in-RtuSealer24-clause-run
returns-in-RtuSealer24-clause-run c =
    let made = c.take_any-in-RtuSealer24.ensures in
    takes-at c.in-RtuSealer24.is refl made.link_of made.taken made.takes

pub returns-in-DnpSealer24-clause-run : goal.returns-in-DnpSealer24-clause-run
returns-in-DnpSealer24-clause-run c =
    let made = c.take_any-in-DnpSealer24.ensures in
    takes-at c.in-DnpSealer24.is refl made.link_of made.taken made.takes

pub returns-in-RtuChecker18-clause-run : goal.returns-in-RtuChecker18-clause-run
returns-in-RtuChecker18-clause-run c =
    let made = c.take_any-in-RtuChecker18.ensures in
    takes-at c.in-RtuChecker18.is refl made.link_of made.taken made.takes

pub returns-in-DnpChecker18-clause-run : goal.returns-in-DnpChecker18-clause-run
returns-in-DnpChecker18-clause-run c =
    let made = c.take_any-in-DnpChecker18.ensures in
    takes-at c.in-DnpChecker18.is refl made.link_of made.taken made.takes

pub returns-in-RtuChecker24-clause-run : goal.returns-in-RtuChecker24-clause-run
returns-in-RtuChecker24-clause-run c =
    let made = c.take_any-in-RtuChecker24.ensures in
    takes-at c.in-RtuChecker24.is refl made.link_of made.taken made.takes

pub returns-in-DnpChecker24-clause-run : goal.returns-in-DnpChecker24-clause-run
returns-in-DnpChecker24-clause-run c =
    let made = c.take_any-in-DnpChecker24.ensures in
    takes-at c.in-DnpChecker24.is refl made.link_of made.taken made.takes
