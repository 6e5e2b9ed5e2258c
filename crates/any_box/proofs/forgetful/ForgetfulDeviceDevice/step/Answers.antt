use Rattle.any_box.proofs.forgetful.ForgetfulDeviceDevice.step.Goals as goal

pub returns-clause-answer : goal.returns-clause-answer
returns-clause-answer g c = λ line stands. c.step.ensures.answer 18 line stands
