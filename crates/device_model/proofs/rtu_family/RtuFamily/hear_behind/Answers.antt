use Rattle.std.proofs.Common.{◌≡◌, ◌∙◌, [], ◌∷◌, ◌++◌, map, take, sym, ap, subst, append_assoc}
use Rattle.yasir_ticks.specs.declared.tick.Tick.TheVariants.{Byte}
use Rattle.device_model.specs.RtuFamily.{RtuFamilyStandsFor}
use Rattle.device_model.proofs.RtuRuns.{bytes-unread, bytes-kept}
use Rattle.device_model.proofs.rtu_family.RtuFamily.hear_behind.Goals as goal

pub returns-clause-stands : goal.returns-clause-stands
returns-clause-stands c = λ cut gap line heard.
    let joined : (line ++ Byte c.in-Some.first.now ∷ []) ++ map (λ b. Byte b) c.in-Some.others.now
    ≡ line ++ map (λ b. Byte b) c.args.bytes.now =
    append_assoc line (Byte c.in-Some.first.now ∷ []) (map (λ b. Byte b) c.in-Some.others.now)
    ∙ ap (λ y. line ++ map (λ b. Byte b) y) (sym c.in-Some.ensures.cases.0) in
    subst (RtuFamilyStandsFor cut gap c.go_on_some.new.self) joined
    (bytes-kept cut gap c.hear_byte.new.self c.go_on_some.new.self
    (line ++ Byte c.in-Some.first.now ∷ []) c.in-Some.others.now
    (c.hear_byte.ensures.stands cut gap line heard)
    c.go_on_some.ensures.silence c.go_on_some.ensures.gap c.go_on_some.ensures.ticks
    c.hear_byte.ensures.quiet c.go_on_some.ensures.start c.go_on_some.ensures.broken
    c.go_on_some.ensures.bytes)

pub returns-clause-answer : goal.returns-clause-answer
returns-clause-answer c = λ cut gap n line heard.
    bytes-unread cut gap c.args.self.now line (take n c.args.bytes.now) heard
