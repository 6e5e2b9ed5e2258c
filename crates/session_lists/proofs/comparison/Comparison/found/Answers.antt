use Rattle.session_lists.proofs.Comparing.{none-found, found-there, place_of}
use Rattle.std.proofs.Common.{◌≡◌, ◌∙◌, IfSome, Some, ap, slice_get, subst, sym}
use Rattle.session_lists.proofs.comparison.Comparison.found.Goals as goal

pub returns-in-None : goal.returns-in-None
returns-in-None c = λ late expected reads place found at.
    sym (none-found late expected reads place (sym found.place ∙ ap place_of c.in-None.is) at)

pub returns-in-Some : goal.returns-in-Some
returns-in-Some c = λ late expected reads place found at.
    let there = subst (λ o. IfSome o (λ u. slice_get reads u.place ≡ Some u.frame)) c.in-Some.is
    found.frame in
    ap (λ f. Some f) c.copied.ensures
    ∙ sym (found-there late expected reads c.in-Some.unexpected place
    (sym found.place ∙ ap place_of c.in-Some.is) there at)
